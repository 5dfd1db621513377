use Rattle.std.proofs.Common.{List, ℕ, map, ap, ◌∙◌}
use Rattle.std.specs.List.{list_any}
use Rattle.std.specs.Str.{bytes_eq, encode_utf8_all}
use Rattle.std.specs.String.{string_bytes}
use Rattle.lsl_lines.proofs.KeyTable.{list_any-map}
use Rattle.lsl_lines.proofs.keys.Keys.has.Goals as goal

pub returns : goal.returns
returns c =
    c.contains.ensures
    ∙ list_any-map string_bytes (bytes_eq c.as_str.result.now) c.self.inside.table.keys
    ∙ ap (λ (b : List ℕ). list_any (bytes_eq b) (map string_bytes c.self.inside.table.keys)) c.as_str.ensures.value
    ∙ ap (λ (l : List (List ℕ)). list_any (bytes_eq (encode_utf8_all c.args.key.now)) l) c.self.view_is
