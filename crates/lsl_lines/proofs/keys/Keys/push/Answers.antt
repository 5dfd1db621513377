use Rattle.std.proofs.Common.{◌≡◌, List, ℕ, ◌++◌, ◌∷◌, [], false, map, ap, ◌∙◌}
use Rattle.std.proofs.lemmas.Result.{IfOk-at_ok}
use Rattle.std.specs.List.{list_any}
use Rattle.std.specs.Str.{bytes_eq, encode_utf8_all}
use Rattle.std.specs.String.{string_bytes}
use Rattle.lsl_lines.proofs.KeyTable.{key_added}
use Rattle.lsl_lines.proofs.keys.Keys.push.Goals as goal

pub returns : goal.returns
returns c =
    let key = encode_utf8_all c.args.key.now in
    let made : string_bytes c.in_ok-from_str.field-0 ≡ key =
    IfOk-at_ok (λ s. string_bytes s ≡ c.as_str.result.now) c.in_ok-from_str.was c.from_str.ensures.ok
    ∙ c.as_str.ensures.value in
    let absent : list_any (bytes_eq key) (map string_bytes c.self.inside.table.keys) ≡ false =
    ap (λ (l : List (List ℕ)). list_any (bytes_eq key) l) c.self.view_is ∙ c.requires in
    ap (map string_bytes) c.in_ok-insert.ensures.keys
    ∙ key_added string_bytes c.self.inside.table.keys c.in_ok-from_str.field-0 key made absent
    ∙ ap (λ (l : List (List ℕ)). l ++ key ∷ []) c.self.view_is
