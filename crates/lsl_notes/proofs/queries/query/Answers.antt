use Rattle.std.proofs.Common.{◌≡◌, ◌∙◌, ap, subst, List, ℕ, IfOk}
use Rattle.std.specs.Str.{chars}
use Rattle.uuid.specs.Text.{hyphenated_text, lower}
use Rattle.lsl_notes.specs.Queries.{query_bytes}
use Rattle.lsl_notes.proofs.Keys.{key-characters}
use Rattle.lsl_notes.proofs.queries.query.Goals as goal

pub returns : goal.returns
returns c =
    let same = ap chars (c.in_ok-from_str.ensures.ok ∙ c.encode_lower-key.ensures.text
    ∙ ap (hyphenated_text lower) (c.hyphenated.ensures ∙ c.from_bytes-id.ensures ∙ c.query_bytes.ensures))
    ∙ key-characters (query_bytes c.args.script c.args.card c.args.line) in
    subst (λ (text : List ℕ). IfOk c.from_string.result (λ made. made ≡ text)) same c.from_string.ensures
