use Rattle.std.proofs.Common.{◌≡◌, ◌∙◌, ◌<◌, ◌∷◌, [], ◌++◌, cond, map, ap, sym}
use Rattle.std.specs.Str.{encode_utf8_all}
use Rattle.lsl_value.specs.Atoms.{list_charge_of}
use Rattle.lsl_value.specs.declared.list.Atom.TheVariants.{Str}
use Rattle.lsl_pure.specs.Parsing.{mark_elements}
use Rattle.lsl_pure.specs.Spelling.{IsOverfull, spelled_mark, spelled_string}
use Rattle.lsl_pure.proofs.ChargeLemmas.{IfErr-weaker, overfull_push}
use Rattle.lsl_pure.proofs.parsing.push_mark.Goals as goal

pub returns-clause-too_big : goal.returns-clause-too_big
returns-clause-too_big c =
    let same : spelled_string (Str c.in_ok-text.text) ∷ [] ≡ mark_elements (spelled_mark c.args.mark.now) =
    ap (λ t. Str (encode_utf8_all t) ∷ []) c.in_ok-text.ensures
    ∙ sym (ap (λ b. cond b (Str (encode_utf8_all c.args.mark.now.text) ∷ []) []) c.if-not-mark.false) in
    IfErr-weaker c.push_bounded.result (65536 < list_charge_of (c.args.items.now ++ Str c.in_ok-text.text ∷ []))
    (IsOverfull (map spelled_string c.args.items.now ++ mark_elements (spelled_mark c.args.mark.now)))
    (overfull_push c.args.items.now (Str c.in_ok-text.text) (mark_elements (spelled_mark c.args.mark.now)) same)
    c.push_bounded.ensures.too_big
