use Rattle.std.proofs.Common.{◌∙◌, sym, take, List, ℕ, refl, subst}
use Rattle.std.specs.Prelude.{MatchOption}
use Rattle.std.specs.Str.{chars}
use Rattle.std.proofs.lemmas.Str.{encodes-chars, scalars-chars}
use Rattle.lsl_value.specs.Text.{IsNoText, IsTextOf}
use Rattle.lsl_notes.proofs.CutBytes.{cut_is, cut_text, cut_found}
use Rattle.lsl_notes.proofs.cutting.cut_to.Goals as goal

abbrev kept : ℕ → List ℕ → List ℕ
kept n bytes = take n bytes

pub unreachable-requires : goal.unreachable-requires
unreachable-requires c =
    let text = c.args.text.now in
    let spelled = sym (encodes-chars text c.utf8.text) in
    let e = cut_is c.args.room (chars text) text c.as_bytes.result.now _ c.cut_length-length.result
    spelled (scalars-chars text c.utf8.text) (c.as_bytes.ensures.value ∙ spelled) c.cut_length-length.ensures.cut refl
    in
    cut_text c.args.room (chars text) _ c.requires (scalars-chars text c.utf8.text) e
    (subst (λ o. MatchOption o (IsNoText (kept c.cut_length-length.result c.as_bytes.result.now))
    (IsTextOf (kept c.cut_length-length.result c.as_bytes.result.now))) c.in-None.is c.in_ok-cut.ensures.ok)

pub returns : goal.returns
returns c =
    let text = c.args.text.now in
    let spelled = sym (encodes-chars text c.utf8.text) in
    let e = cut_is c.args.room (chars text) text c.as_bytes.result.now _ c.cut_length-length.result
    spelled (scalars-chars text c.utf8.text) (c.as_bytes.ensures.value ∙ spelled) c.cut_length-length.ensures.cut refl
    in
    cut_found c.args.room (chars text) _ c.in-Some.cut (scalars-chars text c.utf8.text) e
    (subst (λ o. MatchOption o (IsNoText (kept c.cut_length-length.result c.as_bytes.result.now))
    (IsTextOf (kept c.cut_length-length.result c.as_bytes.result.now))) c.in-Some.is c.in_ok-cut.ensures.ok)
