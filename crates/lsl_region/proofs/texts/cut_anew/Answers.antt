use Rattle.std.proofs.Common.{take, List, ℕ, refl, subst}
use Rattle.std.specs.Prelude.{MatchOption}
use Rattle.lsl_value.specs.Text.{IsNoText, IsTextOf}
use Rattle.lsl_region.proofs.CutBytes.{cut_is, cut_text, cut_found}
use Rattle.lsl_region.proofs.texts.cut_anew.Goals as goal

abbrev kept : ℕ → List ℕ → List ℕ
kept n bytes = take n bytes

pub unreachable-requires : goal.unreachable-requires
unreachable-requires c =
    let e = cut_is c.args.room c.args.text.now c.as_str.result.now c.bytes.result.now _ c.cut_length-length.result
    c.as_str.ensures.value c.as_str.ensures.valid.scalars c.bytes.ensures.value c.cut_length-length.ensures.cut refl
    in
    cut_text c.args.room c.args.text.now _ c.requires c.as_str.ensures.valid.scalars e
    (subst (λ o. MatchOption o (IsNoText (kept c.cut_length-length.result c.bytes.result.now))
    (IsTextOf (kept c.cut_length-length.result c.bytes.result.now))) c.in-None.is c.in_ok-cut.ensures.ok)

pub returns : goal.returns
returns c =
    let e = cut_is c.args.room c.args.text.now c.as_str.result.now c.bytes.result.now _ c.cut_length-length.result
    c.as_str.ensures.value c.as_str.ensures.valid.scalars c.bytes.ensures.value c.cut_length-length.ensures.cut refl
    in
    cut_found c.args.room c.args.text.now _ c.in-Some.cut c.as_str.ensures.valid.scalars e
    (subst (λ o. MatchOption o (IsNoText (kept c.cut_length-length.result c.bytes.result.now))
    (IsTextOf (kept c.cut_length-length.result c.bytes.result.now))) c.in-Some.is c.in_ok-cut.ensures.ok)
