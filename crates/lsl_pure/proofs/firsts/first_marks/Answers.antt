use Rattle.std.proofs.Common.{◌≡◌, ◌∙◌, ◌<◌, ◌++◌, ◌∷◌, [], true, List, Option, ℕ, length, map, take, drop, ap, sym, subst, refl, arith}
use Rattle.std.specs.Option.{is_some, option_copied}
use Rattle.std.proofs.lemmas.List.{length-map, length-take}
use Rattle.std.proofs.lemmas.Str.{length-le-encodes}
use Rattle.lsl_pure.specs.Firsts.{AreFirst, IsNoted}
use Rattle.lsl_pure.specs.Parsing.{first_mark}
use Rattle.lsl_pure.specs.Spelling.{spelled_mark}
use Rattle.lsl_pure.specs.declared.marks.Mark.{Mark}
use Rattle.lsl_pure.proofs.FirstLemmas.{firsts-covered, firsts-more, some-of, spelled-more, written-whole}
use Rattle.lsl_pure.proofs.firsts.first_marks.Goals as goal

pub marks-preserved-then-is_some : goal.marks-preserved-then-is_some
marks-preserved-then-is_some c =
    let m = c.index-marks-number.result in
    let front = map spelled_mark (take c.marks.number c.args.marks.now) in
    let low : c.marks.number < length c.args.marks.now = omega arith in
    let some : is_some (first_mark front (spelled_mark m).text) ≡ true =
    some-of spelled_mark (option_copied c.first_mark.result) _
    (c.first_mark.ensures ∙ ap (first_mark front) c.bytes-bytes.ensures.value)
    (some-of _ c.first_mark.result (option_copied c.first_mark.result) refl (sym c.is_some.ensures ∙ c.if-is_some.true)) in
    let P : List Mark → Type 0 = λ ms. AreFirst ms c.args.text.now c.marks.firsts.items in
    subst P (sym (spelled-more c.args.marks.now c.marks.number m low c.index-marks-number.is))
    (firsts-covered front (spelled_mark m) c.args.text.now c.marks.firsts.items some c.marks.invariant)

pub note-requires-clause-nonempty : goal.note-requires-clause-nonempty
note-requires-clause-nonempty c =
    let m = c.index-marks-number.result in
    let low : c.marks.number < length c.args.marks.now = omega arith in
    let P : Mark → Type 0 = λ x. 0 < length x.text in
    let some : 0 < length m.text =
    subst P (sym c.index-marks-number.is) (c.requires.nonempty c.marks.number m low) in
    omega (arith, some, length-le-encodes m.text, ap length c.bytes-bytes.ensures.value)

pub marks-preserved : goal.marks-preserved
marks-preserved c =
    let m = c.index-marks-number.result in
    let front = map spelled_mark (take c.marks.number c.args.marks.now) in
    let low : c.marks.number < length c.args.marks.now = omega arith in
    let old = c.marks.firsts.items in
    let new = c.note.new.firsts in
    let size : length old ≡ c.marks.firsts.len =
    ap length (sym c.deref_mut.ensures.value) ∙ c.deref_mut.ensures.len in
    let kept : length new ≡ length old = c.note.auto.firsts ∙ ap length c.deref_mut.ensures.value in
    let back = written-whole old new c.marks.firsts.len (kept ∙ size) size in
    let number : c.marks.number ≡ length front =
    omega (
      arith,
      low,
      length-map (take c.marks.number c.args.marks.now) spelled_mark,
      length-take c.marks.number c.args.marks.now,
    ) in
    let N : List ℕ → Type 0 = λ bytes. IsNoted bytes c.marks.number c.args.text.now c.deref_mut.result.now new in
    let O : List (Option ℕ) → Type 0 = λ was. IsNoted (spelled_mark m).text c.marks.number c.args.text.now was new in
    let noted = subst O c.deref_mut.ensures.value (subst N c.bytes-bytes.ensures.value c.in_ok-note.ensures) in
    let P : List Mark → Type 0 = λ ms. AreFirst ms c.args.text.now (take c.marks.firsts.len (new ++ drop (length new) old)) in
    let Q : List (Option ℕ) → Type 0 = λ firsts. AreFirst (front ++ spelled_mark m ∷ []) c.args.text.now firsts in
    subst P (sym (spelled-more c.args.marks.now c.marks.number m low c.index-marks-number.is))
    (subst Q (sym back) (firsts-more front (spelled_mark m) c.args.text.now c.marks.number old new number
    (kept ∙ c.marks.invariant.size) c.marks.invariant noted))
