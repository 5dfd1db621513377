use Rattle.std.proofs.Common.{◌≡◌, ◌∙◌, ◌+◌, ◌++◌, ◌∷◌, [], ◌==◌, ap, sym, take, length}
use Rattle.std.proofs.lemmas.List.{append-nil, take_all, take_more}
use Rattle.lsl_pure.specs.Parsing.{marks_among}
use Rattle.lsl_pure.proofs.MarkLemmas.{marks_among-empty, marks_among-push}
use Rattle.lsl_pure.proofs.marks.push_marks.Goals as goal
use Rattle.lsl_pure.proofs.marks.push_marks.Goals.{then-not-is_empty+in_ok-push, else-not-is_empty+in-Some-1, else-not-is_empty+in-None-1}

pub atoms-init : goal.atoms-init
atoms-init c = sym (append-nil c.args.marks.now.items)

pub atoms-preserved : goal.atoms-preserved
atoms-preserved c =
    let xs = c.first_eight-atom-items.result.now in
    let old = c.args.marks.now.items in
    let more : take (c.atoms.atom-index + 1) xs ≡ take c.atoms.atom-index xs ++ c.atom-item.result ∷ [] =
    take_more xs c.atoms.atom-index c.atom-item.result c.atoms-test.true
    ∙ ap (λ a. take c.atoms.atom-index xs ++ a ∷ []) (sym c.atom-item.is) in
    let step = ap (λ atoms. old ++ marks_among c.args.spacer atoms) (sym more) in
    let bytes = ap (λ b. length b == 0) (sym c.bytes.ensures.value) ∙ sym c.is_empty.ensures in
    elim c.if-not-is_empty.branch [
      | then-not-is_empty+in_ok-push w ↦
          marks_among-push c.args.spacer c.if-not-is_empty.marks.items c.atoms.marks.items old
          (take c.atoms.atom-index xs) c.atom-item.result c.in_ok-text.text c.in_ok-text.ensures.value
          (bytes ∙ w.if-not-is_empty.true)
          c.atoms.invariant (ap (λ v. v.items) w.marks-is ∙ w.in_ok-push.ensures.items) ∙ step
      | else-not-is_empty+in-Some-1 w ↦
          ap (λ v. v.items) w.marks-is ∙ marks_among-empty c.args.spacer c.atoms.marks.items old
          (take c.atoms.atom-index xs) c.atom-item.result c.in_ok-text.text c.in_ok-text.ensures.value
          (bytes ∙ w.if-not-is_empty.false) c.atoms.invariant ∙ step
      | else-not-is_empty+in-None-1 w ↦
          ap (λ v. v.items) w.marks-is ∙ marks_among-empty c.args.spacer c.atoms.marks.items old
          (take c.atoms.atom-index xs) c.atom-item.result c.in_ok-text.text c.in_ok-text.ensures.value
          (bytes ∙ w.if-not-is_empty.false) c.atoms.invariant ∙ step
    ]

pub returns : goal.returns
returns c =
    c.atoms.invariant
    ∙ ap (λ atoms. c.args.marks.now.items ++ marks_among c.args.spacer atoms)
    (take_all c.atoms.atom-index c.first_eight-atom-items.result.now c.atoms-test.false
    ∙ c.first_eight-atom-items.ensures)
