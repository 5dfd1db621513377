use Rattle.std.proofs.Common.{◌≡◌, ◌∙◌, ◌+◌, ◌++◌, List, ℕ, ap, subst, sym, map, drop}
use Rattle.std.specs.Str.{IsUtf8}
use Rattle.std.proofs.lemmas.Str.{IsUtf8-append}
use Rattle.lsl_pure.specs.Joins.{each_behind}
use Rattle.lsl_pure.specs.Spelling.{spelled_atom}
use Rattle.lsl_pure.proofs.JoinLemmas.{each_behind-more}
use Rattle.lsl_pure.proofs.joining.push_others.Goals as goal

pub atoms-preserved : goal.atoms-preserved
atoms-preserved c =
    let written : c.push_atom.new.out.items
    ≡ (c.atoms.out.items ++ c.args.separator.now) ++ spelled_atom c.atom-item.result =
    c.in_ok-push_atom.ensures.ok ∙ ap (λ t. t ++ spelled_atom c.atom-item.result)
    c.in_ok-extend_from_slice.ensures.items in
    let P : List ℕ → Type 0 = λ bs. IsUtf8 bs in (
      ap (λ t. t ++ each_behind c.args.separator.now
          (map spelled_atom (drop (c.atoms.atom-index + 1) c.args.atoms.now))) written
          ∙ each_behind-more c.atoms.out.items c.args.separator.now c.args.atoms.now c.atoms.atom-index
          c.atom-item.result c.atoms-test.true c.atom-item.is
          ∙ c.atoms.invariant.0,
      subst P (sym written) (IsUtf8-append _ _ (IsUtf8-append _ _ c.atoms.invariant.1 c.requires.valid)
          c.in_ok-push_atom.ensures.valid),
    )
