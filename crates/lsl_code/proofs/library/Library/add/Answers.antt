use Rattle.std.proofs.Common.{[], sym, subst}
use Rattle.std.specs.Prelude.{All}
use Rattle.std.proofs.lemmas.List.Elements.{All-append, All-cons, All-nil}
use Rattle.lsl_code.specs.Weaves.{Weaves}
use Rattle.lsl_code.proofs.library.Library.add.Goals as goal

pub invariant_of-self : goal.invariant_of-self
invariant_of-self c = subst (All Weaves) (sym c.in_err-push.ensures.items) c.self.invariant

pub invariant_of-self-2 : goal.invariant_of-self-2
invariant_of-self-2 c =
    let one = All-cons Weaves c.args.unit [] c.requires (All-nil Weaves) in
    subst (All Weaves) (sym c.in_ok-push.ensures.items) (All-append Weaves _ _ c.self.invariant one)
