use Rattle.std.proofs.Common.{◌≡◌, true, false, length, ap, sym, ◌∙◌, nat_eq, eq-eqb, refl}
use Rattle.lsl_bodies.specs.Calling.{kinds_in}
use Rattle.lsl_tree.specs.Nodes.{nodes_of}
use Rattle.lsl_tree.specs.Shape.{argument_count}
use Rattle.lsl_tree.proofs.ProgramRows.{argument_count-nodes_of}
use Rattle.lsl_bodies.proofs.Walks.{eqb_false}
use Rattle.lsl_bodies.proofs.calls.Calling.count.Goals as goal

pub returns-then-nodes-kinds : goal.returns-then-nodes-kinds
returns-then-nodes-kinds c =
    let same : nat_eq (argument_count (nodes_of c.args.nodes.now)) (length (kinds_in c.args.self.now.params)) ≡ true =
    eq-eqb _ _ (argument_count-nodes_of c.args.nodes.now ∙ (c.if-nodes-kinds.true ∙ ap length c.kinds.ensures)) in
    rw same refl

pub returns-else-nodes-kinds : goal.returns-else-nodes-kinds
returns-else-nodes-kinds c =
    let other : nat_eq (argument_count (nodes_of c.args.nodes.now)) (length (kinds_in c.args.self.now.params)) ≡ false =
    eqb_false _ _ (λ h. c.if-nodes-kinds.false
    (sym (argument_count-nodes_of c.args.nodes.now) ∙ (h ∙ sym (ap length c.kinds.ensures)))) in
    rw (c.fault.ensures, other) refl
