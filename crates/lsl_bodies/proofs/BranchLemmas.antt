-- A statement with two branches, the second of which is refused.
use Rattle.std.proofs.Common.{◌≡◌, ◌∙◌, List, Ok, Err, ap, refl, sym}
use Rattle.lsl_text.specs.declared.Refusal.{Refusal}
use Rattle.lsl_text.specs.declared.Refusal.TheVariants.{NoMemory, Fault}
use Rattle.lsl_text.specs.declared.Span.{Span}
use Rattle.lsl_value.specs.declared.tagged.Kind.{Kind}
use Rattle.lsl_tree.specs.Expressions.{Expr}
use Rattle.lsl_tree.specs.Statements as stmt
use Rattle.lsl_tree.specs.Statements.{Stmt}
use Rattle.lsl_tree.specs.Nodes.{Node}
use Rattle.lsl_tree.specs.Actions.{Action}
use Rattle.lsl_bodies.specs.declared.faults.TypeFault.{TypeFault}
use Rattle.lsl_bodies.specs.declared.frame.Home.{Home}
use Rattle.lsl_bodies.specs.Known.{KnownView}
use Rattle.lsl_bodies.specs.Scope.{FrameView, with_slots}
use Rattle.lsl_bodies.specs.Verdict.{Refuses}
use Rattle.lsl_bodies.specs.ValueVerdicts.{value_verdict}
use Rattle.lsl_bodies.specs.ActionVerdicts.{statement_verdict}

-- a view of the two branches, given what they are known to be equal to
pub otherwise_fails : {S : Type 0} (view : S → Stmt) (known : KnownView) (home : Home) (f g : FrameView)
    (span : Span) (e : Expr)
    (a b x y : S) (test : Node) (then : Action) (slots : List Kind) (r : Refusal TypeFault)
    → x ≡ a → y ≡ b → value_verdict known f.scope e ≡ Ok test
    → statement_verdict known home f (view x) ≡ Ok (then, slots) → g ≡ with_slots f slots
    → Refuses r (statement_verdict known home g (view y))
    → Refuses r (statement_verdict known home f (stmt.IfElse span e (view a) (view b)))
otherwise_fails view known home f g span e a b x y test then slots NoMemory first second tested done same h = tt
otherwise_fails view known home f g span e a b x y test then slots (Fault fault) first second tested done same h =
    let one : statement_verdict known home f (view a) ≡ Ok (then, slots) =
    sym (ap (λ z. statement_verdict known home f (view z)) first) ∙ done in
    let other : statement_verdict known home g (view b) ≡ Err fault =
    sym (ap (λ z. statement_verdict known home g (view z)) second) ∙ h in
    rw (tested, one, sym same, other) refl
