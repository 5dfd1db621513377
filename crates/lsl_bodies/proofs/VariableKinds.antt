-- What variables and constants refer to has its kind.
use Rattle.std.proofs.Common.{◌≡◌, Bool, true, false, Option, Some, None, refl, ap, ◌∙◌, subst}
use Rattle.lsl_value.specs.declared.tagged.Kind.TheVariants.{Int}
use Rattle.lsl_tree.specs.declared.expression.Name.{Name}
use Rattle.lsl_tree.specs.declared.expression.StepOp.{StepOp}
use Rattle.lsl_tree.specs.declared.expression.StepOp.TheVariants.{Increment, Decrement}
use Rattle.lsl_tree.specs.declared.program_node.Place.{Place}
use Rattle.lsl_tree.specs.Kinded.{place_kind}
use Rattle.lsl_bodies.specs.declared.faults.TypeKind.TheVariants.{UnknownName}
use Rattle.lsl_bodies.specs.declared.frame.Variable.{Variable as VariableOf}
use Rattle.lsl_bodies.specs.declared.frame.Target.{Target}
use Rattle.lsl_bodies.specs.declared.frame.Target.TheVariants.{Kept, Fixed}
use Rattle.lsl_bodies.specs.Scope.{ScopeView, spelled, variable_of}
use Rattle.lsl_bodies.specs.Table.{constant_kind_of, constant_of}
use Rattle.lsl_bodies.specs.Targets.{read_of, steps_of}
use Rattle.lsl_bodies.specs.Conversions.{is_int}
use Rattle.lsl_bodies.specs.Judgement.{at}
use Rattle.lsl_bodies.specs.VariableVerdicts.{constant_target, target_by, target_verdict, variable_verdict, place_by}
use Rattle.lsl_bodies.specs.VariableVerdicts.{counter_verdict, read_verdict, step_behind_verdict, step_before_verdict}
use Rattle.lsl_bodies.proofs.Yielding.{Yields, gives_yields, faulty_yields, then_yields, the_one_yields}
use Rattle.lsl_bodies.proofs.FitLemmas.{is_int-int}
use Rattle.lsl_bodies.proofs.KindSettings.{Setting, scope_in, HasKind, HaveKinds, variable_has}
use Rattle.lsl_bodies.proofs.CallKinds.{NodeIn}

abbrev pub TargetIn : Setting → Target → Type 0
TargetIn c (Kept v) = HasKind c v
TargetIn c (Fixed id) = Unit {0}

abbrev pub IsCounter : Setting → Place → Type 0
IsCounter c p = place_kind (scope_in c) p ≡ Some Int

-- the variables in sight have their kinds
module _ (c : Setting) (s : ScopeView) (have : HaveKinds c s.variables) where
  pub target_yields : (x : Name) → Yields (TargetIn c) (target_verdict s x)
  target_yields x = go (variable_of s (spelled x)) refl
    where
      fixed : (o : _) (t : Target) → constant_target o ≡ Some t → TargetIn c t
      fixed None t e = absurd (cc)
      fixed (Some id) t e = let same : Fixed id ≡ t = cc in subst (TargetIn c) same tt

      go : (o : Option VariableOf) → variable_of s (spelled x) ≡ o → Yields (TargetIn c) (target_by o x)
      go (Some v) e = gives_yields (variable_has c s (spelled x) v have e)
      go None e =
          the_one_yields (constant_target (constant_of (spelled x))) (at UnknownName x.span)
          (fixed (constant_of (spelled x)))

  pub variable_yields : (t : Target) (x : Name) → TargetIn c t → Yields (HasKind c) (variable_verdict t x)
  variable_yields (Kept v) x h = gives_yields h
  variable_yields (Fixed id) x h = faulty_yields

  counter_yields : (t : Target) (x : Name) → TargetIn c t → Yields (IsCounter c) (counter_verdict t x)
  counter_yields (Fixed id) x h = faulty_yields
  counter_yields (Kept v) x h = go (is_int v.kind) refl
    where
      go : (b : Bool) → is_int v.kind ≡ b → Yields (IsCounter c) (place_by b v.place x)
      go true e = gives_yields (h ∙ ap Some (is_int-int v.kind e))
      go false e = faulty_yields

  read_kind : (t : Target) → TargetIn c t → NodeIn c (read_of t)
  unfolding constant_kind_of
  read_kind (Kept v) h = h
  read_kind (Fixed id) h = refl

  pub read_yields : (x : Name) → Yields (NodeIn c) (read_verdict s x)
  read_yields x = then_yields (target_yields x) (λ t h. gives_yields (read_kind t h))

  pub behind_yields : (x : Name) (op : StepOp) → Yields (NodeIn c) (step_behind_verdict s x op)
  behind_yields x op =
      then_yields (target_yields x) (λ t h.
      then_yields (counter_yields t x h) (λ p k. gives_yields k))

  steps_kind : (p : Place) (op : StepOp) → IsCounter c p → NodeIn c (steps_of p op)
  steps_kind p Increment h = (h, refl, (refl, h, tt))
  steps_kind p Decrement h = (h, refl, (refl, h, tt))

  pub before_yields : (x : Name) (op : StepOp) → Yields (NodeIn c) (step_before_verdict s x op)
  before_yields x op =
      then_yields (target_yields x) (λ t h.
      then_yields (counter_yields t x h) (λ p k. gives_yields (steps_kind p op k)))
