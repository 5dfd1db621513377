-- What a body is checked with, and the scope that its routine has in the program.
use Rattle.std.proofs.Common.{◌≡◌, ℕ, zero, suc, ◌+◌, Option, Some, None, List, [], ◌∷◌, ◌++◌, length, subst}
use Rattle.std.proofs.Common.{slice_get}
use Rattle.std.specs.Option.{option_and_then}
use Rattle.lsl_value.specs.declared.tagged.Kind.{Kind}
use Rattle.lsl_tree.specs.declared.script.Param.{Param}
use Rattle.lsl_tree.specs.declared.program_node.Place.TheVariants.{Slot}
use Rattle.lsl_tree.specs.Kinded.{Scope, place_kind}
use Rattle.lsl_bodies.specs.declared.frame.Home.{Home}
use Rattle.lsl_bodies.specs.declared.frame.Variable.{Variable}
use Rattle.lsl_bodies.specs.Names.{nearest}
use Rattle.lsl_bodies.specs.Scope.{ScopeView, FrameView, spelled, variable_of, with_local, with_locals}
use Rattle.lsl_bodies.specs.Known.{KnownView}
use Rattle.lsl_bodies.specs.ActionForms.{home_kind}
use Rattle.lsl_bodies.proofs.Prefixes.{IsPrefix, prefix_itself, prefix_longer, prefix_push, prefix_get, get_last}

-- what the headers declare, the globals' kinds, the kinds of all slots of the routine, and what it is
pub record Setting : Type 0 where
  pub known : KnownView
  pub globals : List Kind
  pub slots : List Kind
  pub home : Home

abbrev pub setting : KnownView → List Kind → List Kind → Home → Setting
setting known globals slots home = record { known = known; globals = globals; slots = slots; home = home }

abbrev pub scope_in : Setting → Scope
scope_in c = record {
  globals = c.globals;
  functions = c.known.signatures;
  states = length c.known.states + 1;
  slots = c.slots;
  result = home_kind c.home;
}

abbrev pub HasKind : Setting → Variable → Type 0
HasKind c v = place_kind (scope_in c) v.place ≡ Some v.kind

-- each variable in sight is there, and has its kind
abbrev pub HaveKinds : Setting → List Variable → Type 0
HaveKinds c vs = (n : ℕ) (v : Variable) → slice_get vs n ≡ Some v → HasKind c v

some_same : {T : Type 0} (a b : T) → Some a ≡ Some b → a ≡ b
some_same a b e = cc

pub have_more : (c : Setting) (vs : List Variable) (v : Variable) → HaveKinds c vs → HasKind c v
    → HaveKinds c (vs ++ v ∷ [])
have_more c [] v h k zero w e = subst (HasKind c) (some_same v w e) k
have_more c [] v h k (suc n) w e = absurd (cc)
have_more c (x ∷ vs) v h k zero w e = h zero w e
have_more c (x ∷ vs) v h k (suc n) w e = have_more c vs v (λ m u g. h (suc m) u g) k n w e

pub variable_has : (c : Setting) (s : ScopeView) (name : List ℕ) (v : Variable) → HaveKinds c s.variables
    → variable_of s name ≡ Some v → HasKind c v
variable_has c s name v h e = go (nearest name s.names) e
  where
    go : (o : Option ℕ) → option_and_then (slice_get s.variables) o ≡ Some v → HasKind c v
    go None g = absurd (cc)
    go (Some n) g = h n v g

-- a local variable after the others
pub local_has : (c : Setting) (f : FrameView) (name : List ℕ) (k : Kind) → HaveKinds c f.scope.variables
    → IsPrefix (f.slots ++ k ∷ []) c.slots
    → HaveKinds c (with_local f name k).scope.variables
local_has c f name k h b =
    let v : Variable = record { place = Slot (length f.slots); kind = k } in
    have_more c f.scope.variables v h
    (prefix_get (f.slots ++ k ∷ []) c.slots (length f.slots) k b (get_last f.slots k))

pub locals_prefix : (f : FrameView) (ps : List Param) → IsPrefix f.slots (with_locals f ps).slots
locals_prefix f [] = prefix_itself f.slots
locals_prefix f (p ∷ ps) =
    let g = with_local f (spelled p.name) p.kind in
    prefix_longer f.slots g.slots (with_locals g ps).slots (prefix_push f.slots p.kind) (locals_prefix g ps)

pub locals_have : (c : Setting) (f : FrameView) (ps : List Param) → HaveKinds c f.scope.variables
    → IsPrefix (with_locals f ps).slots c.slots
    → HaveKinds c (with_locals f ps).scope.variables
locals_have c f [] h b = h
locals_have c f (p ∷ ps) h b =
    let g = with_local f (spelled p.name) p.kind in
    let first = prefix_longer g.slots (with_locals g ps).slots c.slots (locals_prefix g ps) b in
    locals_have c g ps (local_has c f (spelled p.name) p.kind h first) b
