-- What is visible at a statement.
use Rattle.std.specs.Prelude.{◌≡◌, ℕ, ◌≤◌, Option, Some, None, Bool, false, nat_le, List, [], ◌∷◌, ◌++◌, length}
use Rattle.std.specs.Prelude.{slice_get}
use Rattle.std.specs.Option.{option_and_then}
use Rattle.std.specs.Str.{encode_utf8_all}
use Rattle.lsl_value.specs.declared.tagged.Kind.{Kind}
use Rattle.lsl_tree.specs.declared.expression.Name.{Name}
use Rattle.lsl_tree.specs.declared.script.Param.{Param}
use Rattle.lsl_tree.specs.declared.program_node.Place.TheVariants.{Slot}
use Rattle.lsl_tree.specs.Statements as stmt
use Rattle.lsl_tree.specs.Statements.{Item, Items, NoItem, AndItem}
use Rattle.lsl_bodies.specs.declared.frame.Variable.{Variable}
use Rattle.lsl_bodies.specs.declared.frame.Frame.{Frame}
use Rattle.lsl_bodies.specs.declared.frame.Scope.{Scope}
use Rattle.lsl_bodies.specs.Names.{nearest, IsNearest}

-- a name's bytes
abbrev pub spelled : Name → List ℕ
spelled x = encode_utf8_all x.text

-- variables by number, and their names, the latest first
pub record ScopeView : Type 0 where
  pub names : List (List ℕ)
  pub variables : List Variable

-- what is visible at a place, and what its function has so far: the kinds of its slots, the labels of the blocks
-- around, the latest first, those of them before the place, and the numbers of the block's first variable and label
pub record FrameView : Type 0 where
  pub scope : ScopeView
  pub slots : List Kind
  pub labels : List (List ℕ)
  pub passed : List (List ℕ)
  pub first_variable : ℕ
  pub first_label : ℕ

abbrev pub scope_of : Scope → ScopeView
scope_of s = record { names = s.names; variables = s.variables.items }

abbrev pub frame_of : Frame → FrameView
frame_of f = record {
  scope = scope_of f.scope;
  slots = f.slots.items;
  labels = f.labels;
  passed = f.passed;
  first_variable = f.first_variable;
  first_label = f.first_label;
}

-- the variable that a name refers to is the nearest of that name
abbrev pub IsVariable : ScopeView → List ℕ → Variable → Type 0
IsVariable s name v = (number : ℕ) × IsNearest name s.names number × (slice_get s.variables number ≡ Some v)

abbrev pub variable_of : ScopeView → List ℕ → Option Variable
variable_of s name = option_and_then (slice_get s.variables) (nearest name s.names)

-- the nearest of this name isn't before this number
abbrev pub IsSince : List (List ℕ) → ℕ → List ℕ → Type 0
IsSince names first name = (number : ℕ) × IsNearest name names number × (first ≤ number)

abbrev pub is_since_number : ℕ → Option ℕ → Bool
is_since_number first None = false
is_since_number first (Some number) = nat_le first number

abbrev pub is_since : List (List ℕ) → ℕ → List ℕ → Bool
is_since names first name = is_since_number first (nearest name names)

-- a variable after the others
abbrev pub declared : ScopeView → List ℕ → Variable → ScopeView
declared s name v = record { names = name ∷ s.names; variables = s.variables ++ v ∷ [] }

-- a local variable after the others, with the next slot
abbrev pub with_local : FrameView → List ℕ → Kind → FrameView
with_local f name k = record f {
  scope = declared f.scope name (record { place = Slot (length f.slots); kind = k });
  slots = f.slots ++ k ∷ [];
}

abbrev pub with_locals : FrameView → List Param → FrameView
with_locals f [] = f
with_locals f (p ∷ ps) = with_locals (with_local f (spelled p.name) p.kind) ps

abbrev pub with_slots : FrameView → List Kind → FrameView
with_slots f slots = record f { slots = slots }

abbrev pub with_passed : FrameView → List ℕ → FrameView
with_passed f name = record f { passed = name ∷ f.passed }

-- the labels directly in a block, the last first
abbrev pub labels_with : Item → List (List ℕ) → List (List ℕ)
labels_with (stmt.Declaration k x v) names = names
labels_with (stmt.Label x) names = spelled x ∷ names
labels_with (stmt.Statement s) names = names

abbrev pub labels_of : Items → List (List ℕ)
labels_of NoItem = []
labels_of (AndItem es e) = labels_with e (labels_of es)

-- where a block begins
abbrev pub opened : FrameView → Items → FrameView
opened f es = record f {
  labels = labels_of es ++ f.labels;
  first_variable = length f.scope.names;
  first_label = length f.passed;
}

-- where a body begins: the globals are visible, and the parameters
abbrev pub entered : ScopeView → List Param → FrameView
entered s ps =
    with_locals (record { scope = s; slots = []; labels = []; passed = []; first_variable = 0; first_label = 0 }) ps
