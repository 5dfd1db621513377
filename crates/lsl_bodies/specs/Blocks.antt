-- How a block ends.
use Rattle.std.specs.Prelude.{◌≡◌, ℕ, ◌-◌, List, length, take, drop, []}
use Rattle.lsl_bodies.specs.declared.blocks.Outer.{Outer}
use Rattle.lsl_bodies.specs.Scope.{FrameView}

-- how much there was of a frame
pub record IsOuter (o : Outer) (f : FrameView) : Type 0 where
  pub names : o.names ≡ length f.scope.names
  pub variables : o.variables ≡ length f.scope.variables
  pub labels : o.labels ≡ length f.labels
  pub passed : o.passed ≡ length f.passed
  pub first_variable : o.first_variable ≡ f.first_variable
  pub first_label : o.first_label ≡ f.first_label

abbrev pub earliest : {X : Type 0} → ℕ → List X → List X
earliest n xs = drop (length xs - n) xs

-- only this much is left
abbrev pub closed : FrameView → Outer → FrameView
closed f o = record {
  scope = record { names = earliest o.names f.scope.names; variables = take o.variables f.scope.variables };
  slots = f.slots;
  labels = earliest o.labels f.labels;
  passed = earliest o.passed f.passed;
  first_variable = o.first_variable;
  first_label = o.first_label;
}

-- no function has begun
abbrev pub IsResting : FrameView → Type 0
IsResting f =
    f ≡ record { scope = f.scope; slots = []; labels = []; passed = []; first_variable = 0; first_label = 0 }
