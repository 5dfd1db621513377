-- What is read so far, as it leads to what is read of a whole layout.
use Rattle.std.specs.Prelude.{ℕ, List, ◌++◌}
use Rattle.lsl_value.specs.declared.tagged.Kind.{Kind}
use Rattle.lsl_value.specs.declared.tagged.Value.{Value}
use Rattle.lsl_image.specs.declared.faults.ImageFault.{ImageFault}
use Rattle.lsl_image.specs.Layout.{Layout, kinded_values}
use Rattle.lsl_image.specs.Reading.{Faults, Gives}

-- what the layout gives at the place is what the whole gives from its start; and so are its faults
pub record Leads {A B : Type 0} (bytes : List ℕ) (l : Layout A) (p : ℕ) (f : A → B) (whole : Layout B)
    (start : ℕ) : Type 0 where
  pub gives : (a : A) (q : ℕ) → Gives bytes l p a q → Gives bytes whole start (f a) q
  pub faults : (fault : ImageFault) → Faults bytes l p fault → Faults bytes whole start fault

-- these values were read, and others follow
abbrev pub LeadsBehind : List ℕ → List Kind → ℕ → List Value → Layout (List Value) → ℕ → Type 0
LeadsBehind bytes kinds p before whole start = Leads bytes (kinded_values kinds) p (λ k. before ++ k.values) whole start
