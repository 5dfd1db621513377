-- The world that `once` makes is in its ranges, and names one file.
use Rattle.std.proofs.Common.{◌≡◌, ℕ, zero, suc, ◌<◌, List, [], ◌∷◌, Contains, get_or, refl, sym, arith, lit<, lit≤}
use Rattle.std.specs.Prelude.{All, codes}
use Rattle.std.proofs.lemmas.List.Elements.{All-nil, All-cons}
use Rattle.lsl_value.specs.Key.{is_valid_key}
use Rattle.lsl_lines.specs.declared.file.ObjectLine.{ObjectLine}
use Rattle.lsl_lines.specs.declared.file.PrimLine.{PrimLine}
use Rattle.lsl_lines.specs.declared.file.ScriptLine.{ScriptLine}
use Rattle.lsl_lines.specs.declared.file.Step.TheVariants.{Run}
use Rattle.lsl_world.specs.Ranges.{HasCard, HasFile, HasKey, IsInRange, IsObjectOf}
use Rattle.lsl_world.specs.Sizes.{IsStepOf, size_of_file}
use Rattle.lsl_top.specs.Plays.{once_prim, once_world}

abbrev new_script : ScriptLine
new_script = record { name = codes "New Script"; file = 0 }

abbrev object : ObjectLine
object = record {
  owner = codes "00000000-0000-0000-0000-000000000002";
  region = codes "here";
  prims = once_prim ∷ [];
}

once-key : HasKey once_prim
unfolding is_valid_key
once-key = refl

object-fits : IsObjectOf 1 object
object-fits = record {
  rooted = lit< tt;
  few = lit≤ tt;
  keyed = All-cons HasKey once_prim [] once-key (All-nil HasKey);
  files_there = All-cons (λ (p : PrimLine). All (HasFile 1) p.scripts) once_prim []
      (All-cons (HasFile 1) new_script [] (lit< tt) (All-nil (HasFile 1)))
      (All-nil (λ (p : PrimLine). All (HasFile 1) p.scripts));
}

pub once-in_range : IsInRange once_world
once-in_range = record {
  few_objects = lit≤ tt;
  few_scripts = lit≤ tt;
  objects_fit = All-cons (IsObjectOf 1) object [] object-fits (All-nil (IsObjectOf 1));
  few_notes = lit≤ tt;
  notes_fit = All-nil (HasCard 0);
  few_steps = lit≤ tt;
  steps_fit = All-cons (IsStepOf (size_of_file once_world)) (Run 1000000) [] (lit≤ tt)
      (All-nil (IsStepOf (size_of_file once_world)));
}

pub no-name : (n : List ℕ) → Contains [] n → ⊥
no-name n (k, lt, e) = omega (arith, lt)

pub only-name : (name n : List ℕ) → Contains (name ∷ []) n → n ≡ name
only-name name n (k, lt, e) = go k lt e
  where
    go : (k : ℕ) → k < 1 → get_or (name ∷ []) k n ≡ n → n ≡ name
    go zero lt e = sym e
    go (suc k) lt e = absurd (omega arith)
