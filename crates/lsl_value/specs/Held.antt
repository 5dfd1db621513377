-- Lists that are held somewhere, or nowhere where they are empty.
use Rattle.std.specs.Prelude.{List, [], Option, Some, None}

-- what the holder has as a list, and the empty list of no holder
abbrev pub held_items : {R A : Type 0} → Option R → (R → List A) → List A
held_items None read = []
held_items (Some held) read = read held
