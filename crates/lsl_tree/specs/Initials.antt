-- The initial values of globals: each names only constants and earlier globals.
use Rattle.std.specs.Prelude.{◌≡◌, ◌≢◌, List, [], ◌∷◌, ◌++◌, Some, true, map, slice_get, All}
use Rattle.lsl_value.specs.OperatorRows.{casts_implicitly_of}
use Rattle.lsl_value.specs.Values.{kind_of}
use Rattle.lsl_value.specs.declared.tagged.Kind.{Kind}
use Rattle.lsl_value.specs.declared.tagged.Kind.TheVariants as kind
use Rattle.lsl_table.specs.Constants.{constant_value_of}
use Rattle.lsl_tree.specs.declared.program.Part.{Part}
use Rattle.lsl_tree.specs.declared.program.Part.TheVariants as part
use Rattle.lsl_tree.specs.Program.{Initial, Single, Cast, ListLiteral, Program}

abbrev pub part_kind_of : Part → Kind
part_kind_of (part.Int n) = kind.Int
part_kind_of (part.Negative n) = kind.Int
part_kind_of (part.Str t) = kind.Str
part_kind_of (part.Constant i k) = k
part_kind_of (part.Global n k) = k

abbrev pub initial_kind_of : Initial → Kind
initial_kind_of (Single p) = part_kind_of p
initial_kind_of (Cast k p) = k
initial_kind_of (ListLiteral ps) = kind.List

-- the globals' kinds, in their order
abbrev pub global_kinds : Program → List Kind
global_kinds p = map initial_kind_of p.globals

-- after globals of these kinds
module _ (before : List Kind) where
  abbrev pub IsKindedPart : Part → Type 0
  IsKindedPart (part.Int n) = Unit {0}
  IsKindedPart (part.Negative n) = Unit {0}
  IsKindedPart (part.Str t) = Unit {0}
  IsKindedPart (part.Constant i k) = kind_of (constant_value_of i) ≡ k
  IsKindedPart (part.Global n k) = slice_get before n ≡ Some k

  -- a list's element isn't a list
  abbrev pub IsKindedElement : Part → Type 0
  IsKindedElement p = (part_kind_of p ≢ kind.List) × IsKindedPart p

  -- the only cast there is implicit: a string becomes a key, or a key a string
  abbrev pub IsKindedInitial : Initial → Type 0
  IsKindedInitial (Single p) = IsKindedPart p
  IsKindedInitial (Cast k p) = (casts_implicitly_of (part_kind_of p) k ≡ true) × IsKindedPart p
  IsKindedInitial (ListLiteral ps) = All IsKindedElement ps

-- each after the ones before it
abbrev pub AreKindedInitials : List Kind → List Initial → Type 0
AreKindedInitials before [] = Unit {0}
AreKindedInitials before (g ∷ gs) = IsKindedInitial before g × AreKindedInitials (before ++ initial_kind_of g ∷ []) gs
