-- From a draft of a function's code, which has lines in place of points, to the function.
use Rattle.std.specs.Prelude.{◌≡◌, Bool, true, false, map, ℕ, suc, List, [], ◌∷◌, ◌++◌, Option, Some, None, max, length, take, reverse, slice_get}
use Rattle.lsl_value.specs.declared.tagged.Kind.{Kind}
use Rattle.lsl_code.specs.declared.instructions.Instr.{Instr}
use Rattle.lsl_code.specs.declared.instructions.Instr.TheVariants.{Tick, Call}
use Rattle.lsl_code.specs.declared.functions.Point.{Point}
use Rattle.lsl_code.specs.declared.functions.FunctionCode.{FunctionCode}
use Rattle.lsl_code.specs.declared.signatures.Names.{Names}
use Rattle.lsl_code.specs.Effects.{behind, waiting}
use Rattle.lsl_code.specs.Kinds.{Scope, scope}
use Rattle.lsl_code.specs.Wholes.{with_line}

-- the instruction with its point, where this is the first free one
abbrev pub pointed : Instr → ℕ → Instr
pointed (Tick line) point = Tick point
pointed (Call f line) point = Call f point
pointed i point = i

-- the first free point after it
abbrev pub next_point : Instr → ℕ → ℕ
next_point (Tick line) point = suc point
next_point (Call f line) point = suc point
next_point i point = point

-- the line of its point before these
abbrev pub line_before : Instr → List ℕ → List ℕ
line_before (Tick line) more = line ∷ more
line_before (Call f line) more = line ∷ more
line_before i more = more

-- the code of a draft: its points are numbered in order, from this one on
abbrev pub numbered : List Instr → ℕ → List Instr
numbered [] point = []
numbered (i ∷ is) point = pointed i point ∷ numbered is (next_point i point)

-- the lines of its points
abbrev pub lines_of : List Instr → List ℕ
lines_of [] = []
lines_of (i ∷ is) = line_before i (lines_of is)

-- code with lines in place of points
abbrev pub drafted : List ℕ → List Instr → List Instr
drafted lines code = map (with_line lines) code

-- the points of the code are numbered in order, and these are their lines
abbrev pub IsNumbered : List ℕ → List Instr → Type 0
IsNumbered lines code = (code ≡ numbered (drafted lines code) 0) × (lines ≡ lines_of (drafted lines code))

abbrev pub carries_point : Instr → Bool
carries_point (Tick point) = true
carries_point (Call f point) = true
carries_point i = false

abbrev pub or_empty : Option (List Kind) → List Kind
or_empty None = []
or_empty (Some ks) = ks

-- the kinds after an instruction, the top first
abbrev pub next : Scope → Instr → List Kind → List Kind
next s i ks = or_empty (behind s i ks)

-- the kinds of the operands before each instruction, from the first pushed
abbrev pub scan : Scope → List Instr → List Kind → List (List Kind)
scan s [] ks = []
scan s (i ∷ is) ks = reverse ks ∷ scan s is (next s i ks)

-- the instruction's point before these
abbrev pub point_before : Scope → Instr → List Kind → List Point → List Point
point_before s (Tick line) ks more = record { kinds = s.slots ++ reverse ks; calls = None } ∷ more
point_before s (Call f line) ks more =
    record { kinds = s.slots ++ reverse (waiting (slice_get s.functions f) ks); calls = Some f } ∷ more
point_before s i ks more = more

-- the point is added after these, whatever the function gives
abbrev pub AddsPoint : Names → List Kind → Instr → List Kind → List Point → List Point → Type 0
AddsPoint names slots i ks old new =
    (gives : Option Kind) → new ≡ old ++ point_before (scope names slots gives) i ks []

-- the points of a draft
abbrev pub maps : Scope → List Instr → List Kind → List Point
maps s [] ks = []
maps s (i ∷ is) ks = point_before s i ks (maps s is (next s i ks))

abbrev pub most_of : List (List Kind) → ℕ
most_of [] = 0
most_of (ks ∷ stacks) = max (length ks) (most_of stacks)

-- the function of this name with this draft, in this scope; `count` of its slots are parameters
abbrev pub finished : List ℕ → Scope → ℕ → List Instr → FunctionCode
finished name s params draft = record {
  name = name;
  params = take params s.slots;
  slots = s.slots;
  result = s.result;
  most = most_of (scan s draft []);
  points = maps s draft [];
  lines = lines_of draft;
  code = numbered draft 0;
  stacks = scan s draft [];
}
