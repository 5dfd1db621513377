-- The kinds of the operands before each instruction of woven code while it saves, and while it restores.
use Rattle.std.specs.Prelude.{ℕ, zero, suc, ◌+◌, ◌&&◌, Bool, true, List, [], ◌∷◌, ◌++◌, Option, Some, None, drop, length, reverse, slice_get, slice_set}
use Rattle.lsl_value.specs.declared.tagged.Kind.{Kind}
use Rattle.lsl_code.specs.declared.functions.Point.{Point}
use Rattle.lsl_code.specs.declared.instructions.Instr.{Instr}
use Rattle.lsl_code.specs.declared.instructions.Instr.TheVariants.{Jump, Tick, Call, TestSave, KeepSlot, KeepTop, TestBack, Unpack, BackSlot, BackTop, Branch}
use Rattle.lsl_code.specs.declared.woven_functions.WovenCode.{WovenCode}
use Rattle.lsl_code.specs.Fits.{has_kinds}
use Rattle.lsl_code.specs.SaveWays.{waiting_kinds}

-- a call is before the instruction at this place, with operands of these kinds, the top first
pub record Stop : Type 0 where
  pub place : ℕ
  pub kinds : List Kind

abbrev pub stop_at : ℕ → List Kind → Stop
stop_at place kinds = record { place = place; kinds = kinds }

-- the results of g for each element and its number, one after another
abbrev pub flat : {A B : Type 0} → (ℕ → A → List B) → ℕ → List A → List B
flat g i [] = []
flat g i (x ∷ xs) = g i x ++ flat g (suc i) xs

-- the next place on the save path, or none at its end
abbrev pub saves_on : (ℕ → List Kind → List Stop) → ℕ → List Kind → Option Instr → List Stop
saves_on go place ks (Some (TestSave to)) = go to ks
saves_on go place ks (Some (Jump to)) = go to ks
saves_on go place ks (Some (KeepSlot n)) = go (place + 1) ks
saves_on go place ks (Some KeepTop) = go (place + 1) (drop 1 ks)
saves_on go place ks i = []

-- and from this place on, within n instructions
abbrev pub save_stops : List Instr → ℕ → ℕ → List Kind → List Stop
save_stops code zero place ks = []
save_stops code (suc n) place ks =
    stop_at place ks ∷ saves_on (save_stops code n) place ks (slice_get code place)

-- directly after a point's instruction
abbrev pub behind_point : List Kind → List Instr → ℕ → Option Point → List Stop
behind_point slots code place None = []
behind_point slots code place (Some point) =
    save_stops code (length code) (place + 1) (waiting_kinds slots point)

abbrev pub stops_behind : List Kind → List Point → List Instr → ℕ → Instr → List Stop
stops_behind slots points code place (Tick p) = behind_point slots code place (slice_get points p)
stops_behind slots points code place (Call f p) = behind_point slots code place (slice_get points p)
stops_behind slots points code place i = []

-- all places at which a call of a function with these slots, points and code saves
abbrev pub saving_stops : List Kind → List Point → List Instr → List Stop
saving_stops slots points code = flat (stops_behind slots points code) 0 code

-- the frame's next value is pushed
abbrev pub pushed_on : (List Kind → List Kind → List Stop) → List Kind → List Kind → List Stop
pushed_on go [] ks = []
pushed_on go (k ∷ hand) ks = go hand (k ∷ ks)

-- the next place on the restore path, or none at its end; the current values have these kinds
abbrev pub restores_on : (ℕ → List Kind → List Kind → List Stop) → ℕ → ℕ → List Kind → List Kind → Option Instr
    → List Stop
restores_on go p place hand ks (Some (TestBack to)) = go to hand ks
restores_on go p place hand ks (Some (Jump to)) = go to hand ks
restores_on go p place hand ks (Some Unpack) = go (place + 1) hand ks
restores_on go p place hand ks (Some Branch) = go (place + 1 + p) hand ks
restores_on go p place hand ks (Some (BackSlot n)) = go (place + 1) (drop 1 hand) ks
restores_on go p place hand ks (Some BackTop) = pushed_on (go (place + 1)) hand ks
restores_on go p place hand ks i = []

abbrev pub back_stops : List Instr → ℕ → ℕ → ℕ → List Kind → List Kind → List Stop
back_stops code zero p place hand ks = []
back_stops code (suc n) p place hand ks =
    stop_at place ks ∷ restores_on (back_stops code n p) p place hand ks (slice_get code place)

-- all places at which a call of a function with these points and code restores
abbrev pub restoring_stops : List Point → List Instr → List Stop
restoring_stops points code = flat (λ p point. back_stops code (length code) p 0 point.kinds []) 0 points

abbrev pub nones : ℕ → List (Option (List Kind))
nones zero = []
nones (suc n) = None ∷ nones n

-- with the kinds of these stops, from the first pushed
abbrev pub marked : List (Option (List Kind)) → List Stop → List (Option (List Kind))
marked stacks [] = stacks
marked stacks (s ∷ stops) = marked (slice_set stacks s.place (Some (reverse s.kinds))) stops

-- the kinds of the operands before each instruction, where a call ever saves, or restores, there
abbrev pub saving_stacks : List Kind → List Point → List Instr → List (Option (List Kind))
saving_stacks slots points code = marked (nones (length code)) (saving_stops slots points code)

abbrev pub restoring_stacks : List Point → List Instr → List (Option (List Kind))
restoring_stacks points code = marked (nones (length code)) (restoring_stops points code)

-- at each stop there are its kinds
abbrev pub are_there : List (Option (List Kind)) → List Stop → Bool
are_there stacks [] = true
are_there stacks (s ∷ stops) = has_kinds (slice_get stacks s.place) s.kinds && are_there stacks stops

-- the kinds with which a function saves, and those with which it restores
abbrev pub saving_of : WovenCode → List (Option (List Kind))
saving_of w = saving_stacks w.slots w.points w.code

abbrev pub restoring_of : WovenCode → List (Option (List Kind))
restoring_of w = restoring_stacks w.points w.code

-- wherever a call saves, or restores, these are its operands' kinds
abbrev pub tells_modes : ℕ → WovenCode → Bool
tells_modes f w =
    are_there (saving_of w) (saving_stops w.slots w.points w.code)
    && are_there (restoring_of w) (restoring_stops w.points w.code)
