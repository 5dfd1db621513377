-- What bytes of a layout encode, and what is wrong with other bytes.
use Rattle.std.specs.Prelude.{◌≡◌, ℕ, List, ◌⊎◌, Result, Ok, Err}
use Rattle.lsl_text.specs.declared.Refusal.{Refusal}
use Rattle.lsl_text.specs.declared.Refusal.TheVariants.{Fault, NoMemory}
use Rattle.lsl_bytes.specs.Places.{StandsAt}
use Rattle.lsl_image.specs.declared.faults.ImageFault.{ImageFault}
use Rattle.lsl_image.specs.declared.faults.ImageFault.TheVariants.{Body}
use Rattle.lsl_image.specs.Layout.{Content, Fits, Form, Layout, Ends, Refused, Here, Field, bytes_of}

-- this is in a field of the form at the place, which ends before the next one
abbrev pub Stands : List ℕ → ℕ → (form : Form) → Content form → ℕ → Type 0
Stands bytes place form content next = Fits form content × StandsAt bytes place (bytes_of form content) next

abbrev pub StandsNone : List ℕ → ℕ → Form → Type 0
StandsNone bytes place form = (content : Content form) (behind : ℕ) → Stands bytes place form content behind → ⊥

-- the bytes from the place up to the end are of the layout, and encode this
abbrev pub Gives : {A : Type 0} → List ℕ → Layout A → ℕ → A → ℕ → Type 0
Gives bytes (Ends b) place a end = (a ≡ b) × (end ≡ place)
Gives bytes (Refused fault) place a end = ⊥
Gives bytes (Here next) place a end = Gives bytes (next place) place a end
Gives bytes (Field form next) place a end =
    (content : Content form) × (behind : ℕ) × Stands bytes place form content behind
    × Gives bytes (next content) behind a end

-- the bytes from the place on are of no such layout, and this is the first thing that is wrong: the fault of a test, or
-- a place without a field of the form
abbrev pub Faults : {A : Type 0} → List ℕ → Layout A → ℕ → ImageFault → Type 0
Faults bytes (Ends b) place fault = ⊥
Faults bytes (Refused wrong) place fault = fault ≡ wrong
Faults bytes (Here next) place fault = Faults bytes (next place) place fault
Faults bytes (Field form next) place fault =
    (StandsNone bytes place form × (fault ≡ Body place))
    ⊎ ((content : Content form) × (behind : ℕ) × Stands bytes place form content behind
    × Faults bytes (next content) behind fault)

-- the result of a call that reads a layout at a place: what the bytes encode and the place after them, or the first
-- fault, or out of memory
abbrev pub Reads : {A : Type 0} → List ℕ → Layout A → ℕ → Result (A × ℕ) (Refusal ImageFault) → Type 0
Reads bytes layout place (Ok (a, next)) = Gives bytes layout place a next
Reads bytes layout place (Err (Fault fault)) = Faults bytes layout place fault
Reads bytes layout place (Err NoMemory) = Unit {0}

-- a refusal is this fault, or out of memory
abbrev pub IsRefusedBy : (ImageFault → Type 0) → Refusal ImageFault → Type 0
IsRefusedBy First (Fault fault) = First fault
IsRefusedBy First NoMemory = Unit {0}
