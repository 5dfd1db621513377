-- What a play is run with, or why it isn't run: for private functions.
use Rattle.std.specs.Prelude.{◌≡◌, ℕ, ◌⊎◌, List, length}
use Rattle.lsl_text.specs.declared.Refusal.{Refusal}
use Rattle.lsl_text.specs.declared.Refusal.TheVariants as refusals
use Rattle.lsl_build.specs.Codes.{AreCodesOf}
use Rattle.lsl_build.specs.declared.faults.BuildFault.{BuildFault}
use Rattle.lsl_code.specs.declared.woven_units.Woven.{Woven as Code}
use Rattle.lsl_notes.specs.declared.faults.CardFault.{CardFault}
use Rattle.lsl_tree.specs.Program.{Program}
use Rattle.lsl_world.specs.Codes.{AreRunBy}
use Rattle.lsl_top.specs.Answers.{Answer, note_refused, script_refused}
use Rattle.lsl_top.specs.Notes.{AreCards, FirstBad, IsBadAt, notecards_of}
use Rattle.lsl_top.specs.Plays.{Play, Read}
use Rattle.lsl_top.specs.Scripts.{AreAccepted, FirstRefused, IsRefusedAt}
use Rattle.lsl_top.specs.declared.building.Refused.{Refused}
use Rattle.lsl_top.specs.declared.noting.BadCard.{BadCard}
use Rattle.lsl_top.specs.declared.preparing.Cast.{Cast}
use Rattle.lsl_top.specs.declared.preparing.Unfit.{Unfit}
use Rattle.lsl_top.specs.declared.preparing.Unfit.TheVariants.{Script, Note}

-- the code of the texts, and the notecards of the world's lines
pub record IsCast (play : Play) (read : Read) (cast : Cast) : Type 0 where
  pub programs : List Program
  pub accepted : AreAccepted read.texts programs
  pub codes : AreCodesOf read.texts cast.units
  pub len : length cast.units ≡ length read.texts
  pub run : AreRunBy programs cast.units
  pub cards : List (List (List ℕ))
  pub are_cards : AreCards read.notes cards
  pub cast_cards : cast.cards ≡ notecards_of play.world.notes cards

-- the texts are accepted, and have code
abbrev pub AreBuilt : List (List ℕ) → Type 0
AreBuilt texts = (programs : List Program) × (codes : List Code) × AreAccepted texts programs × AreCodesOf texts codes

-- the first script isn't accepted, or all are, and the first notecard isn't one
abbrev pub IsUnfit : Read → Unfit → Type 0
IsUnfit read (Script refused) = IsRefusedAt read.texts refused.place refused.fault
IsUnfit read (Note bad) = AreBuilt read.texts × IsBadAt read.notes bad.place bad.fault

abbrev pub of_script : Refusal Refused → Refusal Unfit
of_script (refusals.Fault refused) = refusals.Fault (Script refused)
of_script refusals.NoMemory = refusals.NoMemory

abbrev pub of_note : Refusal BadCard → Refusal Unfit
of_note (refusals.Fault bad) = refusals.Fault (Note bad)
of_note refusals.NoMemory = refusals.NoMemory

-- the answer to a play that isn't run
abbrev pub Refuses : Play → Read → Answer → Type 0
Refuses play read answer =
    ((name : List ℕ) × (fault : BuildFault) × FirstRefused play.names read.texts name fault
    × (answer ≡ script_refused name fault))
    ⊎ (AreBuilt read.texts × ((name : List ℕ) × (fault : CardFault) × FirstBad play.cards read.notes name fault
    × (answer ≡ note_refused name fault)))
