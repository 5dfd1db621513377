-- What a call returns that reads the bytes of a note.
use Rattle.std.proofs.Common.{◌≡◌, ◌∙◌, sym, refl, subst, ℕ, ◌<◌, ◌^◌, List, length, get_or, Some, None, Result, Ok, Err}
use Rattle.std.specs.Prelude.{IfOk, MatchResult}
use Rattle.lsl_text.specs.declared.Refusal.{Refusal}
use Rattle.lsl_text.specs.declared.Refusal.TheVariants.{Fault, NoMemory}
use Rattle.lsl_handoff.specs.declared.faults.NoteFault.{NoteFault}
use Rattle.lsl_handoff.specs.declared.note.Note.{Note}
use Rattle.lsl_handoff.specs.NoteBytes.{IsNoteOf}
use Rattle.lsl_handoff.specs.NoteFaults.{GivesThat, IsRefusedBy, first_fault}
use Rattle.lsl_handoff.specs.Reading.{note_in}
use Rattle.lsl_handoff.proofs.FaultlessLemmas.{faultless-is}
use Rattle.lsl_handoff.proofs.WrittenLemmas.{written-faultless, written-is}

module _ (objects regions : ℕ) (bytes : List ℕ) where
  -- the content of the bytes, or their first fault
  abbrev pub Answers : Result Note (Refusal NoteFault) → Type 0
  Answers result = MatchResult result (λ note. (first_fault bytes objects regions ≡ None) × (note ≡ note_in bytes))
      (IsRefusedBy (λ fault. first_fault bytes objects regions ≡ Some fault))

  pub found-of : ((i : ℕ) → get_or bytes i 0 < 256) → (result : Result Note (Refusal NoteFault)) → Answers result
      → IfOk result (λ note. IsNoteOf objects regions bytes note)
  found-of small (Ok note) is = subst (IsNoteOf objects regions bytes) (sym is.1)
      (faultless-is objects regions bytes small is.0)
  found-of small (Err refusal) is = tt

  module _ (object_range : objects < 2 ^ 32) (region_range : regions < 2 ^ 32) (few : length bytes < 2 ^ 64) where
    pub every-of : (result : Result Note (Refusal NoteFault)) → Answers result → (note : Note)
        → IsNoteOf objects regions bytes note → GivesThat result note
    every-of (Ok found) is note it =
        is.1 ∙ written-is objects regions object_range region_range bytes few note it
    every-of (Err (Fault fault)) is note it =
        let none = written-faultless objects regions object_range region_range bytes few note it in
        cc
    every-of (Err NoMemory) is note it = refl
