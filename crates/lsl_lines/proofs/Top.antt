-- What is answered, in the words of the public contract.
use Rattle.std.proofs.Common.{◌≡◌, ℕ, List, Result, Ok, Err, refl, sym, ap, ◌∙◌, ◌⊎◌, inl, inr}
use Rattle.std.specs.Prelude.{IfOk, IfErr, MatchResult}
use Rattle.lsl_text.specs.declared.Refusal.{Refusal}
use Rattle.lsl_text.specs.declared.Refusal.TheVariants.{Fault, NoMemory}
use Rattle.lsl_lines.specs.Reads.{GivesFile}
use Rattle.lsl_lines.specs.World.{FileFirst, IsRefused, IsWorld, world_of}
use Rattle.lsl_lines.specs.declared.faults.FileFault.{FileFault}
use Rattle.lsl_lines.specs.declared.file.WorldFile.{WorldFile}

pub found_by : (text : List ℕ) (result : Result WorldFile (Refusal FileFault))
    → GivesFile result (world_of text) → IfOk result (IsWorld text)
found_by text (Ok file) h = h
found_by text (Err refusal) h = tt

pub first_by : (text : List ℕ) (result : Result WorldFile (Refusal FileFault))
    → GivesFile result (world_of text) → IfErr result (IsRefused text)
first_by text (Ok file) h = tt
first_by text (Err (Fault fault)) h = h
first_by text (Err NoMemory) h = tt

pub every_by : (text : List ℕ) (result : Result WorldFile (Refusal FileFault))
    → GivesFile result (world_of text) → (file : WorldFile) → IsWorld text file
    → MatchResult result (λ found. found ≡ file) (λ refusal. refusal ≡ NoMemory)
every_by text (Ok found) h file p = ap value (sym h ∙ p)
  where
    value : Result WorldFile FileFault → WorldFile
    value (Ok v) = v
    value (Err fault) = found
every_by text (Err (Fault fault)) h file p = let both : Err fault ≡ Ok file = sym h ∙ p in absurd (cc)
every_by text (Err NoMemory) h file p = refl

pub only_by : (text : List ℕ) (result : Result WorldFile (Refusal FileFault))
    → GivesFile result (world_of text) → (fault : FileFault) → FileFirst text fault
    → MatchResult result (λ _. ⊥) (λ refusal. (refusal ≡ Fault fault) ⊎ (refusal ≡ NoMemory))
only_by text (Ok found) h fault p = let both : Ok found ≡ Err fault = sym h ∙ p in cc
only_by text (Err (Fault found)) h fault p = inl (ap value (sym h ∙ p))
  where
    value : Result WorldFile FileFault → Refusal FileFault
    value (Ok file) = NoMemory
    value (Err v) = Fault v
only_by text (Err NoMemory) h fault p = inr refl
