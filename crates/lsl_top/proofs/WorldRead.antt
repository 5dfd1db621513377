-- From what was read of a world file to what its shelf holds.
use Rattle.std.proofs.Common.{◌≡◌, ℕ, ◌<◌, List, length, Option, Some, None, Ok, Err, cond, Bool, inl, inr, refl, sym, ap, ◌∙◌, subst, arith}
use Rattle.std.proofs.lemmas.List.{take_all, length-take}
use Rattle.std.proofs.lemmas.Bool.{cases_lt, lt-leb}
use Rattle.lsl_ports.specs.Shelf.{Files, IsHead, IsHeadOf, head_of}
use Rattle.lsl_lines.specs.Lines.{lines_of}
use Rattle.lsl_lines.specs.Reading.{begun}
use Rattle.lsl_lines.specs.World.{FileFirst, IsWorld, fault_at, world_from, world_of}
use Rattle.lsl_lines.specs.declared.faults.FileFault.{FileFault}
use Rattle.lsl_lines.specs.declared.faults.FileKind.TheVariants.{TooLong}
use Rattle.lsl_lines.specs.declared.file.WorldFile.{WorldFile}
use Rattle.lsl_top.specs.Held.{Holds}

long-world : (text : List ℕ) → 1048576 < length text → world_of text ≡ Err (fault_at 0 TooLong)
unfolding world_of
long-world text long =
    ap (λ (b : Bool). cond b (world_from 1 begun (lines_of text)) (Err (fault_at 0 TooLong)))
    (lt-leb (length text) 1048576 long)

-- what is found of the bytes that were read holds of the file
pub record IsWorldReadOf (bytes file : List ℕ) : Type 0 where
  pub good : (world : WorldFile) → IsWorld bytes world → IsWorld file world
  pub first : (fault : FileFault) → FileFirst bytes fault → FileFirst file fault

same-read : (bytes file : List ℕ) → bytes ≡ file → IsWorldReadOf bytes file
same-read bytes file e = record {
  good = λ world h. subst (λ (z : List ℕ). IsWorld z world) e h;
  first = λ fault h. subst (λ (z : List ℕ). FileFirst z fault) e h;
}

no_world : (text : List ℕ) (world : WorldFile) → 1048576 < length text → IsWorld text world → ⊥
no_world text world long h =
    let both : Err (fault_at 0 TooLong) ≡ Ok world = sym (long-world text long) ∙ h in cc

long-read : (bytes file : List ℕ) → 1048576 < length bytes → 1048576 < length file → IsWorldReadOf bytes file
long-read bytes file many long = record {
  good = λ world h. absurd (no_world bytes world many h);
  first = λ fault e. long-world file long ∙ sym (long-world bytes many) ∙ e;
}

world-head : (file bytes : List ℕ) → bytes ≡ head_of 1048576 file → IsWorldReadOf bytes file
world-head file bytes e = elim (cases_lt 1048576 (length file)) [
  | inl long ↦ long-read bytes file (omega (arith, ap length e, length-take 1048577 file)) long
  | inr short ↦ same-read bytes file (e ∙ take_all 1048577 file (omega arith))
]

pub world-read : (held : Option Files) (name bytes : List ℕ) → IsHead held name 1048576 bytes
    → (file : List ℕ) × Holds held name file × IsWorldReadOf bytes file
world-read None name bytes h = (bytes, tt, same-read bytes bytes refl)
world-read (Some files) name bytes h = go (files name) refl h
  where
    go : (found : Option (List ℕ)) → files name ≡ found → IsHeadOf 1048576 found bytes
        → (file : List ℕ) × Holds (Some files) name file × IsWorldReadOf bytes file
    go None e h = absurd h
    go (Some file) e h = (file, e, world-head file bytes h)
