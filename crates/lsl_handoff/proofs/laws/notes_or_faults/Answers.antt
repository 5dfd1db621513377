use Rattle.std.proofs.Common.{arith, refl, ℕ, zero, suc, ◌<◌, List, [], ◌∷◌, get_or}
use Rattle.std.specs.List.{AllByRecursion}
use Rattle.lsl_bytes.specs.Fields.{FitsU8}
use Rattle.lsl_handoff.specs.Reading.{note_in}
use Rattle.lsl_handoff.proofs.FaultlessLemmas.{faultless-is}
use Rattle.lsl_handoff.proofs.WrittenLemmas.{written-faultless}
use Rattle.lsl_handoff.proofs.laws.notes_or_faults.Goals as goal

all-below : (bytes : List ℕ) → AllByRecursion FitsU8 bytes → (i : ℕ) → get_or bytes i 0 < 256
all-below [] all i = omega arith
all-below (b ∷ bytes) all zero = all.0
all-below (b ∷ bytes) all (suc i) = all-below bytes all.1 i

pub returns : goal.returns
returns c = record {
  spelled = λ objects regions note is fits. record { is = is; bytes_are = refl; fits = fits };
  notes = λ objects regions bytes note ranges it.
      written-faultless objects regions ranges.0 ranges.1 bytes it.fits note it;
  others = λ objects regions bytes all none.
      (note_in bytes, faultless-is objects regions bytes (all-below bytes all) none);
}
