-- The bytes of a note include their number, and end with the digest of all before it.
use Rattle.std.proofs.Common.{◌≡◌, ◌∙◌, refl, sym, ap, arith, ℕ, ◌≤◌, List, length, drop}
use Rattle.sha2.specs.Sha256.{sha256}
use Rattle.lsl_bytes.specs.Fields.{FitsU64, u64_bytes}
use Rattle.lsl_bytes.specs.Places.{StandsAt}
use Rattle.lsl_bytes.proofs.NumberLemmas.{length-u64}
use Rattle.lsl_handoff.specs.declared.note.Note.{Note}
use Rattle.lsl_handoff.specs.NoteBytes.{IsNoteOf}
use Rattle.lsl_handoff.specs.NoteFaults.{covered, digest_in}
use Rattle.lsl_handoff.proofs.PartLemmas.{glue}
use Rattle.lsl_handoff.proofs.WrittenLemmas.{covered-is, digest-is, long-enough, size-part}

abbrev pub IsSealed : List ℕ → Type 0
IsSealed bytes =
    ((46 ≤ length bytes) × FitsU64 (length bytes) × StandsAt bytes 6 (u64_bytes (length bytes)) 14)
    × (digest_in bytes ≡ sha256 (covered bytes))

pub sealed : (objects regions : ℕ) (bytes : List ℕ) (note : Note) → IsNoteOf objects regions bytes note
    → IsSealed bytes
sealed objects regions bytes note it =
    let enough = long-enough bytes it.fits note it.bytes_are in (
      (
        omega (arith, enough),
        it.fits,
        record {
          parts = glue bytes (u64_bytes (length bytes)) (drop 14 bytes) 6 8
              (size-part bytes it.fits note it.bytes_are) refl;
          behind = omega (arith, length-u64 (length bytes));
          within = omega (arith, enough);
        },
      ),
      digest-is bytes it.fits note it.bytes_are ∙ ap sha256 (sym (covered-is bytes it.fits note it.bytes_are)),
    )
