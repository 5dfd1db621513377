-- How long the fields of a note are.
use Rattle.std.proofs.Common.{◌≡◌, arith, ◌+◌, ◌++◌, length, length-append}
use Rattle.lsl_bytes.specs.Fields.{u8_bytes, u32_bytes, u64_bytes}
use Rattle.lsl_bytes.proofs.NumberLemmas.{length-u8, length-u32, length-u64}
use Rattle.lsl_handoff.specs.declared.note.Note.{Note}
use Rattle.lsl_handoff.specs.NoteBytes.{fields_bytes, kind_number, parcel_bytes}

pub length-fields : (note : Note) → length (fields_bytes note) ≡ 21 + length (parcel_bytes note.kind note.parcel)
unfolding fields_bytes
length-fields note =
    let a = u8_bytes (kind_number note.kind) in
    let b = u32_bytes note.object in
    let c = u64_bytes note.trip in
    let d = u32_bytes note.from in
    let e = u32_bytes note.to in
    let p = parcel_bytes note.kind note.parcel in
    omega (
      arith,
      length-append (a ++ b ++ c ++ d ++ e) p,
      length-append (a ++ b ++ c ++ d) e,
      length-append (a ++ b ++ c) d,
      length-append (a ++ b) c,
      length-append a b,
      length-u8 (kind_number note.kind),
      length-u32 note.object,
      length-u64 note.trip,
      length-u32 note.from,
      length-u32 note.to,
    )
