-- What is wrong first with bytes that aren't a note. The fields but the last have their places.
use Rattle.std.specs.Prelude.{◌≡◌, ℕ, ◌+◌, ◌-◌, ◌==◌, nat_le, Bool, ◌&&◌, if◌then◌else◌, ◌⊎◌, List, length, take, drop, slice_index, codes, Option, Some, None, MatchResult, Result}
use Rattle.std.specs.Int.{w16, w32, w64, from_be_bytes}
use Rattle.std.specs.Str.{bytes_eq}
use Rattle.sha2.specs.Sha256.{sha256}
use Rattle.lsl_text.specs.declared.Refusal.{Refusal}
use Rattle.lsl_text.specs.declared.Refusal.TheVariants.{Fault, NoMemory}
use Rattle.lsl_handoff.specs.declared.faults.NoteFault.{NoteFault}
use Rattle.lsl_handoff.specs.declared.faults.NoteFault.TheVariants.{Size, Digest, Version, Body}
use Rattle.lsl_handoff.specs.declared.note.Note.{Note}
use Rattle.lsl_handoff.specs.declared.note.NoteKind.{NoteKind}
use Rattle.lsl_handoff.specs.declared.note.NoteKind.TheVariants.{Offer, Taken, Cancel, Refused}

-- n bytes at a place, and the numbers that they are
abbrev pub part_at : List ℕ → ℕ → ℕ → List ℕ
part_at bytes place n = take n (drop place bytes)

abbrev pub u16_at : List ℕ → ℕ → ℕ
u16_at bytes place = from_be_bytes w16 (part_at bytes place 2)

abbrev pub u32_at : List ℕ → ℕ → ℕ
u32_at bytes place = from_be_bytes w32 (part_at bytes place 4)

abbrev pub u64_at : List ℕ → ℕ → ℕ
u64_at bytes place = from_be_bytes w64 (part_at bytes place 8)

-- the digest follows the fields, and is theirs
abbrev pub covered : List ℕ → List ℕ
covered bytes = take (length bytes - 32) bytes

abbrev pub digest_in : List ℕ → List ℕ
digest_in bytes = drop (length bytes - 32) bytes

-- a fault where a test fails, and otherwise what is wrong next
abbrev pub unless : Bool → NoteFault → Option NoteFault → Option NoteFault
unless good fault next = if good then next else Some fault

-- the size of the whole, and the digest; then this
abbrev pub outer_fault : List ℕ → Option NoteFault → Option NoteFault
outer_fault bytes next =
    unless (nat_le 67 (length bytes)) (Size (length bytes) 67)
    (unless (u64_at bytes 6 == length bytes) (Size (length bytes) (u64_at bytes 6))
    (unless (bytes_eq (sha256 (covered bytes)) (digest_in bytes)) (Digest (sha256 (covered bytes)) (digest_in bytes))
    next))

abbrev pub is_kind : ℕ → Bool
is_kind n = nat_le 1 n && nat_le n 4

abbrev pub is_one_of : ℕ → ℕ → Bool
is_one_of most n = nat_le 1 n && nat_le n most

-- the letters, the version, the kind, the object and the two regions; then this
abbrev pub head_fault : List ℕ → ℕ → ℕ → Option NoteFault → Option NoteFault
head_fault fields objects regions next =
    unless (bytes_eq (part_at fields 0 4) (codes "LSLN")) (Body 0)
    (unless (u16_at fields 4 == 1) (Version (u16_at fields 4))
    (unless (is_kind (slice_index fields 14)) (Body 14)
    (unless (is_one_of objects (u32_at fields 15)) (Body 15)
    (unless (is_one_of regions (u32_at fields 27)) (Body 27)
    (unless (is_one_of regions (u32_at fields 31)) (Body 31) next)))))

-- an offer's count is that of the bytes after it, and another note ends here
abbrev pub end_fault : NoteKind → List ℕ → Option NoteFault
end_fault Offer fields =
    unless (nat_le 43 (length fields)) (Body 35) (unless (43 + u64_at fields 35 == length fields) (Body 35) None)
end_fault Taken fields = unless (length fields == 35) (Body 35) None
end_fault Cancel fields = unless (length fields == 35) (Body 35) None
end_fault Refused fields = unless (length fields == 35) (Body 35) None

abbrev pub kind_of : ℕ → NoteKind
kind_of n = if n == 1 then Offer else if n == 2 then Taken else if n == 3 then Cancel else Refused

-- what is wrong first with the bytes, if anything is
abbrev pub first_fault : List ℕ → ℕ → ℕ → Option NoteFault
first_fault bytes objects regions =
    outer_fault bytes (head_fault (covered bytes) objects regions
    (end_fault (kind_of (slice_index (covered bytes) 14)) (covered bytes)))

-- a refusal is this fault, or out of memory
abbrev pub IsRefusedBy : (NoteFault → Type 0) → Refusal NoteFault → Type 0
IsRefusedBy First (Fault fault) = First fault
IsRefusedBy First NoMemory = Unit {0}

-- what the bytes are is given, unless memory runs out
abbrev pub GivesThat : Result Note (Refusal NoteFault) → Note → Type 0
GivesThat result note = MatchResult result (λ found. found ≡ note) (λ refusal. refusal ≡ NoMemory)

-- bytes with this first fault are refused with it, unless memory runs out
abbrev pub RefusesWith : Result Note (Refusal NoteFault) → NoteFault → Type 0
RefusesWith result fault =
    MatchResult result (λ found. ⊥) (λ refusal. (refusal ≡ Fault fault) ⊎ (refusal ≡ NoMemory))
