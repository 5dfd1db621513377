-- What is around the fields of a note, read and written.
use Rattle.std.proofs.Common.{◌≡◌, ◌∙◌, refl, sym, ap, subst, arith, ℕ, ◌+◌, ◌-◌, ◌≤◌, ◌==◌, nat_le, Bool, true, false, not, List, [], ◌++◌, length, drop, get_or, Option, Some, None, Result}
use Rattle.std.specs.Prelude.{MatchBool, MatchResult}
use Rattle.std.specs.Result.{IsErrAnd}
use Rattle.std.specs.Str.{bytes_eq}
use Rattle.std.proofs.lemmas.Bool.{eq-eqb, le-leb}
use Rattle.std.proofs.lemmas.List.{length-append, length-drop, take_all}
use Rattle.std.proofs.lemmas.Result.{err_from_is_err_and}
use Rattle.sha2.specs.Sha256.{sha256}
use Rattle.lsl_text.specs.declared.Refusal.{Refusal}
use Rattle.lsl_text.specs.declared.Refusal.TheVariants.{Fault, NoMemory}
use Rattle.lsl_bytes.specs.Fields.{u64_bytes}
use Rattle.lsl_bytes.proofs.NumberLemmas.{length-u64}
use Rattle.lsl_handoff.specs.declared.faults.NoteFault.{NoteFault}
use Rattle.lsl_handoff.specs.declared.faults.NoteFault.TheVariants.{Size, Digest, Body}
use Rattle.lsl_handoff.specs.declared.note.Note.{Note}
use Rattle.lsl_handoff.specs.declared.note.NoteKind.{NoteKind}
use Rattle.lsl_handoff.specs.declared.note.NoteKind.TheVariants.{Offer}
use Rattle.lsl_handoff.specs.NoteBytes.{digested_bytes, fields_bytes, head_bytes, note_bytes, parcel_bytes}
use Rattle.lsl_handoff.specs.NoteFaults.{IsRefusedBy, covered, digest_in, end_fault, first_fault, head_fault, kind_of, outer_fault, part_at, u64_at, unless}
use Rattle.lsl_handoff.specs.Reading.{note_in}
use Rattle.lsl_handoff.proofs.WrittenLemmas.{unless-good}

pub not-true : (b : Bool) → not b ≡ true → b ≡ false
not-true true is = cc
not-true false is = refl

pub not-false : (b : Bool) → not b ≡ false → b ≡ true
not-false true is = refl
not-false false is = cc

-- the size is right: the digests decide
pub outer-digest : (bytes found wanted : List ℕ) (size : ℕ) (same : Bool) → 67 ≤ length bytes → size ≡ u64_at bytes 6
    → size ≡ length bytes → found ≡ sha256 (covered bytes) → wanted ≡ part_at bytes (length bytes - 32) 32
    → bytes_eq found wanted ≡ same → (next : Option NoteFault)
    → outer_fault bytes next ≡ unless same (Digest found wanted) next
outer-digest bytes found wanted size same enough named right digest stands is next =
    let last : wanted ≡ digest_in bytes = stands ∙ take_all 32 (drop (length bytes - 32) bytes)
    (omega (arith, length-drop (length bytes - 32) bytes)) in
    let digests = unless (bytes_eq (sha256 (covered bytes)) (digest_in bytes))
    (Digest (sha256 (covered bytes)) (digest_in bytes)) next in
    unless-good (nat_le 67 (length bytes)) (Size (length bytes) 67)
    (unless (u64_at bytes 6 == length bytes) (Size (length bytes) (u64_at bytes 6)) digests)
    (le-leb 67 (length bytes) enough)
    ∙ unless-good (u64_at bytes 6 == length bytes) (Size (length bytes) (u64_at bytes 6)) digests
    (eq-eqb (u64_at bytes 6) (length bytes) (sym named ∙ right))
    ∙ ap (λ (d : List ℕ). unless (bytes_eq d (digest_in bytes)) (Digest d (digest_in bytes)) next) (sym digest)
    ∙ ap (λ (w : List ℕ). unless (bytes_eq found w) (Digest found w) next) (sym last)
    ∙ ap (λ (b : Bool). unless b (Digest found wanted) next) is

-- the fields end well
pub ends-none : (well : Bool) (fault : Option NoteFault) → MatchBool well (fault ≡ None) (fault ≡ Some (Body 35))
    → well ≡ true → fault ≡ None
ends-none true fault ends is = ends
ends-none false fault ends is = cc

-- a fault of the head is the first of the bytes
head-first : (bytes : List ℕ) (objects regions : ℕ) (fields : List ℕ) (e : Refusal NoteFault)
    → fields ≡ covered bytes → ((next : Option NoteFault) → outer_fault bytes next ≡ next)
    → IsRefusedBy (λ fault. (next : Option NoteFault) → head_fault fields objects regions next ≡ Some fault) e
    → IsRefusedBy (λ fault. first_fault bytes objects regions ≡ Some fault) e
head-first bytes objects regions fields (Fault fault) are passes refused =
    let rest = end_fault (kind_of (get_or (covered bytes) 14 0)) (covered bytes) in
    passes (head_fault (covered bytes) objects regions rest)
    ∙ ap (λ (f : List ℕ). head_fault f objects regions rest) (sym are) ∙ refused rest
head-first bytes objects regions fields NoMemory are passes refused = tt

pub head-refused : (bytes : List ℕ) (objects regions : ℕ) (fields : List ℕ) (e : Refusal NoteFault)
    (r : Result Note (Refusal NoteFault)) → fields ≡ covered bytes
    → ((next : Option NoteFault) → outer_fault bytes next ≡ next)
    → IsRefusedBy (λ fault. (next : Option NoteFault) → head_fault fields objects regions next ≡ Some fault) e
    → IsErrAnd r (λ y. y ≡ e)
    → MatchResult r (λ note. (first_fault bytes objects regions ≡ None) × (note ≡ note_in bytes))
    (IsRefusedBy (λ fault. first_fault bytes objects regions ≡ Some fault))
head-refused bytes objects regions fields e r are passes refused exit =
    let same = err_from_is_err_and r exit in
    rw (same.1, same.2) (head-first bytes objects regions fields e are passes refused)

pub offer-size : (kind : NoteKind) (parcel : List ℕ) (n : ℕ) → kind ≡ Offer → n ≡ length parcel
    → 8 + n ≡ length (parcel_bytes kind parcel)
offer-size kind parcel n is long =
    let e : 8 + n ≡ length (parcel_bytes Offer parcel) =
    omega (arith, long, length-append (u64_bytes (length parcel)) parcel, length-u64 (length parcel)) in
    subst (λ (k : NoteKind). 8 + n ≡ length (parcel_bytes k parcel)) (sym is) e

-- the head, the fields and the digest were appended to nothing
pub written-whole : (note : Note) (none head all digest new : List ℕ) (size : ℕ) → none ≡ []
    → size ≡ 14 + length (fields_bytes note) + 32 → head ≡ none ++ head_bytes size → all ≡ head ++ fields_bytes note
    → digest ≡ sha256 all → new ≡ all ++ digest → new ≡ note_bytes note
unfolding note_bytes
written-whole note none head all digest new size nothing whole front then is_digest is_new =
    let first : head ≡ head_bytes (14 + length (fields_bytes note) + 32) =
    front ∙ ap (λ (t : List ℕ). t ++ head_bytes size) nothing ∙ ap head_bytes whole in
    is_new ∙ ap (λ (t : List ℕ). all ++ t) is_digest
    ∙ ap digested_bytes (then ∙ ap (λ (t : List ℕ). t ++ fields_bytes note) first)
