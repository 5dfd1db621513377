-- What came back as bytes, as the notes that were handed over.
use Rattle.std.proofs.Common.{◌≡◌, ◌∙◌, ◌⊎◌, ◌<◌, ◌^◌, refl, ap, sym, subst, arith, inl, inr, ℕ, Bool, true, false, if◌then◌else◌, List, [], ◌∷◌, ◌++◌, length, get_or, Option, Some, None}
use Rattle.std.specs.Prelude.{Contains}
use Rattle.std.specs.Str.{bytes_eq}
use Rattle.std.proofs.lemmas.List.Elements.{Contains-append_cases, Contains-append_right}
use Rattle.std.proofs.lemmas.Slice.Eq.{bytes_eq-Decides}
use Rattle.lsl_handoff.specs.declared.note.Note.{Note}
use Rattle.lsl_handoff.specs.DriveLaws.{WasHanded}
use Rattle.lsl_handoff.specs.Handovers.{IsHeard, IsReadAs, Passes}
use Rattle.lsl_handoff.specs.NoteBytes.{IsNote, IsNoteOf, note_bytes}
use Rattle.lsl_handoff.specs.NoteLaws.{AreCounts}
use Rattle.lsl_handoff.proofs.SealedLemmas.{sealed}
use Rattle.lsl_handoff.proofs.WrittenLemmas.{written-is}
use Rattle.lsl_image.specs.Images.{IsIntact}
use Rattle.lsl_world.specs.Lossy.{WasCarried, bytes_of, heard, note_among}

-- a note's bytes are intact
pub note-intact : (objects regions : ℕ) (bytes : List ℕ) (note : Note) → IsNoteOf objects regions bytes note
    → IsIntact bytes
note-intact objects regions bytes note read =
    let it = sealed objects regions bytes note read in
    ((it.0.0, (it.0.1, it.0.2)), it.1)

-- ---- which note is heard

-- a note among them has these bytes, where one is found
pub record IsAmongThem (notes : List Note) (bytes : List ℕ) (note : Note) : Type 0 where
  pub there : Contains notes note
  pub bytes_are : note_bytes note ≡ bytes

found-later : (first note : Note) (notes : List Note) (bytes : List ℕ) → IsAmongThem notes bytes note
    → IsAmongThem (first ∷ notes) bytes note
found-later first note notes bytes is =
    record { there = Contains-append_right (first ∷ []) notes note is.there; bytes_are = is.bytes_are }

pub among-found : (notes : List Note) (bytes : List ℕ) (note : Note) → note_among notes bytes ≡ Some note
    → IsAmongThem notes bytes note
among-found [] bytes note e = absurd (cc)
among-found (first ∷ notes) bytes note e =
    go (bytes_eq (note_bytes first) bytes) refl e (λ f. among-found notes bytes note f)
  where
    go : (b : Bool) → bytes_eq (note_bytes first) bytes ≡ b
        → (if b then Some first else note_among notes bytes) ≡ Some note
        → (note_among notes bytes ≡ Some note → IsAmongThem notes bytes note)
        → IsAmongThem (first ∷ notes) bytes note
    go true same f next =
        let is : first ≡ note = cc in
        record {
          there = (0, omega arith, is);
          bytes_are = subst (λ (n : Note). note_bytes n ≡ bytes) is
              ((bytes_eq-Decides (note_bytes first) bytes).0 same);
        }
    go false same f next = found-later first note notes bytes (next f)

pub among-none : (notes : List Note) (bytes : List ℕ) → note_among notes bytes ≡ None
    → Contains (bytes_of notes) bytes → ⊥
among-none [] bytes e (k, lt, at) = omega (arith, lt)
among-none (first ∷ notes) bytes e has =
    go (bytes_eq (note_bytes first) bytes) refl e (λ f more. among-none notes bytes f more)
    (Contains-append_cases (note_bytes first ∷ []) (bytes_of notes) bytes has)
  where
    go : (b : Bool) → bytes_eq (note_bytes first) bytes ≡ b
        → (if b then Some first else note_among notes bytes) ≡ None
        → (note_among notes bytes ≡ None → Contains (bytes_of notes) bytes → ⊥)
        → Contains (note_bytes first ∷ []) bytes ⊎ Contains (bytes_of notes) bytes → ⊥
    go true same f next has = let no : Some first ≡ None = f in absurd (cc)
    go false same f next (inl (k, lt, at)) =
        let none : k ≡ 0 = omega (arith, lt) in
        let is : note_bytes first ≡ bytes =
        subst (λ (i : ℕ). get_or (note_bytes first ∷ []) i bytes ≡ bytes) none at in
        let both : false ≡ true = sym same ∙ (bytes_eq-Decides (note_bytes first) bytes).1 is in absurd (cc)
    go false same f next (inr more) = next f more

module _ (objects regions : ℕ) (ranges : AreCounts objects regions) (Takes : Note → Type 0) where
  -- notes that may be delivered, none of which is too long
  pub record IsKnown (note : Note) : Type 0 where
    pub is : IsNote objects regions note
    pub passes : Passes Takes note.kind note
    pub short : length (note_bytes note) < 2 ^ 64

  abbrev pub AreKnown : List Note → Type 0
  AreKnown notes = (note : Note) → Contains notes note → IsKnown note

  pub heard-is : (notes : List Note) → AreKnown notes → (back : Option (List ℕ)) (o : Option Note)
      → IsHeard objects regions Takes back o → WasCarried (bytes_of notes) back → heard notes back ≡ o
  heard-is notes known None None is was = refl
  heard-is notes known None (Some note) is was = absurd is
  heard-is notes known (Some bytes) o is was = go (note_among notes bytes) refl o is
    where
      of-note : (note : Note) → IsAmongThem notes bytes note → IsReadAs objects regions Takes bytes note
      of-note note found =
          let one = known note found.there in (
            record {
              is = one.is;
              bytes_are = sym found.bytes_are;
              fits = subst (λ (z : List ℕ). length z < 2 ^ 64) found.bytes_are one.short;
            },
            one.passes,
          )

      go : (found : Option Note) → note_among notes bytes ≡ found → (o : Option Note)
          → IsHeard objects regions Takes (Some bytes) o → note_among notes bytes ≡ o
      go None e None is = e
      go None e (Some note) is = absurd (elim was [
        | inl has ↦ among-none notes bytes e has
        | inr not ↦ not (note-intact objects regions bytes note is.0)
      ])
      go (Some note) e None is = absurd (is note (of-note note (among-found notes bytes note e)))
      go (Some note) e (Some other) is =
          e ∙ ap (λ (n : Note). Some n)
          (sym (written-is objects regions ranges.0 ranges.1 bytes is.0.fits note
          (of-note note (among-found notes bytes note e)).0)
          ∙ written-is objects regions ranges.0 ranges.1 bytes is.0.fits other is.0)

-- ---- what is heard was handed over

among-more : (note : Note) (notes : List Note) (o : Option Note) → WasHanded notes o → WasHanded (note ∷ notes) o
among-more note notes None was = tt
among-more note notes (Some n) was = Contains-append_right (note ∷ []) notes n was

among-handed : (notes : List Note) (bytes : List ℕ) → WasHanded notes (note_among notes bytes)
among-handed [] bytes = tt
among-handed (note ∷ notes) bytes = go (bytes_eq (note_bytes note) bytes) (among-handed notes bytes)
  where
    go : (b : Bool) → WasHanded notes (note_among notes bytes)
        → WasHanded (note ∷ notes) (if b then Some note else note_among notes bytes)
    go true was = (0, omega arith, refl)
    go false was = among-more note notes (note_among notes bytes) was

pub heard-handed : (notes : List Note) (back : Option (List ℕ)) → WasHanded notes (heard notes back)
heard-handed notes None = tt
heard-handed notes (Some bytes) = among-handed notes bytes

pub one-more : (handed : List Note) (n note : Note) → Contains (handed ++ n ∷ []) note
    → Contains handed note ⊎ (n ≡ note)
one-more handed n note is = go (Contains-append_cases handed (n ∷ []) note is) where
  go : Contains handed note ⊎ Contains (n ∷ []) note → Contains handed note ⊎ (n ≡ note)
  go (inl old) = inl old
  go (inr (k, lt, e)) =
      let none : k ≡ 0 = omega (arith, lt) in
      inr (subst (λ (i : ℕ). get_or (n ∷ []) i note ≡ note) none e)
