-- Bytes that need no escape in quotes.
use Rattle.std.proofs.Common.{append_assoc, length-drop, Result, Ok, Err, ◌≡◌, ℕ, ◌+◌, ◌≤◌, ◌<◌, zero, suc, Bool, true, false, ◌==◌, ◌||◌, cond, List, [], ◌∷◌, ◌++◌, Option, None, Some, length, take, drop, refl, sym, ap, subst, append-nil, ◌∙◌, arith}
use Rattle.std.specs.Prelude.{MatchOption, OnOk, slice_index}
use Rattle.std.specs.Result.{is_ok}
use Rattle.std.specs.List.{flat_map}
use Rattle.std.proofs.Math.Seq.{take-add}
use Rattle.std.proofs.lemmas.Grind.{flat_map-append}
use Rattle.std.proofs.lemmas.List.{get_or-drop, take-append-drop}
use Rattle.std.proofs.lemmas.List.Concat.{flat_map-cons}
use Rattle.memchr.specs.Find.{IsFirstByte, Nowhere, Passes, is_byte3}
use Rattle.lsl_text.specs.Quoted.{EscapesAt, escaped}

-- a byte that the search passes needs no escape
escaped-plain : (b : ℕ) → ¬ (is_byte3 34 92 10 b ≡ true) → escaped b ≡ b ∷ []
escaped-plain b plain = cases (b == 34) (b == 92) (b == 10) plain
  where
    cases : (quote backslash feed : Bool) → ¬ ((quote || backslash || feed) ≡ true)
        → cond (quote || backslash) (92 ∷ b ∷ []) (cond feed (92 ∷ 110 ∷ []) (b ∷ [])) ≡ b ∷ []
    cases true backslash feed plain = absurd (plain refl)
    cases false true feed plain = absurd (plain refl)
    cases false false true plain = absurd (plain refl)
    cases false false false plain = refl

-- a text of such bytes alone is itself
escaped-run : (text : List ℕ) → Nowhere (Passes (is_byte3 34 92 10) text) 0 (length text) → flat_map escaped text ≡ text
escaped-run [] plain = refl
escaped-run (b ∷ text) plain =
    flat_map-cons escaped b text
    ∙ ap (λ (part : List ℕ). part ++ flat_map escaped text) (escaped-plain b (plain 0 (omega arith) (omega arith)))
    ∙ ap (λ (part : List ℕ). b ∷ part) (escaped-run text (λ i low high. plain (suc i) (omega arith) (omega arith)))

-- and the bytes up to one that isn't are themselves before it
escaped-to : (text : List ℕ) (k : ℕ) → k < length text → Nowhere (Passes (is_byte3 34 92 10) text) 0 k
    → flat_map escaped (take (suc k) text) ≡ take k text ++ escaped (slice_index text k)
escaped-to [] k within plain = absurd (omega arith)
escaped-to (b ∷ text) zero within plain = flat_map-cons escaped b [] ∙ append-nil (escaped b)
escaped-to (b ∷ text) (suc k) within plain =
    flat_map-cons escaped b (take (suc k) text)
    ∙ ap (λ (part : List ℕ). part ++ flat_map escaped (take (suc k) text))
    (escaped-plain b (plain 0 (omega arith) (omega arith)))
    ∙ ap (λ (part : List ℕ). b ∷ part)
    (escaped-to text k (omega arith) (λ i low high. plain (suc i) (omega arith) (omega arith)))

pub found : (text : List ℕ) (r : Option ℕ) → IsFirstByte (is_byte3 34 92 10) text r
    → MatchOption r (flat_map escaped text ≡ text) (λ place. EscapesAt text place)
found text None h = escaped-run text h
found text (Some k) h =
    let next : suc k ≡ k + 1 = omega arith in record {
      within = h.0.high;
      run =
          subst (λ (n : ℕ). flat_map escaped (take n text) ≡ take k text ++ escaped (slice_index text k)) next
          (escaped-to text k h.0.high h.0.before);
    }

-- one more run, and the byte after it
pub run_more : (text rest run old out mid new : List ℕ) (d k : ℕ) → EscapesAt rest k
    → out ≡ old ++ flat_map escaped (take d text)
    → mid ≡ out ++ run → new ≡ mid ++ escaped (slice_index text (d + k)) → rest ≡ drop d text
    → run ≡ take k (drop d text)
    → d ≤ length text → (d + (k + 1) ≤ length text) × (new ≡ old ++ flat_map escaped (take (d + (k + 1)) text))
run_more text rest run old out mid new d k at was pushed ended same cut low =
    let bytes = flat_map escaped (take d text) in
    let byte = escaped (slice_index text (d + k)) in
    let tail : flat_map escaped (take (k + 1) (drop d text)) ≡ run ++ byte =
    ap (λ (t : List ℕ). flat_map escaped (take (k + 1) t)) (sym same)
    ∙ at.run
    ∙ ap (λ (t : List ℕ). take k t ++ escaped (slice_index t k)) same
    ∙ ap (λ (part : List ℕ). part ++ escaped (slice_index (drop d text) k)) (sym cut)
    ∙ ap (λ (b : ℕ). run ++ escaped b) (get_or-drop d text k 0) in
    let grown : flat_map escaped (take (d + (k + 1)) text) ≡ bytes ++ (run ++ byte) =
    ap (flat_map escaped) (take-add d (k + 1) text)
    ∙ flat_map-append escaped (take d text) (take (k + 1) (drop d text))
    ∙ ap (λ (part : List ℕ). bytes ++ part) tail in (
      omega (arith, at.within, ap length same, length-drop d text),
      ended
          ∙ ap (λ (part : List ℕ). part ++ byte) (pushed ∙ ap (λ (part : List ℕ). part ++ run) was)
          ∙ append_assoc (old ++ bytes) run byte
          ∙ append_assoc old bytes (run ++ byte)
          ∙ ap (λ (part : List ℕ). old ++ part) (sym grown),
    )

-- and the last run
pub rest_last : {T E : Type 0} (r : Result T E) (text rest old out new : List ℕ) (d : ℕ) → flat_map escaped rest ≡ rest
    → out ≡ old ++ flat_map escaped (take d text) → new ≡ cond (is_ok r) (out ++ rest) out → rest ≡ drop d text
    → OnOk r (new ≡ old ++ flat_map escaped text)
rest_last (Ok x) text rest old out new d plain was ended same =
    let bytes = flat_map escaped (take d text) in
    let grown : flat_map escaped text ≡ bytes ++ rest =
    ap (flat_map escaped) (sym (take-append-drop d text))
    ∙ flat_map-append escaped (take d text) (drop d text)
    ∙ ap (λ (t : List ℕ). bytes ++ flat_map escaped t) (sym same)
    ∙ ap (λ (part : List ℕ). bytes ++ part) plain in
    ended
    ∙ ap (λ (part : List ℕ). part ++ rest) was
    ∙ append_assoc old bytes rest
    ∙ ap (λ (part : List ℕ). old ++ part) (sym grown)
rest_last (Err e) text rest old out new d plain was ended same = tt
