-- Parts of a text by the bytes at which they begin and end.
use Rattle.std.proofs.Common.{◌≡◌, ◌∙◌, ℕ, ◌+◌, ◌-◌, ◌≤◌, true, List, [], ◌∷◌, ◌++◌, length, take, drop, sym, ap, refl, arith, length-append}
use Rattle.std.specs.List.{slice_range}
use Rattle.std.specs.Str.{encode_utf8_all, all_scalars, chars, IsUtf8}
use Rattle.std.proofs.lemmas.Bool.{and_parts, and_from}
use Rattle.std.proofs.lemmas.List.{drop-take, drop_at, take-append-drop, take-take, take_at}
use Rattle.std.proofs.lemmas.Str.{chars-encodes, encodes-append}

-- parts of characters are characters

scalars-parts : (a b : List ℕ) → all_scalars (a ++ b) ≡ true → (all_scalars a ≡ true) × (all_scalars b ≡ true)
scalars-parts [] b whole = (refl, whole)
scalars-parts (c ∷ cs) b whole =
    let both = and_parts _ (all_scalars (cs ++ b)) whole in
    let rest = scalars-parts cs b both.1 in
    (and_from _ _ both.0 rest.0, rest.1)

scalars-join : (a b : List ℕ) → all_scalars a ≡ true → all_scalars b ≡ true → all_scalars (a ++ b) ≡ true
scalars-join [] b first second = second
scalars-join (c ∷ cs) b first second =
    let both = and_parts _ (all_scalars cs) first in
    and_from _ _ both.0 (scalars-join cs b both.1 second)

pub scalars-take : (n : ℕ) (text : List ℕ) → all_scalars text ≡ true → all_scalars (take n text) ≡ true
scalars-take n text whole = (scalars-parts (take n text) (drop n text)
    (ap all_scalars (take-append-drop n text) ∙ whole)).0

pub scalars-drop : (n : ℕ) (text : List ℕ) → all_scalars text ≡ true → all_scalars (drop n text) ≡ true
scalars-drop n text whole = (scalars-parts (take n text) (drop n text)
    (ap all_scalars (take-append-drop n text) ∙ whole)).1

-- bytes that spell characters

pub IsUtf8-spelled : (bytes cs : List ℕ) → bytes ≡ encode_utf8_all cs → all_scalars cs ≡ true → IsUtf8 bytes
IsUtf8-spelled bytes cs same scalars = (cs, (scalars, sym same))

pub chars-spelled : (bytes cs : List ℕ) → bytes ≡ encode_utf8_all cs → all_scalars cs ≡ true → chars bytes ≡ cs
chars-spelled bytes cs same scalars = ap chars same ∙ chars-encodes cs scalars

-- the bytes before and behind a character

pub take-encodes : (n : ℕ) (text : List ℕ)
    → take (length (encode_utf8_all (take n text))) (encode_utf8_all text) ≡ encode_utf8_all (take n text)
take-encodes n text =
    let parts = sym (ap encode_utf8_all (take-append-drop n text)) ∙ encodes-append (take n text) (drop n text) in
    ap (take (length (encode_utf8_all (take n text)))) parts
    ∙ take_at (encode_utf8_all (take n text)) (encode_utf8_all (drop n text)) _ refl

pub drop-encodes : (n : ℕ) (text : List ℕ)
    → drop (length (encode_utf8_all (take n text))) (encode_utf8_all text) ≡ encode_utf8_all (drop n text)
drop-encodes n text =
    let parts = sym (ap encode_utf8_all (take-append-drop n text)) ∙ encodes-append (take n text) (drop n text) in
    ap (drop (length (encode_utf8_all (take n text)))) parts
    ∙ drop_at (encode_utf8_all (take n text)) (encode_utf8_all (drop n text)) _ refl

take-more : (start end : ℕ) (text : List ℕ) → start ≤ end
    → take end text ≡ take start text ++ slice_range text start end
take-more start end text ordered =
    let sum : start + (end - start) ≡ end = omega arith in
    let tail : drop start (take end text) ≡ slice_range text start end =
    ap (λ n. drop start (take n text)) (sym sum) ∙ drop-take start (end - start) text in
    sym (take-append-drop start (take end text))
    ∙ ap (λ t. t ++ drop start (take end text)) (take-take start end text ordered)
    ∙ ap (λ t. take start text ++ t) tail

pub offsets-ordered : (start end : ℕ) (text : List ℕ) → start ≤ end
    → length (encode_utf8_all (take start text)) ≤ length (encode_utf8_all (take end text))
offsets-ordered start end text ordered =
    let parts = ap encode_utf8_all (take-more start end text ordered)
    ∙ encodes-append (take start text) (slice_range text start end) in
    omega (
      arith,
      ap length parts,
      length-append (encode_utf8_all (take start text))
          (encode_utf8_all (slice_range text start end)),
    )

pub slice_range-encodes : (start end : ℕ) (text : List ℕ) → start ≤ end
    → slice_range (encode_utf8_all text) (length (encode_utf8_all (take start text)))
    (length (encode_utf8_all (take end text))) ≡ encode_utf8_all (slice_range text start end)
slice_range-encodes start end text ordered =
    let inner = encode_utf8_all (slice_range text start end) in
    let parts = ap encode_utf8_all (take-more start end text ordered)
    ∙ encodes-append (take start text) (slice_range text start end) in
    let size : length (encode_utf8_all (take end text)) - length (encode_utf8_all (take start text)) ≡ length inner =
    omega (arith, ap length parts, length-append (encode_utf8_all (take start text)) inner) in
    let tail : drop start text ≡ slice_range text start end ++ drop (end - start) (drop start text) =
    sym (take-append-drop (end - start) (drop start text)) in
    ap (λ n. take n (drop (length (encode_utf8_all (take start text))) (encode_utf8_all text))) size
    ∙ ap (take (length inner)) (drop-encodes start text ∙ ap encode_utf8_all tail
    ∙ encodes-append (slice_range text start end) (drop (end - start) (drop start text)))
    ∙ take_at inner (encode_utf8_all (drop (end - start) (drop start text))) _ refl

pub bytes_inside : (text bytes : List ℕ) (start end from to : ℕ) → start ≤ end → bytes ≡ encode_utf8_all text
    → from ≡ length (encode_utf8_all (take start text)) → to ≡ length (encode_utf8_all (take end text))
    → slice_range bytes from to ≡ encode_utf8_all (slice_range text start end)
bytes_inside text bytes start end from to ordered same from-is to-is =
    ap (λ b. slice_range b from to) same ∙ ap (λ n. slice_range (encode_utf8_all text) n to) from-is
    ∙ ap (slice_range (encode_utf8_all text) (length (encode_utf8_all (take start text)))) to-is
    ∙ slice_range-encodes start end text ordered

pub scalars-inside : (start end : ℕ) (text : List ℕ) → all_scalars text ≡ true
    → all_scalars (slice_range text start end) ≡ true
scalars-inside start end text whole = scalars-take (end - start) (drop start text) (scalars-drop start text whole)

-- what was written of a head and a tail
pub outside-spelled : (text bytes out head written : List ℕ) (start end from to : ℕ) → bytes ≡ encode_utf8_all text
    → from ≡ length (encode_utf8_all (take start text)) → to ≡ length (encode_utf8_all (take end text))
    → out ≡ [] → head ≡ out ++ take from bytes → written ≡ head ++ drop to bytes
    → written ≡ encode_utf8_all (take start text ++ drop end text)
outside-spelled text bytes out head written start end from to same from-is to-is none first second =
    let front : take from bytes ≡ encode_utf8_all (take start text) =
    ap (λ n. take n bytes) from-is ∙ ap (take (length (encode_utf8_all (take start text)))) same
    ∙ take-encodes start text in
    let back : drop to bytes ≡ encode_utf8_all (drop end text) =
    ap (λ n. drop n bytes) to-is ∙ ap (drop (length (encode_utf8_all (take end text)))) same
    ∙ drop-encodes end text in
    second ∙ ap (λ h. h ++ drop to bytes) (first ∙ ap (λ o. o ++ take from bytes) none ∙ front)
    ∙ ap (λ t. encode_utf8_all (take start text) ++ t) back
    ∙ sym (encodes-append (take start text) (drop end text))

pub outside-scalars : (start end : ℕ) (text : List ℕ) → all_scalars text ≡ true
    → all_scalars (take start text ++ drop end text) ≡ true
outside-scalars start end text whole = scalars-join (take start text) (drop end text)
    (scalars-take start text whole) (scalars-drop end text whole)

-- what was written of a head, a text and a tail
pub inserted-spelled : (text other bytes more out head middle written : List ℕ) (k at : ℕ)
    → bytes ≡ encode_utf8_all text → more ≡ encode_utf8_all other
    → at ≡ length (encode_utf8_all (take k text)) → out ≡ [] → head ≡ out ++ take at bytes
    → middle ≡ head ++ more → written ≡ middle ++ drop at bytes
    → written ≡ encode_utf8_all (take k text ++ other ++ drop k text)
inserted-spelled text other bytes more out head middle written k at same more-is at-is none first second third =
    let front : take at bytes ≡ encode_utf8_all (take k text) =
    ap (λ n. take n bytes) at-is ∙ ap (take (length (encode_utf8_all (take k text)))) same
    ∙ take-encodes k text in
    let back : drop at bytes ≡ encode_utf8_all (drop k text) =
    ap (λ n. drop n bytes) at-is ∙ ap (drop (length (encode_utf8_all (take k text)))) same
    ∙ drop-encodes k text in
    third ∙ ap (λ m. m ++ drop at bytes) (second
    ∙ ap (λ h. h ++ more) (first ∙ ap (λ o. o ++ take at bytes) none ∙ front)
    ∙ ap (λ m. encode_utf8_all (take k text) ++ m) more-is)
    ∙ ap (λ t. (encode_utf8_all (take k text) ++ encode_utf8_all other) ++ t) back
    ∙ ap (λ t. t ++ encode_utf8_all (drop k text)) (sym (encodes-append (take k text) other))
    ∙ sym (encodes-append (take k text ++ other) (drop k text))

pub inserted-scalars : (k : ℕ) (text other : List ℕ) → all_scalars text ≡ true → all_scalars other ≡ true
    → all_scalars (take k text ++ other ++ drop k text) ≡ true
inserted-scalars k text other whole more =
    scalars-join (take k text ++ other) (drop k text)
    (scalars-join (take k text) other (scalars-take k text whole) more) (scalars-drop k text whole)

-- how many bytes an insertion has
pub length-inserted : (k : ℕ) (text other : List ℕ)
    → length (encode_utf8_all (take k text ++ other ++ drop k text))
    ≡ length (encode_utf8_all text) + length (encode_utf8_all other)
length-inserted k text other =
    let parts = sym (ap encode_utf8_all (take-append-drop k text)) ∙ encodes-append (take k text) (drop k text) in
    omega (
      arith,
      ap length parts,
      length-append (encode_utf8_all (take k text)) (encode_utf8_all (drop k text)),
      ap length (encodes-append (take k text ++ other) (drop k text)),
      length-append (encode_utf8_all (take k text ++ other)) (encode_utf8_all (drop k text)),
      ap length (encodes-append (take k text) other),
      length-append (encode_utf8_all (take k text)) (encode_utf8_all other),
    )
