-- What comes before the fields of an image, and after them.
use Rattle.std.proofs.Common.{◌≡◌, ◌∙◌, sym, ap, subst, arith, ℕ, ◌+◌, ◌<◌, ◌≤◌, List, [], ◌∷◌, ◌++◌, length, take, drop, get_or, append_assoc, length-append}
use Rattle.std.proofs.Math.ListN.{set}
use Rattle.std.proofs.Math.Seq.{set-append_seam}
use Rattle.std.proofs.lemmas.List.{drop_at, drop_more, length-drop, length-take, take_more}
use Rattle.sha2.specs.Sha256.{sha256}
use Rattle.lsl_bytes.specs.Fields.{u16_bytes, u64_bytes}
use Rattle.lsl_bytes.proofs.NumberLemmas.{length-u16, length-u64}
use Rattle.lsl_image.specs.Bytes.{digested_bytes, head_bytes, image_bytes}

-- one more is put in its place at the front of a list
pub put-more : (head old now : List ℕ) (i : ℕ) → i < length head → length head ≤ length old
    → now ≡ take i head ++ drop i old → set now i (get_or head i 0) ≡ take (i + 1) head ++ drop (i + 1) old
put-more head old now i within enough is =
    let b = get_or head i 0 in
    let long : length (take i head) ≡ i = omega (arith, length-take i head) in
    let opened : now ≡ take i head ++ get_or old i 0 ∷ drop (i + 1) old =
    is ∙ ap (λ (t : List ℕ). take i head ++ t) (drop_more old i 0 (omega arith)) in
    ap (λ (t : List ℕ). set t i b) opened
    ∙ subst (λ (n : ℕ). set (take i head ++ get_or old i 0 ∷ drop (i + 1) old) n b ≡ take i head ++ b
    ∷ drop (i + 1) old)
    long (set-append_seam (take i head) (get_or old i 0) (drop (i + 1) old) b)
    ∙ sym (ap (λ (t : List ℕ). t ++ drop (i + 1) old) (take_more head i 0 within)
    ∙ append_assoc (take i head) (b ∷ []) (drop (i + 1) old))

pub length-head : (letters : List ℕ) (version size : ℕ) → length letters ≡ 4
    → length (head_bytes letters version size) ≡ 14
unfolding head_bytes
length-head letters version size four =
    omega (
      arith,
      length-append (letters ++ u16_bytes version) (u64_bytes size),
      length-append letters (u16_bytes version),
      length-u16 version,
      length-u64 size,
    )

-- the head in its place, the fields, and the digest
pub sealed-is : (letters out head now digest new : List ℕ) (size : ℕ) → length letters ≡ 4 → 14 ≤ length out
    → size ≡ length out + 32 → head ≡ head_bytes letters 2 size → now ≡ head ++ drop (length head) out
    → digest ≡ sha256 now → new ≡ now ++ digest → new ≡ image_bytes letters 2 (drop 14 out)
unfolding image_bytes
sealed-is letters out head now digest new size four enough is_size is_head is_now is_digest is_new =
    let whole : size ≡ 14 + length (drop 14 out) + 32 = omega (arith, is_size, length-drop 14 out) in
    let long : length head ≡ 14 = ap length is_head ∙ length-head letters 2 size four in
    let front : head ≡ head_bytes letters 2 (14 + length (drop 14 out) + 32) = is_head ∙ ap (head_bytes letters 2) whole
    in
    let covered : now ≡ head_bytes letters 2 (14 + length (drop 14 out) + 32) ++ drop 14 out =
    is_now ∙ ap (λ (n : ℕ). head ++ drop n out) long ∙ ap (λ (t : List ℕ). t ++ drop 14 out) front in
    is_new ∙ ap (λ (t : List ℕ). now ++ t) is_digest ∙ ap digested_bytes covered

-- the fields that were written after the reserved head
pub fields-are : (room out fields : List ℕ) → length room ≡ 14 → out ≡ room ++ fields → drop 14 out ≡ fields
fields-are room out fields long is = ap (drop 14) is ∙ drop_at room fields 14 long
