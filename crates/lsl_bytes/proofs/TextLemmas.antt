-- Texts after the count of their bytes.
use Rattle.std.proofs.Common.{◌≡◌, ◌∙◌, sym, ap, refl, subst, ⊎_elim, ℕ, ◌+◌, ◌-◌, ◌<◌, ◌≤◌, arith, List, [], ◌++◌, length, take, drop, slice_range, append_assoc, length-drop, ◌⊎◌, Some, None}
use Rattle.std.specs.Str.{encode_utf8_all}
use Rattle.std.proofs.lemmas.List.{append-nil, length-take}
use Rattle.std.proofs.lemmas.Str.{encodes_same}
use Rattle.lsl_value.specs.Text.{IsText, IsTextOf, IsNoText}
use Rattle.lsl_bytes.specs.Fields.{FitsU32, IsCountable, u32_bytes, counted_bytes, text_bytes}
use Rattle.lsl_bytes.specs.Laws.{IsPrefixFree}
use Rattle.lsl_bytes.specs.Places.{StandsAt, Takes}
use Rattle.lsl_bytes.proofs.NumberLemmas.{u32-prefix_free}
use Rattle.lsl_bytes.proofs.PlaceLemmas.{front-stands, same-fronts, stands-append, taken-front, takes_as, takes_no, takes_none, takes_some}

pub counted-prefix_free : IsPrefixFree counted_bytes IsCountable
unfolding counted_bytes
counted-prefix_free v w a b fits_v fits_w same =
    let regrouped : u32_bytes (length v) ++ (v ++ a) ≡ u32_bytes (length w) ++ (w ++ b) =
    sym (append_assoc (u32_bytes (length v)) v a) ∙ same ∙ append_assoc (u32_bytes (length w)) w b in
    let counts = u32-prefix_free (length v) (length w) (v ++ a) (w ++ b) fits_v fits_w regrouped in
    same-fronts (length v) v w a b refl (sym counts.0) counts.1

-- no count, no bytes after it
pub counted-no_count : (bytes : List ℕ) (p : ℕ) → Takes u32_bytes FitsU32 bytes p None
    → Takes counted_bytes IsCountable bytes p None
unfolding counted_bytes
counted-no_count bytes p takes = takes_no u32_bytes FitsU32 counted_bytes IsCountable bytes p
    (λ w fits. (length w, fits, w, refl)) takes

-- fewer bytes than were counted
pub counted-short : (bytes : List ℕ) (p count start : ℕ) → Takes u32_bytes FitsU32 bytes p (Some (count, start))
    → (count < 0) ⊎ (length (take (length bytes - start) (drop start bytes)) < count)
    → Takes counted_bytes IsCountable bytes p None
unfolding counted_bytes
counted-short bytes p count start takes short =
    takes_none counted_bytes IsCountable bytes p (λ (w : List ℕ) (next : ℕ) fits stands.
    let parts = taken-front u32_bytes FitsU32 bytes p count start takes (length w) w next fits stands in
    let left : length (take (length bytes - start) (drop start bytes)) ≡ length bytes - start =
    omega (arith, length-take (length bytes - start) (drop start bytes), length-drop start bytes) in
    ⊎_elim (λ below. omega arith) (λ few. omega (arith, parts.0, parts.1.behind, parts.1.within, left, few)) short)

-- as many bytes as were counted
pub counted-found : (bytes part : List ℕ) (p count start : ℕ)
    → Takes u32_bytes FitsU32 bytes p (Some (count, start))
    → count ≤ length (take (length bytes - start) (drop start bytes))
    → part ≡ slice_range (take (length bytes - start) (drop start bytes)) 0 count
    → Takes counted_bytes IsCountable bytes p (Some (part, start + length part))
unfolding counted_bytes
counted-found bytes part p count start takes enough is =
    let first : part ≡ take count (take (length bytes - start) (drop start bytes)) = grind arith in
    let field = front-stands bytes (take (length bytes - start) (drop start bytes)) part start count refl
    takes.found.1.within enough first in
    let stands : StandsAt bytes start part (start + length part) =
    subst (λ (n : ℕ). StandsAt bytes start part (start + n)) (sym field.0) field.1 in
    let counted : StandsAt bytes p (u32_bytes (length part)) start =
    subst (λ (n : ℕ). StandsAt bytes p (u32_bytes n) start) (sym field.0) takes.found.1 in
    takes_some counted_bytes IsCountable counted-prefix_free bytes p part (start + length part)
    (omega (arith, takes.found.0, field.0))
    (stands-append bytes (u32_bytes (length part)) part p start (start + length part) counted stands)

text-countable : (text : List ℕ) → IsText text → IsCountable (encode_utf8_all text)
text-countable text is = omega (arith, is.within)

pub text-prefix_free : IsPrefixFree text_bytes IsText
unfolding text_bytes
text-prefix_free v w a b fits_v fits_w same =
    let parts = counted-prefix_free (encode_utf8_all v) (encode_utf8_all w) a b (text-countable v fits_v)
    (text-countable w fits_w) same in
    (encodes_same v w parts.0, parts.1)

pub text-no_bytes : (bytes : List ℕ) (p : ℕ) → Takes counted_bytes IsCountable bytes p None
    → Takes text_bytes IsText bytes p None
unfolding text_bytes
text-no_bytes bytes p takes =
    takes_no counted_bytes IsCountable text_bytes IsText bytes p
    (λ w is. (
      encode_utf8_all w,
      text-countable w is,
      [],
      sym
          (append-nil (counted_bytes (encode_utf8_all w))),
    )) takes

-- bytes that aren't text
pub text-no_text : (bytes part : List ℕ) (p next : ℕ)
    → Takes counted_bytes IsCountable bytes p (Some (part, next)) → IsNoText part
    → Takes text_bytes IsText bytes p None
unfolding text_bytes
text-no_text bytes part p next takes none =
    takes_none text_bytes IsText bytes p (λ (w : List ℕ) (end : ℕ) is stands.
    let same : part ≡ encode_utf8_all w =
    (taken-front counted_bytes IsCountable bytes p part next takes (encode_utf8_all w) [] end
    (text-countable w is)
    (subst (λ (t : List ℕ). StandsAt bytes p t end) (sym (append-nil (counted_bytes (encode_utf8_all w)))) stands)).0 in
    ⊎_elim (λ not_utf8. not_utf8 (w, (is.scalars, sym same)))
    (λ long. omega (arith, is.within, ap length same, long)) none)

pub text-found : (bytes part text : List ℕ) (p next : ℕ)
    → Takes counted_bytes IsCountable bytes p (Some (part, next)) → IsTextOf part text
    → Takes text_bytes IsText bytes p (Some (text, next))
unfolding text_bytes
text-found bytes part text p next takes of =
    takes_as counted_bytes IsCountable text_bytes IsText text-prefix_free bytes p part text next of.text
    (ap counted_bytes (sym of.spelled)) takes
