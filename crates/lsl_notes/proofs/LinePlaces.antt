-- Where the lines of a text begin.
use Rattle.std.proofs.Common.{◌≡◌, ◌∙◌, refl, sym, ap, subst, cond, ℕ, suc, ◌+◌, ◌-◌, ◌≤◌, ◌<◌, Bool, true, false, List, [], ◌∷◌, ◌++◌, length, take, drop, get_or, inl, inr, arith, ◌⊎◌}
use Rattle.std.specs.Prelude.{nat_lt, not, slice_index, position, Some, None}
use Rattle.std.specs.List.{position_or_len}
use Rattle.std.specs.Str.{IsUtf8, IsCharBoundary}
use Rattle.std.specs.Str.Lines.{lines, strip_carriage_return}
use Rattle.std.proofs.lemmas.Bool.Decides.{nat_tests}
use Rattle.std.proofs.lemmas.List.{drop-drop, get_or-drop, drop_all, drop_more, length-drop, take_all, take-append-drop}
use Rattle.std.proofs.lemmas.List.Quantifiers.{position-Some}
use Rattle.std.proofs.lemmas.Option.{cond_some, none-some}
use Rattle.std.proofs.lemmas.Str.{IsCharBoundary-start, IsCharBoundary-end, IsCharBoundary-after_ascii}
use Rattle.lsl_notes.specs.Lines.{is_feed, HasNoFeed}
use Rattle.lsl_notes.specs.Places.{HavePlaces, IsPlace}
use Rattle.lsl_notes.proofs.Feeds.{lines-fed, last-line}

-- the first line has no line feed before its end
before : (bytes : List ℕ) → HasNoFeed (take (position_or_len is_feed bytes) bytes)
before [] = tt
before (b ∷ bytes) = at (is_feed b) refl (before bytes)
  where
    n : ℕ
    n = position_or_len is_feed bytes

    at : (t : Bool) → is_feed b ≡ t → HasNoFeed (take n bytes)
        → HasNoFeed (take (cond (not t) (1 + n) 0) (b ∷ bytes))
    at true is h = tt
    at false is h =
        let more : suc n ≡ 1 + n = omega arith in
        subst (λ k. HasNoFeed (take k (b ∷ bytes))) more (is, h)

none-found : (bytes : List ℕ) → position is_feed bytes ≡ None → length bytes ≤ position_or_len is_feed bytes
none-found bytes none = at (nat_lt n (length bytes)) refl none
  where
    n : ℕ
    n = position_or_len is_feed bytes

    at : (t : Bool) → nat_lt n (length bytes) ≡ t → cond t (Some n) None ≡ None → length bytes ≤ n
    at true is e = absurd (none-some n (sym e))
    at false is e = grind (arith, nat_tests)

found : (bytes : List ℕ) (n : ℕ) → position is_feed bytes ≡ Some n → n ≡ position_or_len is_feed bytes
found bytes n some =
    let m = position_or_len is_feed bytes in
    sym (cond_some (nat_lt m (length bytes)) m n some).1

-- the first line ends with the first line feed
pub first-fed : (bytes : List ℕ) (n : ℕ) → position is_feed bytes ≡ Some n
    → lines bytes ≡ strip_carriage_return (take n bytes) ∷ lines (drop (n + 1) bytes)
first-fed bytes n some =
    let f = position-Some is_feed bytes n 0 some in
    let ten : get_or bytes n 0 ≡ 10 = fed (get_or bytes n 0) f.1 in
    let alone : HasNoFeed (take n bytes) =
    subst (λ k. HasNoFeed (take k bytes)) (sym (found bytes n some)) (before bytes) in
    let whole : bytes ≡ take n bytes ++ 10 ∷ drop (n + 1) bytes =
    sym (take-append-drop n bytes) ∙ ap (λ r. take n bytes ++ r) (drop_more bytes n 0 f.0)
    ∙ ap (λ b. take n bytes ++ b ∷ drop (n + 1) bytes) ten in
    ap lines whole ∙ lines-fed (take n bytes) (drop (n + 1) bytes) alone
  where
    fed : (b : ℕ) → is_feed b ≡ true → b ≡ 10
    fed b is = grind (arith, nat_tests)

-- a text without a line feed is one line
pub first-alone : (bytes : List ℕ) → 0 < length bytes → position is_feed bytes ≡ None
    → lines bytes ≡ bytes ∷ lines (drop (length bytes) bytes)
first-alone bytes some none =
    let alone : HasNoFeed bytes =
    subst HasNoFeed (take_all (position_or_len is_feed bytes) bytes (none-found bytes none)) (before bytes) in
    last-line bytes alone some
    ∙ ap (λ r. bytes ∷ lines r) (sym (drop_all (length bytes) bytes (omega arith)))

-- the first line begins at the text's start
pub place-first : (text : List ℕ) → IsUtf8 text → IsPlace text 0 0
place-first text valid = record { boundary = IsCharBoundary-start text valid; rest = refl }

-- what is left of a text
pub left : (text bytes : List ℕ) (place : ℕ) → bytes ≡ text
    → take (length bytes - place) (drop place bytes) ≡ drop place text
left text bytes place same =
    take_all (length bytes - place) (drop place bytes) (omega (arith, length-drop place bytes)) ∙ ap (drop place) same

-- and the next one where the line before it has ended
pub place-next : (text rest : List ℕ) (line place n : ℕ) → IsUtf8 text → IsPlace text line place
    → rest ≡ drop place text → 0 < n → n ≤ length rest
    → (x : List ℕ) × (lines rest ≡ x ∷ lines (drop n rest))
    → (n ≡ length rest) ⊎ (slice_index rest (n - 1) ≡ 10)
    → IsPlace text (line + 1) (place + n)
place-next text rest line place n valid was same some within first ends =
    record {
      boundary = at ends;
      rest = sym (drop-drop 1 line (lines text)) ∙ ap (drop 1) (was.rest ∙ ap lines (sym same) ∙ first.1)
          ∙ ap lines (ap (drop n) same ∙ drop-drop n place text);
    }
  where
    long : length rest ≡ length text - place
    long = ap length same ∙ length-drop place text

    at : (n ≡ length rest) ⊎ (slice_index rest (n - 1) ≡ 10) → IsCharBoundary text (place + n)
    at (inl all) =
        subst (IsCharBoundary text) (omega (arith, all, long, was.boundary.0)) (IsCharBoundary-end text)
    at (inr fed) =
        let here : get_or text (place + (n - 1)) 0 ≡ 10 =
        sym (get_or-drop place text (n - 1) 0) ∙ sym (ap (λ r. get_or r (n - 1) 0) same) ∙ fed in
        subst (IsCharBoundary text) (omega (arith, some))
        (IsCharBoundary-after_ascii text (place + (n - 1)) valid (omega (arith, long, within, some))
        (omega (arith, here)))

-- where a line begins there is one
pub one-more : (text rest : List ℕ) (line place n : ℕ) → IsPlace text line place → rest ≡ drop place text
    → (x : List ℕ) × (lines rest ≡ x ∷ lines (drop n rest))
    → line + 1 ≤ length (lines text)
one-more text rest line place n was same first =
    omega (arith, length-drop line (lines text), ap length (was.rest ∙ ap lines (sym same) ∙ first.1))

-- after the text there is none
pub all-counted : (text : List ℕ) (line place : ℕ) → IsPlace text line place → length text ≤ place
    → line ≤ length (lines text) → line ≡ length (lines text)
all-counted text line place was past within =
    omega (
      arith,
      within,
      length-drop line (lines text),
      ap length (was.rest ∙ ap lines (drop_all place text past)),
    )

-- no line has a place yet
pub have-none : (text : List ℕ) → HavePlaces text [] 0
have-none text = record { enough = omega arith; few = omega arith; each = λ i h. absurd (omega (arith, h)) }
