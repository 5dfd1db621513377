-- Bytes that are cut into lines at line feeds.
use Rattle.std.proofs.Common.{◌≡◌, ◌∙◌, refl, sym, ap, cond, ℕ, ◌+◌, ◌-◌, ◌≤◌, ◌<◌, Bool, true, false, eqb, List, [], ◌∷◌, ◌++◌, length, take, get_or, arith, length-append, append_assoc}
use Rattle.std.specs.Prelude.{slice_index, sum_by}
use Rattle.std.specs.List.{slice_split, onto_first, All}
use Rattle.std.specs.Str.Lines.{lines, lines_of_parts, strip_carriage_return}
use Rattle.std.proofs.lemmas.Bool.Decides.{nat_tests}
use Rattle.std.proofs.lemmas.Grind.{take_at_read}
use Rattle.std.proofs.lemmas.List.Elements.{All-nil, All-cons}
use Rattle.std.proofs.lemmas.List.Splits.{slice_split_at, slice_split_none, length-slice_split}
use Rattle.std.proofs.lemmas.List.Sums.{count_by-le-length, get_or-le-sum_by, sum_by-append}
use Rattle.std.proofs.lemmas.List.{length-take, take_at, take_all}
use Rattle.lsl_notes.specs.Laws.{EndsInNoReturn, AreCutAtFeeds}
use Rattle.lsl_notes.specs.Lines.{is_feed, HasNoFeed}

no-feed : (line : List ℕ) → HasNoFeed line → All (λ b. is_feed b ≡ false) line
no-feed [] h = All-nil (λ b. is_feed b ≡ false)
no-feed (b ∷ line) h = All-cons (λ b. is_feed b ≡ false) b line h.0 (no-feed line h.1)

-- the element after others
pub mid-at : (front : List ℕ) (b : ℕ) (rest : List ℕ) → get_or (front ++ b ∷ rest) (length front) 0 ≡ b
mid-at [] b rest = refl
mid-at (x ∷ front) b rest = mid-at front b rest

parts-cons : (x : List ℕ) (parts : List (List ℕ)) → 0 < length parts
    → lines_of_parts (x ∷ parts) ≡ strip_carriage_return x ∷ lines_of_parts parts
parts-cons x [] h = absurd (omega arith)
parts-cons x (p ∷ parts) h = refl

-- what precedes the first feed is a line, without the return at its end
pub lines-fed : (line rest : List ℕ) → HasNoFeed line
    → lines (line ++ 10 ∷ rest) ≡ strip_carriage_return line ∷ lines rest
lines-fed line rest h =
    ap lines_of_parts (slice_split_at is_feed line 10 rest (no-feed line h) refl)
    ∙ parts-cons line (slice_split is_feed rest) (omega (arith, length-slice_split is_feed rest))

strip-return : (line : List ℕ) → strip_carriage_return (line ++ 13 ∷ []) ≡ line
strip-return line =
    let l : List ℕ = line ++ 13 ∷ [] in
    let n : length l - 1 ≡ length line = omega (arith, length-append line (13 ∷ [])) in
    let e : slice_index l (length l - 1) ≡ 13 = ap (slice_index l) n ∙ mid-at line 13 [] in
    ap (λ v. cond (eqb v 13) (take (length l - 1) l) l) e ∙ ap (λ k. take k l) n
    ∙ take_at line (13 ∷ []) (length line) refl

strip-none : (line : List ℕ) → EndsInNoReturn line → strip_carriage_return line ≡ line
strip-none [] h = refl
strip-none (x ∷ xs) h = at (eqb (get_or line n 0) 13) refl
  where
    line : List ℕ
    line = x ∷ xs

    n : ℕ
    n = length line - 1

    front : line ≡ take n line ++ get_or line n 0 ∷ []
    front = sym (take_all (n + 1) line (omega arith)) ∙ (take_at_read line n 0 (omega arith)).1

    at : (t : Bool) → eqb (get_or line n 0) 13 ≡ t → strip_carriage_return line ≡ line
    at true is =
        let last : get_or line n 0 ≡ 13 = grind (arith, nat_tests) in
        absurd (h (take n line) (front ∙ ap (λ b. take n line ++ b ∷ []) last))
    at false is = ap (λ (t : Bool). cond t (take n line) line) is

append-feeds : (line : List ℕ) → HasNoFeed line → HasNoFeed (line ++ 13 ∷ [])
append-feeds [] h = (refl, tt)
append-feeds (b ∷ line) h = (h.0, append-feeds line h.1)

pub last-line : (line : List ℕ) → HasNoFeed line → 0 < length line → lines line ≡ line ∷ []
last-line [] h some = absurd (omega arith)
last-line (b ∷ line) h some =
    let full : eqb (length (b ∷ line)) 0 ≡ false = grind (arith, nat_tests) in
    ap lines_of_parts (slice_split_none is_feed (b ∷ line) (no-feed (b ∷ line) h))
    ∙ ap (λ (t : Bool). cond t [] ((b ∷ line) ∷ [])) full

pub cut-at-feeds : AreCutAtFeeds
cut-at-feeds = record {
  none = refl;
  fed = λ line rest h k. lines-fed line rest h ∙ ap (λ l. l ∷ lines rest) (strip-none line k);
  returned = λ line rest h.
      ap lines (sym (append_assoc line (13 ∷ []) (10 ∷ rest)))
      ∙ lines-fed (line ++ 13 ∷ []) rest (append-feeds line h)
      ∙ ap (λ l. l ∷ lines rest) (strip-return line);
  last = last-line;
}

-- no line is longer than all bytes, and there are no more lines than bytes and one

abbrev total : List (List ℕ) → ℕ
total parts = sum_by (λ l. length l) parts

total-cons : (x : List ℕ) (parts : List (List ℕ)) → total (x ∷ parts) ≡ length x + total parts
total-cons x parts = omega (arith, sum_by-append (λ l. length l) (x ∷ []) parts)

onto-total : (b : ℕ) (parts : List (List ℕ)) → total (onto_first b parts) ≤ total parts + 1
onto-total b [] = omega arith
onto-total b (p ∷ parts) = omega (arith, total-cons (b ∷ p) parts, total-cons p parts)

parts-short : (bytes : List ℕ) → total (slice_split is_feed bytes) ≤ length bytes
parts-short [] = omega arith
parts-short (b ∷ bytes) = at (is_feed b) (parts-short bytes)
  where
    parts : List (List ℕ)
    parts = slice_split is_feed bytes

    at : (t : Bool) → total parts ≤ length bytes
        → total (cond t ([] ∷ parts) (onto_first b parts)) ≤ length (b ∷ bytes)
    at true h = omega (arith, total-cons [] parts, h)
    at false h = omega (arith, onto-total b parts, h)

strip-short : (x : List ℕ) → length (strip_carriage_return x) ≤ length x
strip-short x = at (eqb (slice_index x (length x - 1)) 13)
  where
    at : (t : Bool) → length (cond t (take (length x - 1) x) x) ≤ length x
    at true = omega (arith, length-take (length x - 1) x)
    at false = omega arith

lines-of-short : (parts : List (List ℕ)) → total (lines_of_parts parts) ≤ total parts
lines-of-short [] = omega arith
lines-of-short (x ∷ []) = at (eqb (length x) 0)
  where
    at : (t : Bool) → total (cond t [] (x ∷ [])) ≤ total (x ∷ [])
    at true = omega arith
    at false = omega arith
lines-of-short (x ∷ y ∷ parts) =
    omega (
      arith,
      total-cons (strip_carriage_return x) (lines_of_parts (y ∷ parts)),
      total-cons x (y ∷ parts),
      strip-short x,
      lines-of-short (y ∷ parts),
    )

pub line-short : (bytes : List ℕ) (i : ℕ) (d : List ℕ) → i < length (lines bytes)
    → length (get_or (lines bytes) i d) ≤ length bytes
line-short bytes i d h =
    omega (
      arith,
      get_or-le-sum_by (λ l. length l) (lines bytes) i d h,
      lines-of-short (slice_split is_feed bytes),
      parts-short bytes,
    )

lines-of-few : (parts : List (List ℕ)) → length (lines_of_parts parts) ≤ length parts
lines-of-few [] = omega arith
lines-of-few (x ∷ []) = at (eqb (length x) 0)
  where
    at : (t : Bool) → length (cond t [] (x ∷ [])) ≤ 1
    at true = omega arith
    at false = omega arith
lines-of-few (x ∷ y ∷ parts) = omega (arith, lines-of-few (y ∷ parts))

pub lines-few : (bytes : List ℕ) → length (lines bytes) ≤ length bytes + 1
lines-few bytes =
    omega (
      arith,
      lines-of-few (slice_split is_feed bytes),
      length-slice_split is_feed bytes,
      count_by-le-length is_feed bytes,
    )
