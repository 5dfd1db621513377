-- The longest prefix that is UTF-8, and the line in which it ends.
use Rattle.std.proofs.Common.{◌≡◌, ◌∙◌, refl, sym, ap, subst, cond, ℕ, ◌+◌, ◌<◌, Bool, true, false, List, [], ◌∷◌, ◌++◌, length, take, drop, get_or, inl, inr, arith, take-add, length-append, append_assoc, lit<}
use Rattle.std.specs.Prelude.{count_by}
use Rattle.std.specs.Str.{IsUtf8, IsValidUpTo, IsCharBoundary}
use Rattle.std.proofs.lemmas.Bool.Decides.{nat_tests}
use Rattle.std.proofs.lemmas.Str.{IsUtf8-append, IsUtf8-take, IsUtf8-drop, encode_ascii, IsCharBoundary-start, IsCharBoundary-before_ascii, IsCharBoundary-after_ascii}
use Rattle.std.proofs.lemmas.List.{take_at, drop_at, take-append-drop, length-drop, append-nil}
use Rattle.std.proofs.lemmas.List.Sums.{sum_by-append}
use Rattle.lsl_notes.specs.Lines.{is_feed, HasNoFeed, BeginsWithFeed, EndsWithFeed, IsFirstBad}
use Rattle.lsl_notes.specs.Laws.{TextsHaveNoBadLine}
use Rattle.lsl_notes.proofs.Feeds.{mid-at}

record LastLine (bytes : List ℕ) : Type 0 where
  before : List ℕ
  line : List ℕ
  whole : bytes ≡ before ++ line
  begins : EndsWithFeed before
  alone : HasNoFeed line

record FirstLine (bytes : List ℕ) : Type 0 where
  line : List ℕ
  behind : List ℕ
  whole : bytes ≡ line ++ behind
  alone : HasNoFeed line
  ends : BeginsWithFeed behind

first-line : (bytes : List ℕ) → FirstLine bytes
first-line [] = record { line = []; behind = []; whole = refl; alone = tt; ends = inl refl }
first-line (b ∷ bytes) = at (first-line bytes) (is_feed b) refl
  where
    at : FirstLine bytes → (t : Bool) → is_feed b ≡ t → FirstLine (b ∷ bytes)
    at f true is =
        let ten : b ≡ 10 = grind (arith, nat_tests) in
        record {
          line = [];
          behind = b ∷ bytes;
          whole = refl;
          alone = tt;
          ends = inr (bytes, ap (λ x. x ∷ bytes) ten);
        }
    at f false is =
        record {
          line = b ∷ f.line;
          behind = f.behind;
          whole = ap (λ xs. b ∷ xs) f.whole;
          alone = (is, f.alone);
          ends = f.ends;
        }

last-line : (bytes : List ℕ) → LastLine bytes
last-line [] = record { before = []; line = []; whole = refl; begins = inl refl; alone = tt }
last-line (b ∷ bytes) = at (last-line bytes) (is_feed b) refl
  where
    with : (l : LastLine bytes) → EndsWithFeed l.before → (t : Bool) → is_feed b ≡ t → LastLine (b ∷ bytes)
    with l (inr ends) t is =
        record {
          before = b ∷ l.before;
          line = l.line;
          whole = ap (λ xs. b ∷ xs) l.whole;
          begins = inr (b ∷ ends.0, ap (λ xs. b ∷ xs) ends.1);
          alone = l.alone;
        }
    with l (inl none) true is =
        let ten : b ≡ 10 = grind (arith, nat_tests) in
        record {
          before = b ∷ [];
          line = l.line;
          whole = ap (λ xs. b ∷ xs) (l.whole ∙ ap (λ xs. xs ++ l.line) none);
          begins = inr ([], ap (λ x. x ∷ []) ten);
          alone = l.alone;
        }
    with l (inl none) false is =
        record {
          before = [];
          line = b ∷ l.line;
          whole = ap (λ xs. b ∷ xs) (l.whole ∙ ap (λ xs. xs ++ l.line) none);
          begins = inl refl;
          alone = (is, l.alone);
        }

    at : LastLine bytes → (t : Bool) → is_feed b ≡ t → LastLine (b ∷ bytes)
    at l t is = with l l.begins t is

-- a line feed is a text
feed : IsUtf8 (10 ∷ [])
feed = (10 ∷ [], (refl, ap (λ e. e ++ []) (encode_ascii 10 (lit< tt))))

-- a character begins after a line feed
behind-feed : (before rest : List ℕ) → EndsWithFeed before → IsUtf8 (before ++ rest)
    → IsCharBoundary (before ++ rest) (length before)
behind-feed before rest (inl none) h =
    subst (λ (b : List ℕ). IsCharBoundary (b ++ rest) (length b)) (sym none)
    (IsCharBoundary-start rest (subst (λ (b : List ℕ). IsUtf8 (b ++ rest)) none h))
behind-feed before rest (inr ends) h =
    let long : length before ≡ length ends.0 + 1 = ap length ends.1 ∙ length-append ends.0 (10 ∷ []) in
    let here : get_or (before ++ rest) (length ends.0) 0 ≡ 10 =
    ap (λ b. get_or (b ++ rest) (length ends.0) 0) ends.1
    ∙ ap (λ xs. get_or xs (length ends.0) 0) (append_assoc ends.0 (10 ∷ []) rest) ∙ mid-at ends.0 10 rest in
    subst (IsCharBoundary (before ++ rest)) (sym long)
    (IsCharBoundary-after_ascii (before ++ rest) (length ends.0) h
    (omega (arith, long, length-append before rest)) (omega (arith, here)))

front-text : (before rest : List ℕ) → EndsWithFeed before → IsUtf8 (before ++ rest) → IsUtf8 before
front-text before rest ends h =
    subst IsUtf8 (take_at before rest (length before) refl)
    (IsUtf8-take (before ++ rest) (length before) h (behind-feed before rest ends h))

rest-text : (before rest : List ℕ) → EndsWithFeed before → IsUtf8 (before ++ rest) → IsUtf8 rest
rest-text before rest ends h =
    subst IsUtf8 (drop_at before rest (length before) refl)
    (IsUtf8-drop (before ++ rest) (length before) h (behind-feed before rest ends h))

line-text : (line behind : List ℕ) → BeginsWithFeed behind → IsUtf8 (line ++ behind) → IsUtf8 line
line-text line behind (inl none) h = subst IsUtf8 (ap (λ b. line ++ b) none ∙ append-nil line) h
line-text line behind (inr begins) h =
    let here : get_or (line ++ behind) (length line) 0 ≡ 10 =
    ap (λ b. get_or (line ++ b) (length line) 0) begins.1 ∙ mid-at line 10 begins.0 in
    let more : length line < length (line ++ behind) =
    omega (arith, length-append line behind, ap length begins.1) in
    subst IsUtf8 (take_at line behind (length line) refl)
    (IsUtf8-take (line ++ behind) (length line) h
    (IsCharBoundary-before_ascii (line ++ behind) (length line) more (omega (arith, here))))

-- in a text each line is one
pub no-bad-line : TextsHaveNoBadLine
no-bad-line bytes number text bad =
    let all : IsUtf8 (bad.before ++ (bad.line ++ bad.behind)) = subst IsUtf8 bad.whole text in
    bad.other
    (line-text bad.line bad.behind bad.ends (rest-text bad.before (bad.line ++ bad.behind) bad.begins all))

none-joined : (xs ys : List ℕ) → HasNoFeed xs → HasNoFeed ys → HasNoFeed (xs ++ ys)
none-joined [] ys h k = k
none-joined (x ∷ xs) ys h k = (h.0, none-joined xs ys h.1 k)

none-counted : (line : List ℕ) → HasNoFeed line → count_by is_feed line ≡ 0
none-counted [] h = refl
none-counted (b ∷ line) h =
    let weigh : Bool → ℕ = λ t. cond t 1 0 in
    let other : weigh (is_feed b) ≡ 0 = ap weigh h.0 in
    omega (arith, sum_by-append (λ x. cond (is_feed x) 1 0) (b ∷ []) line, other, none-counted line h.1)

-- what follows the longest prefix doesn't make it longer
module _ (bytes : List ℕ) (n : ℕ) (valid : IsValidUpTo bytes n) where
  longer : (more behind : List ℕ) → drop n bytes ≡ more ++ behind → 0 < length more
      → IsUtf8 (take n bytes ++ more) → ⊥
  longer more behind rest some text =
      let e : take (n + length more) bytes ≡ take n bytes ++ more =
      take-add n (length more) bytes ∙ ap (λ r. take n bytes ++ take (length more) r) rest
      ∙ ap (λ r. take n bytes ++ r) (take_at more behind (length more) refl) in
      valid.longest (n + length more) (omega arith) (subst IsUtf8 (sym e) text)

  grown : (line behind : List ℕ) → BeginsWithFeed behind → drop n bytes ≡ line ++ behind
      → IsUtf8 (take n bytes ++ line) → ⊥
  grown [] behind (inl none) rest text =
      absurd (omega (arith, valid.short, length-drop n bytes, ap length (rest ∙ none)))
  grown [] behind (inr begins) rest text =
      longer (10 ∷ []) begins.0 (rest ∙ begins.1) (omega arith)
      (IsUtf8-append (take n bytes) (10 ∷ []) valid.front feed)
  grown (c ∷ line) behind ends rest text = longer (c ∷ line) behind rest (omega arith) text

  -- the line in which the longest prefix that is UTF-8 ends is the first that isn't text
  pub first-bad : IsFirstBad bytes (1 + count_by is_feed (take n bytes))
  first-bad =
      record {
        before = l.before;
        line = l.line ++ f.line;
        behind = f.behind;
        whole = cut;
        begins = l.begins;
        alone = none-joined l.line f.line l.alone f.alone;
        ends = f.ends;
        counted = feeds;
        text = before;
        other = λ line. grown f.line f.behind f.ends f.whole
            (subst IsUtf8 (sym spelled) (IsUtf8-append l.before (l.line ++ f.line) before line));
      }
    where
      l : LastLine (take n bytes)
      l = last-line (take n bytes)

      f : FirstLine (drop n bytes)
      f = first-line (drop n bytes)

      before : IsUtf8 l.before
      before = front-text l.before l.line l.begins (subst IsUtf8 l.whole valid.front)

      cut : bytes ≡ l.before ++ ((l.line ++ f.line) ++ f.behind)
      cut =
          sym (take-append-drop n bytes) ∙ ap (λ xs. xs ++ drop n bytes) l.whole
          ∙ ap (λ ys. (l.before ++ l.line) ++ ys) f.whole ∙ append_assoc l.before l.line (f.line ++ f.behind)
          ∙ ap (λ ys. l.before ++ ys) (sym (append_assoc l.line f.line f.behind))

      spelled : take n bytes ++ f.line ≡ l.before ++ (l.line ++ f.line)
      spelled = ap (λ xs. xs ++ f.line) l.whole ∙ append_assoc l.before l.line f.line

      feeds : 1 + count_by is_feed (take n bytes) ≡ 1 + count_by is_feed l.before
      feeds =
          omega (
            arith,
            ap (count_by is_feed) l.whole,
            sum_by-append (λ x. cond (is_feed x) 1 0) l.before l.line,
            none-counted l.line l.alone,
          )
