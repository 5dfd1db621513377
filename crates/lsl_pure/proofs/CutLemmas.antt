-- A text's bytes are cut where its characters are.
use Rattle.std.proofs.Common.{◌≡◌, ◌∙◌, ℕ, zero, suc, ◌+◌, ◌-◌, ◌<◌, ◌≤◌, Bool, true, false, cond, ◌||◌, nat_lt, List, [], ◌∷◌, ◌++◌, length, map, take, Option, Some, None, sym, ap, refl, subst, inl, inr, arith, length-append, nat_eq}
use Rattle.std.specs.Char.{encode_utf8}
use Rattle.std.specs.List.{starts_with, All, flat_map}
use Rattle.std.specs.Option.{option_map, option_map_or}
use Rattle.std.specs.Str.{encode_utf8_all}
use Rattle.std.proofs.lemmas.Bool.{cases_Bool, cond-true, cond-false}
use Rattle.std.proofs.lemmas.Bool.Decides.{nat_tests}
use Rattle.std.proofs.lemmas.List.{map-append, take_at}
use Rattle.std.proofs.lemmas.List.Elements.{All-head, All-tail}
use Rattle.lsl_value.specs.declared.list.Atom.{Atom}
use Rattle.lsl_value.specs.declared.list.Atom.TheVariants.{Str}
use Rattle.lsl_pure.specs.Parsing.{Cut, first_mark, behind_character, behind_mark, cut_behind, cut_of, piece_elements, mark_elements, cut_elements}
use Rattle.lsl_pure.specs.Spelling.{is_lead, spelled_mark, spelled_string}
use Rattle.lsl_pure.specs.declared.marks.Mark.{Mark}
use Rattle.lsl_pure.proofs.SpellingLemmas.{IsTail, IsOneCharacter, one_character, starts_with-encodes, starts_with-inside, starts_with-Decides}

-- a mark has a character
abbrev pub HasCharacter : Mark → Type 0
HasCharacter m = 0 < length m.text

-- a cut of the text in UTF-8
abbrev pub spelled_cut : Cut → Cut
spelled_cut cut = record {
  first = encode_utf8_all cut.first;
  rest = map (λ (e : Mark × List ℕ). (spelled_mark e.0, encode_utf8_all e.1)) cut.rest;
}

-- characters before a cut's first piece
abbrev pub before_cut : List ℕ → Cut → Cut
before_cut cs cut = record { first = cs ++ cut.first; rest = cut.rest }

-- the first mark

find-step : (b d : Bool) (m : Mark) (found other : Option Mark) → b ≡ d → found ≡ option_map spelled_mark other
    → cond b (Some (spelled_mark m)) found ≡ option_map spelled_mark (cond d (Some m) other)
find-step true true m found other same there = refl
find-step true false m found other same there = cc
find-step false true m found other same there = cc
find-step false false m found other same there = there

pub first_mark-encodes : (marks : List Mark) (text : List ℕ)
    → first_mark (map spelled_mark marks) (encode_utf8_all text)
    ≡ option_map spelled_mark (first_mark marks text)
first_mark-encodes [] text = refl
first_mark-encodes (m ∷ ms) text = find-step _ _ m _ _ (starts_with-encodes text m.text) (first_mark-encodes ms text)

nonempty_is : (text : List ℕ) → 0 < length text → (d : ℕ) × (ds : List ℕ) × (text ≡ d ∷ ds)
nonempty_is [] short = absurd (omega arith)
nonempty_is (d ∷ ds) short = (d, ds, refl)

mark-inside : (b : ℕ) (bs : List ℕ) (m : Mark) → is_lead b ≡ false → HasCharacter m
    → starts_with nat_eq (b ∷ bs) (encode_utf8_all m.text) ≡ false
mark-inside b bs m inside has =
    let parts = nonempty_is m.text has in
    ap (λ t. starts_with nat_eq (b ∷ bs) (encode_utf8_all t)) parts.2 ∙ starts_with-inside b bs parts.1 parts.0 inside

pub first_mark-inside : (marks : List Mark) (b : ℕ) (bs : List ℕ) → is_lead b ≡ false → All HasCharacter marks
    → first_mark (map spelled_mark marks) (b ∷ bs) ≡ None
first_mark-inside [] b bs inside has = refl
first_mark-inside (m ∷ ms) b bs inside has =
    cond-false _ _ _ (mark-inside b bs m inside (All-head HasCharacter m ms has))
    ∙ first_mark-inside ms b bs inside (All-tail HasCharacter m ms has)

-- the mark that was found is one of the marks, and stands there
pub record IsFound (marks : List Mark) (text : List ℕ) (m : Mark) : Type 0 where
  pub has : HasCharacter m
  pub stands : starts_with nat_eq text m.text ≡ true

pub found_is : (marks : List Mark) (text : List ℕ) (m : Mark) → All HasCharacter marks
    → first_mark marks text ≡ Some m → IsFound marks text m
found_is [] text m has found = cc
found_is (n ∷ ns) text m has found = elim (cases_Bool (starts_with nat_eq text n.text)) [
  | inl stands ↦
      let same : Some n ≡ Some m = sym (cond-true _ _ _ stands) ∙ found in
      let it : n ≡ m = cc in
      record {
        has = subst HasCharacter it (All-head HasCharacter n ns has);
        stands =
            ap (λ (k : Mark). starts_with nat_eq text k.text) (sym it) ∙ stands;
      }
  | inr fails ↦
      let there = found_is ns text m (All-tail HasCharacter n ns has) (sym (cond-false _ _ _ fails) ∙ found) in
      record { has = there.has; stands = there.stands }
]

-- passing over bytes

pub cut_behind-skip : (marks : List Mark) (k : ℕ) (p rest : List ℕ)
    → cut_behind marks (length p + k) (p ++ rest) ≡ cut_behind marks k rest
cut_behind-skip marks k [] rest = let sum : 0 + k ≡ k = omega arith in ap (λ n. cut_behind marks n rest) sum
cut_behind-skip marks k (b ∷ bs) rest =
    let sum : suc (length bs) + k ≡ suc (length bs + k) = omega arith in
    ap (λ n. cut_behind marks n (b ∷ (bs ++ rest))) sum ∙ cut_behind-skip marks k bs rest

-- a place at which no mark stands
pub cut_behind-none : (marks : List Mark) (b : ℕ) (bs : List ℕ) → first_mark marks (b ∷ bs) ≡ None
    → cut_behind marks 0 (b ∷ bs) ≡ behind_character b (cut_behind marks 0 bs)
cut_behind-none marks b bs none =
    ap (λ r. option_map_or (λ (m : Mark). behind_mark m (cut_behind marks (length m.text - 1) bs)) r
    (behind_character b (cut_behind marks 0 bs))) none

-- a place at which a mark stands
pub cut_behind-some : (marks : List Mark) (b : ℕ) (bs : List ℕ) (m : Mark) → first_mark marks (b ∷ bs) ≡ Some m
    → cut_behind marks 0 (b ∷ bs) ≡ behind_mark m (cut_behind marks (length m.text - 1) bs)
cut_behind-some marks b bs m some =
    ap (λ r. option_map_or (λ (m : Mark). behind_mark m (cut_behind marks (length m.text - 1) bs)) r
    (behind_character b (cut_behind marks 0 bs))) some

-- no mark stands inside of a character
cut_behind-tail : (marks : List Mark) (tail rest : List ℕ) → All HasCharacter marks → IsTail tail
    → cut_behind (map spelled_mark marks) 0 (tail ++ rest)
    ≡ before_cut tail (cut_behind (map spelled_mark marks) 0 rest)
cut_behind-tail marks [] rest has follows = refl
cut_behind-tail marks (b ∷ bs) rest has follows =
    cut_behind-none (map spelled_mark marks) b (bs ++ rest) (first_mark-inside marks b (bs ++ rest) follows.0 has)
    ∙ ap (behind_character b) (cut_behind-tail marks bs rest has follows.1)

-- a place at which a character begins and no mark stands
cut-none : (marks : List Mark) (c : ℕ) (cs : List ℕ) → All HasCharacter marks → first_mark marks (c ∷ cs) ≡ None
    → cut_behind (map spelled_mark marks) 0 (encode_utf8_all cs) ≡ spelled_cut (cut_behind marks 0 cs)
    → cut_behind (map spelled_mark marks) 0 (encode_utf8 c ++ encode_utf8_all cs)
    ≡ spelled_cut (cut_behind marks 0 (c ∷ cs))
cut-none marks c cs has none there =
    let one = one_character c in
    let spelled : encode_utf8 c ++ encode_utf8_all cs ≡ one.lead ∷ (one.tail ++ encode_utf8_all cs) =
    ap (λ b. b ++ encode_utf8_all cs) one.spelled in
    let nothing : first_mark (map spelled_mark marks) (one.lead ∷ (one.tail ++ encode_utf8_all cs)) ≡ None =
    ap (first_mark (map spelled_mark marks)) (sym spelled) ∙ first_mark-encodes marks (c ∷ cs)
    ∙ ap (option_map spelled_mark) none in
    ap (cut_behind (map spelled_mark marks) 0) spelled
    ∙ cut_behind-none (map spelled_mark marks) one.lead (one.tail ++ encode_utf8_all cs) nothing
    ∙ ap (behind_character one.lead) (cut_behind-tail marks one.tail (encode_utf8_all cs) has one.follows
    ∙ ap (before_cut one.tail) there)
    ∙ ap (λ b. before_cut b (spelled_cut (cut_behind marks 0 cs))) (sym one.spelled)
    ∙ ap spelled_cut (sym (cut_behind-none marks c cs none))

-- the bytes of a mark that stands here
record IsStanding (c : ℕ) (cs : List ℕ) (m : Mark) : Type 0 where
  others : List ℕ
  text : m.text ≡ c ∷ others
  fits : length others ≤ length cs
  same : take (length others) cs ≡ others

standing : (marks : List Mark) (c : ℕ) (cs : List ℕ) (m : Mark) → IsFound marks (c ∷ cs) m → IsStanding c cs m
standing marks c cs m found =
    let parts = nonempty_is m.text found.has in
    let begins = (starts_with-Decides (c ∷ cs) m.text).0 found.stands in
    let both : c ∷ cs ≡ parts.0 ∷ (parts.1 ++ begins.0) = begins.1 ∙ ap (λ t. t ++ begins.0) parts.2 in
    let head : c ≡ parts.0 = cc in
    let tail : cs ≡ parts.1 ++ begins.0 = cc in
    record {
      others = parts.1;
      text = parts.2 ∙ ap (λ d. d ∷ parts.1) (sym head);
      fits = omega (arith, ap length tail, length-append parts.1 begins.0);
      same = ap (take (length parts.1)) tail ∙ take_at parts.1 begins.0 (length parts.1) refl;
    }

length-character : (bytes : List ℕ) (c : IsOneCharacter bytes) → length bytes ≡ suc (length c.tail)
length-character bytes c = ap length c.spelled

cut-some : (marks : List Mark) (c : ℕ) (cs : List ℕ) (m : Mark) → All HasCharacter marks
    → first_mark marks (c ∷ cs) ≡ Some m
    → ((n : ℕ) → n ≤ length cs → cut_behind (map spelled_mark marks) (length (encode_utf8_all (take n cs)))
    (encode_utf8_all cs) ≡ spelled_cut (cut_behind marks n cs))
    → cut_behind (map spelled_mark marks) 0 (encode_utf8 c ++ encode_utf8_all cs)
    ≡ spelled_cut (cut_behind marks 0 (c ∷ cs))
cut-some marks c cs m has some there =
    let one = one_character c in
    let here = standing marks c cs m (found_is marks (c ∷ cs) m has some) in
    let spelled : encode_utf8 c ++ encode_utf8_all cs ≡ one.lead ∷ (one.tail ++ encode_utf8_all cs) =
    ap (λ b. b ++ encode_utf8_all cs) one.spelled in
    let something : first_mark (map spelled_mark marks) (one.lead ∷ (one.tail ++ encode_utf8_all cs))
    ≡ Some (spelled_mark m) =
    ap (first_mark (map spelled_mark marks)) (sym spelled) ∙ first_mark-encodes marks (c ∷ cs)
    ∙ ap (option_map spelled_mark) some in
    let size : length (encode_utf8_all m.text) - 1
    ≡ length one.tail + length (encode_utf8_all (take (length here.others) cs)) =
    omega (
      arith,
      ap (λ t. length (encode_utf8_all t)) here.text,
      length-append (encode_utf8 c)
          (encode_utf8_all here.others),
      length-character (encode_utf8 c) one,
      ap
          (λ t. length (encode_utf8_all t)) here.same,
    ) in
    let count : length here.others ≡ length m.text - 1 = omega (arith, ap length here.text) in
    ap (cut_behind (map spelled_mark marks) 0) spelled
    ∙ cut_behind-some (map spelled_mark marks) one.lead (one.tail ++ encode_utf8_all cs) (spelled_mark m) something
    ∙ ap (λ n. behind_mark (spelled_mark m)
    (cut_behind (map spelled_mark marks) n (one.tail ++ encode_utf8_all cs))) size
    ∙ ap (behind_mark (spelled_mark m)) (cut_behind-skip (map spelled_mark marks)
    (length (encode_utf8_all (take (length here.others) cs))) one.tail (encode_utf8_all cs)
    ∙ there (length here.others) here.fits)
    ∙ ap (λ n. spelled_cut (behind_mark m (cut_behind marks n cs))) count
    ∙ ap spelled_cut (sym (cut_behind-some marks c cs m some))

pub cut_behind-encodes : (marks : List Mark) (cs : List ℕ) (n : ℕ) → All HasCharacter marks → n ≤ length cs
    → cut_behind (map spelled_mark marks) (length (encode_utf8_all (take n cs))) (encode_utf8_all cs)
    ≡ spelled_cut (cut_behind marks n cs)
cut_behind-encodes marks [] n has short = refl
cut_behind-encodes marks (c ∷ cs) (suc n) has short =
    ap (λ k. cut_behind (map spelled_mark marks) k (encode_utf8 c ++ encode_utf8_all cs))
    (length-append (encode_utf8 c) (encode_utf8_all (take n cs)))
    ∙ cut_behind-skip (map spelled_mark marks) (length (encode_utf8_all (take n cs))) (encode_utf8 c)
    (encode_utf8_all cs)
    ∙ cut_behind-encodes marks cs n has (omega arith)
cut_behind-encodes marks (c ∷ cs) zero has short =
    cut-cases marks c cs has (first_mark marks (c ∷ cs)) refl (λ n low. cut_behind-encodes marks cs n has low)
  where
    cut-cases : (marks : List Mark) (c : ℕ) (cs : List ℕ) → All HasCharacter marks → (r : Option Mark)
        → first_mark marks (c ∷ cs) ≡ r
        → ((n : ℕ) → n ≤ length cs → cut_behind (map spelled_mark marks) (length (encode_utf8_all (take n cs)))
        (encode_utf8_all cs) ≡ spelled_cut (cut_behind marks n cs))
        → cut_behind (map spelled_mark marks) 0 (encode_utf8 c ++ encode_utf8_all cs)
        ≡ spelled_cut (cut_behind marks 0 (c ∷ cs))
    cut-cases marks c cs has None none there = cut-none marks c cs has none (there 0 (omega arith))
    cut-cases marks c cs has (Some m) some there = cut-some marks c cs m has some there

pub cut_of-encodes : (marks : List Mark) (cs : List ℕ) → All HasCharacter marks
    → cut_of (map spelled_mark marks) (encode_utf8_all cs) ≡ spelled_cut (cut_of marks cs)
cut_of-encodes marks cs has = cut_behind-encodes marks cs 0 has (omega arith)

-- and its elements are the same, spelled out

both-nonempty : (m n : ℕ) → 0 < m → nat_lt 0 m ≡ nat_lt 0 (suc n)
both-nonempty m n some = grind (arith, nat_tests)

nonempty-encodes : (text : List ℕ) → nat_lt 0 (length (encode_utf8_all text)) ≡ nat_lt 0 (length text)
nonempty-encodes [] = refl
nonempty-encodes (c ∷ cs) =
    let some : 0 < length (encode_utf8 c ++ encode_utf8_all cs) =
    omega (
      arith,
      length-append (encode_utf8 c) (encode_utf8_all cs),
      length-character (encode_utf8 c)
          (one_character c),
    ) in
    both-nonempty (length (encode_utf8 c ++ encode_utf8_all cs)) (length cs) some

map-cond : (b : Bool) (a : Atom) → map spelled_string (cond b (a ∷ []) []) ≡ cond b (spelled_string a ∷ []) []
map-cond true a = refl
map-cond false a = refl

pub piece_elements-encodes : (keep : Bool) (piece : List ℕ)
    → piece_elements keep (encode_utf8_all piece) ≡ map spelled_string (piece_elements keep piece)
piece_elements-encodes keep piece =
    ap (λ b. cond (keep || b) (Str (encode_utf8_all piece) ∷ []) []) (nonempty-encodes piece)
    ∙ sym (map-cond (keep || nat_lt 0 (length piece)) (Str piece))

pub mark_elements-encodes : (m : Mark) → mark_elements (spelled_mark m) ≡ map spelled_string (mark_elements m)
mark_elements-encodes m = sym (map-cond m.spacer (Str m.text))

-- the elements of what stands behind the first piece
abbrev pub rest_elements : Bool → List (Mark × List ℕ) → List Atom
rest_elements keep rest = flat_map (λ (e : Mark × List ℕ). mark_elements e.0 ++ piece_elements keep e.1) rest

rest_elements-encodes : (keep : Bool) (rest : List (Mark × List ℕ))
    → rest_elements keep (map (λ (e : Mark × List ℕ). (spelled_mark e.0, encode_utf8_all e.1)) rest)
    ≡ map spelled_string (rest_elements keep rest)
rest_elements-encodes keep [] = refl
rest_elements-encodes keep (e ∷ es) =
    ap (λ t. (t ++ piece_elements keep (encode_utf8_all e.1)) ++ rest_elements keep
    (map (λ (e : Mark × List ℕ). (spelled_mark e.0, encode_utf8_all e.1)) es)) (mark_elements-encodes e.0)
    ∙ ap (λ t. (map spelled_string (mark_elements e.0) ++ t) ++ rest_elements keep
    (map (λ (e : Mark × List ℕ). (spelled_mark e.0, encode_utf8_all e.1)) es))
    (piece_elements-encodes keep e.1)
    ∙ ap (λ t. (map spelled_string (mark_elements e.0) ++ map spelled_string (piece_elements keep e.1)) ++ t)
    (rest_elements-encodes keep es)
    ∙ ap (λ t. t ++ map spelled_string (rest_elements keep es))
    (sym (map-append spelled_string (mark_elements e.0) (piece_elements keep e.1)))
    ∙ sym (map-append spelled_string (mark_elements e.0 ++ piece_elements keep e.1) (rest_elements keep es))

pub cut_elements-encodes : (keep : Bool) (cut : Cut)
    → cut_elements keep (spelled_cut cut) ≡ map spelled_string (cut_elements keep cut)
cut_elements-encodes keep cut =
    ap (λ t. t ++ rest_elements keep (map (λ (e : Mark × List ℕ). (spelled_mark e.0, encode_utf8_all e.1))
    cut.rest)) (piece_elements-encodes keep cut.first)
    ∙ ap (λ t. map spelled_string (piece_elements keep cut.first) ++ t) (rest_elements-encodes keep cut.rest)
    ∙ sym (map-append spelled_string (piece_elements keep cut.first) (rest_elements keep cut.rest))

pub parsed-spelled : (keep : Bool) (text bytes : List ℕ) (slice marks : List Mark)
    → bytes ≡ encode_utf8_all text → slice ≡ marks → All HasCharacter marks
    → cut_elements keep (cut_of (map spelled_mark slice) bytes)
    ≡ map spelled_string (cut_elements keep (cut_of marks text))
parsed-spelled keep text bytes slice marks spelled same has =
    ap (λ b. cut_elements keep (cut_of (map spelled_mark slice) b)) spelled
    ∙ ap (λ ms. cut_elements keep (cut_of (map spelled_mark ms) (encode_utf8_all text))) same
    ∙ ap (cut_elements keep) (cut_of-encodes marks text has) ∙ cut_elements-encodes keep (cut_of marks text)
