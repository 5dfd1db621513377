-- Lists that consist of parts of another.
use Rattle.std.proofs.Common.{◌≡◌, ◌∙◌, refl, sym, ap, subst, arith, ℕ, zero, suc, ◌+◌, ◌-◌, ◌<◌, ◌≤◌, List, [], ◌∷◌, ◌++◌, Option, Some, None, length, take, drop, get_or}
use Rattle.std.specs.Prelude.{slice_get}
use Rattle.std.proofs.Math.Seq.{drop-append_seam}
use Rattle.std.proofs.lemmas.List.{append-nil, append_assoc, drop-append-le, drop-take, length-append, length-drop, length-take-le, take-append-le, take-take}
use Rattle.std.proofs.lemmas.Option.{slice_get_past}
use Rattle.lsl_compact.specs.declared.pieces.Piece.{Piece}
use Rattle.lsl_compact.specs.Pieces.{ArePieces, Worded, joined, part, worded}
use Rattle.lsl_compact.specs.Places.{IsIn, span}

pub get_left : {A : Type 0} → (xs ys : List A) (k : ℕ) → k < length xs → slice_get (xs ++ ys) k ≡ slice_get xs k
get_left [] ys k lt = absurd (omega arith)
get_left (x ∷ xs) ys zero lt = refl
get_left (x ∷ xs) ys (suc k) lt = get_left xs ys k (omega arith)

pub get_right : {A : Type 0} → (xs ys : List A) (k n : ℕ) → n ≡ length xs + k
    → slice_get (xs ++ ys) n ≡ slice_get ys k
get_right [] ys k n is = let same : n ≡ k = omega arith in ap (λ (i : ℕ). slice_get ys i) same
get_right (x ∷ xs) ys k zero is = absurd (omega arith)
get_right (x ∷ xs) ys k (suc n) is = get_right xs ys k n (omega arith)

pub get_drop : {A : Type 0} → (n : ℕ) (xs : List A) (k m : ℕ) → m ≡ n + k → slice_get (drop n xs) k ≡ slice_get xs m
get_drop zero xs k m is = let same : k ≡ m = omega arith in ap (λ (i : ℕ). slice_get xs i) same
get_drop (suc n) [] k m is = refl
get_drop (suc n) (x ∷ xs) k zero is = absurd (omega arith)
get_drop (suc n) (x ∷ xs) k (suc m) is = get_drop n xs k m (omega arith)

pub get_take : {A : Type 0} → (n : ℕ) (xs : List A) (k : ℕ) → k < n → slice_get (take n xs) k ≡ slice_get xs k
get_take zero xs k lt = absurd (omega arith)
get_take (suc n) [] k lt = refl
get_take (suc n) (x ∷ xs) zero lt = refl
get_take (suc n) (x ∷ xs) (suc k) lt = get_take n xs k (omega arith)

-- a part has as many elements as its piece says
pub part_length : {A : Type 0} → (pool : List A) (p : Piece) → p.from + p.count ≤ length pool
    → length (part pool p) ≡ p.count
part_length pool p le =
    let a = length-drop p.from pool in
    length-take-le p.count (drop p.from pool) (omega arith)

pub part_kept : {A : Type 0} → (pool more : List A) (p : Piece) → p.from + p.count ≤ length pool
    → part (pool ++ more) p ≡ part pool p
part_kept {A} pool more p le =
    let a = length-drop p.from pool in
    ap (λ (l : List A). take p.count l) (drop-append-le p.from pool more (omega arith))
    ∙ take-append-le p.count (drop p.from pool) more (omega arith)

pub joined_kept : {A : Type 0} → (pool more : List A) (ps : List Piece) → ArePieces (length pool) ps
    → joined (pool ++ more) ps ≡ joined pool ps
joined_kept pool more [] are = refl
joined_kept {A} pool more (p ∷ ps) are =
    ap (λ (l : List A). l ++ joined (pool ++ more) ps) (part_kept pool more p are.0)
    ∙ ap (λ (l : List A). part pool p ++ l) (joined_kept pool more ps are.1)

pub pieces_kept : (n m : ℕ) (ps : List Piece) → ArePieces n ps → n ≤ m → ArePieces m ps
pieces_kept n m [] are le = tt
pieces_kept n m (p ∷ ps) are le = let a = are.0 in (omega arith, pieces_kept n m ps are.1 le)

pub pieces_more : (n : ℕ) (ps : List Piece) (p : Piece) → ArePieces n ps → p.from + p.count ≤ n
    → ArePieces n (ps ++ p ∷ [])
pieces_more n [] p are le = (le, tt)
pieces_more n (q ∷ ps) p are le = (are.0, pieces_more n ps p are.1 le)

pub joined_more : {A : Type 0} → (pool : List A) (ps : List Piece) (p : Piece)
    → joined pool (ps ++ p ∷ []) ≡ joined pool ps ++ part pool p
joined_more pool [] p = append-nil (part pool p)
joined_more {A} pool (q ∷ ps) p =
    ap (λ (l : List A). part pool q ++ l) (joined_more pool ps p)
    ∙ sym (append_assoc (part pool q) (joined pool ps) (part pool p))

-- where the piece of number k has the place, its element is that of the pool
pub joined_at : {A : Type 0} → (pool : List A) (ps : List Piece) (k place : ℕ) (p : Piece) → ArePieces (length pool) ps
    → slice_get ps k ≡ Some p → span (take k ps) ≤ place → place - span (take k ps) < p.count
    → slice_get (joined pool ps) place ≡ slice_get pool (p.from + (place - span (take k ps)))
joined_at pool [] k place p are is from within = absurd cc
joined_at {A} pool (q ∷ ps) zero place p are is from within =
    let same : q ≡ p = cc in
    subst (λ (r : Piece). slice_get (joined pool (r ∷ ps)) place ≡ slice_get pool (p.from + (place - 0))) (sym same)
    (
    let le : p.from + p.count ≤ length pool = subst (λ (r : Piece). r.from + r.count ≤ length pool) same are.0 in
    let long = part_length pool p le in
    let at : place < p.count = omega arith in
    get_left (part pool p) (joined pool ps) place (omega arith)
    ∙ get_take p.count (drop p.from pool) place at
    ∙ get_drop p.from pool place (p.from + (place - 0)) (omega arith)
    )
joined_at pool (q ∷ ps) (suc k) place p are is from within =
    let long = part_length pool q are.0 in
    let less : place ≡ length (part pool q) + (place - q.count) = omega arith in
    let same : (place - q.count) - span (take k ps) ≡ place - (q.count + span (take k ps)) = omega arith in
    get_right (part pool q) (joined pool ps) (place - q.count) place less
    ∙ joined_at pool ps k (place - q.count) p are.1 is (omega arith) (omega arith)
    ∙ ap (λ (n : ℕ). slice_get pool (p.from + n)) same

pub joined_length : {A : Type 0} → (pool : List A) (ps : List Piece) → ArePieces (length pool) ps
    → length (joined pool ps) ≡ span ps
joined_length pool [] are = refl
joined_length pool (p ∷ ps) are =
    let a = part_length pool p are.0 in
    let b = joined_length pool ps are.1 in
    let c = length-append (part pool p) (joined pool ps) in
    omega arith

pub within_pool : (n : ℕ) (ps : List Piece) (k : ℕ) (p : Piece) → ArePieces n ps → slice_get ps k ≡ Some p
    → p.from + p.count ≤ n
within_pool n [] k p are is = absurd cc
within_pool n (q ∷ ps) zero p are is =
    let same : q ≡ p = cc in subst (λ (r : Piece). r.from + r.count ≤ n) same are.0
within_pool n (q ∷ ps) (suc k) p are is = within_pool n ps k p are.1 is

-- the words that are repeated
pub word_part : {A : Type 0} → (pool : List A) (words : ℕ) (p : Piece) → words ≤ length pool
    → p.from + p.count ≤ length (take words pool) → part pool p ≡ take p.count (drop p.from (take words pool))
word_part {A} pool words p le within =
    let a = length-take-le words pool le in
    let sum : words ≡ p.from + (words - p.from) = omega arith in
    sym (ap (λ (n : ℕ). take p.count (drop p.from (take n pool))) sum
    ∙ ap (λ (l : List A). take p.count l) (drop-take p.from (words - p.from) pool)
    ∙ take-take p.count (words - p.from) (drop p.from pool) (omega arith))

-- one element of the pool, its last
pub last_part : {A : Type 0} → (pool : List A) (x : A) (p : Piece) → p.from ≡ length pool → p.count ≡ 1
    → part (pool ++ x ∷ []) p ≡ x ∷ []
last_part {A} pool x p from one =
    ap (λ (n : ℕ). take p.count (drop n (pool ++ x ∷ []))) from
    ∙ ap (λ (l : List A). take p.count l) (drop-append_seam pool (x ∷ []))
    ∙ ap (λ (n : ℕ). take n (x ∷ [])) one

module _ {A : Type 0} (first pool : List A) (words : ℕ) (ps new : List Piece) (p : Piece) (old : Worded A)
    (le : words ≤ length pool) (are : ArePieces (length pool) ps) (is : new ≡ ps ++ p ∷ [])
    (view : worded (take words pool) (first ++ joined pool ps) ≡ old) where
  pub repeated_holds : p.from + p.count ≤ length old.words → ArePieces (length pool) new
  repeated_holds within =
      let a = length-take-le words pool le in
      let b = ap (λ (w : Worded A). length w.words) view in
      subst (ArePieces (length pool)) (sym is) (pieces_more (length pool) ps p are (omega arith))

  pub repeated_view : p.from + p.count ≤ length old.words
      → worded (take words pool) (first ++ joined pool new)
      ≡ worded old.words (old.list ++ take p.count (drop p.from old.words))
  repeated_view within =
      let b = ap (λ (w : Worded A). length w.words) view in
      ap (λ (l : List Piece). worded (take words pool) (first ++ joined pool l)) is
      ∙ ap (λ (l : List A). worded (take words pool) (first ++ l)) (joined_more pool ps p)
      ∙ ap (λ (l : List A). worded (take words pool) l) (sym (append_assoc first (joined pool ps) (part pool p)))
      ∙ ap (λ (l : List A). worded (take words pool) ((first ++ joined pool ps) ++ l))
      (word_part pool words p le (omega arith))
      ∙ ap (λ (w : Worded A). worded w.words (w.list ++ take p.count (drop p.from w.words))) view

  module _ (more : List A) (x : A) (grown : more ≡ pool ++ x ∷ []) (from : p.from ≡ length pool) (one : p.count ≡ 1)
    where
      pub pushed_holds : (words ≤ length more) × ArePieces (length more) new
      pushed_holds =
          let a = ap {A = List A} length grown in
          let b = length-append pool (x ∷ []) in (
            omega arith,
            subst (ArePieces (length more)) (sym is)
                (pieces_more (length more) ps p (pieces_kept (length pool) (length more) ps are (omega arith))
                (omega arith)),
          )

      pub pushed_view : worded (take words more) (first ++ joined more new) ≡ worded old.words (old.list ++ x ∷ [])
      pushed_view =
          ap (λ (l : List A). worded (take words l) (first ++ joined l new)) grown
          ∙ ap (λ (l : List A). worded l (first ++ joined (pool ++ x ∷ []) new)) (take-append-le words pool (x ∷ []) le)
          ∙ ap (λ (l : List Piece). worded (take words pool) (first ++ joined (pool ++ x ∷ []) l)) is
          ∙ ap (λ (l : List A). worded (take words pool) (first ++ l))
          (joined_more (pool ++ x ∷ []) ps p
          ∙ ap (λ (l : List A). l ++ part (pool ++ x ∷ []) p) (joined_kept pool (x ∷ []) ps are)
          ∙ ap (λ (l : List A). joined pool ps ++ l) (last_part pool x p from one))
          ∙ ap (λ (l : List A). worded (take words pool) l) (sym (append_assoc first (joined pool ps) (x ∷ [])))
          ∙ ap (λ (w : Worded A). worded w.words (w.list ++ x ∷ [])) view

-- the pieces before the next one
pub span_next : (ps : List Piece) (k : ℕ) (d : Piece) → k < length ps
    → span (take (suc k) ps) ≡ span (take k ps) + (get_or ps k d).count
span_next [] k d lt = absurd (omega arith)
span_next (p ∷ ps) zero d lt = omega arith
span_next (p ∷ ps) (suc k) d lt = let next = span_next ps k d (omega arith) in omega arith

module _ {A : Type 0} (first pool list : List A) (ps seen : List Piece) (place before : ℕ)
    (are : ArePieces (length pool) ps) (view : first ++ joined pool ps ≡ list) (same : seen ≡ ps)
    (long : before ≡ length first) (after : before ≤ place) where
  pub view_past : span seen ≤ place - before → None ≡ slice_get list place
  view_past past =
      let a = ap {A = List A} length view in
      let b = length-append first (joined pool ps) in
      let c = joined_length pool ps are in
      let d = ap (λ (l : List Piece). span l) same in
      sym (slice_get_past list place (omega arith))

  pub view_at : (number k : ℕ) (p : Piece) (shown : List A) (r : Option A) → IsIn seen (place - before) number k p
      → shown ≡ pool → r ≡ slice_get shown number → r ≡ slice_get list place
  view_at number k p shown r there all got =
      let is = subst (λ (n : ℕ). IsIn ps (place - n) number k p) long
      (subst (λ (l : List Piece). IsIn l (place - before) number k p) same there) in
      got ∙ ap (λ (l : List A). slice_get l number) all ∙ ap (λ (n : ℕ). slice_get pool n) is.there
      ∙ sym (joined_at pool ps k (place - length first) p are is.piece is.from is.within)
      ∙ sym (get_right first (joined pool ps) (place - length first) place (omega arith))
      ∙ ap (λ (l : List A). slice_get l place) view
