-- Looking a spelling up in a table is the same as that the table has it.
use Rattle.std.proofs.Common.{◌≡◌, ℕ, zero, suc, Bool, true, false, cond, ◌&&◌, ◌⊎◌, inl, inr, List, [], ◌∷◌, Option, Some, None, refl, sym, ap, ◌∙◌, arith}
use Rattle.std.specs.Prelude.{bytes_eq, Contains}
use Rattle.std.specs.Cmp.Lexicographic.{bytes_decides}
use Rattle.lsl_lex.specs.Reading.{row_of}
use Rattle.lsl_lex.specs.declared.token_types.Sort.{Sort}

abbrev pub Row : Type 0
Row = List ℕ × Sort

abbrev pub IsRow : List Row → List ℕ → Sort → Type 0
IsRow [] u s = ⊥
IsRow (row ∷ rows) u s = ((row.0 ≡ u) × (row.1 ≡ s)) ⊎ IsRow rows u s

pub row_from_contains : (rows : List Row) (u : List ℕ) (s : Sort) → Contains rows (u, s) → IsRow rows u s
row_from_contains [] u s (k, lt, e) = absurd (omega arith)
row_from_contains (row ∷ rows) u s (zero, lt, e) = inl (ap (λ (r : Row). r.0) e, ap (λ (r : Row). r.1) e)
row_from_contains (row ∷ rows) u s (suc k, lt, e) = inr (row_from_contains rows u s (k, omega arith, e))

same_row : (row : Row) (u : List ℕ) (s : Sort) → row.0 ≡ u → row.1 ≡ s → row ≡ (u, s)
same_row row u s e f = ap (λ x. (x, row.1)) e ∙ ap (λ y. (u, y)) f

pub contains_from_row : (rows : List Row) (u : List ℕ) (s : Sort) → IsRow rows u s → Contains rows (u, s)
contains_from_row [] u s h = absurd h
contains_from_row (row ∷ rows) u s (inl (e, f)) =
    (0, omega arith, same_row row u s e f)
contains_from_row (row ∷ rows) u s (inr h) = let (k, lt, e) = contains_from_row rows u s h in (suc k, omega arith, e)

pub some_same : {A : Type 0} (x y : A) → ◌≡◌ {A = Option A} (Some x) (Some y) → x ≡ y
some_same x y e = cc

pub row_from_row_of : (rows : List Row) (u : List ℕ) (s : Sort) → row_of rows u ≡ Some s → IsRow rows u s
row_from_row_of [] u s e = absurd (cc)
row_from_row_of (row ∷ rows) u s e = go (bytes_eq u row.0) refl e (row_from_row_of rows u s)
  where
    go : (t : Bool) → bytes_eq u row.0 ≡ t → cond t (Some row.1) (row_of rows u) ≡ Some s
        → (row_of rows u ≡ Some s → IsRow rows u s) → IsRow (row ∷ rows) u s
    go true b e ih = inl (sym ((bytes_decides u row.0).0 b), some_same row.1 s e)
    go false b e ih = inr (ih e)

abbrev is_missing : Option Sort → Bool
is_missing None = true
is_missing (Some s) = false

-- no two rows have one spelling
abbrev pub distinct : List Row → Bool
distinct [] = true
distinct (row ∷ rows) = is_missing (row_of rows row.0) && distinct rows

and_left : (a b : Bool) → (a && b) ≡ true → a ≡ true
and_left true b e = refl
and_left false b e = e

and_right : (a b : Bool) → (a && b) ≡ true → b ≡ true
and_right true b e = e
and_right false b e = absurd (cc)

pub row_of-row : (rows : List Row) (u : List ℕ) (s : Sort) → distinct rows ≡ true → IsRow rows u s
    → row_of rows u ≡ Some s
row_of-row [] u s d h = absurd h
row_of-row (row ∷ rows) u s d (inl (e, f)) =
    ap (λ t. cond t (Some row.1) (row_of rows u)) ((bytes_decides u row.0).1 (sym e)) ∙ ap (λ x. Some x) f
row_of-row (row ∷ rows) u s d (inr h) = go (bytes_eq u row.0) refl
    (row_of-row rows u s (and_right (is_missing (row_of rows row.0)) (distinct rows) d) h)
  where
    go : (t : Bool) → bytes_eq u row.0 ≡ t → row_of rows u ≡ Some s → cond t (Some row.1) (row_of rows u) ≡ Some s
    go true b ih =
        let same : u ≡ row.0 = (bytes_decides u row.0).0 b in
        let missing : is_missing (row_of rows row.0) ≡ true =
        and_left (is_missing (row_of rows row.0)) (distinct rows) d in
        let found : is_missing (row_of rows row.0) ≡ false =
        ap (λ v. is_missing (row_of rows v)) (sym same) ∙ ap is_missing ih in
        absurd (let both = sym missing ∙ found in cc)
    go false b ih = ih

-- each spelling of the table passes
abbrev pub all_keys : (List ℕ → Bool) → List Row → Bool
all_keys p [] = true
all_keys p (row ∷ rows) = p row.0 && all_keys p rows

pub key_passes : (p : List ℕ → Bool) (rows : List Row) (u : List ℕ) (s : Sort) → all_keys p rows ≡ true
    → IsRow rows u s → p u ≡ true
key_passes p [] u s all h = absurd h
key_passes p (row ∷ rows) u s all (inl (e, f)) = ap p (sym e) ∙ and_left (p row.0) (all_keys p rows) all
key_passes p (row ∷ rows) u s all (inr h) = key_passes p rows u s (and_right (p row.0) (all_keys p rows) all) h
