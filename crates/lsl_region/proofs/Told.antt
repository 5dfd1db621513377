-- The rows of a grid's seats, when one of them is changed or one more is there.
use Rattle.std.proofs.Common.{◌≡◌, ◌≢◌, ℕ, ◌+◌, ◌<◌, ◌≤◌, ◌⊎◌, inl, inr, true, false, eqb, leb, List, [], ◌∷◌, ◌++◌, length, get_or, ℤ, refl, ap, sym, ◌∙◌, subst, arith, length-append}
use Rattle.std.specs.Prelude.{Some, slice_get, slice_set}
use Rattle.std.proofs.Math.ListN.{get_or-append, length-set}
use Rattle.std.proofs.lemmas.Bool.Decides.{eqb_tells, leb_tells}
use Rattle.std.proofs.lemmas.List.{get_or-set_same, get_or-set_other, get_or_push}
use Rattle.std.proofs.lemmas.Option.{slice_get-get_or, slice_get_within}
use Rattle.lsl_region.specs.declared.grid.Seat.{Seat}
use Rattle.lsl_region.specs.Hearing.{HaveRows, HasRow}
use Rattle.lsl_region.proofs.Behind.{get-more}
use Rattle.lsl_region.proofs.Placed.{slice_get-set_other, slice_get-set_same}
use Rattle.lsl_region.proofs.Seats.{no_seat, read-at}

-- the row and the seat at a place are others
module _ (rows new : List (List ℤ)) (seats : List Seat) (n : ℕ) (t : Seat) (there : n < length seats)
    (count : length new ≡ length rows) (others : (k : ℕ) → k ≢ n → get_or new k [] ≡ get_or rows k [])
    (has : HasRow (get_or new n []) t.script) (old : HaveRows rows seats) where
  row-at : (k : ℕ) (s : Seat) → ((eqb k n ≡ true) × (k ≡ n)) ⊎ ((eqb k n ≡ false) × (k ≢ n))
      → slice_get (slice_set seats n t) k ≡ Some s → HasRow (get_or new k []) s.script
  row-at k s (inl e) h =
      let here : slice_get (slice_set seats n t) n ≡ Some t = slice_get-set_same seats n t there in
      let same : Some t ≡ Some s = sym here ∙ ap (slice_get (slice_set seats n t)) (sym e.1) ∙ h in
      let is : t ≡ s = cc in
      subst (λ (z : ℕ). HasRow (get_or new z []) s.script) (sym e.1)
      (subst (λ (z : Seat). HasRow (get_or new n []) z.script) is has)
  row-at k s (inr e) h =
      subst (λ (row : List ℤ). HasRow row s.script) (sym (others k e.1))
      (old.each k s (sym (slice_get-set_other seats n k t e.1) ∙ h))

  pub row-set : HaveRows new (slice_set seats n t)
  row-set = record {
    count = omega (arith, old.count, count, length-set seats n t);
    each = λ k s h. row-at k s (eqb_tells k n) h;
  }

-- the seat alone is another
pub row-kept : (rows : List (List ℤ)) (seats : List Seat) (n : ℕ) (t : Seat) → n < length seats
    → HasRow (get_or rows n []) t.script → HaveRows rows seats → HaveRows rows (slice_set seats n t)
row-kept rows seats n t there has old = row-set rows rows seats n t there refl (λ k e. refl) has old

-- a script comes back, with its channels
pub row-told : (rows new : List (List ℤ)) (seats : List Seat) (n : ℕ) (t : Seat) (row : List ℤ)
    → n < length seats → new ≡ slice_set rows n row → HasRow row t.script → HaveRows rows seats
    → HaveRows new (slice_set seats n t)
row-told rows new seats n t row there told is old =
    subst (λ (z : List (List ℤ)). HaveRows z (slice_set seats n t)) (sym told)
    (row-set rows (slice_set rows n row) seats n t there (length-set rows n row)
    (λ k e. get_or-set_other rows n k row [] e)
    (subst (λ (row : List ℤ). HasRow row t.script)
    (sym (get_or-set_same rows n row [] (omega (arith, there, old.count)))) is) old)

-- reserving for one seat more, and adding its row
module _ (rows : List (List ℤ)) (seats : List Seat) (row : List ℤ) (old : HaveRows rows seats) where
  abbrev pub told : List (List ℤ)
  told = slice_set (rows ++ [] ∷ []) (length seats) row

  told-count : length told ≡ length rows + 1
  told-count = omega (arith, length-set (rows ++ [] ∷ []) (length seats) row, length-append rows ([] ∷ []))

  told-before : (k : ℕ) (s : Seat) → slice_get seats k ≡ Some s → HasRow (get_or told k []) s.script
  told-before k s h =
      let within = slice_get_within seats k s h in
      subst (λ (row : List ℤ). HasRow row s.script)
      (sym (get_or-set_other (rows ++ [] ∷ []) (length seats) k row [] (λ e. omega (arith, e, within))
      ∙ get_or-append rows ([] ∷ []) [] k (omega (arith, within, old.count))))
      (old.each k s h)

  module _ (t : Seat) (is : HasRow row t.script) where
    told-at : (k : ℕ) (s : Seat) → ((leb (length seats) k ≡ true) × (length seats ≤ k))
        ⊎ ((leb (length seats) k ≡ false) × (k < length seats))
        → slice_get (seats ++ t ∷ []) k ≡ Some s → HasRow (get_or told k []) s.script
    told-at k s (inl e) h =
        let within = slice_get_within (seats ++ t ∷ []) k s h in
        let at : k ≡ length seats = omega (arith, e.1, within, length-append seats (t ∷ [])) in
        let here : slice_get (seats ++ t ∷ []) k ≡ Some t
        = read-at (seats ++ t ∷ []) k t within (sym (get_or_push seats t t k (sym at))) in
        let same : Some t ≡ Some s = sym here ∙ h in
        let last : t ≡ s = cc in
        let read : get_or told k [] ≡ row
        = ap (λ (z : ℕ). get_or told z []) at
        ∙ get_or-set_same (rows ++ [] ∷ []) (length seats) row []
        (omega (arith, old.count, length-append rows ([] ∷ []))) in
        subst (λ (row : List ℤ). HasRow row s.script) (sym read)
        (subst (λ (z : Seat). HasRow row z.script) last is)
    told-at k s (inr e) h =
        let there : slice_get seats k ≡ Some (get_or seats k no_seat) = slice_get-get_or seats k no_seat e.1 in
        let same : Some (get_or seats k no_seat) ≡ Some s
        = sym (get-more seats t k (get_or seats k no_seat) there) ∙ h in
        let first : get_or seats k no_seat ≡ s = cc in
        told-before k s (there ∙ ap (λ (z : Seat). Some z) first)

    pub row-more : HaveRows told (seats ++ t ∷ [])
    row-more = record {
      count = omega (arith, old.count, told-count, length-append seats (t ∷ []));
      each = λ k s h. told-at k s (leb_tells (length seats) k) h;
    }

-- the rows where a seat was added, with what was done as equations
pub row-pushed : (rows pushed new : List (List ℤ)) (seats : List Seat) (n : ℕ) (row : List ℤ) (t : Seat)
    → n ≡ length seats → pushed ≡ rows ++ [] ∷ [] → new ≡ slice_set pushed n row → HasRow row t.script
    → HaveRows rows seats → HaveRows new (seats ++ t ∷ [])
row-pushed rows pushed new seats n row t at more is script old =
    subst (λ (z : List (List ℤ)). HaveRows z (seats ++ t ∷ []))
    (sym (is ∙ ap (λ (z : List (List ℤ)). slice_set z n row) more
    ∙ ap (λ (k : ℕ). slice_set (rows ++ [] ∷ []) k row) at))
    (row-more rows seats row old t script)

-- the rows where there was no memory for the seat, with what was done as equations
pub row-room : (rows pushed new : List (List ℤ)) (seats : List Seat) (n : ℕ) (row : List ℤ)
    → n ≡ length seats → pushed ≡ rows ++ [] ∷ [] → new ≡ slice_set pushed n row → HaveRows rows seats
    → HaveRows new seats
row-room rows pushed new seats n row at more is old =
    subst (λ (z : List (List ℤ)). HaveRows z seats)
    (sym (is ∙ ap (λ (z : List (List ℤ)). slice_set z n row) more
    ∙ ap (λ (k : ℕ). slice_set (rows ++ [] ∷ []) k row) at))
    (record {
      count = omega (arith, old.count, told-count rows seats row old);
      each = told-before rows seats row old;
    })
