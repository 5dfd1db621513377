-- One script of the grid, and a change of it.
use Rattle.std.proofs.Common.{◌≡◌, ◌≢◌, ℕ, zero, suc, ◌<◌, ◌⊎◌, inl, inr, Bool, true, false, eqb, List, [], ◌∷◌, ◌++◌, length, refl, ap, sym, ◌∙◌, subst, arith}
use Rattle.std.specs.Prelude.{Option, Some, None, slice_get, slice_set}
use Rattle.std.specs.Option.{option_map}
use Rattle.std.specs.declared.result.Result.{Result}
use Rattle.std.specs.declared.result.Result.TheVariants.{Ok, Err}
use Rattle.std.proofs.lemmas.Bool.Decides.{eqb_tells}
use Rattle.std.proofs.lemmas.Option.{slice_get_within}
use Rattle.lsl_code.specs.declared.woven_units.Woven.{Woven as Code}
use Rattle.lsl_post.specs.declared.entries.Entry.{Entry}
use Rattle.lsl_post.specs.declared.parts.ScriptParts.{ScriptParts}
use Rattle.lsl_post.specs.Told.{Told}
use Rattle.lsl_post.specs.Journal.{Part, Tells}
use Rattle.lsl_script.specs.Parts.{parts_of}
use Rattle.lsl_script.specs.Scripts.{Script}
use Rattle.lsl_region.specs.declared.grid.Seat.{Seat}
use Rattle.lsl_region.specs.Grids.{Contents, IsScript, Stands, is_out, seat_of}
use Rattle.lsl_region.specs.Worlds.{Member, World, at_member, changed_at, with_member}

pub slice_get-set_same : {X : Type 0} (xs : List X) (i : ℕ) (y : X) → i < length xs
    → slice_get (slice_set xs i y) i ≡ Some y
slice_get-set_same [] i y h = absurd (omega arith)
slice_get-set_same (x ∷ xs) zero y h = refl
slice_get-set_same (x ∷ xs) (suc i) y h = slice_get-set_same xs i y (omega arith)

pub slice_get-set_other : {X : Type 0} (xs : List X) (i j : ℕ) (y : X) → j ≢ i
    → slice_get (slice_set xs i y) j ≡ slice_get xs j
slice_get-set_other [] zero j y n = refl
slice_get-set_other [] (suc i) j y n = refl
slice_get-set_other (x ∷ xs) zero zero y n = absurd (n refl)
slice_get-set_other (x ∷ xs) zero (suc j) y n = refl
slice_get-set_other (x ∷ xs) (suc i) zero y n = refl
slice_get-set_other (x ∷ xs) (suc i) (suc j) y n = slice_get-set_other xs i j y (λ e. n (ap suc e))

length-same : {A B : Type 0} (f : ℕ → B → A) (xs : List A) (ys : List B)
    → ((n : ℕ) → slice_get xs n ≡ option_map (f n) (slice_get ys n)) → length xs ≡ length ys
length-same f [] [] h = refl
length-same f [] (y ∷ ys) h = let e = h 0 in absurd cc
length-same f (x ∷ xs) [] h = let e = h 0 in absurd cc
length-same f (x ∷ xs) (y ∷ ys) h = ap suc (length-same (λ n. f (suc n)) xs ys (λ n. h (suc n)))

pub stands-length : (codes : List Code) (away : Option ℕ) (clock : ℕ) (grid : Contents) (w : World)
    → Stands codes away clock grid w → length grid.seats ≡ length w.members
stands-length codes away clock grid w st =
    length-same (λ n. seat_of codes (is_out away n)) grid.seats w.members st.seats

-- the member of the world whose seat this is
pub record Sits (codes : List Code) (away : Option ℕ) (w : World) (n : ℕ) (seat : Seat) : Type 0 where
  pub member : Member
  pub at : slice_get w.members n ≡ Some member
  pub is : seat ≡ seat_of codes (is_out away n) member

module _ (codes : List Code) (away : Option ℕ) (clock : ℕ) (grid : Contents) (w : World)
    (st : Stands codes away clock grid w) where
  pub sits : (n : ℕ) (seat : Seat) → slice_get grid.seats n ≡ Some seat → Sits codes away w n seat
  sits n seat e = go (slice_get w.members n) refl where
    go : (o : Option Member) → slice_get w.members n ≡ o → Sits codes away w n seat
    go None k =
        let z : Some seat ≡ None = sym e ∙ st.seats n ∙ ap (option_map (seat_of codes (is_out away n))) k in
        absurd cc
    go (Some m) k =
        let z : Some seat ≡ Some (seat_of codes (is_out away n) m)
        = sym e ∙ st.seats n ∙ ap (option_map (seat_of codes (is_out away n))) k in
        record { member = m; at = k; is = cc }

  pub seated-at : (n : ℕ) (m : Member) → slice_get w.members n ≡ Some m
      → slice_get grid.seats n ≡ Some (seat_of codes (is_out away n) m)
  seated-at n m e = st.seats n ∙ ap (option_map (seat_of codes (is_out away n))) e

  -- one member becomes another
  module _ (after : Option ℕ) (new : Contents) (n : ℕ) (m t : Member) (at : slice_get w.members n ≡ Some m)
      (script : IsScript codes (is_out after n) t.script) (objects : new.objects ≡ grid.objects)
      (cards : new.cards ≡ grid.cards)
      (seats : new.seats ≡ slice_set grid.seats n (seat_of codes (is_out after n) t))
      (others : (k : ℕ) → k ≢ n → is_out after k ≡ is_out away k) where
    abbrev members : List Member
    members = slice_set w.members n t

    seats-with : (k : ℕ) → ((eqb k n ≡ true) × (k ≡ n)) ⊎ ((eqb k n ≡ false) × (k ≢ n))
        → slice_get new.seats k ≡ option_map (seat_of codes (is_out after k)) (slice_get members k)
    seats-with k (inl e) =
        let here : slice_get (slice_set grid.seats n (seat_of codes (is_out after n) t)) n
        ≡ Some (seat_of codes (is_out after n) t)
        = slice_get-set_same grid.seats n _ (slice_get_within grid.seats n _ (seated-at n m at)) in
        let there : slice_get members n ≡ Some t
        = slice_get-set_same w.members n t (slice_get_within w.members n m at) in
        subst (λ (z : ℕ). slice_get new.seats z ≡ option_map (seat_of codes (is_out after z)) (slice_get members z))
        (sym e.1)
        (ap (λ (xs : List Seat). slice_get xs n) seats ∙ here
        ∙ sym (ap (option_map (seat_of codes (is_out after n))) there))
    seats-with k (inr e) =
        ap (λ (xs : List Seat). slice_get xs k) seats
        ∙ slice_get-set_other grid.seats n k _ e.1 ∙ st.seats k
        ∙ ap (λ (b : Bool). option_map (seat_of codes b) (slice_get w.members k)) (sym (others k e.1))
        ∙ ap (option_map (seat_of codes (is_out after k))) (sym (slice_get-set_other w.members n k t e.1))

    scripts-with : (k : ℕ) (u : Member) → ((eqb k n ≡ true) × (k ≡ n)) ⊎ ((eqb k n ≡ false) × (k ≢ n))
        → slice_get members k ≡ Some u → IsScript codes (is_out after k) u.script
    scripts-with k u (inl e) h =
        let there : slice_get members n ≡ Some t
        = slice_get-set_same w.members n t (slice_get_within w.members n m at) in
        let same : Some t ≡ Some u = sym there ∙ ap (slice_get members) (sym e.1) ∙ h in
        let is : t ≡ u = cc in
        subst (λ (k : ℕ). IsScript codes (is_out after k) u.script) (sym e.1)
        (subst (λ (z : Member). IsScript codes (is_out after n) z.script) is script)
    scripts-with k u (inr e) h =
        subst (λ (b : Bool). IsScript codes b u.script) (sym (others k e.1))
        (st.scripts k u (sym (slice_get-set_other w.members n k t e.1) ∙ h))

    pub stands-with : Stands codes after clock new (with_member w n t)
    stands-with = record {
      time = st.time;
      objects = objects ∙ st.objects;
      cards = cards ∙ st.cards;
      seats = λ k. seats-with k (eqb_tells k n);
      scripts = λ k u h. scripts-with k u (eqb_tells k n) h;
    }

pub at-member : (n : ℕ) (thing : Member → Told Script) (w : World) (m : Member) → slice_get w.members n ≡ Some m
    → at_member n thing w ≡ changed_at n thing w (Some m)
at-member n thing w m e = ap (changed_at n thing w) e

-- a script of the same code
pub record KeepsScript (codes : List Code) (away : Bool) (s t : Script) : Type 0 where
  pub script : IsScript codes away t
  pub code : t.code ≡ s.code

-- a script that isn't out was changed in its seat
module _ {T E : Type 0} (codes : List Code) (away : Option ℕ) (clock : ℕ) (grid new : Contents) (w : World) (n : ℕ)
    (seat : Seat) (script : Option ScriptParts) (thing : Member → Told Script)
    (st : Stands codes away clock grid w) (home : is_out away n ≡ false) (at : slice_get grid.seats n ≡ Some seat)
    (objects : new.objects ≡ grid.objects) (cards : new.cards ≡ grid.cards)
    (seats : new.seats ≡ slice_set grid.seats n (record seat { script = script }))
    (keeps : (m : Member) → IsScript codes false m.script → KeepsScript codes false m.script (thing m).value) where
  pub changed : (r : Result T E) (old now : List Entry)
      → ((m : Member) → slice_get w.members n ≡ Some m → seat ≡ seat_of codes false m
      → Tells r (λ t _. script ≡ Some (parts_of codes t)) old now (thing m))
      → Tells r (λ v _. Stands codes away clock new v) old now (at_member n thing w)
  changed (Ok x) old now told =
      let s = sits codes away clock grid w st n seat at in
      let is : seat ≡ seat_of codes false s.member = s.is ∙ ap (λ (b : Bool). seat_of codes b s.member) home in
      let d = told s.member s.at is in
      let t : Script = (thing s.member).value in
      let k = keeps s.member (subst (λ (b : Bool). IsScript codes b s.member.script) home (st.scripts n s.member s.at))
      in
      let same : record seat { script = script } ≡ seat_of codes (is_out away n) (record s.member { script = t })
      = ap (λ (z : Seat). record z { script = script }) is
      ∙ ap (λ (p : Option ScriptParts). record (seat_of codes false s.member) { script = p }) d.0
      ∙ ap (λ (c : ℕ). record (seat_of codes false s.member) { unit = c; script = Some (parts_of codes t) })
      (sym k.code)
      ∙ ap (λ (b : Bool). seat_of codes b (record s.member { script = t })) (sym home) in
      subst (λ (a : Told World). Stands codes away clock new a.value × (now ≡ old ++ a.entries))
      (sym (at-member n thing w s.member s.at)) (
        stands-with codes away clock grid w st away new n s.member (record s.member { script = t }) s.at
            (subst (λ (b : Bool). IsScript codes b t) (sym home) k.script) objects cards
            (seats ∙ ap (slice_set grid.seats n) same) (λ k e. refl),
        d.1,
      )
  changed (Err x) old now told =
      let s = sits codes away clock grid w st n seat at in
      let is : seat ≡ seat_of codes false s.member = s.is ∙ ap (λ (b : Bool). seat_of codes b s.member) home in
      subst (λ (a : Told World). Part old now a.entries) (sym (at-member n thing w s.member s.at))
      (told s.member s.at is)
