-- Scripts come into the seats of an object, one seat after another.
use Rattle.std.proofs.Common.{◌≡◌, ◌∙◌, refl, sym, ap, subst, arith, ℕ, ◌+◌, ◌<◌, ◌≤◌, Bool, true, false, List, [], ◌∷◌, ◌++◌, length, take, drop, reverse, append-nil, append_assoc}
use Rattle.std.specs.Prelude.{nat_eq, if◌then◌else◌, Option, Some, None, slice_get, slice_set, map, is_some}
use Rattle.std.specs.List.{AllByRecursion, cons_option, filter_map}
use Rattle.std.specs.Option.{option_map, option_to_list}
use Rattle.std.proofs.lemmas.Bool.{false≢true}
use Rattle.std.proofs.lemmas.List.{drop-set-lt, drop_all, reverse-append, take_all, take_more_set}
use Rattle.std.proofs.lemmas.Option.{slice_get_within}
use Rattle.lsl_code.specs.declared.woven_units.Woven.{Woven as Code}
use Rattle.lsl_post.specs.declared.parts.ScriptParts.{ScriptParts}
use Rattle.lsl_post.proofs.Places.{drop-at}
use Rattle.lsl_region.specs.declared.grid.Seat.{Seat}
use Rattle.lsl_image.specs.Valid.{HasUnit, unit_number}
use Rattle.lsl_region.specs.Grids.{IsSeated}
use Rattle.lsl_region.proofs.Seats.{set-same}
use Rattle.lsl_region.specs.ObjectParts.{behind_first, parts_in_seat, reseated, with_first, with_unit}

-- the seats from one on are still to be filled with these scripts
abbrev pub reseat_from : ℕ → ℕ → List ScriptParts → List Seat → List Seat
reseat_from place n scripts seats = take n seats ++ reseated place scripts (drop n seats)

module _ (place n : ℕ) (scripts : List ScriptParts) (seats : List Seat) (seat : Seat)
    (at : slice_get seats n ≡ Some seat) where
  pub drop-here : drop n seats ≡ seat ∷ drop (n + 1) seats
  drop-here = drop-at seats n seat (sym at)

  pub drop-set : (t : Seat) → drop (n + 1) (slice_set seats n t) ≡ drop (n + 1) seats
  drop-set t = drop-set-lt (n + 1) seats n t (omega arith)

  pub take-set : (t : Seat) → take (n + 1) (slice_set seats n t) ≡ take n seats ++ t ∷ []
  take-set t = take_more_set seats n t (slice_get_within seats n seat at)

  pub reseat-one : reseat_from place (n + 1) (behind_first (parts_in_seat place seat) scripts)
      (slice_set seats n (with_first seat (parts_in_seat place seat) scripts))
      ≡ reseat_from place n scripts seats
  reseat-one =
      let p = parts_in_seat place seat in
      let t = with_first seat p scripts in
      let others = behind_first p scripts in
      ap (λ (z : List Seat). z ++ reseated place others (drop (n + 1) (slice_set seats n t))) (take-set t)
      ∙ ap (λ (z : List Seat). (take n seats ++ t ∷ []) ++ reseated place others z) (drop-set t)
      ∙ append_assoc (take n seats) (t ∷ []) (reseated place others (drop (n + 1) seats))
      ∙ ap (λ (z : List Seat). take n seats ++ reseated place scripts z) (sym drop-here)

-- the object's scripts from a seat on, one seat later
pub scripts-here : (place n : ℕ) (seats : List Seat) (seat t : Seat) → slice_get seats n ≡ Some seat
    → filter_map (parts_in_seat place) (drop n seats)
    ≡ cons_option (parts_in_seat place seat) (filter_map (parts_in_seat place) (drop (n + 1) (slice_set seats n t)))
scripts-here place n seats seat t at =
    ap (filter_map (parts_in_seat place)) (drop-here place n [] seats seat at)
    ∙ ap (λ (z : List Seat). cons_option (parts_in_seat place seat) (filter_map (parts_in_seat place) z))
    (sym (drop-set place n [] seats seat at t))

-- a script in a seat has the seat's unit
pub unit-in-seat : (place : ℕ) (seat : Seat) (parts : ScriptParts) → parts_in_seat place seat ≡ Some parts
    → parts.unit ≡ seat.unit
unit-in-seat place seat parts e = go (nat_eq seat.object place) seat.script e
  where
    go : (own : Bool) (o : Option ScriptParts)
        → (if own then option_map (with_unit seat.unit) o else None) ≡ Some parts → parts.unit ≡ seat.unit
    go true None e = absurd cc
    go true (Some q) e = let is : with_unit seat.unit q ≡ parts = cc in sym (ap (λ (z : ScriptParts). z.unit) is)
    go false o e = absurd cc

-- units of scripts that are to come into seats, and of those in the seats
pub units-next : (scripts others : List ScriptParts) (o : Option ScriptParts)
    → map unit_number scripts ≡ map unit_number (cons_option o others)
    → map unit_number (behind_first o scripts) ≡ map unit_number others
units-next scripts others None e = e
units-next [] others (Some parts) e = absurd cc
units-next (script ∷ scripts) others (Some parts) e = cc

pub unit-first : (script : ScriptParts) (scripts others : List ScriptParts) (parts : ScriptParts)
    → map unit_number (script ∷ scripts) ≡ map unit_number (parts ∷ others) → script.unit ≡ parts.unit
unit-first script scripts others parts e = cc

pub valid-next : (P : ScriptParts → Type 0) (o : Option ScriptParts) (scripts : List ScriptParts)
    → AllByRecursion P scripts → AllByRecursion P (behind_first o scripts)
valid-next P None scripts all = all
valid-next P (Some parts) [] all = tt
valid-next P (Some parts) (script ∷ scripts) all = all.1

-- a seat keeps what it has
pub first-vacant : (seat : Seat) (o : Option ScriptParts) (scripts : List ScriptParts)
    → (with_first seat o scripts).object ≡ seat.object
first-vacant seat None scripts = refl
first-vacant seat (Some parts) [] = refl
first-vacant seat (Some parts) (script ∷ scripts) = refl

pub none-there : {X : Type 0} (o : Option X) → is_some o ≡ false → o ≡ None
none-there (Some x) e = absurd cc
none-there None e = refl

pub some-there : {X : Type 0} (o : Option X) → is_some o ≡ true → (x : X) × (o ≡ Some x)
some-there (Some x) e = (x, refl)
some-there None e = absurd cc

pub one-there : {X : Type 0} (o : Option X) → is_some o ≡ true → length (option_to_list o) ≡ 1
one-there (Some x) e = refl
one-there None e = absurd cc

-- a seat without a script of the object
pub seat-other : (place : ℕ) (seats : List Seat) (n : ℕ) (seat : Seat) (scripts : List ScriptParts)
    → slice_get seats n ≡ Some seat → is_some (parts_in_seat place seat) ≡ false
    → seats ≡ slice_set seats n (with_first seat (parts_in_seat place seat) scripts)
seat-other place seats n seat scripts at other =
    sym (ap (λ (o : Option ScriptParts). slice_set seats n (with_first seat o scripts))
    (none-there (parts_in_seat place seat) other)
    ∙ set-same seats n seat at)

pub behind-other : (o : Option ScriptParts) (scripts : List ScriptParts) → is_some o ≡ false
    → scripts ≡ behind_first o scripts
behind-other None scripts e = refl
behind-other (Some parts) scripts e = absurd cc

-- a seat with one, where another is left, or none
pub seat-own : (seat : Seat) (o : Option ScriptParts) (script : ScriptParts) (scripts all : List ScriptParts)
    → is_some o ≡ true → all ≡ script ∷ scripts → record seat { script = Some script } ≡ with_first seat o all
seat-own seat (Some parts) script scripts all own e =
    sym (ap (λ (z : List ScriptParts). with_first seat (Some parts) z) e)
seat-own seat None script scripts all own e = absurd cc

there : (here : Bool) (unit : ℕ) (o : Option ScriptParts)
    → is_some (if here then option_map (with_unit unit) o else None) ≡ true → is_some o ≡ true
there true unit (Some parts) own = refl
there true unit None own = own
there false unit o own = absurd (false≢true own)

-- a seat of the object has a script
pub seat-there : (place : ℕ) (seat : Seat) → is_some (parts_in_seat place seat) ≡ true → is_some seat.script ≡ true
seat-there place seat own = there (nat_eq seat.object place) seat.unit seat.script own

pub behind-own : (o : Option ScriptParts) (script : ScriptParts) (scripts all : List ScriptParts)
    → is_some o ≡ true → all ≡ script ∷ scripts → scripts ≡ behind_first o all
behind-own (Some parts) script scripts all own e = sym (ap (λ (z : List ScriptParts). behind_first (Some parts) z) e)
behind-own None script scripts all own e = absurd cc

first-empty : (seat : Seat) (o : Option ScriptParts) (scripts : List ScriptParts)
    → (0 < length scripts → false ≡ true) → with_first seat o scripts ≡ seat
first-empty seat None scripts h = refl
first-empty seat (Some parts) [] h = refl
first-empty seat (Some parts) (script ∷ scripts) h = absurd (false≢true (h (omega arith)))

pub seat-empty : (place : ℕ) (seats : List Seat) (n : ℕ) (seat : Seat) (scripts : List ScriptParts)
    → slice_get seats n ≡ Some seat → (0 < length scripts → false ≡ true)
    → seats ≡ slice_set seats n (with_first seat (parts_in_seat place seat) scripts)
seat-empty place seats n seat scripts at h =
    sym (ap (λ (t : Seat). slice_set seats n t) (first-empty seat (parts_in_seat place seat) scripts h)
    ∙ set-same seats n seat at)

-- what is last in a list is first in the reversed one
pub reverse-last : (scripts others : List ScriptParts) (script : ScriptParts) → scripts ≡ others ++ script ∷ []
    → reverse scripts ≡ script ∷ reverse others
reverse-last scripts others script e =
    ap (λ (z : List ScriptParts). reverse z) e ∙ reverse-append others (script ∷ [])

-- a script that is to come into a seat is one of the seat's unit
pub seats-fit : (codes : List Code) (place n : ℕ) (seats : List Seat) (seat : Seat) (script : ScriptParts)
    (others scripts : List ScriptParts)
    → slice_get seats n ≡ Some seat → is_some (parts_in_seat place seat) ≡ true → scripts ≡ script ∷ others
    → AllByRecursion (HasUnit codes) scripts
    → map unit_number scripts ≡ map unit_number (filter_map (parts_in_seat place) (drop n seats))
    → IsSeated codes (record seat { script = Some script })
seats-fit codes place n seats seat script others scripts at own is all units =
    let q = some-there (parts_in_seat place seat) own in
    let left = filter_map (parts_in_seat place) (drop (n + 1) (slice_set seats n seat)) in
    let first = subst (λ (z : List ScriptParts). AllByRecursion (HasUnit codes) z) is all in
    let same : map unit_number (script ∷ others) ≡ map unit_number (q.0 ∷ left) =
    ap (map unit_number) (sym is) ∙ units ∙ ap (map unit_number) (scripts-here place n seats seat seat at)
    ∙ ap (λ (o : Option ScriptParts). map unit_number (cons_option o left)) q.1 in
    let number : script.unit ≡ seat.unit =
    unit-first script others left q.0 same ∙ unit-in-seat place seat q.0 q.1 in
    record {
      unit = first.0.unit;
      has = ap (slice_get codes) (sym number) ∙ first.0.named;
      fits = first.0.script;
    }

pub reseat-end : (place n : ℕ) (scripts : List ScriptParts) (seats : List Seat) → length seats ≤ n
    → reseat_from place n scripts seats ≡ seats
reseat-end place n scripts seats h =
    ap (λ (z : List Seat). take n seats ++ reseated place scripts z) (drop_all n seats h)
    ∙ append-nil (take n seats) ∙ take_all n seats h
