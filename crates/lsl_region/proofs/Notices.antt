-- The scripts of an object get an event, one seat after another.
use Rattle.std.proofs.Common.{◌≡◌, ◌∙◌, refl, sym, ap, arith, ℕ, ◌+◌, ◌≤◌, Bool, true, false, List, [], ◌∷◌, ◌++◌, length, take, drop, append-nil, append_assoc}
use Rattle.std.specs.Prelude.{nat_eq, if◌then◌else◌, Option, Some, None, is_some, slice_get, slice_set}
use Rattle.std.specs.List.{cons_option, filter_map}
use Rattle.std.specs.Option.{option_map, option_to_list}
use Rattle.std.proofs.lemmas.List.{drop_all, take_all}
use Rattle.lsl_code.specs.declared.functions.StateCode.{StateCode}
use Rattle.lsl_code.specs.declared.woven_units.Woven.{Woven as Code}
use Rattle.lsl_post.specs.declared.events.Event.{Event}
use Rattle.lsl_post.specs.declared.parts.Posted.{Posted}
use Rattle.lsl_post.specs.declared.parts.Posted.TheVariants.{Queued, Dropped, Unheard}
use Rattle.lsl_post.specs.declared.parts.ScriptParts.{ScriptParts}
use Rattle.lsl_post.specs.Mailbox.{posted_to, with_posted}
use Rattle.lsl_post.specs.Told.{Told, lead, quiet}
use Rattle.lsl_script.specs.Scripts.{entries_of_posting}
use Rattle.lsl_region.specs.declared.grid.Seat.{Seat}
use Rattle.lsl_region.specs.Crossings.{post_in, post_in_seat, post_in_seats, posted_in, states_in, states_of}
use Rattle.lsl_region.specs.ObjectParts.{parts_in_seat, with_unit}
use Rattle.lsl_region.proofs.Reseating.{drop-here, drop-set, scripts-here, take-set}

-- the seats that have yet to get the event
abbrev pub posts_from : List Code → ℕ → Event → ℕ → List Seat → Told (List Seat)
posts_from codes place e n seats = record {
  value = take n seats ++ (post_in_seats codes place e (n + 1) (drop n seats)).value;
  entries = (post_in_seats codes place e (n + 1) (drop n seats)).entries;
}

pub posts-next : (codes : List Code) (place : ℕ) (e : Event) (n : ℕ) (seats new : List Seat) (seat : Seat)
    → slice_get seats n ≡ Some seat → new ≡ slice_set seats n (post_in_seat codes place e (n + 1) seat).value
    → posts_from codes place e n seats
    ≡ lead (post_in_seat codes place e (n + 1) seat).entries (posts_from codes place e (n + 1) new)
posts-next codes place e n seats new seat at is =
    let one = post_in_seat codes place e (n + 1) seat in
    let left : Told (List Seat) = post_in_seats codes place e (n + 1 + 1) (drop (n + 1) seats) in
    ap {A = List Seat} {B = Told (List Seat)} (λ z. record {
      value = take n seats ++ (post_in_seats codes place e (n + 1) z).value;
      entries = (post_in_seats codes place e (n + 1) z).entries;
    }) (drop-here place n [] seats seat at)
    ∙ sym (ap {A = List Seat} {B = Told (List Seat)} (λ z.
    lead one.entries (posts_from codes place e (n + 1) z)) is
    ∙ ap {A = List Seat} {B = Told (List Seat)} (λ z. record {
      value = take (n + 1) (slice_set seats n one.value) ++ (post_in_seats codes place e (n + 1 + 1) z).value;
      entries = one.entries ++ (post_in_seats codes place e (n + 1 + 1) z).entries;
    }) (drop-set place n [] seats seat at one.value)
    ∙ ap {A = List Seat} {B = Told (List Seat)} (λ z. record {
      value = z ++ left.value;
      entries = one.entries ++ left.entries;
    }) (take-set place n [] seats seat at one.value)
    ∙ ap {A = List Seat} {B = Told (List Seat)} (λ z. record {
      value = z;
      entries = one.entries ++ left.entries;
    }) (append_assoc (take n seats) (one.value ∷ []) left.value))

pub posts-end : (codes : List Code) (place : ℕ) (e : Event) (n : ℕ) (seats : List Seat) → length seats ≤ n
    → posts_from codes place e n seats ≡ quiet seats
posts-end codes place e n seats h =
    ap {A = List Seat} {B = Told (List Seat)} (λ z. record {
      value = take n seats ++ (post_in_seats codes place e (n + 1) z).value;
      entries = (post_in_seats codes place e (n + 1) z).entries;
    }) (drop_all n seats h)
    ∙ ap {A = List Seat} {B = Told (List Seat)} (λ z. record { value = z; entries = [] })
    (append-nil (take n seats) ∙ take_all n seats h)

-- how many scripts of the object there are from a seat on
abbrev pub count_from : ℕ → ℕ → List Seat → ℕ
count_from place n seats = length (filter_map (parts_in_seat place) (drop n seats))

cons-count : {X : Type 0} (o : Option X) (xs : List X)
    → length (cons_option o xs) ≡ length (option_to_list o) + length xs
cons-count None xs = omega arith
cons-count (Some x) xs = omega arith

pub count-next : (place n : ℕ) (seats : List Seat) (seat t : Seat) → slice_get seats n ≡ Some seat
    → count_from place n seats
    ≡ length (option_to_list (parts_in_seat place seat)) + count_from place (n + 1) (slice_set seats n t)
count-next place n seats seat t at =
    ap (λ (z : List ScriptParts). length z) (scripts-here place n seats seat t at)
    ∙ cons-count (parts_in_seat place seat)
    (filter_map (parts_in_seat place) (drop (n + 1) (slice_set seats n t)))

posting-few : (number : ℕ) (p : Posted) → length (entries_of_posting number p) ≤ 1
posting-few number Queued = omega arith
posting-few number (Dropped e) = omega arith
posting-few number Unheard = omega arith

-- a script gives one entry at most
pub one-entry : (codes : List Code) (place : ℕ) (e : Event) (number : ℕ) (seat : Seat)
    → length (post_in_seat codes place e number seat).entries ≤ length (option_to_list (parts_in_seat place seat))
one-entry codes place e number seat = go (nat_eq seat.object place) seat.script
  where
    go : (own : Bool) (o : Option ScriptParts)
        → length (if own then post_in (states_in codes seat.unit) e number seat o else quiet seat).entries
        ≤ length (option_to_list (if own then option_map (with_unit seat.unit) o else None))
    go true None = omega arith
    go true (Some parts) = posting-few number (posted_to (states_in codes seat.unit) e parts)
    go false o = omega arith

-- a script that isn't one of them, or is
pub post-other : (codes : List Code) (place : ℕ) (e : Event) (number : ℕ) (seat : Seat)
    → is_some (parts_in_seat place seat) ≡ false → post_in_seat codes place e number seat ≡ quiet seat
post-other codes place e number seat not = go (nat_eq seat.object place) seat.script not
  where
    go : (own : Bool) (o : Option ScriptParts)
        → is_some (if own then option_map (with_unit seat.unit) o else None) ≡ false
        → (if own then post_in (states_in codes seat.unit) e number seat o else quiet seat) ≡ quiet seat
    go true None not = refl
    go true (Some parts) not = absurd cc
    go false o not = refl

pub post-own : (codes : List Code) (place : ℕ) (e : Event) (number : ℕ) (seat : Seat)
    → is_some (parts_in_seat place seat) ≡ true
    → post_in_seat codes place e number seat ≡ post_in (states_in codes seat.unit) e number seat seat.script
post-own codes place e number seat own =
    go (nat_eq seat.object place) (option_map (with_unit seat.unit) seat.script) own
  where
    go : (b : Bool) (o : Option ScriptParts) → is_some (if b then o else None) ≡ true
        → (if b then post_in (states_in codes seat.unit) e number seat seat.script else quiet seat)
        ≡ post_in (states_in codes seat.unit) e number seat seat.script
    go true o own = refl
    go false o own = absurd cc

-- only the script of a seat changes
pub post-script-alone : (codes : List Code) (place : ℕ) (e : Event) (number : ℕ) (seat : Seat)
    → (post_in_seat codes place e number seat).value
    ≡ record seat { script = (post_in_seat codes place e number seat).value.script }
post-script-alone codes place e number seat = go (nat_eq seat.object place) seat.script refl
  where
    go : (own : Bool) (o : Option ScriptParts) → seat.script ≡ o
        → (if own then post_in (states_in codes seat.unit) e number seat o else quiet seat).value
        ≡ record seat {
          script = (if own then post_in (states_in codes seat.unit) e number seat o else quiet seat).value.script;
        }
    go true None is = refl
    go true (Some parts) is = refl
    go false o is = refl

-- a script in its seat gets the event
post-value : (states : List StateCode) (e : Event) (n : ℕ) (seat : Seat) (o : Option ScriptParts) → seat.script ≡ o
    → record seat { script = option_map (with_posted states e) o } ≡ (post_in states e n seat o).value
post-value states e n seat None is = sym (ap (λ (z : Option ScriptParts). record seat { script = z }) is)
post-value states e n seat (Some parts) is = refl

post-entries : (states : List StateCode) (e : Event) (n : ℕ) (seat : Seat) (o : Option ScriptParts)
    → entries_of_posting n (posted_in states e o) ≡ (post_in states e n seat o).entries
post-entries states e n seat None = refl
post-entries states e n seat (Some parts) = refl

module _ (codes : List Code) (e : Event) (number n : ℕ) (posted : Posted) (to seat : Seat) (unit : Code)
    (script : Option ScriptParts) (has : Some unit ≡ slice_get codes to.unit) (is : to ≡ seat) where
  states-as : unit.states ≡ states_in codes to.unit
  states-as = ap states_of has

  pub told-value : script ≡ option_map (with_posted unit.states e) to.script
      → record to { script = script } ≡ (post_in (states_in codes seat.unit) e n seat seat.script).value
  told-value now =
      ap (λ (o : Option ScriptParts). record to { script = o }) now
      ∙ ap (λ (states : List StateCode). record to { script = option_map (with_posted states e) to.script }) states-as
      ∙ post-value (states_in codes to.unit) e n to to.script refl
      ∙ ap (λ (z : Seat). (post_in (states_in codes z.unit) e n z z.script).value) is

  pub told-entries : number ≡ n → posted ≡ posted_in unit.states e to.script
      → entries_of_posting number posted ≡ (post_in (states_in codes seat.unit) e n seat seat.script).entries
  told-entries same now =
      ap (λ (k : ℕ). entries_of_posting k posted) same
      ∙ ap (entries_of_posting n) now
      ∙ ap (λ (states : List StateCode). entries_of_posting n (posted_in states e to.script)) states-as
      ∙ post-entries (states_in codes to.unit) e n to to.script
      ∙ ap (λ (z : Seat). (post_in (states_in codes z.unit) e n z z.script).entries) is
