-- Who handles a touch, and the effect of its three events on a world.
use Rattle.std.proofs.Common.{◌≡◌, ℕ, suc, ◌+◌, ◌<◌, Bool, true, false, List, ◌++◌, length, drop, get_or, refl, ap, sym, ◌∙◌, subst, arith}
use Rattle.std.specs.Prelude.{◌&&◌, ◌||◌, nat_eq, Option, Some, None, is_some, slice_get}
use Rattle.std.specs.List.{list_any}
use Rattle.std.proofs.Math.Seq.{drop-cons}
use Rattle.std.proofs.lemmas.Option.{get_or_from_slice_get, slice_get-get_or, slice_get_within}
use Rattle.lsl_value.specs.declared.names.EventId.{EventId}
use Rattle.lsl_value.specs.declared.names.EventId.TheVariants as event
use Rattle.lsl_code.specs.declared.woven_units.Woven.{Woven as Code}
use Rattle.lsl_code.specs.Units.{handler_of}
use Rattle.lsl_post.specs.declared.entries.Entry.{Entry}
use Rattle.lsl_post.specs.Journal.{Part, Tells}
use Rattle.lsl_post.specs.Told.{Told, next_to}
use Rattle.lsl_post.specs.declared.events.Event.{Event}
use Rattle.lsl_post.specs.declared.events.Toucher.{Toucher}
use Rattle.std.specs.Prelude.{Result}
use Rattle.lsl_post.specs.declared.parts.ScriptParts.{ScriptParts}
use Rattle.lsl_post.proofs.Amid.{Amid, amid-err, amid-last, amid-ok, amid-start}
use Rattle.lsl_script.specs.Codes.{HasUnit, Meant, handler_in_unit}
use Rattle.lsl_script.specs.Parts.{parts_of}
use Rattle.lsl_region.specs.declared.notice.Audience.{Audience}
use Rattle.lsl_region.specs.declared.notice.Audience.TheVariants.{Prim as InPrim}
use Rattle.lsl_region.specs.declared.grid.Seat.{Seat}
use Rattle.lsl_region.specs.Arrivals.{handles_touch, is_in_prim, touch_end, touch_held, touch_start, touched}
use Rattle.lsl_region.specs.Posting.{admits, post_all}
use Rattle.lsl_region.specs.Grids.{AreSeated, Contents, Stands, seat_of}
use Rattle.lsl_region.specs.Touching.{has_touch}
use Rattle.lsl_region.specs.Worlds.{Member, World}
use Rattle.lsl_region.proofs.Placed.{sits}
use Rattle.lsl_region.proofs.Seats.{no_seat}

-- the unit has the handlers of any rules that mean it
module _ (codes : List Code) (m : Meant codes) (n : Member) (unit : Code) (has : HasUnit codes n.script.code unit) where
  pub handles-is : (id : EventId)
      → is_some (handler_of unit.states n.script.state id) ≡ is_some (m.rules.handler n.script.code n.script.state id)
  handles-is id =
      ap is_some (sym (m.handler n.script.code n.script.state id (slice_get_within codes n.script.code unit has)
      ∙ ap (λ (o : Option Code). handler_in_unit o n.script.state id) has))

  pub touch-is : has_touch unit.states n.script.state ≡ handles_touch m.rules n
  touch-is =
      ap (λ (b : Bool). b || is_some (handler_of unit.states n.script.state event.Touch)
      || is_some (handler_of unit.states n.script.state event.TouchEnd)) (handles-is event.TouchStart)
      ∙ ap (λ (b : Bool). is_some (m.rules.handler n.script.code n.script.state event.TouchStart) || b
      || is_some (handler_of unit.states n.script.state event.TouchEnd)) (handles-is event.Touch)
      ∙ ap (λ (b : Bool). is_some (m.rules.handler n.script.code n.script.state event.TouchStart)
      || is_some (m.rules.handler n.script.code n.script.state event.Touch) || b) (handles-is event.TouchEnd)

-- what is found of the seat at a place
abbrev pub FoundAt : List Code → Contents → (place object prim : ℕ) → Bool → Type 0
FoundAt codes grid place object prim found =
    (seat : Seat) (unit : Code) (parts : ScriptParts) → slice_get grid.seats place ≡ Some seat
    → HasUnit codes seat.unit unit → seat.script ≡ Some parts
    → found ≡ ((nat_eq seat.object object && nat_eq seat.prim prim) && has_touch unit.states parts.state)

-- is what holds of the member there
pub record IsFound (codes : List Code) (m : Meant codes) (w : World) (place object prim : ℕ) (found : Bool) : Type 0
  where
    pub member : Member
    pub at : slice_get w.members place ≡ Some member
    pub is : found ≡ (is_in_prim object prim w member && handles_touch m.rules member)

pub found-at : (codes : List Code) (m : Meant codes) (clock : ℕ) (grid : Contents) (w : World) (place object prim : ℕ)
    (found : Bool) → Stands codes None clock grid w → AreSeated codes grid.seats → place < length grid.seats
    → FoundAt codes grid place object prim found → IsFound codes m w place object prim found
found-at codes m clock grid w place object prim found st seated h does =
    let seat : Seat = get_or grid.seats place no_seat in
    let at : slice_get grid.seats place ≡ Some seat = slice_get-get_or grid.seats place no_seat h in
    let s = sits codes None clock grid w st place seat at in
    let k = seated place seat at in
    let n : Member = s.member in
    let is : seat ≡ seat_of codes false n = s.is in
    let has : HasUnit codes n.script.code k.unit
    = ap (λ (z : Seat). slice_get codes z.unit) (sym is) ∙ k.has in
    let script : seat.script ≡ Some (parts_of codes n.script) = ap (λ (z : Seat). z.script) is in
    record {
      member = n;
      at = s.at;
      is = does seat k.unit (parts_of codes n.script) at k.has script
          ∙ ap (λ (z : Seat). (nat_eq z.object object && nat_eq z.prim prim)
          && has_touch k.unit.states n.script.state) is
          ∙ ap (λ (b : Bool). (nat_eq n.object object && nat_eq n.prim prim) && b) (touch-is codes m n k.unit has);
    }

module _ (f : Member → Bool) (xs : List Member) (n : ℕ) (x : Member) (at : slice_get xs n ≡ Some x) where
  pub any-left : list_any f (drop n xs) ≡ (f x || list_any f (drop (n + 1) xs))
  any-left =
      let s : n + 1 ≡ suc n = omega arith in
      ap (list_any f) (drop-cons xs n x (slice_get_within xs n x at))
      ∙ ap (λ (y : Member). f y || list_any f (drop (suc n) xs)) (get_or_from_slice_get xs n x x at)
      ∙ ap (λ (k : ℕ). f x || list_any f (drop k xs)) (sym s)

  pub any-on : f x ≡ false → list_any f (drop n xs) ≡ list_any f (drop (n + 1) xs)
  any-on e = any-left ∙ ap (λ (b : Bool). b || list_any f (drop (n + 1) xs)) e

  pub any-here : f x ≡ true → list_any f (drop n xs) ≡ true
  any-here e = any-left ∙ ap (λ (b : Bool). b || list_any f (drop (n + 1) xs)) e

pub same-some : {X : Type 0} (x y : X) → Some x ≡ Some y → x ≡ y
same-some x y e = cc

-- what was done until now is a part of all
pub amid-part : {X Y : Type 0} (Rel : X → Type 0) (total : Told Y) (old now : List Entry) (rest : X → Told Y)
    → Amid Rel total old now rest → Part old now total.entries
amid-part Rel total old now rest a = record {
  added = a.done;
  missing = (rest a.value).entries;
  now = a.so_far;
  all = sym (ap (λ t. t.entries) a.whole);
}

-- the three events of a touch, one after another, go to an audience that is a prim
module _ (codes : List Code) (m : Meant codes) (clock object prim : ℕ) (t : Toucher) (self : Contents) (w : World)
    (st : Stands codes None clock self w) (old : List Entry) (audience : Audience)
    (prim_is : audience ≡ InPrim object prim) where
  abbrev pub At : Contents → World → Type 0
  At grid v = Stands codes None clock grid v

  abbrev pub posts : Audience → Event → World → Told World
  posts a e v = post_all m.rules (admits a) e v

  abbrev pub total : Told World
  total = touched m.rules object prim t w

  abbrev pub last : World → Told World
  last = posts (InPrim object prim) (touch_end t)

  abbrev pub behind_first : World → Told World
  behind_first v = next_to (posts (InPrim object prim) (touch_held t) v) last

  abbrev pub Goes : Contents → Contents → (before now : List Entry) → Audience → Event → Type 0
  Goes from to before now a e = (v : World) → At from v
      → At to (posts a e v).value × (now ≡ before ++ (posts a e v).entries)

  abbrev pub Breaks : Contents → (before now : List Entry) → Audience → Event → Type 0
  Breaks from before now a e = (v : World) → At from v → Part before now (posts a e v).entries

  pub begins : Amid (At self) total old old (touched m.rules object prim t)
  begins = amid-start (At self) w old (touched m.rules object prim t) st

  pub first-err : (now : List Entry) (e : Event) → e ≡ touch_start t → Breaks self old now audience e
      → Part old now total.entries
  first-err now e is does =
      amid-err (At self) total old old (touched m.rules object prim t) begins behind_first
      (posts (InPrim object prim) (touch_start t)) now (λ v r. refl)
      (subst (λ (a : Audience). Breaks self old now a (touch_start t)) prim_is
      (subst (λ (z : Event). Breaks self old now audience z) is does))

  pub first-ok : (grid : Contents) (now : List Entry) (e : Event) → e ≡ touch_start t
      → Goes self grid old now audience e → Amid (At grid) total old now behind_first
  first-ok grid now e is does =
      amid-ok (At self) total old old (touched m.rules object prim t) begins (At grid) behind_first
      (posts (InPrim object prim) (touch_start t)) now (λ v r. refl)
      (subst (λ (a : Audience). Goes self grid old now a (touch_start t)) prim_is
      (subst (λ (z : Event). Goes self grid old now audience z) is does))

  module _ (one : Contents) (done : List Entry) (a : Amid (At one) total old done behind_first) where
    pub second-err : (now : List Entry) (e : Event) → e ≡ touch_held t → Breaks one done now audience e
        → Part old now total.entries
    second-err now e is does =
        amid-err (At one) total old done behind_first a last (posts (InPrim object prim) (touch_held t)) now
        (λ v r. refl)
        (subst (λ (a : Audience). Breaks one done now a (touch_held t)) prim_is
        (subst (λ (z : Event). Breaks one done now audience z) is does))

    pub second-ok : (grid : Contents) (now : List Entry) (e : Event) → e ≡ touch_held t
        → Goes one grid done now audience e → Amid (At grid) total old now last
    second-ok grid now e is does =
        amid-ok (At one) total old done behind_first a (At grid) last (posts (InPrim object prim) (touch_held t)) now
        (λ v r. refl)
        (subst (λ (a : Audience). Goes one grid done now a (touch_held t)) prim_is
        (subst (λ (z : Event). Goes one grid done now audience z) is does))

  pub third : {T E : Type 0} (two grid : Contents) (done now : List Entry) (e : Event) (r : Result T E)
      → e ≡ touch_end t → Amid (At two) total old done last
      → ((v : World) → At two v → Tells r (λ u _. At grid u) done now (posts audience e v))
      → Tells r (λ u _. At grid u) old now total
  third two grid done now e r is a does =
      amid-last (At two) total old done last a r (λ u _. At grid u) now
      (subst (λ (b : Audience). (v : World) → At two v
      → Tells r (λ u _. At grid u) done now (posts b (touch_end t) v)) prim_is
      (subst (λ (z : Event). (v : World) → At two v → Tells r (λ u _. At grid u) done now (posts audience z v)) is
      does))
