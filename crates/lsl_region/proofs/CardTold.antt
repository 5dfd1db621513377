-- Host calls on notecards.
use Rattle.std.proofs.Common.{◌≡◌, ◌≢◌, ℕ, zero, suc, ◌+◌, ◌*◌, ◌≤◌, ◌<◌, true, List, [], ◌∷◌, length, get_or, take, refl, ap, ap₂, ◌∙◌, subst, arith}
use Rattle.std.specs.Prelude.{Option, Some, None, Result, All, slice_get}
use Rattle.std.proofs.lemmas.Option.{slice_get-get_or, slice_get_within}
use Rattle.std.proofs.lemmas.List.Sums.{sum_by-append, sum_by-take-le, sum_by_more}
use Rattle.lsl_value.specs.declared.names.BuiltinId.{BuiltinId}
use Rattle.lsl_value.specs.declared.names.BuiltinId.TheVariants.{GetNotecardLine, GetNumberOfNotecardLines}
use Rattle.lsl_value.specs.declared.tagged.Value.{Value}
use Rattle.lsl_value.specs.declared.tagged.Value.TheVariants as value
use Rattle.lsl_table.specs.declared.calls.Home.TheVariants as home
use Rattle.lsl_running.specs.declared.host.Reply.TheVariants as reply
use Rattle.lsl_code.specs.Kinded.{Answers}
use Rattle.lsl_code.specs.declared.woven_units.Woven.{Woven as Code}
use Rattle.lsl_notes.specs.declared.cards.Notecard.{Notecard}
use Rattle.lsl_notes.specs.Notecards.{card_at, number_of}
use Rattle.lsl_notes.specs.Queries.{query_of}
use Rattle.lsl_post.specs.declared.entries.Entry.{Entry}
use Rattle.lsl_post.specs.declared.events.Event.{Event}
use Rattle.lsl_post.specs.Journal.{Tells}
use Rattle.lsl_post.specs.Told.{Told}
use Rattle.lsl_script.specs.declared.live.Live.{Live}
use Rattle.lsl_script.specs.Codes.{Meant, rules_of}
use Rattle.lsl_script.specs.Lives.{Waits}
use Rattle.lsl_script.specs.Scripts.{Flight, Script, post_to}
use Rattle.lsl_region.specs.declared.grid.Seat.{Seat}
use Rattle.lsl_region.specs.declared.objects.Linkset.{Linkset}
use Rattle.lsl_region.specs.Answers.{card_asked, home_of, line_asked, text_at}
use Rattle.lsl_region.specs.Grids.{ArePlaced, Contents, Lent, seat_of}
use Rattle.lsl_region.specs.Notes.{card_of, data_event, data_told, prims_in}
use Rattle.lsl_region.specs.Worlds.{Member, World, at_member}
use Rattle.lsl_region.proofs.Away.{keeps-out, lent-self}
use Rattle.lsl_region.proofs.Coming.{seat-is}
use Rattle.lsl_region.proofs.Posts.{to-same}

-- ---- prims

pub prims_step : (objects : List Linkset) (n : ℕ) (o : Linkset) → n < length objects
    → prims_in (take (n + 1) objects) ≡ prims_in (take n objects) + length (get_or objects n o).prims
prims_step objects n o lt = sum_by_more (λ (o : Linkset). length o.prims) objects n o lt

pub prims_some : (objects : List Linkset) (n : ℕ) → prims_in (take n objects) ≤ prims_in objects
prims_some objects n = sum_by-take-le (λ (o : Linkset). length o.prims) objects n

prims-first : (o : Linkset) (objects : List Linkset) → prims_in (o ∷ objects) ≡ length o.prims + prims_in objects
prims-first o objects = omega (arith, sum_by-append (λ (o : Linkset). length o.prims) (o ∷ []) objects)

pub prims-within : (objects : List Linkset) → All (λ o. length o.prims ≤ 255) objects
    → prims_in objects ≤ 255 * length objects
prims-within [] all = omega arith
prims-within (o ∷ objects) all =
    omega (
      arith,
      prims-first o objects,
      all zero o (omega arith),
      prims-within objects (λ k d lt. all (suc k) d (omega (arith, lt))),
    )

pub prims-few : (objects : List Linkset) (seats : List Seat) (n : ℕ) → ArePlaced objects seats
    → prims_in (take n objects) ≤ 16320
prims-few objects seats n p =
    omega (
      arith,
      prims_some objects n,
      prims-within objects (λ k d lt.
          (p.formed k (get_or objects k d) (slice_get-get_or objects k d lt)).few),
      p.few_objects,
    )

-- the object of a seat is there, and its prim's place is small
pub seat-within : (objects : List Linkset) (seats : List Seat) (place : ℕ) (seat : Seat) → ArePlaced objects seats
    → slice_get seats place ≡ Some seat → (seat.object < length objects) × (seat.prim < 255)
seat-within objects seats place seat p at =
    let q = p.placed place seat at in
    let few : length q.object.prims ≤ 255 = (p.formed seat.object q.object q.there).few in
    (slice_get_within objects seat.object q.object q.there, omega (arith, q.prim, few))

-- the notecard found for the prim of a seat
pub found-same : (g h : Contents) (n : ℕ) (x seat : Seat) (number : ℕ) (name : List ℕ) → g ≡ h
    → slice_get g.seats n ≡ Some x → slice_get h.seats n ≡ Some seat
    → number ≡ prims_in (take x.object g.objects) + x.prim + 1
    → number_of g.cards number name ≡ card_of h.cards h.objects seat.object seat.prim name
found-same g h n x seat number name is at e same =
    let eq : x ≡ seat = seat-is g h n x seat is at e in
    ap (λ k. number_of g.cards k name) same
    ∙ (λ i. card_of (is i).cards (is i).objects (eq i).object (eq i).prim name)

-- ---- what is asked for

pub count-asked : (id : BuiltinId) (args : List Value) → id ≢ GetNotecardLine → line_asked id args ≡ Some None
count-asked GetNotecardLine args n = absurd (n refl)
count-asked id args n = refl

pub note-fits : (id : BuiltinId) (key : List ℕ) → home_of id ≡ home.Note
    → Answers id (reply.Value (Some (value.Key key)))
note-fits GetNotecardLine key e = refl
note-fits GetNumberOfNotecardLines key e = refl
note-fits id key e = absurd cc

module _ {codes : List Code} {unit : Code} {clock place : ℕ} {grid : Contents} {live : Live} {of : BuiltinId}
    {f : Flight} {w : World} (lent : Lent codes unit clock place grid live of f w) where
  pub card-same : (args : List Value) (name : List ℕ) (card : Option ℕ) → name ≡ text_at 0 args
      → card ≡ card_of grid.cards grid.objects (seat_of codes true lent.member).object
      (seat_of codes true lent.member).prim name
      → card ≡ card_asked w lent.member args
  card-same args name card named is =
      is
      ∙ ap (λ (cards : List Notecard). card_of cards grid.objects lent.member.object lent.member.prim name)
      lent.stands.cards
      ∙ ap (λ (os : List Linkset). card_of w.cards os lent.member.object lent.member.prim name) lent.stands.objects
      ∙ ap (card_of w.cards w.objects lent.member.object lent.member.prim) named

  module _ (m : Meant codes) (card : ℕ) (line : Option ℕ) (key : List ℕ) (event : Event)
      (key_is : key ≡ query_of (place + 1) card line)
      (event_is : event ≡ data_event key (data_told (card_at grid.cards card) line)) where
    abbrev told : Event
    told = data_event (query_of (place + 1) card line) (data_told (card_at w.cards card) line)

    event-same : event ≡ told
    event-same =
        event_is
        ∙ ap₂ data_event key_is
        (ap (λ (cards : List Notecard). data_told (card_at cards card) line) lent.stands.cards)

    posted-same : post_to (rules_of codes) (place + 1) event lent.member.script
        ≡ post_to m.rules (place + 1) told lent.member.script
    posted-same =
        ap (λ e. post_to (rules_of codes) (place + 1) e lent.member.script) event-same
        ∙ to-same codes m (place + 1) told lent.member.script (lent.stands.scripts place lent.member lent.at).known

    -- the script got its event
    pub lent-told : {T E : Type 0} (new : Live) (r : Result T E) (old now : List Entry)
        → Tells r (λ t _. Waits codes unit t f of new) old now
        (post_to (rules_of codes) (place + 1) event lent.member.script)
        → Tells r (λ v _. Lent codes unit clock place grid new of f v) old now
        (at_member place (λ (k : Member). post_to m.rules (place + 1) told k.script) w)
    lent-told new r old now d =
        lent-self codes unit clock place grid live new of f w lent
        (λ (k : Member). post_to m.rules (place + 1) told k.script) r old now
        (keeps-out codes _ lent.member.script _ (lent.stands.scripts place lent.member lent.at) refl)
        (subst (λ (t : Told Script). Tells r (λ u _. Waits codes unit u f of new) old now t) posted-same d)
