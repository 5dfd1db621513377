-- What a call does to the script that is out.
use Rattle.std.proofs.Common.{◌≡◌, ℕ, List, refl, ap, sym, ◌∙◌, true}
use Rattle.std.specs.Prelude.{ℤ, Option, Some, None, slice_get, slice_set}
use Rattle.lsl_value.specs.declared.names.BuiltinId.{BuiltinId}
use Rattle.lsl_value.specs.declared.names.BuiltinId.TheVariants.{Listen, ListenRemove, ListenControl, SetTimerEvent, Sleep}
use Rattle.lsl_value.specs.declared.tagged.Value.{Value}
use Rattle.lsl_code.specs.declared.woven_units.Woven.{Woven as Code}
use Rattle.lsl_post.specs.Listens.{Standing}
use Rattle.lsl_post.specs.declared.parts.Pair.{Pair}
use Rattle.lsl_script.specs.declared.live.Live.{Live}
use Rattle.lsl_script.specs.Codes.{HasUnit}
use Rattle.lsl_script.specs.Lives.{Waits}
use Rattle.lsl_script.specs.Scripts.{Flight, Script}
use Rattle.lsl_region.specs.declared.grid.Seat.{Seat}
use Rattle.lsl_region.specs.declared.objects.Linkset.{Linkset}
use Rattle.lsl_region.specs.Answers.{listen_asked, listened_script, mailed, renamed, with_name, with_store}
use Rattle.lsl_region.specs.Grids.{Contents, Lent, object_in, prim_in, renamed_grid, seat_of, stored_grid}
use Rattle.lsl_region.specs.Worlds.{World, object_of, prim_of, with_member}
use Rattle.lsl_region.proofs.Away.{away-seat, keeps-out, member-there, stands-away}

listened-code : (o : Option (ℤ × Standing)) (s : Script) → (listened_script o s).code ≡ s.code
listened-code None s = refl
listened-code (Some x) s = refl

-- a call on its mailbox leaves its code
mailed-code : (id : BuiltinId) (args : List Value) (clock : ℕ) (s : Script) → (mailed id args clock s).0.code ≡ s.code
mailed-code Listen args clock s = listened-code (listen_asked args s) s
mailed-code ListenRemove args clock s = refl
mailed-code ListenControl args clock s = refl
mailed-code SetTimerEvent args clock s = refl
mailed-code Sleep args clock s = refl
mailed-code id args clock s = refl

-- a seat has one unit
pub one-unit : (codes : List Code) (seats : List Seat) (place : ℕ) (seat other : Seat) (unit found : Code)
    → slice_get seats place ≡ Some seat → HasUnit codes seat.unit unit → slice_get seats place ≡ Some other
    → Some found ≡ slice_get codes other.unit → found ≡ unit
one-unit codes seats place seat other unit found at has there e =
    let same : Some other ≡ Some seat = sym there ∙ at in
    let is : other ≡ seat = cc in
    let both : Some found ≡ Some unit = e ∙ ap (λ (z : Seat). slice_get codes z.unit) is ∙ has in
    cc

module _ {codes : List Code} {unit : Code} {clock place : ℕ} {grid : Contents} {live : Live} {of : BuiltinId}
    {f : Flight} {w : World} (lent : Lent codes unit clock place grid live of f w) where
  -- its seat, which is empty
  pub lent-seat : slice_get grid.seats place ≡ Some (seat_of codes true lent.member)
  lent-seat = away-seat codes clock place grid w lent.member lent.stands lent.at

  -- a call on its mailbox was done
  pub lent-mailed : (new : Live) (id : BuiltinId) (args : List Value)
      → Waits codes unit (mailed id args clock lent.member.script).0 f of new
      → Lent codes unit clock place grid new of f
      (with_member w place (record lent.member { script = (mailed id args clock lent.member.script).0 }))
  lent-mailed new id args waits =
      let t : Script = (mailed id args clock lent.member.script).0 in
      record {
        stands = stands-away codes clock place grid w lent.member t lent.stands lent.at
            (keeps-out codes _ lent.member.script t (lent.stands.scripts place lent.member lent.at)
            (mailed-code id args clock lent.member.script));
        member = record lent.member { script = t };
        at = member-there w place lent.member (record lent.member { script = t }) lent.at;
        waits = waits;
      }

  -- its object and prim are those of its seat
  pub lent-object : object_in grid.objects (seat_of codes true lent.member) ≡ object_of w lent.member
  lent-object = ap (λ (os : List Linkset). object_in os (seat_of codes true lent.member)) lent.stands.objects

  pub lent-prim : prim_in grid.objects (seat_of codes true lent.member) ≡ prim_of w lent.member
  lent-prim = ap (λ (os : List Linkset). prim_in os (seat_of codes true lent.member)) lent.stands.objects

  -- its prim has another name
  pub lent-renamed : (name : List ℕ)
      → Lent codes unit clock place (renamed_grid grid (seat_of codes true lent.member) name) live of f
      (renamed w lent.member name)
  lent-renamed name = record {
    stands = record {
      time = lent.stands.time;
      objects = ap (λ (os : List Linkset).
          let o = object_in os (seat_of codes true lent.member) in
          slice_set os lent.member.object (record o { prims = with_name o.prims lent.member.prim name }))
          lent.stands.objects;
      cards = lent.stands.cards;
      seats = lent.stands.seats;
      scripts = lent.stands.scripts;
    };
    member = lent.member;
    at = lent.at;
    waits = lent.waits;
  }

  -- its object has another store
  pub lent-stored : (pairs : List Pair)
      → Lent codes unit clock place (stored_grid grid (seat_of codes true lent.member) pairs) live of f
      (with_store w lent.member pairs)
  lent-stored pairs = record {
    stands = record {
      time = lent.stands.time;
      objects = ap (λ (os : List Linkset).
          let o = object_in os (seat_of codes true lent.member) in
          slice_set os lent.member.object (record o { store = pairs }))
          lent.stands.objects;
      cards = lent.stands.cards;
      seats = lent.stands.seats;
      scripts = lent.stands.scripts;
    };
    member = lent.member;
    at = lent.at;
    waits = lent.waits;
  }

  -- its unit is that of its seat
  pub lent-unit : (seat : Seat) (of_seat : Code) → slice_get grid.seats place ≡ Some seat
      → Some of_seat ≡ slice_get codes seat.unit → of_seat ≡ unit
  lent-unit seat of_seat at e =
      let same : Some seat ≡ Some (seat_of codes true lent.member)
      = sym at ∙ lent-seat in
      let is : seat ≡ seat_of codes true lent.member = cc in
      let both : Some of_seat ≡ Some unit
      = e ∙ ap (λ (z : Seat). slice_get codes z.unit) is ∙ lent.waits.carries.known in
      cc
