-- A script that is out of the grid and waits for an answer.
use Rattle.std.proofs.Common.{◌≡◌, ◌≢◌, ℕ, ◌<◌, Bool, true, false, List, ◌++◌, length, refl, ap, sym, ◌∙◌, subst, rules, arith}
use Rattle.std.specs.Prelude.{Option, Some, None, slice_get, slice_set}
use Rattle.std.specs.Option.{option_map}
use Rattle.std.specs.declared.result.Result.{Result}
use Rattle.std.specs.declared.result.Result.TheVariants.{Ok, Err}
use Rattle.lsl_value.specs.declared.names.BuiltinId.{BuiltinId}
use Rattle.lsl_code.specs.declared.woven_units.Woven.{Woven as Code}
use Rattle.lsl_post.specs.declared.entries.Entry.{Entry}
use Rattle.lsl_post.specs.Journal.{Part, Tells}
use Rattle.lsl_post.specs.Listens.{Standing}
use Rattle.lsl_post.specs.Told.{Told}
use Rattle.lsl_script.specs.declared.live.Live.{Live}
use Rattle.lsl_script.specs.Lives.{Waits}
use Rattle.lsl_script.specs.Scripts.{Flight, Script}
use Rattle.lsl_region.specs.declared.notice.Audience.{Audience}
use Rattle.lsl_region.specs.declared.objects.Linkset.{Linkset}
use Rattle.lsl_region.specs.Grids.{Contents, IsScript, Lent, Stands, is_out, key_in, seat_of}
use Rattle.lsl_region.specs.Posting.{admits, is_admitted}
use Rattle.lsl_region.specs.Worlds.{Member, World, at_member, changed_at, with_member}
use Rattle.lsl_region.proofs.Placed.{KeepsScript, at-member, slice_get-set_other, slice_get-set_same, stands-with}
use Rattle.lsl_region.proofs.Seats.{set-same}
use Rattle.std.proofs.lemmas.Bool.Decides.{nat_tests}
use Rattle.std.proofs.lemmas.Option.{slice_get_within}

pub self-out : (n : ℕ) → is_out (Some n) n ≡ true
self-out n = search rules

pub other-home : (place to : ℕ) → place ≢ to → is_out (Some place) to ≡ false
other-home place to n = grind (arith, nat_tests)

-- the empty seat of the script that is out
pub away-seat : (codes : List Code) (clock place : ℕ) (grid : Contents) (w : World) (m : Member)
    → Stands codes (Some place) clock grid w → slice_get w.members place ≡ Some m
    → slice_get grid.seats place ≡ Some (seat_of codes true m)
away-seat codes clock place grid w m st at =
    st.seats place ∙ ap (option_map (seat_of codes (is_out (Some place) place))) at
    ∙ ap (λ (b : Bool). Some (seat_of codes b m)) (self-out place)

pub admits-away : (codes : List Code) (clock place : ℕ) (grid : Contents) (w : World) (a : Audience) (m : Member)
    (listens : Standing) → Stands codes (Some place) clock grid w → listens ≡ m.script.mailbox.listens
    → is_admitted a m.object m.prim (key_in grid.objects (seat_of codes true m)) listens ≡ admits a w m
admits-away codes clock place grid w a m listens st e =
    ap (λ (os : List Linkset). is_admitted a m.object m.prim (key_in os (seat_of codes true m)) listens) st.objects
    ∙ ap (is_admitted a m.object m.prim (key_in w.objects (seat_of codes true m))) e

-- a script that is out needs no lawful flight
pub keeps-out : (codes : List Code) (away : Bool) (s t : Script) → IsScript codes away s → t.code ≡ s.code
    → KeepsScript codes true s t
keeps-out codes away s t l k = record {
  script = record { known = subst (λ (n : ℕ). n < length codes) (sym k) l.known; lawful = tt };
  code = k;
}

-- the script that is out may be another one of its code
pub stands-away : (codes : List Code) (clock place : ℕ) (grid : Contents) (w : World) (m : Member) (t : Script)
    → Stands codes (Some place) clock grid w → slice_get w.members place ≡ Some m → KeepsScript codes true m.script t
    → Stands codes (Some place) clock grid (with_member w place (record m { script = t }))
stands-away codes clock place grid w m t st at k =
    let seat : seat_of codes (is_out (Some place) place) (record m { script = t }) ≡ seat_of codes true m
    = ap (λ (b : Bool). seat_of codes b (record m { script = t })) (self-out place)
    ∙ ap (λ (c : ℕ). record (seat_of codes true m) { unit = c }) k.code in
    stands-with codes (Some place) clock grid w st (Some place) grid place m (record m { script = t }) at
    (subst (λ (b : Bool). IsScript codes b t) (sym (self-out place)) k.script) refl refl
    (sym (ap (slice_set grid.seats place) seat
    ∙ set-same grid.seats place (seat_of codes true m) (away-seat codes clock place grid w m st at))) (λ j n. refl)

pub member-there : (w : World) (place : ℕ) (m t : Member) → slice_get w.members place ≡ Some m
    → slice_get (with_member w place t).members place ≡ Some t
member-there w place m t at = slice_get-set_same w.members place t (slice_get_within w.members place m at)

module _ {T E : Type 0} (codes : List Code) (unit : Code) (clock place : ℕ) (grid : Contents) (live new : Live)
    (id : BuiltinId) (f : Flight) (w : World) (lent : Lent codes unit clock place grid live id f w)
    (thing : Member → Told Script) where
  -- a change of the script that is out
  pub lent-self : (r : Result T E) (old now : List Entry)
      → KeepsScript codes true lent.member.script (thing lent.member).value
      → Tells r (λ t _. Waits codes unit t f id new) old now (thing lent.member)
      → Tells r (λ v _. Lent codes unit clock place grid new id f v) old now (at_member place thing w)
  lent-self (Ok x) old now keeps d =
      let t : Script = (thing lent.member).value in
      subst (λ (a : Told World). Lent codes unit clock place grid new id f a.value × (now ≡ old ++ a.entries))
      (sym (at-member place thing w lent.member lent.at)) (
        record {
          stands = stands-away codes clock place grid w lent.member t lent.stands lent.at keeps;
          member = record lent.member { script = t };
          at = member-there w place lent.member (record lent.member { script = t }) lent.at;
          waits = d.0;
        },
        d.1,
      )
  lent-self (Err e) old now keeps d =
      subst (λ (a : Told World). Part old now a.entries) (sym (at-member place thing w lent.member lent.at)) d

-- the members at other places stay
pub elsewhere : (place to : ℕ) (thing : Member → Told Script) (w : World) → place ≢ to
    → slice_get (at_member to thing w).value.members place ≡ slice_get w.members place
elsewhere place to thing w n = go (slice_get w.members to) where
  go : (o : Option Member) → slice_get (changed_at to thing w o).value.members place ≡ slice_get w.members place
  go None = refl
  go (Some m) = slice_get-set_other w.members to place _ n
