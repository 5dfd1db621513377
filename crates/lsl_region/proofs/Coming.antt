-- A script goes out of the grid, and comes back into it.
use Rattle.std.proofs.Common.{◌≡◌, ℕ, ◌<◌, Bool, true, false, List, get_or, length, refl, ap, sym, ◌∙◌, subst}
use Rattle.std.specs.Prelude.{Option, Some, None, slice_get, slice_set}
use Rattle.std.proofs.lemmas.Option.{slice_get_within}
use Rattle.lsl_code.specs.declared.woven_units.Woven.{Woven as Code}
use Rattle.lsl_post.specs.declared.parts.ScriptParts.{ScriptParts}
use Rattle.lsl_script.specs.Codes.{HasUnit, rules_of}
use Rattle.lsl_script.specs.Fitting.{FitsUnit}
use Rattle.lsl_script.specs.Lawful.{Lawful}
use Rattle.lsl_script.specs.Parts.{parts_of}
use Rattle.lsl_script.specs.Scripts.{Script}
use Rattle.lsl_script.specs.Waking.{CanWake, IsThere}
use Rattle.lsl_script.proofs.Readies.{ready_wakes}
use Rattle.lsl_region.specs.declared.grid.Seat.{Seat}
use Rattle.lsl_region.specs.Grids.{AreSeated, Contents, FitsSeat, IsLawful, Stands, is_out, seat_of, outline_of}
use Rattle.lsl_region.specs.Turning.{IsReady, IsUnitAt, with_seated}
use Rattle.lsl_region.specs.Worlds.{Member, World, with_member}
use Rattle.lsl_region.proofs.Away.{away-seat, other-home, self-out}
use Rattle.lsl_region.proofs.Placed.{seated-at, stands-with}
use Rattle.lsl_region.proofs.Outlines.{outline-seats, vacant-read}
use Rattle.lsl_region.proofs.Seats.{read-at, seated-set}

module _ (codes : List Code) (clock place : ℕ) (grid : Contents) (w : World) (m : Member) (t : Script) (seat : Seat)
    (at : slice_get w.members place ≡ Some m) (sits : slice_get grid.seats place ≡ Some seat)
    (code : t.code ≡ m.script.code) where
  -- as another script of its code, whose flight is lawful
  pub stands-back : Stands codes (Some place) clock grid w → Lawful (rules_of codes) t
      → Stands codes None clock (with_seated grid place seat (Some (parts_of codes t)))
      (with_member w place (record m { script = t }))
  stands-back st lawful =
      let away : Some seat ≡ Some (seat_of codes true m) = sym sits ∙ away-seat codes clock place grid w m st at in
      let is : seat ≡ seat_of codes true m = cc in
      let same : record seat { script = Some (parts_of codes t) } ≡ seat_of codes false (record m { script = t })
      = ap (λ (z : Seat). record z { script = Some (parts_of codes t) }) is
      ∙ ap (λ (c : ℕ). record (seat_of codes true m) { unit = c; script = Some (parts_of codes t) }) (sym code) in
      stands-with codes (Some place) clock grid w st None
      (with_seated grid place seat (Some (parts_of codes t))) place m (record m { script = t }) at
      (record {
        known = subst (λ (n : ℕ). n < length codes) (sym code) (st.scripts place m at).known;
        lawful = lawful;
      }) refl refl (ap (slice_set grid.seats place) same)
      (λ k other. sym (other-home place k (λ e. other (sym e))))

  -- as another script of its code
  pub stands-out : Stands codes None clock grid w
      → Stands codes (Some place) clock (with_seated grid place seat None)
      (with_member w place (record m { script = t }))
  stands-out st =
      let home : Some seat ≡ Some (seat_of codes false m) = sym sits ∙ seated-at codes None clock grid w st place m at
      in
      let is : seat ≡ seat_of codes false m = cc in
      let same : record seat { script = None } ≡ seat_of codes (is_out (Some place) place) (record m { script = t })
      = ap (λ (z : Seat). record z { script = None }) is
      ∙ ap (λ (c : ℕ). record (seat_of codes true m) { unit = c }) (sym code)
      ∙ ap (λ (b : Bool). seat_of codes b (record m { script = t })) (sym (self-out place)) in
      stands-with codes None clock grid w st (Some place) (with_seated grid place seat None) place m
      (record m { script = t }) at
      (record {
        known = subst (λ (n : ℕ). n < length codes) (sym code) (st.scripts place m at).known;
        lawful = subst (λ (b : Bool). IsLawful codes b t) (sym (self-out place)) tt;
      }) refl refl (ap (slice_set grid.seats place) same)
      (λ k other. other-home place k (λ e. other (sym e)))

-- a script that is ready in its seat is there, and can wake
pub ready-there : (clock : ℕ) (unit : Code) (script : Option ScriptParts) → IsReady clock script → FitsSeat unit script
    → IsThere script (FitsUnit unit) × IsThere script CanWake
ready-there clock unit None ready fits = absurd ready
ready-there clock unit (Some parts) ready fits = (fits, ready_wakes clock parts ready)

-- the seat that is read at a place
pub seat-is : (g h : Contents) (n : ℕ) (x seat : Seat) → g ≡ h → slice_get g.seats n ≡ Some x
    → slice_get h.seats n ≡ Some seat → x ≡ seat
seat-is g h n x seat is at e =
    let same : Some x ≡ Some seat = sym at ∙ ap (λ (z : Contents). slice_get z.seats n) is ∙ e in cc

pub seat-here : {g h : Contents} (n : ℕ) (x seat : Seat) → g ≡ h → n < length g.seats → x ≡ get_or g.seats n x
    → slice_get h.seats n ≡ Some seat → x ≡ seat
seat-here {g} {h} n x seat is within e sits = seat-is g h n x seat is (read-at g.seats n x within e) sits

-- the unit at a place stays
pub unit-kept : (codes : List Code) (unit : Code) (old new : Contents) (place : ℕ)
    → outline_of new ≡ outline_of old → IsUnitAt codes unit old.seats place → IsUnitAt codes unit new.seats place
unit-kept codes unit old new place e k =
    let r = vacant-read old.seats new.seats place k.seat (outline-seats old new e) k.at in
    record {
      seat = r.0;
      at = r.1;
      has = subst (λ (n : ℕ). HasUnit codes n unit) (sym (ap (λ (s : Seat). s.unit) r.2)) k.has;
      weaves = k.weaves;
    }

-- a script that fits the unit of its seat, or none, is there
pub seated-with : (codes : List Code) (unit : Code) (grid : Contents) (place : ℕ) (seat : Seat)
    (script : Option ScriptParts) → AreSeated codes grid.seats → slice_get grid.seats place ≡ Some seat
    → HasUnit codes seat.unit unit → FitsSeat unit script → AreSeated codes (with_seated grid place seat script).seats
seated-with codes unit grid place seat script seated at has fits =
    seated-set codes grid.seats place (record seat { script = script })
    (record { unit = unit; has = has; fits = fits }) seated (slice_get_within grid.seats place seat at)
