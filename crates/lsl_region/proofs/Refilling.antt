-- Scripts come into the seats of an object: whose scripts they are then, and what of the seats stays.
use Rattle.std.proofs.Common.{◌≡◌, ◌≢◌, ◌∙◌, refl, sym, ap, subst, arith, inl, inr, ℕ, suc, zero, Bool, true, false, List, [], ◌∷◌, length}
use Rattle.std.specs.Prelude.{nat_eq, if◌then◌else◌, Option, Some, None, map}
use Rattle.std.specs.List.{cons_option, filter_map}
use Rattle.std.specs.Option.{option_map}
use Rattle.std.proofs.lemmas.Bool.{eqb-true}
use Rattle.std.proofs.lemmas.Bool.Decides.{eqb_tells}
use Rattle.lsl_post.specs.declared.parts.ScriptParts.{ScriptParts}
use Rattle.lsl_image.specs.Valid.{unit_number}
use Rattle.lsl_region.specs.declared.grid.Seat.{Seat}
use Rattle.lsl_region.specs.declared.objects.Primitive.{Primitive}
use Rattle.lsl_region.specs.GridParts.{AreHome, IsHome}
use Rattle.lsl_region.specs.Grids.{nameless, vacant}
use Rattle.lsl_region.specs.ObjectParts.{behind_first, name_of, named, parts_in_seat, reseated, with_first, with_unit}
use Rattle.lsl_region.proofs.Reseating.{first-vacant, units-next}

abbrev in_seat : Bool → ℕ → Option ScriptParts → Option ScriptParts
in_seat own unit o = if own then option_map (with_unit unit) o else None

-- another object has the scripts that it had
module _ (place k : ℕ) (ne : k ≢ place) where
  away : (seat : Seat) → nat_eq seat.object place ≡ true → nat_eq seat.object k ≡ false
  away seat e = elim (eqb_tells seat.object k) [
    | inl t ↦ absurd (ne (sym t.1 ∙ eqb-true seat.object place e))
    | inr f ↦ f.0
  ]

  other-one : (seat : Seat) (own : Bool) (o : Option ScriptParts) (scripts : List ScriptParts)
      → nat_eq seat.object place ≡ own
      → parts_in_seat k (with_first seat (in_seat own seat.unit o) scripts) ≡ parts_in_seat k seat
  other-one seat false o scripts e = refl
  other-one seat true None scripts e = refl
  other-one seat true (Some parts) [] e = refl
  other-one seat true (Some parts) (script ∷ scripts) e =
      ap (λ (b : Bool). in_seat b seat.unit (Some script)) (away seat e)
      ∙ sym (ap (λ (b : Bool). in_seat b seat.unit seat.script) (away seat e))

  pub other-scripts : (scripts : List ScriptParts) (seats : List Seat)
      → filter_map (parts_in_seat k) (reseated place scripts seats) ≡ filter_map (parts_in_seat k) seats
  other-scripts scripts [] = refl
  other-scripts scripts (seat ∷ seats) =
      let p = parts_in_seat place seat in
      let rest = filter_map (parts_in_seat k) (reseated place (behind_first p scripts) seats) in
      ap (λ (o : Option ScriptParts). cons_option o rest)
      (other-one seat (nat_eq seat.object place) seat.script scripts refl)
      ∙ ap (λ (z : List ScriptParts). cons_option (parts_in_seat k seat) z)
      (other-scripts (behind_first p scripts) seats)

-- the object has those that came, which are of the same units
own-one : (seat : Seat) (own : Bool) (o : Option ScriptParts) (scripts others : List ScriptParts)
    (next : List ScriptParts → List ScriptParts)
    → ((ss : List ScriptParts) → map unit_number ss ≡ map unit_number others → next ss ≡ ss)
    → map unit_number scripts ≡ map unit_number (cons_option (in_seat own seat.unit o) others)
    → cons_option (in_seat own
    (with_first (record seat { script = o }) (in_seat own seat.unit o) scripts).unit
    (with_first (record seat { script = o }) (in_seat own seat.unit o) scripts).script)
    (next (behind_first (in_seat own seat.unit o) scripts)) ≡ scripts
own-one seat true None scripts others next h e = h scripts e
own-one seat true (Some parts) [] others next h e = absurd cc
own-one seat true (Some parts) (script ∷ scripts) others next h e =
    let first : script.unit ≡ seat.unit = cc in
    let rest : map unit_number scripts ≡ map unit_number others = cc in
    ap (λ (u : ℕ). with_unit u script ∷ next scripts) (sym first)
    ∙ ap (λ (z : List ScriptParts). script ∷ z) (h scripts rest)
own-one seat false o scripts others next h e = h scripts e

pub own-scripts : (place : ℕ) (seats : List Seat) (scripts : List ScriptParts)
    → map unit_number scripts ≡ map unit_number (filter_map (parts_in_seat place) seats)
    → filter_map (parts_in_seat place) (reseated place scripts seats) ≡ scripts
own-scripts place [] [] e = refl
own-scripts place [] (script ∷ scripts) e = absurd cc
own-scripts place (seat ∷ seats) scripts e =
    let p = parts_in_seat place seat in
    let t = with_first seat p scripts in
    let rest = filter_map (parts_in_seat place) (reseated place (behind_first p scripts) seats) in
    ap (λ (k : ℕ). cons_option (in_seat (nat_eq k place) t.unit t.script) rest) (first-vacant seat p scripts)
    ∙ own-one seat (nat_eq seat.object place) seat.script scripts (filter_map (parts_in_seat place) seats)
    (λ ss. filter_map (parts_in_seat place) (reseated place ss seats)) (λ ss h. own-scripts place seats ss h) e

-- every script stays in a seat of its unit
home-one : (seat : Seat) (own : Bool) (o : Option ScriptParts) (scripts others : List ScriptParts)
    → map unit_number scripts ≡ map unit_number (cons_option (in_seat own seat.unit o) others)
    → IsHome (record seat { script = o })
    → IsHome (with_first (record seat { script = o }) (in_seat own seat.unit o) scripts)
home-one seat true None scripts others e home = home
home-one seat true (Some parts) [] others e home = home
home-one seat true (Some parts) (script ∷ scripts) others e home =
    let first : script.unit ≡ seat.unit = cc in (script, refl, first)
home-one seat false o scripts others e home = home

pub home-reseated : (place : ℕ) (seats : List Seat) (scripts : List ScriptParts)
    → map unit_number scripts ≡ map unit_number (filter_map (parts_in_seat place) seats)
    → AreHome seats → AreHome (reseated place scripts seats)
home-reseated place [] scripts e home n s at = absurd cc
home-reseated place (seat ∷ seats) scripts e home zero s at =
    let is : with_first seat (parts_in_seat place seat) scripts ≡ s = cc in
    subst (λ (z : Seat). IsHome z) is
    (home-one seat (nat_eq seat.object place) seat.script scripts (filter_map (parts_in_seat place) seats) e
    (home 0 seat refl))
home-reseated place (seat ∷ seats) scripts e home (suc n) s at =
    home-reseated place seats (behind_first (parts_in_seat place seat) scripts)
    (units-next scripts (filter_map (parts_in_seat place) seats) (parts_in_seat place seat) e)
    (λ k t there. home (suc k) t there) n s at

-- the seats are unchanged, except for their scripts
vacant-one : (seat : Seat) (o : Option ScriptParts) (scripts : List ScriptParts)
    → vacant (with_first seat o scripts) ≡ vacant seat
vacant-one seat None scripts = refl
vacant-one seat (Some parts) [] = refl
vacant-one seat (Some parts) (script ∷ scripts) = refl

pub vacant-reseated : (place : ℕ) (scripts : List ScriptParts) (seats : List Seat)
    → map vacant (reseated place scripts seats) ≡ map vacant seats
vacant-reseated place scripts [] = refl
vacant-reseated place scripts (seat ∷ seats) =
    let p = parts_in_seat place seat in
    ap (λ (z : Seat). z ∷ map vacant (reseated place (behind_first p scripts) seats)) (vacant-one seat p scripts)
    ∙ ap (λ (z : List Seat). vacant seat ∷ z) (vacant-reseated place (behind_first p scripts) seats)

-- prims get these names, and keep their keys
pub names-named : (prims : List Primitive) (names : List (List ℕ)) → length names ≡ length prims
    → map name_of (named prims names) ≡ names
names-named [] [] h = refl
names-named [] (name ∷ names) h = absurd (omega arith)
names-named (prim ∷ prims) [] h = absurd (omega arith)
names-named (prim ∷ prims) (name ∷ names) h =
    ap (λ (z : List (List ℕ)). name ∷ z) (names-named prims names (omega arith))

pub keys-named : (prims : List Primitive) (names : List (List ℕ))
    → map nameless (named prims names) ≡ map nameless prims
keys-named [] names = refl
keys-named (prim ∷ prims) [] = refl
keys-named (prim ∷ prims) (name ∷ names) =
    ap (λ (z : List Primitive). nameless prim ∷ z) (keys-named prims names)
