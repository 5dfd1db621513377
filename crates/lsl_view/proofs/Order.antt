-- The scripts of all objects, object by object, are all scripts in their order, where they are in order of their
-- objects.
use Rattle.std.proofs.Common.{◌≡◌, ◌∙◌, refl, sym, ap, subst, arith, ℕ, ◌+◌, ◌<◌, ◌≤◌, zero, suc, Bool, true, false, List, [], ◌∷◌, ◌++◌, length, Option, Some, None}
use Rattle.std.specs.Prelude.{map, nat_eq, if◌then◌else◌}
use Rattle.std.specs.List.{cons_option, filter_map, flat_map, range_with_len}
use Rattle.std.proofs.lemmas.Bool.Decides.{nat_tests}
use Rattle.std.proofs.lemmas.List.Concat.{flat_map-cons}
use Rattle.lsl_code.specs.declared.woven_units.Woven.{Woven as Code}
use Rattle.lsl_post.specs.declared.parts.ScriptParts.{ScriptParts}
use Rattle.lsl_script.specs.Parts.{parts_of}
use Rattle.lsl_region.specs.GridParts.{placed_at}
use Rattle.lsl_region.specs.Grids.{Contents, seat_of}
use Rattle.lsl_region.specs.Journeys.{contents_of}
use Rattle.lsl_region.specs.ObjectParts.{parts_in_seat}
use Rattle.lsl_region.specs.Worlds.{Member, World}
use Rattle.lsl_world.specs.Frozen.{parts_of_world}
use Rattle.lsl_view.specs.Parts.{scripts_in, scripts_of}

-- numbers of objects that don't fall, from the lowest on and below the highest
abbrev pub Among : (low high : ℕ) → List ℕ → Type 0
Among low high [] = Unit {0}
Among low high (object ∷ objects) = (low ≤ object) × (object < high) × Among object high objects

abbrev pub object_of : Member → ℕ
object_of m = m.object

differ : (a b : ℕ) → a < b → nat_eq b a ≡ false
differ a b lt = grind arith

same-of : (a b : ℕ) → nat_eq a b ≡ true → a ≡ b
same-of a b e = grind (arith, nat_tests)

above-of : (a b : ℕ) → nat_eq a b ≡ false → b ≤ a → b + 1 ≤ a
above-of a b e le = grind (arith, nat_tests)

differ-above : (a b : ℕ) → a < b → nat_eq a b ≡ false
differ-above a b lt = grind arith

module _ (codes : List Code) where
  abbrev own : ℕ → List Member → List ScriptParts
  own k ms = filter_map (parts_in_seat k) (map (seat_of codes false) ms)

  abbrev every : List Member → List ScriptParts
  every ms = map (λ (m : Member). parts_of codes m.script) ms

  abbrev given : Member → Bool → Option ScriptParts
  given m here = if here then Some (parts_of codes m.script) else None

  none-own : (k low high : ℕ) (ms : List Member) → k < low → Among low high (map object_of ms)
      → filter_map (parts_in_seat k) (map (seat_of codes false) ms) ≡ []
  none-own k low high [] lt among = refl
  none-own k low high (m ∷ ms) lt among =
      let differs : nat_eq m.object k ≡ false = differ k m.object (omega (arith, lt, among.0)) in
      ap (λ (b : Bool). cons_option (given m b) (own k ms)) differs
      ∙ none-own k m.object high ms (omega (arith, lt, among.0)) among.2

  -- the scripts of the lowest object, and those after them
  record Split (low high : ℕ) (ms : List Member) : Type 0 where
    back : List Member
    all : map (λ (m : Member). parts_of codes m.script) ms
        ≡ filter_map (parts_in_seat low) (map (seat_of codes false) ms)
        ++ map (λ (m : Member). parts_of codes m.script) back
    later : (k : ℕ) → low < k
        → filter_map (parts_in_seat k) (map (seat_of codes false) ms)
        ≡ filter_map (parts_in_seat k) (map (seat_of codes false) back)
    among : Among (low + 1) high (map object_of back)

  split : (low high : ℕ) (ms : List Member) → Among low high (map object_of ms) → Split low high ms
  split low high [] among = record { back = []; all = refl; later = λ k lt. refl; among = tt }
  split low high (m ∷ ms) among = go (λ rest. split low high ms rest) (nat_eq m.object low) refl
    where
      go : (Among low high (map object_of ms) → Split low high ms) → (b : Bool) → nat_eq m.object low ≡ b
          → Split low high (m ∷ ms)
      go behind true e =
          let here : m.object ≡ low = same-of m.object low e in
          let more = behind (subst (λ (n : ℕ). Among n high (map object_of ms)) here among.2) in
          record {
            back = more.back;
            all = ap (λ (ps : List ScriptParts). parts_of codes m.script ∷ ps) more.all
                ∙ ap (λ (b : Bool). cons_option (given m b) (own low ms) ++ every more.back) (sym e);
            later = λ k lt.
                let differs : nat_eq m.object k ≡ false = differ-above m.object k (omega (arith, lt, here)) in
                ap (λ (b : Bool). cons_option (given m b) (own k ms)) differs ∙ more.later k lt;
            among = more.among;
          }
      go behind false e =
          let above : low + 1 ≤ m.object = above-of m.object low e among.0 in
          record {
            back = m ∷ ms;
            all = ap (λ (ps : List ScriptParts). ps ++ every (m ∷ ms))
                (sym (ap (λ (b : Bool). cons_option (given m b) (own low ms)) e
                ∙ none-own low m.object high ms (omega (arith, above)) among.2));
            later = λ k lt. refl;
            among = (above, among.1, among.2);
          }

  none-left : (low high : ℕ) (ms : List Member) → high ≤ low → Among low high (map object_of ms) → every ms ≡ []
  none-left low high [] le among = refl
  none-left low high (m ∷ ms) le among = absurd (omega (arith, le, among.0, among.1))

  ranged : (count low high : ℕ) (f : ℕ → List ScriptParts) (ms : List Member) → high ≡ low + count
      → ((k : ℕ) → low ≤ k → f k ≡ filter_map (parts_in_seat k) (map (seat_of codes false) ms))
      → Among low high (map object_of ms)
      → flat_map f (range_with_len low count) ≡ map (λ (m : Member). parts_of codes m.script) ms
  ranged zero low high f ms e is among = sym (none-left low high ms (omega (arith, e)) among)
  ranged (suc count) low high f ms e is among =
      let s = split low high ms among in
      flat_map-cons f low (range_with_len (low + 1) count)
      ∙ ap (λ (ps : List ScriptParts). ps ++ flat_map f (range_with_len (low + 1) count)) (is low (omega arith))
      ∙ ap (λ (ps : List ScriptParts). own low ms ++ ps)
      (ranged count (low + 1) high f s.back (omega (arith, e))
      (λ k le. is k (omega (arith, le)) ∙ s.later k (omega (arith, le))) s.among)
      ∙ sym s.all

  over : (grid : Contents) (places : List ℕ)
      → flat_map scripts_of (map (placed_at grid) places)
      ≡ flat_map (λ (k : ℕ). filter_map (parts_in_seat k) grid.seats) places
  over grid [] = refl
  over grid (k ∷ places) =
      flat_map-cons scripts_of (placed_at grid k) (map (placed_at grid) places)
      ∙ ap (λ (ps : List ScriptParts). filter_map (parts_in_seat k) grid.seats ++ ps) (over grid places)
      ∙ sym (flat_map-cons (λ (k : ℕ). filter_map (parts_in_seat k) grid.seats) k places)

  pub scripts-are : (w : World) → Among 0 (length w.objects) (map object_of w.members)
      → scripts_in (parts_of_world codes w) ≡ map (λ (m : Member). parts_of codes m.script) w.members
  scripts-are w among =
      over (contents_of codes w) (range_with_len 0 (length w.objects))
      ∙ ranged (length w.objects) 0 (length w.objects)
      (λ (k : ℕ). filter_map (parts_in_seat k) (map (seat_of codes false) w.members)) w.members (omega arith)
      (λ k le. refl) among
