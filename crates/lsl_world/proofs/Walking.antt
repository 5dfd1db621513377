-- The world of programs of a world in memory while its scripts are walked.
use Rattle.std.proofs.Common.{◌≡◌, ℕ, ◌+◌, ◌-◌, ◌<◌, Bool, true, false, List, ◌++◌, length, ap, sym, ◌∙◌, subst, arith}
use Rattle.std.specs.Prelude.{◌==◌, All, None, get_or, min}
use Rattle.lsl_post.specs.Due.{IsRipe}
use Rattle.lsl_world.proofs.Ripe.{ripe-all, rings}
use Rattle.lsl_tree.specs.Program.{Program}
use Rattle.lsl_post.specs.declared.entries.Entry.{Entry}
use Rattle.lsl_post.specs.Journal.{Part}
use Rattle.lsl_region.proofs.Placed.{stands-length}
use Rattle.lsl_region.specs.Posting.{ring_all}
use Rattle.lsl_region.specs.Segments.{turn}
use Rattle.lsl_region.specs.Worlds.{World as SourceWorld}
use Rattle.lsl_world.specs.declared.world.World.{World}
use Rattle.lsl_world.specs.Sizes.{HasNumber, Size}
use Rattle.lsl_world.specs.Stands.{IsOf, size_of}
use Rattle.lsl_world.specs.Programs.{rules_of}
use Rattle.lsl_world.specs.Steps.{round, round_or_last, turn_in}

-- this many segments are left
pub record Left (programs : List Program) (world : World) (left : ℕ) (x : SourceWorld × ℕ) : Type 0 where
  pub is : IsOf programs world x.0
  pub left_is : left ≡ x.1

pub members-are : (programs : List Program) (world : World) (w : SourceWorld) → IsOf programs world w
    → length world.grid.seats ≡ length w.members
members-are programs world w is = stands-length world.units None world.clock world.grid w is.stands

pub back : (place : ℕ) → (place + 1) - 1 ≡ place
back place = omega arith

-- the scripts are as many as at first
pub numbered : (world old : World) (count place : ℕ) → size_of world ≡ size_of old → count ≡ length old.grid.seats
    → place < count → HasNumber (length world.grid.seats) (place + 1)
numbered world old count place e k h =
    let scripts = ap (λ (s : Size). s.scripts) e in
    (omega arith, omega (arith, scripts, k, h))

pub numbered-item : (world old : World) (scripts : List ℕ) (i d : ℕ) → size_of world ≡ size_of old
    → All (HasNumber (length old.grid.seats)) scripts → i < length scripts
    → HasNumber (length world.grid.seats) (get_or scripts i d)
numbered-item world old scripts i d e all h =
    let there = all i d h in
    let count = ap (λ (s : Size). s.scripts) e in
    (there.0, omega (arith, there.1, count))

-- reading the timers that are due is reading all
pub reads : (programs : List Program) (world : World) (w : SourceWorld) → IsOf programs world w → (scripts : List ℕ)
    → IsRipe world.clock world.due scripts
    → ring_all (rules_of programs) w ≡ rings (rules_of programs) scripts w
reads programs world w is scripts ripe =
    ripe-all w world.due scripts is.index
    (subst (λ (clock : ℕ). IsRipe clock world.due scripts) (sym is.stands.time) ripe) (rules_of programs)

-- a turn of at most 8 segments
module _ (programs : List Program) (world new : World) (place left most spent : ℕ) (old now : List Entry)
    (x : SourceWorld × ℕ) (c : Left programs world left x) (few : most ≡ min 8 left) where
  pub at-most : most ≡ min 8 x.1
  at-most = few ∙ ap (λ (n : ℕ). min 8 n) c.left_is

  abbrev pub first : ℕ → ℕ → Type 0
  first n k = (IsOf programs new (turn (rules_of programs) n k x.0).value.0
      × (spent ≡ (turn (rules_of programs) n k x.0).value.1))
      × (now ≡ old ++ (turn (rules_of programs) n k x.0).entries)

  pub turn-on : first most ((place + 1) - 1)
      → Left programs new (left - spent) (turn_in (rules_of programs) place x).value
      × (now ≡ old ++ (turn_in (rules_of programs) place x).entries)
  turn-on told =
      let a = subst (λ (k : ℕ). first most k) (back place) told in
      let d = subst (λ (n : ℕ). first n place) at-most a in (
        record {
          is = d.0.0;
          left_is = ap (λ (n : ℕ). n - spent) c.left_is ∙ ap (λ (n : ℕ). x.1 - n) d.0.1;
        },
        d.1,
      )

  pub turn-part : Part old now (turn (rules_of programs) most ((place + 1) - 1) x.0).entries
      → Part old now (turn_in (rules_of programs) place x).entries
  turn-part p =
      let a = subst (λ (k : ℕ). Part old now (turn (rules_of programs) most k x.0).entries) (back place) p in
      subst (λ (n : ℕ). Part old now (turn (rules_of programs) n place x.0).entries) at-most a

is_same : (a b c d : ℕ) → a ≡ b → c ≡ d → a ≡ c → (b == d) ≡ true
is_same a b c d e f g = grind arith

not_same : (a b c d : ℕ) → a ≡ b → c ≡ d → (a ≡ c → ⊥) → (b == d) ≡ false
not_same a b c d e f g = let n : b ≡ d → ⊥ = λ k. g (e ∙ k ∙ sym f) in grind arith

-- rounds continue while they spend segments
pub record Going (programs : List Program) (world : World) (left : ℕ) (x : SourceWorld × (ℕ × Bool)) : Type 0 where
  pub is : IsOf programs world x.0
  pub left_is : left ≡ x.1.0
  pub goes : x.1.1 ≡ false

pub record Stopped (programs : List Program) (world : World) (x : SourceWorld × (ℕ × Bool)) : Type 0 where
  pub is : IsOf programs world x.0
  pub stops : x.1.1 ≡ true

module _ (programs : List Program) (world new : World) (left spare : ℕ) (old now : List Entry)
    (x : SourceWorld × (ℕ × Bool)) (g : Going programs world left x) where
  abbrev pub rounded : ℕ → Type 0
  rounded n = (IsOf programs new (round (rules_of programs) (x.0, n)).value.0
      × (spare ≡ (round (rules_of programs) (x.0, n)).value.1))
      × (now ≡ old ++ (round (rules_of programs) (x.0, n)).entries)

  pub round-on : rounded left → (spare ≡ left → ⊥) → Going programs new spare
      (round_or_last (rules_of programs) x).value
      × (now ≡ old ++ (round_or_last (rules_of programs) x).entries)
  round-on told n =
      let d = subst rounded g.left_is told in (
        record {
          is = d.0.0;
          left_is = d.0.1;
          goes = not_same spare (round (rules_of programs) (x.0, x.1.0)).value.1 left x.1.0 d.0.1 g.left_is n;
        },
        d.1,
      )

  pub round-stops : rounded left → spare ≡ left → Stopped programs new (round_or_last (rules_of programs) x).value
      × (now ≡ old ++ (round_or_last (rules_of programs) x).entries)
  round-stops told e =
      let d = subst rounded g.left_is told in (
        record {
          is = d.0.0;
          stops = is_same spare (round (rules_of programs) (x.0, x.1.0)).value.1 left x.1.0 d.0.1 g.left_is e;
        },
        d.1,
      )

  pub round-part : Part old now (round (rules_of programs) (x.0, left)).entries
      → Part old now (round_or_last (rules_of programs) x).entries
  round-part p = subst (λ (n : ℕ). Part old now (round (rules_of programs) (x.0, n)).entries) g.left_is p
