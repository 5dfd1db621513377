-- Segments that a script passes on integers and calls of functions alone.
use Rattle.std.proofs.Common.{◌≡◌, ℕ, ◌+◌, ◌≤◌, Bool, true, false, List, ◌++◌, refl, ap, sym, ◌∙◌, subst, arith}
use Rattle.std.specs.Prelude.{Option, Some, None, nat_le, not}
use Rattle.lsl_code.specs.declared.woven_units.Woven.{Woven as Code}
use Rattle.lsl_post.specs.declared.entries.Entry.{Entry}
use Rattle.lsl_post.specs.Told.{Told, as_value}
use Rattle.lsl_post.proofs.Amid.{Again, again-ok}
use Rattle.lsl_script.specs.declared.live.Live.{Live}
use Rattle.lsl_script.specs.declared.live.Turn.TheVariants as turn
use Rattle.lsl_script.specs.Codes.{Meant}
use Rattle.lsl_script.specs.Passing.{NoSegment, OneMore, PassesSegment, PassesSegments}
use Rattle.lsl_script.proofs.Stops.{rests_ready}
use Rattle.lsl_script.specs.Scripts.{is_ready}
use Rattle.lsl_region.specs.declared.grid.Seat.{Seat}
use Rattle.lsl_region.specs.Grids.{Contents}
use Rattle.lsl_region.specs.Segments.{is_ready_at, is_ready_in, segment}
use Rattle.lsl_region.specs.TurnEnds.{CameTo, IsBehind}
use Rattle.lsl_region.specs.Turning.{Held, InTurn, IsAmid, IsReadyInTurn, PassesAwake}
use Rattle.lsl_region.specs.Worlds.{World}
use Rattle.lsl_region.proofs.Flying.{goes-to}
use Rattle.lsl_region.proofs.PausedTurns.{came-more}
use Rattle.lsl_region.proofs.Stops.{held-flies, held-goes, held-rests, held_most, segment-held, tick-told}

-- a script that isn't awake stays so
pub ready-still : (stands : Bool) (unit : Code) (n clock place : ℕ) (seats : List Seat) (old new : Option Live)
    → PassesAwake stands unit n old new → IsReadyInTurn clock seats place old → IsReadyInTurn clock seats place new
ready-still stands unit n clock place seats None None p ready = ready
ready-still stands unit n clock place seats None (Some b) p ready = absurd p
ready-still stands unit n clock place seats (Some a) None p ready = absurd p
ready-still stands unit n clock place seats (Some a) (Some b) p ready = tt

none-passed : (unit : Code) (n : ℕ) (a b : Live) → n ≡ 0 → PassesSegments unit n a b → a ≡ b
none-passed unit n a b e (NoSegment live) = refl
none-passed unit n a b e (OneMore k old mid new before one) = absurd (omega (arith, e))

one-passed : (unit : Code) (n : ℕ) (a b : Live) → n ≡ 1 → PassesSegments unit n a b → PassesSegment unit a b
one-passed unit n a b e (NoSegment live) = absurd (omega (arith, e))
one-passed unit n a b e (OneMore k old mid new before one) =
    let none : k ≡ 0 = omega (arith, e) in
    subst (λ (l : Live). PassesSegment unit l new) (sym (none-passed unit k old mid none before)) one

module _ (codes : List Code) (unit : Code) (clock place : ℕ) (grid : Contents) where
  -- the script that is held is ready if its time has come
  held-ready : (live : Live) (w : World) → Held codes unit clock place grid live w
      → nat_le live.parts.wake clock ≡ is_ready_at w place
  held-ready live w h =
      rests_ready codes unit h.member.script h.flight live clock h.rests
      ∙ ap (λ (k : ℕ). is_ready k h.member.script) (sym h.stands.time) ∙ ap (is_ready_in w) (sym h.at)

  -- it passes a segment
  tick-behind : (m : Meant codes) (live new : Live) (w : World) (out : List Entry)
      → Held codes unit clock place grid live w → PassesSegment unit live new
      → IsBehind codes unit clock place grid (Some new) (segment m.rules place w).value
      × (out ≡ out ++ (segment m.rules place w).entries)
  tick-behind m live new w out h one =
      let most = held_most m h in
      let g = held-goes m h in
      let comes = one.source codes g.member.script h.flight (held-rests m h) in
      let d = subst (λ (a : Told World). Held codes unit clock place grid new a.value × (out ≡ out ++ a.entries))
      (sym (segment-held m h))
      (tick-told m
      (goes-to codes unit clock place grid live new turn.AtTick h.flight most w g comes) out) in
      ((d.0, sym (held-flies codes unit clock place grid new _ d.0)), d.1)

  -- it passes one segment, or a part of one
  pub one-behind : (m : Meant codes) (n : ℕ) (old new : Option Live) (w : World) (out : List Entry) → n ≡ 1
      → PassesAwake true unit n old new → InTurn codes unit clock place grid old w
      → IsBehind codes unit clock place grid new (segment m.rules place w).value
      × (out ≡ out ++ (segment m.rules place w).entries)
  one-behind m n None None w out e p h = let no : true ≡ false = p.1 in absurd cc
  one-behind m n None (Some b) w out e p h = absurd p
  one-behind m n (Some a) None w out e p h = absurd p
  one-behind m n (Some a) (Some b) w out e p h = tick-behind m a b w out h (one-passed unit n a b e p)

  pub none-amid : (n : ℕ) (old new : Option Live) (w : World) → n ≡ 0 → PassesAwake false unit n old new
      → InTurn codes unit clock place grid old w → IsAmid codes unit clock place grid new w
  none-amid n None None w e p h = h
  none-amid n None (Some b) w e p h = absurd p
  none-amid n (Some a) None w e p h = absurd p
  none-amid n (Some a) (Some b) w e p h =
      (p.0, subst (λ (l : Live). Held codes unit clock place grid l w) (none-passed unit n a p.0 e p.1) h, p.2)

  abbrev came : Option Live → ℕ → World × ℕ → Type 0
  came live count x = CameTo codes unit clock place grid live x count

  -- within the next segment
  abbrev pub amid : Option Live → ℕ → World × ℕ → Type 0
  amid live count x =
      IsAmid codes unit clock place grid live x.0 × (count ≡ x.1) × (not (is_ready_at x.0 place) ≡ false)

  module _ (m : Meant codes) (total : Told (World × ℕ)) (old now : List Entry) (most : ℕ) where
    abbrev Far : (World × ℕ → Type 0) → ℕ → Type 0
    Far Rel count =
        Again Rel total old now (λ x. not (is_ready_at x.0 place))
        (λ x. as_value (λ v. (v, x.1 + 1)) (segment m.rules place x.0)) count most

    many-behind : (n : ℕ) (a b : Live) → PassesSegments unit n a b → (spent : ℕ) → spent + n ≤ most
        → nat_le a.parts.wake clock ≡ true → Far (came (Some a) spent) spent
        → Far (came (Some b) (spent + n)) (spent + n) × (nat_le b.parts.wake clock ≡ true)
    many-behind n a b (NoSegment live) spent fits wakes far =
        let e : spent ≡ spent + 0 = omega arith in
        (subst (λ (k : ℕ). Far (came (Some live) k) k) e far, wakes)
    many-behind n a b (OneMore k old mid new before one) spent fits wakes far =
        let e : spent + k + 1 ≡ spent + (k + 1) = omega arith in
        let prior = many-behind k old mid before spent (omega arith) wakes far in (
          subst (λ (k : ℕ). Far (came (Some new) k) k) e
              (again-ok _ _ _ _ _ _ _ _ prior.0 (came (Some new) (spent + k + 1)) _ (omega arith)
              (λ x r. ap not (sym (held-ready mid x.0 r.0) ∙ prior.1))
              (λ x r. let d = tick-behind m mid new x.0 now r.0 one in
              (came-more codes unit clock place grid (Some new) _ x.1 (spent + k) r.1 d.0, d.1))),
          ap (λ p. nat_le p.wake clock) one.beside.parts ∙ prior.1,
        )

    far-as : (Rel Rel' : World × ℕ → Type 0) (count : ℕ) → ((x : World × ℕ) → Rel x → Rel' x) → Far Rel count
        → Far Rel' count
    far-as Rel Rel' count turns far = record {
      left = far.left;
      span = far.span;
      amid = record {
        value = far.amid.value;
        rel = turns far.amid.value far.amid.rel;
        done = far.amid.done;
        whole = far.amid.whole;
        so_far = far.amid.so_far;
      };
    }

    module _ (spent n : ℕ) (fits : spent + n ≤ most) where
      -- it is at a tick then
      pub passed-came : (old new : Option Live) → PassesAwake true unit n old new
          → ((v : World) → InTurn codes unit clock place grid old v → is_ready_at v place ≡ true)
          → Far (came old spent) spent → Far (came new (spent + n)) (spent + n)
      passed-came None None p ready far = let no : true ≡ false = p.1 in absurd cc
      passed-came None (Some b) p ready far = absurd p
      passed-came (Some a) None p ready far = absurd p
      passed-came (Some a) (Some b) p ready far =
          let x = far.amid.value in
          let h = far.amid.rel.0 in
          (many-behind n a b p spent fits (held-ready a x.0 h ∙ ready x.0 h) far).0

      -- or is within the next segment
      pub passed-amid : (old new : Option Live) → PassesAwake false unit n old new
          → ((v : World) → InTurn codes unit clock place grid old v → is_ready_at v place ≡ true)
          → Far (came old spent) spent → Far (amid new (spent + n)) (spent + n)
      passed-amid None None p ready far =
          let e : spent ≡ spent + n = omega (arith, p.0) in
          subst (λ (k : ℕ). Far (amid None k) k) e
          (far-as (came None spent) (amid None spent) spent (λ x r. (r.0, r.1, ap not (ready x.0 r.0))) far)
      passed-amid None (Some b) p ready far = absurd p
      passed-amid (Some a) None p ready far = absurd p
      passed-amid (Some a) (Some b) p ready far =
          let x = far.amid.value in
          let h = far.amid.rel.0 in
          let many = many-behind n a p.0 p.1 spent fits (held-ready a x.0 h ∙ ready x.0 h) far in
          far-as (came (Some p.0) (spent + n)) (amid (Some b) (spent + n)) (spent + n)
          (λ y r. ((p.0, r.0, p.2), r.1, ap not (sym (held-ready p.0 y.0 r.0) ∙ many.1))) many.0
