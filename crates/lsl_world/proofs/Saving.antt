-- What is counted while scripts are walked.
use Rattle.std.proofs.Common.{◌≡◌, ℕ, zero, suc, ◌+◌, ◌-◌, Bool, true, false, List, [], ◌++◌, length, refl, ap, sym, ◌∙◌, subst, append-nil, arith}
use Rattle.std.specs.Prelude.{◌==◌, Result, Ok, Err, OnOk, if◌then◌else◌, min}
use Rattle.lsl_tree.specs.Program.{Program}
use Rattle.lsl_post.specs.declared.entries.Entry.{Entry}
use Rattle.lsl_post.specs.Journal.{Tells}
use Rattle.lsl_post.specs.Told.{Told, as_value, each, lead, next_to, quiet, until}
use Rattle.lsl_post.proofs.Amid.{part-none}
use Rattle.lsl_script.specs.Rules.{Rules}
use Rattle.lsl_region.specs.PausedTurns.{counted_turn, ends_flying, paused_for, pauses_in}
use Rattle.lsl_region.specs.Pausing.{Counts, Cursor, Tally, with_save}
use Rattle.lsl_region.specs.Segments.{turn}
use Rattle.lsl_region.specs.Worlds.{World as SourceWorld}
use Rattle.lsl_lines.specs.declared.file.Step.{Step}
use Rattle.lsl_lines.specs.declared.file.Step.TheVariants.{Go, Run, Pause}
use Rattle.lsl_world.specs.declared.world.World.{World}
use Rattle.lsl_world.specs.Programs.{rules_of}
use Rattle.lsl_world.specs.Saves.{counted_round, counted_round_or_last, counted_step, counted_turn_in}
use Rattle.lsl_world.specs.Stands.{IsOf}
use Rattle.lsl_world.specs.Laws.{CountingChangesNothing}
use Rattle.lsl_world.specs.Steps.{round, round_or_last, turn_in}
use Rattle.lsl_world.proofs.Walking.{Going, Left, Stopped, back, round-on, round-stops, turn-on}

-- a turn without a segment counts nothing
tally-same : (t : Tally) (passed saves : ℕ) → passed ≡ t.passed → saves ≡ t.saves
    → record { gaps = t.gaps; passed = passed; saves = saves } ≡ t
tally-same t passed saves e f =
    ap (λ (n : ℕ). let u : Tally = record { gaps = t.gaps; passed = n; saves = saves } in u) e
    ∙ ap (λ (n : ℕ). let u : Tally = record { gaps = t.gaps; passed = t.passed; saves = n } in u) f

counted-none : (r : Rules) (place : ℕ) (w : SourceWorld) (t : Tally)
    → with_save (ends_flying (w, 0) place) (paused_for r place w 0 t) ≡ t
unfolding paused_for pauses_in
counted-none r place w t = tally-same t (t.passed + 0) ((t.saves + 0) + 0) (omega arith) (omega arith)

pub counted-still : (r : Rules) (most place : ℕ) (w : SourceWorld) (t : Tally)
    → turn r most place w ≡ quiet (w, 0) → counted_turn r most place w t ≡ t
unfolding counted_turn
counted-still r most place w t e =
    ap (λ (a : Told (SourceWorld × ℕ)). with_save (ends_flying a.value place) (paused_for r place w a.value.1 t)) e
    ∙ counted-none r place w t

pub counts-still : (r : Rules) (most place : ℕ) (w : SourceWorld) (t : Tally) (c : Cursor)
    → turn r most place w ≡ quiet (w, 0) → Counts c t → Counts c (counted_turn r most place w t)
counts-still r most place w t c e has =
    subst (λ (u : Tally). Counts c u) (sym (counted-still r most place w t e)) has

-- counting changes nothing else
module _ {X Y : Type 0} (plain : ℕ → X → Told X) (more : ℕ → X × Y → Told (X × Y))
    (law : (n : ℕ) (x : X × Y) → as_value (λ y. y.0) (more n x) ≡ plain n x.0) where
  each-forgets : (count first : ℕ) (x : X × Y)
      → as_value (λ y. y.0) (each more count first x) ≡ each plain count first x.0
  unfolding each
  each-forgets zero first x = refl
  each-forgets (suc count) first x =
      ap (λ (a : Told X). lead (more first x).entries a) (each-forgets count (first + 1) (more first x).value)
      ∙ ap (λ (a : Told X). next_to a (each plain count (first + 1))) (law first x)

pub round-forgets : (r : Rules) (x : (SourceWorld × ℕ) × Tally)
    → as_value (λ y. y.0) (counted_round r x) ≡ round r x.0
round-forgets r x =
    each-forgets {X = SourceWorld × ℕ} {Y = Tally} (turn_in r) (counted_turn_in r) (λ n y. refl)
    (length x.0.0.members) 0 x

module _ {X Y : Type 0} (stops : X → Bool) (plain : X → Told X) (more : X × Y → Told (X × Y))
    (law : (x : X × Y) → as_value (λ y. y.0) (more x) ≡ plain x.0) where
  abbrev counted_until : ℕ → X × Y → Told (X × Y)
  counted_until most x = until {X = X × Y} (λ y. stops y.0) more most x

  until-forgets : (most : ℕ) (x : X × Y) → as_value (λ y. y.0) (counted_until most x) ≡ until stops plain most x.0
  unfolding until
  until-forgets zero x = refl
  until-forgets (suc most) x = go (stops x.0) (until-forgets most (more x).value) where
    go : (b : Bool)
        → as_value (λ y. y.0) (counted_until most (more x).value) ≡ until stops plain most (more x).value.0
        → as_value (λ (y : X × Y). y.0) (if b then quiet x else next_to (more x) (counted_until most))
        ≡ (if b then quiet x.0 else next_to (plain x.0) (until stops plain most))
    go true e = refl
    go false e =
        ap (λ (a : Told X). lead (more x).entries a) e
        ∙ ap (λ (a : Told X). next_to a (until stops plain most)) (law x)

last-forgets : (r : Rules) (x : (SourceWorld × (ℕ × Bool)) × Tally)
    → as_value (λ y. y.0) (counted_round_or_last r x) ≡ round_or_last r x.0
last-forgets r x =
    ap (λ (a : Told (SourceWorld × ℕ)). as_value (λ y. (y.0, (y.1, y.1 == x.0.1.0))) a)
    (round-forgets r ((x.0.0, x.0.1.0), x.1))

pub rounds-forget : CountingChangesNothing
rounds-forget r most w t =
    ap (λ (a : Told (SourceWorld × (ℕ × Bool))). as_value (λ x. x.0) a)
    (until-forgets {X = SourceWorld × (ℕ × Bool)} {Y = Tally} (λ x. x.1.1) (round_or_last r)
    (counted_round_or_last r) (last-forgets r) most ((w, (most, false)), t))

-- this many segments are left, and this much is counted
pub record LeftCounted (programs : List Program) (world : World) (left : ℕ) (x : (SourceWorld × ℕ) × Tally) : Type 0
  where
    pub left_is : Left programs world left x.0
    pub counts : Counts world.pause x.1

module _ (programs : List Program) (world new : World) (place left most spent : ℕ) (old now : List Entry)
    (x : (SourceWorld × ℕ) × Tally) (c : LeftCounted programs world left x) (few : most ≡ min 8 left) where
  pub counted-on : (IsOf programs new (turn (rules_of programs) most ((place + 1) - 1) x.0.0).value.0
      × (spent ≡ (turn (rules_of programs) most ((place + 1) - 1) x.0.0).value.1))
      × (now ≡ old ++ (turn (rules_of programs) most ((place + 1) - 1) x.0.0).entries)
      → Counts new.pause (counted_turn (rules_of programs) most ((place + 1) - 1) x.0.0 x.1)
      → LeftCounted programs new (left - spent) (counted_turn_in (rules_of programs) place x).value
      × (now ≡ old ++ (counted_turn_in (rules_of programs) place x).entries)
  counted-on told counts =
      let d = turn-on programs world new place left most spent old now x.0 c.left_is few told in
      let a = subst (λ (k : ℕ). Counts new.pause (counted_turn (rules_of programs) most k x.0.0 x.1)) (back place)
      counts in
      let at_most : most ≡ min 8 x.0.1 = few ∙ ap (λ (n : ℕ). min 8 n) c.left_is.left_is in (
        record {
          left_is = d.0;
          counts = subst (λ (n : ℕ). Counts new.pause (counted_turn (rules_of programs) n place x.0.0 x.1)) at_most a;
        },
        d.1,
      )

-- rounds continue while they spend segments
pub record GoingCounted (programs : List Program) (world : World) (left : ℕ) (x : (SourceWorld × (ℕ × Bool)) × Tally)
    : Type 0 where
  pub going : Going programs world left x.0
  pub counts : Counts world.pause x.1

pub record StoppedCounted (programs : List Program) (world : World) (x : (SourceWorld × (ℕ × Bool)) × Tally) : Type 0
  where
    pub stopped : Stopped programs world x.0
    pub counts : Counts world.pause x.1

module _ (programs : List Program) (world new : World) (left spare : ℕ) (old now : List Entry)
    (x : (SourceWorld × (ℕ × Bool)) × Tally) (g : GoingCounted programs world left x) where
  abbrev pub rounded : ℕ → Type 0
  rounded n = (IsOf programs new (round (rules_of programs) (x.0.0, n)).value.0
      × (spare ≡ (round (rules_of programs) (x.0.0, n)).value.1))
      × (now ≡ old ++ (round (rules_of programs) (x.0.0, n)).entries)

  abbrev pub counted : ℕ → Type 0
  counted n = Counts new.pause (counted_round (rules_of programs) ((x.0.0, n), x.1)).value.1

  same : as_value (λ y. y.0) (counted_round (rules_of programs) ((x.0.0, x.0.1.0), x.1))
      ≡ round (rules_of programs) (x.0.0, x.0.1.0)
  same = round-forgets (rules_of programs) ((x.0.0, x.0.1.0), x.1)

  pub counted-round : rounded left → counted left → (spare ≡ left → ⊥)
      → GoingCounted programs new spare (counted_round_or_last (rules_of programs) x).value
      × (now ≡ old ++ (counted_round_or_last (rules_of programs) x).entries)
  counted-round told counts n =
      let d = round-on programs world new left spare old now x.0 g.going told n in
      let e = subst (λ (a : Told (SourceWorld × ℕ)).
      Going programs new spare (a.value.0, (a.value.1, a.value.1 == x.0.1.0)) × (now ≡ old ++ a.entries)) (sym same)
      d in
      (record { going = e.0; counts = subst counted g.going.left_is counts }, e.1)

  pub counted-stops : rounded left → counted left → spare ≡ left
      → StoppedCounted programs new (counted_round_or_last (rules_of programs) x).value
      × (now ≡ old ++ (counted_round_or_last (rules_of programs) x).entries)
  counted-stops told counts k =
      let d = round-stops programs world new left spare old now x.0 g.going told k in
      let e = subst (λ (a : Told (SourceWorld × ℕ)).
      Stopped programs new (a.value.0, (a.value.1, a.value.1 == x.0.1.0)) × (now ≡ old ++ a.entries)) (sym same)
      d in
      (record { stopped = e.0; counts = subst counted g.going.left_is counts }, e.1)

-- what a step counts that sets no gaps and has no turn
abbrev pub IsUncounted : Step → Type 0
IsUncounted (Go script most) = ⊥
IsUncounted (Run most) = ⊥
IsUncounted (Pause gaps) = ⊥
IsUncounted step = Unit {0}

uncounted : (r : Rules) (step : Step) → IsUncounted step → (w : SourceWorld) (t : Tally) → counted_step r step w t ≡ t
uncounted r (Go script most) none w t = absurd none
uncounted r (Run most) none w t = absurd none
uncounted r (Pause gaps) none w t = absurd none
uncounted r step none w t = refl

on-ok : {T E : Type 0} {P : Type 0} (result : Result T E) → P → OnOk result P
on-ok (Ok t) p = p
on-ok (Err e) p = tt

pub counts-same : {T E : Type 0} (step form : Step) → step ≡ form → IsUncounted form → (old new : Cursor) → new ≡ old
    → (result : Result T E)
    → (programs : List Program) (w : SourceWorld) (t : Tally) → Counts old t
    → OnOk result (Counts new (counted_step (rules_of programs) step w t))
counts-same step form is none old new same result programs w t has =
    on-ok result
    (subst (λ (s : Step). Counts new (counted_step (rules_of programs) s w t)) (sym is)
    (subst (λ (u : Tally). Counts new u) (sym (uncounted (rules_of programs) form none w t))
    (subst (λ (c : Cursor). Counts c t) (sym same) has)))

pub counts-as : {T E : Type 0} (step form : Step) → step ≡ form → (new : Cursor) (result : Result T E)
    (programs : List Program) (w : SourceWorld) (t : Tally)
    → OnOk result (Counts new (counted_step (rules_of programs) form w t))
    → OnOk result (Counts new (counted_step (rules_of programs) step w t))
counts-as step form is new result programs w t has =
    subst (λ (s : Step). OnOk result (Counts new (counted_step (rules_of programs) s w t))) (sym is) has

-- gaps are set
pub tells-quiet : {T E : Type 0} (result : Result T E) (programs : List Program) (new : World) (w : SourceWorld)
    (entries : List Entry) → IsOf programs new w → Tells result (λ v _. IsOf programs new v) entries entries (quiet w)
tells-quiet (Ok t) programs new w entries is = (is, sym (append-nil entries))
tells-quiet (Err e) programs new w entries is = part-none entries []
