-- What is counted along a turn, segment by segment.
use Rattle.std.proofs.Common.{◌≡◌, ℕ, zero, suc, ◌+◌, Bool, true, false, cond, List, [], refl, ap, sym, ◌∙◌, subst, arith}
use Rattle.std.specs.Prelude.{◌&&◌, if◌then◌else◌, Option, None, is_some, min, nat_lt, not}
use Rattle.std.specs.declared.result.Result.{Result}
use Rattle.std.specs.declared.result.Result.TheVariants.{Ok, Err}
use Rattle.std.proofs.lemmas.Bool.Decides.{nat_tests}
use Rattle.std.proofs.lemmas.List.FromFn.{sum_by-map-range_with_len_more}
use Rattle.lsl_code.specs.declared.woven_units.Woven.{Woven as Code}
use Rattle.lsl_post.specs.declared.entries.Entry.{Entry}
use Rattle.lsl_post.specs.Journal.{Tells}
use Rattle.lsl_post.specs.Told.{Told, as_value, next_to, quiet, until}
use Rattle.lsl_script.specs.declared.live.Live.{Live}
use Rattle.lsl_script.specs.Rules.{Rules}
use Rattle.lsl_region.specs.Grids.{Contents, Stands}
use Rattle.lsl_region.specs.PausedTurns.{counted_segment, counted_turn, ends_flying, flies_at, goes_on_at, is_saved, paused_for, pauses_in}
use Rattle.lsl_region.specs.Pausing.{Counts, Cursor, HasPassed, Tally, most_saves, with_save}
use Rattle.lsl_region.specs.Segments.{is_ready_at, segment, turn}
use Rattle.lsl_region.specs.TurnEnds.{CameTo, IsBehind}
use Rattle.lsl_region.specs.Turning.{InTurn}
use Rattle.lsl_region.specs.Worlds.{World}
use Rattle.lsl_region.proofs.Gaps.{pausing-empty}

-- what is done again and again, at most once more, continues from where it was, unless it stops there
until-last : {X : Type 0} (stops : X → Bool) (thing : X → Told X) (n : ℕ) (x : X)
    → stops (until stops thing n x).value ≡ false
    → (until stops thing (suc n) x).value ≡ (thing (until stops thing n x).value).value
unfolding until
until-last stops thing zero x on = ap (λ (b : Bool). (if b then quiet x else next_to (thing x) quiet).value) on
until-last {X = X} stops thing (suc n) x on = go (stops x) refl (until-last stops thing n (thing x).value) where
  go : (b : Bool) → stops x ≡ b
      → (stops (until stops thing n (thing x).value).value ≡ false
      → (until stops thing (suc n) (thing x).value).value ≡ (thing (until stops thing n (thing x).value).value).value)
      → (until stops thing (suc (suc n)) x).value ≡ (thing (until stops thing (suc n) x).value).value
  go true e rest =
      let s : (until stops thing (suc n) x).value ≡ x
      = ap (λ (b : Bool). (if b then quiet x else next_to (thing x) (until stops thing n)).value) e in
      let no : true ≡ false = sym e ∙ ap stops (sym s) ∙ on in absurd cc
  go false e rest =
      let s : (until stops thing (suc n) x).value ≡ (until stops thing n (thing x).value).value
      = ap (λ (b : Bool). (if b then quiet x else next_to (thing x) (until stops thing n)).value) e in
      let m : (until stops thing (suc (suc n)) x).value ≡ (until stops thing (suc n) (thing x).value).value
      = ap (λ (b : Bool). (if b then quiet x else next_to (thing x) (until stops thing (suc n))).value) e in
      m ∙ rest (ap stops (sym s) ∙ on) ∙ ap (λ (y : X). (thing y).value) (sym s)

-- a turn of no segments
pub turn-none : (r : Rules) (place : ℕ) (w : World) → (turn r 0 place w).value ≡ (w, 0)
unfolding until
turn-none r place w = refl

-- and one of a segment more
pub turn-more : (r : Rules) (place n : ℕ) (w : World) (x : World × ℕ) → x ≡ (turn r n place w).value
    → not (is_ready_at x.0 place) ≡ false
    → ((segment r place x.0).value, x.1 + 1) ≡ (turn r (n + 1) place w).value
turn-more r place n w x is on =
    let e : suc n ≡ n + 1 = omega arith in
    ap (λ (y : World × ℕ). ((segment r place y.0).value, y.1 + 1)) is
    ∙ sym (until-last (λ x. not (is_ready_at x.0 place)) (λ x. as_value (λ v. (v, x.1 + 1)) (segment r place x.0)) n
    (w, 0) (ap (λ (y : World × ℕ). not (is_ready_at y.0 place)) (sym is) ∙ on))
    ∙ ap (λ (k : ℕ). (turn r k place w).value) e

-- one segment more is counted
pauses-more : (r : Rules) (gaps : List ℕ) (passed place n : ℕ) (w : World)
    → pauses_in r gaps passed place w (n + 1)
    ≡ pauses_in r gaps passed place w n
    + cond (is_saved gaps (passed + (n + 1)) place (turn r (n + 1) place w).value.0) 1 0
unfolding pauses_in
pauses-more r gaps passed place n w =
    sum_by-map-range_with_len_more (λ (saved : Bool). cond saved 1 0)
    (λ k. is_saved gaps (passed + k) place (turn r k place w).value.0) 1 n (n + 1) (omega arith)

pauses-none : (r : Rules) (gaps : List ℕ) (passed place : ℕ) (w : World) → pauses_in r gaps passed place w 0 ≡ 0
unfolding pauses_in
pauses-none r gaps passed place w = refl

pub paused-more : (r : Rules) (place n : ℕ) (w v : World) (t : Tally) → v ≡ (turn r (n + 1) place w).value.0
    → counted_segment place v (paused_for r place w n t) ≡ paused_for r place w (n + 1) t
unfolding paused_for
paused-more r place n w v t at =
    let e : t.passed + n + 1 ≡ t.passed + (n + 1) = omega arith in
    let b : is_saved t.gaps (t.passed + n + 1) place v
    ≡ is_saved t.gaps (t.passed + (n + 1)) place (turn r (n + 1) place w).value.0
    = ap (λ (k : ℕ). is_saved t.gaps k place v) e ∙ ap (is_saved t.gaps (t.passed + (n + 1)) place) at in
    let c = ap {B = ℕ} (λ (b : Bool). cond b 1 0) b in
    let s : t.saves + pauses_in r t.gaps t.passed place w n + cond (is_saved t.gaps (t.passed + n + 1) place v) 1 0
    ≡ t.saves + pauses_in r t.gaps t.passed place w (n + 1)
    = omega (arith, c, pauses-more r t.gaps t.passed place n w) in
    ap {A = ℕ} {B = Tally} (λ k. record {
      gaps = t.gaps;
      passed = k;
      saves = t.saves + pauses_in r t.gaps t.passed place w n
          + cond (is_saved t.gaps (t.passed + n + 1) place v) 1 0;
    }) e
    ∙ ap {A = ℕ} {B = Tally} (λ k. record { gaps = t.gaps; passed = t.passed + (n + 1); saves = k }) s

-- none of them yet
pub paused-none : (r : Rules) (place : ℕ) (w : World) (c : Cursor) (t : Tally) → Counts c t
    → Counts c (paused_for r place w 0 t)
unfolding paused_for
paused-none r place w c t k = record {
  gaps = k.gaps;
  passed = subst (HasPassed c.gaps c.next c.count) (omega arith) k.passed;
  saves = k.saves ∙ ap (λ (n : ℕ). min n most_saves) (omega (arith, pauses-none r t.gaps t.passed place w));
}

-- without gaps no save is counted
pauses-empty : (r : Rules) (passed place n : ℕ) (w : World) → pauses_in r [] passed place w n ≡ 0
pauses-empty r passed place zero w = pauses-none r [] passed place w
pauses-empty r passed place (suc n) w =
    let e : suc n ≡ n + 1 = omega arith in
    let more : pauses_in r [] passed place w (suc n)
    ≡ pauses_in r [] passed place w n
    + cond (is_saved [] (passed + (n + 1)) place (turn r (n + 1) place w).value.0) 1 0
    = ap (pauses_in r [] passed place w) e ∙ pauses-more r [] passed place n w in
    let none : cond (is_saved [] (passed + (n + 1)) place (turn r (n + 1) place w).value.0) 1 0 ≡ 0
    = ap {B = ℕ} (λ (b : Bool). cond (b && goes_on_at (turn r (n + 1) place w).value.0 place) 1 0)
    (pausing-empty (passed + (n + 1))) in
    omega (arith, more, none, pauses-empty r passed place n w)

pub paused-saves : (r : Rules) (place n : ℕ) (w : World) (t : Tally) → t.gaps ≡ []
    → (paused_for r place w n t).saves ≡ t.saves
unfolding paused_for
paused-saves r place n w t none =
    let k = ap (λ (gaps : List ℕ). pauses_in r gaps t.passed place w n) none in
    omega (arith, k, pauses-empty r t.passed place n w)

pub paused-empty : (r : Rules) (place n : ℕ) (w : World) (c : Cursor) (t : Tally) → c.gaps ≡ [] → Counts c t
    → Counts c (paused_for r place w n t)
unfolding paused_for
paused-empty r place n w c t none k = record {
  gaps = k.gaps;
  passed = subst (λ (gaps : List ℕ). HasPassed gaps c.next c.count (t.passed + n)) (sym none) tt;
  saves = k.saves ∙ ap (λ (n : ℕ). min n most_saves) (sym (paused-saves r place n w t (sym k.gaps ∙ none)));
}

-- the end of a turn is counted
pub counted-so : (r : Rules) (most place : ℕ) (w : World) (c : Cursor) (t : Tally) (out : Bool)
    → out ≡ ends_flying (turn r most place w).value place
    → Counts c (with_save out (paused_for r place w (turn r most place w).value.1 t))
    → Counts c (counted_turn r most place w t)
unfolding counted_turn
counted-so r most place w c t out e k =
    subst (λ (b : Bool). Counts c (with_save b (paused_for r place w (turn r most place w).value.1 t))) e k

pub counted-empty : (r : Rules) (most place : ℕ) (w : World) (t : Tally) → t.gaps ≡ []
    → (counted_turn r most place w t).saves ≡ (with_save (ends_flying (turn r most place w).value place) t).saves
unfolding counted_turn
counted-empty r most place w t none =
    ap (λ (n : ℕ). n + cond (ends_flying (turn r most place w).value place) 1 0)
    (paused-saves r place (turn r most place w).value.1 w t none)

-- Where segments end.
module _ (codes : List Code) (unit : Code) (clock place : ℕ) (grid : Contents) where
  -- a script that came back isn't in flight
  pub tells-behind : {T E : Type 0} (r : Result T E) (old new : List Entry) (a : Told World)
      → Tells r (λ v _. Stands codes None clock grid v × (flies_at v place ≡ false)) old new a
      → Tells r (λ v _. IsBehind codes unit clock place grid None v) old new a
  tells-behind (Ok x) old new a d = ((d.0.0, sym d.0.1), d.1)
  tells-behind (Err e) old new a d = d

  module _ (live : Option Live) where
    -- at a turn's start
    pub came-first : (w : World) → live ≡ None → Stands codes None clock grid w
        → CameTo codes unit clock place grid live (w, 0) 0
    came-first w none st = (
      subst (λ (l : Option Live). InTurn codes unit clock place grid l w) (sym none) st,
      refl,
      ap is_some none,
    )

    -- after one segment more
    pub came-more : (v : World) (n count : ℕ) → count ≡ n → IsBehind codes unit clock place grid live v
        → CameTo codes unit clock place grid live (v, n + 1) (count + 1)
    came-more v n count e d =
        let some : nat_lt 0 (n + 1) ≡ true = grind (arith, nat_tests) in (
          d.0,
          ap (λ (k : ℕ). k + 1) e,
          d.1 ∙ sym (ap (λ (b : Bool). b && flies_at v place) some),
        )
