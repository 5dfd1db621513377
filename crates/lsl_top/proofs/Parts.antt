-- Steps that go part by part.
use Rattle.std.proofs.Common.{◌≡◌, ℕ, suc, ◌<◌, ◌≤◌, List, [], ◌∷◌, ◌++◌, take, Option, Some, None, Result, Ok as OkResult, Err, refl, ap, sym, ◌∙◌, subst, arith}
use Rattle.std.specs.Prelude.{IfSome}
use Rattle.lsl_code.specs.declared.woven_units.Woven.{Woven as Code}
use Rattle.lsl_ports.specs.Growth.{Grew, GrewPartly}
use Rattle.lsl_ports.specs.Trips.{Trip, Went}
use Rattle.lsl_tree.specs.Program.{Program}
use Rattle.lsl_lines.specs.Journal.{lines_of}
use Rattle.lsl_lines.specs.declared.file.Step.{Step}
use Rattle.lsl_lines.specs.declared.file.Step.TheVariants.{Go, Run}
use Rattle.lsl_post.specs.declared.entries.Entry.{Entry}
use Rattle.lsl_script.specs.Rules.{Rules}
use Rattle.lsl_world.specs.Programs.{rules_of}
use Rattle.lsl_world.specs.declared.world.World.{World as Memory}
use Rattle.lsl_world.specs.Lossy.{Gone, IsFairFrom, Stage, goes, travel_from}
use Rattle.lsl_world.specs.Parts.{DoesPartAt, IsRestOf, LeavesAt, led, segments_in}
use Rattle.lsl_world.specs.Stages.{IsAt}
use Rattle.lsl_world.proofs.Staging.{fair-first}
use Rattle.lsl_top.specs.Goes.{Goes, GoesPart, IsWithin, Runs}
use Rattle.lsl_top.specs.Pieces.{Piece, stage_piece, stage_pieces}
use Rattle.lsl_top.specs.Ports.{Log, Wire, Writes}
use Rattle.lsl_top.specs.Promise.{IsBegunAt, IsWhole}
use Rattle.lsl_top.specs.declared.writing.Trouble.{Trouble}
use Rattle.lsl_top.proofs.Goings.{goes-then, goes-written, pieces-one, value-one}
use Rattle.lsl_top.proofs.Pieces.{begun-before, begun-left, lines_before, whole-left}
use Rattle.lsl_top.proofs.Trips.{went-then}
use Rattle.lsl_top.proofs.Written.{lines-append, rose-later}

-- what is left of a step ends as the step does, and its piece is the step's, except for the lines that were written
module _ (codes : List Code) (r : Rules) (regions : List (List ℕ)) (step rest : Step) (stage there : Stage)
    (told : List Entry) (trips : List Trip)
    (whole : goes codes r regions step stage trips ≡ led told (goes codes r regions rest there trips)) where
  value-left : (travel_from codes r regions (rest ∷ []) trips there).value
      ≡ (travel_from codes r regions (step ∷ []) trips stage).value
  value-left =
      value-one codes r regions there rest trips ∙ sym (ap (λ (g : Gone). g.told.value) whole)
      ∙ sym (value-one codes r regions stage step trips)

  abbrev piece_of : Gone → Piece
  piece_of gone = record { lines = lines_of gone.told.entries; sent = gone.sent }

  piece-left : stage_piece codes r regions step trips stage
      ≡ lines_before (lines_of told) (stage_piece codes r regions rest trips there)
  piece-left =
      ap piece_of whole
      ∙ ap {B = Piece} (λ (lines : List ℕ). record {
        lines = lines;
        sent = (goes codes r regions rest there trips).sent;
      }) (lines-append told (goes codes r regions rest there trips).told.entries)

  pieces-left : stage_pieces codes r regions (step ∷ []) trips stage
      ≡ lines_before (lines_of told) (stage_piece codes r regions rest trips there) ∷ []
  pieces-left =
      pieces-one codes r regions stage step trips ∙ ap (λ (p : Piece). p ∷ []) piece-left

module _ (gives : List ℕ → Option (List ℕ) → Type 0) (codes : List Code) (regions : List (List ℕ)) (step : Step)
    (IsThen IsNow : List Program → Stage → Type 0) (a b : Log) (p q : Wire) (trips : List Trip)
    (went : Went gives p.told q.told trips) (linked : p.faults ≤ q.faults) (before entries these : List Entry)
    (none : before ≡ []) (are : these ≡ entries) where
  abbrev Leaves : Step → Type 0
  Leaves rest =
      (programs : List Program) (stage : Stage) → IsThen programs stage → IsFairFrom stage trips
      → LeavesAt codes (rules_of programs) regions (IsNow programs) step rest stage trips before entries

  -- what was written is what was reported
  lines-told : (told : List Entry) → entries ≡ before ++ told → lines_of these ≡ lines_of told
  lines-told told added =
      ap lines_of (are ∙ added ∙ ap (λ (es : List Entry). es ++ told) none)

  -- a part was written, and what is left continues
  goes-left : {T U : Type 0} (u : U) (rest : Step) (IsLast : List Program → Stage → Type 0) (c : Log) (s : Wire)
      (result : Result T Trouble) → Leaves rest → Writes {T = U} (lines_of these) a b (OkResult u)
      → Goes gives codes regions IsNow IsLast (rest ∷ []) b c q s result
      → Goes gives codes regions IsThen IsLast (step ∷ []) a c p s result
  goes-left {T = T} u rest IsLast c s result leaves written others = record {
    trips = trips ++ others.trips;
    went = went-then gives p.told q.told s.told trips others.trips went others.went;
    runs = λ programs stage is fair.
        let d = leaves programs stage is (fair-first stage trips others.trips fair) in
        let all : trips ++ others.trips ≡ others.trips = ap (λ (ts : List Trip). ts ++ others.trips) d.none in
        subst (λ (ts : List Trip).
        Runs codes (rules_of programs) regions (IsLast programs) (step ∷ []) stage ts a.sunk c.sunk result) (sym all)
        (runs result programs stage d
        (others.runs programs d.there d.now
        (d.fair others.trips (subst (λ (ts : List Trip). IsFairFrom stage ts) all fair))));
    counted = let le = written.counted in let more = others.counted in omega arith;
    links_counted = let more = others.links_counted in omega (arith, linked, more);
    cause = λ f. rose-later a.faults b.faults c.faults written.counted others.counted (others.cause f);
  }
    where
      runs : (result : Result T Trouble) (programs : List Program) (stage : Stage)
          (d : LeavesAt codes (rules_of programs) regions (IsNow programs) step rest stage trips before entries)
          → Runs codes (rules_of programs) regions (IsLast programs) (rest ∷ []) d.there others.trips b.sunk c.sunk
          result
          → Runs codes (rules_of programs) regions (IsLast programs) (step ∷ []) stage others.trips a.sunk c.sunk result
      runs (OkResult t) programs stage d done =
          let r = rules_of programs in
          let ts = others.trips in
          let first = subst (λ (z : List ℕ). Grew a.sunk b.sunk z) (lines-told d.told d.added) written.ok in
          record {
            value = subst (IsLast programs)
                (value-left codes r regions step rest stage d.there d.told ts (d.whole ts)) done.value;
            whole = subst (λ (z : List Piece). IsWhole z ts a.sunk c.sunk)
                (sym (pieces-left codes r regions step rest stage d.there d.told ts (d.whole ts)))
                (whole-left (lines_of d.told) (stage_piece codes r regions rest ts d.there) ts a.sunk b.sunk c.sunk
                first
                (subst (λ (z : List Piece). IsWhole z ts b.sunk c.sunk) (pieces-one codes r regions d.there rest ts)
                done.whole));
          }
      runs (Err e) programs stage d (n, stopped) =
          let r = rules_of programs in
          let ts = others.trips in
          let first = subst (λ (z : List ℕ). Grew a.sunk b.sunk z) (lines-told d.told d.added) written.ok in
          let begun = subst (λ (z : List Piece). IsBegunAt n z ts b.sunk c.sunk)
          (pieces-one codes r regions d.there rest ts) stopped.begun in
          let within = begun.within in
          let zero : n ≡ 0 = omega arith in (
            0,
            record {
              begun = subst (λ (z : List Piece). IsBegunAt 0 z ts a.sunk c.sunk)
                  (sym (pieces-left codes r regions step rest stage d.there d.told ts (d.whole ts)))
                  (begun-left (lines_of d.told) (stage_piece codes r regions rest ts d.there) ts a.sunk b.sunk c.sunk
                  first n zero begun);
              last = λ f.
                  subst (λ (end : Stage). IsWithin codes r regions (IsLast programs) end)
                  (value-left codes r regions step rest stage d.there d.told ts (d.whole ts))
                  (subst (λ (m : ℕ). IsWithin codes r regions (IsLast programs)
                  (travel_from codes r regions (take (suc m) (rest ∷ [])) ts d.there).value) zero (stopped.last f));
            },
          )

  -- a part was reported, but not all of it was written
  goes-part : {T : Type 0} (e : Trouble) (rest : Step) → Leaves rest
      → Writes {T = T} (lines_of these) a b (Err e)
      → Goes {T = T} gives codes regions IsThen IsNow (step ∷ []) a b p q (Err e)
  goes-part {T = T} e rest leaves written = record {
    trips = trips;
    went = went;
    runs = λ programs stage is fair.
        let d = leaves programs stage is fair in
        subst (λ (ts : List Trip).
        Runs {T = T} codes (rules_of programs) regions (IsNow programs) (step ∷ []) stage ts a.sunk b.sunk (Err e))
        (sym d.none) (stops programs stage d);
    counted = written.counted;
    links_counted = linked;
    cause = written.cause;
  }
    where
      stops : (programs : List Program) (stage : Stage)
          → LeavesAt codes (rules_of programs) regions (IsNow programs) step rest stage trips before entries
          → Runs {T = T} codes (rules_of programs) regions (IsNow programs) (step ∷ []) stage [] a.sunk b.sunk (Err e)
      stops programs stage d =
          let r = rules_of programs in
          let same = lines-told d.told d.added in (
            0,
            record {
              begun = subst (λ (z : List Piece). IsBegunAt 0 z [] a.sunk b.sunk)
                  (sym (pieces-left codes r regions step rest stage d.there d.told [] (d.whole [])))
                  (begun-before (lines_of d.told) (stage_piece codes r regions rest [] d.there) a.sunk b.sunk
                  (subst (λ (z : List ℕ). GrewPartly a.sunk b.sunk z) same written.part));
              last = λ f. record {
                there = d.there;
                now = d.now;
                left = rest ∷ [];
                few = omega arith;
                leads = value-left codes r regions step rest stage d.there d.told [] (d.whole []);
              };
            },
          )

-- the result of a part, and its lines were to be written
module _ (gives : List ℕ → Option (List ℕ) → Type 0) (codes : List Code) (regions : List (List ℕ)) (step : Step)
    (old new : Memory) (a b : Log) (p q : Wire) (trips : List Trip) (went : Went gives p.told q.told trips)
    (linked : p.faults ≤ q.faults) (before entries these : List Entry) (none : before ≡ []) (are : these ≡ entries)
  where
    abbrev DoesPart : Type 0 → Option Step → Type 0
    DoesPart E left =
        (programs : List Program) (stage : Stage) → IsAt programs old stage → IsFairFrom stage trips
        → DoesPartAt {E = E} codes (rules_of programs) regions (λ s. IsAt programs new s) step stage trips before
        entries
        (OkResult left)

    pub part-written : {U : Type 0} (E : Type 0) (u : U) (left : Option Step) → DoesPart E left
        → Writes {T = U} (lines_of these) a b (OkResult u)
        → GoesPart gives codes regions old new step a b p q (OkResult left)
    part-written E u None does written last end done r others =
        goes-then gives codes regions u step [] (step ∷ []) (λ programs. IsAt programs old)
        (λ programs. IsAt programs new) (λ programs. IsAt programs last) a b end p q done r refl
        (goes-written gives codes regions step (λ programs. IsAt programs old) (λ programs. IsAt programs new) a p q
        trips went linked tt before entries these b (OkResult u) none are does written) others
    part-written E u (Some rest) does written last end done r others =
        goes-left gives codes regions step (λ programs. IsAt programs old) (λ programs. IsAt programs new) a b p q trips
        went linked before entries these none are u rest (λ programs. IsAt programs last) end done r does written others

    pub part-stopped : (E : Type 0) (e : Trouble) (left : Option Step) → DoesPart E left
        → Writes {T = Unit {0}} (lines_of these) a b (Err e)
        → GoesPart gives codes regions old new step a b p q (Err e)
    part-stopped E e None does written =
        goes-written gives codes regions step (λ programs. IsAt programs old) (λ programs. IsAt programs new) a p q
        trips went linked tt before entries these b (Err e) none are does written
    part-stopped E e (Some rest) does written =
        goes-part gives codes regions step (λ programs. IsAt programs old) (λ programs. IsAt programs new) a b p q trips
        went linked before entries these none are e rest does written

-- what is left is left of the step
pub is-rest : (step rest : Step) (left : Option Step) → Some rest ≡ left → IfSome left (λ more. IsRestOf step more)
    → IsRestOf step rest
is-rest step rest left same is =
    subst (λ (o : Option Step). IfSome o (λ more. IsRestOf step more)) (sym same) is

-- what is left of what is left
pub rest-more : (step rest more : Step) → IsRestOf step rest → IsRestOf rest more → IsRestOf step more
rest-more (Go script most) (Go other left) (Go third few) is on = (on.0 ∙ is.0, omega (arith, is.1, on.1))
rest-more (Run most) (Run left) (Run few) is on = omega (arith, is, on)
rest-more (Go script most) (Go other left) more is on = absurd (on)
rest-more (Run most) (Run left) more is on = absurd (on)
rest-more step rest more is on = absurd (is)

pub rests-more : (step rest : Step) (left : Option Step) → IsRestOf step rest
    → IfSome left (λ more. IsRestOf rest more) → IfSome left (λ more. IsRestOf step more)
rests-more step rest None is on = tt
rests-more step rest (Some more) is on = rest-more step rest more is on

-- there is less and less of it
abbrev pub parts_left : Option Step → ℕ
parts_left None = 0
parts_left (Some step) = suc (segments_in step)

pub rest-fewer : (rest : Step) (left : Option Step) → IfSome left (λ more. IsRestOf rest more)
    → parts_left left < parts_left (Some rest)
rest-fewer rest None is = omega arith
rest-fewer (Go script most) (Some (Go other left)) is = omega (arith, is.1)
rest-fewer (Run most) (Some (Run left)) is = omega (arith, is)
rest-fewer rest (Some more) is = absurd (is)
