-- Steps that go one by one.
use Rattle.std.proofs.Common.{◌≡◌, ℕ, suc, ◌+◌, ◌<◌, ◌≤◌, List, [], ◌∷◌, ◌++◌, take, drop, get_or, length, Option, Some, None, Result, Ok as OkResult, Err, refl, ap, sym, ◌∙◌, subst, arith, append-nil}
use Rattle.std.proofs.lemmas.List.{drop_more}
use Rattle.lsl_code.specs.declared.woven_units.Woven.{Woven as Code}
use Rattle.lsl_ports.specs.Growth.{Begins}
use Rattle.lsl_ports.specs.Trips.{Trip, Went, sent_of}
use Rattle.lsl_ports.proofs.Growth.{begins-none, grew-none}
use Rattle.lsl_tree.specs.Program.{Program}
use Rattle.lsl_lines.specs.Journal.{lines_of}
use Rattle.lsl_lines.specs.declared.file.Step.{Step}
use Rattle.lsl_post.specs.declared.entries.Entry.{Entry}
use Rattle.lsl_script.specs.Rules.{Rules}
use Rattle.lsl_world.specs.Programs.{rules_of}
use Rattle.lsl_handoff.specs.declared.card.Card.{Card}
use Rattle.lsl_world.specs.declared.world.World.{World as Memory}
use Rattle.lsl_world.specs.Handing.{CanHand}
use Rattle.lsl_world.specs.Lossy.{Gone, IsFairFrom, Stage, goes, travel_from}
use Rattle.lsl_world.specs.Regions.{LeadsToNamed}
use Rattle.lsl_world.specs.Stages.{DoesAt}
use Rattle.lsl_world.proofs.Staging.{fair-first, fair-second, goes-then as gone-then}
use Rattle.lsl_top.specs.Goes.{Goes, IsWithin, Runs, StoppedAt}
use Rattle.lsl_top.specs.Pieces.{Piece, stage_piece, stage_pieces}
use Rattle.lsl_top.specs.Ports.{Log, Wire, Writes}
use Rattle.lsl_top.specs.Promise.{IsBegunAt, IsWhole}
use Rattle.lsl_top.specs.declared.writing.Trouble.{Trouble}
use Rattle.lsl_top.specs.declared.writing.Trouble.TheVariants.{NoMemory}
use Rattle.lsl_top.proofs.Pieces.{begun-more, begun-one, begun-then, whole-none, whole-one, whole-then}
use Rattle.lsl_top.proofs.Trips.{went-none, went-then}
use Rattle.lsl_top.proofs.Written.{rose-later}

-- the step at a place is the first of those that are left
pub step-here : (steps : List Step) (place : ℕ) (step : Step) → place < length steps → step ≡ get_or steps place step
    → drop place steps ≡ step ∷ drop (place + 1) steps
step-here steps place step lt is =
    drop_more steps place step lt ∙ ap (λ (s : Step). s ∷ drop (place + 1) steps) (sym is)

-- a step that can be done in a world can be done in one that has cards only if that has, and the same regions
pub can-hand : (old new : Memory) (step : Step) → new.regions ≡ old.regions → (old.cards ≡ None → new.cards ≡ None)
    → CanHand old step → CanHand new step
can-hand old new step same still can = λ cards some.
    subst (λ (regions : List (List ℕ)). LeadsToNamed regions step) (sym same) (go old.cards refl cards some)
  where
    go : (o : Option (List (List Card))) → old.cards ≡ o → (cards : List (List Card)) → new.cards ≡ Some cards
        → LeadsToNamed old.regions step
    go None e cards some = absurd (let no = sym (still e) ∙ some in cc)
    go (Some were) e cards some = can were e

module _ (codes : List Code) (r : Rules) (regions : List (List ℕ)) (stage : Stage) where
  value-none : (trips : List Trip) → (travel_from codes r regions [] trips stage).value ≡ stage
  unfolding travel_from
  value-none trips = refl

  pieces-none : (trips : List Trip) → stage_pieces codes r regions [] trips stage ≡ []
  unfolding stage_pieces
  pieces-none trips = refl

  pub value-one : (step : Step) (trips : List Trip) → (travel_from codes r regions (step ∷ []) trips stage).value
      ≡ (goes codes r regions step stage trips).told.value
  unfolding travel_from
  value-one step trips = refl

  pub pieces-one : (step : Step) (trips : List Trip)
      → stage_pieces codes r regions (step ∷ []) trips stage ≡ stage_piece codes r regions step trips stage ∷ []
  unfolding stage_pieces
  pieces-one step trips = refl

  pieces-first : (step : Step) (rest : List Step) (trips : List Trip)
      → stage_pieces codes r regions (step ∷ rest) trips stage
      ≡ (stage_piece codes r regions step trips stage ∷ [])
      ++ stage_pieces codes r regions rest (goes codes r regions step stage trips).behind
      (goes codes r regions step stage trips).told.value
  unfolding stage_pieces
  pieces-first step rest trips = refl

  -- where a step made its trips, and others follow
  module _ (step : Step) (rest : List Step) (ts us : List Trip)
      (sent : sent_of ts ≡ (goes codes r regions step stage ts).sent) where
    abbrev first_gone : Gone
    first_gone = goes codes r regions step stage ts

    as_gone : Gone → List Piece
    as_gone gone =
        (record { lines = lines_of gone.told.entries; sent = gone.sent } ∷ [])
        ++ stage_pieces codes r regions rest gone.behind gone.told.value

    pub pieces-then : stage_pieces codes r regions (step ∷ rest) (ts ++ us) stage
        ≡ (stage_piece codes r regions step ts stage ∷ [])
        ++ stage_pieces codes r regions rest us first_gone.told.value
    unfolding as_gone
    pieces-then =
        pieces-first step rest (ts ++ us)
        ∙ ap (λ (gone : Gone). as_gone gone) (gone-then codes r regions step stage ts us sent)

    pub value-then : (travel_from codes r regions (step ∷ rest) (ts ++ us) stage).value
        ≡ (travel_from codes r regions rest us first_gone.told.value).value
    unfolding travel_from
    value-then =
        ap (λ (gone : Gone). (travel_from codes r regions rest gone.behind gone.told.value).value)
        (gone-then codes r regions step stage ts us sent)

module _ (gives : List ℕ → Option (List ℕ) → Type 0) (codes : List Code) (regions : List (List ℕ)) where
  -- nothing is left to do
  pub goes-none : {T : Type 0} (t : T) (steps : List Step) (IsNow : List Program → Stage → Type 0) (a : Log) (p : Wire)
      → steps ≡ [] → Goes gives codes regions IsNow IsNow steps a a p p (OkResult t)
  goes-none t steps IsNow a p none = rw none (record {
    trips = [];
    went = went-none gives p.told;
    runs = λ programs stage is fair. record {
      value = subst (IsNow programs) (sym (value-none codes (rules_of programs) regions stage [])) is;
      whole = subst (λ (z : List Piece). IsWhole z [] a.sunk a.sunk)
          (sym (pieces-none codes (rules_of programs) regions stage [])) (whole-none a.sunk);
    };
    counted = omega arith;
    links_counted = omega arith;
    cause = λ f. absurd (cc);
  })

  module _ (step : Step) (IsThen IsNow : List Program → Stage → Type 0) (a : Log) (p q : Wire) (trips : List Trip)
      (went : Went gives p.told q.told trips) (linked : p.faults ≤ q.faults) where
    -- a step ran out of memory
    pub goes-memory : {T U E : Type 0} (e : E) (old new : List Entry)
        → ((programs : List Program) (stage : Stage) → IsThen programs stage
        → IsFairFrom stage trips → DoesAt {T = U} codes (rules_of programs) regions
        (IsNow programs) step stage trips old new (Err e))
        → Goes {T = T} gives codes regions IsThen IsNow (step ∷ []) a a p q (Err NoMemory)
    goes-memory e old new does = record {
      trips = trips;
      went = went;
      runs = λ programs stage is fair. (
        0,
        record {
          begun = subst (λ (z : List Piece). IsBegunAt 0 z trips a.sunk a.sunk)
              (sym (pieces-one codes (rules_of programs) regions stage step trips))
              (begun-lacks programs stage (does programs stage is fair).sent);
          last = λ f. absurd (cc);
        },
      );
      counted = omega arith;
      links_counted = linked;
      cause = λ f. absurd (cc);
    }
      where
        begun-lacks : (programs : List Program) (stage : Stage)
            → Begins (sent_of trips) (goes codes (rules_of programs) regions step stage trips).sent
            → IsBegunAt 0 (stage_piece codes (rules_of programs) regions step trips stage ∷ []) trips a.sunk a.sunk
        begun-lacks programs stage sent =
            let piece = stage_piece codes (rules_of programs) regions step trips stage in
            begun-one piece piece.lines trips a.sunk a.sunk refl sent
            (record { added = []; grew = grew-none a.sunk; begins = begins-none piece.lines })

    -- a step was done, and these were its entries, whose lines were to be written
    pub goes-written : {T U E : Type 0} (u : U) (before entries these : List Entry) (b : Log) (r : Result T Trouble)
        → before ≡ [] → these ≡ entries
        → ((programs : List Program) (stage : Stage) → IsThen programs stage
        → IsFairFrom stage trips → DoesAt {E = E} codes (rules_of programs) regions
        (IsNow programs) step stage trips before entries (OkResult u))
        → Writes (lines_of these) a b r → Goes gives codes regions IsThen IsNow (step ∷ []) a b p q r
    goes-written {T = T} u before entries these b r none are does written = record {
      trips = trips;
      went = went;
      runs = λ programs stage is fair.
          let d = does programs stage is fair in
          let told = d.tells in
          written-at r programs stage told.0
          (ap lines_of (are ∙ told.1
          ∙ ap (λ (es : List Entry). es ++
          (goes codes (rules_of programs) regions step stage trips).told.entries) none))
          d.sent written;
      counted = written.counted;
      links_counted = linked;
      cause = written.cause;
    }
      where
        written-at : (r : Result T Trouble) (programs : List Program) (stage : Stage)
            → IsNow programs (goes codes (rules_of programs) regions step stage trips).told.value
            → lines_of these ≡ lines_of (goes codes (rules_of programs) regions step stage trips).told.entries
            → sent_of trips ≡ (goes codes (rules_of programs) regions step stage trips).sent
            → Writes (lines_of these) a b r
            → Runs codes (rules_of programs) regions (IsNow programs) (step ∷ []) stage trips a.sunk b.sunk r
        written-at (OkResult t) programs stage is same sent written = record {
          value = subst (IsNow programs) (sym (value-one codes (rules_of programs) regions stage step trips)) is;
          whole = subst (λ (z : List Piece). IsWhole z trips a.sunk b.sunk)
              (sym (pieces-one codes (rules_of programs) regions stage step trips))
              (whole-one (stage_piece codes (rules_of programs) regions step trips stage)
              (lines_of these) trips a.sunk b.sunk
              same sent written.ok);
        }
        written-at (Err e) programs stage is same sent written = (
          0,
          record {
            begun = subst (λ (z : List Piece). IsBegunAt 0 z trips a.sunk b.sunk)
                (sym (pieces-one codes (rules_of programs) regions stage step trips))
                (begun-one (stage_piece codes (rules_of programs) regions step trips stage)
                (lines_of these) trips a.sunk b.sunk same
                (record { others = []; whole = append-nil (sent_of trips) ∙ sent }) written.part);
            last = λ f. record {
              there = (goes codes (rules_of programs) regions step stage trips).told.value;
              now = is;
              left = [];
              few = omega arith;
              leads = value-none codes (rules_of programs) regions
                  (goes codes (rules_of programs) regions step stage trips).told.value []
                  ∙ sym (value-one codes (rules_of programs) regions stage step trips);
            };
          },
        )

  -- a step stopped, whatever was left to do after it
  pub goes-stop : {T : Type 0} (step : Step) (rest steps : List Step) (IsThen IsNow : List Program → Stage → Type 0)
      (a b : Log) (p q : Wire) (e : Trouble) → steps ≡ step ∷ rest
      → Goes {T = T} gives codes regions IsThen IsNow (step ∷ []) a b p q (Err e)
      → Goes {T = T} gives codes regions IsThen IsNow steps a b p q (Err e)
  goes-stop {T = T} step rest steps IsThen IsNow a b p q e are one = rw are (record {
    trips = one.trips;
    went = one.went;
    runs = λ programs stage is fair.
        let (n, stopped) = one.runs programs stage is fair in
        (n, stops programs stage n stopped);
    counted = one.counted;
    links_counted = one.links_counted;
    cause = one.cause;
  })
    where
      stops : (programs : List Program) (stage : Stage) (n : ℕ)
          → StoppedAt {T = T} n codes (rules_of programs) regions (IsNow programs)
          (step ∷ []) stage one.trips a.sunk b.sunk (Err e)
          → StoppedAt {T = T} n codes (rules_of programs) regions (IsNow programs)
          (step ∷ rest) stage one.trips a.sunk b.sunk (Err e)
      stops programs stage n s =
          let r = rules_of programs in
          let first = subst (λ (z : List Piece). IsBegunAt n z one.trips a.sunk b.sunk)
          (pieces-one codes r regions stage step one.trips) s.begun in
          let within = first.within in
          let none : n ≡ 0 = omega arith in
          record {
            begun = subst (λ (z : List Piece). IsBegunAt n z one.trips a.sunk b.sunk)
                (sym (pieces-first codes r regions stage step rest one.trips))
                (begun-more n (stage_piece codes r regions step one.trips stage ∷ [])
                (stage_pieces codes r regions rest (goes codes r regions step stage one.trips).behind
                (goes codes r regions step stage one.trips).told.value) one.trips a.sunk
                b.sunk first);
            last = λ f.
                subst (λ (m : ℕ). IsWithin codes r regions (IsNow programs)
                (travel_from codes r regions (take (suc m) (step ∷ rest)) one.trips stage).value) (sym none)
                (subst (λ (m : ℕ). IsWithin codes r regions (IsNow programs)
                (travel_from codes r regions (take (suc m) (step ∷ [])) one.trips stage).value) none
                (s.last f));
          }

  -- a step was done, and then all that is left, or as far as that went
  pub goes-then : {T U : Type 0} (u : U) (step : Step) (rest steps : List Step)
      (IsThen IsNow IsLast : List Program → Stage → Type 0) (a b c : Log) (p q s : Wire) (result : Result T Trouble)
      → steps ≡ step ∷ rest → Goes gives codes regions IsThen IsNow (step ∷ []) a b p q (OkResult u)
      → Goes gives codes regions IsNow IsLast rest b c q s result
      → Goes gives codes regions IsThen IsLast steps a c p s result
  goes-then {T = T} u step rest steps IsThen IsNow IsLast a b c p q s result are one others = rw are (record {
    trips = one.trips ++ others.trips;
    went = went-then gives p.told q.told s.told one.trips others.trips one.went others.went;
    runs = λ programs stage is fair.
        let r = rules_of programs in
        let d = one.runs programs stage is (fair-first stage one.trips others.trips fair) in
        let whole = subst (λ (z : List Piece). IsWhole z one.trips a.sunk b.sunk)
        (pieces-one codes r regions stage step one.trips) d.whole in
        let sent = whole.sent ∙ append-nil (goes codes r regions step stage one.trips).sent in
        runs result programs stage whole
        (others.runs programs (goes codes r regions step stage one.trips).told.value
        (subst (IsNow programs) (value-one codes r regions stage step one.trips) d.value)
        (fair-second codes r regions step stage one.trips others.trips sent fair));
    counted = let le = one.counted in let more = others.counted in omega arith;
    links_counted = let le = one.links_counted in let more = others.links_counted in omega arith;
    cause = λ f. rose-later a.faults b.faults c.faults one.counted others.counted (others.cause f);
  })
    where
      runs : (result : Result T Trouble) (programs : List Program) (stage : Stage)
          → IsWhole (stage_piece codes (rules_of programs) regions step one.trips stage ∷ []) one.trips a.sunk b.sunk
          → Runs codes (rules_of programs) regions (IsLast programs) rest
          (goes codes (rules_of programs) regions step stage one.trips).told.value others.trips b.sunk c.sunk result
          → Runs codes (rules_of programs) regions (IsLast programs) (step ∷ rest) stage
          (one.trips ++ others.trips) a.sunk
          c.sunk
          result
      runs (OkResult t) programs stage whole d =
          let r = rules_of programs in
          let sent = whole.sent ∙ append-nil (goes codes r regions step stage one.trips).sent in
          let first = stage_piece codes r regions step one.trips stage ∷ [] in
          let second = stage_pieces codes r regions rest others.trips
          (goes codes r regions step stage one.trips).told.value in
          record {
            value = subst (IsLast programs)
                (sym (value-then codes r regions stage step rest one.trips others.trips sent)) d.value;
            whole = subst (λ (z : List Piece). IsWhole z (one.trips ++ others.trips) a.sunk c.sunk)
                (sym (pieces-then codes r regions stage step rest one.trips others.trips sent))
                (whole-then first second one.trips others.trips a.sunk b.sunk c.sunk whole d.whole);
          }
      runs (Err e) programs stage whole (n, s) =
          let r = rules_of programs in
          let sent = whole.sent ∙ append-nil (goes codes r regions step stage one.trips).sent in
          let first = stage_piece codes r regions step one.trips stage ∷ [] in
          let second = stage_pieces codes r regions rest others.trips
          (goes codes r regions step stage one.trips).told.value in
          let next : suc (suc n) ≡ suc (length first + n) = omega arith in (
            length first + n,
            record {
              begun = subst (λ (z : List Piece). IsBegunAt (length first + n) z (one.trips ++ others.trips) a.sunk
                  c.sunk)
                  (sym (pieces-then codes r regions stage step rest one.trips others.trips sent))
                  (begun-then first second one.trips others.trips a.sunk b.sunk c.sunk whole n s.begun);
              last = λ f.
                  subst (λ (m : ℕ). IsWithin codes r regions (IsLast programs)
                  (travel_from codes r regions (take m (step ∷ rest)) (one.trips ++ others.trips) stage).value)
                  next
                  (subst (λ (s : Stage). IsWithin codes r regions (IsLast programs) s)
                  (sym (value-then codes r regions stage step (take (suc n) rest) one.trips others.trips sent))
                  (s.last f));
            },
          )

  pub goes-of : {T : Type 0} (done steps : List Step) (IsThen IsNow : List Program → Stage → Type 0) (a b : Log)
      (p q : Wire) (result : Result T Trouble) → done ≡ steps
      → Goes gives codes regions IsThen IsNow done a b p q result
      → Goes gives codes regions IsThen IsNow steps a b p q result
  goes-of done steps IsThen IsNow a b p q result are goes =
      subst (λ (ss : List Step). Goes gives codes regions IsThen IsNow ss a b p q result) are goes

-- by the same code, and among the same regions
pub goes-units : {T : Type 0} (gives : List ℕ → Option (List ℕ) → Type 0) (codes others : List Code)
    (regions named : List (List ℕ)) (steps : List Step) (IsThen IsNow : List Program → Stage → Type 0) (a b : Log)
    (p q : Wire) (result : Result T Trouble) → codes ≡ others → regions ≡ named
    → Goes gives codes regions IsThen IsNow steps a b p q result
    → Goes gives others named IsThen IsNow steps a b p q result
goes-units {T = T} gives codes others regions named steps IsThen IsNow a b p q result same alike goes =
    subst (λ (places : List (List ℕ)). Goes {T = T} gives others places IsThen IsNow steps a b p q result) alike
    (subst (λ (units : List Code). Goes {T = T} gives units regions IsThen IsNow steps a b p q result) same goes)
