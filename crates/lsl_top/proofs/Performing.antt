-- A run from a world, from its steps to what is printed at its end.
use Rattle.std.proofs.Common.{◌≡◌, ℕ, ◌+◌, ◌≤◌, List, [], ◌∷◌, ◌++◌, length, Option, Result, Ok as OkResult, Err, refl, subst, arith, append-nil}
use Rattle.std.specs.Prelude.{IsErrOf, MatchResult, OnOk}
use Rattle.lsl_code.specs.declared.woven_units.Woven.{Woven as Code}
use Rattle.lsl_ports.specs.Counts.{Rose}
use Rattle.lsl_ports.specs.Trips.{Trip}
use Rattle.lsl_ports.proofs.Growth.{begins-none, begins-is}
use Rattle.lsl_tree.specs.Program.{Program}
use Rattle.lsl_lines.specs.declared.file.Step.{Step}
use Rattle.lsl_region.specs.Worlds.{World}
use Rattle.lsl_world.specs.Lossy.{Stage, travel_from}
use Rattle.lsl_world.specs.Programs.{rules_of}
use Rattle.lsl_top.specs.Goes.{Done, Goes, IsLast, Performs}
use Rattle.lsl_top.specs.Pieces.{Piece, last_piece, pieces_at, stage_pieces}
use Rattle.lsl_top.specs.Plays.{Last, Homes, Frozen, Inspected}
use Rattle.lsl_top.specs.Ports.{Log, Wire, Writes}
use Rattle.lsl_top.specs.Promise.{IsBegun, IsWhole}
use Rattle.lsl_top.specs.declared.writing.Trouble.{Trouble}
use Rattle.lsl_top.specs.declared.writing.Trouble.TheVariants.{WriteFault}
use Rattle.lsl_top.proofs.Pieces.{begun-more, begun-one, begun-then, whole-one, whole-then}
use Rattle.lsl_top.proofs.Written.{rose-later}

-- nothing is sent at the end
pub last-silent : (last : Last) (codes : List Code) (w : World) → [] ≡ (last_piece last codes w).sent
last-silent Homes codes w = refl
last-silent Frozen codes w = refl
last-silent (Inspected names) codes w = refl

module _ (gives : List ℕ → Option (List ℕ) → Type 0) (codes : List Code) (regions : List (List ℕ)) (last : Last)
    (steps : List Step) (IsThen IsNow : List Program → Stage → Type 0) where
  abbrev pieces : List Program → Stage → List Trip → List Piece
  pieces programs stage trips = pieces_at last codes (rules_of programs) regions steps trips stage

  abbrev behind : List Program → Stage → List Trip → Stage
  behind programs stage trips = (travel_from codes (rules_of programs) regions steps trips stage).value

  abbrev Then : List Program → Stage → List Trip → Type 0
  Then programs stage trips = IsLast last codes programs (behind programs stage trips).world

  -- the steps stopped
  pub performs-stopped : {T : Type 0} (a b : Log) (p q : Wire) (e : Trouble)
      → Goes {T = T} gives codes regions IsThen IsNow steps a b p q (Err e)
      → Performs {T = T} gives IsThen Then pieces a b p q (Err e)
  performs-stopped a b p q e goes = record {
    trips = goes.trips;
    went = goes.went;
    runs = λ programs stage is fair.
        let r = rules_of programs in
        let (done, stopped) = goes.runs programs stage is fair in (
          done,
          begun-more done (stage_pieces codes r regions steps goes.trips stage)
              (last_piece last codes
              (behind programs stage goes.trips).world ∷ []) goes.trips a.sunk b.sunk stopped.begun,
        );
    counted = goes.counted;
    links_counted = goes.links_counted;
    cause = goes.cause;
  }

  -- the steps were done, and then what is printed at the end was to be written
  pub performs-done : {T U : Type 0} (u : U) (a b c : Log) (p q : Wire) (result : Result T Trouble)
      → Goes gives codes regions IsThen IsNow steps a b p q (OkResult u)
      → ((programs : List Program) (stage : Stage) → IsNow programs stage
      → Writes (last_piece last codes stage.world).lines b c result)
      → ((programs : List Program) (stage : Stage) → IsNow programs stage
      → OnOk result (IsLast last codes programs stage.world))
      → b.faults ≤ c.faults → (IsErrOf result WriteFault → Rose b.faults c.faults)
      → Performs gives IsThen Then pieces a c p q result
  performs-done {T = T} u a b c p q result goes written holds counted cause = record {
    trips = goes.trips;
    went = goes.went;
    runs = λ programs stage is fair.
        let d = goes.runs programs stage is fair in
        let v = behind programs stage goes.trips in
        finished result programs stage d (written programs v d.value) (holds programs v d.value);
    counted = let le = goes.counted in omega arith;
    links_counted = goes.links_counted;
    cause = λ f. rose-later a.faults b.faults c.faults goes.counted counted (cause f);
  }
    where
      finished : (result : Result T Trouble) (programs : List Program) (stage : Stage)
          → Done codes (rules_of programs) regions (IsNow programs) steps stage goes.trips a.sunk b.sunk
          → Writes (last_piece last codes (behind programs stage goes.trips).world).lines b c result
          → OnOk result (Then programs stage goes.trips)
          → MatchResult result
          (λ _. IsWhole (pieces programs stage goes.trips) goes.trips a.sunk c.sunk × Then programs stage goes.trips)
          (λ _. IsBegun (pieces programs stage goes.trips) goes.trips a.sunk c.sunk)
      finished (OkResult t) programs stage d written holds =
          let end = last_piece last codes (behind programs stage goes.trips).world in
          let first = stage_pieces codes (rules_of programs) regions steps goes.trips stage in (
            subst (λ (z : List Trip). IsWhole (first ++ end ∷ []) z a.sunk c.sunk) (append-nil goes.trips)
                (whole-then first (end ∷ []) goes.trips [] a.sunk b.sunk c.sunk d.whole
                (whole-one end end.lines [] b.sunk c.sunk refl
                (last-silent last codes (behind programs stage goes.trips).world) written.ok)),
            holds,
          )
      finished (Err e) programs stage d written holds =
          let end = last_piece last codes (behind programs stage goes.trips).world in
          let first = stage_pieces codes (rules_of programs) regions steps goes.trips stage in
          subst (λ (z : List Trip). IsBegun (first ++ end ∷ []) z a.sunk c.sunk) (append-nil goes.trips) (
            length first + 0,
            begun-then first (end ∷ []) goes.trips [] a.sunk b.sunk c.sunk d.whole 0
                (begun-one end end.lines [] b.sunk c.sunk refl (begins-is [] [] end.sent (begins-none [])
                (last-silent last codes (behind programs stage goes.trips).world)) written.part),
          )
