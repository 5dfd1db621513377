use Rattle.std.proofs.Common.{◌≡◌, ◌≤◌, sym, ap, subst, [], ◌∷◌}
use Rattle.lsl_code.specs.Wholes.{told}
use Rattle.lsl_machine.specs.Laid.{machine_of}
use Rattle.lsl_running.specs.declared.host.Reply.TheVariants as reply
use Rattle.lsl_machine.specs.State.{State, HasReserved, IsChained, IsChainedAt, Wants, IsIn, asks_ahead, asks_ahead_at, bodies_of}
use Rattle.lsl_machine.specs.Rooms.{IsReserved}
use Rattle.std.specs.Prelude.{vec_capacity}
use Rattle.lsl_machine.proofs.Reserving.{answered_reserved}
use Rattle.lsl_machine.specs.Futures.{halt_from}
use Rattle.lsl_machine.specs.Laid.{IsLaid}
use Rattle.lsl_machine.specs.declared.standing.Standing.TheVariants as standing
use Rattle.lsl_machine.proofs.Ahead.{answered_ahead}
use Rattle.lsl_machine.proofs.Answering.{runs_answered, of_answered, has_asked, ready_runs, ready_passes_none}
use Rattle.lsl_code.specs.Standing.{IsChain}
use Rattle.lsl_machine.proofs.Chained.{answered_chained, laid_charge}
use Rattle.lsl_machine.proofs.Machine.answer.Goals as goal

pub receive-self-inside-requires : goal.receive-self-inside-requires
receive-self-inside-requires c =
    let wants : Wants c.self.inside.standing c.args.value =
    subst (λ (s : State). Wants s.standing c.args.value) (sym c.self.view_is) c.requires in
    let x = has_asked c.self.inside.standing c.args.value wants in
    let laid : IsLaid c.self.inside.running (standing.Asking x.0) =
    subst (IsLaid c.self.inside.running) x.1 c.self.invariant in
    record { held = laid.0; room = laid.1 }

pub returns-clause-runs : goal.returns-clause-runs
returns-clause-runs c bodies t more =
    let wants : Wants c.self.inside.standing c.args.value =
    subst (λ (s : State). Wants s.standing c.args.value) (sym c.self.view_is) c.requires in
    let x = has_asked c.self.inside.standing c.args.value wants in
    let e = runs_answered bodies x.0 c.args.value (machine_of c.self.inside.running)
    (machine_of c.receive-self-inside.new.self) c.receive-self-inside.result t more x.2
    c.receive-self-inside.ensures.ready (c.receive-self-inside.ensures.went more) in
    subst (λ (s : State). halt_from s.standing bodies s.machine t (reply.Value c.args.value ∷ more) ≡ halt_from
    c.receive-self-inside.result bodies (machine_of c.receive-self-inside.new.self) t more) c.self.view_is
    (subst (λ z. halt_from z bodies (machine_of c.self.inside.running) t
    (reply.Value c.args.value ∷ more) ≡ halt_from
    c.receive-self-inside.result bodies (machine_of c.receive-self-inside.new.self) t more) (sym x.1) e)

pub returns-clause-whole : goal.returns-clause-whole
returns-clause-whole c bodies t more = ap (told bodies) (returns-clause-runs c bodies t more)

pub returns-clause-ready : goal.returns-clause-ready
returns-clause-ready c = ready_runs c.receive-self-inside.result c.receive-self-inside.ensures.ready

pub returns-clause-behind : goal.returns-clause-behind
returns-clause-behind c = ready_passes_none c.receive-self-inside.result c.receive-self-inside.ensures.ready

pub returns-clause-chained : goal.returns-clause-chained
returns-clause-chained c bodies handler old =
    let wants : Wants c.self.inside.standing c.args.value =
    subst (λ (s : State). Wants s.standing c.args.value) (sym c.self.view_is) c.requires in
    let x = has_asked c.self.inside.standing c.args.value wants in
    let chain : IsChain bodies handler (machine_of c.self.inside.running).calls =
    subst (λ z. IsChainedAt bodies handler z (machine_of c.self.inside.running)) x.1
    (subst (λ (s : State). IsChained bodies handler s) (sym c.self.view_is) old) in
    answered_chained bodies handler c.args.value (machine_of c.self.inside.running)
    (machine_of c.receive-self-inside.new.self) c.receive-self-inside.result c.receive-self-inside.ensures.ready
    (c.receive-self-inside.ensures.went []) chain

pub returns-clause-charged : goal.returns-clause-charged
returns-clause-charged c =
    laid_charge c.receive-self-inside.new.self c.receive-self-inside.result c.receive-self-inside.ensures.laid

pub returns-clause-ahead : goal.returns-clause-ahead
returns-clause-ahead c bodies =
    let wants : Wants c.self.inside.standing c.args.value =
    subst (λ (s : State). Wants s.standing c.args.value) (sym c.self.view_is) c.requires in
    let x = has_asked c.self.inside.standing c.args.value wants in
    let old = machine_of c.self.inside.running in
    let new = machine_of c.receive-self-inside.new.self in
    let s = c.receive-self-inside.result in
    subst (λ (o : State). asks_ahead_at bodies s new ≤ asks_ahead bodies o) c.self.view_is
    (subst (λ z. asks_ahead_at bodies s new ≤ asks_ahead_at bodies z old) (sym x.1)
    (answered_ahead bodies c.args.value old new s c.receive-self-inside.ensures.ready
    (c.receive-self-inside.ensures.went [])))

pub returns-clause-of : goal.returns-clause-of
returns-clause-of c unit old =
    let wants : Wants c.self.inside.standing c.args.value =
    subst (λ (s : State). Wants s.standing c.args.value) (sym c.self.view_is) c.requires in
    let x = has_asked c.self.inside.standing c.args.value wants in
    let k : IsIn unit (standing.Asking x.0) (machine_of c.self.inside.running) =
    subst (λ z. IsIn unit z (machine_of c.self.inside.running)) x.1
    (subst (λ (s : State). IsIn unit s.standing s.machine) (sym c.self.view_is) old.0) in
    let bodies = bodies_of unit in
    let room : IsReserved bodies (vec_capacity c.self.inside.running.stack) (machine_of c.self.inside.running).calls =
    subst (λ z. HasReserved bodies z (vec_capacity c.self.inside.running.stack) (machine_of c.self.inside.running)) x.1
    (subst (λ (s : State). HasReserved bodies s.standing s.room s.machine) (sym c.self.view_is) old.1) in (
      of_answered unit x.0 c.args.value (machine_of c.self.inside.running)
          (machine_of c.receive-self-inside.new.self) c.receive-self-inside.result x.2
          c.receive-self-inside.ensures.ready (c.receive-self-inside.ensures.went []) k,
      answered_reserved bodies c.args.value (machine_of c.self.inside.running)
          (machine_of c.receive-self-inside.new.self) c.receive-self-inside.result
          (vec_capacity c.self.inside.running.stack) (vec_capacity c.receive-self-inside.new.self.stack)
          c.receive-self-inside.ensures.ready (c.receive-self-inside.ensures.went []) room
          c.receive-self-inside.ensures.room,
      (old.2.0, returns-clause-chained c bodies old.2.0 old.2.1),
    )
