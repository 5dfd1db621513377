use Rattle.std.proofs.Common.{sym, ◌-◌, Result, OnErr, Ok, Err}
use Rattle.lsl_machine.specs.Laid.{machine_of}
use Rattle.lsl_machine.specs.declared.standing.Standing.TheVariants as standing
use Rattle.lsl_machine.proofs.Chained.{laid_charge}
use Rattle.lsl_machine.proofs.Moved.{few_steps, restored_chained, restored_kept, restored_of, same_calls, same_machine}
use Rattle.lsl_machine.proofs.Machine.restore.Goals as goal

on_err_all : {T E : Type 0} (r : Result T E) {P : Type 0} → P → OnErr r P
on_err_all (Ok x) p = tt
on_err_all (Err e) p = p

pub returns-in_err-running-clause-lacking : goal.returns-in_err-running-clause-lacking
returns-in_err-running-clause-lacking c =
    on_err_all c.from_residual.result (λ m n run. c.in_err-running.ensures.lacking m n run)

pub returns-clause-of : goal.returns-clause-of
returns-clause-of c =
    let run = c.in_ok-running.ensures.restored in
    restored_of c.args.unit.now c.args.handler c.args.parked.sack c.args.parked.kept c.requires.valid.0
    c.requires.globals c.in_ok-running.running (c.restore.new.steps - c.args.steps.now) run

pub returns-clause-chained : goal.returns-clause-chained
returns-clause-chained c =
    let run = c.in_ok-running.ensures.restored in
    restored_chained c.args.unit.now c.args.handler c.args.parked.sack c.args.parked.kept c.requires.valid.0
    c.requires.globals c.in_ok-running.running (c.restore.new.steps - c.args.steps.now) run

pub returns-clause-charged : goal.returns-clause-charged
returns-clause-charged c = laid_charge c.in_ok-running.running standing.AtTick c.in_ok-running.ensures.restored.held

pub returns-clause-kept : goal.returns-clause-kept
returns-clause-kept c =
    let run = c.in_ok-running.ensures.restored in
    restored_kept c.args.unit.now c.args.handler c.args.parked.sack c.args.parked.kept c.requires.valid.0
    c.requires.globals c.in_ok-running.running (c.restore.new.steps - c.args.steps.now) run

pub returns-clause-same : goal.returns-clause-same
returns-clause-same c weaves calls has =
    let run = c.in_ok-running.ensures.restored in
    same_calls c.args.unit.now weaves c.args.handler c.args.parked.sack c.args.parked.kept c.requires.valid.0
    (machine_of c.in_ok-running.running) (c.restore.new.steps - c.args.steps.now) run.ran calls has

pub returns-clause-moved : goal.returns-clause-moved
returns-clause-moved c weaves saved parked =
    let run = c.in_ok-running.ensures.restored in (
      same_machine c.args.unit.now weaves c.args.handler c.args.parked.sack c.args.parked.kept c.requires.valid.0
          (machine_of c.in_ok-running.running) (c.restore.new.steps - c.args.steps.now) run.ran saved parked,
      sym parked.stands,
    )

pub returns-clause-bound : goal.returns-clause-bound
returns-clause-bound c weaves =
    let run = c.in_ok-running.ensures.restored in
    few_steps c.args.unit.now weaves c.args.handler c.args.parked.sack c.args.parked.kept c.requires.valid.0
    (machine_of c.in_ok-running.running) (c.restore.new.steps - c.args.steps.now) run.ran
