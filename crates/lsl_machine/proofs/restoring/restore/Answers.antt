use Rattle.std.proofs.Common.{◌≡◌, subst, arith, ◌+◌, ◌-◌, Result, OnErr, Ok, Err}
use Rattle.std.specs.Prelude.{IfSome}
use Rattle.lsl_code.specs.Weaves.{bodies_of}
use Rattle.lsl_machine.specs.CallsRestored.{IsRestored}
use Rattle.lsl_machine.specs.Layouts.{IsLayout}
use Rattle.lsl_machine.proofs.AtOnce.{counts, restored}
use Rattle.lsl_machine.proofs.restoring.restore.Goals as goal

on_err_all : {T E : Type 0} (r : Result T E) {P : Type 0} → P → OnErr r P
on_err_all (Ok x) p = tt
on_err_all (Err e) p = p

pub of-requires : goal.of-requires
of-requires c = c.new.ensures.items

pub returns-in_err-layout-clause-lacking : goal.returns-in_err-layout-clause-lacking
returns-in_err-layout-clause-lacking c = on_err_all c.from_residual.result (λ m n run. omega arith)

pub into_running-requires : goal.into_running-requires
into_running-requires c =
    let x : IsLayout (bodies_of c.args.unit.now) c.args.handler c.args.sack c.in-Some.layout =
    subst (λ o. IfSome o (IsLayout (bodies_of c.args.unit.now) c.args.handler c.args.sack)) c.in-Some.is
    c.in_ok-layout.ensures in
    x.room

pub returns-in_err-running-in-Some-clause-lacking : goal.returns-in_err-running-in-Some-clause-lacking
returns-in_err-running-in-Some-clause-lacking c =
    on_err_all c.from_residual-in_err-running-in-Some.result (λ m n run. omega arith)

pub overflow_add-steps : goal.overflow_add-steps
overflow_add-steps c =
    let few = counts c.args.unit.now c.args.handler c.args.sack c.args.kept c.requires.valid c.requires.limit
    c.in-Some.layout
    (subst (λ o. IfSome o (IsLayout (bodies_of c.args.unit.now) c.args.handler c.args.sack)) c.in-Some.is
    c.in_ok-layout.ensures) in
    let start = c.requires.steps in
    omega arith

pub returns-in_ok-running-in-Some-clause-restored : goal.returns-in_ok-running-in-Some-clause-restored
returns-in_ok-running-in-Some-clause-restored c =
    let count : c.in-Some.layout.steps ≡ c.args.steps.now + c.in-Some.layout.steps - c.args.steps.now = omega arith in
    subst (IsRestored (bodies_of c.args.unit.now) c.args.handler c.args.sack c.args.kept
    c.in_ok-running-in-Some.running) count
    (restored c.args.unit.now c.args.handler c.args.sack c.args.kept c.requires.valid c.requires.limit
    c.in-Some.layout
    (subst (λ o. IfSome o (IsLayout (bodies_of c.args.unit.now) c.args.handler c.args.sack)) c.in-Some.is
    c.in_ok-layout.ensures) c.in_ok-running-in-Some.running c.in_ok-running-in-Some.ensures)

pub returns-in_ok-running-in-Some-clause-counted : goal.returns-in_ok-running-in-Some-clause-counted
returns-in_ok-running-in-Some-clause-counted c = omega arith

pub restore_by_code-requires-clause-valid : goal.restore_by_code-requires-clause-valid
restore_by_code-requires-clause-valid c = c.requires.valid

pub restore_by_code-requires-clause-limit : goal.restore_by_code-requires-clause-limit
restore_by_code-requires-clause-limit c = c.requires.limit

pub restore_by_code-requires-clause-steps : goal.restore_by_code-requires-clause-steps
restore_by_code-requires-clause-steps c = c.requires.steps

pub returns-in-None-clause-restored : goal.returns-in-None-clause-restored
returns-in-None-clause-restored c = c.restore_by_code.ensures.restored

pub returns-in-None-clause-counted : goal.returns-in-None-clause-counted
returns-in-None-clause-counted c = c.restore_by_code.ensures.counted

pub returns-in-None-clause-lacking : goal.returns-in-None-clause-lacking
returns-in-None-clause-lacking c = c.restore_by_code.ensures.lacking
