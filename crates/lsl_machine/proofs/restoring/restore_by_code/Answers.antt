use Rattle.std.proofs.Common.{◌≡◌, sym, subst, arith, ◌+◌, ◌-◌, Result, OnErr, Ok, Err}
use Rattle.lsl_code.specs.Weaves.{bodies_of}
use Rattle.lsl_machine.specs.CallsRestored.{Backs, IsRestored}
use Rattle.lsl_machine.proofs.Returning.{begins_so, body_there, can_back, counts_on, ends, ends_within, goes_on, has_next, part_of}
use Rattle.lsl_machine.proofs.restoring.restore_by_code.Goals as goal

pub begin-requires : goal.begin-requires
begin-requires c =
    body_there c.args.unit.now c.args.handler c.args.sack c.args.kept c.requires.valid c.requires.limit

pub loop-i-init : goal.loop-i-init
loop-i-init c =
    let b = body_there c.args.unit.now c.args.handler c.args.sack c.args.kept c.requires.valid
    c.requires.limit in
    record {
      way = begins_so c.args.unit.now c.args.handler c.args.sack c.in_ok-restorer.restorer b.0 b.1
          (c.in_ok-restorer.ensures b.0 b.1);
      counted = omega arith;
    }

pub unreachable-requires : goal.unreachable-requires
unreachable-requires c =
    has_next c.args.unit.now c.args.handler c.args.sack c.args.kept c.requires.valid c.requires.limit
    c.loop-i.restorer c.loop-i.i c.loop-i.invariant.way (sym c.in_default.ensures)

pub overflow_add-steps : goal.overflow_add-steps
overflow_add-steps c =
    let few = counts_on c.args.unit.now c.args.handler c.args.sack c.args.kept c.requires.valid
    c.requires.limit c.loop-i.restorer c.loop-i.i c.loop-i.invariant.way in
    let start = c.requires.steps in
    let now = c.loop-i.invariant.counted in
    omega arith

pub back-requires : goal.back-requires
back-requires c =
    can_back c.args.unit.now c.args.handler c.args.sack c.args.kept c.requires.valid c.requires.limit
    c.loop-i.restorer c.loop-i.i c.loop-i.invariant.way c.in-Some.instr.now (sym c.in-Some.ensures)

on_err_all : {T E : Type 0} (r : Result T E) {P : Type 0} → P → OnErr r P
on_err_all (Ok x) p = tt
on_err_all (Err e) p = p

pub returns-in_err-back-clause-lacking : goal.returns-in_err-back-clause-lacking
returns-in_err-back-clause-lacking c =
    on_err_all c.from_residual-in_err-back.result
    (λ m n run.
    let le = part_of c.args.unit.now c.args.handler c.args.sack c.args.kept c.requires.valid c.requires.limit
    c.loop-i.restorer c.loop-i.i c.loop-i.invariant.way m n run in
    let now = c.loop-i.invariant.counted in
    omega arith)

pub finish-requires : goal.finish-requires
finish-requires c =
    let backs = subst (λ b. Backs (bodies_of c.args.unit.now) c.in-Some.instr.now c.loop-i.restorer b
    c.back.new.self) c.if-branch.true c.in_ok-back.ensures in
    ends_within c.args.unit.now c.args.handler c.args.sack c.args.kept c.requires.valid c.requires.limit
    c.loop-i.restorer c.loop-i.i c.loop-i.invariant.way c.in-Some.instr.now (sym c.in-Some.ensures) c.back.new.self
    backs

pub returns-then-branch-clause-restored : goal.returns-then-branch-clause-restored
returns-then-branch-clause-restored c =
    let backs = subst (λ b. Backs (bodies_of c.args.unit.now) c.in-Some.instr.now c.loop-i.restorer b
    c.back.new.self) c.if-branch.true c.in_ok-back.ensures in
    let now = c.loop-i.invariant.counted in
    let count : c.loop-i.i + 1 ≡ c.loop-i.steps + 1 - c.args.steps.now = omega arith in
    subst (IsRestored (bodies_of c.args.unit.now) c.args.handler c.args.sack c.args.kept c.finish.result) count
    (ends c.args.unit.now c.args.handler c.args.sack c.args.kept c.requires.valid c.requires.limit
    c.loop-i.restorer c.loop-i.i c.loop-i.invariant.way c.in-Some.instr.now (sym c.in-Some.ensures) c.back.new.self
    c.finish.result backs c.finish.ensures.lays c.finish.ensures.room)

pub loop-i-preserved : goal.loop-i-preserved
loop-i-preserved c =
    let backs = subst (λ b. Backs (bodies_of c.args.unit.now) c.in-Some.instr.now c.loop-i.restorer b
    c.back.new.self) c.if-branch.false c.in_ok-back.ensures in
    let now = c.loop-i.invariant.counted in
    record {
      way = goes_on c.args.unit.now c.args.handler c.args.sack c.args.kept c.requires.valid c.requires.limit
          c.loop-i.restorer c.loop-i.i c.loop-i.invariant.way c.in-Some.instr.now (sym c.in-Some.ensures)
          c.back.new.self backs;
      counted = omega arith;
    }

pub unreachable-requires-2 : goal.unreachable-requires-2
unreachable-requires-2 c =
    let few = counts_on c.args.unit.now c.args.handler c.args.sack c.args.kept c.requires.valid
    c.requires.limit c.loop-i.restorer c.loop-i.i c.loop-i.invariant.way in
    let all = c.loop-i-test.false in
    omega arith
