use Rattle.std.proofs.Common.{arith, []}
use Rattle.lsl_machine.specs.State.{bodies_of}
use Rattle.lsl_machine.proofs.Moving.{held_holds}
use Rattle.lsl_machine.specs.Laid.{machine_of}
use Rattle.lsl_machine.proofs.Chained.{chain_passed}
use Rattle.lsl_machine.proofs.Ticking.{behind_it, behind_held, behind_kinded, tick_passed, place_small}
use Rattle.lsl_machine.proofs.running.Running.pass_tick.Goals as goal

pub overflow_add-self : goal.overflow_add-self
overflow_add-self c = let p = place_small c.args.unit.now c.args.self.now c.requires.laid c.requires.of.0 in omega
    arith

pub returns-clause-held : goal.returns-clause-held
returns-clause-held c = held_holds _ (behind_held c.args.self.now c.requires.laid)

pub returns-clause-kinded : goal.returns-clause-kinded
returns-clause-kinded c = behind_kinded c.args.unit.now c.args.self.now c.requires.of.1.0 c.requires.laid
    c.requires.of.0 c.requires.of.1.1

pub returns-clause-passed : goal.returns-clause-passed
returns-clause-passed c a = tick_passed (bodies_of c.args.unit.now) c.args.self.now c.requires.of.1.0
    c.requires.laid c.requires.of.1.1 a

pub returns-clause-chained : goal.returns-clause-chained
returns-clause-chained c handler chain =
    chain_passed (bodies_of c.args.unit.now) handler (machine_of c.args.self.now)
    (machine_of (behind_it c.args.self.now))
    (tick_passed (bodies_of c.args.unit.now) c.args.self.now c.requires.of.1.0 c.requires.laid c.requires.of.1.1 [])
    chain
