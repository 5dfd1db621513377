-- The machine in which a handler begins.
use Rattle.std.specs.Prelude.{ℕ, ◌<◌, List, []}
use Rattle.lsl_value.specs.declared.tagged.Value.{Value}
use Rattle.lsl_running.specs.declared.ends.Fault.TheVariants.{StackHeap}
use Rattle.lsl_running.specs.declared.host.Reply.{Reply}
use Rattle.lsl_running.specs.Charging.{used, script_charge}
use Rattle.lsl_code.specs.Laws.{with_answers}
use Rattle.lsl_code.specs.Machine.{Machine, Faulted, Lost, Next, On, Halts, call_at}
use Rattle.lsl_machine.specs.declared.running.Running.{Running}
use Rattle.lsl_machine.specs.declared.standing.Standing.{Standing}
use Rattle.lsl_machine.specs.declared.standing.Standing.TheVariants as standing
use Rattle.lsl_machine.specs.Laid.{Lays}
use Rattle.lsl_machine.specs.State.{kept_with}

-- a call of this function with these slots, ready where it can be charged, and full where not
abbrev pub Begins : ℕ → List Value → ℕ → List Value → Running → Standing → Type 0
Begins f globals limit slots r standing.Ready = Lays r (kept_with globals limit) (call_at f 0 slots []) []
Begins f globals limit slots r standing.Full = limit < used script_charge slots (kept_with globals limit)
Begins f globals limit slots r s = ⊥

-- the machine can run, and isn't at a tick
abbrev pub IsReady : Standing → Type 0
IsReady standing.Ready = Unit {0}
IsReady standing.Full = Unit {0}
IsReady s = ⊥

-- what an answer led to, with these answers after it
abbrev pub went : Standing → List Reply → Machine → Next
went standing.Ready more m = On (with_answers more m)
went standing.Full more m = Halts (Faulted StackHeap)
went s more m = Halts Lost
