use Rattle.std.proofs.Common.{◌≡◌, ◌-◌, Some, slice_get}
use Rattle.lsl_code.specs.Weaves.{bodies_of}
use Rattle.lsl_code.specs.WovenBodies.{woven_body}
use Rattle.lsl_machine.specs.CallsSaved.{call_of, low_of}
use Rattle.lsl_machine.proofs.Keeping.{IsSealing}
use Rattle.lsl_machine.proofs.saving.Saver.seal.Given as goal

-- the call is on its way to its frame
abbrev pub invariant-loop-i : goal.invariant-loop-i
invariant-loop-i l = record {
  found : slice_get (bodies_of l.unit) l.fn.self.active.function ≡ Some (woven_body l.function);
  way : IsSealing (bodies_of l.unit) (woven_body l.function) (call_of l.fn.self) (low_of l.fn.self) (l.end - l.i)
      l.self;
  frames : l.self.pack.frames ≡ l.fn.self.pack.frames;
}
