-- What is called.
use Rattle.std.specs.Prelude.{List}
use Rattle.lsl_value.specs.declared.tagged.Kind.{Kind}
use Rattle.lsl_bodies.specs.declared.calls.Params.{Params}
use Rattle.lsl_bodies.specs.declared.calls.Params.TheVariants.{Function, Builtin}
use Rattle.lsl_bodies.specs.declared.calls.Calling as declared
use Rattle.lsl_bodies.specs.Known.{Calling}

abbrev pub kinds_in : Params → List Kind
kinds_in (Function kinds) = kinds.now
kinds_in (Builtin kinds) = kinds

abbrev pub calling_of : declared.Calling → Calling
calling_of c = record { callee = c.callee; signature = record { params = kinds_in c.params; result = c.result } }
