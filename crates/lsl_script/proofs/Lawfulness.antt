-- The rules that units give have the laws of a meaning.
use Rattle.std.proofs.Common.{Option, None, Some, slice_get}
use Rattle.lsl_code.specs.declared.woven_units.Woven.{Woven as Code}
use Rattle.lsl_code.specs.Forward.{Forward}
use Rattle.lsl_code.proofs.WholeLaws.{answers_change_nothing, ticks_change_nothing}
use Rattle.lsl_script.specs.Codes.{bodies_in}
use Rattle.lsl_script.specs.RuleLaws.{RulesAreLawful}
use Rattle.lsl_script.proofs.Units.{sound}

forward_in : (o : Option Code) → Forward (bodies_in o)
forward_in None = record {
  lands = λ f place i e. absurd cc;
  behind = λ f place i e frees. absurd cc;
  starts = λ f body e. absurd cc;
}
forward_in (Some unit) = (sound unit).forward

pub rules_are_lawful : RulesAreLawful
rules_are_lawful codes = record {
  ticks = λ code routine kept args ticks more answers uncut.
      ticks_change_nothing (bodies_in (slice_get codes code)) (forward_in (slice_get codes code)) routine kept
      args ticks
      more answers uncut;
  answers = λ code routine kept args ticks answers further silent.
      answers_change_nothing (bodies_in (slice_get codes code)) (forward_in (slice_get codes code)) routine kept args
      ticks answers further silent;
}
