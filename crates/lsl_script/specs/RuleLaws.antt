-- The rules that units give have the laws of a meaning.
use Rattle.std.specs.Prelude.{List}
use Rattle.lsl_code.specs.declared.woven_units.Woven.{Woven as Code}
use Rattle.lsl_script.specs.Codes.{rules_of}
use Rattle.lsl_script.specs.Rules.{AreLawful}

abbrev pub RulesAreLawful : Type 0
RulesAreLawful = (codes : List Code) → AreLawful (rules_of codes)
