use Rattle.std.proofs.Common.{[], sym, subst, arith}
use Rattle.std.specs.Prelude.{All}
use Rattle.std.proofs.lemmas.List.Elements.{All-cons, All-nil}
use Rattle.lsl_code.specs.Fusing.{HasNumbers}
use Rattle.tests_world.specs.Exchanged.{exchanged_code}
use Rattle.tests_world.proofs.exchanged.functions.Goals as goal

pub new-requires : goal.new-requires
new-requires c =
    let short : HasNumbers exchanged_code = omega arith in
    subst (All HasNumbers) (sym c.in_ok-listed.ensures) (All-cons HasNumbers exchanged_code [] short (All-nil HasNumbers))
