use Rattle.std.proofs.Common.{rules}
use Rattle.lsl_table.proofs.ConstantLemmas.{constant_named-same}
use Rattle.lsl_table.proofs.constants.constant.Goals as goal

pub returns-in_err-id-clause-found : goal.returns-in_err-id-clause-found
returns-in_err-id-clause-found c = search rules

pub returns-in_err-id-clause-named : goal.returns-in_err-id-clause-named
returns-in_err-id-clause-named c = constant_named-same c.args.name.now _ (returns-in_err-id-clause-found c)

pub returns-then-eq-clause-found : goal.returns-then-eq-clause-found
returns-then-eq-clause-found c = search rules

pub returns-then-eq-clause-named : goal.returns-then-eq-clause-named
returns-then-eq-clause-named c = constant_named-same c.args.name.now _ (returns-then-eq-clause-found c)

pub returns-else-eq-clause-found : goal.returns-else-eq-clause-found
returns-else-eq-clause-found c = search rules

pub returns-else-eq-clause-named : goal.returns-else-eq-clause-named
returns-else-eq-clause-named c = constant_named-same c.args.name.now _ (returns-else-eq-clause-found c)
