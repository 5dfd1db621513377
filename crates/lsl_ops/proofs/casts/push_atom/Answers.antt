use Rattle.std.proofs.lemmas.Result.{on_ok_weaker}
use Rattle.lsl_value.specs.Atoms.{item_charge_of}
use Rattle.lsl_ops.proofs.ChargeLemmas.{length-encodes_joined}
use Rattle.lsl_ops.proofs.casts.push_atom.Goals as goal

pub returns-clause-short : goal.returns-clause-short
returns-clause-short c =
    on_ok_weaker c.push_text-2.result (length-encodes_joined _ c.args.text.now _
    (item_charge_of c.args.atom.now) c.in_ok-text.ensures.short) c.push_text-2.ensures.ok
