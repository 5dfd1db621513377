use Rattle.std.proofs.Common.{◌≡◌, ◌∙◌, sym, get_or, rules}
use Rattle.lsl_value.specs.declared.tagged.Kind.TheVariants as kind
use Rattle.lsl_code.proofs.Kinding.{kinds_on}
use Rattle.lsl_code.proofs.checking.have_kinds.Goals as goal

pub loop-i-preserved : goal.loop-i-preserved
loop-i-preserved c =
    let same : c.kind.result ≡ get_or c.args.kinds.now c.loop-i.i kind.Int = search rules in
    kinds_on c.args.values.now c.args.kinds.now c.loop-i.i c.index-values-i.result kind.Int _
    c.if-values-kinds.false c.loop-i-test.true c.index-values-i.is (sym c.kind.ensures ∙ same) c.loop-i.invariant
