use Rattle.std.proofs.Common.{◌∙◌, ap, List, drop}
use Rattle.lsl_value.specs.declared.tagged.Kind.{Kind}
use Rattle.std.proofs.lemmas.List.{drop-drop}
use Rattle.lsl_compact.specs.Stacks.{stack_of}
use Rattle.lsl_compact.proofs.stacks.lowered.Goals as goal

pub loop-i-preserved : goal.loop-i-preserved
loop-i-preserved c = record {
  stack = c.below_top-top.ensures.stack ∙ ap (λ (s : List Kind). drop 1 s) c.loop-i.invariant.stack
      ∙ drop-drop 1 c.loop-i.i (stack_of c.args.links.now c.args.top);
  top = c.below_top-top.ensures.top;
}
