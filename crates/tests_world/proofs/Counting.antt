-- The kinds before the sample's woven code, counted.
use Rattle.std.proofs.Common.{◌≡◌, ◌∙◌, ap}
use Rattle.lsl_code.specs.declared.functions.FunctionCode.{FunctionCode}
use Rattle.lsl_code.specs.declared.woven_functions.WovenCode.{WovenCode}
use Rattle.lsl_code.specs.Bodies.{Body, plain_body}
use Rattle.lsl_code.specs.ModeStacks.{restoring_of, restoring_stacks, saving_of, saving_stacks}
use Rattle.lsl_weave.specs.Layout.{woven_code, woven_stacks}
use Rattle.lsl_weave.specs.Weaving.{woven_function}
use Rattle.tests_world.specs.Counts.{counts, restoring_counts, running_counts, saving_counts}
use Rattle.tests_world.specs.Samples.{sample_body}

module _ (f : FunctionCode) (w : WovenCode) (body : plain_body f ≡ sample_body) (is : w ≡ woven_function f) where
  pub running_counted : counts w.running ≡ running_counts
  running_counted =
      ap (λ (x : WovenCode). counts x.running) is ∙ ap (λ (b : Body). counts (woven_stacks b)) body

  pub saving_counted : counts (saving_of w) ≡ saving_counts
  saving_counted =
      ap (λ (x : WovenCode). counts (saving_of x)) is
      ∙ ap (λ (b : Body). counts (saving_stacks b.slots b.points (woven_code b))) body

  pub restoring_counted : counts (restoring_of w) ≡ restoring_counts
  restoring_counted =
      ap (λ (x : WovenCode). counts (restoring_of x)) is
      ∙ ap (λ (b : Body). counts (restoring_stacks b.points (woven_code b))) body
