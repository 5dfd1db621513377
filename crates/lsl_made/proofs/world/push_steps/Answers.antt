use Rattle.std.proofs.Common.{◌≡◌, sym, ap, ◌∙◌, arith}
use Rattle.std.proofs.lemmas.List.{append-nil}
use Rattle.lsl_made.specs.Numbers.{number_after}
use Rattle.lsl_made.proofs.WorldLines.{number_at-none, number_at-more, steps_text-none, steps_text-next, steps_text-all}
use Rattle.lsl_made.proofs.world.push_steps.Goals as goal

pub steps-init : goal.steps-init
steps-init c = record {
  at = sym (number_at-none _);
  text = rw steps_text-none (sym (append-nil _));
}

pub steps-preserved : goal.steps-preserved
steps-preserved c =
    let at = c.number_after-x.ensures.value ∙ ap number_after c.steps.invariant.at
    ∙ sym (number_at-more _ _) in record {
      at = at;
      text = steps_text-next _ c.steps.passed _ _ _ _ _ at c.of_number.ensures c.steps.invariant.text
          c.in_ok-push_line.ensures;
    }

pub returns : goal.returns
returns c = let last : c.steps.passed ≡ 4000 = omega arith in let e = steps_text-all c.args.number in cc
