use Rattle.std.proofs.Common.{◌∙◌, ◌++◌, ap, sym}
use Rattle.std.proofs.lemmas.Result.{on_ok_weaker}
use Rattle.lsl_compact.specs.Stacks.{placing_of}
use Rattle.lsl_code.specs.declared.instructions.Instr.{Instr}
use Rattle.lsl_weave.specs.Layout.{main_stacks}
use Rattle.lsl_weave.proofs.StacksPlaced.{one_placed, one_stack, two_placed}
use Rattle.lsl_weave.proofs.stacks.place_one.Goals as goal

pub returns-in-Tick : goal.returns-in-Tick
returns-in-Tick c =
    let old = c.args.placing.now in
    on_ok_weaker c.place-in-Tick.result (λ second b gives.
    two_placed b old c.place.new.self c.place-in-Tick.new.self c.args.place gives c.in_ok-place.ensures.placed second
    ∙ ap (λ (i : Instr). placing_of old.given (old.placed ++ main_stacks b c.args.place i)) (sym c.in-Tick.is))
    c.place-in-Tick.ensures.placed

pub returns-in-Call : goal.returns-in-Call
returns-in-Call c =
    let old = c.args.placing.now in
    on_ok_weaker c.place-in-Call.result (λ second b gives.
    two_placed b old c.place.new.self c.place-in-Call.new.self c.args.place gives c.in_ok-place.ensures.placed second
    ∙ ap (λ (i : Instr). placing_of old.given (old.placed ++ main_stacks b c.args.place i)) (sym c.in-Call.is))
    c.place-in-Call.ensures.placed

pub returns-in_default : goal.returns-in_default
returns-in_default c b gives =
    let old = c.args.placing.now in
    one_placed b old c.place.new.self c.args.place gives c.in_ok-place.ensures.placed
    ∙ ap (λ l. placing_of old.given (old.placed ++ l))
    (sym (one_stack b c.args.place c.args.instr.now c.in_default.not-Tick c.in_default.not-Call))
