use Rattle.std.proofs.Common.{◌≡◌, ◌+◌, ◌<◌, MatchOption, ℕ, sym, subst, Option}
use Rattle.lsl_code.specs.Frames.{parked_charge}
use Rattle.lsl_code.specs.Laid.{frame_laid}
use Rattle.lsl_code.proofs.Spending.{spent_more, spent_over}
use Rattle.lsl_code.proofs.checking.spent.Goals as goal

pub returns-in_err-left-3 : goal.returns-in_err-left-3
returns-in_err-left-3 c =
    let charge = parked_charge c.args.globals.now c.args.sack.now in
    subst (λ (r : Option ℕ). MatchOption r (c.args.limit < charge) (λ left. left + charge ≡ c.args.limit))
    (sym c.from_residual-in_err-left-3.ensures)
    (spent_over c.args.globals.now c.args.sack.now c.loop-i.i (frame_laid c.call.result) c.call.ensures c.args.limit
    c.loop-i.left c.loop-i.invariant c.in_err-left-3.ensures)

pub loop-i-preserved : goal.loop-i-preserved
loop-i-preserved c =
    spent_more c.args.globals.now c.args.sack.now c.loop-i.i (frame_laid c.call.result) c.call.ensures c.args.limit
    c.loop-i.left c.in_ok-left-3.left c.loop-i.invariant c.in_ok-left-3.ensures
