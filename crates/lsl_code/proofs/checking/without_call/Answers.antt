use Rattle.std.proofs.Common.{◌≡◌, ◌+◌, arith}
use Rattle.lsl_running.specs.Charging.{call_charge}
use Rattle.lsl_code.proofs.Spending.{without_laid}
use Rattle.lsl_code.proofs.checking.without_call.Goals as goal

pub returns : goal.returns
returns c =
    let enough = c.in_ok-held.ensures in
    let held : c.in_ok-held.held + call_charge ≡ c.args.left = omega (arith, enough.0, enough.1) in
    without_laid c.args.left c.in_ok-held.held c.args.call.now.function c.args.call.now.point
    c.args.call.now.values.now c.without.result held c.without.ensures
