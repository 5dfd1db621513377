use Rattle.std.proofs.Common.{refl, sym, ap, subst, ◌∙◌}
use Rattle.std.specs.Result.{IfOk}
use Rattle.lsl_seek.specs.Calls.{caller}
use Rattle.lsl_seek.specs.Leads.{IsBeside, LeadsTo}
use Rattle.lsl_seek.specs.Moments.{moment_or_nothing, moments, seen, up_to}
use Rattle.lsl_seek.specs.declared.aim.Aim.TheVariants.{Outside}
use Rattle.lsl_seek.specs.declared.moves.To.TheVariants.{Finish}
use Rattle.lsl_seek.proofs.trace.Trace.find.Goals as goal

pub returns-in-Finish : goal.returns-in-Finish
returns-in-Finish c =
    let trace = c.args.self.now in
    let it = c.args.it.now in
    let from = c.args.from in
    let here = seen c.moment-here.result in
    let found = c.beside-in-Finish.result in
    let outer = c.outer-outer.ensures ∙ ap (λ call. caller call (up_to (moments trace) from)) c.active-call-in-Finish.ensures in
    let leads = subst (λ call. IfOk found (λ n. IsBeside trace it.is_back (Outside here.line.script call) from n)) outer (c.beside-in-Finish.ensures refl) in
    subst (λ to. IfOk found (λ n. LeadsTo trace it.is_back to from (moment_or_nothing (moments trace) from) n)) (sym c.in-Finish.is)
    (subst (λ m. IfOk found (λ n. LeadsTo trace it.is_back Finish from m n)) c.moment-here.ensures leads)
