use Rattle.std.proofs.Common.{refl, inl, []}
use Rattle.std.proofs.lemmas.Result.{MatchResult-from_err}
use Rattle.lsl_handoff.proofs.GoingLemmas.{went-none}
use Rattle.lsl_handoff.proofs.handover.carry.Goals as goal

pub returns-in_err-bytes-clause-went : goal.returns-in_err-bytes-clause-went
returns-in_err-bytes-clause-went g c = (
  [],
  went-none g.L.Link.gives (g.L.Link.trips c.args.link.now),
  MatchResult-from_err c.from_residual.result _ _ c.from_residual.ensures.0 (λ y. inl refl),
)
