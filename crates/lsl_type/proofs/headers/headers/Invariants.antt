use Rattle.std.proofs.Common.{◌≡◌, drop}
use Rattle.lsl_type.specs.Headers.{headers_of, no_headers}
use Rattle.lsl_bodies.specs.Verdict.{each_verdict}
use Rattle.lsl_type.proofs.HeaderWalks.{header_next}
use Rattle.lsl_type.proofs.headers.headers.Given as goal

abbrev pub invariant-loop-header : goal.invariant-loop-header
invariant-loop-header l = each_verdict header_next (headers_of l.headers) (drop l.header-index l.list)
    ≡ each_verdict header_next no_headers l.list
