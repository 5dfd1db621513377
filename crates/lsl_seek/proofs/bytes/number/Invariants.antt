use Rattle.std.proofs.Common.{◌≡◌, ◌<◌, length}
use Rattle.lsl_seek.proofs.Numbers.{number_after}
use Rattle.lsl_seek.proofs.bytes.number.Given as goal

abbrev pub invariant-digits : goal.invariant-digits
invariant-digits l = record {
  same : number_after l.n l.rest ≡ number_after 0 l.digits;
  small : l.n < 4294967296;
}

abbrev pub decreases-digits : goal.decreases-digits
decreases-digits l = length l.rest
