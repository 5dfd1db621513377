use Rattle.std.proofs.Common.{◌∙◌, None, drop, nat_eq, length, get_or, ap, arith, refl, ◌<◌}
use Rattle.std.proofs.lemmas.List.Sums.{common_prefix_len-le}
use Rattle.lsl_pure.specs.Firsts.{noted}
use Rattle.lsl_pure.proofs.FirstLemmas.{noted-more}
use Rattle.lsl_pure.proofs.ReachLemmas.{reach-stands}
use Rattle.lsl_pure.proofs.firsts.note_long.Goals as goal

pub go-len-requires-clause-covered : goal.go-len-requires-clause-covered
go-len-requires-clause-covered c =
    let short = common_prefix_len-le nat_eq (drop c.places.reach.place c.args.text.now) c.args.mark.now in
    λ past. omega (arith, past, c.places.invariant.reached, short.1, c.requires.each)

pub places-preserved : goal.places-preserved
places-preserved c =
    let rest = drop c.places.at c.args.text.now in
    let stands = ap (λ n. nat_eq n (length c.args.mark.now)) c.go-len.ensures.value ∙ reach-stands rest c.args.mark.now in
    let low : c.places.at < length c.places.firsts = omega (arith, c.requires.size, c.places.auto.firsts) in
    record {
      noted =
          noted-more c.args.mark.now c.args.number c.args.text.now c.args.firsts.now c.places.firsts c.places.at
          (get_or c.places.firsts c.places.at None) c.noted.result low c.places.invariant.noted refl
          (c.noted.ensures
          ∙ ap (λ b. noted (get_or c.places.firsts c.places.at None) b c.args.number) stands);
      ordered = omega (arith, c.go-len.ensures.ordered);
      reached = c.go-len.ensures.reached;
    }
