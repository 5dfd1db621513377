use Rattle.std.proofs.Common.{◌≡◌, ◌∙◌, ◌+◌, ◌++◌, ◌∷◌, [], List, Err, ap, arith, subst, sum_by}
use Rattle.std.proofs.lemmas.List.Sums.{sum_by_push}
use Rattle.lsl_post.specs.declared.parts.Pair.{Pair}
use Rattle.lsl_image.specs.Object.{pair_behind, pair_bytes}
use Rattle.lsl_image.specs.Reading.{Gives, Reads}
use Rattle.lsl_image.proofs.LeadingLemmas.{leads-full, leads-more, leads-start, leads-stops}
use Rattle.lsl_image.proofs.store.read_pairs.Goals as goal

pub loop-i-init : goal.loop-i-init
loop-i-init c = record {
  left = ap (λ pairs. sum_by pair_bytes pairs + 65536) c.new-pairs.ensures;
  leads = leads-start c.args.bytes.now pair_behind c.args.count c.args.place _ c.new-pairs.ensures;
}

pub read_pair-requires : goal.read_pair-requires
read_pair-requires c = ap (λ pairs. sum_by pair_bytes pairs + c.loop-i.room) c.as_slice.ensures
    ∙ c.loop-i.invariant.left

pub loop-i-preserved : goal.loop-i-preserved
loop-i-preserved c =
    let pushed : c.push.new.self ≡ c.loop-i.pairs ++ c.in_ok-pair.pair ∷ [] = c.in_ok-push.ensures.ok in
    record {
      left = omega (
        arith,
        ap (sum_by pair_bytes) pushed ∙ sum_by_push pair_bytes c.loop-i.pairs c.in_ok-pair.pair,
        c.loop-i.invariant.left,
        c.in_ok-pair.ensures.room,
        c.length_of-room.ensures.value,
      );
      leads = leads-more pair_behind c.loop-i.pairs c.push.new.self c.args.count c.loop-i.i c.in_ok-pair.pair
          c.loop-i-test.true pushed c.loop-i.invariant.leads
          (subst (λ (ps : List Pair).
          Gives c.args.bytes.now (pair_behind ps) c.loop-i.next c.in_ok-pair.pair c.in_ok-pair.behind)
          c.as_slice.ensures c.in_ok-pair.ensures.read);
    }

pub returns-in_err-pair : goal.returns-in_err-pair
returns-in_err-pair c =
    leads-stops pair_behind c.loop-i.pairs c.args.count c.loop-i.i _ _ c.loop-i-test.true c.loop-i.invariant.leads
    (subst (λ (ps : List Pair). Reads c.args.bytes.now (pair_behind ps) c.loop-i.next (Err c.in_err-pair.field-0.0))
    c.as_slice.ensures c.in_err-pair.ensures.read) c.from_residual.ensures.1

pub returns : goal.returns
returns c = leads-full pair_behind c.loop-i.pairs c.args.count c.loop-i.i c.loop-i-test.false c.loop-i.invariant.leads
