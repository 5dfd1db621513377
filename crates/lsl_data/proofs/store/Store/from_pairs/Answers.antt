use Rattle.std.proofs.Common.{◌∙◌, ap, sym, length, take, arith}
use Rattle.std.proofs.lemmas.Iterator.Adapters.{YieldsList-from_vec}
use Rattle.std.proofs.lemmas.Iterator.Consumers.{YieldsList-turn, YieldsList-end}
use Rattle.std.proofs.lemmas.List.{length_push, take_all}
use Rattle.lsl_data.proofs.Keeping.{more-is, store-more}
use Rattle.lsl_data.proofs.store.Store.from_pairs.Goals as goal

pub push-requires : goal.push-requires
push-requires c =
    let t = YieldsList-turn (YieldsList-from_vec {s = c.into_iter-pair-iterator.result} c.args.pairs (cc) (cc))
    c.loop-pair.yielded c.loop-pair.pair-iterator
    c.loop-pair.yielded_by c.next.result c.next.new.self c.in-Some.pair c.in-Some.is c.next.ensures.steps in
    store-more c.args.pairs c.loop-pair.store
    (length c.loop-pair.yielded) c.in-Some.pair c.requires c.loop-pair.invariant t

pub loop-pair-preserved : goal.loop-pair-preserved
loop-pair-preserved c =
    let t = YieldsList-turn (YieldsList-from_vec {s = c.into_iter-pair-iterator.result} c.args.pairs (cc) (cc))
    c.loop-pair.yielded c.loop-pair.pair-iterator
    c.loop-pair.yielded_by c.next.result c.next.new.self c.in-Some.pair c.in-Some.is c.next.ensures.steps in
    c.in_ok-push.ensures ∙ more-is c.args.pairs c.loop-pair.store
    (length c.loop-pair.yielded) c.in-Some.pair c.loop-pair.invariant t
    ∙ ap (λ k. take k c.args.pairs) (sym (length_push c.loop-pair.yielded c.in-Some.pair))

pub returns : goal.returns
returns c =
    let t = YieldsList-end (YieldsList-from_vec {s = c.into_iter-pair-iterator.result} c.args.pairs (cc) (cc))
    c.loop-pair.yielded c.loop-pair.pair-iterator
    c.loop-pair.yielded_by c.next.result c.next.new.self c.in-None.is c.next.ensures.steps in
    c.loop-pair.invariant ∙ take_all (length c.loop-pair.yielded) c.args.pairs (omega (arith, t.1))
