use Rattle.std.proofs.Common.{◌≡◌, ◌∙◌, ◌∷◌, ◌++◌, [], length, drop, nat_eq, ap, sym, arith}
use Rattle.std.specs.List.{common_prefix_len}
use Rattle.lsl_pure.proofs.ReachLemmas.{own-start}
use Rattle.lsl_pure.proofs.reaching.own_reaches.Goals as goal

pub places-init : goal.places-init
places-init c =
    let mark = c.args.mark.now in
    let items : c.push.new.self.items ≡ length mark ∷ [] =
    c.in_ok-push.ensures.items ∙ ap (λ xs. xs ++ length mark ∷ []) c.in_ok-own.ensures.items in
    let start = own-start mark c.push.new.self.items items in
    record {
      size = start.0;
      own = start.1;
      inside = omega (arith, c.new-reach.ensures.place);
      ordered = omega (arith, c.new-reach.ensures.place);
      reached =
          c.new-reach.ensures.reached
          ∙ ap (λ n. common_prefix_len nat_eq (drop n mark) mark) (sym c.new-reach.ensures.place);
    }
