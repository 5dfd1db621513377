use Rattle.std.proofs.Common.{◌<◌, ◌-◌, ℕ, List, sym, ap, ◌∙◌, length, drop, arith}
use Rattle.lsl_bodies.proofs.NameTable.{drop-one}
use Rattle.lsl_bodies.proofs.names.Names.truncate.Goals as goal

pub loop-self-preserved : goal.loop-self-preserved
loop-self-preserved c =
    let more : c.args.len < length c.loop-self.self = omega (arith, c.len.ensures, c.loop-self-test.true) in
    ap (λ (l : List (List ℕ)). drop (length l - c.args.len) l) c.pop.ensures
    ∙ (sym (drop-one c.loop-self.self c.args.len more) ∙ c.loop-self.invariant)
