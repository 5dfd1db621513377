use Rattle.std.proofs.Common.{◌≡◌, arith, length}
use Rattle.lsl_code.proofs.Packing.{sealed_ends, sealed_view}
use Rattle.lsl_code.proofs.packs.Pack.seal.Goals as goal

pub invariant_of-self-2 : goal.invariant_of-self-2
invariant_of-self-2 c =
    let end : c.len-end.result ≡ length c.self.inside.values.items = omega arith in (
      sealed_ends c.self.inside.marks.items c.self.inside.start c.self.inside.values.items c.args.self.now
          c.self.invariant.0 c.self.invariant.1 c.self.view_is c.put.new.list.items _ c.in_ok-put.ensures.ok end,
      omega arith,
    )

pub returns-clause-sealed : goal.returns-clause-sealed
returns-clause-sealed c =
    let end : c.len-end.result ≡ length c.self.inside.values.items = omega arith in
    sealed_view c.self.inside.marks.items c.self.inside.start c.self.inside.values.items c.args.self.now
    c.self.invariant.0 c.self.invariant.1 c.self.view_is c.put.new.list.items _ c.in_ok-put.ensures.ok end
    c.len-end.result end
