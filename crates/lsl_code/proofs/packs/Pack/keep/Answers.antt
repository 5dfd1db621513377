use Rattle.lsl_code.proofs.Packing.{kept_view, on_ok}
use Rattle.lsl_code.proofs.packs.Pack.keep.Goals as goal

pub returns-clause-kept : goal.returns-clause-kept
returns-clause-kept c =
    on_ok c.put.result
    (λ is. kept_view c.self.inside.marks.items c.self.inside.start c.self.inside.values.items c.args.self.now
    c.self.invariant.0 c.self.invariant.1 c.self.view_is c.put.new.list.items c.args.value is) c.put.ensures.ok
