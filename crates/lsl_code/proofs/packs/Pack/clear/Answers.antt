use Rattle.lsl_code.proofs.Packing.{cleared_ends, cleared_view}
use Rattle.lsl_code.proofs.packs.Pack.clear.Goals as goal

pub invariant_of-self : goal.invariant_of-self
invariant_of-self c =
    cleared_ends c.self.inside.marks.items c.self.inside.start c.self.inside.values.items c.args.self.now
    c.self.invariant.0 c.self.invariant.1 c.self.view_is c.cut.new.values.items c.cut.ensures

pub returns : goal.returns
returns c =
    cleared_view c.self.inside.marks.items c.self.inside.start c.self.inside.values.items c.args.self.now
    c.self.invariant.0 c.self.invariant.1 c.self.view_is c.cut.new.values.items c.cut.ensures
