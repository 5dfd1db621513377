use Rattle.lsl_code.proofs.Packing.{unpacked_ends, unpacked_view}
use Rattle.lsl_code.proofs.packs.Pack.unpack.Goals as goal

pub invariant_of-self-2 : goal.invariant_of-self-2
invariant_of-self-2 c =
    unpacked_ends c.self.inside.marks.items c.self.inside.start c.self.inside.values.items c.args.self.now
    c.self.invariant.0 c.self.invariant.1 c.self.view_is c.pop.new.self.items c.in_ok-mark.mark
    c.cut.new.values.items c.as_slice.result.now c.end_of-self-inside.result c.in_ok-mark.ensures.items c.cut.ensures
    c.as_slice.ensures.value c.end_of-self-inside.ensures

pub returns : goal.returns
returns c =
    unpacked_view c.self.inside.marks.items c.self.inside.start c.self.inside.values.items c.args.self.now
    c.self.invariant.0 c.self.invariant.1 c.self.view_is c.pop.new.self.items c.in_ok-mark.mark
    c.cut.new.values.items c.as_slice.result.now c.end_of-self-inside.result c.in_ok-mark.ensures.items c.cut.ensures
    c.as_slice.ensures.value c.end_of-self-inside.ensures
