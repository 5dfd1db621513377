use Rattle.std.proofs.Common.{arith, ◌<◌, length}
use Rattle.lsl_code.proofs.Packing.{taken_frames, taken_hand}
use Rattle.lsl_code.proofs.packs.Pack.take.Goals as goal

pub returns-clause-frames : goal.returns-clause-frames
returns-clause-frames c =
    let lt : c.self.inside.start < length c.self.inside.values.items = omega arith in
    taken_frames c.self.inside.marks.items c.self.inside.start c.self.inside.values.items c.args.self.now
    c.self.invariant.0 c.self.invariant.1 c.self.view_is c.pop.new.self.items lt c.pop.result c.pop.ensures.items

pub returns-clause-hand : goal.returns-clause-hand
returns-clause-hand c =
    let lt : c.self.inside.start < length c.self.inside.values.items = omega arith in
    taken_hand c.self.inside.marks.items c.self.inside.start c.self.inside.values.items c.args.self.now
    c.self.invariant.0 c.self.invariant.1 c.self.view_is c.pop.new.self.items lt c.pop.result c.pop.ensures.items
