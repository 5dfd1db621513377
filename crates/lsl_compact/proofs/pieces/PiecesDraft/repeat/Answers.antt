use Rattle.lsl_compact.proofs.Joining.{repeated_holds, repeated_view}
use Rattle.lsl_compact.proofs.pieces.PiecesDraft.repeat.Goals as goal

pub invariant_of-self-2 : goal.invariant_of-self-2
invariant_of-self-2 g c =
    let inside = c.self.inside in (
      c.self.invariant.0,
      repeated_holds inside.first.items inside.pool.items inside.words inside.pieces.items c.push.new.self.items
          (record { from = c.args.from; count = c.args.count }) c.args.self.now c.self.invariant.0 c.self.invariant.1
          c.in_ok-push.ensures.items c.self.view_is c.requires,
    )

pub returns-clause-repeated : goal.returns-clause-repeated
returns-clause-repeated g c =
    let inside = c.self.inside in
    repeated_view inside.first.items inside.pool.items inside.words inside.pieces.items c.push.new.self.items
    (record { from = c.args.from; count = c.args.count }) c.args.self.now c.self.invariant.0 c.self.invariant.1
    c.in_ok-push.ensures.items c.self.view_is c.requires
