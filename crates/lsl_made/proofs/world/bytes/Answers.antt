use Rattle.lsl_made.proofs.WorldLines.{world_text-made}
use Rattle.lsl_made.proofs.world.bytes.Goals as goal

pub returns : goal.returns
returns c =
    world_text-made c.args.number _ _ _ _ _ c.new-out.ensures.items c.in_ok-push_objects.ensures
    c.in_ok-extend_from_slice.ensures.items c.in_ok-push_steps.ensures c.in_ok-extend_from_slice-2.ensures.items
