use Rattle.std.proofs.Common.{◌≤◌, List, length, sym, subst}
use Rattle.std.specs.List.{flat_map}
use Rattle.lsl_image.specs.declared.parts.Placed.{Placed}
use Rattle.lsl_view.specs.Parts.{scripts_of}
use Rattle.lsl_view.specs.StateParts.{most_scripts}
use Rattle.lsl_view.proofs.Stepping.{world-few}
use Rattle.lsl_view.proofs.standing.state.Goals as goal

pub push_objects-requires-clause-few : goal.push_objects-requires-clause-few
push_objects-requires-clause-few c =
    subst (λ (z : List Placed). length (flat_map scripts_of z) ≤ most_scripts) (sym c.as_slice.ensures)
    (world-few c.args.library.now c.args.parts.now c.requires)
