use Rattle.std.proofs.Common.{◌∙◌, ap, ◌++◌, ◌∷◌, [], List, reverse}
use Rattle.lsl_value.specs.declared.tagged.Value.{Value}
use Rattle.lsl_code.specs.Packs.{Packed, packed}
use Rattle.lsl_code.specs.Saving.{frame_of}
use Rattle.lsl_code.proofs.Packing.{poured_view}
use Rattle.lsl_code.proofs.packs.Pack.push.Goals as goal

pub returns-clause-pushed : goal.returns-clause-pushed
returns-clause-pushed c =
    let frame = c.args.frame in
    let poured = poured_view c.self.inside.marks.items c.self.inside.start c.self.inside.values.items
    c.clear.new.self c.self.invariant.0 c.self.invariant.1 c.self.view_is c.pour.new.to.items frame.slots
    (ap (λ (p : Packed). p.hand) c.clear.ensures)
    (c.in_ok-pour.ensures.moved
    ∙ ap (λ (l : List Value). c.self.inside.values.items ++ reverse l) c.into_vec-slots.ensures) in
    c.in_ok-seal.ensures.sealed
    ∙ ap (λ (p : Packed). packed (p.frames ++ frame_of frame.function frame.point p.hand ∷ []) []) poured
    ∙ ap (λ (p : Packed). packed (p.frames ++ frame ∷ []) []) c.clear.ensures
