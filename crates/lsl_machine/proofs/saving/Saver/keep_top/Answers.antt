use Rattle.std.proofs.Common.{refl, ap}
use Rattle.lsl_code.specs.Packs.{Packed}
use Rattle.lsl_machine.proofs.Vacating.{top_moved, top_within}
use Rattle.lsl_machine.proofs.saving.Saver.keep_top.Goals as goal

pub returns-clause-kept : goal.returns-clause-kept
returns-clause-kept c low m hand h =
    top_moved c.args.self.now _ c.in-Some.value (top_within c.args.self.now c.requires) c.in-Some.ensures.items
    (ap (λ (p : Packed). p.hand) c.in_ok-keep.ensures.kept) refl low m hand h

pub returns-clause-frames : goal.returns-clause-frames
returns-clause-frames c = ap (λ (p : Packed). p.frames) c.in_ok-keep.ensures.kept
