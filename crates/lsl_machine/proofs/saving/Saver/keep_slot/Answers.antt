use Rattle.std.proofs.Common.{◌∙◌, refl, ap, ◌+◌, slice_set}
use Rattle.lsl_code.specs.Packs.{Packed}
use Rattle.lsl_machine.proofs.Vacating.{slot_moved}
use Rattle.lsl_machine.proofs.saving.Saver.keep_slot.Goals as goal

pub returns-clause-kept : goal.returns-clause-kept
returns-clause-kept c low m hand h =
    slot_moved c.args.self.now _ c.args.n c.replace-value.result c.index_mut.result.now c.requires
    (ap (λ w. slice_set c.args.self.now.stack.items (c.args.self.now.active.base + c.args.n) w)
    c.replace-value.ensures.after) (c.replace-value.ensures.value ∙ c.index_mut.ensures.value)
    (ap (λ (p : Packed). p.hand) c.in_ok-keep.ensures.kept) refl low m hand h

pub returns-clause-frames : goal.returns-clause-frames
returns-clause-frames c = ap (λ (p : Packed). p.frames) c.in_ok-keep.ensures.kept
