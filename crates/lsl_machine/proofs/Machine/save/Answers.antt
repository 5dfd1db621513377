use Rattle.std.proofs.Common.{◌≡◌, ◌∙◌, refl, sym, ap, subst, []}
use Rattle.lsl_code.specs.Weaves.{bodies_of}
use Rattle.lsl_weave.specs.WovenCalls.{RestAtTick}
use Rattle.lsl_machine.specs.CallsSaved.{AreSaved}
use Rattle.lsl_machine.specs.State.{State, IsCharged}
use Rattle.lsl_machine.proofs.Chained.{laid_charge}
use Rattle.lsl_machine.proofs.Moved.{has_parked, parked_frames, parked_run, parked_valid, rests_at}
use Rattle.lsl_machine.proofs.Machine.save.Goals as goal

pub save-requires-clause-rests : goal.save-requires-clause-rests
save-requires-clause-rests c =
    let none : c.args.self.machine.answers ≡ [] =
    subst (λ (s : State). s.machine.answers ≡ []) c.self.view_is refl in
    let r = rests_at c.args.unit.now c.args.self none c.requires.stands c.requires.of in
    (r.0, subst (λ (s : State). RestAtTick (bodies_of c.args.unit.now) r.0 s.machine.calls) (sym c.self.view_is) r.1)

pub returns-clause-saved : goal.returns-clause-saved
returns-clause-saved c =
    let none : c.args.self.machine.answers ≡ [] =
    subst (λ (s : State). s.machine.answers ≡ []) c.self.view_is refl in
    let kept : c.in_ok-sack.kept ≡ c.args.self.machine.kept =
    c.in_ok-sack.ensures.kept ∙ ap (λ (s : State). s.machine.kept) c.self.view_is in
    let saved = subst (λ (s : State). AreSaved (bodies_of c.args.unit.now) s.machine.calls c.in_ok-sack.sack)
    c.self.view_is c.in_ok-sack.ensures.frames in
    parked_run c.args.unit.now c.args.self none c.requires.stands c.requires.of c.in_ok-sack.sack
    c.in_ok-sack.kept kept saved

pub returns-clause-valid : goal.returns-clause-valid
returns-clause-valid c handler chain =
    let none : c.args.self.machine.answers ≡ [] =
    subst (λ (s : State). s.machine.answers ≡ []) c.self.view_is refl in
    let kept : c.in_ok-sack.kept ≡ c.args.self.machine.kept =
    c.in_ok-sack.ensures.kept ∙ ap (λ (s : State). s.machine.kept) c.self.view_is in
    let saved = subst (λ (s : State). AreSaved (bodies_of c.args.unit.now) s.machine.calls c.in_ok-sack.sack)
    c.self.view_is c.in_ok-sack.ensures.frames in
    let charged = subst IsCharged c.self.view_is
    (laid_charge c.self.inside.running c.self.inside.standing c.self.invariant) in
    parked_valid c.args.unit.now c.args.self none c.requires.stands c.requires.of c.in_ok-sack.sack
    c.in_ok-sack.kept kept saved charged handler chain

pub returns-clause-frames : goal.returns-clause-frames
returns-clause-frames c weaves =
    let none : c.args.self.machine.answers ≡ [] =
    subst (λ (s : State). s.machine.answers ≡ []) c.self.view_is refl in
    let kept : c.in_ok-sack.kept ≡ c.args.self.machine.kept =
    c.in_ok-sack.ensures.kept ∙ ap (λ (s : State). s.machine.kept) c.self.view_is in
    let saved = subst (λ (s : State). AreSaved (bodies_of c.args.unit.now) s.machine.calls c.in_ok-sack.sack)
    c.self.view_is c.in_ok-sack.ensures.frames in
    parked_frames c.args.unit.now c.args.self none c.requires.stands c.requires.of c.in_ok-sack.sack
    c.in_ok-sack.kept kept saved weaves

pub returns-clause-moves : goal.returns-clause-moves
returns-clause-moves c weaves handler chain =
    let none : c.args.self.machine.answers ≡ [] =
    subst (λ (s : State). s.machine.answers ≡ []) c.self.view_is refl in
    let kept : c.in_ok-sack.kept ≡ c.args.self.machine.kept =
    c.in_ok-sack.ensures.kept ∙ ap (λ (s : State). s.machine.kept) c.self.view_is in
    let saved = subst (λ (s : State). AreSaved (bodies_of c.args.unit.now) s.machine.calls c.in_ok-sack.sack)
    c.self.view_is c.in_ok-sack.ensures.frames in
    has_parked c.args.unit.now c.args.self none c.requires.stands c.requires.of c.in_ok-sack.sack
    c.in_ok-sack.kept kept saved weaves handler chain
