use Rattle.std.proofs.Common.{◌≡◌, List, sym, ap, ◌∙◌, subst}
use Rattle.lsl_running.specs.declared.kept.Kept.{Kept}
use Rattle.lsl_code.specs.declared.frames.Frame.{Frame}
use Rattle.lsl_post.specs.declared.parts.Rest.TheVariants.{Saved}
use Rattle.lsl_post.specs.declared.parts.ScriptParts.{ScriptParts}
use Rattle.lsl_script.specs.Fitting.{FitsUnit}
use Rattle.lsl_script.specs.Resting.{keeping, saved_parts}
use Rattle.lsl_script.proofs.Rested.{rested_chained, rested_fits, rested_is}
use Rattle.lsl_script.proofs.Stops.{rests_lawful}
use Rattle.lsl_script.proofs.live.Live.rest.Goals as goal

pub returns-in_err-sack-clause-lawful : goal.returns-in_err-sack-clause-lawful
returns-in_err-sack-clause-lawful c codes s f rests = rests_lawful codes c.args.unit.now s f c.args.self rests

pub returns-clause-fits : goal.returns-clause-fits
returns-clause-fits c =
    let at : c.deref_mut-parts.result.now ≡ c.args.self.parts = c.deref_mut-parts.ensures.value ∙ c.script.view_is in
    let unit = c.args.unit.now in
    let p = c.in_ok-sack.field-0 in
    subst (λ (x : ScriptParts). FitsUnit unit (record x { rest = Saved c.args.self.event p.sack }))
    (sym (c.keep.ensures ∙ ap (keeping c.in_ok-sack.field-0.kept) at))
    (rested_fits unit c.args.self p.kept p.sack c.requires.awake c.requires.stands c.in_ok-sack.ensures.kept
    (c.in_ok-sack.ensures.valid c.args.self.handler (rested_chained unit c.args.self c.requires.awake
    c.requires.stands)))

pub returns-clause-parts : goal.returns-clause-parts
returns-clause-parts c =
    let at : c.deref_mut-parts.result.now ≡ c.args.self.parts = c.deref_mut-parts.ensures.value ∙ c.script.view_is in
    let live = c.args.self in
    let p = c.in_ok-sack.field-0 in
    ap {A = ScriptParts} {B = ScriptParts} (λ x. record x { rest = Saved live.event p.sack }) (c.keep.ensures ∙ ap
    (keeping c.in_ok-sack.field-0.kept) at)
    ∙ ap {A = Kept} {B = ScriptParts} (λ k. saved_parts live.parts k live.event p.sack) c.in_ok-sack.ensures.kept
    ∙ ap {A = List Frame} {B = ScriptParts} (saved_parts live.parts live.machine.machine.kept live.event)
    (c.in_ok-sack.ensures.frames c.requires.weaves)

pub returns-clause-source : goal.returns-clause-source
returns-clause-source c codes s f rests =
    let at : c.deref_mut-parts.result.now ≡ c.args.self.parts = c.deref_mut-parts.ensures.value ∙ c.script.view_is in
    let p = c.in_ok-sack.field-0 in
    ap {A = ScriptParts} {B = ScriptParts} (λ x. record x { rest = Saved c.args.self.event p.sack }) (c.keep.ensures ∙
    ap (keeping c.in_ok-sack.field-0.kept) at)
    ∙ rested_is codes c.args.unit.now s f c.args.self p.kept p.sack rests c.in_ok-sack.ensures.kept
    (c.in_ok-sack.ensures.frames c.requires.weaves)

pub returns-clause-lawful : goal.returns-clause-lawful
returns-clause-lawful c codes s f rests = rests_lawful codes c.args.unit.now s f c.args.self rests
