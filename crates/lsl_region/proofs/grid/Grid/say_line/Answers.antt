use Rattle.std.proofs.Common.{◌≡◌, ◌∙◌, ◌+◌, List, [], ◌∷◌, ◌++◌, ap, rules, subst, sym}
use Rattle.std.specs.Int.{w32, cast_signed, cast_unsigned}
use Rattle.std.proofs.lemmas.Int.{to_z-of_z}
use Rattle.std.proofs.lemmas.Result.{MatchResult-from_err}
use Rattle.lsl_post.specs.declared.entries.Entry.{Entry}
use Rattle.lsl_post.specs.declared.entries.Entry.TheVariants.{Chat}
use Rattle.lsl_post.specs.Filters.{filter}
use Rattle.lsl_post.specs.Journal.{Part}
use Rattle.lsl_post.proofs.Amid.{part-none}
use Rattle.lsl_region.specs.Grids.{prim_in}
use Rattle.lsl_region.proofs.grid.Grid.say_line.Goals as goal

pub returns-in_err-push-clause-line : goal.returns-in_err-push-clause-line
returns-in_err-push-clause-line c =
    MatchResult-from_err c.from_residual-in_err-push.result _ _ c.from_residual-in_err-push.ensures.0
    (λ y. subst (λ (z : List Entry). Part c.args.out.now z (Chat (c.args.scene.now.place + 1) c.args.voice c.args.channel
    c.args.text ∷ [])) (sym c.in_err-push.ensures.unchanged)
    (part-none c.args.out.now _))

pub returns-clause-line : goal.returns-clause-line
returns-clause-line c =
    let same : cast_signed w32 (cast_unsigned w32 c.args.channel) ≡ c.args.channel =
    to_z-of_z w32 c.args.channel (search rules) in
    let chat : Chat c.number.result c.args.voice (cast_signed w32 (cast_unsigned w32 c.args.channel)) c.args.text
    ≡ Chat (c.args.scene.now.place + 1) c.args.voice c.args.channel c.args.text
    = λ i. Chat (c.number.ensures i) c.args.voice (same i) c.args.text in
    c.in_ok-push.ensures.ok ∙ ap (λ (e : Entry). c.args.out.now ++ e ∷ []) chat

pub returns-clause-said : goal.returns-clause-said
returns-clause-said c = λ seat at.
    let same : cast_signed w32 (cast_unsigned w32 c.args.channel) ≡ c.args.channel =
    to_z-of_z w32 c.args.channel (search rules) in
    let p = prim_in c.args.self.now.objects seat in
    c.in_ok-said.ensures seat at ∙ (λ i. filter (same i) p.name p.key c.args.text)
