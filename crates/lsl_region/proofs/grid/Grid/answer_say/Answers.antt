use Rattle.std.proofs.Common.{◌≡◌, ◌∙◌, ◌+◌, List, [], ◌∷◌, ◌++◌, true, ap, append_assoc, refl, rules, subst}
use Rattle.std.specs.Int.{w32, cast_signed, cast_unsigned}
use Rattle.std.proofs.lemmas.Int.{to_z-of_z}
use Rattle.std.proofs.lemmas.Result.{MatchResult-from_err}
use Rattle.lsl_post.specs.declared.entries.Entry.{Entry}
use Rattle.lsl_post.specs.declared.entries.Entry.TheVariants.{Chat}
use Rattle.lsl_post.specs.declared.filters.Filter.{Filter}
use Rattle.lsl_post.specs.Filters.{filter}
use Rattle.lsl_post.specs.Journal.{Part}
use Rattle.lsl_post.proofs.Amid.{part-after, part-lead}
use Rattle.lsl_region.specs.declared.objects.Primitive.{Primitive}
use Rattle.lsl_region.specs.Answers.{integer_at, nothing, replied, says, text_at}
use Rattle.lsl_region.specs.Grids.{seat_of}
use Rattle.lsl_region.specs.Posting.{said_to_all}
use Rattle.lsl_region.specs.Scenes.{Awaits}
use Rattle.lsl_region.specs.Texts.{cut_speech}
use Rattle.lsl_region.specs.Worlds.{prim_of}
use Rattle.lsl_region.proofs.Lending.{lent-seat, lent-prim}
use Rattle.lsl_region.proofs.grid.Grid.answer_say.Goals as goal

pub returns-in_err-said-clause-does : goal.returns-in_err-said-clause-does
returns-in_err-said-clause-does c = λ m f of w lent.
    let scene = c.args.scene.now in
    let args = c.args.args.now in
    let p : Primitive = prim_of w lent.member in
    let channel = integer_at 0 args in
    let text = cut_speech (text_at 1 args) in
    let same : cast_signed w32 (cast_unsigned w32 c.integer_at.result) ≡ channel =
    to_z-of_z w32 c.integer_at.result (search rules) ∙ c.integer_at.ensures in
    let line : Chat (scene.place + 1) c.args.voice (cast_signed w32 (cast_unsigned w32 c.integer_at.result))
    c.in_ok-text.text ≡ Chat (scene.place + 1) c.args.voice channel text
    = λ i. Chat (scene.place + 1) c.args.voice (same i) (c.in_ok-text.ensures i) in
    MatchResult-from_err c.from_residual-in_err-said.result _ _ c.from_residual-in_err-said.ensures.0
    (λ y. part-lead c.args.out.now c.say_line.new.out (Chat (scene.place + 1) c.args.voice channel text ∷ [])
    (says m.rules scene.place c.args.voice lent.member args w)
    (replied nothing (said_to_all m.rules (filter channel p.name p.key text) w)) refl
    (subst (λ (e : Entry). Part c.args.out.now c.say_line.new.out (e ∷ [])) line c.in_err-said.ensures.line))

pub returns-in_err-tell_hearers-clause-does : goal.returns-in_err-tell_hearers-clause-does
returns-in_err-tell_hearers-clause-does c = λ m f of w lent.
    let scene = c.args.scene.now in
    let args = c.args.args.now in
    let p : Primitive = prim_of w lent.member in
    let channel = integer_at 0 args in
    let text = cut_speech (text_at 1 args) in
    let same : cast_signed w32 (cast_unsigned w32 c.integer_at.result) ≡ channel =
    to_z-of_z w32 c.integer_at.result (search rules) ∙ c.integer_at.ensures in
    let line : Chat (scene.place + 1) c.args.voice (cast_signed w32 (cast_unsigned w32 c.integer_at.result))
    c.in_ok-text.text ≡ Chat (scene.place + 1) c.args.voice channel text
    = λ i. Chat (scene.place + 1) c.args.voice (same i) (c.in_ok-text.ensures i) in
    let said : c.in_ok-said.said ≡ filter channel p.name p.key text =
    c.in_ok-said.ensures.said (seat_of scene.library.now true lent.member) (lent-seat lent)
    ∙ (λ i. filter (same i) (lent-prim lent i).name (lent-prim lent i).key (c.in_ok-text.ensures i)) in
    let first : c.say_line.new.out ≡ c.args.out.now ++ Chat (scene.place + 1) c.args.voice channel text ∷ [] =
    c.in_ok-said.ensures.line ∙ ap (λ (e : Entry). c.args.out.now ++ e ∷ []) line in
    MatchResult-from_err c.from_residual-in_err-tell_hearers.result _ _
    c.from_residual-in_err-tell_hearers.ensures.0
    (λ y. part-after c.args.out.now c.say_line.new.out c.tell_hearers.new.out
    (Chat (scene.place + 1) c.args.voice channel text ∷ [])
    (said_to_all m.rules (filter channel p.name p.key text) w).entries first
    (subst (λ (z : Filter). Part c.say_line.new.out c.tell_hearers.new.out (said_to_all m.rules z w).entries) said
    (c.in_err-tell_hearers.ensures.does m f of w lent)))

pub returns-clause-does : goal.returns-clause-does
returns-clause-does c = λ m f of w lent.
    let scene = c.args.scene.now in
    let args = c.args.args.now in
    let p : Primitive = prim_of w lent.member in
    let channel = integer_at 0 args in
    let text = cut_speech (text_at 1 args) in
    let same : cast_signed w32 (cast_unsigned w32 c.integer_at.result) ≡ channel =
    to_z-of_z w32 c.integer_at.result (search rules) ∙ c.integer_at.ensures in
    let line : Chat (scene.place + 1) c.args.voice (cast_signed w32 (cast_unsigned w32 c.integer_at.result))
    c.in_ok-text.text ≡ Chat (scene.place + 1) c.args.voice channel text
    = λ i. Chat (scene.place + 1) c.args.voice (same i) (c.in_ok-text.ensures i) in
    let said : c.in_ok-said.said ≡ filter channel p.name p.key text =
    c.in_ok-said.ensures.said (seat_of scene.library.now true lent.member) (lent-seat lent)
    ∙ (λ i. filter (same i) (lent-prim lent i).name (lent-prim lent i).key (c.in_ok-text.ensures i)) in
    let first : c.say_line.new.out ≡ c.args.out.now ++ Chat (scene.place + 1) c.args.voice channel text ∷ [] =
    c.in_ok-said.ensures.line ∙ ap (λ (e : Entry). c.args.out.now ++ e ∷ []) line in
    let d = subst (λ (z : Filter). Awaits scene c.tell_hearers.new.self c.tell_hearers.new.live of f
    (said_to_all m.rules z w).value × (c.tell_hearers.new.out ≡ c.say_line.new.out
    ++ (said_to_all m.rules z w).entries)) said (c.in_ok-tell_hearers.ensures.does m f of w lent) in
    let told = (said_to_all m.rules (filter channel p.name p.key text) w).entries in (
      (d.0, refl),
      d.1 ∙ ap (λ (z : List Entry). z ++ told) first
          ∙ append_assoc c.args.out.now (Chat (scene.place + 1) c.args.voice channel text ∷ []) told,
    )
