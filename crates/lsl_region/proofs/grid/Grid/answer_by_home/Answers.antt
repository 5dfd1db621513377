use Rattle.std.proofs.Common.{◌≡◌, ◌∙◌, ℕ, true, ap, sym, subst}
use Rattle.lsl_table.specs.declared.calls.Home.{Home}
use Rattle.lsl_table.specs.declared.calls.Home.TheVariants as home
use Rattle.lsl_running.specs.Calling.{form_at_home}
use Rattle.lsl_running.specs.declared.host.Reply.{Reply}
use Rattle.lsl_running.specs.declared.host.Reply.TheVariants as reply
use Rattle.lsl_code.specs.Effects.{is_asked}
use Rattle.lsl_post.specs.Journal.{Tells}
use Rattle.lsl_region.specs.Answers.{Answered, is_on_own_mailbox_at, mailed, told_in, with_mailed}
use Rattle.lsl_region.specs.Scenes.{Awaits}
use Rattle.lsl_region.specs.Worlds.{World, with_member}
use Rattle.lsl_region.proofs.Calls.{at-home, goes-on, none-asked-left}
use Rattle.lsl_region.proofs.Lending.{lent-mailed}
use Rattle.lsl_region.proofs.Results.{IfOk-map, tells-quiet}
use Rattle.lsl_region.proofs.grid.Grid.answer_by_home.Goals as goal

-- ---- what a call that only reads answers

pub returns-in-Query-clause-does : goal.returns-in-Query-clause-does
returns-in-Query-clause-does c = λ m f of w lent.
    let scene = c.args.scene.now in
    let e = at-home m.rules scene.place lent.member c.args.args.now w c.args.id home.Query
    (sym c.row.ensures.home ∙ c.in-Query.is) in
    subst (λ (a : Answered). Tells c.answer_query.result
    (λ x given. Awaits scene c.args.self.now c.args.live.now of f
    x.0
    × (given ≡ x.1)) c.args.out.now c.args.out.now a) (sym e)
    (tells-quiet c.answer_query.result
    (λ (x : World × Reply) given. Awaits scene c.args.self.now
    c.args.live.now of f x.0 × (given ≡ x.1))
    (w, reply.Value (told_in w lent.member c.args.id c.args.args.now)) c.args.out.now
    (IfOk-map c.answer_query.result _ _ (λ given is. (lent, is))
    (c.answer_query.ensures.does f of w lent)))

pub returns-in-Query-clause-fits : goal.returns-in-Query-clause-fits
returns-in-Query-clause-fits c = c.answer_query.ensures.fits (sym c.row.ensures.home ∙ c.in-Query.is)

pub returns-in-Query-clause-stop : goal.returns-in-Query-clause-stop
returns-in-Query-clause-stop c =
    IfOk-map c.answer_query.result _ _ (λ given is. is ∙ sym (goes-on c.args.id c.args.args.now
    c.args.live.now.parts.listens (λ m.
    let other : home.Query ≡ home.Mail = sym (sym c.row.ensures.home ∙ c.in-Query.is) ∙ m in cc)))
    c.answer_query.ensures.stop

-- ---- what it does to the mailbox of the script, or to its sleep

pub mail-requires-clause-id : goal.mail-requires-clause-id
mail-requires-clause-id c = ap is_on_own_mailbox_at (sym c.row.ensures.home ∙ c.in-Mail.is)

pub mail-requires-in-Sleep-clause-id : goal.mail-requires-in-Sleep-clause-id
mail-requires-in-Sleep-clause-id c = ap is_on_own_mailbox_at (sym c.row.ensures.home ∙ c.in-Sleep.is)

pub returns-in-Mail-clause-does : goal.returns-in-Mail-clause-does
returns-in-Mail-clause-does c = λ m f of w lent.
    let scene = c.args.scene.now in
    let s = lent.member.script in
    let e = at-home m.rules scene.place lent.member c.args.args.now w c.args.id home.Mail
    (sym c.row.ensures.home ∙ c.in-Mail.is)
    ∙ ap (λ (n : ℕ). with_mailed scene.place lent.member (mailed c.args.id c.args.args.now n s) w) lent.stands.time in
    let done = mailed c.args.id c.args.args.now scene.clock s in
    subst (λ (a : Answered). Tells c.mail.result
    (λ x given. Awaits scene c.args.self.now c.mail.new.live of f
    x.0
    × (given ≡ x.1)) c.args.out.now c.args.out.now a) (sym e)
    (tells-quiet c.mail.result
    (λ (x : World × Reply) given. Awaits scene c.args.self.now
    c.mail.new.live of f x.0 × (given ≡ x.1))
    (with_member w scene.place (record lent.member { script = done.0 }), done.1) c.args.out.now
    (IfOk-map c.mail.result _ _
    (λ given d. let k = d scene.library.now scene.unit.now s f of lent.waits in (
      lent-mailed lent
          c.mail.new.live c.args.id c.args.args.now k.0,
      k.1,
    )) c.mail.ensures.does))

pub returns-in-Sleep-clause-does : goal.returns-in-Sleep-clause-does
returns-in-Sleep-clause-does c = λ m f of w lent.
    let scene = c.args.scene.now in
    let s = lent.member.script in
    let e = at-home m.rules scene.place lent.member c.args.args.now w c.args.id home.Sleep
    (sym c.row.ensures.home ∙ c.in-Sleep.is)
    ∙ ap (λ (n : ℕ). with_mailed scene.place lent.member (mailed c.args.id c.args.args.now n s) w) lent.stands.time in
    let done = mailed c.args.id c.args.args.now scene.clock s in
    subst (λ (a : Answered). Tells c.mail-in-Sleep.result
    (λ x given. Awaits scene c.args.self.now
    c.mail-in-Sleep.new.live of f x.0
    × (given ≡ x.1)) c.args.out.now c.args.out.now a) (sym e)
    (tells-quiet c.mail-in-Sleep.result
    (λ (x : World × Reply) given. Awaits scene c.args.self.now
    c.mail-in-Sleep.new.live of f x.0 × (given ≡ x.1))
    (with_member w scene.place (record lent.member { script = done.0 }), done.1) c.args.out.now
    (IfOk-map c.mail-in-Sleep.result _ _
    (λ given d. let k = d scene.library.now scene.unit.now s f of lent.waits in (
      lent-mailed lent
          c.mail-in-Sleep.new.live c.args.id c.args.args.now k.0,
      k.1,
    )) c.mail-in-Sleep.ensures.does))

-- ---- what it says, sends or names

pub act-requires-clause-home : goal.act-requires-clause-home
act-requires-clause-home c = sym c.row.ensures.home ∙ c.in-Act.is

pub returns-in-Act-clause-does : goal.returns-in-Act-clause-does
returns-in-Act-clause-does c = λ m f of w lent.
    let e = at-home m.rules c.args.scene.now.place lent.member c.args.args.now w c.args.id home.Act
    (sym c.row.ensures.home ∙ c.in-Act.is) in
    subst (λ (a : Answered). Tells c.act.result
    (λ x given. Awaits c.args.scene.now c.act.new.self c.act.new.live of f x.0
    × (given ≡ x.1)) c.args.out.now c.act.new.out a) (sym e)
    (c.act.ensures.does m f of w lent)

pub returns-in-Act-clause-stop : goal.returns-in-Act-clause-stop
returns-in-Act-clause-stop c =
    IfOk-map c.act.result _ _ (λ given is. is ∙ sym (goes-on c.args.id c.args.args.now c.args.live.now.parts.listens
    (λ m. let other : home.Act ≡ home.Mail = sym (sym c.row.ensures.home ∙ c.in-Act.is) ∙ m in cc)))
    c.act.ensures.stop

-- ---- what it does to a store

pub answer_store-requires-clause-storing : goal.answer_store-requires-clause-storing
answer_store-requires-clause-storing c = sym c.row.ensures.home ∙ c.in-Store.is

pub returns-in-Store-clause-does : goal.returns-in-Store-clause-does
returns-in-Store-clause-does c = λ m f of w lent.
    let e = at-home m.rules c.args.scene.now.place lent.member c.args.args.now w c.args.id home.Store
    (sym c.row.ensures.home ∙ c.in-Store.is) in
    subst (λ (a : Answered). Tells c.answer_store.result
    (λ x given. Awaits c.args.scene.now c.answer_store.new.self
    c.answer_store.new.live of f x.0
    × (given ≡ x.1)) c.args.out.now c.answer_store.new.out a) (sym e)
    (c.answer_store.ensures.does m f of w lent)

pub returns-in-Store-clause-stop : goal.returns-in-Store-clause-stop
returns-in-Store-clause-stop c =
    IfOk-map c.answer_store.result _ _ (λ given is. is ∙ sym (goes-on c.args.id c.args.args.now
    c.args.live.now.parts.listens (λ m.
    let other : home.Store ≡ home.Mail = sym (sym c.row.ensures.home ∙ c.in-Store.is) ∙ m in cc)))
    c.answer_store.ensures.stop

-- ---- what it asks of a notecard

pub answer_notecard-requires-clause-noting : goal.answer_notecard-requires-clause-noting
answer_notecard-requires-clause-noting c = sym c.row.ensures.home ∙ c.in-Note.is

pub returns-in-Note-clause-does : goal.returns-in-Note-clause-does
returns-in-Note-clause-does c = λ m f of w lent.
    let e = at-home m.rules c.args.scene.now.place lent.member c.args.args.now w c.args.id home.Note
    (sym c.row.ensures.home ∙ c.in-Note.is) in
    subst (λ (a : Answered). Tells c.answer_notecard.result
    (λ x given. Awaits c.args.scene.now c.args.self.now
    c.answer_notecard.new.live of f x.0
    × (given ≡ x.1)) c.args.out.now c.answer_notecard.new.out a) (sym e)
    (c.answer_notecard.ensures.does m f of w lent)

pub returns-in-Note-clause-stop : goal.returns-in-Note-clause-stop
returns-in-Note-clause-stop c =
    IfOk-map c.answer_notecard.result _ _ (λ given is. is ∙ sym (goes-on c.args.id c.args.args.now
    c.args.live.now.parts.listens (λ m.
    let other : home.Note ≡ home.Mail = sym (sym c.row.ensures.home ∙ c.in-Note.is) ∙ m in cc)))
    c.answer_notecard.ensures.stop

pub unreachable-requires : goal.unreachable-requires
unreachable-requires c =
    none-asked-left c.row.result.home
    (subst (λ (h : Home). is_asked (form_at_home h) ≡ true) (sym c.row.ensures.home) c.requires.host)
    c.in_default.not-Query c.in_default.not-Mail c.in_default.not-Sleep c.in_default.not-Act c.in_default.not-Store
    c.in_default.not-Note
