use Rattle.std.proofs.Common.{◌≡◌, ap, refl, sym, subst}
use Rattle.lsl_value.specs.declared.names.BuiltinId.TheVariants.{SetObjectName}
use Rattle.lsl_running.specs.declared.host.Reply.{Reply}
use Rattle.lsl_code.specs.Kinded.{Answers}
use Rattle.lsl_region.specs.Answers.{nothing, renamed, text_at}
use Rattle.lsl_region.specs.Scenes.{Awaits}
use Rattle.lsl_region.specs.Mailing.{stop_of}
use Rattle.lsl_region.specs.Texts.{cut_name}
use Rattle.lsl_region.specs.Worlds.{World}
use Rattle.lsl_region.proofs.Calls.{no-act-left}
use Rattle.lsl_region.proofs.Results.{IfOk-both, IfOk-map, tells-quiet}
use Rattle.lsl_region.proofs.Scenes.{keeps-same}
use Rattle.lsl_region.proofs.grid.Grid.act.Goals as goal

pub returns-in-Say-clause-does : goal.returns-in-Say-clause-does
returns-in-Say-clause-does c = λ m f of w lent.
    rw c.in-Say.is (c.answer_say.ensures.does m f of w lent)

pub returns-in-Whisper-clause-does : goal.returns-in-Whisper-clause-does
returns-in-Whisper-clause-does c = λ m f of w lent.
    rw c.in-Whisper.is (c.answer_say-in-Whisper.ensures.does m f of w lent)

pub returns-in-Shout-clause-does : goal.returns-in-Shout-clause-does
returns-in-Shout-clause-does c = λ m f of w lent.
    rw c.in-Shout.is (c.answer_say-in-Shout.ensures.does m f of w lent)

pub returns-in-RegionSay-clause-does : goal.returns-in-RegionSay-clause-does
returns-in-RegionSay-clause-does c = λ m f of w lent.
    rw c.in-RegionSay.is (c.answer_region_say.ensures.does m f of w lent)

pub returns-in-MessageLinked-clause-does : goal.returns-in-MessageLinked-clause-does
returns-in-MessageLinked-clause-does c = λ m f of w lent.
    rw c.in-MessageLinked.is (c.answer_message_linked.ensures.does m f of w lent)

pub returns-in-SetObjectName-clause-does : goal.returns-in-SetObjectName-clause-does
returns-in-SetObjectName-clause-does c = λ m f of w lent.
    let scene = c.args.scene.now in
    rw c.in-SetObjectName.is (tells-quiet c.answer_set_object_name.result
    (λ (x : World × Reply) given. Awaits scene
    c.answer_set_object_name.new.self c.args.live.now of f x.0 × (given ≡ x.1))
    (renamed w lent.member (cut_name (text_at 0 c.args.args.now)), nothing) c.args.out.now
    (IfOk-both c.answer_set_object_name.result _ _
    (c.answer_set_object_name.ensures.does scene.library.now scene.unit.now scene.clock c.args.live.now of f w lent)
    c.answer_set_object_name.ensures.reply))

pub returns-in-SetObjectName-clause-fits : goal.returns-in-SetObjectName-clause-fits
returns-in-SetObjectName-clause-fits c =
    IfOk-map c.answer_set_object_name.result _ _
    (λ given is. rw c.in-SetObjectName.is (subst (λ (z : Reply). Answers SetObjectName z) (sym is) refl))
    c.answer_set_object_name.ensures.reply

pub returns-in-SetObjectName-clause-grid : goal.returns-in-SetObjectName-clause-grid
returns-in-SetObjectName-clause-grid c =
    keeps-same c.answer_set_object_name.result c.requires.awake.set c.answer_set_object_name.ensures.outline
    c.answer_set_object_name.ensures.seats

pub returns-in-Say-clause-stop : goal.returns-in-Say-clause-stop
returns-in-Say-clause-stop c =
    IfOk-map c.answer_say.result _ _ (λ given is. ap stop_of is) c.answer_say.ensures.reply

pub returns-in-Whisper-clause-stop : goal.returns-in-Whisper-clause-stop
returns-in-Whisper-clause-stop c =
    IfOk-map c.answer_say-in-Whisper.result _ _ (λ given is. ap stop_of is) c.answer_say-in-Whisper.ensures.reply

pub returns-in-Shout-clause-stop : goal.returns-in-Shout-clause-stop
returns-in-Shout-clause-stop c =
    IfOk-map c.answer_say-in-Shout.result _ _ (λ given is. ap stop_of is) c.answer_say-in-Shout.ensures.reply

pub returns-in-RegionSay-clause-stop : goal.returns-in-RegionSay-clause-stop
returns-in-RegionSay-clause-stop c =
    IfOk-map c.answer_region_say.result _ _ (λ given is. ap stop_of is) c.answer_region_say.ensures.reply

pub returns-in-OwnerSay-clause-stop : goal.returns-in-OwnerSay-clause-stop
returns-in-OwnerSay-clause-stop c =
    IfOk-map c.answer_owner_say.result _ _ (λ given is. ap stop_of is) c.answer_owner_say.ensures.reply

pub returns-in-MessageLinked-clause-stop : goal.returns-in-MessageLinked-clause-stop
returns-in-MessageLinked-clause-stop c =
    IfOk-map c.answer_message_linked.result _ _ (λ given is. ap stop_of is) c.answer_message_linked.ensures.reply

pub returns-in-SetObjectName-clause-stop : goal.returns-in-SetObjectName-clause-stop
returns-in-SetObjectName-clause-stop c =
    IfOk-map c.answer_set_object_name.result _ _ (λ given is. ap stop_of is) c.answer_set_object_name.ensures.reply

pub unreachable-requires : goal.unreachable-requires
unreachable-requires c =
    no-act-left c.args.id c.requires.home c.in_default.not-Say c.in_default.not-Whisper c.in_default.not-Shout
    c.in_default.not-RegionSay c.in_default.not-OwnerSay c.in_default.not-MessageLinked c.in_default.not-SetObjectName
