-- Host calls by what they do.
use Rattle.std.proofs.Common.{◌≡◌, ◌≢◌, true, false, refl, ap, subst, sym}
use Rattle.lsl_value.specs.declared.names.BuiltinId.{BuiltinId}
use Rattle.lsl_value.specs.declared.names.BuiltinId.TheVariants.{Say, Whisper, Shout, RegionSay, OwnerSay, Listen, ListenRemove, ListenControl, SetTimerEvent, Sleep, MessageLinked, SetObjectName, LinksetDataWrite, LinksetDataDelete, LinksetDataReset}
use Rattle.std.specs.Prelude.{ℕ, List, [], None, IfOk, IfSome}
use Rattle.std.specs.declared.result.Result.{Result}
use Rattle.std.specs.declared.result.Result.TheVariants.{Ok, Err}
use Rattle.lsl_value.specs.declared.tagged.Value.{Value}
use Rattle.lsl_table.specs.declared.calls.Home.{Home}
use Rattle.lsl_table.specs.declared.calls.Home.TheVariants as home
use Rattle.lsl_running.specs.Calling.{form_at_home}
use Rattle.lsl_running.specs.declared.host.Reply.TheVariants as reply
use Rattle.lsl_code.specs.Effects.{is_asked}
use Rattle.lsl_code.specs.Kinded.{Answers}
use Rattle.lsl_post.specs.declared.parts.Pair.{Pair}
use Rattle.lsl_post.specs.Listens.{Standing}
use Rattle.lsl_image.specs.Valid.{IsStore}
use Rattle.lsl_data.specs.declared.answers.Wrote.{Wrote}
use Rattle.lsl_data.specs.declared.answers.Wrote.TheVariants.{Stored, Deleted, NoKey, NotFound, Same, Full}
use Rattle.lsl_data.specs.Answers.{delete_answer, write_answer}
use Rattle.lsl_data.specs.History.{Write, Delete}
use Rattle.lsl_data.proofs.Histories.{kept-command}
use Rattle.lsl_data.proofs.Keeping.{store-none}
use Rattle.lsl_script.specs.Fitting.{is_exit}
use Rattle.lsl_script.specs.Rules.{Rules}
use Rattle.lsl_region.specs.Answers.{answer_at_home, answer_of, change_by, home_of, is_on_own_mailbox, pairs_by, text_at}
use Rattle.lsl_region.specs.Mailing.{stop_for}
use Rattle.lsl_region.specs.Stores.{told_of}
use Rattle.lsl_region.specs.Worlds.{Member, World}
use Rattle.lsl_region.specs.declared.store_calls.Change.{Change}

-- a call does what the calls of its home do
pub at-home : (r : Rules) (place : ℕ) (m : Member) (args : List Value) (w : World) (id : BuiltinId) (h : Home)
    → home_of id ≡ h → answer_of r place m id args w ≡ answer_at_home h r place m id args w
at-home r place m args w id h e = ap (λ (k : Home). answer_at_home k r place m id args w) e

-- no call of this group is left besides these
pub no-mailing-left : (id : BuiltinId) → is_on_own_mailbox id ≡ true → id ≢ Listen → id ≢ ListenRemove
    → id ≢ ListenControl
    → id ≢ SetTimerEvent → id ≢ Sleep → ⊥
no-mailing-left Listen e a b c d f = a refl
no-mailing-left ListenRemove e a b c d f = b refl
no-mailing-left ListenControl e a b c d f = c refl
no-mailing-left SetTimerEvent e a b c d f = d refl
no-mailing-left Sleep e a b c d f = f refl
no-mailing-left id e a b c d f = cc

-- nor is a call that the host isn't asked for
pub none-asked-left : (h : Home) → is_asked (form_at_home h) ≡ true → h ≢ home.Query → h ≢ home.Mail
    → h ≢ home.Sleep → h ≢ home.Act → h ≢ home.Store → h ≢ home.Note → ⊥
none-asked-left home.Query e a b c d f g = a refl
none-asked-left home.Mail e a b c d f g = b refl
none-asked-left home.Sleep e a b c d f g = c refl
none-asked-left home.Act e a b c d f g = d refl
none-asked-left home.Store e a b c d f g = f refl
none-asked-left home.Note e a b c d f g = g refl
none-asked-left h e a b c d f g = cc

-- nor one that says or sends something, or names a prim
pub no-act-left : (id : BuiltinId) → home_of id ≡ home.Act → id ≢ Say → id ≢ Whisper → id ≢ Shout → id ≢ RegionSay
    → id ≢ OwnerSay → id ≢ MessageLinked → id ≢ SetObjectName → ⊥
no-act-left Say e a b c d f g h = a refl
no-act-left Whisper e a b c d f g h = b refl
no-act-left Shout e a b c d f g h = c refl
no-act-left RegionSay e a b c d f g h = d refl
no-act-left OwnerSay e a b c d f g h = f refl
no-act-left MessageLinked e a b c d f g h = g refl
no-act-left SetObjectName e a b c d f g h = h refl
no-act-left id e a b c d f g h = cc

pub goes-on : (id : BuiltinId) (args : List Value) (listens : Standing) → home_of id ≢ home.Mail
    → stop_for id args listens ≡ None
goes-on Listen args listens other = absurd (other refl)
goes-on id args listens other = refl

-- the result of a call on a store has the kind of its row
pub change-fits : (id : BuiltinId) (args : List Value) (pairs : List Pair) → home_of id ≡ home.Store
    → Answers id (reply.Value (change_by id args pairs).answer)
change-fits LinksetDataWrite args pairs e = refl
change-fits LinksetDataDelete args pairs e = refl
change-fits LinksetDataReset args pairs e = refl
change-fits id args pairs e = absurd cc

-- and the event of it isn't an exit of a state
told-other : (w : Wrote) (name text : List ℕ) → IfSome (told_of w name text) (λ e. is_exit e ≡ false)
told-other Stored name text = refl
told-other Deleted name text = refl
told-other NoKey name text = tt
told-other NotFound name text = tt
told-other Same name text = tt
told-other Full name text = tt

pub change-other : (id : BuiltinId) (args : List Value) (pairs : List Pair)
    → IfSome (change_by id args pairs).told (λ e. is_exit e ≡ false)
change-other LinksetDataWrite args pairs =
    told-other (write_answer pairs (text_at 0 args) (text_at 1 args)) (text_at 0 args) (text_at 1 args)
change-other LinksetDataDelete args pairs = told-other (delete_answer pairs (text_at 0 args)) (text_at 0 args) []
change-other LinksetDataReset args pairs = refl
change-other id args pairs = tt

-- a store stays in order
pub pairs-kept : (id : BuiltinId) (args : List Value) (pairs : List Pair) → IsStore pairs
    → IsStore (pairs_by id args pairs)
pairs-kept LinksetDataWrite args pairs s = kept-command pairs (Write (text_at 0 args) (text_at 1 args)) s
pairs-kept LinksetDataDelete args pairs s = kept-command pairs (Delete (text_at 0 args)) s
pairs-kept LinksetDataReset args pairs s = store-none
pairs-kept id args pairs s = s

pub fits-by : {E : Type 0} (r : Result Change E) (id : BuiltinId) (args : List Value) (pairs : List Pair)
    → home_of id ≡ home.Store → IfOk r (λ x. x ≡ change_by id args pairs)
    → IfOk r (λ x. Answers id (reply.Value x.answer))
fits-by (Ok x) id args pairs e is =
    subst (λ (z : Change). Answers id (reply.Value z.answer)) (sym is) (change-fits id args pairs e)
fits-by (Err x) id args pairs e is = tt

pub other-by : {E : Type 0} (r : Result Change E) (id : BuiltinId) (args : List Value) (pairs : List Pair)
    → IfOk r (λ x. x ≡ change_by id args pairs)
    → IfOk r (λ x. IfSome x.told (λ event. is_exit event ≡ false))
other-by (Ok x) id args pairs is =
    subst (λ (z : Change). IfSome z.told (λ event. is_exit event ≡ false)) (sym is) (change-other id args pairs)
other-by (Err x) id args pairs is = tt

-- no other call is on a store
pub storing-only : (id : BuiltinId) → home_of id ≡ home.Store → id ≢ LinksetDataWrite → id ≢ LinksetDataDelete
    → id ≢ LinksetDataReset → ⊥
storing-only LinksetDataWrite e a b c = a refl
storing-only LinksetDataDelete e a b c = b refl
storing-only LinksetDataReset e a b c = c refl
storing-only id e a b c = cc
