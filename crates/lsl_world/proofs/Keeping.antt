-- What a turn keeps of a world: what posts leave, prims' names, and all that one script does.
use Rattle.std.proofs.Common.{◌≡◌, ℕ, zero, suc, ◌+◌, Bool, true, false, List, refl, ◌∙◌}
use Rattle.std.specs.Prelude.{ℤ, Option, Some, None, if◌then◌else◌, not, pos, slice_get}
use Rattle.std.specs.Ordering.{int_eq}
use Rattle.lsl_value.specs.declared.names.BuiltinId.{BuiltinId}
use Rattle.lsl_value.specs.declared.names.BuiltinId.TheVariants as builtin
use Rattle.lsl_value.specs.declared.names.EventId.TheVariants as event
use Rattle.lsl_value.specs.declared.tagged.Value.{Value}
use Rattle.lsl_table.specs.declared.calls.Home.{Home}
use Rattle.lsl_table.specs.declared.calls.Home.TheVariants as home
use Rattle.lsl_running.specs.declared.ends.Outcome.{Outcome}
use Rattle.lsl_running.specs.declared.host.Reply.{Reply}
use Rattle.lsl_running.specs.declared.kept.Kept.{Kept}
use Rattle.lsl_running.specs.Results.{Whole, Ends, Asks, Cut, Fails, Lost}
use Rattle.lsl_post.specs.declared.entries.Voice.TheVariants as voice
use Rattle.lsl_post.specs.declared.events.Event.{Event}
use Rattle.lsl_post.specs.declared.parts.Pair.{Pair}
use Rattle.lsl_post.specs.Told.{Told, as_value, each, next_to, quiet, until}
use Rattle.lsl_post.specs.Listens.{Standing}
use Rattle.lsl_script.specs.declared.going.Going.{Going}
use Rattle.lsl_script.specs.declared.going.Going.TheVariants.{Stays, Leaves, Enters, Restarts}
use Rattle.lsl_script.specs.Handlers.{ended, event_due, given, going_of, gone, take_next, with_event_due}
use Rattle.lsl_script.specs.Rules.{Rules}
use Rattle.lsl_script.specs.Scripts.{Doing, Resting, Flying, Stopped, Flight, Script, handles}
use Rattle.lsl_region.specs.Answers.{acted, answer, answer_at_home, answer_in, card_asked, change_by, home_of, integer_at, line_asked, listen_asked, listened_script, nothing, pairs_by, queried, says, mailed, renamed, stored, text_at, told_by, with_mailed, with_store}
use Rattle.lsl_region.specs.Arrivals.{touch_prim}
use Rattle.lsl_region.specs.Posting.{post_all}
use Rattle.lsl_region.specs.Segments.{asked, came, flown, flown_in, is_ready_at, segment, turn, whole_in_flight}
use Rattle.lsl_region.specs.Texts.{cut_name}
use Rattle.lsl_region.specs.Worlds.{Member, World, at_member, object_of}

module _ {X Y : Type 0} (P : X → Y) where
  pub each-keeps : (thing : ℕ → X → Told X) → ((n : ℕ) (x : X) → P (thing n x).value ≡ P x)
      → (count first : ℕ) (x : X) → P (each thing count first x).value ≡ P x
  unfolding each
  each-keeps thing keeps zero first x = refl
  each-keeps thing keeps (suc count) first x =
      each-keeps thing keeps count (first + 1) (thing first x).value ∙ keeps first x

  pub until-keeps : (stops : X → Bool) (thing : X → Told X) → ((x : X) → P (thing x).value ≡ P x)
      → (most : ℕ) (x : X) → P (until stops thing most x).value ≡ P x
  unfolding until
  until-keeps stops thing keeps zero x = refl
  until-keeps stops thing keeps (suc most) x = go (stops x) (until-keeps stops thing keeps most (thing x).value) where
    go : (b : Bool) → P (until stops thing most (thing x).value).value ≡ P (thing x).value
        → P (if b then quiet x else next_to (thing x) (λ y. until stops thing most y)).value ≡ P x
    go true more = refl
    go false more = more ∙ keeps x

-- posts leave it
abbrev pub IsLeft : {Y : Type 0} → (World → Y) → Type 0
IsLeft P = (r : Rules) (test : World → Member → Bool) (e : Event) (w : World) → P (post_all r test e w).value ≡ P w

module _ {Y : Type 0} (P : World → Y) (left : IsLeft P) where
  pub touch-keeps : (r : Rules) (object : ℕ) (prim : Option ℕ) (key name : List ℕ) (w : World)
      → P (touch_prim r object prim key name w).value ≡ P w
  touch-keeps r object None key name w = refl
  touch-keeps r object (Some prim) key name w = left r _ _ _ ∙ left r _ _ _ ∙ left r _ _ w

-- a script keeps its code
abbrev pub KeepsCode : (Member → Told Script) → Type 0
KeepsCode thing = (m : Member) → (thing m).value.code ≡ m.script.code

listened-code : (o : Option (ℤ × Standing)) (s : Script) → (listened_script o s).code ≡ s.code
listened-code None s = refl
listened-code (Some x) s = refl

mailed-code : (id : BuiltinId) (args : List Value) (clock : ℕ) (s : Script) → (mailed id args clock s).0.code ≡ s.code
mailed-code builtin.Listen args clock s = listened-code (listen_asked args s) s
mailed-code builtin.ListenRemove args clock s = refl
mailed-code builtin.ListenControl args clock s = refl
mailed-code builtin.SetTimerEvent args clock s = refl
mailed-code builtin.Sleep args clock s = refl
mailed-code id args clock s = refl

gone-code : (r : Rules) (number : ℕ) (s : Script) (going : Going) → (gone r number s going).value.code ≡ s.code
gone-code r number s Stays = refl
gone-code r number s (Leaves to) = refl
gone-code r number s (Enters to) = refl
gone-code r number s Restarts = refl

ended-code : (r : Rules) (number : ℕ) (s : Script) (kept : Kept) (way : Outcome)
    → (ended r number s kept way).value.code ≡ s.code
ended-code r number s kept way =
    gone-code r number (record s { kept = kept })
    (going_of s.leaving s.state (handles r s.code s.state event.StateExit) way)

due-code : (number : ℕ) (s : Script) (e : Option Event) → (with_event_due number s e).value.code ≡ s.code
due-code number s None = refl
due-code number s (Some e) = refl

next-code : (number : ℕ) (s : Script) (doing : Doing) → (take_next number s doing).value.code ≡ s.code
next-code number s Resting = due-code number s (event_due s.leaving s.mailbox)
next-code number s (Flying f) = refl
next-code number s (Stopped fault) = refl

-- what happens to the script at this place, which keeps its code, leaves it too, and so do a prim's name and an
-- object's store
pub record IsKept {Y : Type 0} (P : World → Y) (place : ℕ) : Type 0 where
  pub own : (thing : Member → Told Script) → KeepsCode thing → (w : World) → P (at_member place thing w).value ≡ P w
  pub mail : (m : Member) (done : Script × Reply) (w : World) → slice_get w.members place ≡ Some m
      → done.0.code ≡ m.script.code → P (with_mailed place m done w).value.0 ≡ P w
  pub left : IsLeft P
  pub named : (m : Member) (name : List ℕ) (w : World) → P (renamed w m name) ≡ P w
  pub store : (m : Member) (pairs : List Pair) (w : World) → P (with_store w m pairs) ≡ P w

module _ {Y : Type 0} (P : World → Y) (r : Rules) (place : ℕ) (keeps : IsKept P place) where
  -- the scripts of an object get the event, if there is one
  told-keeps : (object : ℕ) (e : Option Event) (w : World) → P (told_by r object e w).value ≡ P w
  told-keeps object None w = refl
  told-keeps object (Some e) w = keeps.left r _ e w

  stored-keeps : (m : Member) (id : BuiltinId) (args : List Value) (w : World)
      → P (stored r m id args w).value.0 ≡ P w
  stored-keeps m id args w =
      let pairs = (object_of w m).store in
      told-keeps m.object (change_by id args pairs).told (with_store w m (pairs_by id args pairs))
      ∙ keeps.store m (pairs_by id args pairs) w

  -- a script gets an answer about a notecard
  queried-keeps : (card : Option ℕ) (asked : Option (Option ℕ)) (w : World)
      → P (queried r place card asked w).value.0 ≡ P w
  queried-keeps None asked w = refl
  queried-keeps (Some card) None w = refl
  queried-keeps (Some card) (Some line) w = keeps.own _ (λ m. refl) w

  acted-keeps : (m : Member) (id : BuiltinId) (args : List Value) (w : World)
      → P (acted r place m id args w).value.0 ≡ P w
  acted-keeps m builtin.Say args w = keeps.left r _ _ w
  acted-keeps m builtin.Whisper args w = keeps.left r _ _ w
  acted-keeps m builtin.Shout args w = keeps.left r _ _ w
  acted-keeps m builtin.RegionSay args w = go (int_eq (integer_at 0 args) (pos 0)) where
    go : (b : Bool) → P (if b then quiet (w, nothing) else says r place voice.Region m args w).value.0 ≡ P w
    go true = refl
    go false = keeps.left r _ _ w
  acted-keeps m builtin.MessageLinked args w = keeps.left r _ _ w
  acted-keeps m builtin.SetObjectName args w = keeps.named m (cut_name (text_at 0 args)) w
  acted-keeps m id args w = refl

  home-keeps : (h : Home) (m : Member) (id : BuiltinId) (args : List Value) (w : World)
      → slice_get w.members place ≡ Some m → P (answer_at_home h r place m id args w).value.0 ≡ P w
  home-keeps home.Mail m id args w at =
      keeps.mail m (mailed id args w.clock m.script) w at (mailed-code id args w.clock m.script)
  home-keeps home.Sleep m id args w at =
      keeps.mail m (mailed id args w.clock m.script) w at (mailed-code id args w.clock m.script)
  home-keeps home.Act m id args w at = acted-keeps m id args w
  home-keeps home.Store m id args w at = stored-keeps m id args w
  home-keeps home.Note m id args w at = queried-keeps (card_asked w m args) (line_asked id args) w
  home-keeps h m id args w at = refl

  answer-keeps : (id : BuiltinId) (args : List Value) (w : World) → P (answer r place id args w).value.0 ≡ P w
  answer-keeps id args w = go (slice_get w.members place) refl where
    go : (o : Option Member) → slice_get w.members place ≡ o → P (answer_in r place o id args w).value.0 ≡ P w
    go None at = refl
    go (Some m) at = home-keeps (home_of id) m id args w at

  asked-keeps : (most : ℕ) (f : Flight) (w : World) → P (asked r most place f w).value ≡ P w
  unfolding asked
  asked-keeps zero f w = refl
  asked-keeps (suc most) f w = go (asked-keeps most) (whole_in_flight r (slice_get w.members place) f) where
    go : ((g : Flight) (v : World) → P (asked r most place g v).value ≡ P v)
        → (c : Whole) → P (came r (asked r most place) place f w c).value ≡ P w
    go more (Asks id args) =
        let x = (answer r place id args w).value in
        more (given x.1 f) x.0 ∙ answer-keeps id args w
    go more (Cut calls) = keeps.own _ (λ m. refl) w
    go more (Ends outcome kept) = keeps.own _ (λ m. ended-code r (place + 1) m.script kept outcome) w
    go more (Fails fault) = keeps.own _ (λ m. refl) w
    go more Lost = refl

  flown-keeps : (w : World) (code : ℕ) (doing : Doing) → P (flown r place w code doing).value ≡ P w
  flown-keeps w code Resting = refl
  flown-keeps w code (Flying f) = asked-keeps (r.most code + 1) f w
  flown-keeps w code (Stopped fault) = refl

  segment-keeps : (w : World) → P (segment r place w).value ≡ P w
  segment-keeps w = go _ _ ∙ keeps.own _ (λ m. next-code (place + 1) m.script m.script.doing) w where
    go : (v : World) (o : Option Member) → P (flown_in r place v o).value ≡ P v
    go v None = refl
    go v (Some m) = flown-keeps v m.script.code m.script.doing

  pub turn-kept : (most : ℕ) (w : World) → P (turn r most place w).value.0 ≡ P w
  turn-kept most w =
      until-keeps {X = World × ℕ} (λ x. P x.0) (λ x. not (is_ready_at x.0 place))
      (λ x. as_value (λ v. (v, x.1 + 1)) (segment r place x.0))
      (λ x. segment-keeps x.0) most (w, 0)
