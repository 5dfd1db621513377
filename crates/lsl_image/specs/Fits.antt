-- What fits its fields: numbers in their ranges, texts and values. The types keep all of it.
use Rattle.std.specs.Prelude.{◌≡◌, ℕ, ◌≤◌, List, length, Option, Some, None, slice_get, ⊤}
use Rattle.std.specs.List.{AllByRecursion}
use Rattle.lsl_value.specs.Text.{IsText}
use Rattle.lsl_value.specs.declared.tagged.Value.{Value}
use Rattle.lsl_code.specs.declared.frames.Frame.{Frame}
use Rattle.lsl_code.specs.declared.woven_units.Woven.{Woven as Code}
use Rattle.lsl_post.specs.declared.events.Event.{Event}
use Rattle.lsl_post.specs.declared.events.Toucher.{Toucher}
use Rattle.lsl_post.specs.declared.listen.Listen.{Listen}
use Rattle.lsl_post.specs.declared.parts.Pair.{Pair}
use Rattle.lsl_post.specs.declared.parts.Rest.{Rest}
use Rattle.lsl_post.specs.declared.parts.Rest.TheVariants.{Idle, Saved, Dead}
use Rattle.lsl_post.specs.declared.parts.ScriptParts.{ScriptParts}
use Rattle.lsl_post.specs.declared.timer.Timer.{Timer}
use Rattle.lsl_post.specs.Listens.{IsStanding, Standing}
use Rattle.lsl_post.specs.Queue.{most_events}
use Rattle.lsl_bytes.specs.Fields.{FitsI32, FitsU16, FitsU32, FitsU64, IsValue}
use Rattle.lsl_image.specs.declared.parts.ObjectParts.{ObjectParts}
use Rattle.lsl_image.specs.declared.parts.Placed.{Placed}
use Rattle.lsl_image.specs.declared.parts.WorldParts.{WorldParts}
use Rattle.lsl_image.specs.Bytes.{digest_of}
use Rattle.lsl_image.specs.Object.{key_bytes}

abbrev pub AreValues : List Value → Type 0
AreValues values = AllByRecursion IsValue values

pub record FitsTold (who : Toucher) : Type 0 where
  pub key : IsText who.key
  pub name : IsText who.name
  pub link : FitsI32 who.link

abbrev pub FitsToucher : Option Toucher → Type 0
FitsToucher None = ⊤
FitsToucher (Some who) = FitsTold who

pub record FitsEvent (e : Event) : Type 0 where
  pub args : AreValues e.args
  pub toucher : FitsToucher e.toucher

pub record FitsQueue (events : List Event) : Type 0 where
  pub few : length events ≤ most_events
  pub each : AllByRecursion FitsEvent events

pub record FitsListen (l : Listen) : Type 0 where
  pub number : FitsI32 l.number
  pub channel : FitsI32 l.channel
  pub name : IsText l.name
  pub id : IsText l.id
  pub message : IsText l.message

pub record FitsStanding (s : Standing) : Type 0 where
  pub next : FitsI32 s.next
  pub stands : IsStanding s
  pub each : AllByRecursion FitsListen s.list

pub record FitsTimer (t : Timer) : Type 0 where
  pub period : FitsU32 t.period
  pub due : FitsU64 t.due

abbrev pub FitsLeaving : Option ℕ → Type 0
FitsLeaving None = ⊤
FitsLeaving (Some to) = FitsU16 to

pub record FitsFrame (f : Frame) : Type 0 where
  pub function : FitsU16 f.function
  pub point : FitsU16 f.point
  pub slots : AreValues f.slots

abbrev pub FitsRest : Rest → Type 0
FitsRest Idle = ⊤
FitsRest (Saved e frames) = FitsEvent e × AllByRecursion FitsFrame frames
FitsRest (Dead fault) = ⊤

pub record FitsWaiting (s : ScriptParts) : Type 0 where
  pub queue : FitsQueue s.queue
  pub listens : FitsStanding s.listens
  pub timer : FitsTimer s.timer
  pub wake : FitsU64 s.wake
  pub limit : FitsU32 s.limit
  pub rest : FitsRest s.rest

pub record FitsScript (s : ScriptParts) : Type 0 where
  pub state : FitsU16 s.state
  pub leaving : FitsLeaving s.leaving
  pub globals : AreValues s.globals
  pub waiting : FitsWaiting s

-- and the digest of its unit's text has 32 bytes
pub record FitsIn (library : List Code) (s : ScriptParts) : Type 0 where
  pub digest : length (digest_of (slice_get library s.unit)) ≡ 32
  pub script : FitsScript s

pub record FitsPair (p : Pair) : Type 0 where
  pub name : IsText p.name
  pub value : IsText p.value

-- a key has 16 bytes
abbrev pub FitsKey : List ℕ → Type 0
FitsKey key = (id : List ℕ) × (key_bytes key ≡ Some id) × (length id ≡ 16)

pub record FitsObject (library : List Code) (o : ObjectParts) : Type 0 where
  pub key : FitsKey o.key
  pub names : AllByRecursion IsText o.names
  pub scripts : AllByRecursion (FitsIn library) o.scripts
  pub store : AllByRecursion FitsPair o.store

pub record FitsPlaced (library : List Code) (p : Placed) : Type 0 where
  pub region : IsText p.region
  pub object : FitsObject library p.object

pub record FitsWorld (library : List Code) (w : WorldParts) : Type 0 where
  pub clock : FitsU64 w.clock
  pub objects : AllByRecursion (FitsPlaced library) w.objects
