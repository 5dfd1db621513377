-- The lines that show a whole world: the clock; of each object its name, its region and its store; and of each script
-- what it holds, with its calls, its events, its listens and its timer.
use Rattle.std.specs.Prelude.{ℕ, suc, ◌+◌, Bool, true, false, List, [], ◌∷◌, ◌++◌, Option, None, Some, codes, decimal, length, map}
use Rattle.std.specs.List.{flat_map}
use Rattle.std.specs.Str.{encode_utf8_all}
use Rattle.lsl_text.specs.Number.{decimal_of}
use Rattle.lsl_text.specs.Quoted.{quoted}
use Rattle.lsl_value.specs.declared.tagged.Value.{Value}
use Rattle.lsl_table.specs.Events.{event_name_of}
use Rattle.lsl_running.specs.declared.ends.Fault.{Fault}
use Rattle.lsl_post.specs.declared.events.Event.{Event}
use Rattle.lsl_post.specs.declared.listen.Listen.{Listen}
use Rattle.lsl_post.specs.declared.parts.Pair.{Pair}
use Rattle.lsl_post.specs.Timing.{Timing}
use Rattle.lsl_lines.specs.Journal.{fault_text, joined, text_word}
use Rattle.lsl_view.specs.Lines.{ShownCall, call_line}
use Rattle.lsl_view.specs.Values.{value_word}

pub record ShownGlobal : Type 0 where
  pub name : List ℕ
  pub value : Value

-- an active call, and the operands that wait in it
pub record HeldCall : Type 0 where
  pub call : ShownCall
  pub waits : List Value

-- a script: its name, that of its state and what it rests in as a word; what it is charged, and the limit of that; the
-- state for which it leaves this one, and why it stopped; its globals, its calls and the current event; the events that
-- wait, its listens and its timer, where one runs; and until when it sleeps
pub record ShownState : Type 0 where
  pub name : List ℕ
  pub state : List ℕ
  pub rest : List ℕ
  pub charge : ℕ
  pub limit : ℕ
  pub leaving : Option (List ℕ)
  pub fault : Option Fault
  pub globals : List ShownGlobal
  pub calls : List HeldCall
  pub took : Option Event
  pub queue : List Event
  pub listens : List Listen
  pub timer : Option Timing
  pub sleeps : Option ℕ

pub record ShownObject : Type 0 where
  pub name : List ℕ
  pub region : List ℕ
  pub store : List Pair
  pub scripts : List ShownState

pub record ShownWorld : Type 0 where
  pub clock : ℕ
  pub objects : List ShownObject

-- words with one space between them, and a line feed
abbrev pub line : List (List ℕ) → List ℕ
line words = joined words ++ 10 ∷ []

-- a line for what may be there, or none
abbrev pub line_of : {X : Type 0} → (X → List (List ℕ)) → Option X → List ℕ
line_of words None = []
line_of words (Some x) = line (words x)

abbrev pub pair_line : Pair → List ℕ
pair_line p = line (codes "pair" ∷ text_word p.name ∷ text_word p.value ∷ [])

abbrev pub leaving_words : List ℕ → List (List ℕ)
leaving_words state = codes "leaving" ∷ encode_utf8_all state ∷ []

abbrev pub fault_words : Fault → List (List ℕ)
fault_words fault = codes "fault" ∷ quoted (fault_text fault) ∷ []

abbrev pub global_line : ShownGlobal → List ℕ
global_line g = line (codes "global" ∷ encode_utf8_all g.name ∷ value_word g.value ∷ [])

abbrev pub waits_line : List Value → List ℕ
waits_line [] = []
waits_line (v ∷ vs) = line (codes "waits" ∷ map value_word (v ∷ vs))

abbrev pub held_lines : HeldCall → List ℕ
held_lines c = call_line c.call ++ waits_line c.waits

abbrev pub event_words : (word : List ℕ) → Event → List (List ℕ)
event_words word event = word ∷ event_name_of event.id ∷ map value_word event.args

abbrev pub took_words : Event → List (List ℕ)
took_words event = event_words (codes "took") event

abbrev pub event_line : Event → List ℕ
event_line event = line (event_words (codes "event") event)

abbrev pub active_word : Bool → List ℕ
active_word true = codes "on"
active_word false = codes "off"

abbrev pub listen_line : Listen → List ℕ
listen_line l = line (codes "listen" ∷ decimal_of l.number ∷ active_word l.active ∷ decimal_of l.channel
    ∷ text_word l.name ∷ text_word l.id ∷ text_word l.message ∷ [])

abbrev pub timer_words : Timing → List (List ℕ)
timer_words t = codes "timer" ∷ decimal t.period ∷ decimal t.due ∷ []

abbrev pub sleeps_words : ℕ → List (List ℕ)
sleeps_words wake = codes "sleeps" ∷ decimal wake ∷ []

abbrev pub state_words : (number : ℕ) → ShownState → List (List ℕ)
state_words number s = codes "script" ∷ decimal number ∷ text_word s.name ∷ encode_utf8_all s.state ∷ s.rest
    ∷ decimal (length s.queue) ∷ decimal s.charge ∷ decimal s.limit ∷ []

-- where the script is in its life, and its globals
abbrev pub standing_lines : ShownState → List ℕ
standing_lines s = line_of leaving_words s.leaving ++ line_of fault_words s.fault ++ flat_map global_line s.globals

-- the handler in flight
abbrev pub flight_lines : ShownState → List ℕ
flight_lines s = flat_map held_lines s.calls ++ line_of took_words s.took

-- what the script has yet to receive
abbrev pub mailbox_lines : ShownState → List ℕ
mailbox_lines s = flat_map event_line s.queue ++ flat_map listen_line s.listens ++ line_of timer_words s.timer
    ++ line_of sleeps_words s.sleeps

-- the line of a script of this number, and those of all that it holds
abbrev pub state_lines : (number : ℕ) → ShownState → List ℕ
state_lines number s = line (state_words number s) ++ standing_lines s ++ flight_lines s ++ mailbox_lines s

-- of scripts that follow this many others
abbrev pub states_behind : ℕ → List ShownState → List ℕ
states_behind before [] = []
states_behind before (s ∷ more) = state_lines (suc before) s ++ states_behind (suc before) more

abbrev pub object_words : (number : ℕ) → ShownObject → List (List ℕ)
object_words number o = codes "object" ∷ decimal number ∷ text_word o.name ∷ text_word o.region ∷ []

-- the line of an object of this number, and those of its store
abbrev pub object_lines : (number : ℕ) → ShownObject → List ℕ
object_lines number o = line (object_words number o) ++ flat_map pair_line o.store

-- of objects that follow this many others, with scripts that follow this many others
abbrev pub objects_behind : (objects scripts : ℕ) → List ShownObject → List ℕ
objects_behind objects scripts [] = []
objects_behind objects scripts (o ∷ more) = object_lines (suc objects) o ++ states_behind scripts o.scripts
    ++ objects_behind (suc objects) (scripts + length o.scripts) more

-- of a whole world: objects and scripts are numbered from 1
abbrev pub world_lines : ShownWorld → List ℕ
world_lines w = line (codes "clock" ∷ decimal w.clock ∷ []) ++ objects_behind 0 0 w.objects
