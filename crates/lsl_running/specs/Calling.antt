-- What a built-in call is to a running script: a value of its arguments, a reading of its own memory, a new
-- limit of it, or a question to the host.
use Rattle.std.specs.Prelude.{Bool, true, false, length, ℕ, Option, Some, None}
use Rattle.lsl_value.specs.declared.names.BuiltinId.{BuiltinId}
use Rattle.lsl_table.specs.declared.calls.Home.{Home}
use Rattle.lsl_table.specs.declared.calls.Home.TheVariants as home
use Rattle.lsl_value.specs.declared.tagged.Kind.{Kind}
use Rattle.lsl_table.specs.Calls.{row_of}
use Rattle.lsl_running.specs.declared.host.Reply.{Reply}
use Rattle.lsl_running.specs.declared.host.Reply.TheVariants as reply

pub data CallForm : Type 0 where
  -- a value of the arguments alone
  Pure : CallForm
  -- how much the script is charged
  UsedMemory : CallForm
  -- how much more it may be charged
  FreeMemory : CallForm
  -- how much it may be charged from now on
  SetLimit : CallForm
  -- how much it may be charged
  GetLimit : CallForm
  -- the host is asked
  Asked : CallForm
  -- the host is asked, and a tick passes after its answer
  AskedAndWaits : CallForm
  -- the handler ends with a reset
  Resets : CallForm

-- a line for each home
abbrev pub form_at_home : Home → CallForm
form_at_home home.Pure = Pure
form_at_home home.UsedMemory = UsedMemory
form_at_home home.FreeMemory = FreeMemory
form_at_home home.SetLimit = SetLimit
form_at_home home.GetLimit = GetLimit
form_at_home home.Query = Asked
form_at_home home.Mail = Asked
form_at_home home.Act = Asked
form_at_home home.Store = Asked
form_at_home home.Note = Asked
form_at_home home.Sleep = AskedAndWaits
form_at_home home.Reset = Resets

abbrev pub call_form : BuiltinId → CallForm
call_form id = form_at_home (row_of id).home

-- how many arguments it takes
abbrev pub parameter_count : BuiltinId → ℕ
parameter_count id = length (row_of id).params

-- an answer with a value is one to a call that has a result, and one without to a call that has none
abbrev pub is_answer_to : Option Kind → Reply → Bool
is_answer_to (Some kind) (reply.Value None) = false
is_answer_to None (reply.Value (Some value)) = false
is_answer_to result answer = true

-- the call can have this answer
abbrev pub is_answered_by : BuiltinId → Reply → Bool
is_answered_by id answer = is_answer_to (row_of id).result answer
