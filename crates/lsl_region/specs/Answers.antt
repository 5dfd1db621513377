-- What a host call answers and does: a case for each call, in the function of its home.
use Rattle.std.specs.Prelude.{ℕ, ◌+◌, ◌*◌, ◌/◌, ℤ, pos, negsuc, Bool, true, false, not, ◌&&◌, nat_eq, if◌then◌else◌, List, [], ◌∷◌, length, Option, Some, None, get_or, slice_get, slice_set}
use Rattle.std.specs.Ordering.{int_eq}
use Rattle.lsl_value.specs.declared.names.BuiltinId.{BuiltinId}
use Rattle.lsl_value.specs.declared.names.BuiltinId.TheVariants.{Say, Whisper, Shout, RegionSay, OwnerSay, Listen, ListenRemove, ListenControl, SetTimerEvent, Sleep, MessageLinked, GetOwner, GetKey, GetLinkKey, GetLinkName, GetLinkNumber, GetNumberOfPrims, GetObjectName, SetObjectName, GetScriptName, GetRegionName, GetUnixTime, DetectedKey, DetectedName, DetectedLinkNumber, LinksetDataWrite, LinksetDataDelete, LinksetDataReset, LinksetDataRead, LinksetDataCountKeys, LinksetDataAvailable, LinksetDataListKeys, GetNotecardLine}
use Rattle.lsl_value.specs.declared.tagged.Value.{Value}
use Rattle.lsl_value.specs.declared.tagged.Value.TheVariants as value
use Rattle.lsl_value.specs.Key.{null_key}
use Rattle.lsl_table.specs.declared.calls.Home.{Home}
use Rattle.lsl_table.specs.declared.calls.Home.TheVariants as home
use Rattle.lsl_table.specs.Calls.{row_of}
use Rattle.lsl_running.specs.declared.ends.Fault.TheVariants.{TooManyListens}
use Rattle.lsl_running.specs.declared.host.Reply.{Reply}
use Rattle.lsl_running.specs.declared.host.Reply.TheVariants as reply
use Rattle.lsl_running.specs.Values.{absent}
use Rattle.lsl_post.specs.declared.entries.Entry.TheVariants as entry
use Rattle.lsl_post.specs.declared.entries.Voice.{Voice}
use Rattle.lsl_post.specs.declared.entries.Voice.TheVariants as voice
use Rattle.lsl_post.specs.declared.events.Event.{Event}
use Rattle.lsl_post.specs.declared.events.Toucher.{Toucher}
use Rattle.lsl_post.specs.Filters.{filter}
use Rattle.lsl_post.specs.Listens.{Standing, closed, controlled, listened}
use Rattle.lsl_post.specs.Timing.{timing_set}
use Rattle.lsl_post.specs.Told.{Told, as_value, lead, quiet}
use Rattle.lsl_post.specs.declared.parts.Pair.{Pair}
use Rattle.lsl_data.specs.Answers.{delete_answer, deleted, write_answer, written}
use Rattle.lsl_data.specs.Listing.{names_listed}
use Rattle.lsl_notes.specs.Notecards.{card_at}
use Rattle.lsl_notes.specs.Queries.{query_of}
use Rattle.lsl_script.specs.Rules.{Rules}
use Rattle.lsl_script.specs.Mailing.{listening, ticking}
use Rattle.lsl_script.specs.Scripts.{Doing, Resting, Flying, Script, Stopped, napped, post_to}
use Rattle.lsl_region.specs.Arrivals.{post_object}
use Rattle.lsl_region.specs.Links.{is_for, link_of, prim_or_this}
use Rattle.lsl_region.specs.Posting.{message_event, post_all, said_to_all}
use Rattle.lsl_region.specs.Notes.{card_of, data_event, data_told}
use Rattle.lsl_region.specs.Stores.{change_of, no_change, read_in, reset_change, room_in}
use Rattle.lsl_region.specs.Texts.{cut_name, cut_speech}
use Rattle.lsl_region.specs.declared.store_calls.Change.{Change}
use Rattle.lsl_region.specs.declared.objects.Linkset.{Linkset}
use Rattle.lsl_region.specs.declared.objects.Primitive.{Primitive}
use Rattle.lsl_region.specs.Worlds.{Member, World, at_member, object_of, prim_at, prim_of, with_member, with_object}

-- a world, and what the call is answered
abbrev pub Answered : Type 0
Answered = Told (World × Reply)

abbrev pub nothing : Reply
nothing = reply.Value None

abbrev pub gives : Value → Reply
gives v = reply.Value (Some v)

abbrev pub replied : Reply → Told World → Answered
replied given a = as_value (λ w. (w, given)) a

-- the arguments, from the first
abbrev pub integer_of : Value → ℤ
integer_of (value.Int n) = n
integer_of v = pos 0

abbrev pub text_of : Value → List ℕ
text_of (value.Str text) = text
text_of (value.Key text) = text
text_of v = []

abbrev pub integer_at : ℕ → List Value → ℤ
integer_at place args = integer_of (get_or args place absent)

abbrev pub text_at : ℕ → List Value → List ℕ
text_at place args = text_of (get_or args place absent)

-- the script's prim says a text, cut, on a channel; others hear it
abbrev pub said_by : Rules → ℕ → Voice → Primitive → ℤ → List ℕ → World → Told World
said_by r place how p channel text w =
    lead (entry.Chat (place + 1) how channel text ∷ []) (said_to_all r (filter channel p.name p.key text) w)

abbrev pub says : Rules → ℕ → Voice → Member → List Value → World → Answered
says r place how m args w =
    replied nothing (said_by r place how (prim_of w m) (integer_at 0 args) (cut_speech (text_at 1 args)) w)

-- asleep until this many seconds from now, or until now
abbrev pub wake_after : ℤ → ℕ → ℕ
wake_after (pos seconds) clock = clock + 1000 * seconds
wake_after (negsuc n) clock = clock

abbrev pub prims_count : World → Member → ℕ
prims_count w m = length (object_of w m).prims

abbrev pub own_link : World → Member → ℕ
own_link w m = link_of (prims_count w m) m.prim

-- one listen more; the script stops if it has as many as it can
abbrev pub listened_reply : Option (ℤ × Standing) → Reply
listened_reply None = reply.Stop TooManyListens
listened_reply (Some (number, listens)) = gives (value.Int number)

abbrev pub listened_script : Option (ℤ × Standing) → Script → Script
listened_script None s = s
listened_script (Some (number, listens)) s = listening listens s

abbrev pub listen_among : List Value → Standing → Option (ℤ × Standing)
listen_among args listens =
    listened (filter (integer_at 0 args) (text_at 1 args) (text_at 2 args) (text_at 3 args)) listens

abbrev pub listen_asked : List Value → Script → Option (ℤ × Standing)
listen_asked args s = listen_among args s.mailbox.listens

-- what a call does to the script that asks, at this reading of the clock, and what it is answered
abbrev pub mailed : BuiltinId → List Value → ℕ → Script → Script × Reply
mailed Listen args clock s = (listened_script (listen_asked args s) s, listened_reply (listen_asked args s))
mailed ListenRemove args clock s = (listening (closed (integer_at 0 args) s.mailbox.listens) s, nothing)
mailed ListenControl args clock s =
    (listening (controlled (integer_at 0 args) (not (int_eq (integer_at 1 args) (pos 0))) s.mailbox.listens) s, nothing)
mailed SetTimerEvent args clock s = (ticking (timing_set (integer_at 0 args) clock) s, nothing)
mailed Sleep args clock s = (napped (wake_after (integer_at 0 args) clock) s, nothing)
mailed id args clock s = (s, nothing)

abbrev pub with_mailed : ℕ → Member → Script × Reply → World → Answered
with_mailed place m done w = quiet (with_member w place (record m { script = done.0 }), done.1)

-- a message goes to the scripts of the prims of the sender's object, which has `count`, that the number names
abbrev pub is_message_to : ℕ → Member → ℤ → World → Member → Bool
is_message_to count sender number w m =
    nat_eq m.object sender.object && is_for count sender.prim number m.prim

-- of no prim, the key of zeros and its text
abbrev pub key_of_prim : List Primitive → Option ℕ → List ℕ
key_of_prim prims None = null_key
key_of_prim prims (Some place) = (prim_at prims place).key

abbrev pub name_of_prim : List Primitive → Option ℕ → List ℕ
name_of_prim prims None = null_key
name_of_prim prims (Some place) = (prim_at prims place).name

abbrev pub prim_asked : List Primitive → ℕ → List Value → Option ℕ
prim_asked prims this args = prim_or_this (length prims) this (integer_at 0 args)

abbrev pub with_name : List Primitive → ℕ → List ℕ → List Primitive
with_name prims place name = slice_set prims place (record (prim_at prims place) { name = name })

-- the script's prim has a new name, cut
abbrev pub renamed : World → Member → List ℕ → World
renamed w m name =
    let o = object_of w m in
    with_object w m.object (record o { prims = with_name o.prims m.prim name })

-- the toucher, if the current event is a touch and place 0 is asked for
abbrev pub toucher_in_hand : Doing → Option Toucher
toucher_in_hand Resting = None
toucher_in_hand (Flying f) = f.event.toucher
toucher_in_hand (Stopped fault) = None

abbrev pub detected : Option Toucher → List Value → Option Toucher
detected toucher args = if int_eq (integer_at 0 args) (pos 0) then toucher else None

abbrev pub detected_key : Option Toucher → List ℕ
detected_key None = null_key
detected_key (Some t) = t.key

abbrev pub detected_name : Option Toucher → List ℕ
detected_name None = []
detected_name (Some t) = t.name

abbrev pub detected_link : Option Toucher → ℤ
detected_link None = pos 0
detected_link (Some t) = t.link

-- the answer of a call that only reads: the script is in this prim of this object, and has this name and this current
-- toucher
abbrev pub value_of_query : Linkset → (prim : ℕ) → (name : List ℕ) → (clock : ℕ) → Option Toucher → BuiltinId → List Value
    → Option Value
value_of_query o prim name clock toucher GetOwner args = Some (value.Key o.owner)
value_of_query o prim name clock toucher GetKey args = Some (value.Key (prim_at o.prims prim).key)
value_of_query o prim name clock toucher GetLinkKey args =
    Some (value.Key (key_of_prim o.prims (prim_asked o.prims prim args)))
value_of_query o prim name clock toucher GetLinkName args =
    Some (value.Str (name_of_prim o.prims (prim_asked o.prims prim args)))
value_of_query o prim name clock toucher GetLinkNumber args = Some (value.Int (pos (link_of (length o.prims) prim)))
value_of_query o prim name clock toucher GetNumberOfPrims args = Some (value.Int (pos (length o.prims)))
value_of_query o prim name clock toucher GetObjectName args = Some (value.Str (prim_at o.prims prim).name)
value_of_query o prim name clock toucher GetScriptName args = Some (value.Str name)
value_of_query o prim name clock toucher GetRegionName args = Some (value.Str o.region)
value_of_query o prim name clock toucher GetUnixTime args = Some (value.Int (pos (clock / 1000)))
value_of_query o prim name clock toucher DetectedKey args = Some (value.Key (detected_key (detected toucher args)))
value_of_query o prim name clock toucher DetectedName args = Some (value.Str (detected_name (detected toucher args)))
value_of_query o prim name clock toucher DetectedLinkNumber args = Some (value.Int (detected_link (detected toucher args)))
value_of_query o prim name clock toucher LinksetDataRead args = Some (value.Str (read_in o.store (text_at 0 args)))
value_of_query o prim name clock toucher LinksetDataCountKeys args = Some (value.Int (pos (length o.store)))
value_of_query o prim name clock toucher LinksetDataAvailable args = Some (value.Int (pos (room_in o.store)))
value_of_query o prim name clock toucher LinksetDataListKeys args =
    Some (value.List (names_listed o.store (integer_at 0 args) (integer_at 1 args)))
value_of_query o prim name clock toucher id args = None

abbrev pub told_in : World → Member → BuiltinId → List Value → Option Value
told_in w m id args = value_of_query (object_of w m) m.prim m.name w.clock (toucher_in_hand m.script.doing) id args

abbrev pub home_of : BuiltinId → Home
home_of id = (row_of id).home

-- it is on the mailbox or the sleep of the script that asks
abbrev pub is_on_own_mailbox_at : Home → Bool
is_on_own_mailbox_at home.Mail = true
is_on_own_mailbox_at home.Sleep = true
is_on_own_mailbox_at home.Pure = false
is_on_own_mailbox_at home.UsedMemory = false
is_on_own_mailbox_at home.FreeMemory = false
is_on_own_mailbox_at home.SetLimit = false
is_on_own_mailbox_at home.GetLimit = false
is_on_own_mailbox_at home.Query = false
is_on_own_mailbox_at home.Act = false
is_on_own_mailbox_at home.Store = false
is_on_own_mailbox_at home.Note = false
is_on_own_mailbox_at home.Reset = false

abbrev pub is_on_own_mailbox : BuiltinId → Bool
is_on_own_mailbox id = is_on_own_mailbox_at (home_of id)

abbrev pub message_of : World → Member → List Value → Event
message_of w m args = message_event (pos (own_link w m)) (integer_at 1 args) (text_at 2 args) (text_at 3 args)

-- which pairs a store has after a call, and the result
abbrev pub pairs_by : BuiltinId → List Value → List Pair → List Pair
pairs_by LinksetDataWrite args pairs = written pairs (text_at 0 args) (text_at 1 args)
pairs_by LinksetDataDelete args pairs = deleted pairs (text_at 0 args)
pairs_by LinksetDataReset args pairs = []
pairs_by id args pairs = pairs

abbrev pub change_by : BuiltinId → List Value → List Pair → Change
change_by LinksetDataWrite args pairs =
    change_of (write_answer pairs (text_at 0 args) (text_at 1 args)) (text_at 0 args) (text_at 1 args)
change_by LinksetDataDelete args pairs = change_of (delete_answer pairs (text_at 0 args)) (text_at 0 args) []
change_by LinksetDataReset args pairs = reset_change
change_by id args pairs = no_change

-- the member's object has these pairs
abbrev pub with_store : World → Member → List Pair → World
with_store w m pairs = with_object w m.object (record (object_of w m) { store = pairs })

-- all scripts of an object get the event, if there is one
abbrev pub told_by : Rules → ℕ → Option Event → World → Told World
told_by r object None w = quiet w
told_by r object (Some e) w = post_object r object e w

-- the store of the member's object is changed, and then its scripts get an event, the one that asks too
abbrev pub stored : Rules → Member → BuiltinId → List Value → World → Answered
stored r m id args w =
    let pairs = (object_of w m).store in
    let change = change_by id args pairs in
    replied (reply.Value change.answer) (told_by r m.object change.told (with_store w m (pairs_by id args pairs)))

-- a line from place 0 on, or how many there are
abbrev pub line_from : ℤ → Option (Option ℕ)
line_from (pos n) = Some (Some n)
line_from (negsuc n) = None

abbrev pub line_asked : BuiltinId → List Value → Option (Option ℕ)
line_asked GetNotecardLine args = line_from (integer_at 1 args)
line_asked id args = Some None

abbrev pub card_asked : World → Member → List Value → Option ℕ
card_asked w m args = card_of w.cards w.objects m.object m.prim (text_at 0 args)

-- the script that asks gets an event, and the call is answered with the query's key
abbrev pub queried : Rules → ℕ → Option ℕ → Option (Option ℕ) → World → Answered
queried r place None asked w = quiet (w, gives (value.Key null_key))
queried r place (Some card) None w = quiet (w, gives (value.Key null_key))
queried r place (Some card) (Some line) w =
    let query = query_of (place + 1) card line in
    let told = data_event query (data_told (card_at w.cards card) line) in
    replied (gives (value.Key query)) (at_member place (λ m. post_to r (place + 1) told m.script) w)

abbrev pub noted : Rules → ℕ → Member → BuiltinId → List Value → World → Answered
noted r place m id args w = queried r place (card_asked w m args) (line_asked id args) w

-- what the host says or sends, and a name that it gives a prim
abbrev pub acted : Rules → ℕ → Member → BuiltinId → List Value → World → Answered
acted r place m Say args w = says r place voice.Say m args w
acted r place m Whisper args w = says r place voice.Whisper m args w
acted r place m Shout args w = says r place voice.Shout m args w
acted r place m RegionSay args w =
    if int_eq (integer_at 0 args) (pos 0) then quiet (w, nothing) else says r place voice.Region m args w
acted r place m OwnerSay args w =
    record { value = (w, nothing); entries = entry.Owner (place + 1) (cut_speech (text_at 0 args)) ∷ [] }
acted r place m MessageLinked args w =
    replied nothing
    (post_all r (is_message_to (prims_count w m) m (integer_at 0 args))
    (message_of w m args) w)
acted r place m SetObjectName args w = quiet (renamed w m (cut_name (text_at 0 args)), nothing)
acted r place m id args w = quiet (w, nothing)

-- the call of the member at this place, with these arguments, by where it is done
abbrev pub answer_at_home : Home → Rules → ℕ → Member → BuiltinId → List Value → World → Answered
answer_at_home home.Query r place m id args w = quiet (w, reply.Value (told_in w m id args))
answer_at_home home.Mail r place m id args w = with_mailed place m (mailed id args w.clock m.script) w
answer_at_home home.Sleep r place m id args w = with_mailed place m (mailed id args w.clock m.script) w
answer_at_home home.Act r place m id args w = acted r place m id args w
answer_at_home home.Store r place m id args w = stored r m id args w
answer_at_home home.Note r place m id args w = noted r place m id args w
answer_at_home home.Pure r place m id args w = quiet (w, nothing)
answer_at_home home.UsedMemory r place m id args w = quiet (w, nothing)
answer_at_home home.FreeMemory r place m id args w = quiet (w, nothing)
answer_at_home home.SetLimit r place m id args w = quiet (w, nothing)
answer_at_home home.GetLimit r place m id args w = quiet (w, nothing)
answer_at_home home.Reset r place m id args w = quiet (w, nothing)

abbrev pub answer_of : Rules → ℕ → Member → BuiltinId → List Value → World → Answered
answer_of r place m id args w = answer_at_home (home_of id) r place m id args w

abbrev pub answer_in : Rules → ℕ → Option Member → BuiltinId → List Value → World → Answered
answer_in r place None id args w = quiet (w, nothing)
answer_in r place (Some m) id args w = answer_of r place m id args w

-- the call of the script at this place
abbrev pub answer : Rules → ℕ → BuiltinId → List Value → World → Answered
answer r place id args w = answer_in r place (slice_get w.members place) id args w
