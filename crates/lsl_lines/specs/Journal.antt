-- The lines of the journal.
use Rattle.std.specs.Prelude.{ℕ, List, [], ◌∷◌, ◌++◌, map, codes, decimal}
use Rattle.std.specs.List.{flat_map}
use Rattle.std.specs.Str.{encode_utf8_all}
use Rattle.lsl_text.specs.Number.{decimal_of}
use Rattle.lsl_text.specs.Quoted.{quoted}
use Rattle.lsl_table.specs.Events.{event_name_of}
use Rattle.lsl_value.specs.declared.tagged.Value.{Value}
use Rattle.lsl_value.specs.declared.tagged.Value.TheVariants.{Int, Str, Key, List as ListValue}
use Rattle.lsl_running.specs.declared.ends.Fault.{Fault}
use Rattle.lsl_running.specs.declared.ends.Fault.TheVariants.{MathError, StackHeap, TooManyListens}
use Rattle.lsl_post.specs.declared.entries.Voice.{Voice}
use Rattle.lsl_post.specs.declared.entries.Voice.TheVariants.{Say, Whisper, Shout, Region}
use Rattle.lsl_post.specs.declared.entries.Entry.{Entry}
use Rattle.lsl_post.specs.declared.entries.Entry.TheVariants.{Took, Drop, Clear, Chat, Owner, Stopped, Done, Home}
use Rattle.lsl_post.specs.declared.events.Event.{Event}

-- a word after a space
abbrev pub spaced : List ℕ → List ℕ
spaced word = 32 ∷ word

-- words with one space between them
abbrev pub joined : List (List ℕ) → List ℕ
joined [] = []
joined (word ∷ words) = word ++ flat_map spaced words

-- a text as a word: its UTF-8, quoted
abbrev pub text_word : List ℕ → List ℕ
text_word text = quoted (encode_utf8_all text)

abbrev pub voice_word : Voice → List ℕ
voice_word Say = codes "say"
voice_word Whisper = codes "whisper"
voice_word Shout = codes "shout"
voice_word Region = codes "region"

-- why a script stopped, in words
abbrev pub fault_text : Fault → List ℕ
fault_text MathError = codes "Math Error"
fault_text StackHeap = codes "Stack-Heap Collision"
fault_text TooManyListens = codes "Too Many Listens"

-- an event's argument; no parameter is a list; the word of a list is empty
abbrev pub argument_word : Value → List ℕ
argument_word (Int n) = decimal_of n
argument_word (Str text) = text_word text
argument_word (Key text) = text_word text
argument_word (ListValue atoms) = []

-- an event's name, and its arguments
abbrev pub event_words : Event → List (List ℕ)
event_words event = event_name_of event.id ∷ map argument_word event.args

-- the words of an entry's line
abbrev pub words_of : Entry → List (List ℕ)
words_of (Took script event) = codes "took" ∷ decimal script ∷ event_words event
words_of (Drop script event) = codes "drop" ∷ decimal script ∷ event_words event
words_of (Clear script count) = codes "clear" ∷ decimal script ∷ decimal count ∷ []
words_of (Chat script voice channel text) =
    codes "chat" ∷ decimal script ∷ voice_word voice ∷ decimal_of channel ∷ text_word text ∷ []
words_of (Owner script text) = codes "owner" ∷ decimal script ∷ text_word text ∷ []
words_of (Stopped script fault) = codes "fault" ∷ decimal script ∷ quoted (fault_text fault) ∷ []
words_of (Done script charge) = codes "done" ∷ decimal script ∷ decimal charge ∷ []
words_of (Home object region) = codes "home" ∷ decimal object ∷ text_word region ∷ []

-- the line of an entry: its words, and a line feed
abbrev pub line_of : Entry → List ℕ
line_of entry = joined (words_of entry) ++ 10 ∷ []

-- the lines of a journal
abbrev pub lines_of : List Entry → List ℕ
lines_of entries = flat_map line_of entries
