-- A trace as the list of its moments.
use Rattle.std.specs.Prelude.{ℕ, zero, suc, ◌-◌, ◌==◌, cond, List, [], ◌∷◌, drop, map, slice_get, Option, Some, None}
use Rattle.std.specs.Option.{unwrap_or}
use Rattle.lsl_seek.specs.Bytes.{before, after}
use Rattle.lsl_seek.specs.Entries.{Line, Value, line, entry_of, sets_of, sort_of_word}
use Rattle.lsl_seek.specs.Tables.{Place, place}
use Rattle.lsl_seek.specs.declared.entry.Sort.{Sort}
use Rattle.lsl_seek.specs.declared.entry.Sort.TheVariants.{Note, Apart}
use Rattle.lsl_seek.specs.declared.trace.Moment.{Moment as TheMoment}
use Rattle.lsl_seek.specs.declared.trace.Trace.{Trace}

-- an entry, what it is, and the values that it sets
pub record Moment : Type 0 where
  pub line : Line
  pub sort : Sort
  pub sets : List Value

abbrev pub seen : TheMoment → Moment
seen m = record { line = line m.entry; sort = m.sort; sets = sets_of m.sets.now }

-- a moment of no script
abbrev pub nothing : Moment
nothing = record {
  line = record { step = 0; segment = 0; script = 0; mark = 0; serial = 0; outer = 0; said = [] };
  sort = Apart;
  sets = [];
}

-- what has this number, from 1
abbrev pub numbered : {A : Type 0} → List A → ℕ → Option A
numbered items n = cond (n == 0) None (slice_get items (n - 1))

abbrev pub marks_of : Trace → List Place
marks_of trace = map place trace.marks.items

abbrev pub sort_at : Option Place → Sort
sort_at (Some it) = it.sort
sort_at None = Note

-- what an entry is: its mark says so, or the first word of the journal's line
abbrev pub sort_of : List Place → Line → Sort
sort_of marks it = cond (it.mark == 0) (sort_of_word (before 32 it.said)) (sort_at (numbered marks it.mark))

abbrev pub moment_by : List Place → Option Line → List ℕ → Moment
moment_by marks (Some it) rest = record { line = it; sort = sort_of marks it; sets = sets_of rest }
moment_by marks None rest = nothing

-- the moment of the line with which a text begins
unfoldable pub moment_of : List Place → List ℕ → Moment
moment_of marks text = moment_by marks (entry_of (before 10 text)) (after 10 text)

-- the moments of a trace, in order
unfoldable pub moments : Trace → List Moment
moments trace = map (λ at. moment_of (marks_of trace) (drop at trace.text.now)) trace.places.items

abbrev pub moment_or_nothing : List Moment → ℕ → Moment
moment_or_nothing ms n = unwrap_or (numbered ms n) nothing

abbrev pub onto : Option Moment → List Moment → List Moment
onto (Some m) past = m ∷ past
onto None past = past

-- the moments up to this number, the latest first
unfoldable pub up_to : List Moment → ℕ → List Moment
up_to ms zero = []
up_to ms (suc n) = onto (slice_get ms n) (up_to ms n)
