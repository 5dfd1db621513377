-- Where a move leads.
use Rattle.std.specs.Prelude.{◌≡◌, ℕ, ◌-◌, nat_le, nat_lt, Bool, true, false, cond, ◌&&◌, length, Option, Some, None}
use Rattle.lsl_seek.specs.Aims.{asks_values}
use Rattle.lsl_seek.specs.Finding.{IsFirst, IsLast}
use Rattle.lsl_seek.specs.Calls.{call_at, caller}
use Rattle.lsl_seek.specs.Moments.{Moment, moment_or_nothing, moments, up_to}
use Rattle.lsl_seek.specs.declared.aim.Aim.{Aim}
use Rattle.lsl_seek.specs.declared.aim.Aim.TheVariants.{From, Of, Outside, Segment, Turn, Handler}
use Rattle.lsl_seek.specs.declared.moves.Move.{Move}
use Rattle.lsl_seek.specs.declared.moves.To.{To}
use Rattle.lsl_seek.specs.declared.moves.To.TheVariants.{Moment as ToMoment, Place as ToPlace, Step as ToStep, Next as ToNext, Finish as ToFinish, Segment as ToSegment, Turn as ToTurn, Handler as ToHandler, Until as ToUntil}
use Rattle.lsl_seek.specs.declared.trace.Trace.{Trace}

-- the last one before, or the first one after
abbrev pub IsBeside : Trace → Bool → Aim → ℕ → Option ℕ → Type 0
IsBeside trace true aim from found = IsLast trace aim from found
IsBeside trace false aim from found = IsFirst trace aim from found

-- the moment of this number, if there is one
abbrev pub known : Trace → ℕ → Option ℕ
known trace n = cond (nat_lt 0 n && nat_le n (length trace.places.items)) (Some n) None

-- the call in hand at the moment of a number
abbrev pub in_hand : Trace → ℕ → Moment → ℕ
in_hand trace n m = call_at m (up_to (moments trace) (n - 1))

-- the call that made that one
abbrev pub caller_in_hand : Trace → ℕ → Moment → ℕ
caller_in_hand trace n m = caller (in_hand trace n m) (up_to (moments trace) n)

-- where a move leads from the moment of a number; nothing is said here of conditions on values
abbrev pub LeadsTo : Trace → Bool → To → ℕ → Moment → Option ℕ → Type 0
LeadsTo trace back (ToMoment n) from here found = found ≡ known trace n
LeadsTo trace back (ToPlace step segment) from here found = IsFirst trace (From step segment) 0 found
LeadsTo trace back ToStep from here found = IsBeside trace back (Of here.line.script) from found
LeadsTo trace back ToNext from here found =
    IsBeside trace back (Outside here.line.script (in_hand trace from here)) from found
LeadsTo trace back ToFinish from here found =
    IsBeside trace back (Outside here.line.script (caller_in_hand trace from here)) from found
LeadsTo trace back ToSegment from here found = IsBeside trace back (Segment here.line.step here.line.segment) from found
LeadsTo trace back ToTurn from here found = IsBeside trace back (Turn here.line.step) from found
LeadsTo trace back ToHandler from here found = IsBeside trace back Handler from found
LeadsTo trace back (ToUntil aim) from here found = asks_values aim ≡ false → IsBeside trace back aim from found

abbrev pub Leads : Trace → Move → ℕ → Option ℕ → Type 0
Leads trace move from found = LeadsTo trace move.is_back move.to from (moment_or_nothing (moments trace) from) found
