-- From moment to moment.
use Rattle.std.proofs.Common.{◌≡◌, ℕ, ◌+◌, ◌<◌, ◌≤◌, Bool, true, false, cond, ◌&&◌, ◌==◌, ◌-◌, nat_eq, List, [], ◌∷◌, length, drop, get_or, map, Option, Some, None, refl, ⊎_elim, sym, ap, subst, ◌∙◌, add-one, arith}
use Rattle.std.specs.HashSet.{contains}
use Rattle.std.specs.Option.{option_map, unwrap_or}
use Rattle.std.specs.Prelude.{nat_le, slice_get}
use Rattle.std.proofs.lemmas.Bool.{cases_lt, le-leb, lt-leb}
use Rattle.std.proofs.lemmas.List.{length-map}
use Rattle.std.proofs.lemmas.Option.{slice_get-get_or, slice_get-map, slice_get_within}
use Rattle.lsl_seek.specs.Aims.{is_within, meets}
use Rattle.lsl_seek.specs.Finding.{met, met_at, IsFirstAt, LastUpTo, NoneUpTo}
use Rattle.lsl_seek.specs.Moments.{Moment, marks_of, moment_of, moments, moment_or_nothing, nothing, numbered, onto, up_to}
use Rattle.lsl_seek.specs.Watches.{Encloses, Watches, WatchesAt}
use Rattle.lsl_seek.specs.declared.aim.Aim.{Aim}
use Rattle.lsl_seek.specs.declared.aim.Aim.TheVariants.{Outside}
use Rattle.lsl_seek.specs.declared.trace.Trace.{Trace}
use Rattle.lsl_seek.specs.declared.watch.Watch.{Watch}

-- a watch whose calls are those of the moment
pub came : (aim : Aim) (script call : ℕ) (old new : Watch) (m : Moment) (past : List Moment) → aim ≡ Outside script call
    → new.stop ≡ old.stop → new.is_taken ≡ old.is_taken → new.before ≡ old.before
    → (((q : ℕ) → contains nat_eq old.inner q ≡ is_within call q past) → (q : ℕ) → contains nat_eq new.inner q ≡ is_within call q (m ∷ past))
    → Watches aim old past → WatchesAt aim new m past
came aim script call old new m past is stop taken before inner h = record {
  stop = stop ∙ h.stop;
  taken = taken ∙ h.taken;
  before = before ∙ h.before;
  inner = subst (λ a. Encloses a new (m ∷ past)) (sym is) (inner (subst (λ a. Encloses a old past) is h.inner));
}

-- the moment at a place
pub moment-here : (trace : Trace) (i at : ℕ) → slice_get trace.places.items i ≡ Some at
    → slice_get (moments trace) i ≡ Some (moment_of (marks_of trace) (drop at trace.text.now))
unfolding moments
moment-here trace i at h =
    slice_get-map (λ p. moment_of (marks_of trace) (drop p trace.text.now)) trace.places.items i
    ∙ ap (option_map (λ p. moment_of (marks_of trace) (drop p trace.text.now))) h

pub up_to-none : (ms : List Moment) → up_to ms 0 ≡ []
unfolding up_to
up_to-none ms = refl

-- one moment more
pub up_to-more : (ms : List Moment) (i : ℕ) (m : Moment) → slice_get ms i ≡ Some m → up_to ms (i + 1) ≡ m ∷ up_to ms i
unfolding up_to
up_to-more ms i m h = rw add-one (ap (λ o. onto o (up_to ms i)) h)

pub met-more : (trace : Trace) (aim : Aim) (i : ℕ) (m : Moment) → slice_get (moments trace) i ≡ Some m
    → met_at trace aim (i + 1) ≡ meets trace aim m (up_to (moments trace) i)
unfolding met_at
met-more trace aim i m h = ap (met trace aim) (up_to-more (moments trace) i m h)

-- none so far, and not this one
pub none-more : (trace : Trace) (aim : Aim) (from i : ℕ) → NoneUpTo trace aim from i
    → (from ≤ i → met_at trace aim (i + 1) ≡ false) → NoneUpTo trace aim from (i + 1)
none-more trace aim from i none here k after upto = ⊎_elim
    (λ before. none k after (omega arith))
    (λ late. let is : k ≡ i + 1 = omega arith in ap (met_at trace aim) is ∙ here (omega arith))
    (cases_lt k (i + 1))

-- this one is the last
pub last-here : (trace : Trace) (aim : Aim) (found : Option ℕ) (i : ℕ) (b : Bool) → b ≡ met_at trace aim (i + 1)
    → LastUpTo trace aim i found → LastUpTo trace aim (i + 1) (cond b (Some (i + 1)) found)
last-here trace aim found i true is h = record {
  low = omega arith;
  high = omega arith;
  met = sym is;
  none = λ k a b. absurd (omega arith);
}
last-here trace aim None i false is h = λ k low high. ⊎_elim
    (λ before. h k low (omega arith))
    (λ late. let e : k ≡ i + 1 = omega arith in ap (met_at trace aim) e ∙ sym is)
    (cases_lt k (i + 1))
last-here trace aim (Some n) i false is h = record {
  low = h.low;
  high = (let high = h.high in omega arith);
  met = h.met;
  none = λ k low high. ⊎_elim
      (λ before. h.none k low (omega arith))
      (λ late. let e : k ≡ i + 1 = omega arith in ap (met_at trace aim) e ∙ sym is)
      (cases_lt k (i + 1));
}

pub length-moments : (trace : Trace) → length (moments trace) ≡ length trace.places.items
unfolding moments
length-moments trace = length-map trace.places.items (λ at. moment_of (marks_of trace) (drop at trace.text.now))

both : (a b : Bool) → (a && b) ≡ true → (a ≡ true) × (b ≡ true)
both true true h = (refl, refl)
both true false h = absurd (cc)
both false b h = absurd (cc)

within_from : (from i : ℕ) → nat_le from i ≡ true → from ≤ i
within_from from i h = ⊎_elim
    (λ less. let not : nat_le from i ≡ false = lt-leb from i less in absurd (cc))
    (λ le. le)
    (cases_lt i from)

module _ (trace : Trace) (aim : Aim) (from i at : ℕ) (bound : i < length trace.places.items) (is : at ≡ get_or trace.places.items i 0) where
  abbrev it : Moment
  it = moment_of (marks_of trace) (drop at trace.text.now)

  here : slice_get (moments trace) i ≡ Some it
  here = moment-here trace i at (slice_get-get_or trace.places.items i 0 bound ∙ ap (λ k. Some k) (sym is))

  pub passed-watch : (watch : Watch) → Watches aim watch (moment_of (marks_of trace) (drop at trace.text.now) ∷ up_to (moments trace) i)
      → Watches aim watch (up_to (moments trace) (i + 1))
  passed-watch watch h = subst (Watches aim watch) (sym (up_to-more (moments trace) i it here)) h

  pub passed-none : (b : Bool) → b ≡ false
      → b ≡ (nat_le from i && meets trace aim (moment_of (marks_of trace) (drop at trace.text.now)) (up_to (moments trace) i))
      → NoneUpTo trace aim from i → NoneUpTo trace aim from (i + 1)
  passed-none b missed h none = none-more trace aim from i none (λ le. met-more trace aim i it here
      ∙ (ap (λ t. t && meets trace aim it (up_to (moments trace) i)) (sym (le-leb from i le)) ∙ (sym h ∙ missed)))

  pub passed-first : (b : Bool) → b ≡ true
      → b ≡ (nat_le from i && meets trace aim (moment_of (marks_of trace) (drop at trace.text.now)) (up_to (moments trace) i))
      → NoneUpTo trace aim from i → IsFirstAt trace aim from (i + 1)
  passed-first b hit h none =
      let parts = both (nat_le from i) (meets trace aim it (up_to (moments trace) i)) (sym h ∙ hit) in
      let le : from ≤ i = within_from from i parts.0 in
      let high : i < length (moments trace) = slice_get_within (moments trace) i it here in
      record {
        low = omega arith;
        high = omega arith;
        met = met-more trace aim i it here ∙ parts.1;
        none = λ k a b. none k a (omega arith);
      }

  pub passed-last : (b : Bool) (found : Option ℕ)
      → b ≡ meets trace aim (moment_of (marks_of trace) (drop at trace.text.now)) (up_to (moments trace) i)
      → LastUpTo trace aim i found → LastUpTo trace aim (i + 1) (cond b (Some (i + 1)) found)
  passed-last b found h last = last-here trace aim found i b (h ∙ sym (met-more trace aim i it here)) last

numbered-moments : (trace : Trace) (n : ℕ) → numbered (moments trace) n
    ≡ option_map (λ at. moment_of (marks_of trace) (drop at trace.text.now)) (numbered trace.places.items n)
unfolding moments
numbered-moments trace n = go (n == 0)
  where
    go : (b : Bool) → cond b None (slice_get (map (λ at. moment_of (marks_of trace) (drop at trace.text.now)) trace.places.items) (n - 1))
        ≡ option_map (λ at. moment_of (marks_of trace) (drop at trace.text.now)) (cond b None (slice_get trace.places.items (n - 1)))
    go true = refl
    go false = slice_get-map (λ at. moment_of (marks_of trace) (drop at trace.text.now)) trace.places.items (n - 1)

-- the moment of a number, or none
pub moment-of_number : (trace : Trace) (n : ℕ) (place : Option ℕ) → place ≡ numbered trace.places.items n
    → moment_or_nothing (moments trace) n ≡ unwrap_or (option_map (λ at. moment_of (marks_of trace) (drop at trace.text.now)) place) nothing
moment-of_number trace n place h = ap (λ o. unwrap_or o nothing)
    (numbered-moments trace n ∙ ap (option_map (λ at. moment_of (marks_of trace) (drop at trace.text.now))) (sym h))
