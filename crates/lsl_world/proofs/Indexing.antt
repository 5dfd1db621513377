-- The index of due times, where one script's entry is put after another.
use Rattle.std.proofs.Common.{◌≡◌, ◌≢◌, ℕ, zero, suc, ◌+◌, ◌-◌, ◌<◌, ◌≤◌, List, [], ◌∷◌, length, get_or, refl, ap, sym, ◌∙◌, subst, ⊎_elim, arith}
use Rattle.std.specs.Prelude.{◌↔◌, Contains, Option, Some, None, Result, Ok, Err, OnOk, OnErr, slice_get, slice_set}
use Rattle.std.proofs.lemmas.Bool.Decides.{eqb_tells}
use Rattle.std.proofs.lemmas.List.{get_or-set_other, length-map}
use Rattle.std.proofs.lemmas.Option.{get_or_from_slice_get, slice_get-map, slice_get_within}
use Rattle.std.specs.Option.{option_map}
use Rattle.lsl_code.specs.declared.woven_units.Woven.{Woven as Code}
use Rattle.lsl_post.specs.declared.parts.ScriptParts.{ScriptParts}
use Rattle.lsl_post.specs.Due.{Puts}
use Rattle.lsl_post.specs.Timing.{Timing, stopped}
use Rattle.lsl_region.specs.declared.grid.Seat.{Seat}
use Rattle.lsl_region.specs.Grids.{Contents, Stands}
use Rattle.lsl_region.specs.Timers.{next_due}
use Rattle.lsl_region.specs.Worlds.{Member, World}
use Rattle.lsl_region.proofs.Rings.{home}
use Rattle.lsl_world.specs.Sizes.{HasNumber}
use Rattle.lsl_world.specs.Timers.{AreNumbered, IsIndexIn, IsIndexOf, PutsIn, due_in, due_of, timing_in, timings_of}

pub timing-read : (w : World) (place : ℕ) (m : Member) → slice_get w.members place ≡ Some m
    → get_or (timings_of w) place stopped ≡ timing_in m
timing-read w place m at =
    get_or_from_slice_get (timings_of w) place (timing_in m) stopped
    (slice_get-map timing_in w.members place ∙ ap (option_map timing_in) at)

-- timers that are the same except one
pub due-others : (ts us : List Timing) (place : ℕ) → slice_set us place stopped ≡ slice_set ts place stopped
    → (other : ℕ) → other ≢ suc place → due_of us other ≡ due_of ts other
due-others ts us place e zero apart = refl
due-others ts us place e (suc k) apart =
    let away : k ≢ place = λ same. apart (ap suc same) in
    ap next_due
    (sym (get_or-set_other us place k stopped stopped away)
    ∙ ap (λ (l : List Timing). get_or l k stopped) e
    ∙ get_or-set_other ts place k stopped stopped away)

pub due-apart : (ts us : List Timing) (number : ℕ) → 0 < number
    → slice_set us (number - 1) stopped ≡ slice_set ts (number - 1) stopped
    → (other : ℕ) → other ≢ number → due_of us other ≡ due_of ts other
due-apart ts us zero h e = absurd (omega (arith, h))
due-apart ts us (suc place) h e =
    let here : suc place - 1 ≡ place = omega arith in
    due-others ts us place (subst (λ (k : ℕ). slice_set us k stopped ≡ slice_set ts k stopped) here e)

-- the entry of one script is put, where no other timer changed
pub index-put : (ts us : List Timing) (number : ℕ) (old new : List (ℕ × ℕ))
    → ((other : ℕ) → other ≢ number → due_of us other ≡ due_of ts other) → IsIndexOf ts old
    → Puts number (due_of us number) old new → IsIndexOf us new
index-put ts us number old new same index puts = record {
  exact = λ at other. ⊎_elim (λ h. own at other h.1) (λ h. elsewhere at other h.1) (eqb_tells other number);
}
  where
    own : (at other : ℕ) → other ≡ number → Contains new (at, other) ↔ (due_of us other ≡ Some at)
    own at other e =
        subst (λ (n : ℕ). Contains new (at, n) ↔ (due_of us n ≡ Some at)) (sym e) (puts.own at)

    elsewhere : (at other : ℕ) → other ≢ number → Contains new (at, other) ↔ (due_of us other ≡ Some at)
    elsewhere at other apart =
        let stays = puts.others at other apart in
        let was = index.exact at other in
        (λ h. same other apart ∙ was.0 (stays.0 h), λ e. stays.1 (was.1 (sym (same other apart) ∙ e)))

pub numbered-put : (count number : ℕ) (due : Option ℕ) (old new : List (ℕ × ℕ)) → HasNumber count number
    → AreNumbered count old → Puts number due old new → AreNumbered count new
numbered-put count number due old new has are puts =
    λ at other h. ⊎_elim (λ e. subst (λ (n : ℕ). HasNumber count n) (sym e.1) has)
    (λ n. are at other ((puts.others at other n.1).0 h)) (eqb_tells other number)

-- an index has no entries but those of scripts that are there
known : (ts : List Timing) (at number : ℕ) → due_of ts number ≡ Some at → HasNumber (length ts) number
known ts at zero e = absurd (cc)
known [] at (suc place) e = absurd (cc)
known (t ∷ ts) at (suc zero) e = (omega arith, omega arith)
known (t ∷ ts) at (suc (suc place)) e = let k = known ts at (suc place) e in (omega arith, omega (arith, k.1))

pub index-numbered : (ts : List Timing) (entries : List (ℕ × ℕ)) → IsIndexOf ts entries
    → AreNumbered (length ts) entries
index-numbered ts entries index = λ at number h. known ts at number ((index.exact at number).0 h)

pub world-numbered : (w : World) (count : ℕ) (entries : List (ℕ × ℕ)) → count ≡ length w.members
    → IsIndexOf (timings_of w) entries → AreNumbered count entries
world-numbered w count entries e index =
    subst (λ (n : ℕ). AreNumbered n entries) (length-map w.members timing_in ∙ sym e)
    (index-numbered (timings_of w) entries index)

-- entries up to a place are right
pub record IsNoted (ts : List Timing) (place : ℕ) (entries : List (ℕ × ℕ)) : Type 0 where
  pub noted : (at number : ℕ) → number ≤ place → 0 < number
      → Contains entries (at, number) ↔ (due_of ts number ≡ Some at)

pub noted-none : (ts : List Timing) (entries : List (ℕ × ℕ)) → IsNoted ts 0 entries
noted-none ts entries = record { noted = λ at number few some. absurd (omega (arith, few, some)) }

pub noted-put : (ts : List Timing) (place : ℕ) (old new : List (ℕ × ℕ)) → IsNoted ts place old
    → Puts (place + 1) (due_of ts (place + 1)) old new → IsNoted ts (place + 1) new
noted-put ts place old new is puts = record {
  noted = λ at number few some.
      ⊎_elim (λ h. own at number h.1) (λ h. elsewhere at number few some h.1) (eqb_tells number (place + 1));
}
  where
    own : (at number : ℕ) → number ≡ place + 1 → Contains new (at, number) ↔ (due_of ts number ≡ Some at)
    own at number e = subst (λ (n : ℕ). Contains new (at, n) ↔ (due_of ts n ≡ Some at)) (sym e) (puts.own at)

    elsewhere : (at number : ℕ) → number ≤ place + 1 → 0 < number → number ≢ place + 1
        → Contains new (at, number) ↔ (due_of ts number ≡ Some at)
    elsewhere at number few some apart =
        let stays = puts.others at number apart in
        let was = is.noted at number (omega (arith, few, apart)) some in
        (λ h. was.0 (stays.0 h), λ e. stays.1 (was.1 e))

-- and all are
pub noted-all : (ts : List Timing) (count place : ℕ) (entries : List (ℕ × ℕ)) → length ts ≡ count → count ≤ place
    → AreNumbered count entries → IsNoted ts place entries → IsIndexOf ts entries
noted-all ts count place entries long far are is = record {
  exact = λ at number. (
    λ h. let k = are at number h in (is.noted at number (omega (arith, k.1, far)) k.0).0 h,
    λ e. let k = known ts at number e in (is.noted at number (omega (arith, k.1, far, long)) k.0).1 e,
  );
}

pub numbered-none : (count : ℕ) (entries : List (ℕ × ℕ)) → entries ≡ [] → AreNumbered count entries
numbered-none count entries e =
    subst (λ (es : List (ℕ × ℕ)). AreNumbered count es) (sym e) (λ at number h. absurd (omega (arith, h.1)))

due-is : (w : World) (number : ℕ) (m : Member) → 0 < number → slice_get w.members (number - 1) ≡ Some m
    → due_of (timings_of w) number ≡ next_due (timing_in m)
due-is w zero m h at = absurd (omega (arith, h))
due-is w (suc place) m h at =
    let here : suc place - 1 ≡ place = omega arith in
    ap next_due (timing-read w place m (subst (λ (k : ℕ). slice_get w.members k ≡ Some m) here at))

module _ (grid : Contents) (number : ℕ) (due : Option ℕ) (old new : List (ℕ × ℕ))
    (has : HasNumber (length grid.seats) number) where
  puts-one : ((codes : List Code) (clock : ℕ) (w : World) (m : Member) → Stands codes None clock grid w
      → slice_get w.members (number - 1) ≡ Some m → due ≡ next_due (timing_in m)) → Puts number due old new
      → (codes : List Code) (clock : ℕ) (w : World) → Stands codes None clock grid w
      → Puts number (due_of (timings_of w) number) old new
  puts-one source puts codes clock w st =
      let here = home codes clock grid w (number - 1) st (omega (arith, has.0, has.1)) in
      subst (λ (at : Option ℕ). Puts number at old new)
      (source codes clock w here.member st here.at ∙ sym (due-is w number here.member has.0 here.at)) puts

  -- the entry is what the script's timer says
  pub puts-due : {T E : Type 0} (r : Result T E) → ((codes : List Code) (clock : ℕ) (w : World) (m : Member)
      → Stands codes None clock grid w → slice_get w.members (number - 1) ≡ Some m → due ≡ next_due (timing_in m))
      → OnOk r (Puts number due old new)
      → OnOk r ((codes : List Code) (clock : ℕ) (w : World) → Stands codes None clock grid w
      → Puts number (due_of (timings_of w) number) old new)
  puts-due (Ok t) source puts = puts-one source puts
  puts-due (Err e) source puts = tt

  pub numbered-after : {T E : Type 0} (r : Result T E) → AreNumbered (length grid.seats) old
      → OnOk r (Puts number due old new)
      → OnErr r (new ≡ old) → AreNumbered (length grid.seats) new
  numbered-after (Ok t) are puts same = numbered-put (length grid.seats) number due old new has are puts
  numbered-after (Err e) are puts same =
      subst (λ (es : List (ℕ × ℕ)). AreNumbered (length grid.seats) es) (sym same) are

-- the same for the scripts in their seats: those up to a place are right
pub record IsNotedIn (seats : List Seat) (place : ℕ) (entries : List (ℕ × ℕ)) : Type 0 where
  pub noted : (at k : ℕ) (seat : Seat) (parts : ScriptParts) → k < place → slice_get seats k ≡ Some seat
      → seat.script ≡ Some parts → Contains entries (at, k + 1) ↔ (due_in parts ≡ Some at)

pub noted_in-none : (seats : List Seat) (entries : List (ℕ × ℕ)) → IsNotedIn seats 0 entries
noted_in-none seats entries = record { noted = λ at k seat parts few there home. absurd (omega (arith, few)) }

pub noted_in-put : (seats : List Seat) (place : ℕ) (old new : List (ℕ × ℕ)) → IsNotedIn seats place old
    → PutsIn seats (place + 1) old new → IsNotedIn seats (place + 1) new
noted_in-put seats place old new is puts = record {
  noted = λ at k seat parts few there home.
      ⊎_elim (λ h. own at k seat parts h.1 there home) (λ h. elsewhere at k seat parts few h.1 there home)
      (eqb_tells k place);
}
  where
    own : (at k : ℕ) (seat : Seat) (parts : ScriptParts) → k ≡ place → slice_get seats k ≡ Some seat
        → seat.script ≡ Some parts → Contains new (at, k + 1) ↔ (due_in parts ≡ Some at)
    own at k seat parts e there home =
        let here : k ≡ (place + 1) - 1 = omega (arith, e) in
        let tells : puts.due ≡ due_in parts =
        puts.tells seat parts (subst (λ (n : ℕ). slice_get seats n ≡ Some seat) here there) home in
        subst (λ (n : ℕ). Contains new (at, n + 1) ↔ (due_in parts ≡ Some at)) (sym e)
        (subst (λ (o : Option ℕ). Contains new (at, place + 1) ↔ (o ≡ Some at)) tells (puts.puts.own at))

    elsewhere : (at k : ℕ) (seat : Seat) (parts : ScriptParts) → k < place + 1 → k ≢ place
        → slice_get seats k ≡ Some seat → seat.script ≡ Some parts
        → Contains new (at, k + 1) ↔ (due_in parts ≡ Some at)
    elsewhere at k seat parts few apart there home =
        let stays = puts.puts.others at (k + 1) (λ e. apart (omega (arith, e))) in
        let was = is.noted at k seat parts (omega (arith, few, apart)) there home in
        (λ h. was.0 (stays.0 h), λ e. stays.1 (was.1 e))

pub noted_in-all : (seats : List Seat) (place : ℕ) (entries : List (ℕ × ℕ)) → length seats ≤ place
    → AreNumbered (length seats) entries → IsNotedIn seats place entries → IsIndexIn seats entries
noted_in-all seats place entries far are is = record {
  numbered = are;
  exact = λ at k seat parts there home.
      is.noted at k seat parts (omega (arith, slice_get_within seats k seat there, far)) there home;
}

pub puts-in : {T E : Type 0} (seats : List Seat) (number : ℕ) (due : Option ℕ) (old new : List (ℕ × ℕ))
    (r : Result T E) → ((seat : Seat) (parts : ScriptParts) → slice_get seats (number - 1) ≡ Some seat
    → seat.script ≡ Some parts → due ≡ due_in parts) → OnOk r (Puts number due old new)
    → OnOk r (PutsIn seats number old new)
puts-in seats number due old new (Ok t) tells puts = record { due = due; puts = puts; tells = tells }
puts-in seats number due old new (Err e) tells puts = tt
