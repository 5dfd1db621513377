-- Reading the timers of the scripts that are due is reading all: one that isn't due is left as it is.
use Rattle.std.proofs.Common.{◌≡◌, ◌≢◌, ℕ, zero, suc, ◌+◌, ◌-◌, ◌<◌, ◌≤◌, Bool, true, false, List, [], ◌∷◌, length, map, drop, get_or, refl, ap, sym, ◌∙◌, subst, ⊎_elim, true≢false, arith}
use Rattle.std.specs.Prelude.{All, Contains, Option, Some, None, filter, if◌then◌else◌, nat_le, nat_lt, slice_get}
use Rattle.std.specs.List.{AllByRecursion}
use Rattle.std.specs.List.Sorted.{IsNonDecreasingBy}
use Rattle.std.proofs.lemmas.Bool.Decides.{eqb_tells, nat_tests}
use Rattle.std.proofs.lemmas.List.{get_or-set_other, get_or-set_same, length-map, map-set, set-get_or}
use Rattle.std.proofs.lemmas.List.Elements.{All-contains, All-contains_itself, All-filter, All-from_recursion, All-map, All-weaker, Contains-append_left, Contains-append_right, Contains-push}
use Rattle.std.proofs.lemmas.List.Sorted.{Contains-permutation, IsNonDecreasingBy-drop, IsNonDecreasingBy-from_sort, IsPermutation-sym}
use Rattle.std.proofs.lemmas.Option.{get_or_from_slice_get, slice_get-map, slice_get_within, unwrap_or-slice_get}
use Rattle.std.specs.Option.{option_map, unwrap_or}
use Rattle.std.proofs.lemmas.Bool.{and_parts}
use Rattle.std.proofs.Math.Seq.{drop-cons}
use Rattle.std.proofs.Math.ListN.{drop_of_length-le}
use Rattle.lsl_post.proofs.Amid.{along-more, along-none}
use Rattle.lsl_post.specs.Due.{IsRipe, scripts_due}
use Rattle.lsl_post.specs.Due.{is_due as is_entry_due}
use Rattle.lsl_post.specs.Timing.{Timing, due_after, is_due, stopped, timing_after}
use Rattle.lsl_post.specs.Told.{Told, as_value, each, each_of, lead, next_to, quiet}
use Rattle.lsl_script.specs.Rules.{Rules}
use Rattle.lsl_script.specs.Scripts.{Script, post_to, ring_to, timer_event}
use Rattle.lsl_post.specs.Mailbox.{timer_read}
use Rattle.lsl_region.specs.Posting.{ring_all, ring_at}
use Rattle.lsl_region.specs.Timers.{next_due}
use Rattle.lsl_region.specs.Worlds.{Member, World, changed_at, with_member}
use Rattle.lsl_world.specs.Sizes.{HasNumber}
use Rattle.lsl_world.specs.Timers.{AreNumbered, IsIndexOf, timing_in, timings_of}
use Rattle.lsl_world.proofs.Indexing.{timing-read, world-numbered}
use Rattle.lsl_world.proofs.Timings.{ring-others}

abbrev due_at : World → ℕ → Bool
due_at w place = is_due w.clock (get_or (timings_of w) place stopped)

-- a timer that isn't due is left, and nothing is reported
ring-none : (r : Rules) (place : ℕ) (w : World) → due_at w place ≡ false → ring_at r place w ≡ quiet w
ring-none r place w not_due = go (slice_get w.members place) refl where
  go : (o : Option Member) → slice_get w.members place ≡ o
      → changed_at place (λ m. ring_to r (place + 1) w.clock m.script) w o ≡ quiet w
  go None at = refl
  go (Some m) at =
      let waits : is_due w.clock m.script.mailbox.timing ≡ false =
      ap (is_due w.clock) (sym (timing-read w place m at)) ∙ not_due in
      ap (λ (b : Bool). as_value (λ (s : Script). with_member w place (record m { script = s }))
      (if b
      then post_to r (place + 1) timer_event
      (record m.script { mailbox = timer_read w.clock m.script.mailbox })
      else quiet m.script)) waits
      ∙ ap (λ (x : Member). quiet (with_member w place x)) (sym (get_or_from_slice_get w.members place m m at))
      ∙ ap (λ (ms : List Member). quiet (record w { members = ms })) (set-get_or w.members place m)

-- a timer that was read isn't due
after-read : (clock : ℕ) (t : Timing) → is_due clock (timing_after clock t) ≡ false
after-read clock t = go (is_due clock t) refl where
  go : (b : Bool) → is_due clock t ≡ b → is_due clock (if b then due_after t.period clock else t) ≡ false
  go true e = grind (arith, nat_tests)
  go false e = e

ring-clock : (r : Rules) (place : ℕ) (w : World) → (ring_at r place w).value.clock ≡ w.clock
ring-clock r place w = go (slice_get w.members place) where
  go : (o : Option Member) → (changed_at place (λ m. ring_to r (place + 1) w.clock m.script) w o).value.clock ≡ w.clock
  go None = refl
  go (Some m) = refl

abbrev read_if : Rules → ℕ → ℕ → Script → Bool → Told Script
read_if r number clock s due =
    if due then post_to r number timer_event (record s { mailbox = timer_read clock s.mailbox }) else quiet s

rung-timing : (r : Rules) (number clock : ℕ) (s : Script)
    → (ring_to r number clock s).value.mailbox.timing ≡ timing_after clock s.mailbox.timing
rung-timing r number clock s = go (is_due clock s.mailbox.timing) refl where
  go : (due : Bool) → is_due clock s.mailbox.timing ≡ due
      → (read_if r number clock s due).value.mailbox.timing ≡ timing_after clock s.mailbox.timing
  go true e = refl
  go false e =
      sym (ap (λ (b : Bool). if b then due_after s.mailbox.timing.period clock else s.mailbox.timing) e)

ring-done : (r : Rules) (place : ℕ) (w : World) → due_at (ring_at r place w).value place ≡ false
ring-done r place w = go (slice_get w.members place) refl where
  go : (o : Option Member) → slice_get w.members place ≡ o
      → due_at (changed_at place (λ m. ring_to r (place + 1) w.clock m.script) w o).value place ≡ false
  go None at =
      ap (is_due w.clock)
      (sym (unwrap_or-slice_get (timings_of w) place stopped)
      ∙ ap (λ (o : Option Timing). unwrap_or o stopped)
      (slice_get-map timing_in w.members place ∙ ap (option_map timing_in) at))
  go (Some m) at =
      let s = (ring_to r (place + 1) w.clock m.script).value in
      let n : Member = record m { script = s } in
      let within = slice_get_within w.members place m at in
      ap (is_due w.clock)
      (ap (λ (ts : List Timing). get_or ts place stopped) (map-set timing_in w.members place n)
      ∙ get_or-set_same (timings_of w) place (timing_in n) stopped
      (omega (arith, within, length-map w.members timing_in))
      ∙ rung-timing r (place + 1) w.clock m.script)
      ∙ after-read w.clock (timing_in m)

-- other timers stay due, or not due
ring-others_due : (r : Rules) (place other : ℕ) (w : World) → other ≢ place
    → due_at (ring_at r place w).value other ≡ due_at w other
ring-others_due r place other w apart =
    let v = (ring_at r place w).value in
    let same : get_or (timings_of v) other stopped ≡ get_or (timings_of w) other stopped =
    sym (get_or-set_other (timings_of v) place other stopped stopped apart)
    ∙ ap (λ (ts : List Timing). get_or ts other stopped) (ring-others r place w)
    ∙ get_or-set_other (timings_of w) place other stopped stopped apart in
    ap (λ (t : Timing). is_due v.clock t) same
    ∙ ap (λ (c : ℕ). is_due c (get_or (timings_of w) other stopped)) (ring-clock r place w)

-- the timers of the scripts of these numbers are read
abbrev pub rings : Rules → List ℕ → World → Told World
rings r numbers w = each_of (λ number v. ring_at r (number - 1) v) numbers w

-- numbers in rising order, from low to high
abbrev Rising : ℕ → ℕ → List ℕ → Type 0
Rising low high [] = Unit {0}
Rising low high (n ∷ ns) = (low ≤ n) × (n ≤ high) × Rising n high ns

rising-least : (low high : ℕ) (ns : List ℕ) → Rising low high ns → All (λ n. low ≤ n) ns
rising-least low high ns up = All-from_recursion (λ n. low ≤ n) ns (go low ns (omega arith) up) where
  go : (from : ℕ) (ns : List ℕ) → low ≤ from → Rising from high ns → AllByRecursion (λ n. low ≤ n) ns
  go from [] h up = tt
  go from (n ∷ ns) h up = (omega (arith, h, up.0), go n ns (omega (arith, h, up.0)) up.2)

-- those that are due from a place on are among them
abbrev AreListed : World → ℕ → List ℕ → Type 0
AreListed w first numbers = (place : ℕ) → first ≤ place → due_at w place ≡ true → Contains numbers (suc place)

Contains-rest : (n m : ℕ) (ns : List ℕ) → n ≢ m → Contains (n ∷ ns) m → Contains ns m
Contains-rest n m ns apart (zero, lt, is) = absurd (apart is)
Contains-rest n m ns apart (suc k, lt, is) = (k, omega (arith, lt), is)

module _ (r : Rules) where
  -- at the first place none is due
  passes : (count first : ℕ) (w : World) → due_at w first ≡ false
      → each (ring_at r) (suc count) first w ≡ each (ring_at r) count (first + 1) w
  unfolding each
  passes count first w e =
      ap (λ (a : Told World). next_to a (λ v. each (ring_at r) count (first + 1) v)) (ring-none r first w e)

  module _ (count first : ℕ)
      (more : (numbers : List ℕ) (w : World) → Rising (suc (first + 1)) ((first + 1) + count) numbers
      → AreListed w (first + 1) numbers → each (ring_at r) count (first + 1) w ≡ rings r numbers w) where
    skipped : (numbers : List ℕ) (w : World) → Rising (suc (first + 1)) ((first + 1) + count) numbers
        → AreListed w first numbers → due_at w first ≡ false
        → each (ring_at r) (suc count) first w ≡ rings r numbers w
    skipped numbers w up listed e =
        passes count first w e
        ∙ more numbers w up (λ place h. listed place (omega (arith, h)))

    -- a place whose number isn't listed isn't due
    not-due : (numbers : List ℕ) (w : World) → AreListed w first numbers
        → (Contains numbers (suc first) → ⊥) → due_at w first ≡ false
    not-due numbers w listed absent = go (due_at w first) refl where
      go : (b : Bool) → due_at w first ≡ b → due_at w first ≡ false
      go true e = absurd (absent (listed first (omega arith) e))
      go false e = e

    high : first + suc count ≡ (first + 1) + count
    high = omega arith

    -- the first number is of a later place
    beyond : (n : ℕ) (ns : List ℕ) (w : World) → n ≢ suc first → Rising (suc first) (first + suc count) (n ∷ ns)
        → AreListed w first (n ∷ ns) → each (ring_at r) (suc count) first w ≡ rings r (n ∷ ns) w
    beyond n ns w apart up listed =
        let rising : Rising (suc (first + 1)) ((first + 1) + count) (n ∷ ns) =
        (omega (arith, up.0, apart), omega (arith, up.1), subst (λ (k : ℕ). Rising n k ns) high up.2) in
        skipped (n ∷ ns) w rising listed
        (not-due (n ∷ ns) w listed
        (λ h. let k = All-contains (λ m. suc (first + 1) ≤ m) (n ∷ ns) (suc first)
        (rising-least (suc (first + 1)) ((first + 1) + count) (n ∷ ns) rising) h in omega (arith, k)))

    -- it is of this place: after its reading the others are listed
    among : (n : ℕ) (ns : List ℕ) (w : World) → n ≡ suc first → AreListed w first (n ∷ ns)
        → AreListed (ring_at r first w).value first ns
    among n ns w e listed = λ place h due.
        let v = (ring_at r first w).value in
        let apart : place ≢ first =
        λ k. true≢false (sym due ∙ ap (λ (p : ℕ). due_at v p) k ∙ ring-done r first w) in
        Contains-rest n (suc place) ns (λ k. apart (omega (arith, k, e)))
        (listed place h (sym (ring-others_due r first place w apart) ∙ due))

    here : (n : ℕ) (ns : List ℕ) (w : World) → n ≡ suc first
        → each (ring_at r) (suc count) first (ring_at r first w).value ≡ rings r ns (ring_at r first w).value
        → each (ring_at r) (suc count) first w ≡ rings r (n ∷ ns) w
    unfolding each each_of
    here n ns w e others_rung =
        let place : first ≡ n - 1 = omega (arith, e) in
        ap (λ (a : Told World). lead (ring_at r first w).entries a)
        (sym (passes count first (ring_at r first w).value (ring-done r first w)) ∙ others_rung)
        ∙ ap (λ (k : ℕ). next_to (ring_at r k w) (λ u. rings r ns u)) place

    stepped : (numbers : List ℕ) (w : World) → Rising (suc first) (first + suc count) numbers
        → AreListed w first numbers → each (ring_at r) (suc count) first w ≡ rings r numbers w
    stepped [] w up listed =
        skipped [] w tt listed (not-due [] w listed (λ h. absurd (omega (arith, h.1))))
    stepped (n ∷ ns) w up listed =
        ⊎_elim
        (λ h. here n ns w h.1
        (stepped ns (ring_at r first w).value
        (subst (λ (k : ℕ). Rising k (first + suc count) ns) h.1 up.2) (among n ns w h.1 listed)))
        (λ h. beyond n ns w h.1 up listed) (eqb_tells n (suc first))

  pub rings-each : (count first : ℕ) (numbers : List ℕ) (w : World) → Rising (suc first) (first + count) numbers
      → AreListed w first numbers → each (ring_at r) count first w ≡ rings r numbers w
  unfolding each each_of
  rings-each zero first [] w up listed = refl
  rings-each zero first (n ∷ ns) w up listed = absurd (omega (arith, up.0, up.1))
  rings-each (suc count) first numbers w up listed =
      stepped count first (rings-each count (first + 1)) numbers w up listed

-- the entries that are due
abbrev AreDueIn : ℕ → List (ℕ × ℕ) → List ℕ → Type 0
AreDueIn clock entries scripts =
    AllByRecursion (λ (d : ℕ × ℕ). is_entry_due clock d ≡ true → Contains scripts d.1) entries

module _ (clock : ℕ) (e : ℕ × ℕ) (entries : List (ℕ × ℕ)) where
  abbrev scripts_if : Bool → List ℕ
  scripts_if b =
      map (λ (d : ℕ × ℕ). d.1)
      (if b then e ∷ filter (is_entry_due clock) entries else filter (is_entry_due clock) entries)

  entry-behind : (b : Bool) (n : ℕ) → Contains (scripts_due clock entries) n → Contains (scripts_if b) n
  entry-behind true n h = Contains-append_right (e.1 ∷ []) (scripts_due clock entries) n h
  entry-behind false n h = h

  entry-first : (b : Bool) → b ≡ true → Contains (scripts_if b) e.1
  entry-first true k = Contains-append_left (e.1 ∷ []) (scripts_due clock entries) e.1 (Contains-push [] e.1)
  entry-first false k = absurd (cc)

  entries-behind : (ds : List (ℕ × ℕ)) → AreDueIn clock ds (scripts_due clock entries)
      → AreDueIn clock ds (scripts_if (is_entry_due clock e))
  entries-behind [] h = tt
  entries-behind (d ∷ ds) h =
      (λ k. entry-behind (is_entry_due clock e) d.1 (h.0 k), entries-behind ds h.1)

due-listed : (clock : ℕ) (entries : List (ℕ × ℕ)) → AreDueIn clock entries (scripts_due clock entries)
due-listed clock [] = tt
due-listed clock (e ∷ entries) = (
  entry-first clock e entries (is_entry_due clock e),
  entries-behind clock e entries entries
      (due-listed clock entries),
)

record HasEntry (entries : List (ℕ × ℕ)) (number : ℕ) : Type 0 where
  pub at : ℕ
  pub has : Contains entries (at, number)

listed-due : (clock : ℕ) (entries : List (ℕ × ℕ)) → All (HasEntry entries) (scripts_due clock entries)
listed-due clock entries =
    All-map (HasEntry entries) (λ (e : ℕ × ℕ). e.1) (filter (is_entry_due clock) entries)
    (All-weaker (Contains entries) (λ (e : ℕ × ℕ). HasEntry entries e.1) (λ e h. record { at = e.0; has = h })
    (filter (is_entry_due clock) entries)
    (All-filter (is_entry_due clock) (Contains entries) entries (All-contains_itself entries)))

-- a sorted list of numbers
rising-from : (low high : ℕ) (ns : List ℕ) → IsNonDecreasingBy (λ (n : ℕ). n) ns
    → All (λ n. (low ≤ n) × (n ≤ high)) ns → Rising low high ns
rising-from low high [] up all = tt
rising-from low high (n ∷ ns) up all =
    let first = all 0 n (omega arith) in (
      first.0,
      first.1,
      rising-from n high ns (IsNonDecreasingBy-drop (λ (n : ℕ). n) 1 (n ∷ ns) up)
          (λ k d lt. (up 0 (suc k) d (omega arith) (omega (arith, lt)), (all (suc k) d (omega (arith, lt))).1)),
    )

-- the numbers that are due are those of scripts that are there
pub ripe-there : (count clock : ℕ) (entries : List (ℕ × ℕ)) (scripts : List ℕ) → AreNumbered count entries
    → IsRipe clock entries scripts → All (HasNumber count) scripts
ripe-there count clock entries scripts are ripe =
    All-weaker (Contains scripts) (HasNumber count) numbered scripts (All-contains_itself scripts)
  where
    numbered : (n : ℕ) → Contains scripts n → HasNumber count n
    numbered n h =
        let due = Contains-permutation scripts (scripts_due clock entries) n
        (IsPermutation-sym (scripts_due clock entries) scripts ripe.exact) h in
        let entry = All-contains (HasEntry entries) (scripts_due clock entries) n (listed-due clock entries) due in
        are entry.at n entry.has

module _ (w : World) (entries : List (ℕ × ℕ)) (scripts : List ℕ) (index : IsIndexOf (timings_of w) entries)
    (ripe : IsRipe w.clock entries scripts) where
  ripe-listed : AreListed w 0 scripts
  ripe-listed place h due =
      let t = get_or (timings_of w) place stopped in
      let parts = and_parts (nat_lt 0 t.period) (nat_le t.due w.clock) due in
      let runs : next_due t ≡ Some t.due = ap (λ (b : Bool). if b then Some t.due else None) parts.0 in
      let there = (index.exact t.due (suc place)).1 runs in
      Contains-permutation (scripts_due w.clock entries) scripts (suc place) ripe.exact
      (All-contains (λ (e : ℕ × ℕ). is_entry_due w.clock e ≡ true → Contains (scripts_due w.clock entries) e.1)
      entries (t.due, suc place)
      (All-from_recursion
      (λ (e : ℕ × ℕ). is_entry_due w.clock e ≡ true → Contains (scripts_due w.clock entries) e.1) entries
      (due-listed w.clock entries)) there parts.1)

  -- reading these is reading all
  pub ripe-all : (r : Rules) → ring_all r w ≡ rings r scripts w
  ripe-all r =
      rings-each r (length w.members) 0 scripts w
      (rising-from 1 (0 + length w.members) scripts (IsNonDecreasingBy-from_sort (λ (n : ℕ). n) scripts ripe.rising)
      (λ k d lt. let n = ripe-there (length w.members) w.clock entries scripts
      (world-numbered w (length w.members) entries refl index) ripe k d lt in (omega (arith, n.0), omega (arith, n.1))))
      ripe-listed

-- the timers of what is left of the numbers
pub ring-next : (r : Rules) (numbers : List ℕ) (i d : ℕ) → i < length numbers → (x : World)
    → rings r (drop i numbers) x ≡ next_to (ring_at r (get_or numbers i d - 1) x) (rings r (drop (i + 1) numbers))
ring-next r numbers i d h x =
    let s : i + 1 ≡ suc i = omega arith in
    along-more (λ n v. ring_at r (n - 1) v) (drop i numbers) (get_or numbers i d) (drop (i + 1) numbers)
    (drop-cons numbers i d h ∙ ap (λ (k : ℕ). get_or numbers i d ∷ drop k numbers) (sym s)) x

pub ring-end : (r : Rules) (numbers : List ℕ) (i : ℕ) → length numbers ≤ i → (x : World)
    → rings r (drop i numbers) x ≡ quiet x
ring-end r numbers i h x =
    along-none (λ n v. ring_at r (n - 1) v) (drop i numbers) (drop_of_length-le numbers h) x
