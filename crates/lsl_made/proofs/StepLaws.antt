-- The laws of the steps of a number.
use Rattle.std.proofs.Common.{◌≡◌, ℕ, suc, ◌+◌, ◌*◌, ◌/◌, ◌%◌, ◌<◌, ◌≤◌, length, get_or, Some, None, refl, sym, subst, arith}
use Rattle.std.specs.List.{All, AllByRecursion, AllPairs}
use Rattle.std.proofs.lemmas.List.FromFn.{get_or-map-range_with_len, length-map-range_with_len}
use Rattle.lsl_made.specs.declared.step.Step.{Step}
use Rattle.lsl_made.specs.Laws.{IsInRange, IsNoLater, IsRun, reading_of}
use Rattle.lsl_made.specs.Numbers.{drawn_at, number_after, number_at}
use Rattle.lsl_made.specs.Steps.{first_steps, rows, step_at, steps_of}
use Rattle.lsl_made.proofs.Rows.{step_of-each}

number_after-lt : (x : ℕ) → number_after x < 2147483648
unfolding number_after
number_after-lt x = omega arith

drawn_at-lt : (number place : ℕ) → drawn_at number (suc place) < 32768
unfolding number_at
drawn_at-lt number place =
    let below = number_after-lt (number_at number place) in
    omega arith

in_range_rows : (place drawn : ℕ) → place ≤ 4000 → drawn < 32768 → AllByRecursion IsInRange (rows place drawn)
in_range_rows place drawn early small =
    let from : 1 ≤ drawn % 8 + 1 = omega arith in
    let to : drawn % 8 + 1 ≤ 8 = omega arith in
    let ticks : drawn / 64 % 40 < 40 = omega arith in
    let three : 3 < 40 = omega arith in
    let gap : drawn / 64 % 5 < 5 = omega arith in
    let reading : 500 * place ≤ 2000000 = omega arith in (
      (from, to),
      (
        reading,
        (((from, to), ticks), (refl, ((from, to), (gap, (small, (((from, to), three), tt)))))),
      ),
    )

step_at-in_range : (number place : ℕ) → place < 4000 → IsInRange (step_at number (suc place))
step_at-in_range number place early =
    step_of-each IsInRange (suc place) (drawn_at number (suc place))
    (in_range_rows (suc place) (drawn_at number (suc place)) (omega arith) (drawn_at-lt number place))

-- the clock is set to 500 times the place
reading_rows : (place drawn : ℕ) → AllByRecursion (λ step. (m : ℕ) → reading_of step ≡ Some m → m ≡ 500 * place)
    (rows place drawn)
reading_rows place drawn =
    let none : (m : ℕ) → None ≡ Some m → m ≡ 500 * place = λ m e. cc in
    let some : (m : ℕ) → Some (500 * place) ≡ Some m → m ≡ 500 * place = λ m e. cc in
    (none, (some, (none, (none, (none, (none, (none, (none, tt))))))))

reading_at : (number place m : ℕ) → reading_of (step_at number place) ≡ Some m → m ≡ 500 * place
reading_at number place =
    step_of-each (λ step. (m : ℕ) → reading_of step ≡ Some m → m ≡ 500 * place) place (drawn_at number place)
    (reading_rows place (drawn_at number place))

length-first_steps : (number count : ℕ) → length (first_steps number count) ≡ count
unfolding first_steps
length-first_steps number count = length-map-range_with_len (step_at number) 1 count

first_steps-at : (number count k : ℕ) (d : Step) → k < count
    → get_or (first_steps number count) k d ≡ step_at number (suc k)
unfolding first_steps
first_steps-at number count k d h =
    get_or-map-range_with_len (step_at number) 1 count k (suc k) d h (omega arith)

length-steps_of : (number : ℕ) → length (steps_of number) ≡ 4000
unfolding steps_of
length-steps_of number = length-first_steps number 4000

steps_of-in_range : (number : ℕ) → All IsInRange (steps_of number)
unfolding steps_of
steps_of-in_range number k d h =
    let early : k < 4000 = omega (arith, length-first_steps number 4000) in
    subst IsInRange (sym (first_steps-at number 4000 k d early)) (step_at-in_range number k early)

steps_of-no_later : (number : ℕ) → AllPairs IsNoLater (steps_of number)
unfolding steps_of
steps_of-no_later number i j d order h m n first second =
    let later : j < 4000 = omega (arith, length-first_steps number 4000) in
    let earlier : i < 4000 = omega arith in
    let at_first = first_steps-at number 4000 i d earlier in
    let at_second = first_steps-at number 4000 j d later in
    let one : m ≡ 500 * suc i = reading_at number (suc i) m (rw at_first at first) in
    let two : n ≡ 500 * suc j = reading_at number (suc j) n (rw at_second at second) in
    omega arith

pub steps_run : (number : ℕ) → IsRun (steps_of number)
steps_run number = record {
  count = length-steps_of number;
  ranges = steps_of-in_range number;
  clocks = steps_of-no_later number;
}
