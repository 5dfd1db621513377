-- The runs that an awake script's machine is on: a handler's from its start, or that of a restored machine.
use Rattle.std.proofs.Common.{◌≡◌, ℕ, suc, ◌+◌, ◌<◌, ◌≤◌, List, [], ◌++◌, Bool, true, false, cond, Option, None, Some, refl, sym, ap, ◌∙◌, subst, slice_get, arith}
use Rattle.std.proofs.lemmas.Bool.Decides.{nat_tests}
use Rattle.lsl_value.specs.declared.tagged.Value.{Value}
use Rattle.lsl_running.specs.declared.ends.Fault.TheVariants.{StackHeap}
use Rattle.lsl_running.specs.declared.ends.Outcome.{Outcome}
use Rattle.lsl_running.specs.declared.host.Reply.{Reply}
use Rattle.lsl_running.specs.declared.kept.Kept.{Kept}
use Rattle.lsl_running.specs.Charging.{charges_of, default_limit, is_within, script_charge, used}
use Rattle.lsl_code.specs.declared.woven_units.Woven.{Woven as Code}
use Rattle.lsl_code.specs.Acts.{first_slots}
use Rattle.lsl_code.specs.Bodies.{Body}
use Rattle.lsl_code.specs.declared.frames.Frame.{Frame}
use Rattle.lsl_code.specs.Forward.{Forward}
use Rattle.lsl_code.specs.Frames.{parked_charge}
use Rattle.lsl_code.specs.Laws.{with_answers}
use Rattle.lsl_code.specs.Machine.{Machine, Ended, Faulted}
use Rattle.lsl_code.specs.Runs.{Halt, Over, CutAt, run}
use Rattle.lsl_code.specs.Standing.{IsChain}
use Rattle.lsl_code.specs.Wholes.{begun, run_of, started}
use Rattle.lsl_machine.specs.declared.standing.Standing.TheVariants as standing
use Rattle.lsl_machine.specs.Futures.{halt_from}
use Rattle.lsl_machine.specs.State.{CanRun, State, bodies_of, kept_with}
use Rattle.lsl_script.specs.Awake.{GoesOnAs, IsLeft, IsRunOf, IsRunning, Run}
use Rattle.lsl_script.specs.Fitting.{least_limit}
use Rattle.lsl_script.proofs.Leaving.{chain_keeps, left_keeps, IsLeftIn, IsLeftAt, IsChainIn, Anyhow}
use Rattle.lsl_script.proofs.RunKeeps.{KeptAt}
use Rattle.lsl_script.proofs.Staying.{goes_way}
use Rattle.lsl_script.proofs.Units.{sound}

module _ (bodies : List Body) (forward : Forward bodies) where
  cut_chain : (handler t : ℕ) (m at : Machine) → IsChain bodies handler m.calls → run bodies t m ≡ CutAt at
      → IsChain bodies handler at.calls
  cut_chain handler t m at chain e =
      (subst (KeptAt (IsChainIn bodies handler) Anyhow bodies) e (chain_keeps bodies forward handler t m chain)).0

  cut_left : (t : ℕ) (m at : Machine) → IsLeft m.kept → run bodies t m ≡ CutAt at → IsLeft at.kept
  cut_left t m at left e = (subst (KeptAt IsLeftIn IsLeftAt bodies) e (left_keeps bodies forward t m left)).0

  end_left : (t : ℕ) (m : Machine) (way : Outcome) (kept : Kept) → IsLeft m.kept → run bodies t m
      ≡ Over (Ended way kept)
      → IsLeft kept
  end_left t m way kept left e = subst (KeptAt IsLeftIn IsLeftAt bodies) e (left_keeps bodies forward t m left)

  -- from a machine
  pub run_from : (handler : ℕ) (m : Machine) → IsChain bodies handler m.calls → IsLeft m.kept
      → IsRunOf bodies handler (λ t answers. run bodies t (with_answers answers m))
  run_from handler m chain left = record {
    cut = λ t answers at e.
        (cut_chain handler t (with_answers answers m) at chain e, cut_left t (with_answers answers m) at left e);
    ended = λ t answers way kept e. end_left t (with_answers answers m) way kept left e;
  }

  -- from a handler's start
  within_chain : (handler t : ℕ) (kept : Kept) (slots : List Value) (answers : List Reply) (b : Bool) (m : Machine)
      → cond b (run bodies t (begun handler kept slots answers)) (Over (Faulted StackHeap)) ≡ CutAt m
      → IsChain bodies handler m.calls
  within_chain handler t kept slots answers true m e = cut_chain handler t (begun handler kept slots answers) m refl e
  within_chain handler t kept slots answers false m e = absurd cc

  started_chain : (o : Option Body) (handler t : ℕ) (kept : Kept) (args : List Value) (answers : List Reply)
      (m : Machine) → started o bodies handler kept args t answers ≡ CutAt m → IsChain bodies handler m.calls
  started_chain None handler t kept args answers m e = absurd cc
  started_chain (Some body) handler t kept args answers m e =
      within_chain handler t kept (first_slots body args) answers
      (is_within kept (used script_charge (first_slots body args) kept)) m e

  pub chain_begun : (handler : ℕ) (kept : Kept) (args : List Value) (t : ℕ) (answers : List Reply) (m : Machine)
      → run_of bodies handler kept args t answers ≡ CutAt m → IsChain bodies handler m.calls
  chain_begun handler kept args t answers m e = started_chain (slice_get bodies handler) handler t kept args answers m e

  abbrev LeavesAs : Halt → Type 0
  LeavesAs h =
      ((m : Machine) → h ≡ CutAt m → IsLeft m.kept)
      × ((way : Outcome) (kept : Kept) → h ≡ Over (Ended way kept) → IsLeft kept)

  within_leaves : (handler t : ℕ) (kept : Kept) (slots : List Value) (answers : List Reply) → least_limit ≤ kept.limit
      → kept.limit ≤ default_limit → (b : Bool) → is_within kept (used script_charge slots kept) ≡ b
      → LeavesAs (cond b (run bodies t (begun handler kept slots answers)) (Over (Faulted StackHeap)))
  within_leaves handler t kept slots answers least small true within =
      let le : 1024 + 32 + charges_of slots + charges_of kept.globals < suc kept.limit = grind (arith, nat_tests) in
      let left : IsLeft kept = record { least = least; limit = small; charge = omega arith } in (
        λ m e. cut_left t (begun handler kept slots answers) m left e,
        λ way left_kept e. end_left t (begun handler kept slots answers) way left_kept left e,
      )
  within_leaves handler t kept slots answers least small false within = (λ m e. absurd cc, λ way left e. absurd cc)

  started_leaves : (o : Option Body) (handler t : ℕ) (kept : Kept) (args : List Value) (answers : List Reply)
      → least_limit ≤ kept.limit → kept.limit ≤ default_limit → LeavesAs (started o bodies handler kept args t answers)
  started_leaves None handler t kept args answers least small = (λ m e. absurd cc, λ way left e. absurd cc)
  started_leaves (Some body) handler t kept args answers least small =
      within_leaves handler t kept (first_slots body args) answers least small
      (is_within kept (used script_charge (first_slots body args) kept)) refl

  pub run_begun : (handler : ℕ) (kept : Kept) (args : List Value) → least_limit ≤ kept.limit
      → kept.limit ≤ default_limit → IsRunOf bodies handler (run_of bodies handler kept args)
  run_begun handler kept args least small = record {
    cut = λ t answers m e. (
      chain_begun handler kept args t answers m e,
      (started_leaves (slice_get bodies handler) handler t kept args answers least small).0 m e,
    );
    ended = λ t answers. (started_leaves (slice_get bodies handler) handler t kept args answers least small).1;
  }

none_before : (comes : Run) (more : ℕ) (answers : List Reply) → comes (0 + more) ([] ++ answers) ≡ comes more answers
none_before comes more answers = let n : 0 + more ≡ more = omega arith in ap (λ k. comes k answers) n

-- a machine that begins a handler
pub begun_goes : (unit : Code) (handler : ℕ) (kept : Kept) (args : List Value) (s : State)
    → ((ticks : ℕ) (answers : List Reply) → run_of (bodies_of unit) handler kept args ticks answers
    ≡ halt_from s.standing (bodies_of unit) s.machine ticks answers)
    → GoesOnAs (bodies_of unit) (run_of (bodies_of unit) handler kept args) 0 [] s
begun_goes unit handler kept args s runs = record {
  same = λ more answers. none_before (run_of (bodies_of unit) handler kept args) more answers ∙ runs more answers;
}

pub begun_runs : (unit : Code) (handler : ℕ) (kept : Kept) (args : List Value) (s : State) → least_limit ≤ kept.limit
    → kept.limit ≤ default_limit → CanRun s.standing
    → ((ticks : ℕ) (answers : List Reply) → run_of (bodies_of unit) handler kept args ticks answers
    ≡ halt_from s.standing (bodies_of unit) s.machine ticks answers)
    → IsRunning (bodies_of unit) handler s
begun_runs unit handler kept args s least small can runs = record {
  run = run_of (bodies_of unit) handler kept args;
  of = run_begun (bodies_of unit) (sound unit).forward handler kept args least small;
  ticks = 0;
  given = [];
  on_way = goes_way s.standing (bodies_of unit) (run_of (bodies_of unit) handler kept args) 0 [] s can
      (begun_goes unit handler kept args s runs);
}

-- a machine that was restored at a tick
pub restored_runs : (unit : Code) (handler : ℕ) (s : State) → s.standing ≡ standing.AtTick
    → IsChain (bodies_of unit) handler s.machine.calls → IsLeft s.machine.kept → IsRunning (bodies_of unit) handler s
restored_runs unit handler s stands chain left =
    let comes : Run = λ t answers. run (bodies_of unit) t (with_answers answers s.machine) in
    record {
      run = comes;
      of = run_from (bodies_of unit) (sound unit).forward handler s.machine chain left;
      ticks = 0;
      given = [];
      on_way = goes_way s.standing (bodies_of unit) comes 0 [] s (subst CanRun (sym stands) tt) (record {
        same = λ more answers. none_before comes more answers
            ∙ ap (λ z. halt_from z (bodies_of unit) s.machine more answers) (sym stands);
      });
    }

-- frames that are charged within the limit leave globals that are
pub parked_left : (globals : List Value) (limit : ℕ) (frames : List Frame) → least_limit ≤ limit → limit ≤ default_limit
    → parked_charge globals frames ≤ limit → IsLeft (kept_with globals limit)
parked_left globals limit frames least small within =
    record { least = least; limit = small; charge = omega arith }
