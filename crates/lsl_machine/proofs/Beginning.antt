-- A handler begins.
use Rattle.std.proofs.Common.{map, nat_le, ◌≡◌, ◌∙◌, refl, sym, ap, subst, arith, ℕ, ◌+◌, ◌<◌, ◌≤◌, List, [], length, Bool, true, false, cond, Option, Some, None, slice_get, get_or}
use Rattle.std.proofs.lemmas.List.{append-nil}
use Rattle.std.proofs.lemmas.Bool.Decides.{nat_tests}
use Rattle.lsl_value.specs.declared.tagged.Value.{Value}
use Rattle.lsl_running.specs.declared.ends.Fault.TheVariants.{StackHeap}
use Rattle.lsl_running.specs.declared.host.Reply.{Reply}
use Rattle.lsl_running.specs.declared.kept.Kept.{Kept}
use Rattle.lsl_running.specs.Charging.{script_charge, charges_of, used, is_within}
use Rattle.lsl_code.specs.declared.woven_functions.WovenCode.{WovenCode}
use Rattle.lsl_code.specs.Acts.{first_slots}
use Rattle.lsl_code.specs.Bodies.{Body}
use Rattle.lsl_code.specs.WovenBodies.{woven_body}
use Rattle.lsl_code.specs.Laws.{with_answers}
use Rattle.lsl_code.specs.Machine.{Faulted, call_at}
use Rattle.lsl_code.specs.Runs.{Over, run}
use Rattle.lsl_code.proofs.UnitTold.{woven_tells}
use Rattle.lsl_code.specs.Standing.{IsChain}
use Rattle.lsl_machine.specs.declared.running.Activation.{Activation}
use Rattle.lsl_machine.specs.declared.running.Running.{Running}
use Rattle.lsl_machine.specs.Laid.{machine_of}
use Rattle.std.proofs.Common.{min}
use Rattle.lsl_code.specs.declared.woven_units.Woven.{Woven as Code}
use Rattle.lsl_code.specs.Kinds.{kinds_of}
use Rattle.lsl_code.specs.Wholes.{started, begun, run_of}
use Rattle.lsl_code.proofs.MachineKinds.{begins_kinded}
use Rattle.lsl_machine.specs.declared.standing.Standing.{Standing}
use Rattle.lsl_machine.specs.declared.standing.Standing.TheVariants as standing
use Rattle.lsl_machine.specs.Entry.{Begins}
use Rattle.lsl_machine.specs.Futures.{halt_from, ticks_passed}
use Rattle.lsl_machine.specs.Laid.{state_of, IsLaid}
use Rattle.lsl_machine.proofs.Parting.{body_at}
use Rattle.std.proofs.lemmas.Option.{slice_get_within}
use Rattle.std.proofs.lemmas.List.{length-map}
use Rattle.lsl_machine.specs.State.{State, AreArguments, CanRun, IsKinded, IsChained, IsOf, bodies_of, kept_with}
use Rattle.lsl_code.specs.Machine.{Machine}
use Rattle.std.specs.Prelude.{vec_capacity}
use Rattle.lsl_machine.specs.Rooms.{IsReserved}
use Rattle.lsl_machine.specs.Reservations.{HasEntered}
use Rattle.lsl_machine.proofs.Reserving.{entered_reserved}
use Rattle.lsl_machine.proofs.Viewing.{machine_view}

-- the fields of a machine that begins
pub begins : (r : Running) (f limit c1 c2 : ℕ) (globals slots : List Value) → limit ≤ 65536
    → c1 ≡ min (1056 + charges_of slots) 18446744073709551615
    → c2 ≡ min (0 + charges_of globals) 18446744073709551615
    → r.stack.items ≡ slots → r.callers.items ≡ [] → r.globals.items ≡ globals → r.global_charge ≡ c2
    → r.limit ≡ limit
    → r.active ≡ record { function = f; place = 0; base = 0; floor = length slots; charge = c1 }
    → Begins f globals limit slots r (cond (nat_le (c1 + c2) limit) standing.Ready standing.Full)
begins r f limit c1 c2 globals slots small e1 e2 st ca gl gc li ac = go (nat_le (c1 + c2) limit) refl where
  go : (b : Bool) → nat_le (c1 + c2) limit ≡ b
      → Begins f globals limit slots r (cond b standing.Ready standing.Full)
  go true e =
      let le : c1 + c2 ≤ limit = grind (arith, nat_tests) in
      let one : c1 ≡ 1024 + 32 + charges_of slots = omega arith in
      let two : c2 ≡ charges_of globals = omega arith in
      record {
        stack = st ∙ sym (append-nil slots);
        callers = ca;
        active = ac ∙ ap {A = ℕ} {B = Activation}
            (λ x. record { function = f; place = 0; base = 0; floor = length slots; charge = x }) one;
        globals = gl;
        global_charge = gc ∙ two;
        limit = li;
        small = small;
        within = omega arith;
      }
  go false e =
      let lt : limit < c1 + c2 = grind (arith, nat_tests) in
      omega arith

pub body_of_arguments : (o : Option Body) (args : List Value) → AreArguments o args → (body : Body)
    × (o ≡ Some body) × (kinds_of args ≡ body.params)
body_of_arguments None args a = absurd a
body_of_arguments (Some body) args a = (body, refl, a)

-- the result of a machine that begins
pub record HasBegun (unit : Code) (f : ℕ) (kept : Kept) (args : List Value) (s : State) : Type 0 where
  pub runs : (t : ℕ) (a : List Reply) → run_of (bodies_of unit) f kept args t a ≡ halt_from s.standing (bodies_of unit)
      s.machine t a
  pub ready : CanRun s.standing
  pub behind : ticks_passed s.standing ≡ 0
  pub of : IsOf unit s
  pub chained : IsChained (bodies_of unit) f s

pub has_begun : (unit : Code) (f limit : ℕ) (globals args : List Value) (body : Body) (r : Running) (s : Standing)
    → slice_get (bodies_of unit) f ≡ Some body
    → kinds_of globals ≡ kinds_of unit.globals → kinds_of args ≡ body.params
    → Begins f globals limit (first_slots body args) r s → HasEntered (bodies_of unit) r
    → HasBegun unit f (kept_with globals limit) args (state_of r s)
has_begun unit f limit globals args body r standing.Ready there kg ka h entered =
    let bodies = bodies_of unit in
    let kept = kept_with globals limit in
    let slots = first_slots body args in
    let view : machine_of r ≡ begun f kept slots [] = machine_view r kept (call_at f 0 slots []) [] h in
    let w : 1024 + 32 + charges_of slots + charges_of globals ≤ limit = h.within in
    let yes : is_within kept (used script_charge slots kept) ≡ true =
    within_is (1024 + 32 + charges_of slots + charges_of globals) limit w in
    record {
      runs = λ t a. ap (λ o. started o bodies f kept args t a) there
          ∙ ap (λ b. cond b (run bodies t (begun f kept slots a)) (Over (Faulted StackHeap))) yes
          ∙ ap (λ m. run bodies t (with_answers a m)) (sym view);
      ready = tt;
      behind = refl;
      of = (
        subst (IsKinded unit) (sym view)
            (begins_kinded unit.globals unit.states bodies
            (woven_tells unit.globals unit.states bodies unit.woven) f body kept args [] there kg ka),
        subst (λ (m : Machine). IsReserved bodies (vec_capacity r.stack) m.calls) (sym view)
            (entered_reserved bodies r kept f slots [] h entered, tt),
        (f, subst (λ (m : Machine). IsChain bodies f m.calls) (sym view) refl),
      );
      chained = subst (λ (m : Machine). IsChain bodies f m.calls) (sym view) refl;
    }
  where
    within_is : (n limit : ℕ) → n ≤ limit → nat_le n limit ≡ true
    within_is n limit le = grind (arith, nat_tests)
has_begun unit f limit globals args body r standing.Full there kg ka h entered =
    let bodies = bodies_of unit in
    let kept = kept_with globals limit in
    let slots = first_slots body args in
    let no_room : is_within kept (used script_charge slots kept) ≡ false =
    over_is (used script_charge slots kept) limit h in
    record {
      runs = λ t a. ap (λ o. started o bodies f kept args t a) there
          ∙ ap (λ b. cond b (run bodies t (begun f kept slots a)) (Over (Faulted StackHeap))) no_room;
      ready = tt;
      behind = refl;
      of = (tt, tt, (f, tt));
      chained = tt;
    }
  where
    over_is : (n limit : ℕ) → limit < n → nat_le n limit ≡ false
    over_is n limit lt = grind (arith, nat_tests)
has_begun unit f limit globals args body r s there kg ka h entered = absurd h

pub begun_laid : (f limit : ℕ) (globals slots : List Value) (r : Running) (s : Standing)
    → Begins f globals limit slots r s → IsLaid r s
begun_laid f limit globals slots r standing.Ready h = (kept_with globals limit, f, 0, slots, [], [], h)
begun_laid f limit globals slots r standing.Full h = tt
begun_laid f limit globals slots r s h = absurd h

pub bodies_same : (fs gs : List WovenCode) (k : ℕ) (fn : WovenCode) (body : Body) → gs ≡ fs
    → fn ≡ get_or gs k fn → slice_get (map woven_body fs) k ≡ Some body → woven_body fn ≡ body
bodies_same fs gs k fn body e is there =
    let within = slice_get_within (map woven_body fs) k body there in
    let len = length-map fs woven_body in
    let at = body_at fs k fn (omega arith) (is ∙ ap (λ l. get_or l k fn) e) in
    let same : Some (woven_body fn) ≡ Some body = sym at ∙ there in
    cc
