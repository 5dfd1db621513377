-- Calls that are restored: entered again, charged, and continued.
use Rattle.std.proofs.Common.{◌≡◌, ◌∙◌, refl, sym, ap, subst, arith, ℕ, ◌+◌, ◌≤◌, true, false, List, [], ◌∷◌, ◌++◌, drop, length, map, min, Some, option_map, vec_capacity}
use Rattle.std.specs.Prelude.{slice_get}
use Rattle.std.proofs.lemmas.List.{append-nil, map-append}
use Rattle.lsl_value.specs.declared.tagged.Value.{Value}
use Rattle.lsl_running.specs.declared.kept.Kept.{Kept}
use Rattle.lsl_running.specs.Charging.{charges_of, default_limit}
use Rattle.lsl_running.specs.Values.{empty_of}
use Rattle.lsl_code.specs.declared.frames.Frame.{Frame}
use Rattle.lsl_code.specs.declared.instructions.Instr.TheVariants.{Again, Awake}
use Rattle.lsl_code.specs.Bodies.{Body, instruction_in, instruction_at}
use Rattle.lsl_code.specs.Machine.{MachineCall, base, used_in}
use Rattle.lsl_code.specs.Modes.{landing}
use Rattle.lsl_code.specs.Packs.{Packed}
use Rattle.lsl_code.specs.Restoring.{restoring, blank, lands}
use Rattle.lsl_machine.specs.declared.restoring.Restorer.{Restorer}
use Rattle.lsl_machine.specs.declared.running.Activation.{Activation}
use Rattle.lsl_machine.specs.declared.running.Running.{Running}
use Rattle.lsl_machine.specs.Laid.{flat, activation, activations, Lays}
use Rattle.lsl_machine.specs.Rooms.{most_of}
use Rattle.lsl_machine.specs.CallsRestored.{Backs, CameTo, IsRestoring, capped}
use Rattle.lsl_machine.proofs.Putting.{put_place}
use Rattle.lsl_machine.proofs.Reserving.{flat_depth, reserved_more}
use Rattle.lsl_machine.proofs.Totals.{base_more, above_charge}

-- the call where it lands
pub landed : (bodies : List Body) (r t : Restorer) (c : MachineCall) (outer : List MachineCall) (point : ℕ)
    (hand : List Value) (sack : List Frame) → IsRestoring bodies r c outer point hand sack
    → t ≡ record r {
      active = record r.active {
        place = landing
            (instruction_at bodies r.active.function (r.active.place + 1)) (r.active.place + 1);
      };
    }
    → IsRestoring bodies t (lands (slice_get bodies c.function) c) outer point hand sack
landed bodies r t c outer point hand sack h is =
    let place : landing (instruction_at bodies r.active.function (r.active.place + 1)) (r.active.place + 1)
    ≡ landing (instruction_in (slice_get bodies c.function) (c.place + 1)) (c.place + 1) =
    ap (λ f. landing (instruction_at bodies f (r.active.place + 1)) (r.active.place + 1)) h.function
    ∙ ap (λ p. landing (instruction_at bodies c.function (p + 1)) (p + 1)) h.place in
    put_place bodies r t c outer point
    (landing (instruction_in (slice_get bodies c.function) (c.place + 1)) (c.place + 1)) hand sack h
    (is ∙ ap {A = ℕ} {B = Restorer} (λ p. record r { active = record r.active { place = p } }) place)

pub awoken : (bodies : List Body) (r t : Restorer)
    → t ≡ record r {
      active = record r.active {
        place = landing
            (instruction_at bodies r.active.function (r.active.place + 1)) (r.active.place + 1);
      };
    }
    → Backs bodies Awake r true t
awoken bodies r t is c outer point hand sack h = (refl, landed bodies r t c outer point hand sack h is)

-- what the call and the calls around it are charged
pub charge_is : (bodies : List Body) (r : Restorer) (c : MachineCall) (outer : List MachineCall) (point : ℕ)
    (hand : List Value) (sack : List Frame) → IsRestoring bodies r c outer point hand sack → (held charge : ℕ)
    → held ≡ min (r.active.charge + 32) 18446744073709551615
    → charge ≡ min (held + charges_of (drop r.active.base r.stack.items)) 18446744073709551615
    → charge ≡ min (base (c ∷ outer)) 18446744073709551615
charge_is bodies r c outer point hand sack h held charge a b =
    let above = ap (λ n. charges_of (drop n r.stack.items)) h.base_is
    ∙ ap (λ l. charges_of (drop (length (flat outer)) l)) h.values ∙ above_charge c outer in
    let more = base_more c outer in
    let before = h.charge in
    omega arith

-- a function is entered again
pub entered_again : (bodies : List Body) (old r t : Restorer) (callee charge : ℕ) (w : Body)
    → r ≡ record old {
      active = record old.active {
        place = landing
            (instruction_at bodies old.active.function (old.active.place + 1)) (old.active.place + 1);
      };
    }
    → slice_get bodies callee ≡ Some w
    → ((c : MachineCall) (outer : List MachineCall) (point : ℕ) (hand : List Value) (sack : List Frame)
    → IsRestoring bodies r c outer point hand sack → charge ≡ min (base (c ∷ outer)) 18446744073709551615)
    → t.stack.items ≡ r.stack.items ++ map empty_of w.slots
    → length t.stack.items + w.most ≤ vec_capacity t.stack → vec_capacity r.stack ≤ vec_capacity t.stack
    → t.callers.items ≡ r.callers.items ++ (record r.active { charge = charge }) ∷ []
    → t.active ≡ record {
      function = callee;
      place = 0;
      base = length r.stack.items;
      floor = length t.stack.items;
      charge = charge;
    } → t.point ≡ r.point → t.pack ≡ r.pack → Backs bodies (Again callee) old false t
entered_again bodies old r t callee charge w land found charged stack room grows callers active point pack c
    outer p hand sack h =
    let c' = lands (slice_get bodies c.function) c in
    let here = landed bodies old r c outer p hand sack h land in
    let total = charged c' outer p hand sack here in
    let kept : record r.active { charge = charge } ≡ capped (activation c' outer) =
    active_same r.active (capped (activation c' outer)) charge here.function here.place here.base_is here.floor total
    in
    let deep = flat_depth (c' ∷ outer) in
    let lies : t.stack.items ≡ flat (c' ∷ outer) ++ map empty_of w.slots =
    stack ∙ ap (λ l. l ++ map empty_of w.slots) here.values in
    let len = ap length here.values in
    let all = ap length lies in
    let parts = length_parts (flat (c' ∷ outer)) (map empty_of w.slots) in
    let most = ap most_of found in
    let now : IsRestoring bodies t (blank callee w) (c' ∷ outer) p hand sack =
    record {
      values = lies ∙ sym (append-nil (flat (c' ∷ outer) ++ map empty_of w.slots));
      waiting = callers ∙ ap (λ l. l ++ (record r.active { charge = charge }) ∷ []) here.waiting
          ∙ ap (λ a. map capped (activations outer) ++ a ∷ []) kept
          ∙ sym (map-append capped (activations outer) (activation c' outer ∷ []));
      function = ap (λ (a : Activation). a.function) active;
      place = ap (λ (a : Activation). a.place) active;
      base_is = ap (λ (a : Activation). a.base) active ∙ len;
      floor = ap (λ (a : Activation). a.floor) active ∙ all;
      charge = ap (λ (a : Activation). a.charge) active ∙ total;
      at_point = point ∙ here.at_point;
      in_hand = ap (λ (x : Packed). x.hand) pack ∙ here.in_hand;
      frames = ap (λ (x : Packed). x.frames) pack ∙ here.frames;
      reserved = (
        omega arith,
        reserved_more bodies (vec_capacity r.stack) (vec_capacity t.stack) (c' ∷ outer) grows here.reserved,
      );
    } in
    subst (λ o. CameTo bodies (option_map (λ callee'. restoring (blank callee callee' ∷ c' ∷ outer) p hand sack) o)
    false t) (sym found) (refl, now)
  where
    length_parts : (xs ys : List Value) → length (xs ++ ys) ≡ length xs + length ys
    length_parts [] ys = omega arith
    length_parts (x ∷ xs) ys = let e = length_parts xs ys in omega arith

    active_same : (a b : Activation) (charge : ℕ) → a.function ≡ b.function → a.place ≡ b.place → a.base ≡ b.base
        → a.floor ≡ b.floor → charge ≡ b.charge → record a { charge = charge } ≡ b
    active_same a b charge f p l o e =
        ap {A = ℕ} {B = Activation}
        (λ x. record { function = x; place = a.place; base = a.base; floor = a.floor; charge = charge }) f
        ∙ ap {A = ℕ} {B = Activation}
        (λ x. record { function = b.function; place = x; base = a.base; floor = a.floor; charge = charge }) p
        ∙ ap {A = ℕ} {B = Activation}
        (λ x. record { function = b.function; place = b.place; base = x; floor = a.floor; charge = charge }) l
        ∙ ap {A = ℕ} {B = Activation}
        (λ x. record { function = b.function; place = b.place; base = b.base; floor = x; charge = charge }) o
        ∙ ap {A = ℕ} {B = Activation}
        (λ x. record { function = b.function; place = b.place; base = b.base; floor = b.floor; charge = x }) e

-- a call with less than the greatest charge is kept as it is
pub uncapped : (calls : List MachineCall) → base calls ≤ 18446744073709551615
    → map capped (activations calls) ≡ activations calls
uncapped [] le = refl
uncapped (c ∷ outer) le =
    let more = base_more c outer in
    let less : min (base (c ∷ outer)) 18446744073709551615 ≡ base (c ∷ outer) = omega arith in
    map-append capped (activations outer) (activation c outer ∷ [])
    ∙ ap (λ l. l ++ capped (activation c outer) ∷ []) (uncapped outer (omega arith))
    ∙ ap {A = ℕ} {B = List Activation} (λ n. activations outer ++ record {
      function = c.function;
      place = c.place;
      base = length (flat outer);
      floor = length (flat outer ++ c.slots);
      charge = n;
    } ∷ []) less

-- the machine that runs on
pub finished : (bodies : List Body) (s : Restorer) (r : Running) (c : MachineCall) (outer : List MachineCall)
    (point : ℕ) (hand : List Value) (sack : List Frame) (kept : Kept) (charge globals : ℕ)
    → IsRestoring bodies s c outer point hand sack
    → kept.limit ≤ default_limit → used_in (c ∷ outer) kept ≤ kept.limit
    → charge ≡ min (base (c ∷ outer)) 18446744073709551615
    → globals ≡ min (0 + charges_of kept.globals) 18446744073709551615
    → r.stack ≡ s.stack → r.callers ≡ s.callers → r.active ≡ record s.active { charge = charge }
    → r.globals.items ≡ kept.globals → r.global_charge ≡ globals → r.limit ≡ kept.limit → Lays r kept c outer
finished bodies s r c outer point hand sack kept charge globals h small within total all stack callers active gl gc
    limit =
    let used : base (c ∷ outer) + charges_of kept.globals ≤ kept.limit = within in
    let top : charge ≡ base (c ∷ outer) = omega arith in
    let more = base_more c outer in
    record {
      stack = ap (λ x. x.items) stack ∙ h.values;
      callers = ap (λ x. x.items) callers ∙ h.waiting ∙ uncapped outer (omega arith);
      active = active
          ∙ ap {A = ℕ} {B = Activation} (λ x. record {
            function = x;
            place = s.active.place;
            base = s.active.base;
            floor = s.active.floor;
            charge = charge;
          }) h.function
          ∙ ap {A = ℕ} {B = Activation} (λ x. record {
            function = c.function;
            place = x;
            base = s.active.base;
            floor = s.active.floor;
            charge = charge;
          }) h.place
          ∙ ap {A = ℕ} {B = Activation} (λ x. record {
            function = c.function;
            place = c.place;
            base = x;
            floor = s.active.floor;
            charge = charge;
          }) h.base_is
          ∙ ap {A = ℕ} {B = Activation} (λ x. record {
            function = c.function;
            place = c.place;
            base = length (flat outer);
            floor = x;
            charge = charge;
          }) h.floor
          ∙ ap {A = ℕ} {B = Activation} (λ x. record {
            function = c.function;
            place = c.place;
            base = length (flat outer);
            floor = length (flat outer ++ c.slots);
            charge = x;
          }) top;
      globals = gl;
      global_charge = gc ∙ omega arith;
      limit = limit;
      small = small;
      within = used;
    }
