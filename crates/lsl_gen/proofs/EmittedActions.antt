-- The steps of the functions that emit statements.
use Rattle.std.proofs.Common.{◌≡◌, ℕ, ◌+◌, ◌<◌, List, [], ◌∷◌, ◌++◌, length, Vec, Global, sym, ap, ◌∙◌, ap₂, refl, arith, append_assoc, length-append, take, get_or}
use Rattle.std.proofs.lemmas.List.{append-nil}
use Rattle.lsl_tree.specs.declared.program_action.Action as declared
use Rattle.lsl_tree.specs.Actions as action
use Rattle.lsl_tree.specs.Actions.{Action, Actions, AndAction, action_of, actions_of}
use Rattle.lsl_tree.specs.Effects.{Effect}
use Rattle.lsl_tree.specs.Nodes.{Node}
use Rattle.lsl_code.specs.declared.instructions.Instr.{Instr}
use Rattle.lsl_code.specs.declared.instructions.Instr.TheVariants.{Jump, JumpIfNot, Tick}
use Rattle.lsl_code.specs.Targets.{targeted, retargeted}
use Rattle.lsl_code.proofs.Retargeting.{retargeted-seam}
use Rattle.lsl_gen.specs.declared.label_places.LabelPlace.{LabelPlace}
use Rattle.lsl_gen.specs.declared.label_places.OpenJump.{OpenJump}
use Rattle.lsl_gen.specs.Expressions.{value_code, effects_code}
use Rattle.lsl_gen.specs.Statements.{size, sizes, place_if_label, places_in, action_code, actions_code}
use Rattle.lsl_gen.specs.OpenJumps.{led, still_open, open_jumps, all_open, then_code}
use Rattle.lsl_gen.proofs.Lengths.{code_length, codes_length}
use Rattle.lsl_gen.proofs.OpenJumps.{led_block}
use Rattle.lsl_gen.proofs.Views.{action_of-Block, actions_more}

-- statements, one more

pub actions_step : (new code base : List Instr) (jumps' jumps before : List OpenJump)
    (labels' labels : List LabelPlace) (place : ℕ) (xs : List declared.Action) (i : ℕ) (x : declared.Action)
    → i < length xs → x ≡ get_or xs i x
    → (code ≡ base ++ actions_code (actions_of (take i xs)) [] (length base))
    × (jumps ≡ before ++ all_open (actions_of (take i xs)) (length base))
    × (labels ≡ places_in (actions_of (take i xs)) (length base))
    → place ≡ length code → labels' ≡ labels ++ place_if_label (action_of x) place
    → new ≡ code ++ action_code (action_of x) [] (length code)
    → jumps' ≡ jumps ++ open_jumps (action_of x) (length code)
    → (new ≡ base ++ actions_code (actions_of (take (i + 1) xs)) [] (length base))
    × (jumps' ≡ before ++ all_open (actions_of (take (i + 1) xs)) (length base))
    × (labels' ≡ places_in (actions_of (take (i + 1) xs)) (length base))
actions_step new code base jumps' jumps before labels' labels place xs i x lt is inv at here emitted opened =
    let done = actions_of (take i xs) in
    let more = sym (actions_more xs i x lt is) in
    let n : length code ≡ length base + sizes done =
    ap length inv.0 ∙ length-append base (actions_code done [] (length base))
    ∙ ap (λ m. length base + m) (codes_length done [] (length base)) in (
      emitted ∙ ap₂ (λ c m. c ++ action_code (action_of x) [] m) inv.0 n ∙ append_assoc base _ _
          ∙ ap (λ a. base ++ actions_code a [] (length base)) more,
      opened ∙ ap₂ (λ j m. j ++ open_jumps (action_of x) m) inv.1 n ∙ append_assoc before _ _
          ∙ ap (λ a. before ++ all_open a (length base)) more,
      here ∙ ap₂ (λ l m. l ++ place_if_label (action_of x) m) inv.2 (at ∙ n)
          ∙ ap (λ a. places_in a (length base)) more,
    )

-- a block: its jumps lead to its labels

pub block_code : (new code base : List Instr) (inner none : List OpenJump) (labels : List LabelPlace)
    (xs : List declared.Action) → none ≡ []
    → code ≡ base ++ actions_code (actions_of xs) [] (length base)
    → inner ≡ none ++ all_open (actions_of xs) (length base) → labels ≡ places_in (actions_of xs) (length base)
    → new ≡ led labels inner code
    → new ≡ base ++ action_code (action.Block (actions_of xs)) [] (length base)
block_code new code base inner none labels xs n e j l last =
    let own = places_in (actions_of xs) (length base) in
    let opens = all_open (actions_of xs) (length base) in
    let all : inner ≡ opens = j ∙ ap (λ js. js ++ opens) n in
    last ∙ ap₂ (λ js c. led labels js c) all e ∙ led_block labels (actions_of xs) base
    ∙ ap (λ ls. base ++ actions_code (actions_of xs) ls (length base)) (l ∙ sym (append-nil own))

pub block_jumps : (base : List Instr) (new before inner none : List OpenJump) (labels : List LabelPlace)
    (xs : List declared.Action) → none ≡ []
    → inner ≡ none ++ all_open (actions_of xs) (length base) → labels ≡ places_in (actions_of xs) (length base)
    → new ≡ before ++ still_open labels inner
    → new ≡ before ++ open_jumps (action.Block (actions_of xs)) (length base)
block_jumps base new before inner none labels xs n j l last =
    let opens = all_open (actions_of xs) (length base) in
    let all : inner ≡ opens = j ∙ ap (λ js. js ++ opens) n in
    last ∙ ap₂ (λ ls js. before ++ still_open ls js) l all

pub of_block_code : (new base : List Instr) (a : declared.Action)
    (all : Vec declared.Action Global) (xs : List declared.Action) → a ≡ declared.Block all → xs ≡ all.items
    → new ≡ base ++ action_code (action.Block (actions_of xs)) [] (length base)
    → new ≡ base ++ action_code (action_of a) [] (length base)
of_block_code new base a all xs is same e =
    e ∙ ap (λ ys. base ++ action_code (action.Block (actions_of ys)) [] (length base)) same
    ∙ ap (λ a. base ++ action_code a [] (length base)) (sym (ap action_of is ∙ action_of-Block all))

pub of_block_jumps : (new before : List OpenJump) (n : ℕ) (a : declared.Action)
    (all : Vec declared.Action Global) (xs : List declared.Action) → a ≡ declared.Block all → xs ≡ all.items
    → new ≡ before ++ open_jumps (action.Block (actions_of xs)) n → new ≡ before ++ open_jumps (action_of a) n
of_block_jumps new before n a all xs is same e =
    e ∙ ap (λ ys. before ++ open_jumps (action.Block (actions_of ys)) n) same
    ∙ ap (λ a. before ++ open_jumps a n) (sym (ap action_of is ∙ action_of-Block all))

-- a jump whose target is known later

led_later : (base c d old new : List Instr) (i : Instr) (jump target : ℕ) → old ≡ base ++ (c ++ (i ∷ d))
    → jump ≡ length base + length c → new ≡ retargeted old jump target
    → new ≡ base ++ (c ++ (targeted i target ∷ d))
led_later base c d old new i jump target is at e =
    let n : jump ≡ length (base ++ c) = omega (arith, length-append base c) in
    e ∙ ap₂ (λ l k. retargeted l k target) (is ∙ sym (append_assoc base c (i ∷ d))) n
    ∙ retargeted-seam (base ++ c) i d target ∙ append_assoc base c (targeted i target ∷ d)

-- after a test
behind_test : (base c1 c : List Instr) (i : Instr) → c1 ≡ base ++ (c ++ i ∷ []) → length c1 ≡ length base + length c + 1
behind_test base c1 c i e =
    omega (arith, ap length e, length-append base (c ++ i ∷ []), length-append c (i ∷ []))

regroup : (a b : List Instr) (i : Instr) (c : List Instr) → (a ++ (b ++ i ∷ [])) ++ c ≡ a ++ (b ++ (i ∷ c))
regroup a b i c = simp append_assoc

pub if_code : (base c1 c2 c3 : List Instr) (t : Node) (a : Action) (fails : ℕ)
    → c1 ≡ base ++ (value_code t ++ JumpIfNot 0 ∷ []) → fails ≡ length base + length (value_code t)
    → c2 ≡ c1 ++ action_code a [] (length c1) → c3 ≡ retargeted c2 fails (length c2)
    → c3 ≡ base ++ action_code (action.If t a) [] (length base)
if_code base c1 c2 c3 t a fails e1 at e2 e3 =
    let c = value_code t in
    let q = length base + length c + 1 in
    let n1 : length c1 ≡ q = behind_test base c1 c (JumpIfNot 0) e1 in
    let n2 : length c2 ≡ q + size a =
    ap length e2 ∙ length-append c1 (action_code a [] (length c1))
    ∙ ap₂ (λ x y. x + y) n1 (code_length a [] (length c1)) in
    let d2 : c2 ≡ base ++ (c ++ (JumpIfNot 0 ∷ action_code a [] q)) =
    e2 ∙ ap₂ (λ l m. l ++ action_code a [] m) e1 n1 ∙ regroup base c (JumpIfNot 0) (action_code a [] q) in
    led_later base c (action_code a [] q) c2 c3 (JumpIfNot 0) fails (length c2) d2 at e3
    ∙ ap (λ m. base ++ (c ++ (JumpIfNot m ∷ action_code a [] q))) n2

pub if_jumps : (base c1 : List Instr) (new before : List OpenJump) (t : Node) (a : Action)
    → c1 ≡ base ++ (value_code t ++ JumpIfNot 0 ∷ []) → new ≡ before ++ open_jumps a (length c1)
    → new ≡ before ++ open_jumps (action.If t a) (length base)
if_jumps base c1 new before t a e1 e =
    e ∙ ap (λ m. before ++ open_jumps a m) (behind_test base c1 (value_code t) (JumpIfNot 0) e1)

then_length : (base c1 c2 : List Instr) (t : Node) (a : Action)
    → c1 ≡ base ++ (value_code t ++ JumpIfNot 0 ∷ []) → c2 ≡ c1 ++ action_code a [] (length c1)
    → length c2 ≡ length base + length (value_code t) + 1 + size a
then_length base c1 c2 t a e1 e2 =
    ap length e2 ∙ length-append c1 (action_code a [] (length c1))
    ∙ ap₂ (λ x y. x + y) (behind_test base c1 (value_code t) (JumpIfNot 0) e1) (code_length a [] (length c1))

pub then_behind : (base c1 c2 c3 c4 : List Instr) (t : Node) (a : Action) (fails : ℕ)
    → c1 ≡ base ++ (value_code t ++ JumpIfNot 0 ∷ []) → fails ≡ length base + length (value_code t)
    → c2 ≡ c1 ++ action_code a [] (length c1) → c3 ≡ c2 ++ Jump 0 ∷ [] → c4 ≡ retargeted c3 fails (length c3)
    → c4 ≡ base ++ then_code t a (length base)
then_behind base c1 c2 c3 c4 t a fails e1 at e2 e3 e4 =
    let c = value_code t in
    let q = length base + length c + 1 in
    let first = action_code a [] q in
    let n1 : length c1 ≡ q = behind_test base c1 c (JumpIfNot 0) e1 in
    let n2 = then_length base c1 c2 t a e1 e2 in
    let n3 : length c3 ≡ q + size a + 1 = omega (arith, ap length e3, length-append c2 (Jump 0 ∷ [])) in
    let d3 : c3 ≡ base ++ (c ++ (JumpIfNot 0 ∷ (first ++ Jump 0 ∷ []))) =
    e3 ∙ ap (λ l. l ++ Jump 0 ∷ []) (e2 ∙ ap₂ (λ l m. l ++ action_code a [] m) e1 n1)
    ∙ append_assoc (base ++ (c ++ JumpIfNot 0 ∷ [])) first (Jump 0 ∷ [])
    ∙ regroup base c (JumpIfNot 0) (first ++ Jump 0 ∷ []) in
    led_later base c (first ++ Jump 0 ∷ []) c3 c4 (JumpIfNot 0) fails (length c3) d3 at e4
    ∙ ap (λ m. base ++ (c ++ (JumpIfNot m ∷ (first ++ Jump 0 ∷ [])))) n3

pub then_over : (base c1 c2 : List Instr) (t : Node) (a : Action) (over : ℕ)
    → c1 ≡ base ++ (value_code t ++ JumpIfNot 0 ∷ []) → c2 ≡ c1 ++ action_code a [] (length c1) → over ≡ length c2
    → over ≡ length base + size (action.If t a)
then_over base c1 c2 t a over e1 e2 e =
    let n : over ≡ length base + length (value_code t) + 1 + size a = e ∙ then_length base c1 c2 t a e1 e2 in
    omega arith

-- the code before the jump over the other branch
front_length : (base : List Instr) (t : Node) (a : Action) (r : ℕ)
    → length ((base ++ (value_code t ++ JumpIfNot r ∷ [])) ++
    (action_code a [] (length base + length (value_code t) + 1)
    ++ Jump 0 ∷ []))
    ≡ length base + length (value_code t) + 1 + size a + 1
front_length base t a r =
    let front = base ++ (value_code t ++ JumpIfNot r ∷ []) in
    let first = action_code a [] (length base + length (value_code t) + 1) in
    omega (
      arith,
      behind_test base front (value_code t) (JumpIfNot r) refl,
      length-append front (first ++ Jump 0 ∷ []),
      length-append first (Jump 0 ∷ []),
      code_length a [] (length base + length (value_code t) + 1),
    )

then_end : (base c4 : List Instr) (t : Node) (a : Action) → c4 ≡ base ++ then_code t a (length base)
    → length c4 ≡ length base + length (value_code t) + 1 + size a + 1
then_end base c4 t a e =
    let q = length base + length (value_code t) + 1 in
    let r = q + size a + 1 in
    ap length (e ∙ sym (regroup base (value_code t) (JumpIfNot r) (action_code a [] q ++ Jump 0 ∷ [])))
    ∙ front_length base t a r

pub either_code : (base c4 c5 c6 : List Instr) (t : Node) (a b : Action) (over : ℕ)
    → c4 ≡ base ++ then_code t a (length base) → over ≡ length base + size (action.If t a)
    → c5 ≡ c4 ++ action_code b [] (length c4) → c6 ≡ retargeted c5 over (length c5)
    → c6 ≡ base ++ action_code (action.IfElse t a b) [] (length base)
either_code base c4 c5 c6 t a b over e4 at e5 e6 =
    let c = value_code t in
    let q = length base + length c + 1 in
    let r = q + size a + 1 in
    let first = action_code a [] q in
    let second = action_code b [] r in
    let front = base ++ (c ++ JumpIfNot r ∷ []) in
    let d4 : c4 ≡ front ++ (first ++ Jump 0 ∷ []) =
    e4 ∙ sym (regroup base c (JumpIfNot r) (first ++ Jump 0 ∷ [])) in
    let n4 : length c4 ≡ r = then_end base c4 t a e4 in
    let n5 : length c5 ≡ r + size b =
    ap length e5 ∙ length-append c4 (action_code b [] (length c4))
    ∙ ap₂ (λ x y. x + y) n4 (code_length b [] (length c4)) in
    let d5 : c5 ≡ front ++ (first ++ (Jump 0 ∷ second)) =
    e5 ∙ ap₂ (λ l m. l ++ action_code b [] m) d4 n4 ∙ regroup front first (Jump 0) second in
    let at_over : over ≡ length front + length first =
    omega (arith, at, behind_test base front c (JumpIfNot r) refl, code_length a [] q) in
    led_later front first second c5 c6 (Jump 0) over (length c5) d5 at_over e6
    ∙ ap (λ m. front ++ (first ++ (Jump m ∷ second))) n5
    ∙ regroup base c (JumpIfNot r) (first ++ (Jump (r + size b) ∷ second))

pub either_jumps : (base c4 : List Instr) (new middle before : List OpenJump) (t : Node) (a b : Action)
    → c4 ≡ base ++ then_code t a (length base) → middle ≡ before ++ open_jumps (action.If t a) (length base)
    → new ≡ middle ++ open_jumps b (length c4)
    → new ≡ before ++ open_jumps (action.IfElse t a b) (length base)
either_jumps base c4 new middle before t a b e4 first second =
    let q = length base + length (value_code t) + 1 in
    second ∙ ap₂ (λ l m. l ++ open_jumps b m) first (then_end base c4 t a e4)
    ∙ append_assoc before (open_jumps a q) (open_jumps b (q + size a + 1))

pub loop_code : (line : ℕ) (base c1 c2 c3 c4 c5 c6 : List Instr) (t : Node) (steps : List Effect) (a : Action)
    (from start fails : ℕ) → from ≡ length base → start ≡ from
    → c1 ≡ base ++ (value_code t ++ JumpIfNot 0 ∷ []) → fails ≡ length base + length (value_code t)
    → c2 ≡ c1 ++ action_code a [] (length c1) → c3 ≡ c2 ++ effects_code steps → c4 ≡ c3 ++ Tick line ∷ []
    → c5 ≡ c4 ++ Jump start ∷ [] → c6 ≡ retargeted c5 fails (length c5)
    → c6 ≡ base ++ action_code (action.Loop line t steps a) [] (length base)
loop_code line base c1 c2 c3 c4 c5 c6 t steps a from start fails ef es e1 at e2 e3 e4 e5 e6 =
    let c = value_code t in
    let d = effects_code steps in
    let q = length base + length c + 1 in
    let body = action_code a [] q in
    let last = Tick line ∷ Jump (length base) ∷ [] in
    let n1 : length c1 ≡ q = behind_test base c1 c (JumpIfNot 0) e1 in
    let d5 : c5 ≡ base ++ (c ++ (JumpIfNot 0 ∷ (body ++ (d ++ last)))) =
    e5 ∙ ap₂ (λ l m. l ++ Jump m ∷ [])
    (e4 ∙ ap (λ l. l ++ Tick line ∷ [])
    (e3 ∙ ap (λ l. l ++ d) (e2 ∙ ap₂ (λ l m. l ++ action_code a [] m) e1 n1))) (es ∙ ef)
    ∙ seven base c (JumpIfNot 0) body d (Tick line) (Jump (length base)) in
    let n5 : length c5 ≡ q + size a + length d + 2 =
    omega (
      arith,
      ap length d5,
      length-append base (c ++ (JumpIfNot 0 ∷ (body ++ (d ++ last)))),
      length-append c (JumpIfNot 0 ∷ (body ++ (d ++ last))),
      length-append body (d ++ last),
      length-append d last,
      code_length a [] q,
    ) in
    led_later base c (body ++ (d ++ last)) c5 c6 (JumpIfNot 0) fails (length c5) d5 at e6
    ∙ ap (λ m. base ++ (c ++ (JumpIfNot m ∷ (body ++ (d ++ last))))) n5
  where
    seven : (a b : List Instr) (i : Instr) (c d : List Instr) (j k : Instr)
        → (((((a ++ (b ++ i ∷ [])) ++ c) ++ d) ++ j ∷ []) ++ k ∷ []) ≡ a ++ (b ++ (i ∷ (c ++ (d ++ (j ∷ k ∷ [])))))
    seven a b i c d j k = simp append_assoc

pub do_step : (line : ℕ) (base c1 c2 c3 c4 c5 : List Instr) (t : Node) (a : Action)
    (from start len end to : ℕ) → from ≡ length base → start ≡ from
    → c1 ≡ base ++ action_code a [] (length base)
    → c2 ≡ c1 ++ value_code t → len ≡ length c2 → end ≡ len + 3 → to ≡ end → c3 ≡ c2 ++ JumpIfNot to ∷ []
    → c4 ≡ c3 ++ Tick line ∷ [] → c5 ≡ c4 ++ Jump start ∷ []
    → c5 ≡ base ++ action_code (action.Do line a t) [] (length base)
do_step line base c1 c2 c3 c4 c5 t a from start len end to ef es e1 e2 el ee et e3 e4 e5 =
    let ca = action_code a [] (length base) in
    let ct = value_code t in
    let l1 = ap length e1 ∙ length-append base ca ∙ ap (λ m. length base + m) (code_length a [] (length base)) in
    let l2 = ap length e2 ∙ length-append c1 ct in
    let far : to ≡ length base + size a + length ct + 1 + 2 = omega arith in
    e5 ∙ ap₂ (λ c m. c ++ Jump m ∷ []) (e4
    ∙ ap (λ c. c ++ Tick line ∷ []) (e3
    ∙ ap₂ (λ c m. c ++ JumpIfNot m ∷ []) (e2 ∙ ap (λ c. c ++ ct) e1) far)) (es ∙ ef)
    ∙ six base ca ct (JumpIfNot (length base + size a + length ct + 1 + 2)) (Tick line) (Jump (length base))
  where
    six : (a b c : List Instr) (i j k : Instr)
        → ((((a ++ b) ++ c) ++ i ∷ []) ++ j ∷ []) ++ k ∷ [] ≡ a ++ (b ++ (c ++ (i ∷ j ∷ k ∷ [])))
    six a b c i j k = simp append_assoc
