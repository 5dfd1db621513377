-- The code of a block whose jumps are patched to its labels afterwards is its code among these labels.
use Rattle.std.proofs.Common.{◌≡◌, ℕ, suc, ◌+◌, List, [], ◌∷◌, ◌++◌, length, Bool, true, false, cond, nat_eq, Option, Some, None, is_none, refl, sym, ap, ◌∙◌, ap₂, arith, append_assoc, length-append, ◌<◌, drop, get_or}
use Rattle.std.proofs.lemmas.List.{append-nil, at_drop_more}
use Rattle.lsl_tree.specs.Actions as action
use Rattle.lsl_tree.specs.Actions.{Action, Actions, NoAction, AndAction}
use Rattle.lsl_code.specs.declared.instructions.Instr.{Instr}
use Rattle.lsl_code.specs.declared.instructions.Instr.TheVariants.{Set, Jump, JumpIfNot, Tick, ReturnValue}
use Rattle.lsl_code.specs.Targets.{targeted, retargeted}
use Rattle.lsl_code.proofs.Retargeting.{retargeted-seam}
use Rattle.lsl_gen.specs.declared.label_places.LabelPlace.{LabelPlace}
use Rattle.lsl_gen.specs.declared.label_places.OpenJump.{OpenJump}
use Rattle.lsl_gen.specs.Expressions.{value_code, effect_code, effects_code}
use Rattle.lsl_gen.specs.Statements.{size, sizes, place_of, places_in, action_code, actions_code}
use Rattle.lsl_gen.specs.OpenJumps.{found_place, led_to, led, still_open, open_jumps, all_open}
use Rattle.lsl_gen.proofs.Lengths.{code_length, codes_length}

-- beside each instruction, the label that it waits for

abbrev Marks : Type 0
Marks = List (Option ℕ)

abbrev blank : List Instr → Marks
blank [] = []
blank (i ∷ is) = None ∷ blank is

abbrev hide_by : Option ℕ → ℕ → Option ℕ
hide_by None label = Some label
hide_by (Some place) label = None

abbrev hide : List LabelPlace → Option ℕ → Option ℕ
hide own None = None
hide own (Some label) = hide_by (found_place label own) label

abbrev hidden : List LabelPlace → Marks → Marks
hidden own [] = []
hidden own (m ∷ ms) = hide own m ∷ hidden own ms

abbrev mutual
  marks : Action → ℕ → Marks
  marks (action.Block xs) place = hidden (places_in xs place) (all_marks xs place)
  marks (action.Effect x) place = blank (effect_code x)
  marks (action.Declare slot node) place = blank (value_code node ++ Set slot ∷ [])
  marks (action.Label label) place = []
  marks (action.If test a) place =
      let then = place + length (value_code test) + 1 in
      blank (value_code test) ++ (None ∷ marks a then)
  marks (action.IfElse test a b) place =
      let then = place + length (value_code test) + 1 in
      blank (value_code test) ++ (None ∷ (marks a then ++ (None ∷ marks b (then + size a + 1))))
  marks (action.Loop line test steps a) place =
      let body = place + length (value_code test) + 1 in
      blank (value_code test) ++ (None ∷ (marks a body ++ (blank (effects_code steps) ++ (None ∷ None ∷ []))))
  marks (action.Do line a test) place =
      marks a place ++ (blank (value_code test) ++ (None ∷ None ∷ None ∷ []))
  marks (action.Jump line label) place = None ∷ Some label ∷ []
  marks action.Return place = None ∷ []
  marks (action.ReturnValue node) place = blank (value_code node ++ ReturnValue ∷ [])
  marks (action.State n) place = None ∷ []

  all_marks : Actions → ℕ → Marks
  all_marks NoAction place = []
  all_marks (AndAction xs a) place = all_marks xs place ++ marks a (place + sizes xs)

-- there are as many as instructions

length-blank : (c : List Instr) → length (blank c) ≡ length c
length-blank [] = refl
length-blank (i ∷ is) = ap suc (length-blank is)

length-hidden : (own : List LabelPlace) (ms : Marks) → length (hidden own ms) ≡ length ms
length-hidden own [] = refl
length-hidden own (m ∷ ms) = ap suc (length-hidden own ms)

both_length : (a b : Marks) (m n : ℕ) → length a ≡ m → length b ≡ n → length (a ++ b) ≡ m + n
both_length a b m n e d = omega (arith, length-append a b)

if_length : (c : List Instr) (a : Marks) (m : ℕ) → length a ≡ m
    → length (blank c ++ (None ∷ a)) ≡ length c + 1 + m
if_length c a m e = omega (arith, length-append (blank c) (None ∷ a), length-blank c)

if_else_length : (c : List Instr) (a b : Marks) (m n : ℕ) → length a ≡ m → length b ≡ n
    → length (blank c ++ (None ∷ (a ++ (None ∷ b)))) ≡ length c + 1 + m + 1 + n
if_else_length c a b m n e d =
    omega (arith, length-append (blank c) (None ∷ (a ++ (None ∷ b))), length-append a (None ∷ b), length-blank c)

loop_length : (c d : List Instr) (a : Marks) (m : ℕ) → length a ≡ m
    → length (blank c ++ (None ∷ (a ++ (blank d ++ (None ∷ None ∷ []))))) ≡ length c + 1 + m + length d + 2
loop_length c d a m e =
    omega (
      arith,
      length-append (blank c) (None ∷ (a ++ (blank d ++ (None ∷ None ∷ [])))),
      length-append a (blank d ++ (None ∷ None ∷ [])),
      length-append (blank d) (None ∷ None ∷ []),
      length-blank c,
      length-blank d,
    )

do_length : (c : List Instr) (a : Marks) (m : ℕ) → length a ≡ m
    → length (a ++ (blank c ++ (None ∷ None ∷ None ∷ []))) ≡ m + length c + 1 + 2
do_length c a m e =
    omega (
      arith,
      length-append a (blank c ++ (None ∷ None ∷ None ∷ [])),
      length-append (blank c) (None ∷ None ∷ None ∷ []),
      length-blank c,
    )

mutual
  marks_length : (a : Action) (place : ℕ) → length (marks a place) ≡ size a
  marks_length (action.Block xs) place =
      length-hidden (places_in xs place) (all_marks xs place) ∙ all_marks_length xs place
  marks_length (action.Effect x) place = length-blank (effect_code x)
  marks_length (action.Declare slot node) place =
      length-blank (value_code node ++ Set slot ∷ []) ∙ length-append (value_code node) (Set slot ∷ [])
  marks_length (action.Label label) place = refl
  marks_length (action.If test a) place =
      let then = place + length (value_code test) + 1 in
      if_length (value_code test) (marks a then) (size a) (marks_length a then)
  marks_length (action.IfElse test a b) place =
      let then = place + length (value_code test) + 1 in
      let otherwise = then + size a + 1 in
      if_else_length (value_code test) (marks a then) (marks b otherwise) (size a) (size b) (marks_length a then)
      (marks_length b otherwise)
  marks_length (action.Loop line test steps a) place =
      let body = place + length (value_code test) + 1 in
      loop_length (value_code test) (effects_code steps) (marks a body) (size a) (marks_length a body)
  marks_length (action.Do line a test) place =
      do_length (value_code test) (marks a place) (size a) (marks_length a place)
  marks_length (action.Jump line label) place = refl
  marks_length action.Return place = refl
  marks_length (action.ReturnValue node) place =
      length-blank (value_code node ++ ReturnValue ∷ []) ∙ length-append (value_code node) (ReturnValue ∷ [])
  marks_length (action.State n) place = refl

  all_marks_length : (xs : Actions) (place : ℕ) → length (all_marks xs place) ≡ sizes xs
  all_marks_length NoAction place = refl
  all_marks_length (AndAction xs a) place =
      both_length (all_marks xs place) (marks a (place + sizes xs)) (sizes xs) (size a)
      (all_marks_length xs place) (marks_length a (place + sizes xs))

one_length : (a : Action) (labels : List LabelPlace) (place : ℕ)
    → length (action_code a labels place) ≡ length (marks a place)
one_length a labels place = code_length a labels place ∙ sym (marks_length a place)

all_length : (xs : Actions) (labels : List LabelPlace) (place : ℕ)
    → length (actions_code xs labels place) ≡ length (all_marks xs place)
all_length xs labels place = codes_length xs labels place ∙ sym (all_marks_length xs place)

blank_length : (c : List Instr) → length c ≡ length (blank c)
blank_length c = sym (length-blank c)

-- the code in which those that wait for one of these labels lead there

abbrev lead : Option ℕ → Instr → Instr
lead None i = i
lead (Some place) i = targeted i place

abbrev fill : List LabelPlace → Instr → Option ℕ → Instr
fill labels i None = i
fill labels i (Some label) = lead (found_place label labels) i

abbrev filled : List LabelPlace → List Instr → Marks → List Instr
filled labels [] ms = []
filled labels (i ∷ is) [] = i ∷ is
filled labels (i ∷ is) (m ∷ ms) = fill labels i m ∷ filled labels is ms

filled-append : (labels : List LabelPlace) (a b : List Instr) (ma mb : Marks) → length a ≡ length ma
    → filled labels (a ++ b) (ma ++ mb) ≡ filled labels a ma ++ filled labels b mb
filled-append labels [] b [] mb e = refl
filled-append labels [] b (m ∷ ma) mb e = absurd (omega arith)
filled-append labels (i ∷ a) b [] mb e = absurd (omega arith)
filled-append labels (i ∷ a) b (m ∷ ma) mb e =
    ap (λ l. fill labels i m ∷ l) (filled-append labels a b ma mb (omega arith))

filled_both : (labels : List LabelPlace) (a b a' b' : List Instr) (ma mb : Marks) → length a ≡ length ma
    → filled labels a ma ≡ a' → filled labels b mb ≡ b' → filled labels (a ++ b) (ma ++ mb) ≡ a' ++ b'
filled_both labels a b a' b' ma mb n e d = filled-append labels a b ma mb n ∙ ap₂ (λ x y. x ++ y) e d

filled-blank : (labels : List LabelPlace) (c : List Instr) → filled labels c (blank c) ≡ c
filled-blank labels [] = refl
filled-blank labels (i ∷ is) = ap (λ l. i ∷ l) (filled-blank labels is)

jump_led : (label : ℕ) (labels : List LabelPlace)
    → lead (found_place label labels) (Jump 0) ≡ Jump (place_of label labels)
jump_led label [] = refl
jump_led label (x ∷ xs) =
    either (nat_eq label x.label) x.place (found_place label xs) (place_of label xs) (jump_led label xs)
  where
    either : (b : Bool) (place : ℕ) (o : Option ℕ) (n : ℕ) → lead o (Jump 0) ≡ Jump n
        → lead (cond b (Some place) o) (Jump 0) ≡ Jump (cond b place n)
    either true place o n e = refl
    either false place o n e = e

abbrev or_found : Option ℕ → Option ℕ → Option ℕ
or_found None o = o
or_found (Some place) o = Some place

found_place-append : (label : ℕ) (a b : List LabelPlace)
    → found_place label (a ++ b) ≡ or_found (found_place label a) (found_place label b)
found_place-append label [] b = refl
found_place-append label (x ∷ a) b =
    either (nat_eq label x.label) x.place (found_place label a) (found_place label b) (found_place label (a ++ b))
    (found_place-append label a b)
  where
    either : (b : Bool) (place : ℕ) (o p r : Option ℕ) → r ≡ or_found o p
        → cond b (Some place) r ≡ or_found (cond b (Some place) o) p
    either true place o p r e = refl
    either false place o p r e = e

-- first to a block's own labels, and then to those around it
through_one : (own labels : List LabelPlace) (i : Instr) (m : Option ℕ)
    → fill labels (fill (own ++ []) i m) (hide own m) ≡ fill (own ++ labels) i m
through_one own labels i None = refl
through_one own labels i (Some label) =
    by (found_place label own) (found_place label (own ++ [])) (found_place label (own ++ labels))
    (found_place-append label own []) (found_place-append label own labels)
  where
    by : (o f g : Option ℕ) → f ≡ or_found o None → g ≡ or_found o (found_place label labels)
        → fill labels (lead f i) (hide_by o label) ≡ lead g i
    by None f g ef eg =
        ap (λ x. lead (found_place label labels) (lead x i)) ef ∙ ap (λ x. lead x i) (sym eg)
    by (Some place) f g ef eg = ap (λ x. lead x i) (ef ∙ sym eg)

through : (own labels : List LabelPlace) (code : List Instr) (ms : Marks)
    → filled labels (filled (own ++ []) code ms) (hidden own ms) ≡ filled (own ++ labels) code ms
through own labels [] ms = refl
through own labels (i ∷ is) [] = refl
through own labels (i ∷ is) (m ∷ ms) =
    ap₂ (λ x l. x ∷ l) (through_one own labels i m) (through own labels is ms)

mutual
  filled_code : (labels : List LabelPlace) (a : Action) (place : ℕ)
      → filled labels (action_code a [] place) (marks a place) ≡ action_code a labels place
  filled_code labels (action.Block xs) place =
      let own = places_in xs place in
      ap (λ c. filled labels c (hidden own (all_marks xs place))) (sym (filled_codes (own ++ []) xs place))
      ∙ through own labels (actions_code xs [] place) (all_marks xs place)
      ∙ filled_codes (own ++ labels) xs place
  filled_code labels (action.Effect x) place = filled-blank labels (effect_code x)
  filled_code labels (action.Declare slot node) place = filled-blank labels (value_code node ++ Set slot ∷ [])
  filled_code labels (action.Label label) place = refl
  filled_code labels (action.If test a) place =
      let c = value_code test in
      let then = place + length c + 1 in
      let i = JumpIfNot (then + size a) in
      filled_both labels c (i ∷ action_code a [] then) c (i ∷ action_code a labels then) (blank c) (None ∷ marks a then)
      (blank_length c) (filled-blank labels c)
      (ap (λ l. i ∷ l) (filled_code labels a then))
  filled_code labels (action.IfElse test a b) place =
      let c = value_code test in
      let then = place + length c + 1 in
      let otherwise = then + size a + 1 in
      let i = JumpIfNot otherwise in
      let j = Jump (otherwise + size b) in
      filled_both labels c (i ∷ (action_code a [] then ++ (j ∷ action_code b [] otherwise))) c
      (i ∷ (action_code a labels then ++ (j ∷ action_code b labels otherwise))) (blank c)
      (None ∷ (marks a then ++ (None ∷ marks b otherwise)))
      (blank_length c) (filled-blank labels c)
      (ap (λ l. i ∷ l)
      (filled_both labels (action_code a [] then) (j ∷ action_code b [] otherwise) (action_code a labels then)
      (j ∷ action_code b labels otherwise) (marks a then) (None ∷ marks b otherwise)
      (one_length a [] then) (filled_code labels a then)
      (ap (λ l. j ∷ l) (filled_code labels b otherwise))))
  filled_code labels (action.Loop line test steps a) place =
      let c = value_code test in
      let d = effects_code steps in
      let body = place + length c + 1 in
      let i = JumpIfNot (body + size a + length d + 2) in
      let last = Tick line ∷ Jump place ∷ [] in
      filled_both labels c (i ∷ (action_code a [] body ++ (d ++ last))) c
      (i ∷ (action_code a labels body ++ (d ++ last))) (blank c)
      (None ∷ (marks a body ++ (blank d ++ (None ∷ None ∷ []))))
      (blank_length c) (filled-blank labels c)
      (ap (λ l. i ∷ l)
      (filled_both labels (action_code a [] body) (d ++ last) (action_code a labels body) (d ++ last) (marks a body)
      (blank d ++ (None ∷ None ∷ []))
      (one_length a [] body) (filled_code labels a body)
      (filled_both labels d last d last (blank d) (None ∷ None ∷ []) (blank_length d) (filled-blank labels d) refl)))
  filled_code labels (action.Do line a test) place =
      let c = value_code test in
      let last = JumpIfNot (place + size a + length c + 1 + 2) ∷ Tick line ∷ Jump place ∷ [] in
      filled_both labels (action_code a [] place) (c ++ last) (action_code a labels place) (c ++ last) (marks a place)
      (blank c ++ (None ∷ None ∷ None ∷ []))
      (one_length a [] place) (filled_code labels a place)
      (filled_both labels c last c last (blank c) (None ∷ None ∷ None ∷ []) (blank_length c) (filled-blank labels c)
      refl)
  filled_code labels (action.Jump line label) place = ap (λ i. Tick line ∷ i ∷ []) (jump_led label labels)
  filled_code labels action.Return place = refl
  filled_code labels (action.ReturnValue node) place = filled-blank labels (value_code node ++ ReturnValue ∷ [])
  filled_code labels (action.State n) place = refl

  filled_codes : (labels : List LabelPlace) (xs : Actions) (place : ℕ)
      → filled labels (actions_code xs [] place) (all_marks xs place) ≡ actions_code xs labels place
  filled_codes labels NoAction place = refl
  filled_codes labels (AndAction xs a) place =
      let at = place + sizes xs in
      filled_both labels (actions_code xs [] place) (action_code a [] at) (actions_code xs labels place)
      (action_code a labels at) (all_marks xs place) (marks a at)
      (all_length xs [] place) (filled_codes labels xs place) (filled_code labels a at)

-- the open jumps are those that wait

abbrev sites : ℕ → Marks → List OpenJump
sites n [] = []
sites n (None ∷ ms) = sites (suc n) ms
sites n (Some label ∷ ms) = record { place = n; label = label } ∷ sites (suc n) ms

sites-append : (n : ℕ) (a b : Marks) → sites n (a ++ b) ≡ sites n a ++ sites (n + length a) b
sites-append n [] b = let z : n ≡ n + 0 = omega arith in ap (λ m. sites m b) z
sites-append n (None ∷ a) b =
    let z : suc n + length a ≡ n + suc (length a) = omega arith in
    sites-append (suc n) a b ∙ ap (λ m. sites (suc n) a ++ sites m b) z
sites-append n (Some label ∷ a) b =
    let z : suc n + length a ≡ n + suc (length a) = omega arith in
    ap (λ l. record { place = n; label = label } ∷ l)
    (sites-append (suc n) a b ∙ ap (λ m. sites (suc n) a ++ sites m b) z)

sites-blank : (n : ℕ) (c : List Instr) → sites n (blank c) ≡ []
sites-blank n [] = refl
sites-blank n (i ∷ is) = sites-blank (suc n) is

sites-hidden : (own : List LabelPlace) (n : ℕ) (ms : Marks) → sites n (hidden own ms) ≡ still_open own (sites n ms)
sites-hidden own n [] = refl
sites-hidden own n (None ∷ ms) = sites-hidden own (suc n) ms
sites-hidden own n (Some label ∷ ms) =
    either (found_place label own) (hidden own ms) (still_open own (sites (suc n) ms)) (sites-hidden own (suc n) ms)
  where
    either : (o : Option ℕ) (ms : Marks) (rest : List OpenJump) → sites (suc n) ms ≡ rest
        → sites n (hide_by o label ∷ ms) ≡ cond (is_none o) (record { place = n; label = label } ∷ rest) rest
    either None ms rest e = ap (λ l. record { place = n; label = label } ∷ l) e
    either (Some place) ms rest e = e

sites_between : (n m : ℕ) (a b : Marks) → m ≡ n + length a + 1 → sites n (a ++ (None ∷ b)) ≡ sites n a ++ sites m b
sites_between n m a b e =
    let z : suc (n + length a) ≡ m = omega arith in
    sites-append n a (None ∷ b) ∙ ap (λ k. sites n a ++ sites k b) z

sites_behind : (n m : ℕ) (c : List Instr) (b : Marks) → m ≡ n + length c + 1
    → sites n (blank c ++ (None ∷ b)) ≡ sites m b
sites_behind n m c b e =
    let z : m ≡ n + length (blank c) + 1 = omega (arith, length-blank c) in
    sites_between n m (blank c) b z ∙ ap (λ l. l ++ sites m b) (sites-blank n c)

sites_before : (n : ℕ) (a b : Marks) → sites (n + length a) b ≡ [] → sites n (a ++ b) ≡ sites n a
sites_before n a b e = sites-append n a b ∙ ap (λ l. sites n a ++ l) e ∙ append-nil (sites n a)

mutual
  open_sites : (a : Action) (place : ℕ) → sites place (marks a place) ≡ open_jumps a place
  open_sites (action.Block xs) place =
      let own = places_in xs place in
      sites-hidden own place (all_marks xs place) ∙ ap (still_open own) (all_sites xs place)
  open_sites (action.Effect x) place = sites-blank place (effect_code x)
  open_sites (action.Declare slot node) place = sites-blank place (value_code node ++ Set slot ∷ [])
  open_sites (action.Label label) place = refl
  open_sites (action.If test a) place =
      let then = place + length (value_code test) + 1 in
      sites_behind place then (value_code test) (marks a then) refl ∙ open_sites a then
  open_sites (action.IfElse test a b) place =
      let then = place + length (value_code test) + 1 in
      let otherwise = then + size a + 1 in
      let far : otherwise ≡ then + length (marks a then) + 1 = omega (arith, marks_length a then) in
      sites_behind place then (value_code test) (marks a then ++ (None ∷ marks b otherwise)) refl
      ∙ sites_between then otherwise (marks a then) (marks b otherwise) far
      ∙ ap₂ (λ x y. x ++ y) (open_sites a then) (open_sites b otherwise)
  open_sites (action.Loop line test steps a) place =
      let body = place + length (value_code test) + 1 in
      let end = body + length (marks a body) in
      let last = blank (effects_code steps) ++ (None ∷ None ∷ []) in
      sites_behind place body (value_code test) (marks a body ++ last) refl
      ∙ sites_before body (marks a body) last
      (sites_behind end (end + length (effects_code steps) + 1) (effects_code steps) (None ∷ []) refl)
      ∙ open_sites a body
  open_sites (action.Do line a test) place =
      let end = place + length (marks a place) in
      sites_before place (marks a place) (blank (value_code test) ++ (None ∷ None ∷ None ∷ []))
      (sites_behind end (end + length (value_code test) + 1) (value_code test) (None ∷ None ∷ []) refl)
      ∙ open_sites a place
  open_sites (action.Jump line label) place =
      let z : suc place ≡ place + 1 = omega arith in
      ap (λ n. record { place = n; label = label } ∷ []) z
  open_sites action.Return place = refl
  open_sites (action.ReturnValue node) place = sites-blank place (value_code node ++ ReturnValue ∷ [])
  open_sites (action.State n) place = refl

  all_sites : (xs : Actions) (place : ℕ) → sites place (all_marks xs place) ≡ all_open xs place
  all_sites NoAction place = refl
  all_sites (AndAction xs a) place =
      let at = place + sizes xs in
      sites-append place (all_marks xs place) (marks a at)
      ∙ ap (λ n. sites place (all_marks xs place) ++ sites (place + n) (marks a at)) (all_marks_length xs place)
      ∙ ap₂ (λ x y. x ++ y) (all_sites xs place) (open_sites a at)

-- patching them one by one fills the code

led_here : (o : Option ℕ) (n label : ℕ) (base : List Instr) (i : Instr) (code : List Instr) → n ≡ length base
    → led_to o (record { place = n; label = label }) (base ++ i ∷ code) ≡ base ++ lead o i ∷ code
led_here None n label base i code e = refl
led_here (Some place) n label base i code e =
    ap (λ m. retargeted (base ++ i ∷ code) m place) e ∙ retargeted-seam base i code place

one_more : (labels : List LabelPlace) (ms : Marks) (i : Instr) (code base : List Instr) (n : ℕ)
    → led labels (sites n ms) ((base ++ i ∷ []) ++ code) ≡ (base ++ i ∷ []) ++ filled labels code ms
    → led labels (sites n ms) (base ++ i ∷ code) ≡ base ++ i ∷ filled labels code ms
one_more labels ms i code base n h =
    ap (led labels (sites n ms)) (sym (append_assoc base (i ∷ []) code)) ∙ h
    ∙ append_assoc base (i ∷ []) (filled labels code ms)

one_longer : (n : ℕ) (base : List Instr) (i : Instr) → n ≡ length base → suc n ≡ length (base ++ i ∷ [])
one_longer n base i e = omega (arith, length-append base (i ∷ []))

seated : (labels : List LabelPlace) (ms : Marks) (code base : List Instr) (n : ℕ) → n ≡ length base
    → length code ≡ length ms
    → led labels (sites n ms) (base ++ code) ≡ base ++ filled labels code ms
seated labels [] [] base n e d = refl
seated labels [] (i ∷ code) base n e d = absurd (omega arith)
seated labels (m ∷ ms) [] base n e d = absurd (omega arith)
seated labels (None ∷ ms) (i ∷ code) base n e d =
    one_more labels ms i code base (suc n)
    (seated labels ms code (base ++ i ∷ []) (suc n) (one_longer n base i e) (omega arith))
seated labels (Some label ∷ ms) (i ∷ code) base n e d =
    let o = found_place label labels in
    let j = lead o i in
    ap (led labels (sites (suc n) ms)) (led_here o n label base i code e)
    ∙ one_more labels ms j code base (suc n)
    (seated labels ms code (base ++ j ∷ []) (suc n) (one_longer n base j e) (omega arith))

pub led_block : (labels : List LabelPlace) (xs : Actions) (base : List Instr)
    → led labels (all_open xs (length base)) (base ++ actions_code xs [] (length base))
    ≡ base ++ actions_code xs labels (length base)
led_block labels xs base =
    let place = length base in
    ap (λ js. led labels js (base ++ actions_code xs [] place)) (sym (all_sites xs place))
    ∙ seated labels (all_marks xs place) (actions_code xs [] place) base place refl (all_length xs [] place)
    ∙ ap (λ c. base ++ c) (filled_codes labels xs place)

-- a block's jumps, one more of them patched

open_cons : (labels : List LabelPlace) (x : OpenJump) (xs : List OpenJump)
    → still_open labels (x ∷ xs) ≡ still_open labels (x ∷ []) ++ still_open labels xs
open_cons labels x xs = either (is_none (found_place x.label labels))
  where
    either : (b : Bool)
        → cond b (x ∷ still_open labels xs) (still_open labels xs) ≡ cond b (x ∷ []) [] ++ still_open labels xs
    either true = refl
    either false = refl

pub close_step : (labels : List LabelPlace) (inner : List OpenJump) (i : ℕ) (d : OpenJump)
    (start draft draft' : List Instr) (before jumps jumps' : List OpenJump) → i < length inner
    → draft' ≡ led_to (found_place (get_or inner i d).label labels) (get_or inner i d) draft
    → jumps' ≡ jumps ++ still_open labels (get_or inner i d ∷ [])
    → (led labels (drop i inner) draft ≡ led labels inner start)
    × (jumps ++ still_open labels (drop i inner) ≡ before ++ still_open labels inner)
    → (led labels (drop (i + 1) inner) draft' ≡ led labels inner start)
    × (jumps' ++ still_open labels (drop (i + 1) inner) ≡ before ++ still_open labels inner)
close_step labels inner i d start draft draft' before jumps jumps' lt e f inv =
    let x = get_or inner i d in
    let rest = drop (i + 1) inner in
    let opens : still_open labels (drop i inner) ≡ still_open labels (x ∷ []) ++ still_open labels rest =
    at_drop_more (still_open labels) inner i d lt ∙ open_cons labels x rest in (
      ap (led labels rest) e ∙ sym (at_drop_more (λ js. led labels js draft) inner i d lt) ∙ inv.0,
      ap (λ l. l ++ still_open labels rest) f
          ∙ append_assoc jumps (still_open labels (x ∷ [])) (still_open labels rest)
          ∙ sym (ap (λ l. jumps ++ l) opens) ∙ inv.1,
    )
