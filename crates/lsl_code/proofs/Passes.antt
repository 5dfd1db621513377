-- The pass over code, one instruction more.
use Rattle.std.proofs.Common.{◌≡◌, ℕ, ◌+◌, ◌<◌, List, [], ◌∷◌, ◌++◌, length, take, drop, reverse, get_or, Option, Some, None, true, refl, sym, ap, ap₂, ◌∙◌, arith, append_assoc, add-one, drop-cons}
use Rattle.std.specs.Prelude.{is_some, max, option_and_then}
use Rattle.std.proofs.lemmas.List.{length-reverse}
use Rattle.lsl_value.specs.declared.tagged.Kind.{Kind}
use Rattle.lsl_code.specs.declared.instructions.Instr.{Instr}
use Rattle.lsl_code.specs.declared.instructions.Instr.TheVariants.{Tick, Call}
use Rattle.lsl_code.specs.declared.functions.Point.{Point}
use Rattle.lsl_code.specs.Drafts.{pointed, next_point, numbered, lines_of, or_empty, next, scan, point_before, maps, most_of, finished}
use Rattle.lsl_code.specs.Effects.{behind, runs}
use Rattle.lsl_code.specs.Kinds.{Scope}
use Rattle.lsl_code.proofs.Numbering.{behind_pointed}

-- what the pass over this code has, where these instructions are left
pub record Passed (s : Scope) (d left : List Instr) (stack : List Kind) (points : List Point)
    (stacks : List (List Kind)) (most : ℕ) : Type 0 where
  pub goes : is_some (runs s left stack) ≡ true
  pub mapped : points ++ maps s left stack ≡ maps s d []
  pub shaped : stacks ++ scan s left stack ≡ scan s d []
  pub greatest : max most (most_of (scan s left stack)) ≡ most_of (scan s d [])

max_assoc : (a b c : ℕ) → max (max a b) c ≡ max a (max b c)
max_assoc a b c = omega arith

runs_first : (s : Scope) (o : Option (List Kind)) (is : List Instr)
    → is_some (option_and_then (runs s is) o) ≡ true
    → (is_some o ≡ true) × (is_some (runs s is (or_empty o)) ≡ true)
runs_first s None is e = absurd cc
runs_first s (Some ks) is e = (refl, e)

some_next : (o : Option (List Kind)) (ks : List Kind) → Some ks ≡ o → ks ≡ or_empty o
some_next None ks e = absurd cc
some_next (Some js) ks e = cc

maps_first : (s : Scope) (i : Instr) (ks : List Kind) (points more : List Point)
    → (points ++ point_before s i ks []) ++ more ≡ points ++ point_before s i ks more
maps_first s (Tick line) ks points more = append_assoc points _ more
maps_first s (Call f line) ks points more = append_assoc points _ more
maps_first s i ks points more = append_assoc points [] more

pub can_step : (s : Scope) (d left : List Instr) (x : Instr) (rest : List Instr) (stack : List Kind)
    (points : List Point) (stacks : List (List Kind)) (most : ℕ) → left ≡ x ∷ rest
    → Passed s d left stack points stacks most → is_some (behind s x stack) ≡ true
can_step s d left x rest stack points stacks most e p =
    (runs_first s (behind s x stack) rest (ap (λ l. is_some (runs s l stack)) (sym e) ∙ p.goes)).0

pub pass_step : (s : Scope) (d left : List Instr) (x : Instr) (rest : List Instr) (stack stack' : List Kind)
    (points points' : List Point) (stacks stacks' : List (List Kind)) (before : List Kind) (most most' : ℕ)
    → left ≡ x ∷ rest → Passed s d left stack points stacks most → points' ≡ points ++ point_before s x stack []
    → before ≡ reverse stack → stacks' ≡ stacks ++ before ∷ [] → most' ≡ max most (length stack)
    → Some stack' ≡ behind s x stack → Passed s d rest stack' points' stacks' most'
pass_step s d left x rest stack stack' points points' stacks stacks' before most most' e p pe be se me ke =
    let next' = some_next (behind s x stack) stack' ke in
    record {
      goes =
          ap (λ ks. is_some (runs s rest ks)) next'
          ∙ (runs_first s (behind s x stack) rest (ap (λ l. is_some (runs s l stack)) (sym e) ∙ p.goes)).1;
      mapped =
          ap₂ (λ l ks. l ++ maps s rest ks) pe next' ∙ maps_first s x stack points (maps s rest (next s x stack))
          ∙ ap (λ l. points ++ maps s l stack) (sym e) ∙ p.mapped;
      shaped =
          ap₂ (λ l ks. l ++ scan s rest ks) (se ∙ ap (λ b. stacks ++ b ∷ []) be) next' ∙ append_assoc stacks _ _
          ∙ ap (λ l. stacks ++ scan s l stack) (sym e) ∙ p.shaped;
      greatest =
          ap₂ (λ m ks. max m (most_of (scan s rest ks))) (me ∙ ap (max most) (sym (length-reverse stack))) next'
          ∙ max_assoc most _ _ ∙ ap (λ l. max most (most_of (scan s l stack))) (sym e) ∙ p.greatest;
    }

pub front : (xs : List Instr) (i : ℕ) (x : Instr) → i < length xs → x ≡ get_or xs i x
    → drop i xs ≡ x ∷ drop (i + 1) xs
front xs i x lt is =
    drop-cons xs i x lt ∙ ap₂ (λ y n. y ∷ drop n xs) (sym is) (sym (add-one i))

pub front_of : (xs items : List Instr) (i : ℕ) (x : Instr) → items ≡ xs → i < length items → x ≡ get_or items i x
    → drop i xs ≡ x ∷ drop (i + 1) xs
front_of xs items i x e lt is =
    ap (drop i) (sym e) ∙ front items i x lt is ∙ ap (λ l. x ∷ drop (i + 1) l) e

-- nothing in the pass looks at points
next_pointed : (s : Scope) (i : Instr) (p : ℕ) (ks : List Kind) → next s (pointed i p) ks ≡ next s i ks
next_pointed s i p ks = ap or_empty (behind_pointed s i p ks)

pub scan_numbered : (s : Scope) (d : List Instr) (n : ℕ) (ks : List Kind) → scan s (numbered d n) ks ≡ scan s d ks
scan_numbered s [] n ks = refl
scan_numbered s (i ∷ d) n ks =
    ap (λ r. reverse ks ∷ r)
    (ap (scan s (numbered d (next_point i n))) (next_pointed s i n ks) ∙ scan_numbered s d (next_point i n)
    (next s i ks))

point_pointed : (s : Scope) (i : Instr) (p : ℕ) (ks : List Kind) (more : List Point)
    → point_before s (pointed i p) ks more ≡ point_before s i ks more
point_pointed s (Tick line) p ks more = refl
point_pointed s (Call f line) p ks more = refl
point_pointed s i p ks more = refl

pub maps_numbered : (s : Scope) (d : List Instr) (n : ℕ) (ks : List Kind) → maps s (numbered d n) ks ≡ maps s d ks
maps_numbered s [] n ks = refl
maps_numbered s (i ∷ d) n ks =
    point_pointed s i n ks (maps s (numbered d (next_point i n)) (next s (pointed i n) ks))
    ∙ ap (point_before s i ks)
    (ap (maps s (numbered d (next_point i n))) (next_pointed s i n ks) ∙ maps_numbered s d (next_point i n)
    (next s i ks))

pub runs_numbered : (s : Scope) (d : List Instr) (n : ℕ) (ks : List Kind) → runs s (numbered d n) ks ≡ runs s d ks
runs_numbered s [] n ks = refl
runs_numbered s (i ∷ d) n ks =
    ap (option_and_then (runs s (numbered d (next_point i n)))) (behind_pointed s i n ks)
    ∙ both (behind s i ks) (λ js. runs_numbered s d (next_point i n) js)
  where
    both : (o : Option (List Kind)) → ((js : List Kind) → runs s (numbered d (next_point i n)) js ≡ runs s d js)
        → option_and_then (runs s (numbered d (next_point i n))) o ≡ option_and_then (runs s d) o
    both None h = refl
    both (Some js) h = h js

-- the function of a draft, from what the pass over its code found
pub made_of : (name : List ℕ) (s : Scope) (count : ℕ) (d : List Instr) (params : List Kind) (most : ℕ)
    (points : List Point) (lines' : List ℕ) (code code' : List Instr) (lines : List ℕ) (stacks : List (List Kind))
    → code ≡ numbered d 0 → lines ≡ lines_of d → params ≡ take count s.slots → points ≡ maps s code []
    → stacks ≡ scan s code [] → most ≡ most_of (scan s code []) → lines' ≡ lines → code' ≡ code
    → record {
      name = name;
      params = params;
      slots = s.slots;
      result = s.result;
      most = most;
      points = points;
      lines =
          lines';
      code = code';
      stacks = stacks;
    }
    ≡ finished name s count d
made_of name s count d params most points lines' code code' lines stacks ce le pe me se ge lf cf =
    let scanned : scan s code [] ≡ scan s d [] = ap (λ c. scan s c []) ce ∙ scan_numbered s d 0 [] in
    let mapped : maps s code [] ≡ maps s d [] = ap (λ c. maps s c []) ce ∙ maps_numbered s d 0 [] in
    let e1 = pe in
    let e2 = ge ∙ ap most_of scanned in
    let e3 = me ∙ mapped in
    let e4 = lf ∙ le in
    let e5 = cf ∙ ce in
    let e6 = se ∙ scanned in
    cc
