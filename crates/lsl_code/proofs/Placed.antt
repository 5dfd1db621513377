-- Pieces of a draft, at their places.
use Rattle.std.proofs.Common.{◌≡◌, ℕ, suc, ◌+◌, ◌<◌, List, [], ◌∷◌, ◌++◌, length, Some, Bool, true, false, refl, sym, ap, ◌∙◌, subst, arith, slice_get, append_assoc, length-append}
use Rattle.std.specs.Prelude.{not, ◌&&◌}
use Rattle.std.proofs.lemmas.Bool.Decides.{nat_tests}
use Rattle.lsl_value.specs.declared.tagged.Kind.{Kind}
use Rattle.lsl_code.specs.declared.instructions.Instr.{Instr}
use Rattle.lsl_code.specs.declared.instructions.Instr.TheVariants.{Jump, JumpIf, JumpIfNot, Tick, Return, ReturnValue, GoState, Reset, TestSave, TestBack}
use Rattle.lsl_code.specs.Effects.{behind, runs}
use Rattle.lsl_code.specs.Forward.{is_back}
use Rattle.lsl_code.specs.Kinds.{Scope}
use Rattle.lsl_code.proofs.Scans.{kinds_before, kinds_before_step, step_some}
use Rattle.lsl_code.proofs.Tested.{within_list}
use Rattle.lsl_code.proofs.Ways.{Open, Way, Ways}

-- the instructions are at this place
abbrev pub StandsAt : List Instr → ℕ → List Instr → Type 0
StandsAt d pc [] = Unit {0}
StandsAt d pc (i ∷ is) = (slice_get d pc ≡ Some i) × StandsAt d (pc + 1) is

pub has_front : (d : List Instr) (pc : ℕ) (a b : List Instr) → StandsAt d pc (a ++ b) → StandsAt d pc a
has_front d pc [] b h = tt
has_front d pc (i ∷ a) b h = (h.0, has_front d (pc + 1) a b h.1)

pub has_back : (d : List Instr) (pc : ℕ) (a b : List Instr) → StandsAt d pc (a ++ b) → StandsAt d (pc + length a) b
has_back d pc [] b h = let e : pc ≡ pc + 0 = omega arith in subst (λ n. StandsAt d n b) e h
has_back d pc (i ∷ a) b h =
    let e : pc + 1 + length a ≡ pc + length (i ∷ a) = omega arith in
    subst (λ n. StandsAt d n b) e (has_back d (pc + 1) a b h.1)

seam : (pre : List Instr) (i : Instr) (is : List Instr) → slice_get (pre ++ i ∷ is) (length pre) ≡ Some i
seam [] i is = refl
seam (x ∷ pre) i is = seam pre i is

has_from : (d is pre : List Instr) → d ≡ pre ++ is → StandsAt d (length pre) is
has_from d [] pre c = tt
has_from d (i ∷ is) pre c =
    let n : length (pre ++ i ∷ []) ≡ length pre + 1 = omega (arith, length-append pre (i ∷ [])) in
    let rest = has_from d is (pre ++ i ∷ []) (c ∙ sym (append_assoc pre (i ∷ []) is)) in
    (ap (λ l. slice_get l (length pre)) c ∙ seam pre i is, subst (λ m. StandsAt d m is) n rest)

pub has_all : (d : List Instr) → StandsAt d 0 d
has_all d = has_from d d [] refl

-- an instruction that continues at the next one
abbrev pub falls_through : Instr → Bool
falls_through (Jump t) = false
falls_through (JumpIf t) = false
falls_through (JumpIfNot t) = false
falls_through Return = false
falls_through ReturnValue = false
falls_through (GoState n) = false
falls_through Reset = false
falls_through (TestSave t) = false
falls_through (TestBack t) = false
falls_through i = true

abbrev pub all_fall_through : List Instr → Bool
all_fall_through [] = true
all_fall_through (i ∷ is) = falls_through i && all_fall_through is

pub all_fall_through-append : (a b : List Instr) → all_fall_through a ≡ true → all_fall_through b ≡ true
    → all_fall_through (a ++ b) ≡ true
all_fall_through-append [] b e f = f
all_fall_through-append (i ∷ a) b e f = step (falls_through i) e (λ g. all_fall_through-append a b g f)
  where
    step : (t : Bool) → (t && all_fall_through a) ≡ true
        → (all_fall_through a ≡ true → all_fall_through (a ++ b) ≡ true) → (t && all_fall_through (a ++ b)) ≡ true
    step true e more = more e
    step false e more = absurd cc

module _ (s : Scope) (d : List Instr) where
  -- the kinds after instructions that run
  pub kinds_behind : (is : List Instr) (pc : ℕ) (js : List Kind) → StandsAt d pc is
      → runs s is (kinds_before s d [] pc) ≡ Some js → kinds_before s d [] (pc + length is) ≡ js
  kinds_behind [] pc js h e =
      let z : pc + 0 ≡ pc = omega arith in let same : kinds_before s d [] pc ≡ js = cc in ap (kinds_before s d [])
      z
      ∙ same
  kinds_behind (i ∷ is) pc js h e =
      let z : pc + 1 + length is ≡ pc + length (i ∷ is) = omega arith in
      let y : pc + 1 ≡ suc pc = omega arith in
      let next = ap (kinds_before s d []) y ∙ kinds_before_step s d [] pc i h.0 in
      ap (kinds_before s d []) (sym z)
      ∙ kinds_behind is (pc + 1) js h.1
      (ap (runs s is) next ∙ (step_some s (behind s i (kinds_before s d [] pc)) is js e).1)

  pub join : (pc : ℕ) (a b : List Instr) → Ways s d pc a → Ways s d (pc + length a) b → Ways s d pc (a ++ b)
  join pc [] b ha hb = let e : pc + 0 ≡ pc = omega arith in subst (λ n. Ways s d n b) e hb
  join pc (i ∷ a) b ha hb =
      let e : pc + length (i ∷ a) ≡ pc + 1 + length a = omega arith in
      (ha.0, join (pc + 1) a b ha.1 (subst (λ n. Ways s d n b) e hb))

  -- a place with an instruction that isn't a jump backward
  pub open_at : (pc : ℕ) (i : Instr) → slice_get d pc ≡ Some i → is_back pc (Some i) ≡ false → Open s d pc
  open_at pc i e h = (within_list d pc i e, ap (λ o. not (is_back pc o)) e ∙ ap not h)

  pub open_jump : (pc t : ℕ) → slice_get d pc ≡ Some (Jump t) → pc < t → Open s d pc
  open_jump pc t e lt = open_at pc (Jump t) e (grind (arith, nat_tests))

  pub open_if : (pc t : ℕ) → slice_get d pc ≡ Some (JumpIf t) → pc < t → Open s d pc
  open_if pc t e lt = open_at pc (JumpIf t) e (grind (arith, nat_tests))

  pub open_if_not : (pc t : ℕ) → slice_get d pc ≡ Some (JumpIfNot t) → pc < t → Open s d pc
  open_if_not pc t e lt = open_at pc (JumpIfNot t) e (grind (arith, nat_tests))

  through_back : (pc : ℕ) (i : Instr) → falls_through i ≡ true → is_back pc (Some i) ≡ false
  through_back pc (Jump t) e = absurd cc
  through_back pc (JumpIf t) e = absurd cc
  through_back pc (JumpIfNot t) e = absurd cc
  through_back pc i e = refl

  through_way : (pc : ℕ) (i : Instr) → falls_through i ≡ true → Open s d (pc + 1) → Way s d pc i
  through_way pc (Jump t) e o = absurd cc
  through_way pc (JumpIf t) e o = absurd cc
  through_way pc (JumpIfNot t) e o = absurd cc
  through_way pc Return e o = absurd cc
  through_way pc ReturnValue e o = absurd cc
  through_way pc (GoState n) e o = absurd cc
  through_way pc Reset e o = absurd cc
  through_way pc (TestSave t) e o = absurd cc
  through_way pc (TestBack t) e o = absurd cc
  through_way pc (Tick line) e o = o.0
  through_way pc i e o = o

  -- code that is in order, and begins at an open place, if an open place follows it
  pub through_piece : (is : List Instr) (pc : ℕ) → all_fall_through is ≡ true → StandsAt d pc is
      → Open s d (pc + length is) → Ways s d pc is × Open s d pc
  through_piece [] pc e h o = let z : pc + 0 ≡ pc = omega arith in (tt, subst (Open s d) z o)
  through_piece (i ∷ is) pc e h o = step (falls_through i) refl e
      (λ f. let z : pc + length (i ∷ is) ≡ pc + 1 + length is = omega arith in through_piece is (pc + 1) f h.1
      (subst (Open s d) z o))
    where
      step : (t : Bool) → falls_through i ≡ t → (t && all_fall_through is) ≡ true
          → (all_fall_through is ≡ true → Ways s d (pc + 1) is × Open s d (pc + 1))
          → Ways s d pc (i ∷ is) × Open s d pc
      step true p e more = let r = more e in ((through_way pc i p r.1, r.0), open_at pc i h.0 (through_back pc i p))
      step false p e more = absurd cc
