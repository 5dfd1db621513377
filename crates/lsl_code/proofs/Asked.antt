-- One instruction makes at most as many host calls as a call still can.
use Rattle.std.proofs.Common.{◌≡◌, ℕ, suc, ◌+◌, ◌≤◌, List, true, false, nat_lt, Option, None, Some, refl, sym, ap, ◌∙◌, subst, arith, drop, slice_get}
use Rattle.lsl_code.specs.declared.instructions.Instr.{Instr}
use Rattle.lsl_code.specs.declared.instructions.Instr.TheVariants.{Jump, JumpIf, JumpIfNot, Host, Tick, Call, TestSave, KeepSlot, KeepTop, Seal, TestBack, Unpack, BackSlot, BackTop, Branch, Again, Awake}
use Rattle.lsl_code.specs.Bodies.{Body, instruction_in, instruction_at}
use Rattle.lsl_code.specs.Acts.{Did, Goes, Jumps, Enters, Leaves, Passes, Asks, Ends, Fails, Stuck}
use Rattle.lsl_code.specs.Forward.{is_back, goes_back, is_tick, frees, Lands, Forward}
use Rattle.lsl_code.specs.Laws.{hosts}
use Rattle.lsl_code.proofs.Acts.{is_straight, LeadsTo, is_host, By}
use Rattle.lsl_code.specs.Asking.{code_of, due_jump, due_test, due_of, due_at}
use Rattle.lsl_code.proofs.Due.{hosts_ask, due_flat, due_go, due_past, due_open, past_test}

-- where a call's act continues in the same stretch, at most k can still be asked
abbrev pub Due : List Body → ℕ → ℕ → ℕ → Did → Type 0
Due bodies f pc k (Goes sl ops g) = due_at bodies f (pc + 1) ≤ k
Due bodies f pc k (Jumps t ops) = due_at bodies f t ≤ k
Due bodies f pc k (Enters j ns rest) = due_at bodies j 0 + due_at bodies f (pc + 1) ≤ k
Due bodies f pc k (Asks id args rest) = suc (due_at bodies f (pc + 1)) ≤ k
Due bodies f pc k _ = Unit {0}

pub code_fetch : (o : Option Body) (place : ℕ) → instruction_in o place ≡ slice_get (code_of o) place
code_fetch None place = refl
code_fetch (Some body) place = refl

module _ (bodies : List Body) (fw : Forward bodies) (f pc : ℕ) where
  abbrev code_here : List Instr
  code_here = code_of (slice_get bodies f)

  flat_due : (q : ℕ) → goes_back bodies f q ≡ false → due_at bodies f q ≤ hosts (drop q code_here)
  flat_due q h = due_flat (instruction_at bodies f q) (instruction_at bodies f (q + 1)) q code_here h

  next_due : goes_back bodies f (pc + 1) ≡ false → due_at bodies f (pc + 1) ≤ hosts (drop pc code_here)
  next_due h = due_past false pc _ code_here (flat_due (pc + 1) h)

  go_due : (t : ℕ) → goes_back bodies f t ≡ false → due_at bodies f t ≤ due_jump (nat_lt t (suc pc)) pc code_here
  go_due t h = due_go (nat_lt t (suc pc)) t pc _ code_here refl (flat_due t h)

  test_due : (is_back (pc + 1) (instruction_at bodies f (pc + 1)) ≡ false → goes_back bodies f (pc + 1) ≡ false)
      → due_at bodies f (pc + 1) ≤ due_test (is_tick (instruction_at bodies f (pc + 1)))
      (is_back (pc + 1) (instruction_at bodies f (pc + 1))) pc code_here
  test_due flat =
      past_test _ _ pc code_here (instruction_at bodies f (pc + 1)) (instruction_at bodies f (pc + 1 + 1)) refl
      refl (λ h. flat_due (pc + 1) (flat h))

  straight_due : (i : Instr) → is_straight i ≡ true
      → (frees i pc (instruction_at bodies f (pc + 1)) ≡ false → goes_back bodies f (pc + 1) ≡ false)
      → due_at bodies f (pc + 1) ≤ due_of (Some i) (instruction_at bodies f (pc + 1)) pc code_here
  straight_due (JumpIf t) st flat = due_past (nat_lt t (suc pc)) pc _ code_here (flat_due (pc + 1) (flat refl))
  straight_due (JumpIfNot t) st flat = due_past (nat_lt t (suc pc)) pc _ code_here (flat_due (pc + 1) (flat refl))
  straight_due (TestSave t) st flat = test_due flat
  straight_due (TestBack t) st flat = test_due flat
  straight_due (Jump t) st flat = absurd cc
  straight_due (Tick p) st flat = absurd cc
  straight_due (KeepSlot x) st flat = absurd cc
  straight_due KeepTop st flat = absurd cc
  straight_due (Seal p) st flat = absurd cc
  straight_due Unpack st flat = absurd cc
  straight_due (BackSlot x) st flat = absurd cc
  straight_due BackTop st flat = absurd cc
  straight_due Branch st flat = absurd cc
  straight_due (Again x) st flat = absurd cc
  straight_due Awake st flat = absurd cc
  straight_due i st flat = next_due (flat refl)

  jump_due : (i : Instr) (t : ℕ) → LeadsTo i t → Lands bodies f i
      → due_at bodies f t ≤ due_of (Some i) (instruction_at bodies f (pc + 1)) pc code_here
  jump_due (Jump u) t e h = subst (λ x. due_at bodies f x ≤ due_jump (nat_lt u (suc pc)) pc code_here) e (go_due u h)
  jump_due (JumpIf u) t e h =
      subst (λ x. due_at bodies f x ≤ due_jump (nat_lt u (suc pc)) pc code_here) e (go_due u h)
  jump_due (JumpIfNot u) t e h =
      subst (λ x. due_at bodies f x ≤ due_jump (nat_lt u (suc pc)) pc code_here) e (go_due u h)
  jump_due i t e h = absurd e

  enter_due : (i : Instr) (j p : ℕ) (body : Body) → i ≡ Call j p → slice_get bodies j ≡ Some body
      → (frees i pc (instruction_at bodies f (pc + 1)) ≡ false → goes_back bodies f (pc + 1) ≡ false)
      → due_at bodies j 0 + due_at bodies f (pc + 1) ≤ due_of (Some i) (instruction_at bodies f (pc + 1)) pc
      code_here
  enter_due i j p body e there =
      let callee : due_at bodies j 0 ≡ 0 =
      due_open (instruction_at bodies j 0) (instruction_at bodies j 1) 0 (code_of (slice_get bodies j))
      (fw.starts j body there) in
      subst
      (λ x. (frees x pc (instruction_at bodies f (pc + 1)) ≡ false → goes_back bodies f (pc + 1) ≡ false)
      → due_at bodies j 0 + due_at bodies f (pc + 1) ≤ due_of (Some x)
      (instruction_at bodies f (pc + 1)) pc code_here)
      (sym e) (λ flat. omega (arith, callee, next_due (flat refl)))

  host_due : (i : Instr) → is_host i ≡ true → instruction_at bodies f pc ≡ Some i
      → (frees i pc (instruction_at bodies f (pc + 1)) ≡ false → goes_back bodies f (pc + 1) ≡ false)
      → suc (due_at bodies f (pc + 1)) ≤ due_of (Some i) (instruction_at bodies f (pc + 1)) pc code_here
  host_due (Host id) st e flat =
      let same : hosts (drop (pc + 1) code_here) ≡ hosts (drop (suc pc) code_here) =
      let z : pc + 1 ≡ suc pc = omega arith in ap (λ n. hosts (drop n code_here)) z in
      omega
      (arith, flat_due (pc + 1) (flat refl), hosts_ask pc id code_here (sym (code_fetch (slice_get bodies f) pc) ∙ e))
  host_due i st e flat = absurd cc

  pub by_due : (i : Instr) (d : Did) → By bodies i d → instruction_at bodies f pc ≡ Some i → Lands bodies f i
      → (frees i pc (instruction_at bodies f (pc + 1)) ≡ false → goes_back bodies f (pc + 1) ≡ false)
      → Due bodies f pc (due_of (Some i) (instruction_at bodies f (pc + 1)) pc code_here) d
  by_due i (Goes sl ops g) by e h flat = straight_due i by flat
  by_due i (Jumps t ops) by e h flat = jump_due i t by h
  by_due i (Enters j ns rest) by e h flat = enter_due i j by.0 by.2 by.1 by.3 flat
  by_due i (Leaves o) by e h flat = tt
  by_due i Passes by e h flat = tt
  by_due i (Asks id args rest) by e h flat = host_due i (ap is_host by) e flat
  by_due i (Ends s) by e h flat = tt
  by_due i (Fails x) by e h flat = tt
  by_due i Stuck by e h flat = tt
