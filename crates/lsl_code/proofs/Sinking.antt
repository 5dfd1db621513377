-- What one instruction does leaves less to do before the next tick.
use Rattle.std.proofs.Common.{◌≡◌, ℕ, suc, ◌+◌, ◌-◌, ◌*◌, ◌<◌, List, true, false, nat_lt, Some, refl, sym, ap, subst, arith, slice_get}
use Rattle.lsl_code.specs.declared.instructions.Instr.{Instr}
use Rattle.lsl_code.specs.declared.instructions.Instr.TheVariants.{Jump, JumpIf, JumpIfNot, Host, Tick, Call, Return, ReturnValue, TestSave, KeepSlot, KeepTop, Seal, TestBack, Unpack, BackSlot, BackTop, Branch, Again, Awake}
use Rattle.lsl_code.specs.Bodies.{Body, instruction_at}
use Rattle.lsl_code.specs.Acts.{Did, Goes, Jumps, Enters, Leaves, Passes, Asks, Ends, Fails, Stuck}
use Rattle.lsl_code.specs.Runs.{length_in}
use Rattle.lsl_code.specs.Forward.{is_back, goes_back, is_tick, frees, Lands, Forward}
use Rattle.lsl_code.proofs.Acts.{is_straight, LeadsTo, leaves, is_host, By}
use Rattle.lsl_code.proofs.Ranks.{rank_jump, rank_test, rank_of, rank_at, Flat, rank_flat, rank_after, rank_enter, rank_go, past_jump, rank_open, past_test, there_within}

-- where a call's act continues in the same stretch, less than k is left of this call, or of it and its callee
abbrev pub Sinks : List Body → ℕ → ℕ → ℕ → Did → Type 0
Sinks bodies f pc k (Goes sl ops g) = rank_at bodies f (pc + 1) < k
Sinks bodies f pc k (Jumps t ops) = rank_at bodies f t < k
Sinks bodies f pc k (Enters j ns rest) = rank_at bodies j 0 + rank_at bodies f (pc + 1) < k
Sinks bodies f pc k (Leaves o) = 0 < k
Sinks bodies f pc k (Asks id args rest) = rank_at bodies f (pc + 1) < k
Sinks bodies f pc k _ = Unit {0}

module _ (bodies : List Body) (fw : Forward bodies) (f pc : ℕ) (lt : pc < length_in (slice_get bodies f)) where
  abbrev long : ℕ
  long = length_in (slice_get bodies f)

  flat_at : (q : ℕ) → goes_back bodies f q ≡ false → Flat (rank_at bodies f q) q long
  flat_at q h =
      rank_flat (instruction_at bodies f q) (instruction_at bodies f (q + 1)) q long
      (there_within (slice_get bodies f) q (instruction_at bodies f q) refl) h

  next_sinks : goes_back bodies f (pc + 1) ≡ false → rank_at bodies f (pc + 1) < 3 * (long - pc)
  next_sinks flat = rank_after _ (pc + 1) long pc lt (omega arith) (flat_at (pc + 1) flat)

  enter_ranks : (j : ℕ) (body : Body) → slice_get bodies j ≡ Some body → goes_back bodies f (pc + 1) ≡ false
      → rank_at bodies j 0 + rank_at bodies f (pc + 1) < 3 * (long - pc)
  enter_ranks j body e flat =
      rank_enter _ _ long pc
      (rank_open (instruction_at bodies j 0) (instruction_at bodies j 1) 0 (length_in (slice_get bodies j))
      (fw.starts j body e))
      lt (flat_at (pc + 1) flat)

  go_sinks : (t : ℕ) → goes_back bodies f t ≡ false → rank_at bodies f t < rank_jump (nat_lt t (suc pc)) pc long
  go_sinks t h = rank_go (nat_lt t (suc pc)) t pc long _ refl lt (flat_at t h)

  test_sinks : (is_back (pc + 1) (instruction_at bodies f (pc + 1)) ≡ false → goes_back bodies f (pc + 1) ≡ false)
      → rank_at bodies f (pc + 1) < rank_test (is_tick (instruction_at bodies f (pc + 1)))
      (is_back (pc + 1) (instruction_at bodies f (pc + 1))) pc long
  test_sinks flat =
      past_test _ _ pc long (instruction_at bodies f (pc + 1)) (instruction_at bodies f (pc + 1 + 1)) refl refl lt
      (λ h. flat_at (pc + 1) (flat h))

  -- straight on
  straight_sinks : (i : Instr) → is_straight i ≡ true
      → (frees i pc (instruction_at bodies f (pc + 1)) ≡ false → goes_back bodies f (pc + 1) ≡ false)
      → rank_at bodies f (pc + 1) < rank_of (Some i) (instruction_at bodies f (pc + 1)) pc long
  straight_sinks (JumpIf t) st flat = past_jump (nat_lt t (suc pc)) pc long _ lt (flat_at (pc + 1) (flat refl))
  straight_sinks (JumpIfNot t) st flat = past_jump (nat_lt t (suc pc)) pc long _ lt (flat_at (pc + 1) (flat refl))
  straight_sinks (TestSave t) st flat = test_sinks flat
  straight_sinks (TestBack t) st flat = test_sinks flat
  straight_sinks (Jump t) st flat = absurd cc
  straight_sinks (Tick p) st flat = absurd cc
  straight_sinks (KeepSlot x) st flat = absurd cc
  straight_sinks KeepTop st flat = absurd cc
  straight_sinks (Seal p) st flat = absurd cc
  straight_sinks Unpack st flat = absurd cc
  straight_sinks (BackSlot x) st flat = absurd cc
  straight_sinks BackTop st flat = absurd cc
  straight_sinks Branch st flat = absurd cc
  straight_sinks (Again x) st flat = absurd cc
  straight_sinks Awake st flat = absurd cc
  straight_sinks i st flat = next_sinks (flat refl)

  jump_sinks : (i : Instr) (t : ℕ) → LeadsTo i t → Lands bodies f i
      → rank_at bodies f t < rank_of (Some i) (instruction_at bodies f (pc + 1)) pc long
  jump_sinks (Jump u) t e h = subst (λ x. rank_at bodies f x < rank_jump (nat_lt u (suc pc)) pc long) e (go_sinks u h)
  jump_sinks (JumpIf u) t e h =
      subst (λ x. rank_at bodies f x < rank_jump (nat_lt u (suc pc)) pc long) e (go_sinks u h)
  jump_sinks (JumpIfNot u) t e h =
      subst (λ x. rank_at bodies f x < rank_jump (nat_lt u (suc pc)) pc long) e (go_sinks u h)
  jump_sinks i t e h = absurd e

  leave_sinks : (i : Instr) → leaves i ≡ true → 0 < rank_of (Some i) (instruction_at bodies f (pc + 1)) pc long
  leave_sinks Return e = omega arith
  leave_sinks ReturnValue e = omega arith
  leave_sinks i e = absurd cc

  enter_sinks : (i : Instr) (j p : ℕ) (body : Body) → i ≡ Call j p → slice_get bodies j ≡ Some body
      → (frees i pc (instruction_at bodies f (pc + 1)) ≡ false → goes_back bodies f (pc + 1) ≡ false)
      → rank_at bodies j 0 + rank_at bodies f (pc + 1) < rank_of (Some i) (instruction_at bodies f (pc + 1)) pc
      long
  enter_sinks i j p body e there =
      subst
      (λ x. (frees x pc (instruction_at bodies f (pc + 1)) ≡ false → goes_back bodies f (pc + 1) ≡ false)
      → rank_at bodies j 0 + rank_at bodies f (pc + 1) < rank_of (Some x)
      (instruction_at bodies f (pc + 1)) pc long)
      (sym e) (λ flat. enter_ranks j body there (flat refl))

  host_straight : (i : Instr) → is_host i ≡ true → is_straight i ≡ true
  host_straight (Host id) e = refl
  host_straight i e = absurd cc

  pub by_sinks : (i : Instr) (d : Did) → By bodies i d → Lands bodies f i
      → (frees i pc (instruction_at bodies f (pc + 1)) ≡ false → goes_back bodies f (pc + 1) ≡ false)
      → Sinks bodies f pc (rank_of (Some i) (instruction_at bodies f (pc + 1)) pc long) d
  by_sinks i (Goes sl ops g) by h flat = straight_sinks i by flat
  by_sinks i (Jumps t ops) by h flat = jump_sinks i t by h
  by_sinks i (Enters j ns rest) by h flat = enter_sinks i j by.0 by.2 by.1 by.3 flat
  by_sinks i (Leaves o) by h flat = leave_sinks i by
  by_sinks i Passes by h flat = tt
  by_sinks i (Asks id args rest) by h flat = straight_sinks i (host_straight i (ap is_host by)) flat
  by_sinks i (Ends s) by h flat = tt
  by_sinks i (Fails x) by h flat = tt
  by_sinks i Stuck by h flat = tt
