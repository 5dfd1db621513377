-- Woven code has as many instructions that ask as the plain code.
use Rattle.std.proofs.Common.{◌≡◌, ℕ, zero, suc, ◌+◌, List, [], ◌∷◌, ◌++◌, length, Option, Some, None, refl, ap, ◌∙◌, arith}
use Rattle.lsl_code.specs.declared.functions.Point.{Point}
use Rattle.lsl_code.specs.declared.instructions.Instr.{Instr}
use Rattle.lsl_code.specs.declared.instructions.Instr.TheVariants.{Jump, JumpIf, JumpIfNot, Tick, Call, Host, Seal, Unpack, Branch}
use Rattle.lsl_code.specs.Bodies.{Body}
use Rattle.lsl_code.specs.Laws.{hosts}
use Rattle.lsl_code.specs.ModeStacks.{flat}
use Rattle.lsl_weave.specs.Layout.{waiting, main, keep_tops, keep_slots, save_block, back_slots, back_tops, back_end, back_block, table, woven_code}
use Rattle.lsl_weave.specs.UnitLaws.{AsksAlike}

hosts_both : (a b : List Instr) → hosts (a ++ b) ≡ hosts a + hosts b
hosts_both [] b = omega arith
hosts_both (Host id ∷ a) b = omega (arith, hosts_both a b)
hosts_both (i ∷ a) b = hosts_both a b

hosts_on : (i : Instr) (a b : List Instr) → hosts a ≡ hosts b → hosts (i ∷ a) ≡ hosts (i ∷ b)
hosts_on (Host id) a b e = ap suc e
hosts_on i a b e = e

main_hosts : (b : Body) (k : ℕ) (i : Instr) (rest : List Instr) → hosts (main b k i ++ rest) ≡ hosts (i ∷ rest)
main_hosts b k (Tick p) rest = refl
main_hosts b k (Call f p) rest = refl
main_hosts b k (Jump to) rest = refl
main_hosts b k (JumpIf to) rest = refl
main_hosts b k (JumpIfNot to) rest = refl
main_hosts b k i rest = refl

mains_hosts : (b : Body) (k : ℕ) (code : List Instr) → hosts (flat (main b) k code) ≡ hosts code
mains_hosts b k [] = refl
mains_hosts b k (i ∷ code) =
    main_hosts b k i (flat (main b) (suc k) code) ∙ hosts_on i _ code (mains_hosts b (suc k) code)

tops_hosts : (n : ℕ) (tail : List Instr) → hosts (keep_tops n tail) ≡ hosts tail
tops_hosts zero tail = refl
tops_hosts (suc n) tail = tops_hosts n tail

slots_hosts : (n : ℕ) (tail : List Instr) → hosts (keep_slots n tail) ≡ hosts tail
slots_hosts zero tail = refl
slots_hosts (suc n) tail = slots_hosts n tail

back_slots_hosts : (i n : ℕ) (tail : List Instr) → hosts (back_slots i n tail) ≡ hosts tail
back_slots_hosts i zero tail = refl
back_slots_hosts i (suc n) tail = back_slots_hosts (suc i) n tail

back_tops_hosts : (n : ℕ) (tail : List Instr) → hosts (back_tops n tail) ≡ hosts tail
back_tops_hosts zero tail = refl
back_tops_hosts (suc n) tail = back_tops_hosts n tail

end_hosts : (b : Body) (p : ℕ) (callee : Option ℕ) → hosts (back_end b p callee) ≡ 0
end_hosts b p None = refl
end_hosts b p (Some f) = refl

flat_hosts : {A : Type 0} (g : ℕ → A → List Instr) → ((i : ℕ) (x : A) → hosts (g i x) ≡ 0) → (i : ℕ) (xs : List A)
    → hosts (flat g i xs) ≡ 0
flat_hosts g none i [] = refl
flat_hosts g none i (x ∷ xs) =
    omega (arith, hosts_both (g i x) (flat g (suc i) xs), none i x, flat_hosts g none (suc i) xs)

module _ (b : Body) where
  save_hosts : (p : ℕ) (pt : Point) → hosts (save_block b p pt) ≡ 0
  save_hosts p pt =
      tops_hosts (waiting b pt) (keep_slots (length b.slots) (Seal p ∷ []))
      ∙ slots_hosts (length b.slots) (Seal p ∷ [])

  back_hosts : (p : ℕ) (pt : Point) → hosts (back_block b p pt) ≡ 0
  back_hosts p pt =
      back_slots_hosts 0 (length b.slots) (back_tops (waiting b pt) (back_end b p pt.calls))
      ∙ back_tops_hosts (waiting b pt) (back_end b p pt.calls) ∙ end_hosts b p pt.calls

  body_hosts : hosts (woven_code b) ≡ hosts b.code
  body_hosts =
      let tail = flat (table b) 0 b.points ++ flat (back_block b) 0 b.points in
      omega (
        arith,
        hosts_both (flat (main b) 0 b.code) (flat (save_block b) 0 b.points ++ (Unpack ∷ Branch ∷ tail)),
        hosts_both (flat (save_block b) 0 b.points) (Unpack ∷ Branch ∷ tail),
        hosts_both (flat (table b) 0 b.points) (flat (back_block b) 0 b.points),
        mains_hosts b 0 b.code,
        flat_hosts (save_block b) save_hosts 0 b.points,
        flat_hosts (table b) (λ p pt. refl) 0 b.points,
        flat_hosts (back_block b) back_hosts 0 b.points,
      )

pub asks_alike : AsksAlike
asks_alike [] = refl
asks_alike (b ∷ bodies) = omega (arith, body_hosts b, asks_alike bodies)
