-- Where a machine continues finds the kinds after the instruction.
use Rattle.std.proofs.Common.{◌≡◌, ℕ, zero, suc, ◌+◌, ◌<◌, List, [], ◌∷◌, length, Option, Some, None, true, refl, ◌∙◌, subst, arith, slice_get}
use Rattle.lsl_value.specs.Values.{kind_of}
use Rattle.lsl_value.specs.declared.names.BuiltinId.{BuiltinId}
use Rattle.lsl_value.specs.declared.tagged.Kind.{Kind}
use Rattle.lsl_table.specs.Calls.{row_of}
use Rattle.lsl_code.specs.declared.instructions.Instr.{Instr}
use Rattle.lsl_code.specs.declared.instructions.Instr.TheVariants.{Jump, JumpIf, JumpIfNot, Return, ReturnValue, GoState, Reset}
use Rattle.lsl_code.specs.Bodies.{Body}
use Rattle.lsl_code.specs.Fits.{finds, goes_on}
use Rattle.lsl_running.specs.declared.host.Reply.{Reply}
use Rattle.lsl_running.specs.declared.host.Reply.TheVariants as reply
use Rattle.lsl_running.specs.Calling.{is_answer_to}
use Rattle.lsl_code.specs.Kinded.{Answers}
use Rattle.lsl_code.proofs.Acts.{is_straight, LeadsTo}
use Rattle.lsl_code.proofs.Sames.{both_true}

-- straight on, the next place finds the kinds
pub straight_finds : (w : Body) (place : ℕ) (i : Instr) (js : List Kind) → is_straight i ≡ true
    → goes_on w place i js ≡ true → finds w (place + 1) js ≡ true
straight_finds w place (JumpIf to) js st on = (both_true _ _ on).1
straight_finds w place (JumpIfNot to) js st on = (both_true _ _ on).1
straight_finds w place (Jump to) js st on = absurd cc
straight_finds w place Return js st on = absurd cc
straight_finds w place ReturnValue js st on = absurd cc
straight_finds w place (GoState n) js st on = absurd cc
straight_finds w place Reset js st on = absurd cc
straight_finds w place i js st on = on

-- and where a jump leads, that place does
pub jump_finds : (w : Body) (place to : ℕ) (i : Instr) (js : List Kind) → LeadsTo i to → goes_on w place i js ≡ true
    → finds w to js ≡ true
jump_finds w place to (Jump t) js e on = subst (λ q. finds w q js ≡ true) e on
jump_finds w place to (JumpIf t) js e on = subst (λ q. finds w q js ≡ true) e (both_true _ _ on).0
jump_finds w place to (JumpIfNot t) js e on = subst (λ q. finds w q js ≡ true) e (both_true _ _ on).0
jump_finds w place to i js e on = absurd e

-- an answer of the right kind is one to its call
pub answer_taken : (result : Option Kind) (r : Reply) (id : BuiltinId) → (row_of id).result ≡ result → Answers id r
    → is_answer_to result r ≡ true
answer_taken None (reply.Value None) id e h = refl
answer_taken None (reply.Value (Some v)) id e h = let never : Some (kind_of v) ≡ None = h ∙ e in absurd cc
answer_taken (Some k) (reply.Value None) id e h = let never : None ≡ Some k = h ∙ e in absurd cc
answer_taken (Some k) (reply.Value (Some v)) id e h = refl
answer_taken None (reply.Stop fault) id e h = refl
answer_taken (Some k) (reply.Stop fault) id e h = refl

pub some_within : {A : Type 0} (xs : List A) (k : ℕ) → k < length xs → slice_get xs k ≡ None → ⊥
some_within [] k lt e = absurd (omega arith)
some_within (x ∷ xs) zero lt e = absurd cc
some_within (x ∷ xs) (suc k) lt e = some_within xs k (omega arith) e
