-- A text has one program, and a text with a program has no fault.
use Rattle.std.proofs.Common.{◌≡◌, ℕ, List, inl, inr, sym, ◌∙◌, subst}
use Rattle.lsl_lex.specs.declared.token_types.Tokens.{Tokens}
use Rattle.lsl_lex.specs.Lexed.{Lexes}
use Rattle.lsl_lex.proofs.Top.{same_tokens, no_fault}
use Rattle.lsl_tree.specs.Scripts.{Tree}
use Rattle.lsl_tree.specs.Program.{Program}
use Rattle.lsl_parse.specs.Faults.{Derives}
use Rattle.lsl_parse.proofs.FirstFault.{unambiguous, no_first}
use Rattle.lsl_type.specs.Typed.{Typed}
use Rattle.lsl_bodies.proofs.Deciding.{ok_same}
use Rattle.lsl_type.proofs.ScriptLemmas.{script_decides}
use Rattle.lsl_type.proofs.Top.{no_breach}
use Rattle.lsl_build.specs.declared.faults.BuildFault.{BuildFault}
use Rattle.lsl_build.specs.Accepted.{IsAccepted, Accepted}
use Rattle.lsl_build.specs.Faults.{FirstFault}

-- what some tokens of a text are derived as, all tokens of it are
pub derived_as : (text : List ℕ) (a b : Tokens) → Lexes text a → Lexes text b → (script : Tree)
    → Derives a.list script → Derives b.list script
derived_as text a b h k script derived =
    subst (λ (t : Tokens). Derives t.list script) (same_tokens text a b h k) derived

-- a text is derived as one script
pub one_derived : (text : List ℕ) (a b : Tokens) → Lexes text a → Lexes text b → (x y : Tree)
    → Derives a.list x → Derives b.list y → x ≡ y
one_derived text a b h k x y d e = unambiguous b.list x y (derived_as text a b h k x d) e

pub one_script : (text : List ℕ) (script : Tree) (program : Program) → IsAccepted text script program
    → (tokens : Tokens) → Lexes text tokens → (other : Tree) → Derives tokens.list other → script ≡ other
one_script text script program accepted tokens lexed other derived =
    one_derived text accepted.tokens tokens accepted.lexed lexed script other accepted.derived derived

-- a script is one program
one_typed : (script : Tree) (p q : Program) → Typed script p → Typed script q → p ≡ q
one_typed script p q t u =
    let rules = script_decides script in
    ok_same p q (sym (rules.types p t) ∙ rules.types q u)

-- a text is accepted as one program
pub one_program : (text : List ℕ) (p q : Program) → Accepted text p → Accepted text q → p ≡ q
one_program text p q (script, a) (other, b) =
    let one = one_script text script p a b.tokens b.lexed other b.derived in
    one_typed other p q (subst (λ (s : Tree). Typed s p) one a.typed) b.typed

-- an accepted text has no fault
pub accepted-no_fault : (text : List ℕ) (script : Tree) (program : Program) (fault : BuildFault)
    → IsAccepted text script program → FirstFault text fault → ⊥
accepted-no_fault text script program fault accepted (inl h) =
    no_fault text accepted.tokens h.lexical accepted.lexed h.first
accepted-no_fault text script program fault accepted (inr (inl h)) =
    let derived = derived_as text accepted.tokens h.tokens accepted.lexed h.lexed script accepted.derived in
    no_first h.first.0 h.tokens.list h.syntactic.kind script derived h.first.1
accepted-no_fault text script program fault accepted (inr (inr h)) =
    let one = one_script text script program accepted h.tokens h.lexed h.script h.derived in
    let typed = subst (λ (s : Tree). Typed s program) one accepted.typed in
    no_breach h.script program h.semantic typed h.first
