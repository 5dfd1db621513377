-- A text has one first fault.
use Rattle.std.proofs.Common.{◌≡◌, ℕ, List, inl, inr, ap, sym, ◌∙◌, subst}
use Rattle.lsl_lex.specs.declared.token_types.Tokens.{Tokens}
use Rattle.lsl_lex.proofs.Top.{same_tokens, same_fault, no_fault}
use Rattle.lsl_tree.specs.Scripts.{Tree}
use Rattle.lsl_tree.specs.Program as program
use Rattle.lsl_parse.specs.Faults.{IsFirst, span_at}
use Rattle.lsl_parse.specs.declared.fault.ParseFault.{ParseFault}
use Rattle.lsl_parse.proofs.FirstFault.{no_first, one_first}
use Rattle.lsl_type.specs.Typed.{TypeFirst}
use Rattle.lsl_bodies.specs.declared.faults.TypeFault.{TypeFault}
use Rattle.lsl_bodies.proofs.Deciding.{err_same}
use Rattle.lsl_type.proofs.ScriptLemmas.{script_decides}
use Rattle.lsl_build.specs.declared.faults.BuildFault.{BuildFault}
use Rattle.lsl_build.specs.Faults.{FirstFault, IsLexical, IsSyntactic, IsSemantic, lexical_fault_of, syntax_fault_of, semantic_fault_of}
use Rattle.lsl_build.proofs.Accepted.{derived_as, one_derived}

-- tokens have one first fault
one_syntactic : (tokens : Tokens) (a b : ParseFault) → IsFirst tokens.list tokens.end a
    → IsFirst tokens.list tokens.end b → a ≡ b
one_syntactic tokens a b (p, h, e) (q, k, f) =
    let one = one_first p q tokens.list a.kind b.kind h k in
    let span = e ∙ ap (span_at tokens.list tokens.end) one.0 ∙ sym f in
    ap (λ z. record { kind = z; span = a.span }) one.1 ∙ ap (λ z. record { kind = b.kind; span = z }) span

-- a script has one first fault of names and kinds
one_breach : (script : Tree) (a b : TypeFault) → TypeFirst script a → TypeFirst script b → a ≡ b
one_breach script a b h k =
    let rules = script_decides script in
    err_same program.Program a b (sym (rules.breaks a h) ∙ rules.breaks b k)

same_lexical : (text : List ℕ) (a b : BuildFault) → IsLexical text a → IsLexical text b → a ≡ b
same_lexical text a b h k =
    h.fault_is ∙ ap lexical_fault_of (same_fault text h.lexical k.lexical h.first k.first) ∙ sym k.fault_is

same_syntactic : (text : List ℕ) (a b : BuildFault) → IsSyntactic text a → IsSyntactic text b → a ≡ b
same_syntactic text a b h k =
    let tokens = same_tokens text h.tokens k.tokens h.lexed k.lexed in
    let first = subst (λ (t : Tokens). IsFirst t.list t.end h.syntactic) tokens h.first in
    h.fault_is ∙ ap syntax_fault_of (one_syntactic k.tokens h.syntactic k.syntactic first k.first)
    ∙ sym k.fault_is

same_semantic : (text : List ℕ) (a b : BuildFault) → IsSemantic text a → IsSemantic text b → a ≡ b
same_semantic text a b h k =
    let script = one_derived text h.tokens k.tokens h.lexed k.lexed h.script k.script h.derived k.derived in
    let first = subst (λ (s : Tree). TypeFirst s h.semantic) script h.first in
    h.fault_is ∙ ap semantic_fault_of (one_breach k.script h.semantic k.semantic first k.first)
    ∙ sym k.fault_is

-- tokens with a syntax fault aren't a script
syntactic-no_script : (text : List ℕ) (a b : BuildFault) → IsSyntactic text a → IsSemantic text b → ⊥
syntactic-no_script text a b h k =
    let derived = derived_as text k.tokens h.tokens k.lexed h.lexed k.script k.derived in
    no_first h.first.0 h.tokens.list h.syntactic.kind k.script derived h.first.1

pub one_fault : (text : List ℕ) (a b : BuildFault) → FirstFault text a → FirstFault text b → a ≡ b
one_fault text a b (inl h) (inl k) = same_lexical text a b h k
one_fault text a b (inl h) (inr (inl k)) = absurd (no_fault text k.tokens h.lexical k.lexed h.first)
one_fault text a b (inl h) (inr (inr k)) = absurd (no_fault text k.tokens h.lexical k.lexed h.first)
one_fault text a b (inr (inl h)) (inl k) = absurd (no_fault text h.tokens k.lexical h.lexed k.first)
one_fault text a b (inr (inl h)) (inr (inl k)) = same_syntactic text a b h k
one_fault text a b (inr (inl h)) (inr (inr k)) = absurd (syntactic-no_script text a b h k)
one_fault text a b (inr (inr h)) (inl k) = absurd (no_fault text h.tokens k.lexical h.lexed k.first)
one_fault text a b (inr (inr h)) (inr (inl k)) = absurd (syntactic-no_script text b a k h)
one_fault text a b (inr (inr h)) (inr (inr k)) = same_semantic text a b h k
