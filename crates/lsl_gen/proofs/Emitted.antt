-- The steps of the functions that emit code.
use Rattle.std.proofs.Common.{◌≡◌, ℕ, ◌+◌, ◌<◌, List, [], ◌∷◌, ◌++◌, length, Vec, Global, sym, ap, ◌∙◌, ap₂, append_assoc, take, get_or}
use Rattle.lsl_value.specs.declared.tagged.Kind.{Kind}
use Rattle.lsl_tree.specs.declared.program_node.Callee.{Callee}
use Rattle.lsl_tree.specs.declared.program_node.Node as declared
use Rattle.lsl_tree.specs.Nodes.{node_of, nodes_of}
use Rattle.lsl_tree.specs.Shape.{argument_count}
use Rattle.lsl_code.specs.declared.instructions.Instr.{Instr}
use Rattle.lsl_code.specs.declared.instructions.Instr.TheVariants as instr
use Rattle.lsl_gen.specs.Expressions.{call_code, value_code, values_code}
use Rattle.lsl_gen.proofs.Views.{node_of-List, node_of-Call, nodes_more, argument_count-nodes_of}

pub values_step : (new code base : List Instr) (xs : List declared.Node) (i : ℕ) (x : declared.Node)
    → i < length xs → x ≡ get_or xs i x
    → code ≡ base ++ values_code (nodes_of (take i xs)) → new ≡ code ++ value_code (node_of x)
    → new ≡ base ++ values_code (nodes_of (take (i + 1) xs))
values_step new code base xs i x lt is inv e =
    e ∙ ap (λ l. l ++ value_code (node_of x)) inv ∙ append_assoc base _ _
    ∙ ap (λ ts. base ++ values_code ts) (sym (nodes_more xs i x lt is))

pub call_step : (new code base : List Instr) (e : declared.Node) (c : Callee) (k : Kind) (l : ℕ)
    (args : Vec declared.Node Global) (xs : List declared.Node)
    → e ≡ declared.Call c k l args → xs ≡ args.items → code ≡ base ++ values_code (nodes_of xs)
    → new ≡ code ++ call_code c l → new ≡ base ++ value_code (node_of e)
call_step new code base e c k l args xs is same inv last =
    last ∙ ap (λ d. d ++ call_code c l) inv ∙ append_assoc base _ _
    ∙ ap (λ ys. base ++ (values_code (nodes_of ys) ++ call_code c l)) same
    ∙ ap (λ t. base ++ value_code t) (sym (ap node_of is ∙ node_of-Call c k l args))

pub list_step : (new code base : List Instr) (e : declared.Node) (n m : ℕ) (args : Vec declared.Node Global)
    (xs : List declared.Node)
    → e ≡ declared.List args → xs ≡ args.items → n ≡ length args.items → m ≡ n
    → code ≡ base ++ values_code (nodes_of xs) → new ≡ code ++ instr.MakeList m ∷ []
    → new ≡ base ++ value_code (node_of e)
list_step new code base e n m args xs is same len long inv last =
    last ∙ ap₂ (λ c m. c ++ instr.MakeList m ∷ []) inv (long ∙ len ∙ sym (argument_count-nodes_of args.items))
    ∙ append_assoc base _ _
    ∙ ap (λ ys. base ++ (values_code (nodes_of ys) ++ instr.MakeList
    (argument_count (nodes_of args.items)) ∷ [])) same
    ∙ ap (λ t. base ++ value_code t) (sym (ap node_of is ∙ node_of-List args))
