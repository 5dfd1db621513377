-- What can't be compiled has no shape, or no kinds.
use Rattle.std.proofs.Common.{◌≡◌, ℕ, true, false, Some, None, List, [], ◌∷◌}
use Rattle.std.proofs.Common.{pos, refl, sym, ap, ◌∙◌, arith, slice_get}
use Rattle.std.specs.Prelude.{is_some}
use Rattle.lsl_value.specs.declared.tagged.Kind.TheVariants as kind
use Rattle.lsl_value.specs.declared.names.BuiltinId.TheVariants.{OwnerSay, GetOwner}
use Rattle.lsl_value.specs.declared.operators.BinaryOp.TheVariants.{Add}
use Rattle.lsl_tree.specs.declared.program_node.Callee.TheVariants.{Builtin}
use Rattle.lsl_tree.specs.declared.program_node.Place.TheVariants.{Slot}
use Rattle.lsl_tree.specs.declared.program.Part.TheVariants as part
use Rattle.lsl_tree.specs.Nodes as node
use Rattle.lsl_tree.specs.Nodes.{Nodes, NoNode, AndNode}
use Rattle.lsl_tree.specs.Effects as effect
use Rattle.lsl_tree.specs.Actions as action
use Rattle.lsl_tree.specs.Actions.{Actions, NoAction, AndAction}
use Rattle.lsl_tree.specs.Program.{Routine, EventRoutine, Single}
use Rattle.lsl_tree.specs.Signatures.{Signature, signature_of_builtin}
use Rattle.lsl_tree.specs.Initials.{AreKindedInitials}
use Rattle.lsl_tree.specs.Shape.{Outline, IsShapedNode, IsShapedEffect, IsShapedAction, IsShapedRoutine}
use Rattle.lsl_tree.specs.Kinded.{Scope, IsKindedNode, EventsDiffer}

-- an operand's call gives a value
no_operand_without_value : (o : Outline) (ts : Nodes)
    → IsShapedNode o (node.Call (Builtin OwnerSay) kind.Int 1 ts) → ⊥
no_operand_without_value o ts h = go h.0.0 h.0.1 h.0.3
  where
    go : (g : Signature) → Some (signature_of_builtin OwnerSay) ≡ Some g → is_some g.result ≡ true → ⊥
    go g e f = let same : None ≡ g.result = cc in let t : false ≡ true = ap is_some same ∙ f in absurd (cc)

-- and a call used as a statement of its own gives none
no_value_performed : (o : Outline) (ts : Nodes) → IsShapedEffect o (effect.Call (Builtin GetOwner) 1 ts) → ⊥
no_value_performed o ts h = go h.0.0 h.0.1 h.0.3
  where
    go : (g : Signature) → Some (signature_of_builtin GetOwner) ≡ Some g → is_some g.result ≡ false → ⊥
    go g e f = let same : Some kind.Key ≡ g.result = cc in let t : true ≡ false = ap is_some same ∙ f in absurd (cc)

-- a function with a value doesn't end in a plain return
abbrev plain_end : Routine
plain_end = record { line = 1; kind = Some kind.Int; params = 0; slots = []; body = AndAction NoAction action.Return }

no_plain_end : (functions : List Signature) → IsShapedRoutine functions 1 plain_end → ⊥
no_plain_end functions h = let t : false ≡ true = h.ending refl in absurd (cc)

-- nor has it one before its end
no_plain_return : (o : Outline) (labels : List ℕ) → o.gives ≡ true → IsShapedAction o labels action.Return → ⊥
no_plain_return o labels gives h = let t : true ≡ false = sym gives ∙ h in absurd (cc)

-- no block has a label number twice
abbrev labelled : Actions
labelled = AndAction NoAction (action.Label 0)

no_label_twice : (o : Outline) → IsShapedAction o [] (action.Block (AndAction labelled (action.Label 0))) → ⊥
no_label_twice o h = h.0 0 1 0 (omega arith) (omega arith) refl

-- nor one of a block around
no_label_of_outer : (o : Outline) → IsShapedAction o [] (action.Block (AndAction labelled (action.Block labelled))) → ⊥
no_label_of_outer o h = h.1.1.0 0 1 0 (omega arith) (omega arith) refl

-- a state has one handler of an event
no_event_twice : (name : List ℕ) (h : EventRoutine) → EventsDiffer (record { name = name; handlers = h ∷ h ∷ [] }) → ⊥
no_event_twice name h d = d 0 1 h (omega arith) (omega arith) refl

-- variables have slots
no_slot : (s : Scope) → s.slots ≡ [] → IsKindedNode s (node.Variable (Slot 0) kind.Int) → ⊥
no_slot s none h = let t : None ≡ Some kind.Int = ap (λ l. slice_get l 0) (sym none) ∙ h in absurd (cc)

-- operators take the kinds of a row
no_operator : (s : Scope) → IsKindedNode s (node.Binary Add kind.Str (node.Str []) (node.Int (pos 1))) → ⊥
no_operator s h = let t : None ≡ Some kind.Str = h.0 in absurd (cc)

-- no element of a list is a list
no_list_in_list : (s : Scope) → IsKindedNode s (node.ListLiteral (AndNode NoNode (node.ListLiteral NoNode))) → ⊥
no_list_in_list s h = h.0 0 kind.List (omega arith) refl

-- no global's initial value names the global
no_own_global : AreKindedInitials [] (Single (part.Global 0 kind.Int) ∷ []) → ⊥
no_own_global h = let t : None ≡ Some kind.Int = h.0 in absurd (cc)
