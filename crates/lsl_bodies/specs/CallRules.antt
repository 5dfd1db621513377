-- Calls and their arguments.
use Rattle.std.specs.Prelude.{◌≡◌, ℕ, Option, Some, None, List, length, slice_get}
use Rattle.lsl_text.specs.declared.Span.{Span}
use Rattle.lsl_value.specs.declared.tagged.Kind.{Kind}
use Rattle.lsl_tree.specs.declared.expression.Name.{Name}
use Rattle.lsl_tree.specs.Expressions.{Exprs, NoExpr, AndExpr}
use Rattle.lsl_tree.specs.Nodes as node
use Rattle.lsl_tree.specs.Nodes.{Node, Nodes, NoNode, AndNode}
use Rattle.lsl_tree.specs.Effects as effect
use Rattle.lsl_tree.specs.Effects.{Effect}
use Rattle.lsl_bodies.specs.declared.faults.TypeKind.TheVariants.{UnknownName, WrongCount, VoidUsed}
use Rattle.lsl_bodies.specs.Scope.{spelled}
use Rattle.lsl_bodies.specs.Known.{KnownView, Calling, IsCallable}
use Rattle.lsl_tree.specs.Shape.{argument_count}
use Rattle.lsl_bodies.specs.Spans.{first_span}
use Rattle.lsl_bodies.specs.Judgement.{at, Judgement, gives, ◌>>=◌, the_one, must, entry}
use Rattle.lsl_bodies.specs.VariableRules.{become}

abbrev pub callable : KnownView → Name → Judgement Calling
callable known x = the_one (IsCallable known (spelled x)) (at UnknownName x.span)

-- an argument of a parameter of this kind, if there is such a parameter
abbrev pub argument : Option Kind → Node → Span → Judgement Node
argument None t span = gives t
argument (Some k) t span = become k t span

-- the arguments as the parameters' kinds
abbrev pub arguments : List Kind → Exprs → Nodes → Judgement Nodes
arguments params NoExpr ts = gives NoNode
arguments params (AndExpr es e) NoNode = gives NoNode
arguments params (AndExpr es e) (AndNode ts t) = do
  before ← arguments params es ts
  last ← argument (slice_get params (argument_count ts)) t (first_span e)
  gives (AndNode before last)

-- as many arguments as parameters
abbrev pub counted : Calling → Nodes → Name → Judgement (Unit {0})
counted c ts x = must (argument_count ts ≡ length c.signature.params) (at WrongCount x.span)

-- a call with arguments, with names and kinds in order
abbrev pub effect_of_call : Calling → ℕ → Nodes → Effect
effect_of_call c line ts = effect_of_result c.signature.result c line ts where
  effect_of_result : Option Kind → Calling → ℕ → Nodes → Effect
  effect_of_result None c line ts = effect.Call c.callee line ts
  effect_of_result (Some k) c line ts = effect.Value (node.Call c.callee k line ts)

-- a call that must have a value
abbrev pub call_value : Calling → Name → Exprs → Nodes → Judgement Node
call_value c x es ts = do
  count ← counted c ts x
  kind ← entry c.signature.result (at VoidUsed x.span)
  all ← arguments c.signature.params es ts
  gives (node.Call c.callee kind x.span.line all)

-- a call that need not have a value
abbrev pub call_effect : Calling → Name → Exprs → Nodes → Judgement Effect
call_effect c x es ts = do
  count ← counted c ts x
  all ← arguments c.signature.params es ts
  gives (effect_of_call c x.span.line all)
