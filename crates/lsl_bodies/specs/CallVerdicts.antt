-- Calls and their arguments, as functions.
use Rattle.std.specs.Prelude.{Option, Some, None, nat_eq, List, length, slice_get}
use Rattle.lsl_text.specs.declared.Span.{Span}
use Rattle.lsl_value.specs.declared.tagged.Kind.{Kind}
use Rattle.lsl_tree.specs.declared.expression.Name.{Name}
use Rattle.lsl_tree.specs.Expressions.{Exprs, NoExpr, AndExpr}
use Rattle.lsl_tree.specs.Nodes as node
use Rattle.lsl_tree.specs.Nodes.{Node, Nodes, NoNode, AndNode}
use Rattle.lsl_tree.specs.Effects.{Effect}
use Rattle.lsl_bodies.specs.declared.faults.TypeKind.TheVariants.{UnknownName, WrongCount, VoidUsed}
use Rattle.lsl_bodies.specs.Scope.{spelled}
use Rattle.lsl_bodies.specs.Known.{KnownView, Calling, function_of, builtin_called_of}
use Rattle.lsl_tree.specs.Shape.{argument_count}
use Rattle.lsl_bodies.specs.Spans.{first_span}
use Rattle.lsl_bodies.specs.Judgement.{at}
use Rattle.std.specs.Prelude.{Ok}
use Rattle.std.specs.Option.{option_and_then}
use Rattle.lsl_bodies.specs.Names.{nearest}
use Rattle.lsl_bodies.specs.Verdict.{Verdict, ◌>>=◌, the_one_verdict, must_verdict}
use Rattle.lsl_bodies.specs.CallRules.{effect_of_call}
use Rattle.lsl_bodies.specs.VariableVerdicts.{become_verdict}

abbrev pub builtin_callable_verdict : Name → Verdict Calling
builtin_callable_verdict x = the_one_verdict (builtin_called_of (spelled x)) (at UnknownName x.span)

abbrev pub callable_by : Option Calling → Name → Verdict Calling
callable_by (Some c) x = Ok c
callable_by None x = builtin_callable_verdict x

abbrev pub callable_verdict : KnownView → Name → Verdict Calling
callable_verdict known x = callable_by (option_and_then (function_of known) (nearest (spelled x) known.functions)) x

abbrev pub argument_verdict : Option Kind → Node → Span → Verdict Node
argument_verdict None t span = Ok t
argument_verdict (Some k) t span = become_verdict k t span

abbrev pub arguments_verdict : List Kind → Exprs → Nodes → Verdict Nodes
arguments_verdict params NoExpr ts = Ok NoNode
arguments_verdict params (AndExpr es e) NoNode = Ok NoNode
arguments_verdict params (AndExpr es e) (AndNode ts t) = do
  before ← arguments_verdict params es ts
  last ← argument_verdict (slice_get params (argument_count ts)) t (first_span e)
  Ok (AndNode before last)

abbrev pub counted_verdict : Calling → Nodes → Name → Verdict (Unit {0})
counted_verdict c ts x = must_verdict (nat_eq (argument_count ts) (length c.signature.params)) (at WrongCount x.span)

abbrev pub call_value_verdict : Calling → Name → Exprs → Nodes → Verdict Node
call_value_verdict c x es ts = do
  count ← counted_verdict c ts x
  kind ← the_one_verdict c.signature.result (at VoidUsed x.span)
  all ← arguments_verdict c.signature.params es ts
  Ok (node.Call c.callee kind x.span.line all)

abbrev pub call_effect_verdict : Calling → Name → Exprs → Nodes → Verdict Effect
call_effect_verdict c x es ts = do
  count ← counted_verdict c ts x
  all ← arguments_verdict c.signature.params es ts
  Ok (effect_of_call c x.span.line all)
