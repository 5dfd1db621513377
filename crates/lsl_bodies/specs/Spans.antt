-- The place of a value's first token.
use Rattle.lsl_text.specs.declared.Span.{Span}
use Rattle.lsl_tree.specs.declared.script.Atom.{Atom}
use Rattle.lsl_tree.specs.declared.script.Atom.TheVariants as atom
use Rattle.lsl_tree.specs.Expressions as expr
use Rattle.lsl_tree.specs.Expressions.{Expr}
use Rattle.lsl_tree.specs.Scripts as source
use Rattle.lsl_tree.specs.Scripts.{Simple}

abbrev pub first_span : Expr → Span
first_span (expr.Int n s) = s
first_span (expr.Str t s) = s
first_span (expr.Variable x) = x.span
first_span (expr.StepBehind x o) = x.span
first_span (expr.StepBefore o s x) = s
first_span (expr.Call x es) = x.span
first_span (expr.ListLiteral s es) = s
first_span (expr.Parens s e) = s
first_span (expr.Cast s k e) = s
first_span (expr.Unary o s e) = s
first_span (expr.Binary o s a b) = first_span a
first_span (expr.Assign x o s e) = x.span

abbrev pub atom_span : Atom → Span
atom_span (atom.Int n s) = s
atom_span (atom.Negative n s) = s
atom_span (atom.Str t s) = s
atom_span (atom.Constant x) = x.span

abbrev pub initial_span : Simple → Span
initial_span (source.Atom a) = atom_span a
initial_span (source.Atoms s atoms) = s
