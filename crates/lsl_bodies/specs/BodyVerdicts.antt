-- The meaning of a body, or its first fault, as a function.
use Rattle.std.specs.Prelude.{Option, List, length, Ok}
use Rattle.lsl_value.specs.declared.tagged.Kind.{Kind}
use Rattle.lsl_tree.specs.declared.expression.Name.{Name}
use Rattle.lsl_tree.specs.declared.script.Param.{Param}
use Rattle.lsl_tree.specs.Statements.{Items}
use Rattle.lsl_tree.specs.Program.{Routine}
use Rattle.lsl_bodies.specs.declared.frame.Home.{Home}
use Rattle.lsl_bodies.specs.Scope.{ScopeView, entered, opened}
use Rattle.lsl_bodies.specs.Known.{KnownView}
use Rattle.lsl_bodies.specs.ActionForms.{ended}
use Rattle.lsl_bodies.specs.Verdict.{Verdict, ◌>>=◌}
use Rattle.lsl_bodies.specs.ActionVerdicts.{items_verdict}

abbrev pub body_verdict : KnownView → ScopeView → Home → Name → Option Kind → List Param → Items → Verdict Routine
body_verdict known s home x kind params es = do
  inner ← items_verdict known home (opened (entered s params) es) es
  Ok (record {
    line = x.span.line;
    kind = kind;
    params = length params;
    slots = inner.1.slots;
    body =
        ended kind inner.0;
  })
