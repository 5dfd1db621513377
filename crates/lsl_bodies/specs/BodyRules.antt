-- The meaning of a body, and its first fault.
use Rattle.std.specs.Prelude.{Option, List, length}
use Rattle.lsl_value.specs.declared.tagged.Kind.{Kind}
use Rattle.lsl_tree.specs.declared.expression.Name.{Name}
use Rattle.lsl_tree.specs.declared.script.Param.{Param}
use Rattle.lsl_tree.specs.Statements.{Items}
use Rattle.lsl_tree.specs.Program.{Routine}
use Rattle.lsl_bodies.specs.declared.frame.Home.{Home}
use Rattle.lsl_bodies.specs.Scope.{ScopeView, entered, opened}
use Rattle.lsl_bodies.specs.Known.{KnownView}
use Rattle.lsl_bodies.specs.ActionForms.{ended}
use Rattle.lsl_bodies.specs.Judgement.{Judgement, gives, ◌>>=◌}
use Rattle.lsl_bodies.specs.ActionRules.{items}

-- a body, with the parameters around it
abbrev pub body : KnownView → ScopeView → Home → Name → Option Kind → List Param → Items → Judgement Routine
body known s home x kind params es = do
  inner ← items known home (opened (entered s params) es) es
  gives (record {
    line = x.span.line;
    kind = kind;
    params = length params;
    slots = inner.1.slots;
    body =
        ended kind inner.0;
  })
