use Rattle.std.proofs.Common.{◌∙◌, [], ap, sym}
use Rattle.std.specs.Prelude.{is_some}
use Rattle.lsl_code.specs.Effects.{runs}
use Rattle.lsl_code.specs.Kinds.{scope}
use Rattle.lsl_code.proofs.Passes.{runs_numbered, made_of}
use Rattle.lsl_code.proofs.finishing.finish.Goals as goal

pub shapes_of-requires : goal.shapes_of-requires
shapes_of-requires c =
    let s = scope c.args.names.now c.args.slots c.args.gives in
    let code = c.deref.ensures.value ∙ c.into_parts-code.ensures.code in
    ap (λ d. is_some (runs s d [])) code ∙ ap is_some (runs_numbered s c.args.draft 0 []) ∙ c.requires

pub returns-clause-ok : goal.returns-clause-ok
returns-clause-ok c =
    let s = scope c.args.names.now c.args.slots c.args.gives in
    let code = c.deref.ensures.value ∙ c.into_parts-code.ensures.code in
    let found = c.in_ok-shapes.ensures in
    made_of c.args.name s c.args.params c.args.draft _ _ _ _ _ _ _ _ code c.into_parts-code.ensures.lines
    c.in_ok-params.ensures found.points found.stacks found.most c.from_vec.ensures
    (c.from_vec-2.ensures ∙ sym c.deref.ensures.value)
