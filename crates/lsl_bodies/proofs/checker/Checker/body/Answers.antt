use Rattle.std.proofs.Common.{◌≡◌, length, refl, ap, ◌∙◌}
use Rattle.std.proofs.lemmas.Result.{err_from_is_err_and}
use Rattle.lsl_tree.specs.Statements.{items_of}
use Rattle.lsl_tree.specs.Actions.{actions_of}
use Rattle.lsl_bodies.specs.Known.{known_of}
use Rattle.lsl_bodies.specs.Scope.{FrameView, frame_of}
use Rattle.lsl_bodies.specs.ActionForms.{home_kind}
use Rattle.lsl_bodies.proofs.BodyWalks.{body_leaves, body_fails, body_ok}
use Rattle.lsl_bodies.proofs.checker.Checker.body.Goals as goal

pub returns-clause-unchanged : goal.returns-clause-unchanged
returns-clause-unchanged c =
    let frame = c.args.frame.now in
    let counted : c.len-globals.result ≡ length frame.scope.variables.items =
    c.len-globals.ensures ∙ frame.scope.variables.ok.0 in
    body_leaves (known_of c.args.self.now.known.now) c.args.self.now.home (frame_of frame)
    (frame_of c.declare_all.new.self) (frame_of c.open.new.self) (frame_of c.actions.new.frame)
    (frame_of c.close.new.self)
    c.args.params.now (items_of c.args.items.now) (actions_of c.in_ok-body.body.items) c.in_ok-outer.outer
    c.truncate.new.self c.truncate-2.new.self.items c.replace.new.dest.items c.len-names.result c.len-globals.result
    c.requires c.in_ok-declare_all.ensures c.in_ok-outer.ensures.opened c.in_ok-outer.ensures.outer
    c.in_ok-body.ensures c.close.ensures
    c.len-names.ensures counted c.truncate.ensures c.truncate-2.ensures.items
    (ap (λ v. v.items) c.replace.ensures.after ∙ c.new.ensures.items)

pub returns-in_err-body-clause-found : goal.returns-in_err-body-clause-found
returns-in_err-body-clause-found c =
    let home = c.args.self.now.home in
    let p = err_from_is_err_and c.from_residual-in_err-body.result c.from_residual-in_err-body.ensures.1 in
    rw (p.1, p.2) (body_fails (known_of c.args.self.now.known.now) home (frame_of c.args.frame.now)
    (frame_of c.declare_all.new.self) (frame_of c.open.new.self) c.args.name.now (home_kind home)
    c.args.params.now (items_of c.args.items.now) c.in_err-body.field-0.0
    c.requires c.in_ok-declare_all.ensures c.in_ok-outer.ensures.opened c.in_err-body.ensures)

pub returns-clause-found : goal.returns-clause-found
returns-clause-found c =
    let home = c.args.self.now.home in
    let acts = actions_of c.in_ok-body.body.items in
    let slots = ap (λ v. v.items) c.replace.ensures.value ∙ ap (λ (f : FrameView). f.slots) c.close.ensures in
    body_ok (known_of c.args.self.now.known.now) home (frame_of c.args.frame.now)
    (frame_of c.declare_all.new.self) (frame_of c.open.new.self) (frame_of c.actions.new.frame)
    c.args.name.now (home_kind home) c.kind-kind.result c.args.params.now (items_of c.args.items.now)
    acts (actions_of c.end.new.body.items) (length c.args.params.now) c.replace.result.items
    c.requires c.in_ok-declare_all.ensures c.in_ok-outer.ensures.opened c.in_ok-body.ensures
    c.kind-kind.ensures refl slots c.in_ok-end.ensures
