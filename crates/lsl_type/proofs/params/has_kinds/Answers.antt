use Rattle.std.proofs.Common.{◌≡◌, length, sym, ◌∙◌}
use Rattle.std.proofs.lemmas.List.{length-map}
use Rattle.lsl_bodies.specs.Known.{kinds_of}
use Rattle.lsl_type.proofs.HeaderWalks.{same_kinds-counts}
use Rattle.lsl_type.proofs.params.has_kinds.Goals as goal

pub returns-then-params-kinds : goal.returns-then-params-kinds
returns-then-params-kinds c =
    let same : length (kinds_of c.args.params.now) ≡ length c.args.params.now =
    length-map c.args.params.now (λ p. p.kind) in
    sym (same_kinds-counts (kinds_of c.args.params.now) c.args.kinds.now (λ e. c.if-params-kinds.true (sym same ∙ e)))
