use Rattle.std.proofs.Common.{◌≡◌, w32}
use Rattle.std.proofs.lemmas.Int.{to_z-of_z}
use Rattle.std.specs.Int.{cast_signed, cast_unsigned}
use Rattle.lsl_image.specs.Script.{told_toucher}
use Rattle.lsl_image.proofs.LeadingLemmas.{i32-fits, leads-all, leads-ends, leads-exits, leads-then}
use Rattle.lsl_image.proofs.toucher.told.Goals as goal

pub returns-in_err-key : goal.returns-in_err-key
unfolding told_toucher
returns-in_err-key c = leads-exits _ _ _ _ (leads-all c.args.bytes.now told_toucher c.args.place)
    c.in_err-key.ensures c.from_residual.ensures.1

pub returns-in_err-name : goal.returns-in_err-name
unfolding told_toucher
returns-in_err-name c =
    leads-exits _ _ _ _ (leads-then _ _ (leads-all c.args.bytes.now told_toucher c.args.place)
    c.in_ok-key.ensures) c.in_err-name.ensures c.from_residual-in_err-name.ensures.1

pub returns-in_err-link : goal.returns-in_err-link
unfolding told_toucher
returns-in_err-link c =
    leads-exits _ _ _ _ (leads-then _ _ (leads-then _ _ (leads-all c.args.bytes.now told_toucher c.args.place)
    c.in_ok-key.ensures) c.in_ok-name.ensures) c.in_err-link.ensures c.from_residual-in_err-link.ensures.1

pub returns : goal.returns
unfolding told_toucher
returns c =
    let fits = i32-fits c.args.bytes.now c.in_ok-name.next c.in_ok-link.link c.in_ok-link.next c.in_ok-link.ensures in
    let same : cast_signed w32 (cast_unsigned w32 c.in_ok-link.link) ≡ c.in_ok-link.link =
    to_z-of_z w32 c.in_ok-link.link fits in
    rw same (leads-ends (leads-then _ _ (leads-then _ _
    (leads-then _ _ (leads-all c.args.bytes.now told_toucher c.args.place) c.in_ok-key.ensures)
    c.in_ok-name.ensures) c.in_ok-link.ensures))
