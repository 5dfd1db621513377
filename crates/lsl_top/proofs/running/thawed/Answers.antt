use Rattle.std.proofs.Common.{◌≡◌, ◌⊎◌, ℕ, List, subst, sym}
use Rattle.std.proofs.lemmas.Result.{err_from_is_err_and}
use Rattle.lsl_text.specs.declared.Refusal.TheVariants.{Fault, NoMemory}
use Rattle.lsl_image.specs.declared.faults.ImageFault.TheVariants.{NotFrozen}
use Rattle.lsl_lines.specs.Frozen.{HasFrozenLine, IsFrozen}
use Rattle.lsl_top.proofs.Runs.{thaw-found, thaw-of, untaken, unthawed}
use Rattle.lsl_top.proofs.running.thawed.Goals as goal

pub returns-clause-found : goal.returns-clause-found
returns-clause-found c =
    let play = c.args.play.now in
    let bytes = c.in_ok-bytes.bytes.items in
    let is = subst (λ (z : List ℕ). IsFrozen z bytes) c.as_slice.ensures.value c.in_ok-bytes.ensures.found in
    thaw-found c.args.cast.units play.world.now play.frozen.items bytes c.as_slice-2.result.now
    c.thaw.result is c.as_slice-2.ensures.value c.thaw.ensures.found

pub returns-clause-refused : goal.returns-clause-refused
returns-clause-refused c =
    let play = c.args.play.now in
    let bytes = c.in_ok-bytes.bytes.items in
    let is = subst (λ (z : List ℕ). IsFrozen z bytes) c.as_slice.ensures.value c.in_ok-bytes.ensures.found in
    unthawed c.args.cast.units play.world.now play.frozen.items bytes c.thaw.result is
    (rw (sym c.as_slice-2.ensures.value) c.thaw.ensures.first)

pub returns-clause-of : goal.returns-clause-of
returns-clause-of c = λ programs w run from.
    let play = c.args.play.now in
    let bytes = c.in_ok-bytes.bytes.items in
    let is = subst (λ (z : List ℕ). IsFrozen z bytes) c.as_slice.ensures.value c.in_ok-bytes.ensures.found in
    thaw-of c.args.cast.units programs play.world.now c.args.cast.cards play.frozen.items bytes
    c.as_slice-2.result.now w c.thaw.result is c.as_slice-2.ensures.value c.thaw.ensures.found from
    (λ agrees like. c.thaw.ensures.of programs w run agrees like)

pub returns-in_err-bytes-clause-refused : goal.returns-in_err-bytes-clause-refused
returns-in_err-bytes-clause-refused c =
    let p = err_from_is_err_and c.from_residual.result c.from_residual.ensures.1 in
    let refusal = c.in_err-bytes.field-0.0 in
    rw (p.1, p.2)
    (untaken c.args.cast.units c.args.play.now.world.now c.args.play.now.frozen.items refusal
    (subst (λ (z : List ℕ). (refusal ≡ NoMemory) ⊎ ((refusal ≡ Fault NotFrozen) × (HasFrozenLine z → ⊥)))
    c.as_slice.ensures.value c.in_err-bytes.ensures.refused))
