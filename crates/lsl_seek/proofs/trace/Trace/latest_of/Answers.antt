use Rattle.std.proofs.Common.{◌-◌, cond, ◌∷◌, length, get_or, take, Some, refl, sym, ap, ◌∙◌, arith}
use Rattle.std.specs.List.{find}
use Rattle.lsl_seek.specs.Calls.{is_of_call}
use Rattle.lsl_seek.specs.Moments.{moments, up_to, seen}
use Rattle.lsl_seek.proofs.Latest.{before-last, last-passed, no_place, places-taken, up_to-taken}
use Rattle.lsl_seek.proofs.trace.Trace.latest_of.Goals as goal

pub back-init : goal.back-init
back-init c = record {
  rest = c.up_to-rest.ensures ∙ (places-taken c.args.self.now.places.items c.args.number
      ∙ ap (λ rest. take (length rest) c.args.self.now.places.items) (sym c.up_to-rest.ensures));
  shorter = omega arith;
  same = ap (find (is_of_call c.args.serial)) (up_to-taken c.args.self.now c.args.number c.up_to-rest.result.now c.up_to-rest.ensures);
}

pub returns-then-is_of : goal.returns-then-is_of
returns-then-is_of c =
    let rest = c.back.rest.now in
    let test = is_of_call c.args.serial in
    let past = up_to (moments c.args.self.now) (length rest - 1) in
    let hit = sym c.is_of.ensures ∙ c.if-is_of.true in
    let here = last-passed c.args.self.now rest (get_or rest (length rest - 1) 0) c.in-len1-up.len_at_least c.back.invariant.rest refl in
    sym (sym c.back.invariant.same
    ∙ (ap (find test) (here ∙ ap (λ m. m ∷ past) (sym c.moment_at-it.ensures))
    ∙ ap (λ b. cond b (Some (seen c.moment_at-it.result)) (find test past)) hit))

pub back-preserved : goal.back-preserved
back-preserved c =
    let rest = c.back.rest.now in
    let test = is_of_call c.args.serial in
    let past = up_to (moments c.args.self.now) (length rest - 1) in
    let missed = sym c.is_of.ensures ∙ c.if-is_of.false in
    let here = last-passed c.args.self.now rest (get_or rest (length rest - 1) 0) c.in-len1-up.len_at_least c.back.invariant.rest refl in
    let left = before-last c.args.self.now rest (get_or rest (length rest - 1) 0) c.in-len1-up.len_at_least c.back.invariant.rest refl (take (length rest - 1) rest) refl in
    record {
      rest = left.0;
      shorter = omega (arith, left.1, c.back.invariant.shorter);
      same = ap (λ n. find test (up_to (moments c.args.self.now) n)) left.1
          ∙ (sym (ap (find test) (here ∙ ap (λ m. m ∷ past) (sym c.moment_at-it.ensures))
          ∙ ap (λ b. cond b (Some (seen c.moment_at-it.result)) (find test past)) missed)
          ∙ c.back.invariant.same);
    }

pub returns : goal.returns
returns c = sym (sym c.back.invariant.same
    ∙ ap (find (is_of_call c.args.serial)) (no_place (moments c.args.self.now) (length c.back.rest.now) c.in_default.len_below))
