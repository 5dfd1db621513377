use Rattle.std.proofs.Common.{◌-◌, cond, ◌∷◌, length, get_or, take, Some, refl, sym, ap, ◌∙◌, arith}
use Rattle.std.specs.List.{find}
use Rattle.lsl_seek.specs.Calls.{call_after, call_told, tells_call_of}
use Rattle.lsl_seek.specs.Moments.{moments, up_to, seen}
use Rattle.lsl_seek.proofs.Latest.{before-last, last-passed, no_place, places-taken, up_to-taken}
use Rattle.lsl_seek.proofs.trace.Trace.active_after.Goals as goal

pub back-init : goal.back-init
back-init c = record {
  rest = c.up_to-rest.ensures ∙ (places-taken c.args.self.now.places.items c.args.number
      ∙ ap (λ rest. take (length rest) c.args.self.now.places.items) (sym c.up_to-rest.ensures));
  shorter = omega arith;
  same = ap (call_after c.args.script) (up_to-taken c.args.self.now c.args.number c.up_to-rest.result.now c.up_to-rest.ensures);
}

pub returns-then-tells_call_of : goal.returns-then-tells_call_of
returns-then-tells_call_of c =
    let rest = c.back.rest.now in
    let test = tells_call_of c.args.script in
    let past = up_to (moments c.args.self.now) (length rest - 1) in
    let hit = sym c.tells_call_of.ensures ∙ c.if-tells_call_of.true in
    let here = last-passed c.args.self.now rest (get_or rest (length rest - 1) 0) c.in-len1-up.len_at_least c.back.invariant.rest refl in
    sym (sym c.back.invariant.same
    ∙ (ap (call_after c.args.script) (here ∙ ap (λ m. m ∷ past) (sym c.moment_at-it.ensures))
    ∙ ap (λ b. call_told (cond b (Some (seen c.moment_at-it.result)) (find test past))) hit)
    ∙ sym c.call_told.ensures)

pub back-preserved : goal.back-preserved
back-preserved c =
    let rest = c.back.rest.now in
    let test = tells_call_of c.args.script in
    let past = up_to (moments c.args.self.now) (length rest - 1) in
    let missed = sym c.tells_call_of.ensures ∙ c.if-tells_call_of.false in
    let here = last-passed c.args.self.now rest (get_or rest (length rest - 1) 0) c.in-len1-up.len_at_least c.back.invariant.rest refl in
    let left = before-last c.args.self.now rest (get_or rest (length rest - 1) 0) c.in-len1-up.len_at_least c.back.invariant.rest refl (take (length rest - 1) rest) refl in
    record {
      rest = left.0;
      shorter = omega (arith, left.1, c.back.invariant.shorter);
      same = ap (λ n. call_after c.args.script (up_to (moments c.args.self.now) n)) left.1
          ∙ (sym (ap (call_after c.args.script) (here ∙ ap (λ m. m ∷ past) (sym c.moment_at-it.ensures))
          ∙ ap (λ b. call_told (cond b (Some (seen c.moment_at-it.result)) (find test past))) missed)
          ∙ c.back.invariant.same);
    }

pub returns : goal.returns
returns c = sym (sym c.back.invariant.same
    ∙ ap (call_after c.args.script) (no_place (moments c.args.self.now) (length c.back.rest.now) c.in_default.len_below))
