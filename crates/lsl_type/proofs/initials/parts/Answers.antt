use Rattle.std.proofs.Common.{◌≡◌, ◌<◌, ◌≤◌, [], ◌∷◌, ◌++◌, length, sym, ap, ◌∙◌, arith, Ok, length-append}
use Rattle.std.proofs.lemmas.Result.{err_from_is_err_and}
use Rattle.lsl_tree.specs.declared.program.Part.{Part}
use Rattle.lsl_bodies.specs.Scope.{scope_of}
use Rattle.lsl_bodies.specs.Verdict.{Verdict, ◌>>=◌, each_verdict}
use Rattle.lsl_type.specs.HeaderVerdicts.{initial_part_verdict, next_part_verdict}
use Rattle.lsl_bodies.proofs.Walks.{each_next, each_stop, each_end, fails_as}
use Rattle.lsl_type.proofs.initials.parts.Goals as goal

pub returns-in_err-part-clause-found : goal.returns-in_err-part-clause-found
returns-in_err-part-clause-found c =
    let s = scope_of c.args.scope.now in
    let xs = c.args.atoms.now in
    let lt : c.loop-atom.atom-index < length xs = omega arith in
    let p = err_from_is_err_and c.from_residual-in_err-part.result c.from_residual-in_err-part.ensures.1 in
    rw (p.1, p.2) (fails_as c.in_err-part.field-0.0 (initial_part_verdict s c.atom-item.result)
    (each_verdict (next_part_verdict s) [] xs) c.in_err-part.ensures (λ f v.
    each_stop (next_part_verdict s) c.loop-atom.parts.items f xs c.loop-atom.atom-index c.atom-item.result _ lt
    c.atom-item.is
    (ap (λ (w : Verdict Part). w >>= λ u. Ok (c.loop-atom.parts.items ++ u ∷ [])) v) c.loop-atom.invariant.same))

pub loop-atom-preserved : goal.loop-atom-preserved
loop-atom-preserved c =
    let s = scope_of c.args.scope.now in
    let xs = c.args.atoms.now in
    let lt : c.loop-atom.atom-index < length xs = omega arith in
    let items : c.push.new.self.items ≡ c.loop-atom.parts.items ++ c.in_ok-part.field-0 ∷ [] =
    c.in_ok-push.ensures.items in
    let step : next_part_verdict s c.loop-atom.parts.items c.atom-item.result ≡ Ok c.push.new.self.items =
    ap (λ (v : Verdict Part). v >>= λ u. Ok (c.loop-atom.parts.items ++ u ∷ [])) c.in_ok-part.ensures
    ∙ ap Ok (sym items) in
    record {
      counted = ap length items ∙ simp length-append (omega (arith, c.loop-atom.invariant.counted));
      same = each_next (next_part_verdict s) c.loop-atom.parts.items c.push.new.self.items xs
          c.loop-atom.atom-index c.atom-item.result _ lt c.atom-item.is step c.loop-atom.invariant.same;
    }

pub returns-clause-found : goal.returns-clause-found
returns-clause-found c =
    let over : length c.args.atoms.now ≤ c.loop-atom.atom-index = omega arith in
    each_end (next_part_verdict (scope_of c.args.scope.now)) c.loop-atom.parts.items c.args.atoms.now
    c.loop-atom.atom-index _ over c.loop-atom.invariant.same

pub returns-clause-counted : goal.returns-clause-counted
returns-clause-counted c = omega (arith, c.loop-atom.invariant.counted)
