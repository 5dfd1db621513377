use Rattle.std.proofs.Common.{◌≡◌, Some, None, true, false, sym, subst, ◌∙◌, arith, w32, ℤ, map, to_z, of_z}
use Rattle.std.specs.Ordering.{int_eq}
use Rattle.std.proofs.lemmas.Int.{to_z-of_z}
use Rattle.std.proofs.lemmas.Iterator.Adapters.{position_from-zero}
use Rattle.lsl_post.specs.Listens.{number_of, place_of_number}
use Rattle.lsl_post.proofs.Places.{position-at, position-none}
use Rattle.lsl_post.proofs.listen_table.ListenTable.place_of.Goals as goal

pub loop-place-init : goal.loop-place-init
loop-place-init c = record {
  same = position_from-zero {B = ℤ} (int_eq (to_z w32 (of_z w32 c.args.number)))
      (map number_of c.args.self.now.list);
  end = c.count-place-end.ensures.value;
}

pub returns-then-has_number-clause-place : goal.returns-then-has_number-clause-place
returns-then-has_number-clause-place c =
    subst (λ n. Some c.loop-place.place ≡ place_of_number n c.args.self.now.list)
    (to_z-of_z w32 c.args.number c.ranges.number)
    (sym (c.loop-place.invariant.same ∙ position-at _ number_of c.args.self.now.list c.loop-place.place
    c.listen.result.now true
    c.listen.ensures (sym c.has_number.ensures ∙ c.if-has_number.true)))

pub loop-place-preserved : goal.loop-place-preserved
loop-place-preserved c =
    record {
      same = c.loop-place.invariant.same ∙ position-at _ number_of c.args.self.now.list c.loop-place.place
          c.listen.result.now false
          c.listen.ensures (sym c.has_number.ensures ∙ c.if-has_number.false);
      end = c.loop-place.invariant.end;
    }

pub returns-clause-place : goal.returns-clause-place
returns-clause-place c =
    subst (λ n. None ≡ place_of_number n c.args.self.now.list) (to_z-of_z w32 c.args.number c.ranges.number)
    (sym (c.loop-place.invariant.same ∙ position-none _ number_of c.args.self.now.list c.loop-place.place
    (omega (arith, c.loop-place-test.false, c.loop-place.invariant.end))))
