use Rattle.std.proofs.Common.{◌≡◌, ◌+◌, ◌-◌, ◌≤◌, ℕ, true, false, length, ap, sym, subst, ◌∙◌, arith, rules, w32, to_z, of_z, pos, ℤ, FitsSigned}
use Rattle.std.proofs.lemmas.Int.{ints, to_z-of_z}
use Rattle.lsl_post.specs.Listens.{first_free, free_number, has_number, is_number, numbers_from}
use Rattle.lsl_post.proofs.Free.{after-number, free-is, first-here, first-later, first-last}
use Rattle.lsl_post.proofs.listen_table.ListenTable.free_number.Goals as goal

pub loop-place-init : goal.loop-place-init
loop-place-init c =
    let next : c.args.self.now.next ≡ to_z w32 (of_z w32 c.next-number.result) =
    sym (to_z-of_z w32 c.next-number.result (search rules) ∙ c.next-number.ensures) in
    let count : length c.args.self.now.list + 1 ≡ length c.args.self.now.list - 0 + 1 = omega arith in
    record {
      same = λ i. first_free c.args.self.now.list (numbers_from (count i) (next i));
      number = subst (λ n. is_number n ≡ true) next c.count-place-end.ensures.standing.next;
      end = c.count-place-end.ensures.value;
    }

pub loop-place-preserved : goal.loop-place-preserved
loop-place-preserved c =
    let after = sym (to_z-of_z w32 c.number_after-number.result (search rules)
    ∙ c.number_after-number.ensures) in
    record {
      same = c.loop-place.invariant.same
          ∙ first-later c.args.self.now.list _ (length c.args.self.now.list - (c.loop-place._place + 1) + 1)
          _ (omega (arith, c.loop-place-test.true, c.loop-place.invariant.end))
          (sym c.has_number.ensures ∙ c.if-not-has_number.false)
          ∙ ap (λ n. first_free c.args.self.now.list
          (numbers_from (length c.args.self.now.list - (c.loop-place._place + 1) + 1) n)) after;
      number = subst (λ n. is_number n ≡ true) after
          (after-number (to_z w32 c.loop-place.number-bits) c.loop-place.invariant.number);
      end = c.loop-place.invariant.end;
    }

pub returns-then-not-has_number-clause-value : goal.returns-then-not-has_number-clause-value
returns-then-not-has_number-clause-value c =
    sym (c.loop-place.invariant.same ∙ first-here c.args.self.now.list _
    (length c.args.self.now.list - c.loop-place._place) _ (omega arith)
    (sym c.has_number.ensures ∙ c.if-not-has_number.true))

low : (z : ℤ) (n : ℕ) → FitsSigned w32 z → z ≡ pos n → n ≤ 2147483647
low z n fits e = let f : FitsSigned w32 (pos n) = subst (FitsSigned w32) e fits in omega (arith, ints, f)

free : (c : goal.After-loop-place) → (has_number c.args.self.now.list (free_number c.args.self.now) ≡ false)
    × (is_number (free_number c.args.self.now) ≡ true)
free c = free-is c.args.self.now c.count-place-end.ensures.standing
    (λ n e. low c.next-number.result n (search rules) (c.next-number.ensures ∙ e))

last : (c : goal.After-loop-place) → to_z w32 c.loop-place.number-bits ≡ free_number c.args.self.now
last c =
    first-last c.args.self.now.list (to_z w32 c.loop-place.number-bits) (free_number c.args.self.now)
    (free c).1
    (c.loop-place.invariant.same ∙ ap (λ k.
    first_free c.args.self.now.list (numbers_from k (to_z w32 c.loop-place.number-bits)))
    (omega (arith, c.loop-place-test.false, c.loop-place.invariant.end)))

pub returns-clause-value : goal.returns-clause-value
returns-clause-value c = last c

pub returns-clause-free : goal.returns-clause-free
returns-clause-free c = subst (λ n. has_number c.args.self.now.list n ≡ false) (sym (last c)) (free c).0
