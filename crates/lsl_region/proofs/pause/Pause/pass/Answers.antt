use Rattle.std.proofs.Common.{◌≡◌, ◌+◌, ◌<◌, ◌%◌, ℕ, length, ap, arith, rules, sym, ◌∙◌, subst}
use Rattle.std.proofs.lemmas.List.{get_or_read}
use Rattle.lsl_region.specs.Pausing.{Counts, Cursor, IsCursor, with_segment}
use Rattle.lsl_region.proofs.Gaps.{gap-behind, passed-gap, passed-none, passed-on, within-some}
use Rattle.lsl_region.proofs.pause.Pause.pass.Goals as goal

pub returns-then-is_empty-clause-passed : goal.returns-then-is_empty-clause-passed
returns-then-is_empty-clause-passed c t k =
    let none : length c.args.self.now.gaps ≡ 0 = search rules in passed-none c.args.self.now none t k

pub overflow_add-self-inside : goal.overflow_add-self-inside
overflow_add-self-inside c =
    let some : 0 < length c.self.inside.gaps.items = search rules in
    let w = within-some c.self.inside.gaps.items c.self.inside.next c.self.inside.count some c.self.invariant.within in
    let at = get_or_read c.self.inside.gaps.items _ _ w.0 c.index-gap.ensures 0 in
    search (rules, w.1, at)

pub returns-then-self-gap-clause-passed : goal.returns-then-self-gap-clause-passed
returns-then-self-gap-clause-passed c t k =
    let some : 0 < length c.self.inside.gaps.items = search rules in
    let w = within-some c.self.inside.gaps.items c.self.inside.next c.self.inside.count some c.self.invariant.within in
    let at = get_or_read c.self.inside.gaps.items _ _ w.0 c.index-gap.ensures 0 in
    passed-on _ c.self.invariant some (omega (arith, at, c.if-self-gap.true)) t
    (subst (λ (x : Cursor). Counts x t) (sym c.self.view_is) k)

pub invariant_of-self-2 : goal.invariant_of-self-2
invariant_of-self-2 c =
    let some : 0 < length c.self.inside.gaps.items = search rules in
    let len : c.len.result ≡ length c.self.inside.gaps.items = search rules in
    let next : c.next_place-self-inside.result ≡ (c.self.inside.next + 1) % length c.self.inside.gaps.items
    = c.next_place-self-inside.ensures ∙ ap (λ (n : ℕ). (c.self.inside.next + 1) % n) len in
    subst (λ (n : ℕ). IsCursor (record {
      gaps = c.self.inside.gaps.items;
      next = n;
      count = 0;
      saves = c.self.inside.saves;
    })) (sym next) (gap-behind _ c.self.invariant some)

pub returns-clause-passed : goal.returns-clause-passed
returns-clause-passed c t k =
    let some : 0 < length c.self.inside.gaps.items = search rules in
    let w = within-some c.self.inside.gaps.items c.self.inside.next c.self.inside.count some c.self.invariant.within in
    let at = get_or_read c.self.inside.gaps.items _ _ w.0 c.index-gap.ensures 0 in
    let len : c.len.result ≡ length c.self.inside.gaps.items = search rules in
    let next : c.next_place-self-inside.result ≡ (c.self.inside.next + 1) % length c.self.inside.gaps.items
    = c.next_place-self-inside.ensures ∙ ap (λ (n : ℕ). (c.self.inside.next + 1) % n) len in
    let p = passed-gap _ c.self.invariant some (omega (arith, at, c.if-self-gap.false)) t
    (subst (λ (x : Cursor). Counts x t) (sym c.self.view_is) k) in (
      p.0,
      subst (λ (n : ℕ). Counts (record {
        gaps = c.self.inside.gaps.items;
        next = n;
        count = 0;
        saves = c.self.inside.saves;
      }) (with_segment t)) (sym next) p.1,
    )
