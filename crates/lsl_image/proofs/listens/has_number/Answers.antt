use Rattle.std.proofs.Common.{◌≡◌, ◌∙◌, sym, ap, subst, map, take, false, ℤ, w32}
use Rattle.std.proofs.lemmas.Int.{to_z-of_z}
use Rattle.std.specs.List.{list_any}
use Rattle.std.specs.Ordering.{int_eq}
use Rattle.lsl_post.specs.Listens.{number_of}
use Rattle.lsl_image.proofs.AnyLemmas.{any-found}
use Rattle.lsl_image.proofs.listens.has_number.Goals as goal

pub returns-then-has_number : goal.returns-then-has_number
returns-then-has_number c =
    let same = to_z-of_z w32 c.args.number c.ranges.number in
    any-found (int_eq c.args.number) number_of c.args.listens.now c.loop-listen.listen-index
    c.listen-item.result c.loop-listen-test.true c.listen-item.is
    (subst (λ (n : ℤ). list_any (int_eq n)
    (map number_of (take c.loop-listen.listen-index c.args.listens.now)) ≡ false) same c.loop-listen.invariant)
    (ap (λ (n : ℤ). int_eq n c.listen-item.result.number) (sym same) ∙ sym c.has_number.ensures
    ∙ c.if-has_number.true)
