use Rattle.std.proofs.Common.{◌∷◌, [], refl, sym, subst, ◌∙◌, arith, pos}
use Rattle.std.specs.List.{IsDistinct}
use Rattle.lsl_post.specs.Filters.{filter}
use Rattle.lsl_post.specs.Listens.{listen_of, standing, IsStanding}
use Rattle.tests_world.proofs.listens.late.Goals as goal

two : IsStanding (standing (pos 2147483646)
    (listen_of (pos 2147483647) (filter (pos 5) [] [] []) ∷ listen_of (pos 1) (filter (pos 6) [] [] []) ∷ []))
unfolding IsDistinct
two = record {
  next = refl;
  few = omega arith;
  numbers = (refl, (refl, tt));
  numbers_differ = ((refl, tt), (tt, tt));
  filters_differ = ((refl, tt), (tt, tt));
}

pub from_list-requires : goal.from_list-requires
from_list-requires c =
    subst (λ l. IsStanding (standing (pos 2147483646) l))
    (sym (c.in_ok-list.ensures.items ∙ (λ i. c.listen.ensures i ∷ c.listen-2.ensures i ∷ []))) two
