-- What is asked for where no listen has these values.
use Rattle.std.proofs.Common.{◌≡◌, ℕ, ◌+◌, ◌<◌, ◌≤◌, Bool, true, false, cond, [], ◌∷◌, ◌++◌, length, map, take, Some, None, slice_get, ap, sym, ◌∙◌, subst, arith}
use Rattle.std.specs.Prelude.{ℤ, MatchResult, nat_lt}
use Rattle.std.specs.declared.result.Result.{Result}
use Rattle.std.specs.declared.result.Result.TheVariants.{Ok, Err}
use Rattle.std.specs.Option.{is_some}
use Rattle.std.proofs.lemmas.Bool.Decides.{nat_tests}
use Rattle.lsl_post.specs.declared.filters.Filter.{Filter}
use Rattle.lsl_post.specs.declared.listen.Listen.{Listen}
use Rattle.lsl_post.specs.declared.listen.ListenFault.{ListenFault}
use Rattle.lsl_post.specs.declared.listen.ListenFault.TheVariants.{TooMany}
use Rattle.lsl_post.specs.Filters.{same_filter}
use Rattle.lsl_post.specs.Listens.{filter_of, free_number, has_number, is_number, listen_of, listened, listened_at, most_listens, place_of_filter, standing, with_listen, Standing, IsStanding}
use Rattle.lsl_post.proofs.Places.{found, take-at}
use Rattle.lsl_post.proofs.Standings.{standing-push, standing-take}

-- the answer of a call that adds a new one is the answer of the call that asks for one
pub listened-new : (f : Filter) (s new : Standing) (r : Result ℤ ListenFault)
    → place_of_filter f s.list ≡ None →
    MatchResult r (λ n. (n ≡ free_number s) × (new ≡ with_listen f s) × (length s.list < most_listens))
    (λ fault. (new ≡ s) × (fault ≡ TooMany → most_listens ≤ length s.list)) →
    MatchResult r (λ n. listened f s ≡ Some (n, new))
    (λ fault. (new ≡ s) × (fault ≡ TooMany → listened f s ≡ None))
listened-new f s new (Ok n) none h =
    let room : nat_lt (length s.list) most_listens ≡ true = grind (arith, nat_tests, h.2) in
    ap (listened_at f s) none ∙ ap (λ (b : Bool). cond b (Some (free_number s, with_listen f s)) None) room
    ∙ (λ i. Some (sym h.0 i, sym h.1 i))
listened-new f s new (Err fault) none h = (
  h.0,
  λ e. let full : nat_lt (length s.list) most_listens ≡ false = grind (arith, nat_tests, h.1 e) in
      ap (listened_at f s) none ∙ ap (λ (b : Bool). cond b (Some (free_number s, with_listen f s)) None) full,
)

-- the listens with a new one are in order
pub standing-new : (f : Filter) (s : Standing) (n : ℤ) (l : Listen) → IsStanding s
    → place_of_filter f s.list ≡ None → length s.list < most_listens →
    is_number n ≡ true → has_number s.list n ≡ false → l ≡ listen_of n f
    → IsStanding (standing s.next (s.list ++ l ∷ []))
standing-new f s n l stands none few number free e =
    subst (λ (x : Listen). IsStanding (standing s.next (s.list ++ x ∷ []))) (sym e)
    (standing-push s.next n s.list f stands few number free
    (found (same_filter f) (map filter_of s.list) ∙ ap is_some none))

-- the first of the listens, and the next one
pub standing-more : (s t : Standing) (i : ℕ) (x y : Listen) → IsStanding s
    → t ≡ standing s.next (take i s.list) → y ≡ x → Some x ≡ slice_get s.list i →
    IsStanding (standing t.next (t.list ++ y ∷ []))
    × (standing t.next (t.list ++ y ∷ []) ≡ standing s.next (take (i + 1) s.list))
standing-more s t i x y stands e same at =
    let all : standing t.next (t.list ++ y ∷ []) ≡ standing s.next (take (i + 1) s.list)
    = (λ j. standing (e j).next ((e j).list ++ same j ∷ []))
    ∙ ap (standing s.next) (sym (take-at s.list i x at)) in
    (subst IsStanding (sym all) (standing-take s.next s.list (i + 1) stands), all)
