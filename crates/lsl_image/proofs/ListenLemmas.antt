-- Listens that are read have numbers and values of their own.
use Rattle.std.proofs.Common.{◌≡◌, ◌∙◌, sym, ap, subst, arith, ℕ, zero, suc, ℤ, ◌+◌, ◌≤◌, ◌<◌, List, [], ◌∷◌, ◌++◌, length, map, not, Bool, true, false, ◌&&◌}
use Rattle.std.specs.List.{list_any, AllByRecursion, IsDistinct}
use Rattle.std.specs.Ordering.{int_eq}
use Rattle.std.proofs.lemmas.Bool.{and_parts, not-true}
use Rattle.std.proofs.lemmas.List.{length_push, map_push}
use Rattle.lsl_post.specs.declared.filters.Filter.{Filter}
use Rattle.lsl_post.specs.declared.listen.Listen.{Listen}
use Rattle.lsl_post.specs.Filters.{filter, same_filter}
use Rattle.lsl_post.specs.Listens.{filter_of, has_number, is_number, listen_of, most_listens, number_of, standing, IsStanding}
use Rattle.lsl_post.proofs.Standings.{standing-push}
use Rattle.lsl_image.specs.Layout.{Form, Content, Ends, I32, ◌>>=◌, field, field_that, grown, here}
use Rattle.lsl_image.specs.Reading.{Gives}
use Rattle.lsl_image.specs.Script.{filter_behind, flag, listen_behind, listen_with}
use Rattle.lsl_image.proofs.KindedLemmas.{tested-gives}
use Rattle.lsl_image.proofs.ReadingLemmas.{gives-split}

-- what was read of a field with a test passes it
pub field_that-told : (bytes : List ℕ) (form : Form) (test : Content form → Bool) (p : ℕ) (v : Content form) (q : ℕ)
    → Gives bytes (field_that form test) p v q → test v ≡ true
unfolding field_that here ◌>>=◌
field_that-told bytes form test p v q g =
    let t = tested-gives bytes (test g.0) p g.0 v g.1 q g.3 in
    ap test t.same ∙ t.holds

-- nothing before asks the same
filter-told : (bytes : List ℕ) (before : List Listen) (p : ℕ) (f : Filter) (q : ℕ)
    → Gives bytes (filter_behind before) p f q → list_any (same_filter f) (map filter_of before) ≡ false
unfolding filter_behind field here ◌>>=◌
filter-told bytes before p f q g =
    let asked = filter g.0 g.3.0 g.3.3.0 g.3.3.3.0 in
    let t = tested-gives bytes (not (list_any (same_filter asked) (map filter_of before))) g.3.3.1 asked f g.3.3.3.1 q
    g.3.3.3.3 in
    subst (λ (x : Filter). list_any (same_filter x) (map filter_of before) ≡ false) (sym t.same)
    (not-true (list_any (same_filter asked) (map filter_of before)) t.holds)

-- a listen has a number and values of its own
pub record IsOwn (before : List Listen) (l : Listen) : Type 0 where
  pub number : is_number l.number ≡ true
  pub free : has_number before l.number ≡ false
  pub new : list_any (same_filter (filter_of l)) (map filter_of before) ≡ false

pub listen-own : (bytes : List ℕ) (before : List Listen) (p : ℕ) (l : Listen) (q : ℕ)
    → Gives bytes (listen_behind before) p l q → IsOwn before l
unfolding listen_behind
listen-own bytes before p l q g =
    let test = λ (n : ℤ). is_number n && not (has_number before n) in
    let first = gives-split bytes (field_that I32 test)
    (λ n. flag >>= λ flagged. filter_behind before >>= λ asked. Ends (listen_with n flagged asked)) p l q g in
    let second = gives-split bytes flag
    (λ flagged. filter_behind before >>= λ asked. Ends (listen_with first.0 flagged asked)) first.1 l q first.3 in
    let third = gives-split bytes (filter_behind before) (λ asked. Ends (listen_with first.0 second.0 asked)) second.1
    l q second.3 in
    let number = and_parts (is_number first.0) (not (has_number before first.0))
    (field_that-told bytes I32 test p first.0 first.1 first.2) in
    let own : IsOwn before (listen_with first.0 second.0 third.0) = record {
      number = number.0;
      free = not-true (has_number before first.0) number.1;
      new = filter-told bytes before second.1 third.0 third.1 third.2;
    } in
    subst (IsOwn before) (sym third.3.0) own

-- it doesn't matter whether the last is active
active-last : (next : ℤ) (list : List Listen) (l : Listen) (a : Bool) → IsStanding (standing next (list ++ l ∷ []))
    → IsStanding (standing next (list ++ record l { active = a } ∷ []))
active-last next list l a s =
    let m = record l { active = a } in
    let numbers : map number_of (list ++ l ∷ []) ≡ map number_of (list ++ m ∷ []) =
    map_push number_of list l ∙ sym (map_push number_of list m) in
    let filters : map filter_of (list ++ l ∷ []) ≡ map filter_of (list ++ m ∷ []) =
    map_push filter_of list l ∙ sym (map_push filter_of list m) in
    record {
      next = s.next;
      few = omega (arith, s.few, length_push list l, length_push list m);
      numbers = subst (AllByRecursion (λ n. is_number n ≡ true)) numbers s.numbers;
      numbers_differ = subst (IsDistinct int_eq) numbers s.numbers_differ;
      filters_differ = subst (IsDistinct same_filter) filters s.filters_differ;
    }

pub standing-own : (next : ℤ) (list : List Listen) (l : Listen) → IsStanding (standing next list)
    → length list < most_listens → IsOwn list l → IsStanding (standing next (list ++ l ∷ []))
standing-own next list l s few own =
    active-last next list (listen_of l.number (filter_of l)) l.active
    (standing-push next l.number list (filter_of l) s few own.number own.free own.new)

-- all that are read are in order
pub standing-grown : (bytes : List ℕ) (next : ℤ) (count : ℕ) (before list : List Listen) (p q : ℕ)
    → length before + count ≤ most_listens → IsStanding (standing next before)
    → Gives bytes (grown count listen_behind before) p list q → IsStanding (standing next list)
unfolding grown
standing-grown bytes next zero before list p q few s g = subst (λ (ls : List Listen). IsStanding (standing next ls))
    (sym g.0) s
standing-grown bytes next (suc n) before list p q few s g =
    let split = gives-split bytes (listen_behind before) (λ l. grown n listen_behind (before ++ l ∷ [])) p list q g in
    standing-grown bytes next n (before ++ split.0 ∷ []) list split.1 q
    (omega (arith, few, length_push before split.0))
    (standing-own next before split.0 s (omega (arith, few))
    (listen-own bytes before p split.0 split.1 split.2)) split.3
