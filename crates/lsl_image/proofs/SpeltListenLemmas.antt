-- Listens, spelled.
use Rattle.std.proofs.Common.{◌≡◌, ◌∙◌, refl, sym, ap, subst, arith, ℕ, ℤ, ◌≤◌, ◌==◌, ◌&&◌, ◌||◌, nat_le, not, List, [], ◌∷◌, ◌++◌, length, map, append_assoc, Bool, true, false}
use Rattle.std.proofs.lemmas.Bool.{and_from}
use Rattle.std.proofs.lemmas.Bool.Decides.{nat_tests}
use Rattle.std.proofs.lemmas.List.{map_push}
use Rattle.std.proofs.lemmas.Cmp.{int_eq_equiv}
use Rattle.std.specs.List.{flat_map, list_any, AllByRecursion, IsDistinct}
use Rattle.std.specs.Ordering.{int_eq}
use Rattle.lsl_value.specs.Text.{IsText}
use Rattle.lsl_post.specs.declared.filters.Filter.{Filter}
use Rattle.lsl_post.specs.declared.listen.Listen.{Listen}
use Rattle.lsl_post.specs.FilterLaws.{same_filter_equiv}
use Rattle.lsl_post.specs.Filters.{same_filter}
use Rattle.lsl_post.specs.Listens.{filter_of, has_number, is_number, most_listens, number_of, standing, IsStanding, Standing}
use Rattle.lsl_post.proofs.Standings.{distinct-last, each-last, standing-prefix}
use Rattle.lsl_bytes.specs.Fields.{FitsI32, i32_bytes, text_bytes, u8_bytes}
use Rattle.lsl_image.specs.Bytes.{flag_of, listen_bytes, listens_bytes}
use Rattle.lsl_image.specs.Fits.{FitsListen, FitsStanding}
use Rattle.lsl_image.specs.Layout.{I32, TextForm, U8}
use Rattle.lsl_image.specs.Script.{filter_behind, listen_behind, listens}
use Rattle.lsl_image.proofs.ListenLemmas.{IsOwn}
use Rattle.lsl_image.proofs.SpeltEventLemmas.{flag-spells}
use Rattle.lsl_image.proofs.SpeltLemmas.{GoodBehind, Spelt, good-cons, good-nil, spelt-as, spelt-ends, spelt-field, spelt-grown, spelt-here, spelt-last, spelt-tested, spelt-that, spelt-then}

left-six : (a b c d e f : List ℕ) → a ++ (b ++ (c ++ (d ++ (e ++ f)))) ≡ a ++ b ++ c ++ d ++ e ++ f
left-six a b c d e f = simp append_assoc

filter-spells : (before : List Listen) (f : Filter) (p : ℕ) → list_any (same_filter f) (map filter_of before) ≡ false
    → FitsI32 f.channel → IsText f.name → IsText f.id → IsText f.message
    → Spelt (filter_behind before) p f (i32_bytes f.channel
    ++ (text_bytes f.name ++ (text_bytes f.id ++ text_bytes f.message)))
unfolding filter_behind
filter-spells before f p new channel name id message =
    spelt-then _ (spelt-field I32 f.channel channel) (spelt-then _ (spelt-field TextForm f.name name)
    (spelt-then _ (spelt-field TextForm f.id id) (spelt-here _ (spelt-last _ (spelt-field TextForm f.message message)
    (spelt-tested (not (list_any (same_filter f) (map filter_of before))) _ f (ap not new))))))

flag-back : (b : Bool) → (flag_of b == 1) ≡ b
flag-back true = refl
flag-back false = refl

flag-small : (b : Bool) → flag_of b ≤ 1
flag-small true = omega arith
flag-small false = omega arith

listen-spells : (before : List Listen) (l : Listen) (p : ℕ) → IsOwn before l → FitsListen l
    → Spelt (listen_behind before) p l (listen_bytes l)
unfolding listen_behind listen_bytes
listen-spells before l p own fits =
    let test = and_from (is_number l.number) (not (has_number before l.number)) own.number (ap not own.free) in
    spelt-as (left-six (i32_bytes l.number) (u8_bytes (flag_of l.active)) (i32_bytes l.channel) (text_bytes l.name)
    (text_bytes l.id) (text_bytes l.message))
    (spelt-then _ (spelt-that I32 (λ n. is_number n && not (has_number before n)) l.number fits.number test)
    (spelt-then _ (flag-spells (flag_of l.active) _ (flag-small l.active))
    (spelt-last _ (filter-spells before (filter_of l) _ own.new fits.channel fits.name fits.id fits.message)
    (spelt-ends (ap (λ (a : Bool). record l { active = a }) (sym (flag-back l.active)))))))

none-any : {K : Type 0} (test : K → Bool) (xs : List K) → AllByRecursion (λ x. test x ≡ false) xs
    → list_any test xs ≡ false
none-any test [] all = refl
none-any test (x ∷ xs) all = ap (λ (b : Bool). b || list_any test xs) all.0 ∙ none-any test xs all.1

own-last : (next : ℤ) (before : List Listen) (l : Listen) → IsStanding (standing next (before ++ l ∷ []))
    → IsOwn before l
own-last next before l s = record {
  number = each-last (λ n. is_number n ≡ true) (map number_of before) l.number
      (subst (AllByRecursion (λ n. is_number n ≡ true)) (map_push number_of before l) s.numbers);
  free = none-any (int_eq l.number) (map number_of before) (distinct-last int_eq int_eq_equiv (map number_of before)
      l.number (subst (IsDistinct int_eq) (map_push number_of before l) s.numbers_differ));
  new = none-any (same_filter (filter_of l)) (map filter_of before) (distinct-last same_filter same_filter_equiv
      (map filter_of before) (filter_of l) (subst (IsDistinct same_filter) (map_push filter_of before l)
      s.filters_differ));
}

abbrev OwnFits : List Listen → Listen → Type 0
OwnFits before l = IsOwn before l × FitsListen l

standing-good : (next : ℤ) (before list : List Listen) → IsStanding (standing next (before ++ list))
    → AllByRecursion FitsListen list → GoodBehind OwnFits before list
standing-good next before [] s fits = good-nil OwnFits before
standing-good next before (l ∷ ls) s fits =
    let stands : IsStanding (standing next ((before ++ l ∷ []) ++ ls)) =
    subst (λ (xs : List Listen). IsStanding (standing next xs)) (sym (append_assoc before (l ∷ []) ls)) s in
    good-cons OwnFits before l ls (own-last next before l (standing-prefix next (before ++ l ∷ []) ls stands), fits.0)
    (standing-good next (before ++ l ∷ []) ls stands fits.1)

pub listens-spells : (s : Standing) (p : ℕ) → FitsStanding s → Spelt listens p s (listens_bytes s)
unfolding listens listens_bytes
listens-spells s p fits =
    spelt-as (sym (append_assoc (i32_bytes s.next) (u8_bytes (length s.list)) (flat_map listen_bytes s.list)))
    (spelt-then _ (spelt-that I32 is_number s.next fits.next fits.stands.next)
    (spelt-then _ (spelt-that U8 (λ n. nat_le n most_listens) (length s.list) (omega (arith, fits.stands.few))
    (grind (arith, nat_tests, fits.stands.few)))
    (spelt-last _ (spelt-grown listen_behind listen_bytes OwnFits
    (λ before l q good. listen-spells before l q good.0 good.1)
    s.list _ (standing-good s.next [] s.list fits.stands fits.each)) (spelt-ends refl))))
