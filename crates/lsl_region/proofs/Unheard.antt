-- What is heard is heard by a listen on its channel.
use Rattle.std.proofs.Common.{◌≡◌, ℕ, Bool, true, false, List, [], ◌∷◌, ap, sym, ◌∙◌, refl}
use Rattle.std.specs.Prelude.{ℤ, not, ◌&&◌, ◌||◌}
use Rattle.std.specs.Str.{bytes_eq}
use Rattle.std.specs.List.{list_any}
use Rattle.std.specs.Ordering.{int_eq}
use Rattle.std.proofs.lemmas.Bool.Decides.{Decides-int_eq}
use Rattle.lsl_post.specs.declared.filters.Filter.{Filter}
use Rattle.lsl_post.specs.declared.listen.Listen.{Listen}
use Rattle.lsl_post.specs.Listens.{Standing, filter_of, hears, is_heard}
use Rattle.lsl_post.specs.Filters.{fits_filter}
use Rattle.lsl_region.specs.declared.notice.Audience.TheVariants.{Hearers}
use Rattle.lsl_region.specs.Hearing.{is_on, listens_on}
use Rattle.lsl_region.specs.Posting.{is_admitted}

same-channel : (a b : ℤ) → int_eq a b ≡ true → int_eq b a ≡ true
same-channel a b e = (Decides-int_eq b a).1 (sym ((Decides-int_eq a b).0 e))

-- on another channel a listen hears nothing
other-channel : (asked said : Filter) → int_eq asked.channel said.channel ≡ false → fits_filter asked said ≡ false
other-channel asked said e = rw e

-- a listen that isn't active on its channel doesn't hear it
unheard : (said : Filter) (l : Listen) (active same : Bool) → l.active ≡ active
    → int_eq l.channel said.channel ≡ same → is_on said.channel l ≡ false → is_heard said l ≡ false
unheard said l false same a c e = ap (λ (b : Bool). b && fits_filter (filter_of l) said) a
unheard said l true false a c e =
    ap (λ (b : Bool). b && fits_filter (filter_of l) said) a ∙ other-channel (filter_of l) said c
unheard said l true true a c e =
    let on : is_on said.channel l ≡ true
    = ap (λ (b : Bool). b && int_eq said.channel l.channel) a ∙ same-channel l.channel said.channel c in
    let no : true ≡ false = sym on ∙ e in
    cc

one-unheard : (said : Filter) (l : Listen) → is_on said.channel l ≡ false → is_heard said l ≡ false
one-unheard said l e = unheard said l l.active (int_eq l.channel said.channel) refl refl e

or-false-left : (a b : Bool) → (a || b) ≡ false → a ≡ false
or-false-left true b e = e
or-false-left false b e = refl

or-false-right : (a b : Bool) → (a || b) ≡ false → b ≡ false
or-false-right true b e = let no : true ≡ false = e in cc
or-false-right false b e = e

none-heard : (said : Filter) (list : List Listen) → list_any (is_on said.channel) list ≡ false
    → list_any (is_heard said) list ≡ false
none-heard said [] e = refl
none-heard said (l ∷ ls) e =
    let here : is_heard said l ≡ false
    = one-unheard said l
    (or-false-left (is_on said.channel l) (list_any (is_on said.channel) ls) e) in
    ap (λ (b : Bool). b || list_any (is_heard said) ls) here
    ∙ none-heard said ls
    (or-false-right (is_on said.channel l) (list_any (is_on said.channel) ls) e)

and-false : (a b : Bool) → b ≡ false → (a && b) ≡ false
and-false true b e = e
and-false false b e = refl

-- so a script that doesn't listen on its channel isn't one of those who hear it
pub hearers-none : (said : Filter) (listens : Standing) → listens_on said.channel listens ≡ false
    → (object prim : ℕ) (key : List ℕ) → is_admitted (Hearers said) object prim key listens ≡ false
hearers-none said listens e object prim key =
    and-false (not (bytes_eq key said.id)) (hears said listens) (none-heard said listens.list e)
