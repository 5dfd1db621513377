-- What calls answer.
use Rattle.std.proofs.Common.{◌≡◌, ℕ, zero, suc, ◌<◌, Bool, true, false, List, length, refl, ap, ◌∙◌, subst, arith}
use Rattle.std.specs.Prelude.{ℤ, pos, negsuc, ◌-◌, nat_le, if◌then◌else◌, Option, Some, None, is_some, slice_get}
use Rattle.std.specs.Ordering.{int_eq}
use Rattle.std.proofs.lemmas.Bool.{eqb-true}
use Rattle.std.proofs.lemmas.Bool.Decides.{Decides-int_eq, nat_tests}
use Rattle.std.proofs.lemmas.Option.{get_or_from_slice_get, slice_get_within}
use Rattle.lsl_value.specs.declared.names.BuiltinId.{BuiltinId}
use Rattle.lsl_value.specs.declared.names.BuiltinId.TheVariants as builtin
use Rattle.lsl_value.specs.declared.tagged.Value.{Value}
use Rattle.lsl_value.specs.declared.tagged.Value.TheVariants as value
use Rattle.lsl_table.specs.declared.calls.Home.{Home}
use Rattle.lsl_table.specs.declared.calls.Home.TheVariants as home
use Rattle.lsl_post.specs.declared.events.Toucher.{Toucher}
use Rattle.lsl_region.specs.declared.objects.Primitive.{Primitive}
use Rattle.lsl_region.specs.Answers.{detected_key, detected_link, detected_name, home_of, key_of_prim, name_of_prim}
use Rattle.lsl_region.specs.Links.{is_this, prim_named, prim_or_this}
use Rattle.lsl_region.specs.TellingLaws.{Asker, CallsAreAnswered, NegativeNumbersAreNone, NoPrimIsTold, NumbersBeyondAreNone, ObjectIsTold, OtherPlacesAreNobody, OwnPrimIsTold, OwnPrimIsToldByThis, PrimsAreToldByNumber, TouchersAreTold, UntouchedIsNobody, told}
use Rattle.lsl_region.specs.Worlds.{no_prim, prim_at}
use Rattle.lsl_region.proofs.LinkLaws.{numbers-mean}

prim-is : (prims : List Primitive) (place : ℕ) (prim : Primitive) → slice_get prims place ≡ Some prim
    → prim_at prims place ≡ prim
prim-is prims place prim e = get_or_from_slice_get prims place prim no_prim e

pub own-prim : OwnPrimIsTold
own-prim a prim args e =
    let k = prim-is a.object.prims a.place prim e in (
      ap (λ (p : Primitive). Some (value.Key p.key)) k,
      ap (λ (p : Primitive). Some (value.Str p.name)) k,
      refl,
    )

pub object-told : ObjectIsTold
object-told a args = (refl, refl, refl, refl, refl)

this-some : (o : Option ℕ) (place : ℕ) → is_this o place ≡ true → o ≡ Some place
this-some None place e = absurd cc
this-some (Some n) place e = ap (λ k. Some k) (eqb-true n place e)

told-at : (a : Asker) (n : ℤ) (o : Option ℕ) → prim_or_this (length a.object.prims) a.place n ≡ o
    → (prim : Primitive) → key_of_prim a.object.prims o ≡ prim.key → name_of_prim a.object.prims o ≡ prim.name
    → (Some (value.Key (key_of_prim a.object.prims (prim_or_this (length a.object.prims) a.place n)))
    ≡ Some (value.Key prim.key))
    × (Some (value.Str (name_of_prim a.object.prims (prim_or_this (length a.object.prims) a.place n)))
    ≡ Some (value.Str prim.name))
told-at a n o e prim key name = (
  ap (λ p. Some (value.Key (key_of_prim a.object.prims p))) e ∙ ap (λ k. Some (value.Key k)) key,
  ap (λ p. Some (value.Str (name_of_prim a.object.prims p))) e ∙ ap (λ k. Some (value.Str k)) name,
)

pub prims-by-number : PrimsAreToldByNumber
prims-by-number a place n prim e h =
    let count = length a.object.prims in
    let within : place < count = slice_get_within a.object.prims place prim e in
    let named = this-some (prim_named count (pos n)) place ((numbers-mean count 0 n place within).1 h) in
    let k = prim-is a.object.prims place prim e in
    told-at a (pos n) (Some place) named prim (ap (λ (p : Primitive). p.key) k) (ap (λ (p : Primitive). p.name) k)

pub own-by-this : OwnPrimIsToldByThis
own-by-this a prim e =
    let k = prim-is a.object.prims a.place prim e in (
      ap (λ (p : Primitive). Some (value.Key p.key)) k,
      ap (λ (p : Primitive). Some (value.Str p.name)) k,
    )

none-told : (a : Asker) (n : ℤ) → prim_or_this (length a.object.prims) a.place n ≡ None → NoPrimIsTold a n
none-told a n e = (
  ap (λ p. Some (value.Key (key_of_prim a.object.prims p))) e,
  ap (λ p. Some (value.Str (name_of_prim a.object.prims p))) e,
)

pub numbers-beyond : NumbersBeyondAreNone
numbers-beyond a n several beyond =
    let low : nat_le n 1 ≡ false = grind (arith, nat_tests, several) in
    let high : nat_le n (length a.object.prims) ≡ false = grind (arith, nat_tests, beyond) in
    none-told a (pos n)
    (ap (λ (b : Bool). if b then Some 0 else (if nat_le n (length a.object.prims) then Some (n - 1) else None)) low
    ∙ ap (λ (b : Bool). if b then Some (n - 1) else None) high)

pub negative-none : NegativeNumbersAreNone
negative-none a zero e = none-told a (negsuc 0) refl
negative-none a (suc zero) e = none-told a (negsuc 1) refl
negative-none a (suc (suc zero)) e = none-told a (negsuc 2) refl
negative-none a (suc (suc (suc zero))) e = absurd (e refl)
negative-none a (suc (suc (suc (suc n)))) e = none-told a (negsuc (suc (suc (suc (suc n))))) refl

-- what is answered of a toucher, or of nobody
abbrev TellsOf : Asker → ℤ → Option Toucher → Type 0
TellsOf a n o =
    (Some (value.Key (detected_key (if int_eq n (pos 0) then a.toucher else None))) ≡ Some (value.Key (detected_key o)))
    × (Some (value.Str (detected_name (if int_eq n (pos 0) then a.toucher else None)))
    ≡ Some (value.Str (detected_name o)))
    × (Some (value.Int (detected_link (if int_eq n (pos 0) then a.toucher else None)))
    ≡ Some (value.Int (detected_link o)))

tells-of : (a : Asker) (n : ℤ) (o : Option Toucher) → (if int_eq n (pos 0) then a.toucher else None) ≡ o → TellsOf a n o
tells-of a n o e = (
  ap (λ t. Some (value.Key (detected_key t))) e,
  ap (λ t. Some (value.Str (detected_name t))) e,
  ap (λ t. Some (value.Int (detected_link t))) e,
)

pub touchers-told : TouchersAreTold
touchers-told a t e = tells-of a (pos 0) (Some t) e

pub other-places : OtherPlacesAreNobody
other-places a n e = tells-of a n None (go (int_eq n (pos 0)) refl) where
  go : (b : Bool) → int_eq n (pos 0) ≡ b → (if b then a.toucher else None) ≡ None
  go true h = absurd (e ((Decides-int_eq n (pos 0)).0 h))
  go false h = refl

pub untouched : UntouchedIsNobody
untouched a n e = tells-of a n None (go (int_eq n (pos 0))) where
  go : (b : Bool) → (if b then a.toucher else None) ≡ None
  go true = e
  go false = refl

-- of a call that only reads
abbrev if_query : Home → Bool → Bool
if_query home.Query is = is
if_query _ is = true

each-answered : (a : Asker) (id : BuiltinId) (args : List Value)
    → if_query (home_of id) (is_some (told a id args)) ≡ true
each-answered a builtin.GetOwner args = refl
each-answered a _ args = refl

pub calls-answered : CallsAreAnswered
calls-answered a id args query =
    subst (λ (h : Home). if_query h (is_some (told a id args)) ≡ true) query (each-answered a id args)
