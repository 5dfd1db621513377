-- What calls answer, in the language's words.
use Rattle.std.specs.Prelude.{◌≡◌, ◌≢◌, ℕ, ◌<◌, ◌/◌, ℤ, pos, negsuc, true, List, [], ◌∷◌, length, Option, Some, None, is_some, slice_get}
use Rattle.lsl_value.specs.declared.names.BuiltinId.{BuiltinId}
use Rattle.lsl_value.specs.declared.names.BuiltinId.TheVariants as builtin
use Rattle.lsl_value.specs.declared.tagged.Value.{Value}
use Rattle.lsl_value.specs.declared.tagged.Value.TheVariants as value
use Rattle.lsl_value.specs.Key.{null_key}
use Rattle.lsl_table.specs.declared.calls.Home.TheVariants as home
use Rattle.lsl_post.specs.declared.events.Toucher.{Toucher}
use Rattle.lsl_region.specs.declared.objects.Linkset.{Linkset}
use Rattle.lsl_region.specs.declared.objects.Primitive.{Primitive}
use Rattle.lsl_region.specs.Answers.{home_of, value_of_query}
use Rattle.lsl_region.specs.LinkLaws.{HasNumber, link_this}
use Rattle.lsl_region.specs.Links.{link_of}

-- the asking script: of this name in the prim at a place of an object, at a reading of the clock, with a current
-- toucher or none
pub record Asker : Type 0 where
  pub object : Linkset
  pub place : ℕ
  pub name : List ℕ
  pub clock : ℕ
  pub toucher : Option Toucher

abbrev pub told : Asker → BuiltinId → List Value → Option Value
told a id args = value_of_query a.object a.place a.name a.clock a.toucher id args

-- the answer is this key, text or integer
abbrev pub IsKey : Asker → BuiltinId → List Value → List ℕ → Type 0
IsKey a id args key = told a id args ≡ Some (value.Key key)

abbrev pub IsText : Asker → BuiltinId → List Value → List ℕ → Type 0
IsText a id args text = told a id args ≡ Some (value.Str text)

abbrev pub IsInteger : Asker → BuiltinId → List Value → ℤ → Type 0
IsInteger a id args n = told a id args ≡ Some (value.Int n)

-- the object has this prim at a place
abbrev pub HasPrim : Linkset → ℕ → Primitive → Type 0
HasPrim object place prim = slice_get object.prims place ≡ Some prim

-- the answers about a script's own prim, be it the root or not
abbrev pub OwnPrimIsTold : Type 0
OwnPrimIsTold =
    (a : Asker) (prim : Primitive) (args : List Value) → HasPrim a.object a.place prim
    → IsKey a builtin.GetKey args prim.key × IsText a builtin.GetObjectName args prim.name
    × IsInteger a builtin.GetLinkNumber args (pos (link_of (length a.object.prims) a.place))

-- and about its object, the region in which that is, itself and the clock, in whole seconds
abbrev pub ObjectIsTold : Type 0
ObjectIsTold =
    (a : Asker) (args : List Value)
    → IsKey a builtin.GetOwner args a.object.owner
    × IsInteger a builtin.GetNumberOfPrims args (pos (length a.object.prims))
    × IsText a builtin.GetRegionName args a.object.region
    × IsText a builtin.GetScriptName args a.name × IsInteger a builtin.GetUnixTime args (pos (a.clock / 1000))

-- of the prim that a number means, and of its own by LINK_THIS
abbrev pub PrimsAreToldByNumber : Type 0
PrimsAreToldByNumber =
    (a : Asker) (place n : ℕ) (prim : Primitive) → HasPrim a.object place prim
    → HasNumber (length a.object.prims) place n
    → IsKey a builtin.GetLinkKey (value.Int (pos n) ∷ []) prim.key
    × IsText a builtin.GetLinkName (value.Int (pos n) ∷ []) prim.name

abbrev pub OwnPrimIsToldByThis : Type 0
OwnPrimIsToldByThis =
    (a : Asker) (prim : Primitive) → HasPrim a.object a.place prim
    → IsKey a builtin.GetLinkKey (value.Int link_this ∷ []) prim.key
    × IsText a builtin.GetLinkName (value.Int link_this ∷ []) prim.name

-- where a number means no prim, the answer is the key of zeros, for the name its text
abbrev pub NoPrimIsTold : Asker → ℤ → Type 0
NoPrimIsTold a n =
    IsKey a builtin.GetLinkKey (value.Int n ∷ []) null_key × IsText a builtin.GetLinkName (value.Int n ∷ []) null_key

abbrev pub NumbersBeyondAreNone : Type 0
NumbersBeyondAreNone = (a : Asker) (n : ℕ) → 1 < n → length a.object.prims < n → NoPrimIsTold a (pos n)

abbrev pub NegativeNumbersAreNone : Type 0
NegativeNumbersAreNone = (a : Asker) (n : ℕ) → negsuc n ≢ link_this → NoPrimIsTold a (negsuc n)

-- the toucher and the touched prim, at place 0 alone
abbrev pub IsToucher : Asker → Toucher → Type 0
IsToucher a t =
    IsKey a builtin.DetectedKey (value.Int (pos 0) ∷ []) t.key
    × IsText a builtin.DetectedName (value.Int (pos 0) ∷ []) t.name
    × IsInteger a builtin.DetectedLinkNumber (value.Int (pos 0) ∷ []) t.link

abbrev pub IsNobody : Asker → ℤ → Type 0
IsNobody a n =
    IsKey a builtin.DetectedKey (value.Int n ∷ []) null_key × IsText a builtin.DetectedName (value.Int n ∷ []) []
    × IsInteger a builtin.DetectedLinkNumber (value.Int n ∷ []) (pos 0)

abbrev pub TouchersAreTold : Type 0
TouchersAreTold = (a : Asker) (t : Toucher) → a.toucher ≡ Some t → IsToucher a t

abbrev pub OtherPlacesAreNobody : Type 0
OtherPlacesAreNobody = (a : Asker) (n : ℤ) → n ≢ pos 0 → IsNobody a n

abbrev pub UntouchedIsNobody : Type 0
UntouchedIsNobody = (a : Asker) (n : ℤ) → a.toucher ≡ None → IsNobody a n

-- every call that only reads has an answer
abbrev pub CallsAreAnswered : Type 0
CallsAreAnswered =
    (a : Asker) (id : BuiltinId) (args : List Value) → home_of id ≡ home.Query → is_some (told a id args) ≡ true
