-- Layouts: fields one after another, where the content of one may decide what comes next. One layout of an image
-- defines which bytes it is, what they encode, and what the first fault of other bytes is.
use Rattle.std.specs.Prelude.{◌≡◌, refl, ℕ, suc, zero, ℤ, Bool, true, false, ◌&&◌, if◌then◌else◌, List, [], ◌∷◌, ◌++◌, length}
use Rattle.lsl_value.specs.Text.{IsText}
use Rattle.lsl_value.specs.Values.{kind_of}
use Rattle.lsl_value.specs.declared.tagged.Kind.{Kind}
use Rattle.lsl_value.specs.declared.tagged.Value.{Value}
use Rattle.lsl_code.specs.Kinds.{kinds_of, same_kind, same_kinds}
use Rattle.lsl_bytes.specs.Fields.{FitsI32, FitsU8, FitsU16, FitsU32, FitsU64, IsValue, i32_bytes, text_bytes, u8_bytes, u16_bytes, u32_bytes, u64_bytes, value_bytes}
use Rattle.lsl_image.specs.declared.faults.ImageFault.{ImageFault}
use Rattle.lsl_image.specs.declared.faults.ImageFault.TheVariants.{Body}

-- the forms of fields
pub data Form : Type 0 where
  U8 : Form
  U16 : Form
  U32 : Form
  U64 : Form
  I32 : Form
  -- n bytes as they are
  Bytes : ℕ → Form
  TextForm : Form
  ValueForm : Form

-- the content of a field
abbrev pub Content : Form → Type 0
Content U8 = ℕ
Content U16 = ℕ
Content U32 = ℕ
Content U64 = ℕ
Content I32 = ℤ
Content (Bytes n) = List ℕ
Content TextForm = List ℕ
Content ValueForm = Value

abbrev pub bytes_of : (form : Form) → Content form → List ℕ
bytes_of U8 n = u8_bytes n
bytes_of U16 n = u16_bytes n
bytes_of U32 n = u32_bytes n
bytes_of U64 n = u64_bytes n
bytes_of I32 n = i32_bytes n
bytes_of (Bytes n) part = part
bytes_of TextForm text = text_bytes text
bytes_of ValueForm value = value_bytes value

abbrev pub Fits : (form : Form) → Content form → Type 0
Fits U8 n = FitsU8 n
Fits U16 n = FitsU16 n
Fits U32 n = FitsU32 n
Fits U64 n = FitsU64 n
Fits I32 n = FitsI32 n
Fits (Bytes n) part = length part ≡ n
Fits TextForm text = IsText text
Fits ValueForm value = IsValue value

pub data Layout (A : Type 0) : Type 0 where
  -- nothing more, and this is what all of it encodes
  Ends : A → Layout A
  -- whatever is here, this is wrong
  Refused : ImageFault → Layout A
  -- the place where the next field begins
  Here : (ℕ → Layout A) → Layout A
  -- a field of this form
  Field : (form : Form) → (Content form → Layout A) → Layout A

-- one layout after another
infixl 10 ◌>>=◌
unfoldable pub ◌>>=◌ : {A B : Type 0} → Layout A → (A → Layout B) → Layout B
(Ends a) >>= more = more a
(Refused fault) >>= more = Refused fault
(Here next) >>= more = Here (λ place. next place >>= more)
(Field form next) >>= more = Field form (λ content. next content >>= more)

unfoldable pub here : Layout ℕ
here = Here (λ place. Ends place)

unfoldable pub field : (form : Form) → Layout (Content form)
field form = Field form (λ content. Ends content)

-- the field at this place can't be, where the test fails
abbrev pub tested : {A : Type 0} → Bool → ℕ → A → Layout A
tested good place a = if good then Ends a else Refused (Body place)

-- a field that passes the test
unfoldable pub field_that : (form : Form) → (Content form → Bool) → Layout (Content form)
field_that form test = Here (λ place. Field form (λ content. tested (test content) place content))

-- n more after these, each of which may depend on those before it
unfoldable pub grown : {A : Type 0} → ℕ → (List A → Layout A) → List A → Layout (List A)
grown zero layout before = Ends before
grown (suc n) layout before = layout before >>= λ next. grown n layout (before ++ next ∷ [])

-- n of these, one after another
abbrev pub repeated : {A : Type 0} → ℕ → Layout A → Layout (List A)
repeated n layout = grown n (λ before. layout) []

-- one for each of these, after others
unfoldable pub each_behind : {X A : Type 0} → (X → Layout A) → List X → List A → Layout (List A)
each_behind layout [] before = Ends before
each_behind layout (x ∷ xs) before = layout x >>= λ next. each_behind layout xs (before ++ next ∷ [])

-- one for each of these
abbrev pub each : {X A : Type 0} → (X → Layout A) → List X → Layout (List A)
each layout xs = each_behind layout xs []

-- values of these kinds
pub record Kinded (kinds : List Kind) : Type 0 where
  pub values : List Value
  pub fits : same_kinds (kinds_of values) kinds ≡ true

pub both : (a b : Bool) → a ≡ true → b ≡ true → (a && b) ≡ true
both true b first second = second
both false b first second = first

abbrev pub no_values : Kinded []
no_values = record { values = []; fits = refl }

abbrev pub one_more : (kind : Kind) (kinds : List Kind) (value : Value) → same_kind (kind_of value) kind ≡ true
    → Kinded kinds → Kinded (kind ∷ kinds)
one_more kind kinds value fits others = record {
  values = value ∷ others.values;
  fits = both (same_kind (kind_of value) kind) (same_kinds (kinds_of others.values) kinds) fits others.fits;
}

-- the value at this place, if its kind is the one that is due, before values of the other kinds
abbrev pub kinded : (kind : Kind) (kinds : List Kind) (place : ℕ) (value : Value) (same : Bool)
    → same_kind (kind_of value) kind ≡ same → Layout (Kinded kinds) → Layout (Kinded (kind ∷ kinds))
kinded kind kinds place value true fits others =
    others >>= λ values. Ends (one_more kind kinds value fits values)
kinded kind kinds place value false differs others = Refused (Body place)

-- a value of each of these kinds, with the proof that they have them
unfoldable pub kinded_values : (kinds : List Kind) → Layout (Kinded kinds)
kinded_values [] = Ends no_values
kinded_values (kind ∷ kinds) = do
  place ← here
  value ← field ValueForm
  kinded kind kinds place value (same_kind (kind_of value) kind) refl (kinded_values kinds)

abbrev pub values_in : (kinds : List Kind) → Kinded kinds → Layout (List Value)
values_in kinds those = Ends those.values

-- a value of each of these kinds
unfoldable pub values_of : List Kind → Layout (List Value)
values_of kinds = kinded_values kinds >>= values_in kinds

-- a value of this kind
abbrev pub value_of : Kind → Layout Value
value_of kind = field_that ValueForm (λ value. same_kind (kind_of value) kind)
