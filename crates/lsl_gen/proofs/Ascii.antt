-- Names and constants of the tables are ASCII.
use Rattle.std.proofs.Common.{◌≡◌, ℕ, ◌<◌, List, [], ◌∷◌, Bool, true, ◌&&◌, refl, sym, ap, ◌∙◌, arith, length, nat_lt}
use Rattle.std.specs.Prelude.{All}
use Rattle.std.specs.Str.{IsAscii}
use Rattle.std.proofs.lemmas.Bool.Decides.{nat_tests}
use Rattle.std.proofs.lemmas.List.Elements.{All-nil, All-cons}
use Rattle.std.proofs.lemmas.Str.Ascii.{IsAscii-from_all}
use Rattle.lsl_value.specs.declared.names.ConstantId.{ConstantId}
use Rattle.lsl_value.specs.declared.names.ConstantId.TheVariants as constant
use Rattle.lsl_value.specs.declared.names.EventId.{EventId}
use Rattle.lsl_value.specs.declared.names.EventId.TheVariants as event
use Rattle.lsl_value.specs.declared.tagged.Value.{Value}
use Rattle.lsl_value.specs.declared.tagged.Value.TheVariants as value
use Rattle.lsl_table.specs.Constants.{constant_value_of}
use Rattle.lsl_table.specs.Events.{event_name_of}

abbrev all_low : List ℕ → Bool
all_low [] = true
all_low (b ∷ bs) = nat_lt b 128 && all_low bs

first_true : (a b : Bool) → (a && b) ≡ true → (a ≡ true) × (b ≡ true)
first_true true b e = (refl, e)
first_true a b e = absurd cc

low_all : (bs : List ℕ) → all_low bs ≡ true → All (λ b. b < 128) bs
low_all [] e = All-nil (λ b. b < 128)
low_all (b ∷ bs) e =
    let both = first_true (nat_lt b 128) (all_low bs) e in
    let test : nat_lt b 128 ≡ true = both.0 in
    let low : b < 128 = grind (arith, nat_tests) in
    All-cons (λ b. b < 128) b bs low (low_all bs both.1)

low_ascii : (bs : List ℕ) → all_low bs ≡ true → IsAscii bs
low_ascii bs e = IsAscii-from_all bs (low_all bs e)

-- a text that is short, and of ASCII alone
abbrev IsPlain : Value → Bool
IsPlain (value.Str text) = all_low text && nat_lt (length text) 64
IsPlain v = true

constant_plain : (id : ConstantId) → IsPlain (constant_value_of id) ≡ true
constant_plain constant.True = refl
constant_plain id = refl

pub constant_ascii : (id : ConstantId) (text : List ℕ) → constant_value_of id ≡ value.Str text → IsAscii text
constant_ascii id text e =
    let known : (all_low text && nat_lt (length text) 64) ≡ true = sym (ap IsPlain e) ∙ constant_plain id in
    low_ascii text (first_true (all_low text) _ known).0

pub constant_short : (id : ConstantId) (text : List ℕ) → constant_value_of id ≡ value.Str text → length text < 64
constant_short id text e =
    let known : (all_low text && nat_lt (length text) 64) ≡ true = sym (ap IsPlain e) ∙ constant_plain id in
    let test : nat_lt (length text) 64 ≡ true = (first_true (all_low text) _ known).1 in
    grind (arith, nat_tests)

event_plain : (e : EventId) → (all_low (event_name_of e) && nat_lt (length (event_name_of e)) 64) ≡ true
event_plain event.StateEntry = refl
event_plain e = refl

pub event_ascii : (e : EventId) → IsAscii (event_name_of e)
event_ascii e = low_ascii (event_name_of e) (first_true (all_low (event_name_of e)) _ (event_plain e)).0

pub event_short : (e : EventId) → length (event_name_of e) < 64
event_short e =
    let test : nat_lt (length (event_name_of e)) 64 ≡ true =
    (first_true (all_low (event_name_of e)) _ (event_plain e)).1 in
    grind (arith, nat_tests)
