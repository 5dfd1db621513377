-- What each token looks like.
use Rattle.std.specs.Prelude.{◌≡◌, ℕ, ◌<◌, ◌⊎◌, Bool, true, List, [], ◌∷◌, ◌++◌, length, codes, Contains, slice_index}
use Rattle.std.specs.List.{AllPass}
use Rattle.std.specs.Str.{chars}
use Rattle.std.specs.Str.Parse.{digits_value}
use Rattle.lsl_text.specs.Number.{wrapped}
use Rattle.lsl_lex.specs.Bytes.{is_letter, is_decimal, is_hexadecimal, is_name_byte}
use Rattle.lsl_lex.specs.Strings.{IsStringBody, escapes_read}
use Rattle.lsl_lex.specs.declared.token_types.Sort.{Sort}
use Rattle.lsl_lex.specs.declared.token_types.Sort.TheVariants.{Name, Int, Str, IntegerWord, StringWord, KeyWord, ListWord, FloatWord, VectorWord, RotationWord, QuaternionWord, DefaultWord, StateWord, IfWord, ElseWord, ForWord, DoWord, WhileWord, JumpWord, ReturnWord, PlusPlus, MinusMinus, PlusAssign, MinusAssign, StarAssign, SlashAssign, PercentAssign, EqualEqual, BangEqual, LessEqual, MoreEqual, LessLess, MoreMore, AndAnd, OrOr, Plus, Minus, Star, Slash, Percent, Assign, Less, More, Bang, Tilde, And, Or, Caret, ParenOpen, ParenClose, BracketOpen, BracketClose, BraceOpen, BraceClose, Comma, Semicolon, At}

-- the words that are tokens of their own
abbrev pub words : List (List ℕ × Sort)
words =
    (codes "integer", IntegerWord) ∷ (codes "string", StringWord) ∷ (codes "key", KeyWord) ∷ (codes "list", ListWord) ∷
    (codes "float", FloatWord) ∷ (codes "vector", VectorWord) ∷ (codes "rotation", RotationWord) ∷ (
      codes
          "quaternion",
      QuaternionWord,
    ) ∷
    (codes "default", DefaultWord) ∷ (codes "state", StateWord) ∷ (codes "if", IfWord) ∷ (codes "else", ElseWord) ∷
    (codes "for", ForWord) ∷ (codes "do", DoWord) ∷ (codes "while", WhileWord) ∷ (codes "jump", JumpWord) ∷
    (codes "return", ReturnWord) ∷ []

-- the signs of two characters
abbrev pub pair_signs : List (List ℕ × Sort)
pair_signs =
    (codes "++", PlusPlus) ∷ (codes "--", MinusMinus) ∷ (codes "+=", PlusAssign) ∷ (codes "-=", MinusAssign) ∷
    (codes "*=", StarAssign) ∷ (codes "/=", SlashAssign) ∷ (codes "%=", PercentAssign) ∷ (codes "==", EqualEqual) ∷
    (codes "!=", BangEqual) ∷ (codes "<=", LessEqual) ∷ (codes ">=", MoreEqual) ∷ (codes "<<", LessLess) ∷
    (codes ">>", MoreMore) ∷ (codes "&&", AndAnd) ∷ (codes "||", OrOr) ∷ []

-- the signs of one
abbrev pub single_signs : List (List ℕ × Sort)
single_signs =
    (codes "+", Plus) ∷ (codes "-", Minus) ∷ (codes "*", Star) ∷ (codes "/", Slash) ∷
    (codes "%", Percent) ∷ (codes "=", Assign) ∷ (codes "<", Less) ∷ (codes ">", More) ∷
    (codes "!", Bang) ∷ (codes "~", Tilde) ∷ (codes "&", And) ∷ (codes "|", Or) ∷
    (codes "^", Caret) ∷ (codes "(", ParenOpen) ∷ (codes ")", ParenClose) ∷ (codes "[", BracketOpen) ∷
    (codes "]", BracketClose) ∷ (codes "{", BraceOpen) ∷ (codes "}", BraceClose) ∷ (codes ",", Comma) ∷
    (codes ";", Semicolon) ∷ (codes "@", At) ∷ []

-- a letter or an underscore, then letters, underscores and decimal digits
pub record IsIdentifier (bytes : List ℕ) : Type 0 where
  pub first : is_letter (slice_index bytes 0) ≡ true
  pub each : AllPass is_name_byte bytes

-- one digit or more
pub record IsDigits (is_one : ℕ → Bool) (digits : List ℕ) : Type 0 where
  pub some : 0 < length digits
  pub each : AllPass is_one digits

-- the bytes are a token of this sort
pub data Spells (bytes : List ℕ) (sort : Sort) : Type 0 where
  a_name : IsIdentifier bytes → ((word : Sort) → Contains words (bytes, word) → ⊥) → sort ≡ Name bytes
      → Spells bytes sort
  a_word : Contains words (bytes, sort) → Spells bytes sort
  decimal : IsDigits is_decimal bytes → sort ≡ Int (wrapped (digits_value 10 bytes)) → Spells bytes sort
  hexadecimal : (x : ℕ) (digits : List ℕ) → bytes ≡ 48 ∷ x ∷ digits → (x ≡ 120) ⊎ (x ≡ 88)
      → IsDigits is_hexadecimal digits → sort ≡ Int (wrapped (digits_value 16 digits)) → Spells bytes sort
  a_string : (body : List ℕ) → bytes ≡ 34 ∷ (body ++ 34 ∷ []) → IsStringBody body
      → sort ≡ Str (escapes_read (chars body)) → Spells bytes sort
  a_pair_sign : Contains pair_signs (bytes, sort) → Spells bytes sort
  a_single_sign : Contains single_signs (bytes, sort) → Spells bytes sort
