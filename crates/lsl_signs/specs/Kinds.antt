-- The symbols of the grammar, and what a token holds.
use Rattle.std.specs.Prelude.{ℕ, zero, suc, ◌==◌, cond, ℤ, pos, List, [], ◌∷◌}
use Rattle.lsl_lex.specs.Kinds.{kind_of}
use Rattle.lsl_lex.specs.declared.token_types.Sort.{Sort}
use Rattle.lsl_lex.specs.declared.token_types.Sort.TheVariants as sort
use Rattle.lsl_lex.specs.declared.token_types.Sort.TheVariants.{IntegerWord, StringWord, KeyWord, ListWord, BraceClose, At}
use Rattle.lsl_lex.specs.declared.token_types.Token.{Token}
use Rattle.lsl_value.specs.declared.tagged.Kind.{Kind}
use Rattle.lsl_value.specs.declared.tagged.Kind.TheVariants as value
use Rattle.lsl_tree.specs.declared.expression.Name.{Name as Named}

-- a symbol is a sort, of which the kind counts alone: these represent each name, integer and string
abbrev pub Name : Sort
Name = sort.Name []

abbrev pub Int : Sort
Int = sort.Int (pos 0)

abbrev pub Str : Sort
Str = sort.Str []

abbrev pub codes : List Sort → List ℕ
codes [] = []
codes (k ∷ ks) = kind_of k ∷ codes ks

-- the kinds below the second, without the first
abbrev pub without : ℕ → ℕ → List ℕ
without k zero = []
without k (suc n) = cond (k == n) (without k n) (n ∷ without k n)

-- the kind of a token
abbrev pub token_code : Token → ℕ
token_code t = kind_of t.sort

-- each kind but the end of a block
abbrev pub not_end : List ℕ
not_end = without (kind_of BraceClose) (suc (kind_of At))

-- the characters of a name or a string
abbrev pub text_of : Sort → List ℕ
text_of (sort.Name t) = t
text_of (sort.Str t) = t
text_of _ = []

-- the value of an INT
abbrev pub integer_of : Sort → ℤ
integer_of (sort.Int n) = n
integer_of _ = pos 0

-- the kind that a TYPE names
abbrev pub type_of : Sort → Kind
type_of sort.StringWord = value.Str
type_of sort.KeyWord = value.Key
type_of sort.ListWord = value.List
type_of _ = value.Int

-- a NAME, and its place
abbrev pub name_of : Token → Named
name_of t = record { text = text_of t.sort; span = t.span }

-- TYPE
abbrev pub types : List Sort
types = IntegerWord ∷ StringWord ∷ KeyWord ∷ ListWord ∷ []
