-- A store as the list of its pairs, in rising order of the bytes of their names.
use Rattle.std.specs.Prelude.{ℕ, Bool, not, List, ◌∷◌, ◌++◌, Option, filter, find, sum_by}
use Rattle.std.specs.Cmp.Lexicographic.{slice_cmp}
use Rattle.std.specs.Option.{option_map}
use Rattle.std.specs.Ordering.{is_lt, nat_cmp}
use Rattle.std.specs.Str.{bytes_eq, encode_utf8_all}
use Rattle.lsl_post.specs.declared.parts.Pair.{Pair}
use Rattle.lsl_image.specs.Object.{pair_bytes}

-- two names are one if their bytes are
abbrev pub same_name : List ℕ → List ℕ → Bool
same_name a b = bytes_eq (encode_utf8_all a) (encode_utf8_all b)

-- a name comes before another if its bytes do
abbrev pub is_before : List ℕ → List ℕ → Bool
is_before a b = is_lt (slice_cmp nat_cmp (encode_utf8_all a) (encode_utf8_all b))

-- the pair of a name
unfoldable pub pair_at : List Pair → List ℕ → Option Pair
pair_at pairs name = find (λ p. same_name name p.name) pairs

-- the value of a name
abbrev pub value_at : List Pair → List ℕ → Option (List ℕ)
value_at pairs name = option_map (λ p. p.value) (pair_at pairs name)

-- with a pair in its place, and none other of its name
unfoldable pub with_pair : List Pair → Pair → List Pair
with_pair pairs p = filter (λ q. is_before q.name p.name) pairs ++ p ∷ filter (λ q. is_before p.name q.name) pairs

-- without the pair of a name
unfoldable pub without : List Pair → List ℕ → List Pair
without pairs name = filter (λ p. not (same_name name p.name)) pairs

-- how many bytes the names and values have together
abbrev pub bytes_of : List Pair → ℕ
bytes_of pairs = sum_by pair_bytes pairs
