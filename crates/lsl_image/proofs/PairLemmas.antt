-- Pairs of a store, each after those before it.
use Rattle.std.proofs.Common.{◌≡◌, ◌∙◌, refl, sym, ap, arith, ℕ, ◌+◌, ◌-◌, List, [], ◌∷◌, ◌++◌, length, take, nat_le, Some, slice_get, sum_by}
use Rattle.std.specs.Cmp.Lexicographic.{slice_cmp}
use Rattle.std.specs.Ordering.{is_lt, nat_cmp}
use Rattle.std.specs.Str.{encode_utf8_all}
use Rattle.std.proofs.lemmas.Bool.Decides.{nat_tests}
use Rattle.std.proofs.lemmas.List.{take_all}
use Rattle.std.proofs.lemmas.List.Sums.{sum_by_push}
use Rattle.std.proofs.lemmas.Option.{slice_get_within}
use Rattle.lsl_post.specs.declared.parts.Pair.{Pair}
use Rattle.lsl_post.proofs.Places.{take-at}
use Rattle.lsl_image.specs.Object.{finds_room, is_above, pair_bytes}

above-push : (name : List ℕ) (pairs : List Pair) (last : Pair)
    → is_above name (pairs ++ last ∷ []) ≡ is_lt (slice_cmp nat_cmp (encode_utf8_all last.name) (encode_utf8_all name))
above-push name [] last = refl
above-push name (first ∷ []) last = refl
above-push name (first ∷ next ∷ pairs) last = above-push name (next ∷ pairs) last

-- a name is above pairs if it is above the last
pub above-last : (name : List ℕ) (pairs : List Pair) (last : Pair) → Some last ≡ slice_get pairs (length pairs - 1)
    → is_above name pairs ≡ is_lt (slice_cmp nat_cmp (encode_utf8_all last.name) (encode_utf8_all name))
above-last name pairs last is =
    let within = slice_get_within pairs (length pairs - 1) last (sym is) in
    let whole : take (length pairs - 1 + 1) pairs ≡ pairs = take_all (length pairs - 1 + 1) pairs (omega arith) in
    ap (is_above name) (sym whole ∙ take-at pairs (length pairs - 1) last is)
    ∙ above-push name (take (length pairs - 1) pairs) last

-- a pair fits after these if it fits in the room that they leave
pub room-left : (before : List Pair) (p : Pair) (room : ℕ) → sum_by pair_bytes before + room ≡ 65536
    → nat_le (pair_bytes p) room ≡ finds_room (before ++ p ∷ [])
room-left before p room left =
    let all : sum_by pair_bytes (before ++ p ∷ []) ≡ sum_by pair_bytes before + pair_bytes p =
    sum_by_push pair_bytes before p in
    decided (pair_bytes p) room (sum_by pair_bytes before) (sum_by pair_bytes (before ++ p ∷ [])) left all
  where
    decided : (n room old new : ℕ) → old + room ≡ 65536 → new ≡ old + n → nat_le n room ≡ nat_le new 65536
    decided n room old new left all = grind (arith, nat_tests)
