-- The texts of the world that `once` makes are ASCII.
use Rattle.std.proofs.Common.{◌≡◌, ℕ, ◌<◌, List, [], ◌∷◌, Bool, true}
use Rattle.std.specs.Prelude.{All, nat_lt, ◌&&◌}
use Rattle.std.specs.Str.{IsAscii}
use Rattle.std.proofs.lemmas.Bool.{and_parts, ltb-true}
use Rattle.std.proofs.lemmas.List.Elements.{All-nil, All-cons}
use Rattle.std.proofs.lemmas.Str.Ascii.{IsAscii-from_all}

abbrev pub all_low : List ℕ → Bool
all_low [] = true
all_low (b ∷ bs) = nat_lt b 128 && all_low bs

low-all : (bs : List ℕ) → all_low bs ≡ true → All (λ b. b < 128) bs
low-all [] e = All-nil (λ b. b < 128)
low-all (b ∷ bs) e =
    let (first, rest) = and_parts (nat_lt b 128) (all_low bs) e in
    All-cons (λ b. b < 128) b bs (ltb-true b 128 first) (low-all bs rest)

pub is-ascii : (bs : List ℕ) → all_low bs ≡ true → IsAscii bs
is-ascii bs e = IsAscii-from_all bs (low-all bs e)
