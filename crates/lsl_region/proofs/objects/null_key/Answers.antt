use Rattle.std.proofs.Common.{◌≡◌, ℕ, ◌<◌, List, [], ◌∷◌, Bool, true, ◌&&◌, refl, sym, subst, arith, rules, nat_lt}
use Rattle.std.specs.Prelude.{All}
use Rattle.std.specs.Str.{IsAscii}
use Rattle.std.proofs.lemmas.Bool.{and_parts}
use Rattle.std.proofs.lemmas.Bool.Decides.{nat_tests}
use Rattle.std.proofs.lemmas.List.Elements.{All-nil, All-cons}
use Rattle.std.proofs.lemmas.Str.Ascii.{IsAscii-from_all}
use Rattle.lsl_value.specs.Key.{null_key}
use Rattle.lsl_region.proofs.objects.null_key.Goals as goal

abbrev all_low : List ℕ → Bool
all_low [] = true
all_low (b ∷ bs) = nat_lt b 128 && all_low bs

low_all : (bs : List ℕ) → all_low bs ≡ true → All (λ b. b < 128) bs
low_all [] e = All-nil (λ b. b < 128)
low_all (b ∷ bs) e =
    let both = and_parts (nat_lt b 128) (all_low bs) e in
    let test : nat_lt b 128 ≡ true = both.0 in
    let low : b < 128 = grind (arith, nat_tests) in
    All-cons (λ b. b < 128) b bs low (low_all bs both.1)

pub from_ascii-requires-clause-ascii : goal.from_ascii-requires-clause-ascii
from_ascii-requires-clause-ascii c =
    let e : c.in_ok-to_vec.field-0.items ≡ null_key = search rules in
    subst IsAscii (sym e) (IsAscii-from_all null_key (low_all null_key refl))
