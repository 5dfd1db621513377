use Rattle.std.proofs.Common.{◌≡◌, ◌≤◌, length, min}
use Rattle.std.specs.Char.{is_digit}
use Rattle.std.specs.List.{take_while}
use Rattle.std.specs.Str.Parse.{digits_value_after}
use Rattle.lsl_text.proofs.number.magnitude.Given as goal

abbrev pub invariant-digits : goal.invariant-digits
invariant-digits l =
    (l.n ≤ 4294967296) × (min (digits_value_after l.base l.n (take_while (λ c. is_digit c l.base) l.rest))
    4294967296 ≡ min (digits_value_after l.base 0 (take_while (λ c. is_digit c l.base) l.text)) 4294967296)

abbrev pub decreases-digits : goal.decreases-digits
decreases-digits l = length l.rest
