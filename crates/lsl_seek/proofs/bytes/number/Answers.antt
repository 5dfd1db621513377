use Rattle.std.proofs.Common.{◌<◌, ◌-◌, ◌⊎◌, get_or, inl, inr, sym, arith, ◌∙◌}
use Rattle.std.proofs.lemmas.Grind.{common_steps}
use Rattle.lsl_seek.proofs.Numbers.{no_digits, no_digit, not_a_digit, digit_is, digit_too_many, digits_read, all_read}
use Rattle.lsl_seek.proofs.bytes.number.Goals as goal
use Rattle.lsl_seek.proofs.bytes.number.Goals.{then-b-lt48-via-then-b-lt48, then-b-lt48-via-else-b-lt48+then-b-gt57}

pub returns-then-is_empty : goal.returns-then-is_empty
returns-then-is_empty c = sym (no_digits c.args.digits.now (grind (arith, common_steps)))

pub returns-then-b-lt48 : goal.returns-then-b-lt48
returns-then-b-lt48 c =
    let b = get_or c.digits.rest.now 0 0 in
    let outside : (b < 48) ⊎ (57 < b) =
    elim c.then-b-lt48.branch [ then-b-lt48-via-then-b-lt48 w ↦ inl w.if-b-lt48.true | then-b-lt48-via-else-b-lt48+then-b-gt57 w ↦ inr w.if-b-gt57.true ] in
    let none = no_digit c.digits.n c.digits.rest.now c.in-len1-up.len_at_least (not_a_digit b outside) in
    let read = digits_read c.args.digits.now (grind (arith, common_steps)) in
    sym (read ∙ (sym c.digits.invariant.same ∙ none))

pub returns-then-from-n : goal.returns-then-from-n
returns-then-from-n c =
    let b = get_or c.digits.rest.now 0 0 in
    let value = digit_is b (omega arith) (omega arith) in
    let none = digit_too_many c.digits.n (b - 48) c.digits.rest.now c.in-len1-up.len_at_least value (λ less. omega arith) (omega (arith, value)) in
    let read = digits_read c.args.digits.now (grind (arith, common_steps)) in
    sym (read ∙ (sym c.digits.invariant.same ∙ none))

pub returns : goal.returns
returns c =
    let read = digits_read c.args.digits.now (grind (arith, common_steps)) in
    sym (read ∙ (sym c.digits.invariant.same ∙ all_read c.digits.n c.digits.rest.now c.in_default.len_below c.digits.invariant.small))
