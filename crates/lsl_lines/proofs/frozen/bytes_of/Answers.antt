use Rattle.std.proofs.Common.{◌≡◌, true, false, ap, sym, ◌∙◌}
use Rattle.hex.proofs.HexLemmas.{decode_of-encode_lower, decode_of-ok, decode_of-same}
use Rattle.hex.specs.Hex.{decode_of}
use Rattle.lsl_lines.proofs.FrozenLemmas.{decoded, encode_lower-lower, upper, wants_memory}
use Rattle.lsl_lines.proofs.frozen.bytes_of.Goals as goal

pub returns-then-has_upper_case-clause-every : goal.returns-then-has_upper_case-clause-every
returns-then-has_upper_case-clause-every c bytes fits e =
    let no : true ≡ false = sym c.if-has_upper_case.true ∙ c.has_upper_case.ensures ∙ ap upper (sym e)
    ∙ encode_lower-lower bytes in
    absurd (cc no)

pub returns-in-Ok-clause-found : goal.returns-in-Ok-clause-found
returns-in-Ok-clause-found c =
    let digits = c.args.digits.now in
    let low = sym c.has_upper_case.ensures ∙ c.if-has_upper_case.false in (
      decoded digits c.in-Ok.bytes.items c.in-Ok.ensures.ok
          low,
      (decode_of-ok digits c.in-Ok.bytes.items c.in-Ok.ensures.ok).3,
    )

pub returns-in-Ok-clause-every : goal.returns-in-Ok-clause-every
returns-in-Ok-clause-every c bytes fits e =
    decode_of-same c.args.digits.now c.in-Ok.bytes.items bytes c.in-Ok.ensures.ok
    (ap decode_of (sym e) ∙ decode_of-encode_lower bytes fits)

pub returns-in-Err-clause-every : goal.returns-in-Err-clause-every
returns-in-Err-clause-every c bytes fits e =
    c.refusal.ensures.memory (wants_memory c.args.digits.now bytes c.in-Err.fault c.in-Err.ensures.err
    (ap decode_of (sym e) ∙ decode_of-encode_lower bytes fits))
