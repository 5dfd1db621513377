use Rattle.std.proofs.Common.{◌∙◌, ◌≤◌, ℕ, ap, subst, sym, length}
use Rattle.std.specs.Str.{encode_utf8_all}
use Rattle.lsl_pure.specs.Spelling.{front_len}
use Rattle.lsl_pure.proofs.SpellingLemmas.{ascii_offset, front_len-encodes, length-encodes-take}
use Rattle.lsl_pure.proofs.spelling.offset.Goals as goal

pub returns-then-is_ascii-clause-value : goal.returns-then-is_ascii-clause-value
returns-then-is_ascii-clause-value c =
    c.min.ensures ∙ ascii_offset c.args.characters c.args.text.now c.bytes-bytes.result.now
    c.bytes-bytes.ensures.value (c.is_ascii.ensures.0 c.if-is_ascii.true)

pub returns-else-is_ascii-clause-value : goal.returns-else-is_ascii-clause-value
returns-else-is_ascii-clause-value c =
    c.walk.ensures ∙ ap (front_len c.args.characters) c.bytes-bytes.ensures.value
    ∙ front_len-encodes c.args.characters c.args.text.now

pub returns-else-is_ascii-clause-within : goal.returns-else-is_ascii-clause-within
returns-else-is_ascii-clause-within c =
    let P : ℕ → Type 0 = λ n. n ≤ length (encode_utf8_all c.args.text.now) in
    subst P (sym (returns-else-is_ascii-clause-value c)) (length-encodes-take c.args.characters c.args.text.now)
