use Rattle.std.proofs.Common.{◌≡◌, List, ℕ, subst, sym, ap, ◌∙◌, arith, length}
use Rattle.std.specs.Prelude.{IfOk}
use Rattle.std.specs.Str.{IsUtf8, chars}
use Rattle.std.specs.String.{string_bytes}
use Rattle.lsl_lex.specs.Strings.{escapes_read}
use Rattle.lsl_lex.proofs.Escapes.{IsUtf8-escapes_read, chars-escapes_read, length-escapes_read}
use Rattle.lsl_lex.proofs.strings.escaped_text.Goals as goal

pub from_string-requires : goal.from_string-requires
from_string-requires c =
    let read : string_bytes c.in-Ok.text ≡ escapes_read c.args.body.now =
    ap (λ v. v.items) c.in-Ok.ensures.ok ∙ c.in_ok-bytes.ensures in
    let long = length-escapes_read c.args.body.now in
    omega (arith, ap length read, long, c.requires.short)

pub unreachable-requires : goal.unreachable-requires
unreachable-requires c = let e = c.in-Err.ensures.succeeds
    (subst IsUtf8 (sym c.in_ok-bytes.ensures) (IsUtf8-escapes_read c.args.body.now c.requires.valid)) in cc

pub returns : goal.returns
returns c =
    let read : string_bytes c.in-Ok.text ≡ escapes_read c.args.body.now =
    ap (λ v. v.items) c.in-Ok.ensures.ok ∙ c.in_ok-bytes.ensures in
    let same : chars (string_bytes c.in-Ok.text) ≡ escapes_read (chars c.args.body.now) =
    ap chars read ∙ chars-escapes_read c.args.body.now c.requires.valid in
    subst (λ (l : List ℕ). IfOk c.from_string.result (λ text. text ≡ l)) same c.from_string.ensures
