use Rattle.std.proofs.Common.{sym, ap, ◌∙◌, Ok}
use Rattle.std.proofs.lemmas.Str.{is_utf8-from_IsUtf8}
use Rattle.lsl_lines.specs.Checks.{fault_unless}
use Rattle.lsl_lines.specs.declared.faults.FileKind.TheVariants.{BadLine}
use Rattle.lsl_lines.proofs.Texts.{not_utf8}
use Rattle.lsl_lines.proofs.forms.utf8.Goals as goal

pub returns-in-Ok : goal.returns-in-Ok
returns-in-Ok c =
    let same = c.in-Ok.ensures.cases.0 in
    let valid = is_utf8-from_IsUtf8 c.args.bytes.now c.in-Ok.ensures.cases.1 in
    ap (λ b. fault_unless b BadLine (Ok c.args.bytes.now)) valid ∙ ap (λ l. Ok l) (sym same)

pub returns-in-Err : goal.returns-in-Err
returns-in-Err c = ap (λ b. fault_unless b BadLine (Ok c.args.bytes.now))
    (not_utf8 c.args.bytes.now c.in-Err.ensures.cases.0)
