use Rattle.std.proofs.Common.{◌≡◌, length, arith}
use Rattle.lsl_lines.specs.Reading.{place_of}
use Rattle.lsl_lines.proofs.LastLemmas.{file_added-known}
use Rattle.lsl_lines.proofs.additions.add_file.Goals as goal

pub returns-else-place-len-clause-files : goal.returns-else-place-len-clause-files
returns-else-place-len-clause-files c =
    file_added-known c.args.files.now c.args.file
    (λ (e : place_of c.args.files.now c.args.file ≡ length c.args.files.now). absurd (omega (arith, e)))
