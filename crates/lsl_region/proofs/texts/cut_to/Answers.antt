use Rattle.std.proofs.Common.{◌≤◌, rules, length, ap, arith}
use Rattle.std.specs.Str.{encode_utf8_all}
use Rattle.lsl_region.proofs.Cuts.{cut_whole}
use Rattle.lsl_region.proofs.texts.cut_to.Goals as goal

pub returns-then-bytes-room : goal.returns-then-bytes-room
returns-then-bytes-room c =
    let short : length (encode_utf8_all c.args.text.now) ≤ c.args.room = omega (arith, ap length c.bytes.ensures.value)
    in
    rw (cut_whole c.args.room c.args.text.now short) (search rules)
