use Rattle.std.proofs.Common.{◌≡◌, map, take}
use Rattle.std.specs.Str.{encode_utf8_all}
use Rattle.lsl_top.proofs.reading.file_names.Given as goal

abbrev pub invariant-loop-file : goal.invariant-loop-file
invariant-loop-file l = map (λ n. n.now) l.names.items ≡ take l.file-index (map encode_utf8_all l.files)
