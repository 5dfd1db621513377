use Rattle.std.proofs.Common.{◌≡◌, ◌++◌, take}
use Rattle.std.specs.List.{flat_map, AllByRecursion}
use Rattle.lsl_value.specs.Text.{IsText}
use Rattle.lsl_bytes.specs.Fields.{text_bytes}
use Rattle.lsl_image.proofs.write_body.write_texts.Given as goal

-- this many are written, and fit
abbrev pub invariant-loop-name : goal.invariant-loop-name
invariant-loop-name l = record {
  written : l.out.items ≡ l.fn.out.items ++ flat_map text_bytes (take l.name-index l.names);
  fits : AllByRecursion IsText (take l.name-index l.names);
}
