use Rattle.std.proofs.Common.{refl}
use Rattle.std.specs.Char.{encode_utf8}
use Rattle.lsl_bytes.specs.Fields.{u32_bytes, i32_bytes, counted_bytes, text_bytes, atom_bytes, list_bytes, value_bytes}
use Rattle.lsl_bytes.proofs.examples.worked_bytes.Goals as goal

pub returns : goal.returns
unfolding encode_utf8 u32_bytes i32_bytes counted_bytes text_bytes atom_bytes list_bytes value_bytes
returns c = record { sixteen = refl; negative = refl; string = refl; list = refl }
