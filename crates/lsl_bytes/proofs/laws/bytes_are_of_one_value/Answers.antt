use Rattle.lsl_bytes.proofs.NumberLemmas.{i32-prefix_free, u8-prefix_free, u16-prefix_free, u32-prefix_free, u64-prefix_free}
use Rattle.lsl_bytes.proofs.TextLemmas.{text-prefix_free}
use Rattle.lsl_bytes.proofs.ValueLemmas.{value-prefix_free}
use Rattle.lsl_bytes.proofs.laws.bytes_are_of_one_value.Goals as goal

pub returns : goal.returns
returns c = record {
  u8 = u8-prefix_free;
  u16 = u16-prefix_free;
  u32 = u32-prefix_free;
  u64 = u64-prefix_free;
  i32 = i32-prefix_free;
  text = text-prefix_free;
  value = value-prefix_free;
}
