use Rattle.std.proofs.Common.{refl}
use Rattle.std.specs.Char.{encode_utf8}
use Rattle.lsl_bytes.specs.Fields.{counted_bytes, i32_bytes, text_bytes, u8_bytes, u16_bytes, u32_bytes, u64_bytes, value_bytes}
use Rattle.lsl_image.specs.Bytes.{event_bytes, listen_bytes, listens_bytes, queue_bytes, script_bytes, timer_bytes, told_bytes, waiting_bytes}
use Rattle.lsl_image.proofs.examples.script_in_bytes.Goals as goal

pub returns : goal.returns
unfolding encode_utf8 counted_bytes i32_bytes text_bytes u8_bytes u16_bytes u32_bytes u64_bytes value_bytes event_bytes
    listen_bytes listens_bytes queue_bytes script_bytes timer_bytes told_bytes waiting_bytes
returns c = refl
