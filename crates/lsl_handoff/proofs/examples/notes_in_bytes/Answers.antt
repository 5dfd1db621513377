use Rattle.std.proofs.Common.{refl}
use Rattle.lsl_bytes.specs.Fields.{u8_bytes, u16_bytes, u32_bytes, u64_bytes}
use Rattle.lsl_handoff.specs.NoteBytes.{fields_bytes, head_bytes}
use Rattle.lsl_handoff.proofs.examples.notes_in_bytes.Goals as goal

pub returns-clause-offer : goal.returns-clause-offer
unfolding fields_bytes head_bytes u8_bytes u16_bytes u32_bytes u64_bytes
returns-clause-offer c = refl

pub returns-clause-taken : goal.returns-clause-taken
unfolding fields_bytes head_bytes u8_bytes u16_bytes u32_bytes u64_bytes
returns-clause-taken c = refl

pub returns-clause-cancel : goal.returns-clause-cancel
unfolding fields_bytes head_bytes u8_bytes u16_bytes u32_bytes u64_bytes
returns-clause-cancel c = refl

pub returns-clause-refused : goal.returns-clause-refused
unfolding fields_bytes head_bytes u8_bytes u16_bytes u32_bytes u64_bytes
returns-clause-refused c = refl
