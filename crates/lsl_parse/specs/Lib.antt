pub mod FaultNumbers
pub mod Faults
pub mod FaultReading
pub use Rattle.lsl_read.specs.Parses
pub use Rattle.lsl_read.specs.ScriptGrammar
pub use Rattle.lsl_read.specs.ScriptReading
pub use Rattle.lsl_signs.specs.Kinds
pub use Rattle.lsl_signs.specs.Limits
