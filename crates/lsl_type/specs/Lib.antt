pub mod HeaderRules
pub mod HeaderVerdicts
pub mod Headers
pub mod ScriptRules
pub mod ScriptVerdicts
pub mod Typed
