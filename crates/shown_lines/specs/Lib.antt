pub mod Flags
pub mod Folding
pub mod ScriptLines
