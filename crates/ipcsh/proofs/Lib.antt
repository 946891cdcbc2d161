pub mod CommandLemmas
pub mod InputLemmas
pub mod PieceLemmas
pub mod RunLemmas
pub mod ScriptLemmas
