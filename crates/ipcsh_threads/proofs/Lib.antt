pub mod RunLemmas
pub mod ThreadLemmas
