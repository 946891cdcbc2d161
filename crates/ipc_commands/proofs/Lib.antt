pub mod OptionLemmas
pub mod PartLemmas
pub mod ProgramLemmas
pub mod WordLemmas
