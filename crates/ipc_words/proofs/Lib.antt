pub mod LineLemmas
pub mod NameLemmas
pub mod NumberLemmas
pub mod WordLemmas
