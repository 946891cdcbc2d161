mod AskedNeeds
mod Decided
mod LastEvent
mod TrialLemmas
