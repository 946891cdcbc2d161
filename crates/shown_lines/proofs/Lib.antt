mod FoldingLemmas
mod WordLemmas
