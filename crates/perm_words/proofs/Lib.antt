mod ModeLemmas
mod Pieces
