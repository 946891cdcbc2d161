mod LineLemmas
mod NotesLemmas
