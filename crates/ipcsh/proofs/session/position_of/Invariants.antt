use Rattle.std.proofs.Common.{◌≡◌, ℕ, List, drop}
use Rattle.std.specs.Prelude.{bytes_eq}
use Rattle.std.specs.List.{position_from}
use Rattle.ipcsh.proofs.session.position_of.Given as goal

-- no name so far is the word
abbrev pub invariant-loop-name : goal.invariant-loop-name
invariant-loop-name l =
    (l.client ≡ l.name-index) × (position_from (λ (name : List ℕ). bytes_eq name l.word) 0 l.names ≡ position_from (λ (name : List ℕ). bytes_eq name l.word) l.client (drop l.name-index l.names))
