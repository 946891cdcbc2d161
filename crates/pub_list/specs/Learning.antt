-- What a client learns from another of its list. It was v before, and is w after it; the other is o.
use Rattle.std.specs.Prelude.{◌≡◌, ℕ, List, ◌∷◌}
use Rattle.pub_rule.specs.declared.served.Served.{Ghosts}
use Rattle.pub_list.specs.declared.joined.Joined.{Joined}
use Rattle.pub_list.specs.Clients.{view, seen, told, tries}
use Rattle.pub_list.specs.Telling.{IsTaught}

-- it was told that the other joined, and what that knew of what is served; the list and its tries are as they were
abbrev pub Learns : {S E C R : Type 0} {g : Ghosts S E C R} → (List E → Type 0) → (List E → ℕ → List C)
    → (List E → ℕ → List R) → Joined S E C R g → Joined S E C R g → Joined S E C R g → Type 0
Learns legal own replies v o w = (told w ≡ o.client ∷ told v) × (seen w ≡ seen v) × (tries w ≡ tries v)
    × IsTaught legal own replies v.client (view v) (view o) (view w)
