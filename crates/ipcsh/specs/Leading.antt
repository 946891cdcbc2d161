-- Where the functions that make the calls of a line lead.
use Rattle.std.specs.Prelude.{◌≡◌, ℕ, Bool, List, ◌++◌}
use Rattle.ipcsh.specs.Commands.{Progress}
use Rattle.ipcsh.specs.Session.{Session}

-- from the old session and rows the step leads to the new ones, and ends so, for some refusals of memory, whatever was
-- printed before and is refused later
pub record Leads {A : Type 0} (step end : Progress → A) (old new : Session) (old_rows new_rows : List ℕ) : Type 0 where
  pub used : List Bool
  pub printed : List ℕ
  pub rows : new_rows ≡ old_rows ++ printed
  pub leads : (before : List ℕ) (refusals : List Bool)
      → step (record { session = old; rows = before; refusals = used ++ refusals })
      ≡ end (record { session = new; rows = before ++ printed; refusals = refusals })
