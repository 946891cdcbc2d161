use Rattle.std.proofs.Common.{◌≡◌, ◌∙◌, ℕ, None, ap}
use Rattle.std.specs.FinMap as finite
use Rattle.client_map.specs.Keys.{key}
use Rattle.sem_undo.specs.Rows.{items_of, row_in}
use Rattle.sem_undo.proofs.rows.Rows.new.Goals as goal

pub returns-clause-noted : goal.returns-clause-noted
returns-clause-noted c = record { clients = λ client set none. empty client set; sets = λ client set large. empty client set }
  where
    empty : (client set : ℕ) → row_in c.new.result client set ≡ None
    empty client set = ap (λ m. row_in m client set) c.new.ensures ∙ ap items_of (finite.get-empty _ (key client set))
