-- That a client is one of a service can't be so in two ways.
use Rattle.std.proofs.Common.{ℕ, List, sym, ◌∙◌}
use Rattle.std.proofs.Props.{props}
use Rattle.std.proofs.lemmas.List.{append_cancel_left}
use Rattle.std.specs.Coded.{Coded-set, ×_prop}
use mathlib.Core.HLevel.{Σ_prop_path}
use Rattle.atomic_table.specs.Seated.{table_id_coded}
use Rattle.ipc_call.specs.declared.calls.Call.{Call}
use Rattle.ipc_call.specs.declared.replies.Reply.{Reply}
use Rattle.pub_rule.specs.declared.served.Served.{Ghosts}
use Rattle.pub_rule.specs.Work.{GoesOn}
use Rattle.pub_list.specs.declared.joined.Joined.{Joined}
use Rattle.pub_list.specs.Clients.{work}
use Rattle.ipc_combiner.specs.declared.entries.Entry.{Entry}
use Rattle.ipc_combiner.specs.declared.shared.Shared.{Shared}
use Rattle.ipc_combiner.specs.States.{IsOf, Records, first_entries}

GoesOn-prop : (h k : List Entry) → IsProp (GoesOn h k)
GoesOn-prop h k a b = Σ_prop_path (λ more. hlevel props) (append_cancel_left h a.0 b.0 (sym a.1 ∙ b.1))

module _ {g : Ghosts Shared Entry (ℕ × Call) Reply} where
  pub IsOf-prop : (list : Records) (j : Joined Shared Entry (ℕ × Call) Reply g) → IsProp (IsOf list j)
  IsOf-prop list j = ×_prop (Coded-set table_id_coded j.seat.table_id list.table.shared.table_id)
      (GoesOn-prop (first_entries list) (work j).seen)
