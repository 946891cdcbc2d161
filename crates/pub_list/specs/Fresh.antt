-- A client that hasn't joined.
use Rattle.std.specs.Prelude.{◌≡◌, ℕ, ◌+◌, ◌<◌, []}
use Rattle.atomic_table.specs.declared.shared.Seat.{Seat}
use Rattle.pub_rule.specs.declared.walk.View.{View}
use Rattle.pub_rule.specs.declared.walk.Role.TheVariants as roles
use Rattle.pub_rule.specs.declared.work.Work.{Work}
use Rattle.pub_rule.specs.declared.work.Stage.TheVariants.{Away}
use Rattle.pub_rule.specs.Rule.{blank}
use Rattle.pub_rule.specs.WorkSplits.{starting}

-- the seat of an unjoined client, which knows nothing of the list, and of what is served the history at the start; its
-- slot is at home
abbrev pub IsFresh : {T E C R : Type 0} → ℕ → Seat T (View (Work E C R)) → Type 0
IsFresh client seat = (seat.me.0.walk ≡ blank (roles.Fresh client))
    × (seat.me.0.work ≡ starting (Away client) seat.me.0.work.seen) × (seat.me.1 ≡ [])
    × (client + 1 < seat.table_id.slots)
