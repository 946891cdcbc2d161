-- A list of publication records.
use Rattle.std.specs.Prelude.{◌≡◌, ℕ, ◌+◌, ◌≤◌}
use Rattle.atomic_table.specs.Seated.{TableId}
use Rattle.atomic_table.specs.declared.shared.Seat.{Seat}
use Rattle.pub_rule.specs.declared.walk.View.{View}
use Rattle.pub_rule.specs.declared.walk.Role.TheVariants as roles
use Rattle.pub_rule.specs.declared.work.Work.{Work}
use Rattle.pub_rule.specs.declared.work.Stage.TheVariants.{Maker}
use Rattle.pub_rule.specs.Words.{word_count}

-- a table for so many clients
abbrev pub IsSized : TableId → ℕ → ℕ → Type 0
IsSized z key clients = (z.words ≡ word_count clients) × (z.slots ≡ clients + 1) × (key ≡ clients) × (1 ≤ clients)
    × (clients ≤ 64)

-- the first seat, which has made those of the clients below k
abbrev pub IsMaker : {T E C R : Type 0} → ℕ → Seat T (View (Work E C R)) → Type 0
IsMaker k seat = (seat.me.0.walk.role ≡ roles.Maker k) × (seat.me.0.work.stage ≡ Maker k)
