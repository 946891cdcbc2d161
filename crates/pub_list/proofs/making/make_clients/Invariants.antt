use Rattle.std.proofs.Common.{◌≡◌, ℕ, length, IfSome, All}
use Rattle.std.specs.List.{slice_get}
use Rattle.pub_list.specs.Lists.{IsMaker}
use Rattle.pub_list.proofs.making.make_clients.Given as goal

abbrev pub invariant-loop-client : goal.invariant-loop-client
invariant-loop-client g l = (l.first.table_id ≡ l.fn.first.table_id) × IsMaker l.client l.first × (length l.made.items ≡ l.client) × ((k : ℕ) → IfSome (slice_get l.made.items k) (λ f. f.client ≡ k)) × All (λ f. f.seat.table_id ≡ l.table.shared.table_id) l.made.items
    × (l.first.me.0.work.seen ≡ l.fn.first.me.0.work.seen) × All (λ f. f.seat.me.0.work.seen ≡ l.fn.first.me.0.work.seen) l.made.items
