-- Over a list of events each request of a connection is answered once, in order.
use Rattle.std.proofs.Common.{◌≡◌, ℕ, ◌≤◌, List, [], ◌∷◌, ◌++◌, sym, ap, ◌∙◌, append_assoc, append-nil}
use Rattle.ipc_call.specs.declared.limits.Limits.{Limits}
use Rattle.ipc_server.specs.declared.peers.Bounds.{Bounds}
use Rattle.ipc_server.specs.Openings.{opened}
use Rattle.ipc_server.specs.Servers.{Server}
use Rattle.server_laws.specs.Runs.{Input, StaysOpen, after, all_asked_on, outputs_of, takes}
use Rattle.server_laws.specs.Telling.{answered_on, asked_on, waiting_on}
use Rattle.server_laws.proofs.Always.{step_fine}
use Rattle.server_laws.proofs.Answered.{step_answered}
use Rattle.server_laws.proofs.Forks.{always_ordered}
use Rattle.server_laws.proofs.Kept.{answered-append}
use Rattle.server_laws.proofs.Order.{Ord, none, ordered_lent}

run_answered : (is : List Input) (s : Server) (conn : ℕ) → Ord none s → StaysOpen is s conn
    → waiting_on s conn ++ all_asked_on is s conn ≡ answered_on conn (outputs_of is s) ++ waiting_on (after is s) conn
run_answered [] s conn o stays = append-nil (waiting_on s conn)
run_answered (i ∷ is) s conn o stays =
    let t = (takes i s).server in
    let first = (step_answered conn s (ordered_lent s o) i.supply i.now i.event stays.0).kept stays.1 in
    let rest = run_answered is t conn (step_fine i.supply i.now i.event s o).ord stays.2 in
    let told = answered_on conn (takes i s).outputs in
    sym (append_assoc (waiting_on s conn) (asked_on s i.event conn) (all_asked_on is t conn))
    ∙ ap (λ (l : List ℕ). l ++ all_asked_on is t conn) first
    ∙ append_assoc told (waiting_on t conn) (all_asked_on is t conn)
    ∙ ap (λ (l : List ℕ). told ++ l) rest
    ∙ sym (append_assoc told (answered_on conn (outputs_of is t)) (waiting_on (after is t) conn))
    ∙ ap (λ (l : List ℕ). l ++ waiting_on (after is t) conn) (sym (answered-append conn (takes i s).outputs (outputs_of is t)))

pub always_answered : (limits : Limits) (clients conns : ℕ) (bounds : Bounds) → 1 ≤ clients → (before is : List Input) (conn : ℕ)
    → StaysOpen is (after before (opened limits clients conns bounds)) conn
    → waiting_on (after before (opened limits clients conns bounds)) conn ++ all_asked_on is (after before (opened limits clients conns bounds)) conn
    ≡ answered_on conn (outputs_of is (after before (opened limits clients conns bounds))) ++ waiting_on (after is (after before (opened limits clients conns bounds))) conn
always_answered limits clients conns bounds some before is conn stays =
    run_answered is (after before (opened limits clients conns bounds)) conn (always_ordered limits clients conns bounds some before) stays
