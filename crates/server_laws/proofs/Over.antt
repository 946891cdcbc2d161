-- Nothing is left of a process that has ended, nor of a child that doesn't come.
use Rattle.std.proofs.Common.{◌≡◌, ◌≢◌, ℕ, ◌<◌, ◌≤◌, Bool, true, false, List, Option, Some, None, refl, sym, ap, ◌∙◌, subst}
use Rattle.std.specs.Prelude.{if◌then◌else◌}
use Rattle.std.proofs.lemmas.Option.{none-some}
use Rattle.ipc_call.specs.declared.calls.Call.TheVariants as calls
use Rattle.ipc_call.specs.declared.limits.Limits.{Limits}
use Rattle.ipc_model.specs.State.{Thread, has_exited, pid_at, thread_at}
use Rattle.ipc_server.specs.declared.peers.Bounds.{Bounds}
use Rattle.ipc_server.specs.declared.peers.Conn.{Conn}
use Rattle.ipc_server.specs.declared.peers.Conn.TheVariants.{Absent}
use Rattle.ipc_server.specs.declared.peers.Supply.{Supply}
use Rattle.ipc_server.specs.Lives.{closes_all, dies, kills, pid_of_child}
use Rattle.ipc_server.specs.Making.{event, made}
use Rattle.ipc_server.specs.Openings.{opened}
use Rattle.ipc_server.specs.Servers.{Server, child_of, conn_at, is_of, is_process, lead_of, state}
use Rattle.ipc_server.specs.Steps.{Ended, ForkLost, step, Event}
use Rattle.life_laws.specs.Lives.{Kills}
use Rattle.life_laws.proofs.Changed.{pid-from}
use Rattle.life_laws.proofs.Ended.{kill-run}
use Rattle.server_laws.proofs.Always.{step_fine}
use Rattle.server_laws.specs.Ends.{HasGone, IsOver, IsKnown, is_end_of}
use Rattle.server_laws.specs.Runs.{Input, after}
use Rattle.server_laws.proofs.Begun.{child_pid, found_lead, free_pid}
use Rattle.server_laws.proofs.Conns.{map_without}
use Rattle.server_laws.proofs.Forks.{always_ordered}
use Rattle.server_laws.proofs.Killed.{found_child}
use Rattle.server_laws.proofs.Order.{Ord, first_may, none, server_is}

-- a kill by the server itself, after which its state is all that counts
module _ (now pid target : ℕ) (s : Server) (o : Ord none s) (lives : has_exited (state s) target ≡ false) (own : pid_at (state s) target ≡ pid) where
  abbrev killed : Server
  killed = made now 0 (calls.Kill pid) s

  did : Kills s.history (event now 0 (calls.Kill pid)) pid
  did = kill-run s.history now 0 o.first.lives o.first.admin pid target (pid-from pid (thread_at (state s) target) own lives)

  pub gone_killed : (client : ℕ) → has_exited (state s) client ≡ false → pid_at (state s) client ≡ pid → HasGone s killed client
  gone_killed client live is =
      let it = did.killed client (pid-from pid (thread_at (state s) client) is live) in
      record { ended = ap (λ (x : Thread). x.has_ended) it.ended.thread; waits = it.ended.waits; process = it.process }

  pub free_killed : (client : ℕ) → has_exited (state killed) client ≡ false → pid_at (state killed) client ≢ pid
  free_killed = did.free

module _ (now pid : ℕ) (s : Server) (o : Ord none s) (few : pid < 2147483648) where
  abbrev closed : Server
  closed = (closes_all pid s).server

  out_of_it : (b : Bool) (x : Conn) → is_of (is_process pid) x ≡ b → is_of (is_process pid) (if b then Absent else x) ≡ false
  out_of_it true x is = refl
  out_of_it false x is = is

  no_conn : (conn : ℕ) → is_of (is_process pid) (conn_at closed conn) ≡ false
  no_conn conn =
      ap (is_of (is_process pid)) (map_without (is_of (is_process pid)) refl s.conns conn)
      ∙ out_of_it (is_of (is_process pid) (conn_at s conn)) (conn_at s conn) refl

  over_by : (lead : Option ℕ) → lead_of s pid ≡ lead → IsOver s (kills now pid lead closed).server pid
  over_by None is =
      let free = free_pid s pid o is few in
      record { clients = λ client live same. absurd (free client live same); free = free; conns = no_conn }
  over_by (Some lead) is =
      let it = found_lead s pid lead is in
      subst (λ (t : Server). IsOver s t pid) (sym (server_is now 0 (calls.Kill pid) closed (first_may s o))) (record {
        clients = λ client live same. (let gone = gone_killed now pid lead s o it.lives it.pid_is client live same in record { ended = gone.ended; waits = gone.waits; process = gone.process });
        free = free_killed now pid lead s o it.lives it.pid_is;
        conns = no_conn;
      })

  pub over : (supply : Supply) → IsOver s (step supply now (Ended pid) s).server pid
  over supply = let it = over_by (lead_of s pid) refl in record {
    clients = λ client live same. (let gone = it.clients client live same in record { ended = gone.ended; waits = gone.waits; process = gone.process });
    free = it.free;
    conns = it.conns;
  }

module _ (now token child : ℕ) (s : Server) (o : Ord none s) where
  lost_by : (found : Option ℕ) → found ≡ Some child → child_of s token ≡ found → HasGone s (dies now found s).server child
  lost_by None missing is = absurd (none-some child missing)
  lost_by (Some other) same is =
      let one : other ≡ child = cc in
      let it = found_child s token child (is ∙ same) in
      let own = child_pid s child it.token it.euid o it.lives it.role in
      subst (λ (k : ℕ). HasGone s (dies now (Some k) s).server child) (sym one)
      (subst (λ (t : Server). HasGone s t child) (sym (server_is now 0 (calls.Kill (pid_of_child child)) s (first_may s o))) (gone_killed now (pid_of_child child) child s o it.lives own child it.lives own))

  pub lost : (supply : Supply) → child_of s token ≡ Some child → HasGone s (step supply now (ForkLost token) s).server child
  lost supply is = let gone = lost_by (child_of s token) is refl in record { ended = gone.ended; waits = gone.waits; process = gone.process }

module _ (limits : Limits) (clients conns : ℕ) (bounds : Bounds) (some : 1 ≤ clients) (is : List Input) where
  abbrev s : Server
  s = after is (opened limits clients conns bounds)

  pub always_over : (supply : Supply) (now pid : ℕ) → pid < 2147483648 → IsOver s (step supply now (Ended pid) s).server pid
  always_over supply now pid few = over now pid s (always_ordered limits clients conns bounds some is) few supply

  pub always_lost : (supply : Supply) (now token child : ℕ) → child_of s token ≡ Some child → HasGone s (step supply now (ForkLost token) s).server child
  always_lost supply now token child found = lost now token child s (always_ordered limits clients conns bounds some is) supply found

  pub always_known : (supply : Supply) (now : ℕ) (e : Event) (pid : ℕ) → is_end_of e pid ≡ false → IsKnown s pid → IsKnown (step supply now e s).server pid
  always_known supply now e pid other known = (step_fine supply now e s (always_ordered limits clients conns bounds some is)).led pid other known
