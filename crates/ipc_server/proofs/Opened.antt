-- The server's own client has no call that waits when the others have exited.
use Rattle.std.proofs.Common.{◌≡◌, ℕ, zero, suc, ◌+◌, ◌-◌, ◌^◌, ◌<◌, ◌≤◌, Bool, false, cond, List, [], ◌∷◌, map, length, refl, ap, ◌∙◌, arith, length-append}
use Rattle.std.specs.Prelude.{◌==◌, filter, IfOk, Result, Ok, Err}
use Rattle.std.specs.List.{range_with_len}
use Rattle.std.proofs.lemmas.Bool.{ne_eqb}
use Rattle.std.proofs.lemmas.List.FromFn.{length-map-range_with_len}
use Rattle.ipc_call.specs.declared.calls.Call.{Call}
use Rattle.ipc_call.specs.declared.calls.Call.TheVariants.{Name}
use Rattle.ipc_call.specs.declared.limits.Limits.{Limits}
use Rattle.ipc_server.specs.Openings.{held_by, opened_history}
use Rattle.ipc_history.specs.History.{History, IsLegal, own, run}
use Rattle.ipc_model.specs.State.{is_waiting}
use Rattle.ipc_model.specs.Step.{Event}
use Rattle.ipc_server.specs.declared.peers.Bounds.{Bounds}
use Rattle.ipc_server.specs.Held.{HasRoom, Held}
use Rattle.ipc_server.specs.Servers.{Server}
use Rattle.ipc_space.specs.Openings.{exit_of, exits}
use Rattle.ipc_space.proofs.Balance.{is_free, no_more_replies}

none_own : (first count : ℕ) → 0 < first → filter (λ (e : Event). e.client == 0) (exits first count) ≡ []
none_own first zero above = refl
none_own first (suc count) above =
    let rest : List Event = map exit_of (range_with_len (first + 1) count) in
    ap (λ (b : Bool). cond b (exit_of first ∷ filter (λ (e : Event). e.client == 0) rest) (filter (λ (e : Event). e.client == 0) rest)) (ne_eqb first 0 (λ is. omega (arith, above, is)))
    ∙ none_own (first + 1) count (omega (arith, above))

pub free_supervisor : (h : History) (count : ℕ) → IsLegal h → h.events ≡ exits 1 count → is_waiting (run h) 0 ≡ false
free_supervisor h count legal events =
    let none : length (own h 0) ≡ 0 =
    ap (λ (es : List Event). length (map {B = ℕ × Call} (λ (e : Event). (e.now, e.call)) (filter (λ (e : Event). e.client == 0) es))) events
    ∙ ap (λ (es : List Event). length (map {B = ℕ × Call} (λ (e : Event). (e.now, e.call)) es)) (none_own 1 count (omega arith)) in
    let few = no_more_replies h 0 legal in
    is_free h 0 legal (omega (arith, none, few))

-- the events at the start are as many as the clients
pub opened_few : (limits : Limits) (clients : ℕ) → clients ≤ 4096 → length (opened_history limits clients).events + 16392 < 2 ^ 63
opened_few limits clients few =
    let all = length-append (exits 1 (clients - 1)) (record { client = 0; now = 0; call = Name 2147483648 } ∷ []) in
    let ended = length-map-range_with_len exit_of 1 (clients - 1) in
    omega (arith, all, ended, few)

-- so there is room at the start
pub room_at_start : {E : Type 0} (r : Result Held E) (h : History) (limits : Limits) (clients conns room : ℕ) (bounds : Bounds)
    → h ≡ opened_history limits clients → clients ≤ 4096 → 16392 ≤ room
    → IfOk r (λ server. server.server ≡ held_by h conns bounds) → IfOk r (λ server. server.room ≡ room)
    → IfOk r (λ server. 49169 + conns ≤ server.outputs.room) → IfOk r (λ server. HasRoom server 16392 (49169 + conns))
room_at_start (Ok held) h limits clients conns room bounds opens few enough server_is room_is outputs = record {
  rows = omega (arith, room_is, enough);
  outputs = outputs;
  counted =
      let events = ap (λ (s : Server). length s.history.events) server_is in
      let all = ap (λ (k : History). length k.events) opens in
      let most = opened_few limits clients few in
      omega (arith, events, all, most);
}
room_at_start (Err e) h limits clients conns room bounds opens few enough server_is room_is outputs = tt
