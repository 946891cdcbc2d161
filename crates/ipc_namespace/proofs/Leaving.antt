-- A waiting call that leaves the list: what it was, and what is true of the others.
use Rattle.std.proofs.Common.{◌≡◌, ℕ, ◌+◌, ◌<◌, true, List, length, refl, sym, ap, subst, ◌∙◌, Option, Some}
use Rattle.std.specs.Prelude.{◌==◌, not, option_map}
use Rattle.std.specs.List.{find}
use Rattle.ipc_call.specs.declared.calls.Call.{Call}
use Rattle.ipc_call.specs.declared.replies.Waiting.{Waiting}
use Rattle.msg_calls.specs.WithRoom.{one_if}
use Rattle.ipc_parked.specs.declared.parked.Arrival.{Arrival}
use Rattle.ipc_parked.specs.Parked.{arrival_of, waiting}
use Rattle.ipc_parked.specs.Parked as parked
use Rattle.ipc_parked.proofs.Listed.{waiting_at, waiting-others}
use Rattle.ipc_namespace.specs.Namespace.{AreParked, is_send_to, sends_on, stands}
use Rattle.ipc_namespace.proofs.Own.{length-others, others}
use Rattle.ipc_namespace.proofs.Parked.{AreParked-filter, apart-parked, parked_found}
use Rattle.ipc_namespace.proofs.Reserved.{room-left, sent-roomy}

-- the client's call leaves the list before, and the list after is left, of so many clients
pub record Leaves (clients client : ℕ) (call : Call) (before after : List Waiting) : Type 0 where
  pub until : Option ℕ
  pub own : find (λ w. w.client == client) before ≡ Some (record { client = client; call = call; deadline = until })
  pub known : client < clients
  pub may_wait : stands call ≡ true
  pub rest : after ≡ others client before
  pub parked : AreParked clients after
  pub shorter : length after + 1 ≡ length before
  pub roomy : (id room : ℕ) → is_send_to id call ≡ true → room ≡ sends_on id before → 0 < room
  pub room : (id old new : ℕ) → new + one_if (is_send_to id call) ≡ old → old ≡ sends_on id before → new ≡ sends_on id after

pub leaves : (clients client : ℕ) (call : Call) (es left : List (ℕ × Arrival)) → AreParked clients (waiting es)
    → option_map (λ a. a.call) (arrival_of client es) ≡ Some call → left ≡ parked.others client es → Leaves clients client call (waiting es) (waiting left)
leaves clients client call es left are is less =
    let there = waiting_at client call es is in
    let w : Waiting = record { client = client; call = call; deadline = there.0 } in
    let own = there.1 in
    let found = parked_found clients (λ v. v.client == client) (waiting es) w are own in
    let apart = apart-parked clients (waiting es) are in
    let rest = ap waiting less ∙ waiting-others client es in
    record {
      until = there.0;
      own = own;
      known = found.0;
      may_wait = found.1;
      rest = rest;
      parked = subst (λ ws. AreParked clients ws) (sym rest) (AreParked-filter clients (λ v. not (v.client == client)) (waiting es) are);
      shorter = ap (λ ws. length ws + 1) rest ∙ length-others (waiting es) client w apart own refl;
      roomy = λ id room sends is. sent-roomy id client (waiting es) w apart own refl room sends is;
      room = λ id old new less is. room-left id client (waiting es) w apart own refl old new less is ∙ ap (λ ws. sends_on id ws) (sym rest);
    }
