-- The places that are reserved for waiting calls that send.
use Rattle.std.proofs.Common.{◌≡◌, ℕ, ℤ, ◌+◌, ◌<◌, Bool, true, false, cond, List, [], ◌∷◌, ◌++◌, refl, sym, ap, ◌∙◌, arith, Some, None}
use Rattle.std.specs.Prelude.{◌==◌, is_none, if◌then◌else◌, IsSome}
use Rattle.std.specs.List.{find}
use Rattle.std.proofs.lemmas.Bool.{false≢true, true≢false}
use Rattle.ipc_call.specs.declared.calls.Call.{Call}
use Rattle.ipc_call.specs.declared.calls.Call.TheVariants.{MsgSnd, MsgRcv, SemOp}
use Rattle.ipc_call.specs.declared.calls.SemOper.{SemOper}
use Rattle.ipc_call.specs.declared.replies.Waiting.{Waiting}
use Rattle.ipc_call.specs.declared.rules.Rule.TheVariants.{Removed}
use Rattle.msg_calls.specs.WithRoom.{one_if}
use Rattle.ipc_call.specs.declared.calls.Kind.TheVariants as kinds
use Rattle.ipc_model.specs.Cancelled.{waits_on}
use Rattle.ipc_parked.specs.Parked.{AreApart}
use Rattle.ipc_namespace.proofs.Own.{found-at, others}
use Rattle.ipc_namespace.proofs.Parked.{turned}
use Rattle.ipc_namespace.specs.Namespace.{is_send_to, kept_by, sends_on, sent_to, stands}

pub sends_on-push : (id : ℕ) (ws : List Waiting) (w : Waiting) → sends_on id (ws ++ w ∷ []) ≡ sends_on id ws + one_if (is_send_to id w.call)
sends_on-push id [] w = let e : one_if (is_send_to id w.call) + 0 ≡ 0 + one_if (is_send_to id w.call) = omega arith in e
sends_on-push id (v ∷ ws) w =
    let more = sends_on-push id ws w in
    let all : one_if (is_send_to id v.call) + sends_on id (ws ++ w ∷ []) ≡ (one_if (is_send_to id v.call) + sends_on id ws) + one_if (is_send_to id w.call) = omega (arith, more) in
    all

sends_on-append : (id : ℕ) (vs ws : List Waiting) → sends_on id (vs ++ ws) ≡ sends_on id vs + sends_on id ws
sends_on-append id [] ws = omega arith
sends_on-append id (v ∷ vs) ws =
    let more = sends_on-append id vs ws in
    let all : one_if (is_send_to id v.call) + sends_on id (vs ++ ws) ≡ (one_if (is_send_to id v.call) + sends_on id vs) + sends_on id ws = omega (arith, more) in
    all

-- without a client's call there is one less of its kind
pub sends_on-others : (id client : ℕ) (ws : List Waiting) (w : Waiting) → AreApart ws → find (λ v. v.client == client) ws ≡ Some w → w.client ≡ client
    → sends_on id (others client ws) + one_if (is_send_to id w.call) ≡ sends_on id ws
sends_on-others id client ws w apart found same =
    let at = found-at (λ v. v.client == client) ws w apart found in
    let left = ap (sends_on id) (ap (λ k. others k ws) (sym same) ∙ at.left) ∙ sends_on-append id at.before at.after in
    let all = ap (sends_on id) at.is ∙ sends_on-append id at.before (w ∷ at.after) in
    omega (arith, left, all)

-- a call that doesn't wait on the queue doesn't send to it
not_sent : (id : ℕ) (call : Call) → waits_on kinds.Queue id call ≡ false → is_send_to id call ≡ false
not_sent id (MsgSnd other mtype text flags) apart = turned other id apart
not_sent id call apart = refl

none_left-if : (id : ℕ) (b : Bool) (w : Waiting) (ws : List Waiting) → waits_on kinds.Queue id w.call ≡ b → sends_on id ws ≡ 0 → sends_on id (cond (is_none (if b then Some Removed else None)) (w ∷ ws) ws) ≡ 0
none_left-if id true w ws waits none = none
none_left-if id false w ws waits none = let no = not_sent id w.call waits in let all : one_if (is_send_to id w.call) + sends_on id ws ≡ 0 = omega (arith, ap one_if no, none) in all

-- where those that wait on a queue have left, none sends to it
pub none_left : (id : ℕ) (ws : List Waiting) → sends_on id (kept_by (λ w. if waits_on kinds.Queue id w.call then Some Removed else None) ws) ≡ 0
none_left id [] = refl
none_left id (w ∷ ws) = none_left-if id (waits_on kinds.Queue id w.call) w (kept_by (λ v. if waits_on kinds.Queue id v.call then Some Removed else None) ws) refl (none_left id ws)

-- where a call of the client that sends waits, a place is reserved, and it is given back when the call leaves
module _ (id client : ℕ) (ws : List Waiting) (w : Waiting) (apart : AreApart ws) (found : find (λ v. v.client == client) ws ≡ Some w) (same : w.client ≡ client) where
  pub sent-roomy : (room : ℕ) → is_send_to id w.call ≡ true → room ≡ sends_on id ws → 0 < room
  sent-roomy room sends is = let some = sends_on-others id client ws w apart found same in let one : one_if (is_send_to id w.call) ≡ 1 = ap one_if sends in omega (arith, some, one, is)

  pub room-left : (old new : ℕ) → new + one_if (is_send_to id w.call) ≡ old → old ≡ sends_on id ws → new ≡ sends_on id (others client ws)
  room-left old new less is = let some = sends_on-others id client ws w apart found same in omega (arith, some, less, is)

-- a call that sends is a msgsnd
pub only_send : (call : Call) → IsSome (sent_to call) → ((id : ℕ) (mtype : ℤ) (text : List ℕ) (flags : ℕ) → call ≡ MsgSnd id mtype text flags → ⊥) → ⊥
only_send (MsgSnd id mtype text flags) some sends = sends id mtype text flags refl
only_send call some sends = absurd (false≢true some)

-- a call that may wait sends, receives or operates
pub no_other : (call : Call) → stands call ≡ true → ((id : ℕ) (mtype : ℤ) (text : List ℕ) (flags : ℕ) → call ≡ MsgSnd id mtype text flags → ⊥) → ((id size : ℕ) (msgtyp : ℤ) (flags : ℕ) → call ≡ MsgRcv id size msgtyp flags → ⊥)
    → ((id : ℕ) (ops : List SemOper) → call ≡ SemOp id ops → ⊥) → ⊥
no_other (MsgSnd id mtype text flags) can sends receives operates = sends id mtype text flags refl
no_other (MsgRcv id size msgtyp flags) can sends receives operates = receives id size msgtyp flags refl
no_other (SemOp id ops) can sends receives operates = operates id ops refl
no_other call can sends receives operates = absurd (true≢false (sym can))
