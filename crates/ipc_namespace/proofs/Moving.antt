-- What a decided call leaves, with the waiting calls that it cancels.
use Rattle.std.proofs.Common.{◌≡◌, ℕ, ◌<◌, List, [], ◌∷◌, get_or, length, refl, sym, ap, subst, ◌∙◌, Some, None, Ok, Err}
use Rattle.std.specs.List.{AllByRecursion}
use Rattle.std.proofs.lemmas.List.{get_or_default}
use Rattle.ipc_call.specs.declared.calls.Call.{Call}
use Rattle.ipc_call.specs.declared.replies.Answer.{Answer}
use Rattle.ipc_call.specs.declared.replies.Waiting.{Waiting}
use Rattle.ipc_call.specs.declared.rules.Rule.{Rule}
use Rattle.ipc_creds.specs.Credentials.{Credentials}
use Rattle.ipc_model.specs.State.{State, Thread, creds_at, no_thread, nobody}
use Rattle.ipc_model.specs.Decision.{Decision, Granted, Refused, Waits, left_by, outcome_of}
use Rattle.ipc_model.specs.Decide.{decide_alive as decide}
use Rattle.ipc_model.specs.Cancelled.{cancelled}
use Rattle.ipc_model.specs.Step.{Moved, cancel, cancelled_by}
use Rattle.ipc_model.specs.Decision.{without_answer}
use Rattle.ipc_model.proofs.Plans.{IfGranted}
use Rattle.ipc_namespace.specs.Namespace.{left_alive as moved_by}
use Rattle.ipc_namespace.proofs.Endings.{ended-none, left-none}

pub refused-as : (d : Decision State) (rule : Rule) → without_answer d ≡ Some (Err rule) → d ≡ Refused rule
refused-as (Refused other) rule is = let same : other ≡ rule = cc in ap (λ r. Refused r) same
refused-as Waits rule is = cc
refused-as (Granted answer new) rule is = cc

every : (P : Waiting → Type 0) (ws : List Waiting) → ((w : Waiting) → P w) → AllByRecursion P ws
every P [] all = tt
every P (w ∷ ws) all = (all w, every P ws all)

-- a call that cancels none
pub uncancelled : (new : State) (call : Call) → ((w : Waiting) → cancelled new call w ≡ None) → cancel new call ≡ record { state = new; ended = [] }
uncancelled new call none = λ i. record {
  state = record new { parked = left-none (cancelled new call) new.parked (every (λ w. cancelled new call w ≡ None) new.parked none) i };
  ended = ended-none (cancelled new call) new.parked (every (λ w. cancelled new call w ≡ None) new.parked none) i;
}

moved-state : (s : State) (call : Call) (d : Decision State) → ((new : State) (w : Waiting) → cancelled new call w ≡ None)
    → cancelled_by (left_by s d) call d ≡ record { state = left_by s d; ended = [] }
moved-state s call (Refused rule) none = refl
moved-state s call Waits none = refl
moved-state s call (Granted answer new) none = uncancelled new call (none new)

-- it moves the state as its decision says
moved-alone : (s : State) (client : ℕ) (call same : Call) → call ≡ same → ((new : State) (w : Waiting) → cancelled new same w ≡ None)
    → moved_by s client call ≡ record { state = left_by s (decide s client same); ended = [] }
moved-alone s client call same is none = ap (λ (c : Call). moved_by s client c) is ∙ moved-state s same (decide s client same) none

-- so it ends no other
pub none-ended : (s : State) (client : ℕ) (call same : Call) → call ≡ same → ((new : State) (w : Waiting) → cancelled new same w ≡ None) → [] ≡ (moved_by s client call).ended
none-ended s client call same is none = sym (ap (λ (m : Moved). m.ended) (moved-alone s client call same is none))

-- a call that changes nothing moves nothing
pub moved-nothing : (s : State) (client : ℕ) (call same : Call) → call ≡ same → ((new : State) (w : Waiting) → cancelled new same w ≡ None)
    → left_by s (decide s client same) ≡ s → moved_by s client call ≡ record { state = s; ended = [] }
moved-nothing s client call same is none left =
    moved-alone s client call same is none ∙ (λ i. record { state = left i; ended = [] })

pub moved-refused : (s : State) (client : ℕ) (call : Call) (rule : Rule) → decide s client call ≡ Refused rule → moved_by s client call ≡ record { state = s; ended = [] }
moved-refused s client call rule is = ap (λ d. cancelled_by (left_by s d) call d) is

-- the client's credentials as the code reads them
pub creds-read : (v s : State) (client : ℕ) (c : Credentials) → v ≡ s → client < length s.clients → c ≡ get_or v.clients client c → c ≡ creds_at s client
creds-read v s client c is known read =
    read ∙ get_or_default v.clients client c nobody (subst (λ (t : State). client < length t.clients) (sym is) known) ∙ ap (λ (t : State). creds_at t client) is

-- a client's thread as the code reads it
pub thread-read : (v s : State) (client : ℕ) (t : Thread) → v ≡ s → client < length s.threads → t ≡ get_or v.threads client t → t ≡ get_or s.threads client no_thread
thread-read v s client t is known read =
    read ∙ get_or_default v.threads client t no_thread (subst (λ (x : State). client < length x.threads) (sym is) known) ∙ ap (λ (x : State). get_or x.threads client no_thread) is

-- a call that is granted moves to what it leaves, but for the calls that it cancels
pub granted-state : (s new : State) (client : ℕ) (call : Call) → without_answer (decide s client call) ≡ Some (Ok tt) → IfGranted (λ answer t. t ≡ new) (decide s client call)
    → (cancel new call).state ≡ (moved_by s client call).state
granted-state s new client call is = by (decide s client call) is
  where
    by : (d : Decision State) → without_answer d ≡ Some (Ok tt) → IfGranted (λ answer t. t ≡ new) d → (cancel new call).state ≡ (cancelled_by (left_by s d) call d).state
    by (Refused rule) is leaves = cc
    by Waits is leaves = cc
    by (Granted answer t) is leaves = ap (λ (t : State). (cancel t call).state) (sym leaves)

pub granted-ended : (s new : State) (client : ℕ) (call : Call) → without_answer (decide s client call) ≡ Some (Ok tt) → IfGranted (λ answer t. t ≡ new) (decide s client call)
    → (cancel new call).ended ≡ (moved_by s client call).ended
granted-ended s new client call is = by (decide s client call) is
  where
    by : (d : Decision State) → without_answer d ≡ Some (Ok tt) → IfGranted (λ answer t. t ≡ new) d → (cancel new call).ended ≡ (cancelled_by (left_by s d) call d).ended
    by (Refused rule) is leaves = cc
    by Waits is leaves = cc
    by (Granted answer t) is leaves = ap (λ (t : State). (cancel t call).ended) (sym leaves)

-- and is answered so
pub granted-outcome : (s : State) (client : ℕ) (call : Call) (answer : Answer) → without_answer (decide s client call) ≡ Some (Ok tt) → IfGranted (λ told t. told ≡ answer) (decide s client call) → outcome_of (decide s client call) ≡ Some (Ok answer)
granted-outcome s client call answer is = by (decide s client call) is
  where
    by : (d : Decision State) → without_answer d ≡ Some (Ok tt) → IfGranted (λ told t. told ≡ answer) d → outcome_of d ≡ Some (Ok answer)
    by (Refused rule) is told = cc
    by Waits is told = cc
    by (Granted other t) is told = ap (λ a. Some (Ok a)) told

-- a call that is refused moves nothing
module _ (s : State) (client : ℕ) (call : Call) (rule : Rule) (is : without_answer (decide s client call) ≡ Some (Err rule)) where
  pub refused-outcome : outcome_of (decide s client call) ≡ Some (Err rule)
  refused-outcome = ap (λ (d : Decision State). outcome_of d) (refused-as (decide s client call) rule is)

  pub refused-state : s ≡ (moved_by s client call).state
  refused-state = sym (ap (λ (m : Moved). m.state) (moved-refused s client call rule (refused-as (decide s client call) rule is)))

  pub refused-ended : [] ≡ (moved_by s client call).ended
  refused-ended = sym (ap (λ (m : Moved). m.ended) (moved-refused s client call rule (refused-as (decide s client call) rule is)))
