-- The calls of queues as a namespace makes them: what is decided of its queues is decided of its state.
use Rattle.std.proofs.Common.{◌≡◌, ℕ, ℤ, Bool, true, false, List, [], ◌∷◌, length, refl, sym, ap, subst, ◌∙◌, Option, Some, None, Ok, Err}
use Rattle.std.proofs.lemmas.Bool.{true≢false}
use Rattle.std.specs.Prelude.{⊤, ◌||◌, not, if◌then◌else◌, is_some, pos, int_le, nat_le, nat_lt, IfOk, IfSome, IsSome, Result}
use Rattle.std.proofs.lemmas.Bool.{eqb-true, false≢true}
use Rattle.std.proofs.lemmas.Option.{none-some}
use Rattle.ipc_call.specs.declared.calls.Call.{Call}
use Rattle.ipc_call.specs.declared.calls.Call.TheVariants.{MsgGet, MsgSnd, MsgRcv, SemOp}
use Rattle.ipc_call.specs.declared.calls.SemOper.{SemOper}
use Rattle.ipc_call.specs.declared.limits.Limits.{Limits}
use Rattle.ipc_call.specs.declared.replies.Answer.TheVariants.{Done}
use Rattle.ipc_call.specs.declared.rules.Rule.{Rule}
use Rattle.ipc_call.specs.declared.rules.Rule.TheVariants.{BadId, BadType, NoOperations, SemOutOfSet, TextTooLong, TooManyOperations}
use Rattle.ipc_call.specs.declared.rules.Rule.TheVariants as rules
use Rattle.ipc_creds.specs.Credentials.{Credentials}
use Rattle.ipc_objects.specs.declared.object.Object.{Object}
use Rattle.msg_queue.specs.declared.messages.Message.{Message}
use Rattle.ipc_model.specs.State.{Caller, Queue, Queues, SemSet, Sems, Shared, State, caller, creds_at, has_exited}
use Rattle.ipc_model.specs.Decision.{Decision, Granted, Outcome, Refused, Waits, left_by, outcome_of, proceeds}
use Rattle.ipc_model.proofs.Calls.{only_parkable_alive}
use Rattle.ipc_model.proofs.Turning.{begins-not}
use Rattle.ipc_model.specs.Plan.{Plan, decision, on_part, unless}
use Rattle.ipc_perm.specs.Access.{Permission, denial}
use Rattle.sem_set.specs.Trials.{are_in}
use Rattle.ipc_model.specs.Semaphores.{operate, operate_found, set_at, wanted_by}
use Rattle.ipc_model.specs.Gets.{get_queue}
use Rattle.ipc_model.specs.Messages.{Send, queue_at, receive_message, send_found, send_message}
use Rattle.ipc_model.specs.Decide as decisions
use Rattle.ipc_model.specs.Decide.{OnSems, PartPlan, begins, decide_alive as decide, may_call, part_plan, whole}
use Rattle.ipc_model.specs.Step.{end_waiting, ended_by, without}
use Rattle.ipc_model.proofs.Plans.{Ends-decision, Ends-found, IfGranted, left-on, outcome-on}
use Rattle.ipc_model.proofs.Alike.{proceeds-on}
use Rattle.msg_calls.specs.Calls.{sending}
use Rattle.msg_calls.proofs.Holding.{IfOk-map}
use Rattle.ipc_model.specs.Decision.{without_answer}
use Rattle.ipc_namespace.specs.Namespace.{MayReserve, is_send_to}

pub IfSome-at : {A : Type 0} (o : Option A) (x : A) (P : A → Type 0) → o ≡ Some x → IfSome o P → P x
IfSome-at o x P is p = subst (λ v. IfSome v P) is p

abbrev pub put_in : State → Queues → State
put_in s queues = record s { queues = queues }

-- a plan of a part of a state, decided for a client of it, on the state as the code has it
module _ {X : Type 0} (put : State → X → State) (pick : State → X) (same : (t : State) → put t (pick t) ≡ t) (part : State → Caller → Plan X) (v s : State) (client : ℕ) (who : Caller) (is : v ≡ s) (called : who ≡ caller v client) where
  abbrev whole_of : State → Decision State
  whole_of t = decision (creds_at t client) (on_part (put t) (part t (caller t client)))

  outcome-by : outcome_of (decision who.creds (part v who)) ≡ outcome_of (whole_of s)
  outcome-by =
      ap (λ (w : Caller). outcome_of (decision w.creds (part v w))) called
      ∙ sym (outcome-on (creds_at v client) (put v) (part v (caller v client)))
      ∙ ap (λ (t : State). outcome_of (whole_of t)) is

  proceeds-by : proceeds (decision who.creds (part v who)) ≡ proceeds (whole_of s)
  proceeds-by =
      ap (λ (w : Caller). proceeds (decision w.creds (part v w))) called
      ∙ sym (proceeds-on (creds_at v client) (put v) (part v (caller v client)))
      ∙ ap (λ (t : State). proceeds (whole_of t)) is

  left-by : (x : X) → x ≡ left_by (pick v) (decision who.creds (part v who)) → put v x ≡ left_by s (whole_of s)
  left-by x left =
      ap (put v) left
      ∙ ap (λ (w : Caller). put v (left_by (pick v) (decision w.creds (part v w)))) called
      ∙ sym (left-on (creds_at v client) (put v) (part v (caller v client)) (pick v) v (same v))
      ∙ ap (λ (t : State). left_by t (whole_of t)) is

-- of the queues
module _ (part : State → Caller → Plan Queues) (v s : State) (client : ℕ) (who : Caller) (is : v ≡ s) (called : who ≡ caller v client) where
  outcome-as : outcome_of (decision who.creds (part v who)) ≡ outcome_of (decision (creds_at s client) (on_part (put_in s) (part s (caller s client))))
  outcome-as = outcome-by put_in (λ t. t.queues) (λ t. refl) part v s client who is called

  proceeds-as : proceeds (decision who.creds (part v who)) ≡ proceeds (decision (creds_at s client) (on_part (put_in s) (part s (caller s client))))
  proceeds-as = proceeds-by put_in (λ t. t.queues) (λ t. refl) part v s client who is called

  left-as : (queues : Queues) → queues ≡ left_by v.queues (decision who.creds (part v who)) → put_in v queues ≡ left_by s (decision (creds_at s client) (on_part (put_in s) (part s (caller s client))))
  left-as = left-by put_in (λ t. t.queues) (λ t. refl) part v s client who is called

-- a call of which the plan changes a part alone, with the arguments as the code reads them
module _ {X : Type 0} (on : Plan X → PartPlan) (put : State → X → State) (pick : State → X) (same : (t : State) → put t (pick t) ≡ t) (wholly : (t : State) (p : Plan X) → whole t (on p) ≡ on_part (put t) p)
    (part : State → Caller → Plan X) (v s : State) (client : ℕ) (who : Caller) (is : v ≡ s) (called : who ≡ caller v client)
    (call read : Call) (back : call ≡ read) (planned : (t : State) → part_plan t (caller t client) read ≡ on (part t (caller t client))) where
  decided : decide s client call ≡ decision (creds_at s client) (on_part (put s) (part s (caller s client)))
  decided = ap (λ (k : Call). decide s client k) back ∙ ap (λ p. decision (creds_at s client) (whole s p)) (planned s) ∙ ap (λ p. decision (creds_at s client) p) (wholly s (part s (caller s client)))

  pub part-outcome : outcome_of (decision who.creds (part v who)) ≡ outcome_of (decide s client call)
  part-outcome = outcome-by put pick same part v s client who is called ∙ sym (ap (λ d. outcome_of d) decided)

  pub part-told : {E : Type 0} (r : Result Outcome E) → IfOk r (λ o. outcome_of (decision who.creds (part v who)) ≡ Some o) → IfOk r (λ o. outcome_of (decide s client call) ≡ Some o)
  part-told r = IfOk-map r (λ o. outcome_of (decision who.creds (part v who)) ≡ Some o) (λ o. outcome_of (decide s client call) ≡ Some o) (λ o told. sym part-outcome ∙ told)

  pub part-left : (x : X) → x ≡ left_by (pick v) (decision who.creds (part v who)) → put v x ≡ left_by s (decide s client call)
  part-left x left = left-by put pick same part v s client who is called x left ∙ sym (ap (λ d. left_by s d) decided)

-- on the sets, and on the segments
abbrev pub put_sems : State → Sems → State
put_sems s sems = record s { sems = sems }

abbrev pub put_shared : State → Shared → State
put_shared s shared = record s { shared = shared }

module _ (call : Call) (part : State → Caller → Plan Sems) (v s : State) (client : ℕ) (who : Caller) (is : v ≡ s) (called : who ≡ caller v client) (planned : (t : State) → part_plan t (caller t client) call ≡ OnSems (part t (caller t client))) where
  pub sets-outcome : outcome_of (decision who.creds (part v who)) ≡ outcome_of (decide s client call)
  sets-outcome = part-outcome OnSems put_sems (λ t. t.sems) (λ t. refl) (λ t p. refl) part v s client who is called call call refl planned

  pub sets-left : (sems : Sems) → sems ≡ left_by v.sems (decision who.creds (part v who)) → put_sems v sems ≡ left_by s (decide s client call)
  sets-left = part-left OnSems put_sems (λ t. t.sems) (λ t. refl) (λ t p. refl) part v s client who is called call call refl planned

-- a decision without its answer, by how the call ends
abbrev answered : Option Outcome → Option (Result ⊤ Rule)
answered None = None
answered (Some (Ok answer)) = Some (Ok tt)
answered (Some (Err rule)) = Some (Err rule)

answered-as : {X : Type 0} (d : Decision X) → without_answer d ≡ answered (outcome_of d)
answered-as (Refused rule) = refl
answered-as Waits = refl
answered-as (Granted answer new) = refl

module _ (v s : State) (client : ℕ) (who : Caller) (is : v ≡ s) (called : who ≡ caller v client) where
  pub get-outcome : (key flags : ℕ) → outcome_of (decision who.creds (get_queue v.limits v.queues who (record { key = key; flags = flags }))) ≡ outcome_of (decide s client (MsgGet key flags))
  unfolding part_plan
  get-outcome key flags = outcome-as (λ t w. get_queue t.limits t.queues w (record { key = key; flags = flags })) v s client who is called

  pub get-left : (key flags : ℕ) (queues : Queues) → queues ≡ left_by v.queues (decision who.creds (get_queue v.limits v.queues who (record { key = key; flags = flags }))) → put_in v queues ≡ left_by s (decide s client (MsgGet key flags))
  unfolding part_plan
  get-left key flags = left-as (λ t w. get_queue t.limits t.queues w (record { key = key; flags = flags })) v s client who is called

  module _ (id size flags : ℕ) (read msgtyp : ℤ) (back : read ≡ msgtyp) where
    pub receive-outcome : outcome_of (decision who.creds (receive_message v.queues who id (record { size = size; msgtyp = read; flags = flags }))) ≡ outcome_of (decide s client (MsgRcv id size msgtyp flags))
    unfolding part_plan
    receive-outcome = outcome-as (λ t w. receive_message t.queues w id (record { size = size; msgtyp = read; flags = flags })) v s client who is called ∙ ap (λ z. outcome_of (decide s client (MsgRcv id size z flags))) back

    pub receive-proceeds : proceeds (decision who.creds (receive_message v.queues who id (record { size = size; msgtyp = read; flags = flags }))) ≡ proceeds (decide s client (MsgRcv id size msgtyp flags))
    unfolding part_plan
    receive-proceeds = proceeds-as (λ t w. receive_message t.queues w id (record { size = size; msgtyp = read; flags = flags })) v s client who is called ∙ ap (λ z. proceeds (decide s client (MsgRcv id size z flags))) back

    pub receive-left : (queues : Queues) → queues ≡ left_by v.queues (decision who.creds (receive_message v.queues who id (record { size = size; msgtyp = read; flags = flags }))) → put_in v queues ≡ left_by s (decide s client (MsgRcv id size msgtyp flags))
    unfolding part_plan
    receive-left queues left = left-as (λ t w. receive_message t.queues w id (record { size = size; msgtyp = read; flags = flags })) v s client who is called queues left ∙ ap (λ z. left_by s (decide s client (MsgRcv id size z flags))) back

  module _ (id flags : ℕ) (read mtype : ℤ) (text : List ℕ) (back : read ≡ mtype) where
    abbrev sent : Decision Queues
    sent = sending v.limits v.queues who id flags (record { mtype = read; text = text })

    pub send-outcome : outcome_of sent ≡ outcome_of (decide s client (MsgSnd id mtype text flags))
    unfolding part_plan
    send-outcome =
        outcome-as (λ t w. send_message t.limits t.queues w id (record { message = record { mtype = read; text = text }; flags = flags })) v s client who is called
        ∙ ap (λ z. outcome_of (decide s client (MsgSnd id z text flags))) back

    pub send-proceeds : proceeds sent ≡ proceeds (decide s client (MsgSnd id mtype text flags))
    unfolding part_plan
    send-proceeds =
        proceeds-as (λ t w. send_message t.limits t.queues w id (record { message = record { mtype = read; text = text }; flags = flags })) v s client who is called
        ∙ ap (λ z. proceeds (decide s client (MsgSnd id z text flags))) back

    pub send-answered : without_answer sent ≡ without_answer (decide s client (MsgSnd id mtype text flags))
    send-answered = answered-as sent ∙ ap answered send-outcome ∙ sym (answered-as (decide s client (MsgSnd id mtype text flags)))

    pub send-left : (queues : Queues) → queues ≡ left_by v.queues sent → put_in v queues ≡ left_by s (decide s client (MsgSnd id mtype text flags))
    unfolding part_plan
    send-left queues left =
        left-as (λ t w. send_message t.limits t.queues w id (record { message = record { mtype = read; text = text }; flags = flags })) v s client who is called queues left
        ∙ ap (λ z. left_by s (decide s client (MsgSnd id z text flags))) back

-- a call that waits changes nothing
pub left-waits : {X : Type 0} (x : X) (d : Decision X) → outcome_of d ≡ None → left_by x d ≡ x
left-waits x (Refused rule) is = refl
left-waits x Waits is = refl
left-waits x (Granted answer new) is = absurd (none-some (Ok answer) (sym is))

pub left-refused : {X : Type 0} (x : X) (d : Decision X) (rule : Rule) → outcome_of d ≡ Some (Err rule) → left_by x d ≡ x
left-refused x (Refused other) rule is = refl
left-refused x Waits rule is = refl
left-refused x (Granted answer new) rule is = cc

pub answered-some : {X : Type 0} (d : Decision X) → is_some (without_answer d) ≡ proceeds d
answered-some (Refused rule) = refl
answered-some Waits = refl
answered-some (Granted answer new) = refl

pub outcome-some : {X : Type 0} (d : Decision X) → is_some (outcome_of d) ≡ proceeds d
outcome-some (Refused rule) = refl
outcome-some Waits = refl
outcome-some (Granted answer new) = refl

-- what a msgsnd that is granted answers
done-granted : (d : Decision Queues) → IfGranted (λ answer new. answer ≡ Done) d → without_answer d ≡ Some (Ok tt) → outcome_of d ≡ Some (Ok Done)
done-granted (Refused rule) done is = cc
done-granted Waits done is = cc
done-granted (Granted answer new) done is = ap (λ a. Some (Ok a)) done

pub sent-done : (limits : Limits) (queues : Queues) (who : Caller) (id flags : ℕ) (message : Message) → without_answer (sending limits queues who id flags message) ≡ Some (Ok tt)
    → outcome_of (sending limits queues who id flags message) ≡ Some (Ok Done)
sent-done limits queues who id flags message =
    done-granted (sending limits queues who id flags message)
    (Ends-decision who.creds (λ answer new. answer ≡ Done) (send_message limits queues who id (record { message = message; flags = flags })) (Ends-found (λ answer new. answer ≡ Done) (queue_at queues id) BadId tt _ (λ queue is. refl)))

pub answered-none : {X : Type 0} (d : Decision X) → without_answer d ≡ None → outcome_of d ≡ None
answered-none (Refused rule) is = cc
answered-none Waits is = refl
answered-none (Granted answer new) is = cc

pub answered-refused : {X : Type 0} (d : Decision X) (rule : Rule) → without_answer d ≡ Some (Err rule) → (outcome_of d ≡ Some (Err rule)) × ((x : X) → left_by x d ≡ x)
answered-refused (Refused other) rule is = (cc, λ x. refl)
answered-refused Waits rule is = cc
answered-refused (Granted answer new) rule is = cc

ended-as : (s : State) (client : ℕ) (d : Decision State) (outcome : Outcome) → outcome_of d ≡ Some outcome
    → ended_by s client d ≡ record { state = left_by s d; ended = record { client = client; outcome = outcome } ∷ [] }
ended-as s client (Refused rule) outcome is = let same : Err rule ≡ outcome = cc in ap (λ o. record { state = s; ended = record { client = client; outcome = o } ∷ [] }) same
ended-as s client Waits outcome is = absurd (none-some outcome is)
ended-as s client (Granted answer new) outcome is = let same : Ok answer ≡ outcome = cc in ap (λ o. record { state = new; ended = record { client = client; outcome = o } ∷ [] }) same

pub not-over : (b : Bool) → not b ≡ false → b ≡ true
not-over true is = refl
not-over false is = absurd (true≢false is)

-- of a client that may call
pub called-decides : (s : State) (client : ℕ) (call : Call) → may_call s client call ≡ true → decisions.decide s client call ≡ decide s client call
called-decides s client call may = ap (λ b. if b then decide s client call else Refused rules.Ended) may

-- and so of one that hasn't ended
pub alive-may : (s : State) (client : ℕ) (call : Call) → has_exited s client ≡ false → may_call s client call ≡ true
alive-may s client call alive = ap (λ b. begins call || not b) alive ∙ either (begins call)
  where
    either : (b : Bool) → b || true ≡ true
    either true = refl
    either false = refl

pub alive-decides : (s : State) (client : ℕ) (call : Call) → has_exited s client ≡ false → decisions.decide s client call ≡ decide s client call
alive-decides s client call alive = called-decides s client call (alive-may s client call alive)

-- a call that is made to wait is of one that hasn't
pub waits-alive : (s : State) (client : ℕ) (call : Call) → may_call s client call ≡ true → outcome_of (decide s client call) ≡ None → has_exited s client ≡ false
waits-alive s client call may waits =
    let can = only_parkable_alive s client call (no-outcome (decide s client call) waits) in
    un-not (has_exited s client) (sym (ap (λ b. b || not (has_exited s client)) (begins-not call can)) ∙ may)
  where
    no-outcome : (d : Decision State) → outcome_of d ≡ None → proceeds d ≡ false
    no-outcome (Refused rule) is = cc
    no-outcome Waits is = refl
    no-outcome (Granted answer new) is = cc

    un-not : (b : Bool) → not b ≡ true → b ≡ false
    un-not true is = absurd (true≢false (sym is))
    un-not false is = refl

-- a waiting call that ends
pub ends-so : (s new : State) (client : ℕ) (call : Call) (until : Option ℕ) (outcome : Outcome) → has_exited s client ≡ false → outcome_of (decide (without s client) client call) ≡ Some outcome
    → new ≡ left_by (without s client) (decide (without s client) client call)
    → end_waiting s (record { client = client; call = call; deadline = until }) ≡ record { state = new; ended = record { client = client; outcome = outcome } ∷ [] }
ends-so s new client call until outcome alive told left =
    ap (λ d. ended_by (without s client) client d) (alive-decides (without s client) client call alive)
    ∙ ended-as (without s client) client (decide (without s client) client call) outcome told ∙ (λ i. record { state = sym left i; ended = record { client = client; outcome = outcome } ∷ [] })

no-queue : (a b : Bool) → outcome_of {X = Queues} (if a then (if b then Refused BadId else Refused TextTooLong) else Refused BadType) ≡ None → ⊥
no-queue true true is = cc
no-queue true false is = cc
no-queue false b is = cc

there-where : (a b : Bool) (c : Credentials) (queues : Queues) (who : Caller) (id : ℕ) (asked : Send) (queue : Option (Object Queue))
    → outcome_of (if a then (if b then decision c (send_found queues who id asked queue) else Refused TextTooLong) else Refused BadType) ≡ None → IsSome queue
there-where a b c queues who id asked None is = absurd (no-queue a b is)
there-where a b c queues who id asked (Some queue) is = refl

-- a semop that waits has its set, with the semaphores that it names
no-set : (a b : Bool) → outcome_of {X = Sems} (if a then (if b then Refused BadId else Refused TooManyOperations) else Refused NoOperations) ≡ None → ⊥
no-set true true is = cc
no-set true false is = cc
no-set false b is = cc

module _ (c : Credentials) (sems : Sems) (who : Caller) (id : ℕ) (ops : List SemOper) where
  abbrev tests : Bool → Bool → Option (Object SemSet) → Decision Sems
  tests a b set = if a then (if b then decision c (operate_found sems who id ops set) else Refused TooManyOperations) else Refused NoOperations

  set-there : (a b : Bool) (set : Option (Object SemSet)) → outcome_of (tests a b set) ≡ None → IsSome set
  set-there a b None is = absurd (no-set a b is)
  set-there a b (Some set) is = refl

  denied-or : (o : Option Rule) (inside : Bool) (d : Decision Sems) → outcome_of (unless o (if inside then d else Refused SemOutOfSet)) ≡ None → inside ≡ true
  denied-or (Some rule) inside d is = cc
  denied-or None true d is = refl
  denied-or None false d is = cc

  numbers-in : (a b : Bool) (set : Option (Object SemSet)) → outcome_of (tests a b set) ≡ None → IfSome set (λ s. are_in s.contents.semaphores ops ≡ true)
  numbers-in a b None is = tt
  numbers-in true true (Some set) is = denied-or (denial c (Permission set.perm (wanted_by ops))) (are_in set.contents.semaphores ops) _ is
  numbers-in true false (Some set) is = cc
  numbers-in false b (Some set) is = cc

pub operator-there : (s : State) (client : ℕ) (call : Call) → outcome_of (decide s client call) ≡ None → MayReserve s.sems call
unfolding part_plan
operator-there s client (SemOp id ops) waits =
    let c = creds_at s client in
    let who = caller s client in
    let is = sym (outcome-on c (put_sems s) (operate s.limits s.sems who id ops)) ∙ waits in (
      set-there c s.sems who id ops (nat_lt 0 (length ops)) (nat_le (length ops) s.limits.sem_opm) (set_at s.sems id) is,
      numbers-in c s.sems who id ops (nat_lt 0 (length ops)) (nat_le (length ops) s.limits.sem_opm) (set_at s.sems id) is,
    )
operator-there s client call waits = tt

-- a call that waits to send has its queue
pub sender-there : (s : State) (client : ℕ) (call : Call) (id : ℕ) → outcome_of (decide s client call) ≡ None → is_send_to id call ≡ true → IsSome (queue_at s.queues id)
unfolding part_plan
sender-there s client (MsgSnd other mtype text flags) id waits sends =
    let c = creds_at s client in
    let who = caller s client in
    let asked : Send = record { message = record { mtype = mtype; text = text }; flags = flags } in
    let p = send_message s.limits s.queues who other asked in
    ap (λ n. is_some (queue_at s.queues n)) (eqb-true id other sends)
    ∙ there-where (int_le (pos 1) mtype) (nat_le (length text) s.limits.msg_max) c s.queues who other asked (queue_at s.queues other)
    (sym (outcome-on c (put_in s) p) ∙ waits)
sender-there s client call id waits sends = absurd (false≢true sends)
