-- The rights of a call that waits depend on permissions, credentials and limits alone, and no completion changes these.
use Rattle.std.proofs.Common.{◌≡◌, ℕ, Bool, true, false, List, [], ◌∷◌, ◌++◌, length, refl, sym, ap, subst, ◌∙◌, ⊎_elim, Option, Some, None}
use Rattle.std.specs.Prelude.{Ok, Err, ◌==◌, if◌then◌else◌, not, pos, int_le, nat_le, nat_lt, option_map, slice_index_or}
use Rattle.std.specs.List.{AllByRecursion}
use Rattle.std.specs.FinMap as finite
use Rattle.std.proofs.lemmas.Bool.{cases_eq, true≢false}
use Rattle.std.proofs.lemmas.Option.{none-some}
use Rattle.ipc_call.specs.declared.settings.Receive.{Receive}
use Rattle.ipc_call.specs.declared.calls.Call.{Call}
use Rattle.ipc_call.specs.declared.calls.Call.TheVariants.{Exec, Interrupt, InterruptThread, IpcRmid, IpcSet, Kill, MsgSnd, MsgRcv, SemOp, SemTimedOp}
use Rattle.ipc_call.specs.declared.calls.SemOper.{SemOper}
use Rattle.ipc_call.specs.declared.calls.Kind.{Kind}
use Rattle.ipc_call.specs.declared.calls.Kind.TheVariants as kinds
use Rattle.ipc_call.specs.declared.settings.Settings.{Settings}
use Rattle.ipc_call.specs.declared.limits.Limits.{Limits}
use Rattle.ipc_call.specs.declared.perms.Perm.{Perm}
use Rattle.ipc_call.specs.declared.replies.Answer.{Answer}
use Rattle.ipc_call.specs.declared.replies.Answer.TheVariants.{Done}
use Rattle.ipc_call.specs.declared.replies.Waiting.{Waiting}
use Rattle.ipc_call.specs.declared.rules.Rule.{Rule}
use Rattle.ipc_call.specs.declared.rules.Rule.TheVariants.{BadId, BadType, Ended, Interrupted, NoOperations, Removed, TextTooLong, TooManyOperations}
use Rattle.ipc_creds.specs.Credentials.{Credentials}
use Rattle.ipc_perm.specs.declared.access.Want.{Want}
use Rattle.ipc_perm.specs.Access.{Need, Permission, Resource, denial, to_alter, to_read}
use Rattle.ipc_ids.specs.Table.{Table}
use Rattle.ipc_ids.proofs.Sound.{get-insert-other, get-insert-same}
use Rattle.ipc_objects.specs.declared.object.Object.{Object}
use Rattle.ipc_objects.specs.Objects.{with_contents, with_perm}
use Rattle.msg_queue.specs.declared.messages.Message.{Message}
use Rattle.sem_set.specs.Trials.{committed}
use Rattle.sem_undo.specs.Entries.{Entries, adj_of}
use Rattle.ipc_model.specs.State.{Caller, Queue, SemSet, Sems, State, Thread, caller, creds_at, has_exited, no_thread, nobody, pid_at, process_at}
use Rattle.ipc_model.specs.Decision.{Outcome, outcome_of, proceeds}
use Rattle.ipc_model.specs.Decision as decisions
use Rattle.ipc_model.specs.Plan.{Check, IsPlain, Needs, Passes, Plan, Proceeds, Refuse, Grant, checks_in, decision, in_order, needs_among, needs_in, unless, is_denial, on_part, ◌⨾◌}
use Rattle.ipc_model.specs.Cancelled.{cancelled, first_denial, or_later, waits_on}
use Rattle.ipc_model.specs.Controls.{is_within, perm_in, perm_of, with_set}
use Rattle.ipc_model.specs.Messages.{chosen, queue_at, receive_found, receive_message, send_found, send_message, take_chosen, with_message, without_message, Send}
use Rattle.ipc_model.specs.Semaphores.{lowered, operate, operate_found, operated, set_at, trial_checks, wanted_by}
use Rattle.ipc_model.specs.Decide.{can_wait, decide, decide_call, is_late, needs, part_plan, plan}
use Rattle.ipc_model.proofs.Late.{late-granted}
use Rattle.ipc_model.proofs.Needs.{needs_for, taken-needs, tried-needs}
use Rattle.ipc_model.proofs.Plans.{Ends, Ends-decision, Ends-found, Ends-on, Ends-order, IfGranted, needs-on}
use Rattle.ipc_history.specs.Access.{AreMet, IsByRights, IsDenied, does_pass}
use Rattle.ipc_history.proofs.Access.{denied, met, other-rule, refused, refusal, served}

-- checks that need nothing and wait for nothing
abbrev are_plain : List Check → Bool
are_plain [] = true
are_plain (Passes passes rule plain ∷ cs) = are_plain cs
are_plain (check ∷ cs) = false

module _ {X : Type 0} (rest : Plan X) where
  needs-plain : (cs : List Check) → are_plain cs ≡ true → needs_in (in_order cs rest) ≡ needs_in rest
  needs-plain [] plain = refl
  needs-plain (Passes passes rule p ∷ cs) plain = needs-plain cs plain
  needs-plain (Needs need ∷ cs) plain = absurd (true≢false (sym plain))
  needs-plain (Proceeds goes flags rule p ∷ cs) plain = absurd (true≢false (sym plain))

  checks-order : (cs : List Check) → checks_in (in_order cs rest) ≡ cs ++ checks_in rest
  checks-order [] = refl
  checks-order (check ∷ cs) = ap (λ later. check ∷ later) (checks-order cs)

  module _ (c : Credentials) where
    -- a call that has to wait passes them, whoever makes it
    passed-waits : (d : Credentials) (cs : List Check) → are_plain cs ≡ true → proceeds (decision c (in_order cs rest)) ≡ false → AllByRecursion (λ check. does_pass d check ≡ true) cs
    passed-waits d [] plain waits = tt
    passed-waits d (Passes true rule p ∷ cs) plain waits = (refl, passed-waits d cs plain waits)
    passed-waits d (Passes false rule p ∷ cs) plain waits = absurd (true≢false waits)
    passed-waits d (Needs need ∷ cs) plain waits = absurd (true≢false (sym plain))
    passed-waits d (Proceeds goes flags rule p ∷ cs) plain waits = absurd (true≢false (sym plain))

    -- and so does one that is denied
    passed-denied : (rule : Rule) → is_denial rule ≡ true → (cs : List Check) → are_plain cs ≡ true → refusal (decision c (in_order cs rest)) ≡ Some rule
        → AllByRecursion (λ check. does_pass c check ≡ true) cs × (refusal (decision c rest) ≡ Some rule)
    passed-denied rule denies [] plain is = (tt, is)
    passed-denied rule denies (Passes true r p ∷ cs) plain is = let later = passed-denied rule denies cs plain is in ((refl, later.0), later.1)
    passed-denied rule denies (Passes false r p ∷ cs) plain is = absurd (other-rule r rule p denies is)
    passed-denied rule denies (Needs need ∷ cs) plain is = absurd (true≢false (sym plain))
    passed-denied rule denies (Proceeds goes flags r p ∷ cs) plain is = absurd (true≢false (sym plain))

-- where there is no need, none fails
module _ (need : Need) (after : List Check) where
  needs-there : (before : List Check) → needs_among (before ++ Needs need ∷ after) ≡ [] → ⊥
  needs-there [] none = cc
  needs-there (Passes passes rule p ∷ before) none = needs-there before none
  needs-there (Needs other ∷ before) none = cc
  needs-there (Proceeds goes flags rule p ∷ before) none = needs-there before none

never-denied : {X : Type 0} (c : Credentials) (p : Plan X) (rule : Rule) → needs_in p ≡ [] → is_denial rule ≡ true → refusal (decision c p) ≡ Some rule → ⊥
never-denied c p rule none denies is = let d = denied c p rule denies is in needs-there d.need d.after d.before (ap needs_among (sym d.split) ∙ none)

-- all on which the rights of a call that waits depend: limits, credentials, who has ended, and permissions
pub record Rights : Type 0 where
  pub limits : Limits
  pub clients : List Credentials
  pub threads : List Thread
  pub queues : ℕ → Option Perm
  pub sets : ℕ → Option Perm

abbrev pub rights_of : State → Rights
rights_of s = record { limits = s.limits; clients = s.clients; threads = s.threads; queues = λ id. perm_in s.queues id; sets = λ id. perm_in s.sems.sets id }

abbrev creds_in : Rights → ℕ → Credentials
creds_in r client = slice_index_or r.clients client nobody

-- of a call that may wait: its checks before the object is looked for, the permissions of the object, and the right that it needs
abbrev alive : List Thread → ℕ → Check
alive threads client = Passes (not (slice_index_or threads client no_thread).has_ended) Ended tt

abbrev before : Limits → List Thread → ℕ → Call → List Check
before limits ended client (MsgSnd id mtype text flags) = alive ended client ∷ Passes (int_le (pos 1) mtype) BadType tt ∷ Passes (nat_le (length text) limits.msg_max) TextTooLong tt ∷ []
before limits ended client (MsgRcv id size msgtyp flags) = alive ended client ∷ []
before limits ended client (SemOp id ops) = alive ended client ∷ Passes (nat_lt 0 (length ops)) NoOperations tt ∷ Passes (nat_le (length ops) limits.sem_opm) TooManyOperations tt ∷ []
before limits ended client (SemTimedOp id ops timeout) = alive ended client ∷ Passes (nat_lt 0 (length ops)) NoOperations tt ∷ Passes (nat_le (length ops) limits.sem_opm) TooManyOperations tt ∷ []
before limits ended client call = []

abbrev perm_for : Rights → Call → Option Perm
perm_for r (MsgSnd id mtype text flags) = r.queues id
perm_for r (MsgRcv id size msgtyp flags) = r.queues id
perm_for r (SemOp id ops) = r.sets id
perm_for r (SemTimedOp id ops timeout) = r.sets id
perm_for r call = None

abbrev want_of : Call → Want
want_of (MsgSnd id mtype text flags) = to_alter
want_of (SemOp id ops) = wanted_by ops
want_of (SemTimedOp id ops timeout) = wanted_by ops
want_of call = to_read

-- then the object is there or the call is refused, and the right is needed, and nothing more
abbrev AsksFor : Want → Option Perm → Plan State → Type 0
AsksFor want None rest = rest ≡ Refuse BadId tt
AsksFor want (Some perm) rest = (later : Plan State) × (rest ≡ Needs (Permission perm want) ⨾ later) × (needs_in later ≡ [])

record Shape (s : State) (client : ℕ) (call : Call) : Type 0 where
  pub rest : Plan State
  pub plain : are_plain (before s.limits s.threads client call) ≡ true
  pub is : plan s client call ≡ in_order (before s.limits s.threads client call) rest
  pub asks : AsksFor (want_of call) (perm_for (rights_of s) call) rest

module _ (s : State) (who : Caller) (id : ℕ) where
  sends : (asked : Send) (queue : Option (Object Queue)) → AsksFor to_alter (option_map (λ q. q.perm) queue) (on_part (λ queues. record s { queues = queues }) (send_found s.queues who id asked queue))
  sends asked None = refl
  sends asked (Some queue) = (_, refl, refl)

  receives : (asked : Receive) (queue : Option (Object Queue)) → AsksFor to_read (option_map (λ q. q.perm) queue) (on_part (λ queues. record s { queues = queues }) (receive_found s.queues who id asked queue))
  receives asked None = refl
  receives asked (Some queue) =
      let taken = chosen queue.contents.messages asked in
      (_, refl, needs-on (λ queues. record s { queues = queues }) (on_part (with_contents s.queues id) (take_chosen who asked queue.contents taken)) ∙ taken-needs s.queues who id asked queue.contents taken)

  operates : (ops : List SemOper) (set : Option (Object SemSet)) → AsksFor (wanted_by ops) (option_map (λ o. o.perm) set) (on_part (λ sems. record s { sems = sems }) (operate_found s.sems who id ops set))
  operates ops None = refl
  operates ops (Some set) =
      let tried = in_order (trial_checks set.contents.semaphores (adj_of s.sems.undo who.process id) [] ops) (Grant Done (operated s.sems who id ops set.contents)) in
      (_, refl, needs-on (λ sems. record s { sems = sems }) tried ∙ tried-needs set.contents.semaphores (adj_of s.sems.undo who.process id) [] ops (Grant Done (operated s.sems who id ops set.contents)))

shape : (s : State) (client : ℕ) (call : Call) → can_wait call ≡ true → Shape s client call
unfolding part_plan
shape s client (MsgSnd id mtype text flags) can =
    let who = caller s client in
    let asked : Send = record { message = record { mtype = mtype; text = text }; flags = flags } in
    record { rest = on_part (λ queues. record s { queues = queues }) (send_found s.queues who id asked (queue_at s.queues id)); plain = refl; is = refl; asks = sends s who id asked (queue_at s.queues id) }
shape s client (MsgRcv id size msgtyp flags) can =
    let asked : Receive = record { size = size; msgtyp = msgtyp; flags = flags } in
    let who = caller s client in
    record { rest = on_part (λ queues. record s { queues = queues }) (receive_found s.queues who id asked (queue_at s.queues id)); plain = refl; is = refl; asks = receives s who id asked (queue_at s.queues id) }
shape s client (SemOp id ops) can =
    let who = caller s client in
    record { rest = on_part (λ sems. record s { sems = sems }) (operate_found s.sems who id ops (set_at s.sems id)); plain = refl; is = refl; asks = operates s who id ops (set_at s.sems id) }
shape s client (SemTimedOp id ops timeout) can =
    let who = caller s client in
    record { rest = on_part (λ sems. record s { sems = sems }) (operate_found s.sems who id ops (set_at s.sems id)); plain = refl; is = refl; asks = operates s who id ops (set_at s.sems id) }
shape s client call can = absurd (true≢false (sym can))

asks-needs : (want : Want) (o : Option Perm) (rest : Plan State) → AsksFor want o rest → needs_in rest ≡ needs_for want o
asks-needs want None rest asks = ap (λ p. needs_in p) asks
asks-needs want (Some perm) rest asks = ap (λ p. needs_in p) asks.1 ∙ ap (λ ns. Permission perm want ∷ ns) asks.2

-- what it needs
needs-by : (s : State) (client : ℕ) (call : Call) → can_wait call ≡ true → needs s client call ≡ needs_for (want_of call) (perm_for (rights_of s) call)
needs-by s client call can =
    let of = shape s client call can in
    ap (λ p. needs_in p) of.is ∙ needs-plain of.rest (before s.limits s.threads client call) of.plain ∙ asks-needs (want_of call) (perm_for (rights_of s) call) of.rest of.asks

-- the right is lacking: every check before it passes, and it is denied by the rule
pub record Lacks (r : Rights) (client : ℕ) (call : Call) (rule : Rule) : Type 0 where
  pub perm : Perm
  pub there : perm_for r call ≡ Some perm
  pub passed : AllByRecursion (λ check. does_pass (creds_in r client) check ≡ true) (before r.limits r.threads client call)
  pub fails : denial (creds_in r client) (Permission perm (want_of call)) ≡ Some rule

module _ (s : State) (client : ℕ) (call : Call) (rule : Rule) (can : can_wait call ≡ true) where
  -- so the call is denied
  lacks-denied : Lacks (rights_of s) client call rule → IsDenied (creds_at s client) (checks_in (plan s client call)) rule
  lacks-denied lacks =
      let of = shape s client call can in
      let first = before s.limits s.threads client call in
      let asks : AsksFor (want_of call) (Some lacks.perm) of.rest = subst (λ o. AsksFor (want_of call) o of.rest) lacks.there of.asks in
      record {
        before = first;
        need = Permission lacks.perm (want_of call);
        after = checks_in asks.0;
        split = ap (λ p. checks_in p) of.is ∙ checks-order of.rest first ∙ ap (λ p. first ++ checks_in p) asks.1;
        passed = lacks.passed;
        fails = lacks.fails;
      }

  denied-need : (perm : Perm) (later : Plan State) (o : Option Rule) → o ≡ denial (creds_at s client) (Permission perm (want_of call)) → needs_in later ≡ [] → is_denial rule ≡ true → refusal (unless o (decision (creds_at s client) later)) ≡ Some rule
      → denial (creds_at s client) (Permission perm (want_of call)) ≡ Some rule
  denied-need perm later None same none denies is = absurd (never-denied (creds_at s client) later rule none denies is)
  denied-need perm later (Some r) same none denies is = sym same ∙ is

  -- and one that is denied lacks it
  refused-lacks : is_denial rule ≡ true → refusal (decide s client call) ≡ Some rule → Lacks (rights_of s) client call rule
  refused-lacks denies is = by (perm_for (rights_of s) call) refl of.asks
    where
      of : Shape s client call
      of = shape s client call can

      parts : AllByRecursion (λ check. does_pass (creds_at s client) check ≡ true) (before s.limits s.threads client call) × (refusal (decision (creds_at s client) of.rest) ≡ Some rule)
      parts = passed-denied of.rest (creds_at s client) rule denies (before s.limits s.threads client call) of.plain (ap (λ p. refusal (decision (creds_at s client) p)) (sym of.is) ∙ is)

      by : (o : Option Perm) → perm_for (rights_of s) call ≡ o → AsksFor (want_of call) o of.rest → Lacks (rights_of s) client call rule
      by None there asks = absurd (other-rule BadId rule tt denies (ap (λ p. refusal (decision (creds_at s client) p)) (sym asks) ∙ parts.1))
      by (Some perm) there asks = record {
        perm = perm;
        there = there;
        passed = parts.0;
        fails = denied-need perm asks.0 (denial (creds_at s client) (Permission perm (want_of call))) refl asks.2 denies (ap (λ p. refusal (decision (creds_at s client) p)) (sym asks.1) ∙ parts.1);
      }

  -- a call that waited, and whose need fails where the limits are the same and nobody has ended since
  pub waited-denied : (old : State) → old.limits ≡ s.limits → old.threads ≡ s.threads → proceeds (decide old client call) ≡ false → first_denial (creds_at s client) (needs s client call) ≡ Some rule
      → Lacks (rights_of s) client call rule
  waited-denied old limits ended waits first =
      by (perm_for (rights_of s) call) refl (ap (λ ns. first_denial (creds_at s client) ns) (sym (needs-by s client call can)) ∙ first)
    where
      of : Shape old client call
      of = shape old client call can

      passes : AllByRecursion (λ check. does_pass (creds_at s client) check ≡ true) (before s.limits s.threads client call)
      passes = subst (λ cs. AllByRecursion (λ check. does_pass (creds_at s client) check ≡ true) cs) (λ i. before (limits i) (ended i) client call)
          (passed-waits of.rest (creds_at old client) (creds_at s client) (before old.limits old.threads client call) of.plain (ap (λ p. proceeds (decision (creds_at old client) p)) (sym of.is) ∙ waits))

      fails-first : (o : Option Rule) → or_later o None ≡ Some rule → o ≡ Some rule
      fails-first None is = is
      fails-first (Some r) is = is

      by : (o : Option Perm) → perm_for (rights_of s) call ≡ o → first_denial (creds_at s client) (needs_for (want_of call) o) ≡ Some rule → Lacks (rights_of s) client call rule
      by None there is = absurd (none-some rule is)
      by (Some perm) there is = record { perm = perm; there = there; passed = passes; fails = fails-first (denial (creds_at s client) (Permission perm (want_of call))) is }

-- what is decided in a state with the same rights ends a call by its rights
module _ (s final : State) (same : rights_of s ≡ rights_of final) (w : Waiting) (can : can_wait w.call ≡ true) where
  pub lacked-there : (rule : Rule) → Lacks (rights_of s) w.client w.call rule → IsDenied (creds_at final w.client) (checks_in (plan final w.client w.call)) rule
  lacked-there rule lacks = lacks-denied final w.client w.call rule can (subst (λ r. Lacks r w.client w.call rule) same lacks)

  met-there : AreMet (creds_at s w.client) (needs s w.client w.call) → AreMet (creds_at final w.client) (needs final w.client w.call)
  met-there are =
      subst (AreMet (creds_at final w.client)) (sym (needs-by final w.client w.call can))
      (subst (λ r. AreMet (creds_in r w.client) (needs_for (want_of w.call) (perm_for r w.call))) same (subst (AreMet (creds_at s w.client)) (needs-by s w.client w.call can) are))

  pub decided-there : (outcome : Outcome) → outcome_of (decide s w.client w.call) ≡ Some outcome → IsByRights final w outcome
  decided-there (Ok answer) is = met-there (met (creds_at s w.client) (plan s w.client w.call) (served (decide s w.client w.call) answer is))
  decided-there (Err rule) is = λ denies. lacked-there rule (refused-lacks s w.client w.call rule can denies (refused (decide s w.client w.call) rule is))

-- new contents have no other permissions
contents-perm : {X : Type 0} (t : Table (Object X)) (id : ℕ) (x : X) (j : ℕ) → perm_in (with_contents t id x) j ≡ perm_in t j
contents-perm {X} t id x j = by (finite.get t.objects id) refl
  where
    by : (o : Option (Object X)) → finite.get t.objects id ≡ o → perm_in (with_perm t id (λ object. record object { contents = x }) o) j ≡ perm_in t j
    by None is = refl
    by (Some object) is = ⊎_elim
        (λ (here : j ≡ id).
        ap (λ n. perm_in (with_perm t id (λ object. record object { contents = x }) (Some object)) n) here ∙ ap (option_map (λ (o : Object X). o.perm)) (get-insert-same t.objects id (record object { contents = x })) ∙ sym (ap (option_map (λ (o : Object X). o.perm)) is) ∙ ap (perm_in t) (sym here))
        (λ (other : j ≡ id → ⊥). ap (option_map (λ (o : Object X). o.perm)) (get-insert-other t.objects id (record object { contents = x }) j other))
        (cases_eq j id)

abbrev KeepsRights : State → Answer → State → Type 0
KeepsRights s answer new = rights_of new ≡ rights_of s

module _ (s : State) where
  queue-kept : (id : ℕ) (x : Queue) → rights_of (record s { queues = with_contents s.queues id x }) ≡ rights_of s
  queue-kept id x = λ i. record (rights_of s) { queues = λ j. contents-perm s.queues id x j i }

  set-kept : (id : ℕ) (x : SemSet) (undo : Entries) → rights_of (record s { sems = record { sets = with_contents s.sems.sets id x; undo = undo } }) ≡ rights_of s
  set-kept id x undo = λ i. record (rights_of s) { sets = λ j. contents-perm s.sems.sets id x j i }

  taken-kept : (who : Caller) (id : ℕ) (asked : Receive) (queue : Queue) (taken : Option (ℕ × Message)) → Ends (λ answer queues. KeepsRights s answer (record s { queues = queues })) (on_part (with_contents s.queues id) (take_chosen who asked queue taken))
  taken-kept who id asked queue None = tt
  taken-kept who id asked queue (Some taken) = queue-kept id (without_message who taken.0 queue)

  operated-kept : (client id : ℕ) (ops : List SemOper) → Ends (KeepsRights s) (on_part (λ sems. record s { sems = sems }) (operate s.limits s.sems (caller s client) id ops))
  operated-kept client id ops =
      let who = caller s client in
      let keeps : Answer → Sems → Type 0 = λ answer sems. KeepsRights s answer (record s { sems = sems }) in
      Ends-on (λ sems. record s { sems = sems }) (KeepsRights s) (operate s.limits s.sems who id ops)
      (Ends-found keeps (set_at s.sems id) BadId tt _ (λ (set : Object SemSet) is.
      Ends-order keeps (trial_checks set.contents.semaphores (adj_of s.sems.undo (process_at s client) id) [] ops) (Grant Done (operated s.sems who id ops set.contents)) (set-kept id (record { semaphores = committed ops (pid_at s client) set.contents.semaphores; op_time = s.clock }) (lowered s.sems.undo (process_at s client) id ops))))

kept-plan : (s : State) (client : ℕ) (call : Call) → can_wait call ≡ true → Ends (KeepsRights s) (plan s client call)
unfolding part_plan
kept-plan s client (MsgSnd id mtype text flags) can =
    let who = caller s client in
    let asked : Send = record { message = record { mtype = mtype; text = text }; flags = flags } in
    Ends-on (λ queues. record s { queues = queues }) (KeepsRights s) (send_message s.limits s.queues who id asked)
    (Ends-found (λ answer queues. KeepsRights s answer (record s { queues = queues })) (queue_at s.queues id) BadId tt _ (λ (queue : Object Queue) is. queue-kept s id (with_message who asked.message queue.contents)))
kept-plan s client (MsgRcv id size msgtyp flags) can =
    let asked : Receive = record { size = size; msgtyp = msgtyp; flags = flags } in
    let who = caller s client in
    Ends-on (λ queues. record s { queues = queues }) (KeepsRights s) (receive_message s.queues who id asked)
    (Ends-found (λ answer queues. KeepsRights s answer (record s { queues = queues })) (queue_at s.queues id) BadId tt _ (λ (queue : Object Queue) is.
    taken-kept s who id asked queue.contents (chosen queue.contents.messages asked)))
kept-plan s client (SemOp id ops) can = operated-kept s client id ops
kept-plan s client (SemTimedOp id ops timeout) can = operated-kept s client id ops
kept-plan s client call can = absurd (true≢false (sym can))

-- a call that may wait changes no rights
pub rights-kept : (s : State) (client : ℕ) (call : Call) → can_wait call ≡ true → IfGranted (KeepsRights s) (decide s client call)
rights-kept s client call can = Ends-decision (creds_at s client) (KeepsRights s) (plan s client call) (kept-plan s client call can)

-- IPC_SET changes no limit, and it ends no client
abbrev KeepsLimits : State → Answer → State → Type 0
KeepsLimits s answer new = (new.limits ≡ s.limits) × (new.threads ≡ s.threads)

limits-set : (s : State) (kind : Kind) (id : ℕ) (new : Settings) → KeepsLimits s Done (with_set s kind id new)
limits-set s kinds.Queue id new = (refl, refl)
limits-set s kinds.Sems id new = (refl, refl)
limits-set s kinds.Segment id new = (refl, refl)

limits-plan : (s : State) (client : ℕ) (kind : Kind) (id uid gid mode : ℕ) (qbytes : Option ℕ) → Ends (KeepsLimits s) (plan s client (IpcSet kind id uid gid mode qbytes))
unfolding part_plan
limits-plan s client kind id uid gid mode qbytes =
    let new : Settings = record { uid = uid; gid = gid; mode = mode; qbytes = qbytes } in
    Ends-found (KeepsLimits s) (perm_of s kind id) BadId tt _ (λ perm is. Ends-order (KeepsLimits s) (if is_within s qbytes then [] else Needs Resource ∷ []) (Grant Done (with_set s kind id new)) (limits-set s kind id new))

-- a waiting call that a grant cancels by a denial lacks its right as the grant leaves it: only IPC_SET denies
module _ (s new : State) (client : ℕ) (answer : Answer) (w : Waiting) (can : can_wait w.call ≡ true) (waits : proceeds (decide s w.client w.call) ≡ false) (rule : Rule) (denies : is_denial rule ≡ true) where
  told-plain : (b : Bool) (r : Rule) → IsPlain r → (if b then Some r else None) ≡ Some rule → ⊥
  told-plain true r plain is = other-rule r rule plain denies is
  told-plain false r plain is = none-some rule is

  told-first : (b : Bool) (o : Option Rule) → (if b then o else None) ≡ Some rule → o ≡ Some rule
  told-first true o is = is
  told-first false o is = absurd (none-some rule is)

  pub cancelled-lacks : (call : Call) → decide_call s client call ≡ decisions.Granted answer new → cancelled new call w ≡ Some rule → Lacks (rights_of new) w.client w.call rule
  cancelled-lacks (IpcSet kind id uid gid mode qbytes) granted is =
      let call = IpcSet kind id uid gid mode qbytes in
      let kept : KeepsLimits s answer new = subst (IfGranted (KeepsLimits s)) granted (late-granted (KeepsLimits s) (is_late s call) (decide s client call)
      (Ends-decision (creds_at s client) (KeepsLimits s) (plan s client call) (limits-plan s client kind id uid gid mode qbytes))) in
      waited-denied new w.client w.call rule can s (sym kept.0) (sym kept.1) waits (told-first (waits_on kind id w.call) (first_denial (creds_at new w.client) (needs new w.client w.call)) is)
  cancelled-lacks (IpcRmid kind id) granted is = absurd (told-plain (waits_on kind id w.call) Removed tt is)
  cancelled-lacks (Interrupt pid) granted is = absurd (told-plain (pid == pid_at new w.client) Interrupted tt is)
  cancelled-lacks (InterruptThread client) granted is = absurd (told-plain (client == w.client) Interrupted tt is)
  cancelled-lacks Exec granted is = absurd (told-plain (has_exited new w.client) Ended tt is)
  cancelled-lacks (Kill pid) granted is = absurd (told-plain (has_exited new w.client) Ended tt is)
  cancelled-lacks call granted is = absurd (none-some rule is)
