use Rattle.std.proofs.Common.{◌≡◌, ◌∙◌, ◌++◌, ℕ, false, drop, get_or, length, take, List, map, refl, sym, ap, subst, Some, Ok}
use Rattle.std.specs.List.{AllByRecursion, find, list_any}
use Rattle.std.specs.Option.{option_map}
use Rattle.std.proofs.lemmas.List.{length-map}
use Rattle.ipc_call.specs.declared.calls.Call.TheVariants.{Kill}
use Rattle.ipc_call.specs.declared.replies.Answer.{Answer}
use Rattle.ipc_call.specs.declared.replies.Answer.TheVariants.{Done}
use Rattle.ipc_call.specs.declared.replies.Waiting.{Waiting}
use Rattle.ipc_call.specs.declared.rules.Rule.TheVariants.{NoProcess}
use Rattle.ipc_model.specs.Decide.{decide_alive as decide, part_plan}
use Rattle.ipc_model.specs.Decision.{Decision, without_answer}
use Rattle.ipc_model.specs.Plan.{Grant, decision, found, in_order}
use Rattle.ipc_model.specs.Processes.{all_ended, as_process, ends, process_ended, to_signal}
use Rattle.ipc_model.specs.State.{State, Thread, caller, creds_at, has_pid, no_thread, runs}
use Rattle.ipc_model.proofs.Plans.{Ends-decision, Ends-order, IfGranted}
use Rattle.ipc_parked.specs.Parked.{waiting}
use Rattle.process_table.specs.Table.{Table}
use Rattle.msg_calls.specs.WithRoom.{queues_of}
use Rattle.sem_calls.specs.WithRows.{sems_of}
use Rattle.ipc_namespace.specs.Namespace.{AreHeld, cancelled_as, ended_as, kept_by}
use Rattle.ipc_namespace.specs.declared.cancelling.Cancelling.TheVariants as cancellings
use Rattle.ipc_namespace.proofs.Held.{held-alive, held-ended}
use Rattle.ipc_namespace.proofs.Killing.{ended-when, ends-numbers, kept-others, kill-rules, none-running, rules-alike}
use Rattle.ipc_namespace.proofs.Moving.{granted-ended, granted-outcome, granted-state}
use Rattle.ipc_namespace.proofs.namespace.Namespace.kill.Goals as goal
use Rattle.ipc_namespace.proofs.namespace.Namespace.kill.Goals.{After-thread_of-thread}

-- what is left of the state
abbrev killed : State → ℕ → Thread → State
killed s client t = process_ended (all_ended s t.process) (as_process (caller s client) t)

abbrev its : State → ℕ → List Waiting
its s target = kept_by (cancelled_as s (cancellings.Ended target)) s.parked

decides : (s : State) (client pid : ℕ) (t : Thread) → find (has_pid pid) s.threads ≡ Some t
    → decide s client (Kill pid) ≡ decision (creds_at s client) (in_order (to_signal s (caller s client) pid) (Grant Done (killed s client t)))
unfolding part_plan
decides s client pid t is = ap (λ o. decision (creds_at s client) (found o NoProcess tt (λ x. in_order (to_signal s (caller s client) pid) (Grant Done (killed s client x))))) is

leaves : (s : State) (client pid : ℕ) (t : Thread) → find (has_pid pid) s.threads ≡ Some t → IfGranted (λ answer x. x ≡ killed s client t) (decide s client (Kill pid))
leaves s client pid t is =
    subst (λ (d : Decision State). IfGranted (λ (answer : Answer) (x : State). x ≡ killed s client t) d) (sym (decides s client pid t is))
    (Ends-decision (creds_at s client) (λ answer x. x ≡ killed s client t) (in_order (to_signal s (caller s client) pid) (Grant Done (killed s client t))) (Ends-order _ (to_signal s (caller s client) pid) _ refl))

-- a thread that has ended is of the process and the pid that it was of
ended-as : (s : State) (client target : ℕ) → as_process (caller s client) (get_or (map (ends (get_or s.threads target no_thread).process) s.threads) target no_thread)
    ≡ as_process (caller s client) (get_or s.threads target no_thread)
ended-as s client target = λ i. record (caller s client) {
  process = (ends-numbers (get_or s.threads target no_thread).process s.threads target).0 i;
  pid = (ends-numbers (get_or s.threads target no_thread).process s.threads target).1 i;
}

done : (s : State) (client pid : ℕ) (t : Thread) → find (has_pid pid) s.threads ≡ Some t → IfGranted (λ answer x. answer ≡ Done) (decide s client (Kill pid))
done s client pid t is =
    subst (λ (d : Decision State). IfGranted (λ (answer : Answer) (x : State). answer ≡ Done) d) (sym (decides s client pid t is))
    (Ends-decision (creds_at s client) (λ answer x. answer ≡ Done) (in_order (to_signal s (caller s client) pid) (Grant Done (killed s client t))) (Ends-order _ (to_signal s (caller s client) pid) _ refl))

module _ (c : After-thread_of-thread) where
  abbrev s : State
  s = c.args.self.now

  -- the thread that was found, and the same one when it has ended
  abbrev t : Thread
  t = get_or s.threads c.in-Some.target no_thread

  tables : c.self.inside.processes.threads ≡ s.threads
  tables = ap (λ (x : State). x.threads) c.self.view_is

  there : find (has_pid c.args.pid) s.threads ≡ Some t
  there = ap (λ (ts : List Thread). find (has_pid c.args.pid) ts) (sym tables)
      ∙ sym c.with_pid.ensures.first ∙ ap (λ o. option_map (λ k. get_or c.self.inside.processes.threads k no_thread) o) c.in-Some.is
      ∙ ap (λ (ts : List Thread). Some (get_or ts c.in-Some.target no_thread)) tables

  granted : without_answer (decide s c.args.client (Kill c.args.pid)) ≡ Some (Ok tt)
  granted = ap (λ (d : Decision State). without_answer d) (decides s c.args.client c.args.pid t there) ∙ c.may_signal.ensures (killed s c.args.client t) ∙ ap (λ r. Some r) c.in_ok-may_signal.was

  -- the state when the calls have ended
  abbrev now : State
  now = record {
    limits = c.self-2.inside.limits;
    clients = c.self-2.inside.clients.items;
    threads = c.self-2.inside.processes.threads;
    next = c.self-2.inside.processes.next;
    clock = c.self-2.inside.clock;
    queues = queues_of c.self-2.inside.queues;
    sems = sems_of c.self-2.inside.sets;
    shared = c.self-2.inside.segments;
    parked = waiting c.self-2.inside.parked;
  }

  at : now ≡ record s { parked = its s c.in-Some.target }
  at = c.self-2.view_is ∙ c.cancel.ensures.state

  threads : c.self-2.inside.processes.threads ≡ s.threads
  threads = ap (λ (x : State). x.threads) at

  left : waiting c.self-2.inside.parked ≡ its s c.in-Some.target
  left = ap (λ (x : State). x.parked) at

  is : c.end_all.new.self.threads ≡ map (ends t.process) c.self-2.inside.processes.threads
  is = ap (λ (x : Table). x.threads) c.end_all.ensures
      ∙ ap (λ (ts : List Thread). map (ends (get_or ts c.in-Some.target no_thread).process) c.self-2.inside.processes.threads) threads

  next : c.end_all.new.self.next ≡ s.next
  next = ap (λ (x : Table). x.next) c.end_all.ensures ∙ ap (λ (x : State). x.next) at

  -- what has ended is of the process and the pid that it was of
  same : as_process (caller s c.args.client) c.thread_of-thread.result ≡ as_process (caller s c.args.client) t
  same =
      let gone : c.thread_of-thread.result ≡ get_or (map (ends t.process) s.threads) c.in-Some.target no_thread =
      c.thread_of-thread.ensures ∙ ap (λ (ts : List Thread). get_or ts c.in-Some.target no_thread) (c.threads.ensures ∙ is ∙ ap (λ (ts : List Thread). map (ends t.process) ts) threads) in
      ap (as_process (caller s c.args.client)) gone ∙ ended-as s c.args.client c.in-Some.target

  apart : AllByRecursion (λ w. (get_or c.self-2.inside.processes.threads w.client no_thread).process ≡ t.process → ⊥) (waiting c.self-2.inside.parked)
  apart = subst (λ (ws : List Waiting). AllByRecursion (λ w. (get_or c.self-2.inside.processes.threads w.client no_thread).process ≡ t.process → ⊥) ws) (sym left)
      (subst (λ (ts : List Thread). AllByRecursion (λ w. (get_or ts w.client no_thread).process ≡ t.process → ⊥) (its s c.in-Some.target)) (sym threads) (kept-others s.threads t.process s.parked))

  alive : AllByRecursion (λ w. (get_or s.threads w.client no_thread).has_ended ≡ false) s.parked
  alive = subst (λ (x : State). AllByRecursion (λ w. (get_or x.threads w.client no_thread).has_ended ≡ false) x.parked) c.self.view_is
      (held-alive c.self.inside.sets c.self.inside.processes.threads (waiting c.self.inside.parked) c.self.invariant.3)

  alike : (its s c.in-Some.target ≡ kept_by (λ w. ended-when (get_or (map (ends t.process) s.threads) w.client no_thread).has_ended) s.parked)
      × (ended_as (cancelled_as s (cancellings.Ended c.in-Some.target)) s.parked ≡ ended_as (λ w. ended-when (get_or (map (ends t.process) s.threads) w.client no_thread).has_ended) s.parked)
  alike = rules-alike (cancelled_as s (cancellings.Ended c.in-Some.target)) (λ w. ended-when (get_or (map (ends t.process) s.threads) w.client no_thread).has_ended) s.parked (kill-rules s.threads t.process s.parked alive)

pub invariant_of-self : goal.invariant_of-self
invariant_of-self c =
    let b = (goal.at.invariant_of-self c).After-thread_of-thread in
    let n = c.self-2.inside in (
      (c.self-2.invariant.0.0, ap length (is b) ∙ length-map n.processes.threads (ends (t b).process) ∙ c.self-2.invariant.0.1),
      c.self-2.invariant.1,
      c.self-2.invariant.2,
      subst (λ (ts : List Thread). AreHeld n.sets ts (waiting n.parked)) (sym (is b)) (held-ended n.sets n.processes.threads (t b).process (waiting n.parked) (apart b) c.self-2.invariant.3),
    )

pub end_process-requires-clause-last : goal.end_process-requires-clause-last
end_process-requires-clause-last c =
    let b = (goal.at.end_process-requires-clause-last c).After-thread_of-thread in
    (λ i. list_any (runs (same b i).process) (is b i)) ∙ none-running c.self-2.inside.processes.threads (t b).process

pub returns-clause-outcome : goal.returns-clause-outcome
returns-clause-outcome c =
    let b = (goal.at.returns-clause-outcome c).After-thread_of-thread in
    granted-outcome c.args.self.now c.args.client (Kill c.args.pid) Done (granted b) (done c.args.self.now c.args.client c.args.pid (t b) (there b))

pub returns-clause-state : goal.returns-clause-state
returns-clause-state c =
    let b = (goal.at.returns-clause-state c).After-thread_of-thread in
    let s = c.args.self.now in
    let client = c.args.client in
    c.end_process.ensures
    ∙ (λ i. let x : State = record (at b i) { threads = (is b ∙ ap (λ (ts : List Thread). map (ends (t b).process) ts) (threads b)) i; next = next b i } in process_ended x (record (caller x client) { process = (same b i).process; pid = (same b i).pid }))
    ∙ ap (λ (ws : List Waiting). record (killed s client (t b)) { parked = ws }) (alike b).0
    ∙ granted-state s (killed s client (t b)) client (Kill c.args.pid) (granted b) (leaves s client c.args.pid (t b) (there b))

pub returns-clause-ended : goal.returns-clause-ended
returns-clause-ended c =
    let b = (goal.at.returns-clause-ended c).After-thread_of-thread in
    let s = c.args.self.now in
    c.cancel.ensures.ended
    ∙ ap (λ es. c.args.ended.now.items ++ es) ((alike b).1 ∙ granted-ended s (killed s c.args.client (t b)) c.args.client (Kill c.args.pid) (granted b) (leaves s c.args.client c.args.pid (t b) (there b)))
