use Rattle.std.proofs.Common.{◌≡◌, ◌∙◌, ◌++◌, ◌<◌, ℕ, false, arith, drop, get_or, length, set, take, List, map, refl, sym, ap, subst}
use Rattle.std.specs.Prelude.{◌==◌, Option, is_none}
use Rattle.std.specs.List.{AllByRecursion, list_any}
use Rattle.std.proofs.lemmas.List.{length-map, length-set}
use Rattle.ipc_call.specs.declared.calls.Call.TheVariants.{Exec}
use Rattle.ipc_call.specs.declared.replies.Waiting.{Waiting}
use Rattle.ipc_call.specs.declared.rules.Rule.{Rule}
use Rattle.ipc_creds.specs.Credentials.{Credentials, executed}
use Rattle.ipc_model.specs.Decide.{decide_alive as decide, part_plan}
use Rattle.ipc_model.specs.Processes.{after_exec, as_process, ends}
use Rattle.ipc_model.specs.Segments.{after_detaches}
use Rattle.ipc_model.specs.State.{Caller, State, Thread, caller, creds_at, no_thread, thread_at}
use Rattle.ipc_model.specs.Step.{cancel}
use Rattle.ipc_parked.specs.Parked.{waiting}
use Rattle.process_table.specs.Table.{Table}
use Rattle.msg_calls.specs.WithRoom.{queues_of}
use Rattle.sem_calls.specs.WithRows.{sems_of}
use Rattle.ipc_namespace.specs.Namespace.{AreHeld, AreParked, cancelled_as, ended_as, kept_by, left_alive}
use Rattle.ipc_namespace.specs.declared.cancelling.Cancelling.TheVariants as cancellings
use Rattle.ipc_namespace.proofs.Held.{free-others, held-alive, held-ended, held-thread}
use Rattle.ipc_namespace.proofs.Killing.{ended-when, exec-rules, kept-others, rules-alike}
use Rattle.ipc_namespace.proofs.Moving.{creds-read}
use Rattle.ipc_namespace.proofs.Parked.{list_any-filter}
use Rattle.ipc_namespace.proofs.namespace.Namespace.exec.Goals as goal
use Rattle.ipc_namespace.proofs.namespace.Namespace.exec.Goals.{After-execute}

abbrev its : State → ℕ → List Waiting
its s client = kept_by (cancelled_as s (cancellings.Ended client)) s.parked

module _ (c : After-execute) where
  abbrev s : State
  s = c.args.self.now

  abbrev client : ℕ
  client = c.args.client

  abbrev t : Thread
  t = thread_at s client

  abbrev now : State
  now = record {
    limits = c.self.inside.limits;
    clients = c.self.inside.clients.items;
    threads = c.self.inside.processes.threads;
    next = c.self.inside.processes.next;
    clock = c.self.inside.clock;
    queues = queues_of c.self.inside.queues;
    sems = sems_of c.self.inside.sets;
    shared = c.self.inside.segments;
    parked = waiting c.self.inside.parked;
  }

  at : now ≡ record s { parked = its s client }
  at = c.self.view_is ∙ c.cancel.ensures.state

  threads : c.self.inside.processes.threads ≡ s.threads
  threads = ap (λ (x : State). x.threads) at

  left : waiting c.self.inside.parked ≡ its s client
  left = ap (λ (x : State). x.parked) at

  is : c.end_others.new.self.threads ≡ set (map (ends t.process) c.self.inside.processes.threads) client t
  is = ap (λ (x : Table). x.threads) c.end_others.ensures
      ∙ ap (λ (ts : List Thread). set (map (ends (get_or ts client no_thread).process) c.self.inside.processes.threads) client (get_or ts client no_thread)) threads

  next : c.end_others.new.self.next ≡ s.next
  next = ap (λ (x : Table). x.next) c.end_others.ensures ∙ ap (λ (x : State). x.next) at

  apart : AllByRecursion (λ w. (get_or c.self.inside.processes.threads w.client no_thread).process ≡ t.process → ⊥) (waiting c.self.inside.parked)
  apart = subst (λ (ws : List Waiting). AllByRecursion (λ w. (get_or c.self.inside.processes.threads w.client no_thread).process ≡ t.process → ⊥) ws) (sym left)
      (subst (λ (ts : List Thread). AllByRecursion (λ w. (get_or ts w.client no_thread).process ≡ t.process → ⊥) (its s client)) (sym threads) (kept-others s.threads t.process s.parked))

  -- the caller has no call that waits
  others : AllByRecursion (λ w. w.client ≡ client → ⊥) (waiting c.self.inside.parked)
  others = free-others client (waiting c.self.inside.parked)
      (ap (λ (ws : List Waiting). list_any (λ w. w.client == client) ws) left
      ∙ list_any-filter (λ w. w.client == client) (λ w. is_none (cancelled_as s (cancellings.Ended client) w)) s.parked c.requires.free)

  -- and each that is left lives
  alive : AllByRecursion (λ w. (get_or s.threads w.client no_thread).has_ended ≡ false) (its s client)
  alive = subst (λ (x : State). AllByRecursion (λ w. (get_or x.threads w.client no_thread).has_ended ≡ false) x.parked) at
      (held-alive c.self.inside.sets c.self.inside.processes.threads (waiting c.self.inside.parked) c.self.invariant.3)

  abbrev rule : Waiting → Option Rule
  rule w = ended-when (get_or (set (map (ends t.process) s.threads) client t) w.client no_thread).has_ended

  alike : (its s client ≡ kept_by rule s.parked) × (ended_as (cancelled_as s (cancellings.Ended client)) s.parked ≡ ended_as rule s.parked)
  alike = rules-alike (cancelled_as s (cancellings.Ended client)) rule s.parked (exec-rules s.threads t.process client t s.parked (free-others client s.parked c.requires.free) alive)

  who : c.caller_of-who.result ≡ caller s client
  who = (let e = c.caller_of-who.ensures in rw (c.deref.ensures.value, c.threads.ensures) at e) ∙ ap (λ (x : State). caller x client) at

  execs : c.execute.new.self ≡ executed (creds_at s client)
  execs = c.execute.ensures ∙ ap executed (creds-read now (record s { parked = its s client }) client _ at c.requires.known c.index_mut.ensures.value)

pub invariant_of-self : goal.invariant_of-self
invariant_of-self c =
    let b = (goal.at.invariant_of-self c).After-execute in
    let n = c.self.inside in (
      (c.self.invariant.0.0, ap length (is b) ∙ length-set (map (ends (t b).process) n.processes.threads) c.args.client (t b) ∙ length-map n.processes.threads (ends (t b).process) ∙ c.self.invariant.0.1),
      subst (λ k. AreParked k (waiting n.parked)) (sym (length-set n.clients.items c.args.client c.execute.new.self)) c.self.invariant.1,
      c.self.invariant.2,
      subst (λ (ts : List Thread). AreHeld n.sets ts (waiting n.parked)) (sym (is b))
          (held-thread n.sets _ c.args.client (t b) (waiting n.parked) (others b) (held-ended n.sets n.processes.threads (t b).process (waiting n.parked) (apart b) c.self.invariant.3)),
    )

pub returns-clause-state : goal.returns-clause-state
unfolding part_plan
returns-clause-state c =
    let b = (goal.at.returns-clause-state c).After-execute in
    let s = c.args.self.now in
    let client = c.args.client in
    (λ i. record (at b i) {
      clients = set (at b i).clients client (execs b i);
      threads = (is b ∙ ap (λ (ts : List Thread). set (map (ends (t b).process) ts) client (t b)) (threads b)) i;
      next = next b i;
      shared = (c.exit.ensures ∙ (λ j. after_detaches (at b j).shared (who b j))) i;
    })
    ∙ ap (λ (ws : List Waiting). record s {
      clients = set s.clients client (executed (creds_at s client));
      threads = set (map (ends (t b).process) s.threads) client (t b);
      shared = after_detaches s.shared (caller s client);
      parked = ws;
    }) (alike b).0

pub returns-clause-ended : goal.returns-clause-ended
unfolding part_plan
returns-clause-ended c =
    let b = (goal.at.returns-clause-ended c).After-execute in
    c.cancel.ensures.ended
    ∙ ap (λ es. c.args.ended.now.items ++ es) (alike b).1
