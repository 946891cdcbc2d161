use Rattle.std.proofs.Common.{◌≡◌, true, List, length, refl, rules, ap, subst, sym, ◌∙◌}
use Rattle.std.specs.Prelude.{is_some}
use Rattle.std.proofs.lemmas.List.{length-set}
use Rattle.ipc_model.specs.Processes.{free_client}
use Rattle.ipc_model.specs.State.{State, Thread, has_exited}
use Rattle.shm_seg.specs.Attachments.{attachment_at}
use Rattle.ipc_parked.specs.Parked.{waiting}
use Rattle.process_table.specs.Table.{Table}
use Rattle.ipc_namespace.specs.Namespace.{AreHeld, AreParked}
use Rattle.ipc_namespace.proofs.Held.{held-apart, held-thread, some-ended}
use Rattle.ipc_namespace.proofs.namespace.Namespace.fork.Goals as goal

pub invariant_of-self-2 : goal.invariant_of-self-2
invariant_of-self-2 c =
    let n = c.self.inside in
    let s = c.args.self.now in
    let client = c.args.child in
    let free : is_some (free_client s client) ≡ true = search rules in
    let ended : has_exited s client ≡ true = some-ended s client (free_client s client) refl free in
    let gone = ap (λ (s : State). has_exited s client) c.self.view_is ∙ ended in
    let is = ap (λ (t : Table). t.threads) c.begin.ensures in (
      (c.self.invariant.0.0, ap length is ∙ length-set n.processes.threads client _ ∙ c.self.invariant.0.1),
      subst (λ k. AreParked k (waiting n.parked)) (sym (length-set n.clients.items client c.copy-creds.result)) c.self.invariant.1,
      c.self.invariant.2,
      subst (λ (ts : List Thread). AreHeld n.sets ts (waiting n.parked)) (sym is)
          (held-thread n.sets n.processes.threads client _ (waiting n.parked) (held-apart n.sets n.processes.threads client gone (waiting n.parked) c.self.invariant.3) c.self.invariant.3),
    )

pub fork-requires : goal.fork-requires
fork-requires c =
    let n = c.self.inside in record {
      none = λ number. ap (λ k. attachment_at n.segments.attached k number) c.in_ok-process.ensures.next
          ∙ ap (λ (s : State). attachment_at s.shared.attached s.next number) c.self.view_is ∙ c.requires.fresh number;
    }
