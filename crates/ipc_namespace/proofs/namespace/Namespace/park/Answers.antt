use Rattle.std.proofs.Common.{◌≡◌, ◌+◌, ◌<◌, true, false, [], ◌∷◌, ◌++◌, length, refl, sym, ap, ◌∙◌, subst, arith, None}
use Rattle.std.specs.Prelude.{◌==◌, is_err, is_some, OnErr, OnOk, Result, Ok, Err}
use Rattle.std.specs.List.{list_any}
use Rattle.std.proofs.lemmas.Bool.{true≢false}
use Rattle.ipc_call.specs.declared.replies.Waiting.{Waiting}
use Rattle.msg_calls.specs.WithRoom.{one_if, room}
use Rattle.ipc_model.specs.State.{State, has_exited, process_at}
use Rattle.ipc_parked.specs.Parked.{waiting}
use Rattle.ipc_parked.proofs.Listed.{any_waiting, waiting-push}
use Rattle.ipc_namespace.specs.Namespace.{AreHeld, AreParked, HasRowFor, is_at, is_send_to, sends_on}
use Rattle.ipc_model.specs.Decision.{Decision, Refused, Waits, Granted, outcome_of, proceeds}
use Rattle.std.proofs.lemmas.Option.{none-some}
use Rattle.ipc_namespace.proofs.Calling.{operator-there, sender-there}
use Rattle.ipc_namespace.specs.Namespace.{MayReserve}
use Rattle.ipc_namespace.proofs.Held.{held-longer, held-push}
use Rattle.ipc_model.specs.Messages.{queue_at}
use Rattle.ipc_namespace.proofs.Parked.{AreParked-push}
use Rattle.ipc_namespace.proofs.Reserved.{sends_on-push}
use Rattle.ipc_namespace.proofs.namespace.Namespace.park.Goals as goal

pub park-parked-requires : goal.park-parked-requires
park-parked-requires c =
    let n = c.self.inside in
    record { free = sym (any_waiting c.args.client n.parked) ∙ ap (λ (s : State). list_any (λ w. w.client == c.args.client) s.parked) c.self.view_is ∙ c.requires.free }

stays : (d : Decision State) → outcome_of d ≡ None → proceeds d ≡ false
stays (Refused rule) is = absurd (none-some (Err rule) (sym is))
stays Waits is = refl
stays (Granted answer new) is = absurd (none-some (Ok answer) (sym is))

went_well : {T E : Type 0} (r : Result T E) (P : Type 0) → is_err r ≡ false → OnOk r P → P
went_well (Ok x) P good p = p
went_well (Err e) P good p = absurd (true≢false good)

pub invariant_of-self-else-is_err : goal.invariant_of-self-else-is_err
invariant_of-self-else-is_err c =
    let n = c.self.inside in
    let w : Waiting = record { client = c.args.client; call = c.args.arrival.call; deadline = c.args.arrival.deadline } in
    let may = c.requires.as_semop in
    let known : c.args.client < length n.clients.items = subst (λ (s : State). c.args.client < length s.clients) (sym c.self.view_is) c.requires.known in
    let free : list_any (λ v. v.client == c.args.client) (waiting n.parked) ≡ false = ap (λ (s : State). list_any (λ v. v.client == c.args.client) s.parked) c.self.view_is ∙ c.requires.free in
    let pushed = went_well c.park-parked.result _ (sym c.is_err.ensures.value ∙ c.if-is_err.false) c.park-parked.ensures.ok in
    let longer : waiting c.park-parked.new.self ≡ waiting n.parked ++ w ∷ [] = ap waiting pushed ∙ waiting-push n.parked (c.args.client, c.args.arrival) in (
      c.self.invariant.0,
      subst (λ ws. AreParked (length n.clients.items) ws) (sym longer) (AreParked-push (length n.clients.items) (waiting n.parked) w c.self.invariant.1 known may free),
      λ id. c.in_ok-reserve_in.ensures.room id ∙ ap (λ q. room n.queues id + one_if (is_at id q)) c.sent_to-queue.ensures ∙ ap (λ k. k + one_if (is_send_to id c.args.arrival.call)) (c.self.invariant.2 id)
          ∙ sym (sends_on-push id (waiting n.parked) w) ∙ ap (λ ws. sends_on id ws) (sym longer),
      subst (λ ws. AreHeld c.reserve_row.new.sets n.processes.threads ws) (sym longer)
          (held-push c.reserve_row.new.sets n.processes.threads (waiting n.parked) w
          (held-longer n.sets c.reserve_row.new.sets n.processes.threads c.in_ok-reserve_row.ensures.rows (waiting n.parked) c.self.invariant.3) (
            subst (λ (s : State). has_exited s c.args.client ≡ false) (sym c.self.view_is) c.requires.alive,
            subst (λ k. HasRowFor c.reserve_row.new.sets k c.args.arrival.call) (c.process_of-process.ensures ∙ sym (ap (λ (s : State). process_at s c.args.client) c.self.view_is)) c.in_ok-reserve_row.ensures.row,
          )),
    )

pub reserve_in-requires : goal.reserve_in-requires
reserve_in-requires c = λ id sends.
    let there = sender-there c.args.self.now c.args.client c.args.arrival.call id c.requires.waits (ap (λ q. is_at id q) (sym c.sent_to-queue.ensures) ∙ sends) in
    ap (λ (s : State). is_some (queue_at s.queues id)) c.self.view_is ∙ there

pub reserve_row-requires : goal.reserve_row-requires
reserve_row-requires c = record { there = subst (λ (s : State). MayReserve s.sems c.args.arrival.call) (sym c.self.view_is) (operator-there c.args.self.now c.args.client c.args.arrival.call c.requires.waits) }

went_wrong : {T E : Type 0} (r : Result T E) (P : Type 0) → is_err r ≡ true → OnErr r P → P
went_wrong (Ok x) P bad p = absurd (true≢false (sym bad))
went_wrong (Err e) P bad p = p

pub invariant_of-self-in_err-reserve_in : goal.invariant_of-self-in_err-reserve_in
invariant_of-self-in_err-reserve_in c =
    let n = c.self.inside in (
      c.self.invariant.0,
      c.self.invariant.1,
      λ id. ap (λ q. room q id) c.in_err-reserve_in.ensures.err ∙ c.self.invariant.2 id,
      held-longer n.sets c.reserve_row.new.sets n.processes.threads c.in_ok-reserve_row.ensures.rows (waiting n.parked) c.self.invariant.3,
    )

pub invariant_of-self-then-is_err : goal.invariant_of-self-then-is_err
invariant_of-self-then-is_err c =
    let n = c.self.inside in
    let kept = went_wrong c.park-parked.result _ (sym c.is_err.ensures.value ∙ c.if-is_err.true) c.park-parked.ensures.err in
    let same : waiting c.park-parked.new.self ≡ waiting n.parked = ap waiting kept in (
      c.self.invariant.0,
      subst (λ ws. AreParked (length n.clients.items) ws) (sym same) c.self.invariant.1,
      λ id. (let one = c.in_ok-reserve_in.ensures.room id in let less = c.release_in.ensures.room id in omega (arith, one, less)) ∙ c.self.invariant.2 id ∙ ap (λ ws. sends_on id ws) (sym same),
      subst (λ ws. AreHeld c.reserve_row.new.sets n.processes.threads ws) (sym same) (held-longer n.sets c.reserve_row.new.sets n.processes.threads c.in_ok-reserve_row.ensures.rows (waiting n.parked) c.self.invariant.3),
    )
