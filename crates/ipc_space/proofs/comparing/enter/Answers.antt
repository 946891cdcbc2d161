use Rattle.std.proofs.Common.{◌≡◌, ℕ, ◌<◌, length, false, refl, sym, ap, ◌∙◌, subst, arith}
use Rattle.std.proofs.lemmas.Bool.{true≢false}
use Rattle.ipc_call.specs.declared.calls.Call.{Call}
use Rattle.ipc_model.specs.State.{is_waiting, opening}
use Rattle.ipc_history.specs.History.{History, run, with_event}
use Rattle.ipc_model.specs.Step.{Event}
use Rattle.ipc_space.proofs.Histories.{clients-run}
use Rattle.ipc_space.proofs.comparing.enter.Goals as goal

clients-same : (h : History) → length (run h).clients ≡ length h.clients
clients-same h = clients-run (opening h.limits h.clients) h.events

pub returns-then-not-may_call : goal.returns-then-not-may_call
returns-then-not-may_call c = (
  refl,
  λ e legal same.
      let h = c.args.space.now in
      let client : e.client ≡ c.in-Called.client = cc in
      let known : c.in-Called.client < length h.clients = omega (arith, legal.known, clients-same h, client) in
      let free : is_waiting (run h) c.in-Called.client ≡ false = ap (is_waiting (run h)) (sym client) ∙ legal.free in
      true≢false (sym (c.may_call.ensures.other known free) ∙ c.if-not-may_call.true),
)

pub returns-in_ok-apply-in-Called : goal.returns-in_ok-apply-in-Called
returns-in_ok-apply-in-Called c =
    let h = c.args.space.now in
    let e : Event = record { client = c.in-Called.client; now = c.in-Called.now; call = c.in-Called.call } in (
      e,
      record {
        known = subst (λ (n : ℕ). c.in-Called.client < n) (sym (clients-same h)) (c.may_call.ensures.known c.if-not-may_call.false);
        free = c.may_call.ensures.free c.if-not-may_call.false;
      },
      sym c.in-Called.is,
      c.in_ok-apply-in-Called.ensures.event ∙ ap (λ (k : Call). with_event h (record { client = c.in-Called.client; now = c.in-Called.now; call = k })) c.in_ok-copied-in-Called.ensures,
    )
