use Rattle.std.proofs.Common.{◌≡◌, ℕ, ◌+◌, ◌<◌, ◌≤◌, List, ◌++◌, length, vec_len, Option, None, Result, refl, sym, ap, ◌∙◌, subst, arith, All, IfOk, IfSome, true}
use Rattle.ipc_call.specs.declared.replies.Answer.{Answer}
use Rattle.ipc_call.specs.declared.replies.Reply.{Reply}
use Rattle.ipc_model.specs.Decide.{can_wait}
use Rattle.ipc_model.specs.Step.{Event}
use Rattle.ipc_history.specs.History.{History, IsLegal, next_step, with_event}
use Rattle.ipc_space.specs.Answers.{can_give}
use Rattle.ipc_space.specs.Spaces.{other_replies}
use Rattle.ipc_space.specs.Telling.{replies_in}
use Rattle.call_values.specs.declared.failure.Failure.{Failure}
use Rattle.ipc_desk.specs.Desks.{Comes, answer_told, hindrance_of}
use Rattle.ipc_desk.specs.Kept.{AreKept, DeskState, kept_for}
use Rattle.ipc_desk.proofs.Coming.{answer_gives, came, free-none, none_waits}
use Rattle.ipc_desk.proofs.Given.{AreKept-after, few-kept, known-others}
use Rattle.ipc_desk.proofs.desk.Desk.ask.Goals as goal

pub keep-requires-clause-known : goal.keep-requires-clause-known
keep-requires-clause-known c =
    let h = c.self.inside.space in
    let e : Event = record { client = c.args.client.0; now = c.self.inside.time; call = c.args.call } in
    let legal : IsLegal (with_event h e) = subst (λ (x : History). IsLegal x) c.in_ok-own.ensures.event c.apply.ensures.legal in
    let count : length h.clients ≡ vec_len c.self.inside.kept = omega (arith, c.self.invariant.count, c.self.inside.kept.ok) in
    subst (λ (l : List (ℕ × Reply)). All (λ (t : ℕ × Reply). t.0 < vec_len c.self.inside.kept) l) (sym c.in_ok-own.ensures.others)
    (subst (λ (n : ℕ). All (λ (t : ℕ × Reply). t.0 < n) (other_replies (length h.events + 1) (next_step h e).ended)) count (known-others h e (length h.events + 1) refl legal))

pub keep-requires-clause-apart : goal.keep-requires-clause-apart
keep-requires-clause-apart c =
    let h = c.self.inside.space in
    let e : Event = record { client = c.args.client.0; now = c.self.inside.time; call = c.args.call } in
    let d : DeskState = record { history = h; time = c.self.inside.time; kept = c.self.inside.kept.items } in
    let legal : IsLegal (with_event h e) = subst (λ (x : History). IsLegal x) c.in_ok-own.ensures.event c.apply.ensures.legal in
    let free : hindrance_of d c.args.client.0 ≡ None = ap (λ (x : DeskState). hindrance_of x c.args.client.0) c.self.view_is ∙ sym c.hindrance.ensures ∙ c.in-None.is in
    λ r. subst (λ (l : List (ℕ × Reply)). length (kept_for c.self.inside.kept.items r) + length (replies_in l r) ≤ 1) (sym c.in_ok-own.ensures.others)
    (few-kept h e (length h.events + 1) refl legal c.self.inside.kept.items c.self.invariant (free-none d c.args.client.0 free) r)

pub invariant_of-self-2 : goal.invariant_of-self-2
invariant_of-self-2 c =
    let h = c.self.inside.space in
    let e : Event = record { client = c.args.client.0; now = c.self.inside.time; call = c.args.call } in
    let d : DeskState = record { history = h; time = c.self.inside.time; kept = c.self.inside.kept.items } in
    let legal : IsLegal (with_event h e) = subst (λ (x : History). IsLegal x) c.in_ok-own.ensures.event c.apply.ensures.legal in
    let free : hindrance_of d c.args.client.0 ≡ None = ap (λ (x : DeskState). hindrance_of x c.args.client.0) c.self.view_is ∙ sym c.hindrance.ensures ∙ c.in-None.is in
    let count : length c.keep.new.kept.items ≡ length c.self.inside.kept.items = omega (arith, c.keep.ensures.count, c.keep.new.kept.ok, c.self.inside.kept.ok) in
    subst (λ (x : History). AreKept x c.keep.new.kept.items) (sym c.in_ok-own.ensures.event)
    (AreKept-after h e (length h.events + 1) refl legal c.self.inside.kept.items c.self.invariant (free-none d c.args.client.0 free) c.keep.new.kept.items
    (λ r. c.keep.ensures.kept r ∙ ap (λ (l : List (ℕ × Reply)). kept_for c.self.inside.kept.items r ++ replies_in l r) c.in_ok-own.ensures.others) count)

pub returns-clause-comes : goal.returns-clause-comes
returns-clause-comes c =
    let h = c.self.inside.space in
    let t = c.self.inside.time in
    let slots = c.self.inside.kept.items in
    let later = c.keep.new.kept.items in
    let client = c.args.client.0 in
    let e : Event = record { client = client; now = t; call = c.args.call } in
    let d : DeskState = record { history = h; time = t; kept = slots } in
    let legal : IsLegal (with_event h e) = subst (λ (x : History). IsLegal x) c.in_ok-own.ensures.event c.apply.ensures.legal in
    let free : hindrance_of d client ≡ None = ap (λ (x : DeskState). hindrance_of x client) c.self.view_is ∙ sym c.hindrance.ensures ∙ c.in-None.is in
    let made = came h t slots later client c.args.call legal c.self.invariant free
    (λ r. c.keep.ensures.kept r ∙ ap (λ (l : List (ℕ × Reply)). kept_for slots r ++ replies_in l r) c.in_ok-own.ensures.others) in
    subst (λ (x : DeskState). Comes x (record { history = c.apply.new.self; time = t; kept = later }) client c.args.call c.answer_to.result) c.self.view_is
    (subst (λ (x : History). Comes d (record { history = x; time = t; kept = later }) client c.args.call c.answer_to.result) (sym c.in_ok-own.ensures.event)
    (subst (λ (r : Result (Option Answer) Failure). Comes d (record { history = with_event h e; time = t; kept = later }) client c.args.call r) (sym (c.answer_to.ensures ∙ ap answer_told c.in_ok-own.ensures.own)) made))

pub returns-clause-gives : goal.returns-clause-gives
returns-clause-gives c =
    let h = c.self.inside.space in
    let e : Event = record { client = c.args.client.0; now = c.self.inside.time; call = c.args.call } in
    subst (λ (r : Result (Option Answer) Failure). IfOk r (λ answer. IfSome answer (λ a. can_give c.args.call a ≡ true))) (sym (c.answer_to.ensures ∙ ap answer_told c.in_ok-own.ensures.own))
    (answer_gives h e (length h.events + 1))

pub returns-clause-waits : goal.returns-clause-waits
returns-clause-waits c =
    let h = c.self.inside.space in
    let e : Event = record { client = c.args.client.0; now = c.self.inside.time; call = c.args.call } in
    subst (λ (r : Result (Option Answer) Failure). IfOk r (λ answer. answer ≡ None → can_wait c.args.call ≡ true)) (sym (c.answer_to.ensures ∙ ap answer_told c.in_ok-own.ensures.own))
    (none_waits h e (length h.events + 1))
