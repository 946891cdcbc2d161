use Rattle.std.proofs.Common.{◌≡◌, ℕ, List, ◌+◌, [], ◌∷◌, ◌++◌, length, length-append, true, false, refl, sym, ap, ◌∙◌, Some}
use Rattle.std.specs.Prelude.{string_bytes}
use Rattle.ipc_call.specs.declared.replies.Reply.TheVariants.{Memory}
use Rattle.ipc_history.specs.History.{next_step, with_event}
use Rattle.ipc_space.specs.Spaces.{other_replies, own_reply}
use Rattle.ipc_text.specs.Rows.{effect_rows, name_at, reply_row}
use Rattle.ipcsh.specs.Commands.{call_event, id_answered}
use Rattle.ipcsh.specs.Session.{Session, events_of, history_of}
use Rattle.ipcsh.proofs.CommandLemmas.{Leads-called, Leads-waits}
use Rattle.ipcsh.proofs.session.Session.call.Goals as goal

pub returns-then-is_waiting-clause-does : goal.returns-then-is_waiting-clause-does
returns-then-is_waiting-clause-does g c =
    Leads-waits c.args.client c.args.call c.args.self.now (string_bytes c.args.rows.now) (sym c.is_waiting.ensures ∙ c.if-is_waiting.true)

-- the event is entered, and its rows are printed
pub returns-in_ok-print_effects-in-Ok-clause-does : goal.returns-in_ok-print_effects-in-Ok-clause-does
returns-in_ok-print_effects-in-Ok-clause-does g c =
    let s = c.args.self.now in
    let client = c.args.client in
    let call = c.args.call in
    let h = history_of s in
    let e = call_event s client call in
    let started : c.start.new.self ≡ record s { history = Some h } = c.in_ok-start.ensures in
    let applied : c.apply.new.self ≡ record s { history = Some (with_event h e) } =
    c.in-Ok.ensures.session ∙ ap (λ (t : Session). record t { history = Some (with_event (history_of t) (call_event t client call)) }) started in
    let session : c.tell_effects.new.self ≡ record s { history = Some (with_event h e) } = c.tell_effects.ensures ∙ applied in
    let names = ap (λ (t : Session). t.names) applied in
    let place : c.in-Ok.effects.place ≡ length h.events + 1 = c.in-Ok.ensures.place ∙ ap (λ (t : Session). events_of t) applied ∙ length-append h.events (e ∷ []) in
    let own = c.in-Ok.ensures.own ∙ ap (λ (t : Session). own_reply (events_of t + 1) (next_step (history_of t) (call_event t client call)).own) started in
    let others = c.in-Ok.ensures.others ∙ ap (λ (t : Session). other_replies (events_of t + 1) (next_step (history_of t) (call_event t client call)).ended) started in
    Leads-called client call false s c.tell_effects.new.self (string_bytes c.args.rows.now) (string_bytes c.print_effects.new.rows) _
    (sym c.is_waiting.ensures ∙ c.if-is_waiting.false)
    session
    (c.in_ok-print_effects-in-Ok.ensures ∙ (λ i. string_bytes c.args.rows.now ++ effect_rows (names i) client (place i) (own i) (others i)))
    (c.id_of.ensures ∙ ap id_answered own)

-- memory was refused, and nothing else has changed
pub returns-in_ok-print_reply-in-Err-clause-does : goal.returns-in_ok-print_reply-in-Err-clause-does
returns-in_ok-print_reply-in-Err-clause-does g c =
    let s = c.args.self.now in
    let session : c.apply.new.self ≡ record s { history = Some (history_of s) } = c.in-Err.ensures.err ∙ c.in_ok-start.ensures in
    Leads-called c.args.client c.args.call true s c.apply.new.self (string_bytes c.args.rows.now) (string_bytes c.print_reply.new.rows) _
    (sym c.is_waiting.ensures ∙ c.if-is_waiting.false)
    session
    (c.in_ok-print_reply-in-Err.ensures ∙ ap (λ (name : List ℕ). string_bytes c.args.rows.now ++ reply_row name Memory) (c.name_at.ensures ∙ ap (λ (t : Session). name_at t.names c.args.client) session))
    refl
