use Rattle.std.proofs.Common.{◌≡◌, ◌∙◌, ℕ, ◌+◌, ◌-◌, ◌∷◌, ◌++◌, [], List, length, vec_len, ap, arith}
use Rattle.ipc_call.specs.declared.limits.Limits.{Limits}
use Rattle.ipc_creds.specs.Credentials.{Credentials}
use Rattle.ipc_model.specs.Step.{Event}
use Rattle.ipc_history.specs.History.{History, run, with_event}
use Rattle.ipc_space.specs.Openings.{exit_of, exits}
use Rattle.ipc_space.proofs.Exits.{exits-more, free-of, run-more}
use Rattle.ipc_space.proofs.ledger.Ledger.start_living.Goals as goal

opened : Limits → List Credentials → List Event → History
opened limits clients events = record { limits = limits; clients = clients; events = events }

pub loop-client-init : goal.loop-client-init
unfolding opened
loop-client-init c =
    let live = c.args.live in
    let none : 0 ≡ live - live = omega arith in
    record {
      history = c.in_ok-ledger.ensures.history ∙ ap (λ n. opened c.args.limits c.args.clients.items (exits live n)) none;
      given = c.in_ok-ledger.ensures.given;
      none = ap (λ (h : History). (run h).parked) c.in_ok-ledger.ensures.history;
      within = omega arith;
    }

pub apply-requires-clause-known : goal.apply-requires-clause-known
apply-requires-clause-known c =
    let same = ap (λ (h : History). length h.clients) c.loop-client.invariant.history in
    let less = c.loop-client-test.true in
    let all = c.len-count.ensures in
    omega (arith, same, less, all, c.args.clients.ok.0)

pub apply-requires-clause-free : goal.apply-requires-clause-free
apply-requires-clause-free c = free-of (run c.loop-client.ledger.history) c.loop-client.client c.loop-client.invariant.none

pub loop-client-preserved : goal.loop-client-preserved
unfolding opened
loop-client-preserved c =
    let live = c.args.live in
    let client = c.loop-client.client in
    let inv = c.loop-client.invariant in
    let from = c.loop-client.auto.client in
    let at : client ≡ live + (client - live) = omega (arith, from) in
    let next : (client - live) + 1 ≡ (client + 1) - live = omega (arith, from) in
    let more : exits live (client - live) ++ exit_of client ∷ [] ≡ exits live ((client + 1) - live) =
    ap (λ n. exits live (client - live) ++ exit_of n ∷ []) at ∙ exits-more live (client - live) ∙ ap (λ n. exits live n) next in
    record {
      history = c.in_ok-apply.ensures.event ∙ ap (λ (h : History). with_event h (exit_of client)) inv.history ∙ ap (λ es. opened c.args.limits c.args.clients.items es) more;
      given = c.apply.ensures.given ∙ inv.given;
      none = ap (λ (h : History). (run h).parked) c.in_ok-apply.ensures.event ∙ run-more c.loop-client.ledger.history client inv.none;
      within = let less = c.loop-client-test.true in omega (arith, from, less);
    }

pub returns-clause-history : goal.returns-clause-history
unfolding opened
returns-clause-history c =
    let live = c.args.live in
    let inv = c.loop-client.invariant in
    let over = c.loop-client-test.false in
    let all = c.len-count.ensures in
    let same : c.loop-client.client - live ≡ vec_len c.args.clients - live = omega (arith, inv.within, over, all) in
    inv.history ∙ ap (λ n. opened c.args.limits c.args.clients.items (exits live n)) same
