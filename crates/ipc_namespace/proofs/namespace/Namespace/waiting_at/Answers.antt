use Rattle.std.proofs.Common.{◌≡◌, ℕ, ◌+◌, ◌<◌, ◌≤◌, Bool, true, false, List, get_or, length, sym, ap, ◌∙◌, subst, arith, None}
use Rattle.std.specs.Prelude.{cond, slice_get, take, IfSome}
use Rattle.std.specs.List.{count_by}
use Rattle.std.proofs.lemmas.List.{take_all}
use Rattle.std.proofs.lemmas.List.Sums.{count_by_more_no, count_by_more_yes}
use Rattle.std.proofs.lemmas.Option.{slice_get-get_or}
use Rattle.ipc_call.specs.declared.calls.Call.TheVariants.{Exit}
use Rattle.ipc_call.specs.declared.replies.Waiting.{Waiting}
use Rattle.ipc_model.specs.State.{State, process_at}
use Rattle.ipc_model.specs.Decide.{waits_for}
use Rattle.ipc_parked.specs.Parked.{waiting}
use Rattle.ipc_parked.proofs.Listed.{length-waiting}
use Rattle.ipc_namespace.specs.Namespace.{is_awaited}
use Rattle.ipc_namespace.proofs.Calling.{IfSome-at}
use Rattle.ipc_namespace.proofs.Parked.{length-parked}
use Rattle.ipc_namespace.proofs.namespace.Namespace.waiting_at.Goals as goal
use Rattle.ipc_namespace.proofs.namespace.Namespace.waiting_at.Goals.{then-waits_at, else-waits_at}

pub overflow_add-count : goal.overflow_add-count
overflow_add-count c =
    let n = c.self.inside in
    let few : length (waiting n.parked) ≤ length n.clients.items = length-parked (length n.clients.items) (waiting n.parked) c.self.invariant.1 in
    let fits : c.loop-index.count + 1 ≤ 4096 = omega (arith, few, length-waiting n.parked, c.self.invariant.0, c.len-index-end.ensures, c.loop-index-test.true, c.loop-index.invariant.few) in
    omega (arith, fits)

-- a call that stands where another isn't there
abbrev default : Waiting
default = record { client = 0; call = Exit; deadline = None }

-- the count with one call more
counted : (test : Waiting → Bool) (ws : List Waiting) (i : ℕ) (answer : Bool) → i < length ws → IfSome (slice_get ws i) (λ w. answer ≡ test w)
    → count_by test (take (i + 1) ws) ≡ cond answer (count_by test (take i ws) + 1) (count_by test (take i ws))
counted test ws i answer within is = by answer (IfSome-at (slice_get ws i) (get_or ws i default) (λ w. answer ≡ test w) (slice_get-get_or ws i default within) is)
  where
    by : (b : Bool) → b ≡ test (get_or ws i default) → count_by test (take (i + 1) ws) ≡ cond b (count_by test (take i ws) + 1) (count_by test (take i ws))
    by true is = count_by_more_yes test ws i default within (sym is)
    by false is = count_by_more_no test ws i default within (sym is)

pub loop-index-preserved : goal.loop-index-preserved
loop-index-preserved c =
    let s = c.args.self.now in
    let i = c.loop-index.index in
    let inv = c.loop-index.invariant in
    let test : Waiting → Bool = λ w. waits_for s.sems c.args.id (is_awaited c.args.awaited c.args.num) (process_at s w.client) w.call in
    let within : i < length s.parked = omega (arith, c.loop-index-test.true, c.len-index-end.ensures, length-waiting c.self.inside.parked, ap (λ (t : State). length t.parked) c.self.view_is) in
    let answers : IfSome (slice_get s.parked i) (λ w. c.waits_at.result ≡ test w) =
    subst (λ (t : State). IfSome (slice_get t.parked i) (λ w. c.waits_at.result ≡ waits_for t.sems c.args.id (is_awaited c.args.awaited c.args.num) (process_at t w.client) w.call)) inv.same c.waits_at.ensures.awaits in
    let next = counted test s.parked i c.waits_at.result within answers in
    let same = c.waits_at.ensures.same ∙ inv.same in
    elim c.if-waits_at.branch [
      | then-waits_at w ↦ record {
        same = same;
        count = w.count-is ∙ ap (λ n. n + 1) inv.count ∙ sym (let one = next in rw w.if-waits_at.true at one);
        few = omega (arith, w.count-is, inv.few);
      }
      | else-waits_at w ↦ record {
        same = same;
        count = w.count-is ∙ inv.count ∙ sym (let none = next in rw w.if-waits_at.false at none);
        few = omega (arith, w.count-is, inv.few);
      }
    ]

pub returns-clause-count : goal.returns-clause-count
returns-clause-count c =
    let s = c.args.self.now in
    let past : length s.parked ≤ c.loop-index.index = omega (arith, c.loop-index-test.false, c.len-index-end.ensures, length-waiting c.self.inside.parked, ap (λ (t : State). length t.parked) c.self.view_is) in
    let all : take c.loop-index.index s.parked ≡ s.parked = take_all c.loop-index.index s.parked past in
    c.loop-index.invariant.count ∙ ap (λ (ws : List Waiting). count_by (λ w. waits_for s.sems c.args.id (is_awaited c.args.awaited c.args.num) (process_at s w.client) w.call) ws) all
