use Rattle.std.proofs.Common.{rules, ◌≡◌, ℕ, ◌+◌, ◌-◌, ◌<◌, ◌≤◌, Bool, true, false, ap, arith, length, refl, subst, suc, sym, ◌∙◌, Option, Some, None}
use Rattle.std.specs.Prelude.{◌==◌, ◌&&◌, ◌||◌, nat_lt, IfNone, IfSome}
use Rattle.ipc_model.specs.State.{State, is_waiting}
use Rattle.ipc_namespace.specs.Namespace.{earliest_of, is_found, is_named}
use Rattle.ipc_namespace.proofs.Earliest.{below, found-more, found-passes, left, left-less, live-known, named-lives, next-below, none-first, with-one}
use Rattle.ipc_namespace.proofs.namespace.Namespace.earliest_thread.Goals as goal

-- tests that agree find the same
alike : (s : State) (f g : ℕ → Bool) → ((k : ℕ) → f k ≡ g k) → earliest_of s f ≡ earliest_of s g
alike s f g same = ap (λ (test : ℕ → Bool). earliest_of s test) (λ i k. same k i)

waits : (s : State) (test : ℕ → Bool) (o : Option ℕ) → o ≡ earliest_of s test → IfSome o (λ client. is_waiting s client ≡ true)
waits s test None is = tt
waits s test (Some client) is = (found-passes test s.parked client (sym is)).1

pub loop-next-init : goal.loop-next-init
loop-next-init c =
    let s = c.args.self.now in
    let named = is_named s c.args.cancelling in
    let e = c.next_thread-next.ensures in (
      sym (none-first s.parked named) ∙ alike s _ _ (next-below named 0 c.next_thread-next.result e.none e.from e.least),
      e.there,
      e.few,
    )

pub earlier-earliest-requires : goal.earlier-earliest-requires
earlier-earliest-requires c = waits c.args.self.now _ c.loop-next.earliest c.loop-next.invariant.0

pub loop-next-preserved : goal.loop-next-preserved
loop-next-preserved c =
    let s = c.args.self.now in
    let named = is_named s c.args.cancelling in
    let client = c.in-Some.client in
    let e = c.next_thread-next-in-Some.ensures in
    let here : named client ≡ true = subst (λ (o : Option ℕ). IfSome o (λ k. named k ≡ true)) c.in-Some.is c.loop-next.invariant.1 in
    let found : c.loop-next.earliest ≡ earliest_of s (λ k. named k && nat_lt k client) = c.loop-next.invariant.0 ∙ ap (λ o. earliest_of s (below named o)) c.in-Some.is in (
      c.earlier-earliest.ensures
          ∙ ap (λ o. earliest_of s (λ k. is_found o k || k == client)) found
          ∙ found-more (λ k. named k && nat_lt k client) client s.parked
          ∙ alike s _ _ (with-one named client here)
          ∙ alike s _ _ (next-below named (client + 1) c.next_thread-next-in-Some.result e.none e.from e.least),
      e.there,
      e.few,
    )

pub loop-next-smaller : goal.loop-next-smaller
loop-next-smaller c =
    let s = c.args.self.now in
    let here = subst (λ (o : Option ℕ). IfSome o (λ k. is_named s c.args.cancelling k ≡ true)) c.in-Some.is c.loop-next.invariant.1 in
    let known = live-known s.threads c.in-Some.client (named-lives s c.args.cancelling c.in-Some.client here) in
    subst (λ (o : Option ℕ). left (length s.threads) c.next_thread-next-in-Some.result < left (length s.threads) o) (sym c.in-Some.is)
    (left-less (length s.threads) c.in-Some.client c.next_thread-next-in-Some.result known c.next_thread-next-in-Some.ensures.from)

pub overflow_add-client : goal.overflow_add-client
overflow_add-client c = let few = subst (λ (o : Option ℕ). IfSome o (λ k. k < 4096)) c.in-Some.is c.loop-next.invariant.2 in omega (arith, few)
