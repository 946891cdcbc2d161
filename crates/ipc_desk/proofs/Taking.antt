-- What a taking leaves, and a desk that has just been opened.
use Rattle.std.proofs.Common.{◌≡◌, ℕ, zero, suc, ◌+◌, ◌-◌, ◌<◌, ◌≤◌, Bool, true, false, cond, List, [], ◌∷◌, ◌++◌, length, take, drop, replicate, refl, sym, ap, ◌∙◌, subst, arith, Option, Some, None, Ok, Err, Result, append-nil, ⊎_elim}
use Rattle.std.specs.Prelude.{◌==◌, option_map, option_to_list, slice_get, slice_set, IfSome}
use Rattle.std.specs.List.{list_all}
use Rattle.std.proofs.Math.Seq.{take-length, drop-length}
use Rattle.std.proofs.lemmas.Bool.{and_parts, cases_Bool, eqb-true, eq-eqb, true≢false}
use Rattle.std.proofs.lemmas.List.{length-replicate, take-append-drop}
use Rattle.ipc_call.specs.declared.limits.Limits.{Limits}
use Rattle.ipc_call.specs.declared.replies.Answer.{Answer}
use Rattle.ipc_call.specs.declared.replies.Reply.{Reply}
use Rattle.ipc_creds.specs.Credentials.{Credentials}
use Rattle.ipc_history.specs.History.{History, replies}
use Rattle.call_values.specs.declared.failure.Failure.{Failure}
use Rattle.call_values.specs.declared.values.Ended.{Ended}
use Rattle.ipc_desk.specs.Desks.{IsTaken, outcome_in, told_taken}
use Rattle.ipc_desk.specs.Kept.{AreKept, DeskState, is_of_waiting, kept_for, kept_in}
use Rattle.ipc_desk.proofs.Slots.{length-slice_set, slice_get-set_other}

pub kept-replicate : (n r : ℕ) → kept_for (replicate n None) r ≡ []
kept-replicate zero r = refl
kept-replicate (suc n) zero = refl
kept-replicate (suc n) (suc r) = kept-replicate n r

pub AreKept-opening : (limits : Limits) (clients : List Credentials) (n : ℕ) → n ≡ length clients → AreKept (record { limits = limits; clients = clients; events = [] }) (replicate n None)
AreKept-opening limits clients n is = record {
  legal = tt;
  count = length-replicate n None ∙ is;
  last = λ r. subst (λ (l : List Reply). drop (0 - length l) [] ≡ l) (sym (kept-replicate n r)) refl;
  apart = λ r waits. kept-replicate n r;
  waited = λ r. ap (list_all is_of_waiting) (kept-replicate n r);
}

pub kept-cleared : (slots : List (Option Reply)) (i : ℕ) → kept_for (slice_set slots i None) i ≡ []
kept-cleared [] i = refl
kept-cleared (s ∷ slots) zero = refl
kept-cleared (s ∷ slots) (suc i) = kept-cleared slots i

module _ (h : History) (slots : List (Option Reply)) (kept : AreKept h slots) (client : ℕ) where
  abbrev left : List (Option Reply)
  left = slice_set slots client None

  cleared : (r : ℕ) → (client == r) ≡ true → kept_for left r ≡ []
  cleared r own = subst (λ (k : ℕ). kept_for left k ≡ []) (eqb-true client r own) (kept-cleared slots client)

  same : (r : ℕ) → (client == r) ≡ false → kept_for left r ≡ kept_for slots r
  same r other = ap kept_in (slice_get-set_other slots client r None (λ is. true≢false (sym (eq-eqb client r is) ∙ other)))

  -- what holds of nothing and of what was kept
  either : (P : ℕ → List Reply → Type 0) → ((r : ℕ) → P r []) → ((r : ℕ) → P r (kept_for slots r)) → (r : ℕ) → P r (kept_for left r)
  either P none was r = ⊎_elim
      (λ (own : (client == r) ≡ true). subst (λ (l : List Reply). P r l) (sym (cleared r own)) (none r))
      (λ (other : (client == r) ≡ false). subst (λ (l : List Reply). P r l) (sym (same r other)) (was r))
      (cases_Bool (client == r))

  whole : (r : ℕ) → length (replies h r) - length {A = Reply} [] ≡ length (replies h r)
  whole r = omega arith

  pub AreKept-taken : AreKept h left
  AreKept-taken = record {
    legal = kept.legal;
    count = length-slice_set slots client None ∙ kept.count;
    last = either (λ r l. drop (length (replies h r) - length l) (replies h r) ≡ l) (λ r. ap (λ n. drop n (replies h r)) (whole r) ∙ drop-length (replies h r)) kept.last;
    apart = λ r waits. either (λ k l. k ≡ r → l ≡ []) (λ k is. refl) (λ k is. ap (kept_for slots) is ∙ kept.apart r waits) r refl;
    waited = either (λ r l. list_all is_of_waiting l ≡ true) (λ r. refl) kept.waited;
  }

  first_of : (o : Option (Option Reply)) → option_to_list (slice_get (kept_in o) 0) ≡ kept_in o
  first_of None = refl
  first_of (Some None) = refl
  first_of (Some (Some reply)) = refl

  given-own : (r : ℕ) → (client == r) ≡ true
      → take (length (replies h r) - length (kept_for left r)) (replies h r) ≡ take (length (replies h r) - length (kept_for slots r)) (replies h r) ++ option_to_list (slice_get (kept_for slots client) 0)
  given-own r own =
      let k : kept_for slots client ≡ kept_for slots r = ap (kept_for slots) (eqb-true client r own) in
      let n = length (replies h r) - length (kept_for slots r) in
      ap (λ (l : List Reply). take (length (replies h r) - length l) (replies h r)) (cleared r own) ∙ ap (λ n. take n (replies h r)) (whole r) ∙ take-length (replies h r)
      ∙ sym (ap (λ l. take n (replies h r) ++ l) (first_of (slice_get slots client) ∙ k ∙ sym (kept.last r)) ∙ take-append-drop n (replies h r))

  pub given-taken : (r : ℕ) → take (length (replies h r) - length (kept_for left r)) (replies h r)
      ≡ take (length (replies h r) - length (kept_for slots r)) (replies h r) ++ cond (client == r) (option_to_list (slice_get (kept_for slots client) 0)) []
  given-taken r = ⊎_elim
      (λ (own : (client == r) ≡ true). given-own r own ∙ ap (λ b. take (length (replies h r) - length (kept_for slots r)) (replies h r) ++ cond b (option_to_list (slice_get (kept_for slots client) 0)) []) (sym own))
      (λ (other : (client == r) ≡ false).
      ap (λ (l : List Reply). take (length (replies h r) - length l) (replies h r)) (same r other)
      ∙ sym (append-nil (take (length (replies h r) - length (kept_for slots r)) (replies h r)))
      ∙ ap (λ b. take (length (replies h r) - length (kept_for slots r)) (replies h r) ++ cond b (option_to_list (slice_get (kept_for slots client) 0)) []) (sym other))
      (cases_Bool (client == r))

  pub waited-of : (o : Option Reply) → option_to_list o ≡ kept_for slots client → IfSome o (λ reply. is_of_waiting reply ≡ true)
  waited-of None is = tt
  waited-of (Some reply) is = (and_parts (is_of_waiting reply) (list_all is_of_waiting []) (subst (λ (l : List Reply). list_all is_of_waiting l ≡ true) (sym is) (kept.waited client))).0

  first_in : (o : Option Reply) → slice_get (option_to_list o) 0 ≡ o
  first_in None = refl
  first_in (Some reply) = refl

  pub taken-as : (time : ℕ) (o : Option Reply) (taken : Result (Option Ended) Failure) → option_to_list o ≡ kept_for slots client → told_taken taken ≡ option_map outcome_in o
      → IsTaken (record { history = h; time = time; kept = slots }) (record { history = h; time = time; kept = left }) client taken
  taken-as time o taken is told = record {
    told = told ∙ ap (option_map outcome_in) (sym (first_in o) ∙ ap (λ (l : List Reply). slice_get l 0) is);
    history = refl;
    time = refl;
    given = given-taken;
  }
