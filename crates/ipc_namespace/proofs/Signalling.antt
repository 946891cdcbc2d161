-- The threads of a process: each is asked whether it may be signalled, and each changes.
use Rattle.std.proofs.Common.{◌≡◌, ◌∙◌, ℕ, zero, suc, ◌+◌, ◌-◌, ◌<◌, ◌≤◌, ap, arith, inl, inr, refl, sym, ⊎_elim, Bool, true, false, cond, get_or, List, [], ◌∷◌, drop, length, map, Option, Some, None, Ok, Err}
use Rattle.std.specs.Prelude.{◌⊎◌, ◌==◌, filter, if◌then◌else◌, nat_lt, not, IfNone, IfSome}
use Rattle.std.specs.List.{zip}
use Rattle.std.proofs.lemmas.Bool.{and_parts, cases_Bool}
use Rattle.std.proofs.lemmas.Bool.Decides.{nat_tests}
use Rattle.std.proofs.lemmas.List.{drop_all, drop_more}
use Rattle.ipc_call.specs.declared.replies.Answer.TheVariants.{Done}
use Rattle.ipc_call.specs.declared.rules.Rule.{Rule}
use Rattle.ipc_creds.specs.Credentials.{Credentials}
use Rattle.ipc_perm.specs.Access.{SameUser, denial, denied_rule}
use Rattle.ipc_perm.specs.declared.access.Verdict.{Verdict}
use Rattle.ipc_perm.specs.declared.access.Verdict.TheVariants.{Allowed, Denied}
use Rattle.ipc_model.specs.State.{State, Thread, creds_at, has_pid, no_thread, nobody}
use Rattle.ipc_model.specs.Decision.{Decision, Refused, without_answer}
use Rattle.ipc_model.specs.Plan.{Check, Grant, Needs, Plan, decision, in_order, unless}
use Rattle.ipc_namespace.specs.Namespace.{allowed_by, signals_from}
use Rattle.ipc_namespace.proofs.Earliest.{unturned}

module _ (s : State) (pid n : ℕ) (known : n < length s.clients) (also : n < length s.threads) where
  abbrev here : Bool
  here = has_pid pid (get_or s.threads n no_thread)

  abbrev asked : Check
  asked = Needs (SameUser (get_or s.clients n nobody).euid)

  -- one client more is asked, where it is a thread of the process
  signals-step : signals_from s pid n ≡ cond here (asked ∷ signals_from s pid (n + 1)) (signals_from s pid (n + 1))
  signals-step =
      (λ i. map (λ c. Needs (SameUser c.euid)) (map (λ t. t.0) (filter (λ t. has_pid pid t.1) (zip (drop_more s.clients n nobody known i) (drop_more s.threads n no_thread also i)))))
      ∙ by here
    where
      rest : List (Credentials × Thread)
      rest = filter (λ t. has_pid pid t.1) (zip (drop (n + 1) s.clients) (drop (n + 1) s.threads))

      by : (b : Bool) → map (λ c. Needs (SameUser c.euid)) (map (λ t. t.0) (cond b ((get_or s.clients n nobody, get_or s.threads n no_thread) ∷ rest) rest))
          ≡ cond b (asked ∷ signals_from s pid (n + 1)) (signals_from s pid (n + 1))
      by true = refl
      by false = refl

  module _ (c : Credentials) (p : Plan State) where
    pub signals-past : here ≡ false → decision c (in_order (signals_from s pid (n + 1)) p) ≡ decision c (in_order (signals_from s pid n) p)
    signals-past isnt = sym (ap (λ cs. decision c (in_order cs p)) (signals-step ∙ ap (λ b. cond b (asked ∷ signals_from s pid (n + 1)) (signals_from s pid (n + 1))) isnt))

    asks : here ≡ true → decision c (in_order (signals_from s pid n) p) ≡ unless (denial c (SameUser (get_or s.clients n nobody).euid)) (decision c (in_order (signals_from s pid (n + 1)) p))
    asks is = ap (λ cs. decision c (in_order cs p)) (signals-step ∙ ap (λ b. cond b (asked ∷ signals_from s pid (n + 1)) (signals_from s pid (n + 1))) is)

    pub signals-met : here ≡ true → denial c (SameUser (get_or s.clients n nobody).euid) ≡ None → decision c (in_order (signals_from s pid (n + 1)) p) ≡ decision c (in_order (signals_from s pid n) p)
    signals-met is met = sym (asks is ∙ ap (λ o. unless o (decision c (in_order (signals_from s pid (n + 1)) p))) met)

    pub signals-denied : (rule : Rule) → here ≡ true → denial c (SameUser (get_or s.clients n nobody).euid) ≡ Some rule → decision c (in_order (signals_from s pid n) p) ≡ Refused rule
    signals-denied rule is denied = asks is ∙ ap (λ o. unless o (decision c (in_order (signals_from s pid (n + 1)) p))) denied

-- all were asked
pub signals-over : (s : State) (pid n : ℕ) → length s.clients ≤ n → signals_from s pid n ≡ []
signals-over s pid n past = ap (λ cs. map (λ c. Needs (SameUser c.euid)) (map (λ t. t.0) (filter (λ t. has_pid pid t.1) (zip cs (drop n s.threads))))) (drop_all n s.clients past)

-- what is still to be asked, from the next one on
abbrev pub signals_at : State → ℕ → Option ℕ → List Check
signals_at s pid None = []
signals_at s pid (Some next) = signals_from s pid next

-- clients that aren't threads of the process are passed over
module _ (s : State) (pid : ℕ) (all : length s.threads ≡ length s.clients) where
  abbrev IsOther : ℕ → Type 0
  IsOther c = has_pid pid (get_or s.threads c no_thread) ≡ false

  past-one : (n : ℕ) → IsOther n → signals_from s pid n ≡ signals_from s pid (n + 1)
  past-one n other = ⊎_elim
      (λ (known : n < length s.clients).
      let also : n < length s.threads = omega (arith, known, all) in
      signals-step s pid n known also ∙ ap (λ b. cond b (asked s pid n known also ∷ signals_from s pid (n + 1)) (signals_from s pid (n + 1))) other)
      (λ (over : length s.clients ≤ n). signals-over s pid n over ∙ sym (signals-over s pid (n + 1) (omega (arith, over))))
      (below-or-not n (length s.clients))
    where
      below-or-not : (a b : ℕ) → (a < b) ⊎ (b ≤ a)
      below-or-not a b = ⊎_elim (λ yes. inl (grind (arith, nat_tests))) (λ no. inr (grind (arith, nat_tests))) (cases_Bool (nat_lt a b))

  past-some : (k n : ℕ) → ((c : ℕ) → n ≤ c → c < n + k → IsOther c) → signals_from s pid n ≡ signals_from s pid (n + k)
  past-some zero n others = ap (λ m. signals_from s pid m) (let e : n ≡ n + 0 = omega arith in e)
  past-some (suc k) n others =
      past-one n (others n (omega arith) (omega arith)) ∙ past-some k (n + 1) (λ c from to. others c (omega (arith, from)) (omega (arith, to)))
      ∙ ap (λ m. signals_from s pid m) (let e : (n + 1) + k ≡ n + suc k = omega arith in e)

  pub signals-next : (from : ℕ) (o : Option ℕ) → IfNone o ((c : ℕ) → from ≤ c → IsOther c) → IfSome o (λ k. from ≤ k) → IfSome o (λ k. (c : ℕ) → from ≤ c → c < k → IsOther c)
      → signals_from s pid from ≡ signals_at s pid o
  signals-next from None none above least =
      past-some (length s.clients) from (λ c from to. none c from) ∙ signals-over s pid (from + length s.clients) (omega arith)
  signals-next from (Some high) none above least =
      let back : from + (high - from) ≡ high = omega (arith, above) in
      past-some (high - from) from (λ c from to. least c from (omega (arith, to, back))) ∙ ap (λ m. signals_from s pid m) back

-- a thread that has the pid lives
pub pid-lives : (ts : List Thread) (pid c : ℕ) → has_pid pid (get_or ts c no_thread) ≡ true → (get_or ts c no_thread).has_ended ≡ false
pid-lives ts pid c is = unturned (get_or ts c no_thread).has_ended (and_parts ((get_or ts c no_thread).pid == pid) (not (get_or ts c no_thread).has_ended) is).1

pub allowed-none : (v : Verdict) → allowed_by v ≡ Ok tt → denied_rule v ≡ None
allowed-none (Allowed _) is = refl
allowed-none (Denied rule) is = cc

pub allowed-err : (v : Verdict) (rule : Rule) → allowed_by v ≡ Err rule → denied_rule v ≡ Some rule
allowed-err (Allowed _) rule is = cc
allowed-err (Denied other) rule is = let same : other ≡ rule = cc in ap (λ r. Some r) same
