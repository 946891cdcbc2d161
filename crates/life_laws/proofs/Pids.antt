-- After every history the threads of a process that live have one pid.
use Rattle.std.proofs.Common.{◌≡◌, ℕ, ◌+◌, ◌<◌, zero, suc, Bool, true, false, set, List, [], ◌∷◌, refl, sym, ap, subst, arith, ◌∙◌, ⊎_elim, inl, inr, Option, Some, None}
use Rattle.std.specs.Prelude.{◌⊎◌, map}
use Rattle.std.specs.List.{AllByRecursion, find}
use Rattle.std.proofs.lemmas.Bool.{cases_eq, true≢false}
use Rattle.std.proofs.lemmas.List.{get_or-set_other}
use Rattle.ipc_call.specs.declared.calls.Call.{Call}
use Rattle.ipc_call.specs.declared.calls.Call.TheVariants.{Begin, Fork, Clone, Name, Exec, Exit, Kill}
use Rattle.ipc_creds.specs.Credentials.{Credentials}
use Rattle.ipc_model.specs.State.{State, Thread, first_threads, has_exited, has_pid, no_thread, opening, process_at, pid_at, runs}
use Rattle.ipc_model.specs.Decision.{Decision, Granted, Refused, Waits, outcome_of}
use Rattle.ipc_model.specs.Decide.{decide_call, may_call}
use Rattle.ipc_model.specs.Processes.{ends, renamed}
use Rattle.ipc_model.specs.Step.{Event, begun, step}
use Rattle.ipc_model.specs.Tidy.{IsLive, IsTidy, thread_in}
use Rattle.ipc_model.proofs.Apart.{left-alone, renamed-process}
use Rattle.ipc_model.proofs.Living.{renamed-ended}
use Rattle.ipc_model.proofs.Threads.{all-at}
use Rattle.ipc_model.proofs.Tidying.{tidy-opening, tidy-step}
use Rattle.ipc_history.specs.History.{History, run, run_from}
use Rattle.life_laws.specs.Lives.{HaveOnePid, gone, is_granted, threads_after, threads_by, without_process}
use Rattle.life_laws.proofs.Changed.{exec-here, renamed-not, renamed-so, runs-from, runs-parts, set-there, turned}
use Rattle.life_laws.proofs.Steps.{granted-may, threads-step}
use Rattle.life_laws.proofs.Waits.{CanWait, can-step}

abbrev process-of : Thread → ℕ
process-of t = t.process

abbrev pid-of : Thread → ℕ
pid-of t = t.pid

abbrev ended-of : Thread → Bool
ended-of t = t.has_ended

-- no thread comes
one-fewer : (ts us : List Thread) → HaveOnePid ts → ((c : ℕ) → IsLive us c → thread_in us c ≡ thread_in ts c) → HaveOnePid us
one-fewer ts us one each c d live also same =
    let x = each c live in
    let y = each d also in
    ap pid-of x ∙ one c d (sym (ap ended-of x) ∙ live) (sym (ap ended-of y) ∙ also) (sym (ap process-of x) ∙ same ∙ ap process-of y) ∙ sym (ap pid-of y)

-- one comes
module _ (ts : List Thread) (child : ℕ) (a : Thread) (one : HaveOnePid ts)
    (own : (c : ℕ) → IsLive ts c → (thread_in ts c).process ≡ a.process → (thread_in ts c).pid ≡ a.pid) where
  abbrev us : List Thread
  us = set ts child a

  abbrev Stayed : ℕ → Type 0
  Stayed c = (IsLive ts c) × (thread_in us c ≡ thread_in ts c)

  each : (c : ℕ) → IsLive us c → (thread_in us c ≡ a) ⊎ Stayed c
  each c live = ⊎_elim
      (λ (e : c ≡ child). inl (ap (thread_in us) e ∙ set-there ts child a (sym (ap (λ n. (thread_in us n).has_ended) e) ∙ live)))
      (λ (ne : c ≡ child → ⊥). let same = get_or-set_other ts child c a no_thread ne in inr (sym (ap ended-of same) ∙ live, same))
      (cases_eq c child)

  one-begun : HaveOnePid us
  one-begun c d live also same = ⊎_elim
      (λ (x : thread_in us c ≡ a). ⊎_elim
      (λ (y : thread_in us d ≡ a). ap pid-of x ∙ sym (ap pid-of y))
      (λ (y : Stayed d). ap pid-of x ∙ sym (own d y.0 (sym (ap process-of y.1) ∙ sym same ∙ ap process-of x)) ∙ sym (ap pid-of y.1))
      (each d also))
      (λ (x : Stayed c). ⊎_elim
      (λ (y : thread_in us d ≡ a). ap pid-of x.1 ∙ own c x.0 (sym (ap process-of x.1) ∙ same ∙ ap process-of y) ∙ sym (ap pid-of y))
      (λ (y : Stayed d). ap pid-of x.1 ∙ one c d x.0 y.0 (sym (ap process-of x.1) ∙ same ∙ ap process-of y.1) ∙ sym (ap pid-of y.1))
      (each d also))
      (each c live)

-- the process of the next serial number has no thread yet
next-new : (ts : List Thread) (next p : ℕ) → AllByRecursion (λ t. t.process < next) ts → (c : ℕ) → IsLive ts c → (thread_in ts c).process ≡ next → (thread_in ts c).pid ≡ p
next-new ts next p below c live same = let lt = all-at next ts c below live in absurd (omega (arith, lt, same))

one-killed : (ts : List Thread) → HaveOnePid ts → (o : Option Thread) → HaveOnePid (without_process o ts)
one-killed ts one None = one
one-killed ts one (Some t) = one-fewer ts (map (ends t.process) ts) one (λ c live. (left-alone ts t.process c live).0)

one-exited : (ts : List Thread) (client : ℕ) → HaveOnePid ts → HaveOnePid (set ts client (gone (thread_in ts client)))
one-exited ts client one = one-fewer ts us one (λ c live. ⊎_elim
    (λ (e : c ≡ client).
    let here : IsLive us client = sym (ap (λ n. (thread_in us n).has_ended) e) ∙ live in
    absurd (true≢false (sym (ap ended-of (set-there ts client (gone (thread_in ts client)) here)) ∙ here)))
    (λ (ne : c ≡ client → ⊥). get_or-set_other ts client c (gone (thread_in ts client)) no_thread ne)
    (cases_eq c client))
  where
    us : List Thread
    us = set ts client (gone (thread_in ts client))

one-executed : (ts : List Thread) (client : ℕ) → HaveOnePid ts → HaveOnePid (set (map (ends (thread_in ts client).process) ts) client (thread_in ts client))
one-executed ts client one = one-fewer ts us one (λ c live. ⊎_elim
    (λ (e : c ≡ client). ap (thread_in us) e ∙ exec-here ts (ends own) client ∙ ap (thread_in ts) (sym e))
    (λ (ne : c ≡ client → ⊥).
    let same = get_or-set_other (map (ends own) ts) client c (thread_in ts client) no_thread ne in
    same ∙ (left-alone ts own c (sym (ap ended-of same) ∙ live)).0)
    (cases_eq c client))
  where
    own : ℕ
    own = (thread_in ts client).process

    us : List Thread
    us = set (map (ends own) ts) client (thread_in ts client)

one-named : (ts : List Thread) (q p : ℕ) → HaveOnePid ts → HaveOnePid (map (renamed q p) ts)
one-named ts q p one c d live also same = by (runs q (thread_in ts c)) refl (runs q (thread_in ts d)) refl
  where
    here : IsLive ts c
    here = sym (renamed-ended ts q p c) ∙ live

    there : IsLive ts d
    there = sym (renamed-ended ts q p d) ∙ also

    alike : (thread_in ts c).process ≡ (thread_in ts d).process
    alike = sym (renamed-process ts q p c) ∙ same ∙ renamed-process ts q p d

    by : (b : Bool) → runs q (thread_in ts c) ≡ b → (too : Bool) → runs q (thread_in ts d) ≡ too
        → (thread_in (map (renamed q p) ts) c).pid ≡ (thread_in (map (renamed q p) ts) d).pid
    by true on true also_on = ap pid-of (renamed-so q p ts c on) ∙ sym (ap pid-of (renamed-so q p ts d also_on))
    by false off false also_off = ap pid-of (renamed-not q p ts c off) ∙ one c d here there alike ∙ sym (ap pid-of (renamed-not q p ts d also_off))
    by true on false also_off = absurd (true≢false (sym (runs-from q (thread_in ts d) (sym alike ∙ (runs-parts q (thread_in ts c) on).0) there) ∙ also_off))
    by false off true also_on = absurd (true≢false (sym (runs-from q (thread_in ts c) (alike ∙ (runs-parts q (thread_in ts d) also_on).0) here) ∙ off))

one-after : (s : State) (client : ℕ) (call : Call) → IsTidy s → HaveOnePid s.threads → may_call s client call ≡ true → HaveOnePid (threads_after s.next s.threads client call)
one-after s client (Begin p creds) tidy one may =
    one-begun s.threads client (record { process = s.next; pid = p; has_ended = false }) one (next-new s.threads s.next p tidy.numbered.below)
one-after s client (Fork child p) tidy one may =
    one-begun s.threads child (record { process = s.next; pid = p; has_ended = false }) one (next-new s.threads s.next p tidy.numbered.below)
one-after s client (Clone child) tidy one may =
    one-begun s.threads child (record { process = process_at s client; pid = pid_at s client; has_ended = false }) one
    (λ c live same. one c client live (turned (has_exited s client) may) same)
one-after s client (Name p) tidy one may = one-named s.threads (process_at s client) p one
one-after s client Exec tidy one may = one-executed s.threads client one
one-after s client (Kill p) tidy one may = one-killed s.threads one (find (has_pid p) s.threads)
one-after s client Exit tidy one may = one-exited s.threads client one
one-after s client call tidy one may = one

one-step : (s : State) (e : Event) → CanWait s.parked → IsTidy s → HaveOnePid s.threads → HaveOnePid (step s e).state.threads
one-step s e can tidy one = subst HaveOnePid (sym (threads-step s e can)) (by (decide_call (begun s e.now) e.client e.call) refl)
  where
    by : (d : Decision State) → decide_call (begun s e.now) e.client e.call ≡ d → HaveOnePid (threads_by s e (outcome_of d))
    by (Refused rule) is = one
    by Waits is = one
    by (Granted answer new) is = one-after s e.client e.call tidy one (granted-may (begun s e.now) e.client e.call (ap (λ (d : Decision State). is_granted (outcome_of d)) is))

one-from : (s : State) (es : List Event) → CanWait s.parked → IsTidy s → HaveOnePid s.threads → HaveOnePid (run_from s es).threads
one-from s [] can tidy one = one
one-from s (e ∷ es) can tidy one = one-from (step s e).state es (can-step s e can) (tidy-step s e tidy) (one-step s e can tidy one)

first-shown : (n : ℕ) (cs : List Credentials) (client : ℕ) → IsLive (first_threads n cs) client
    → (thread_in (first_threads n cs) client).pid ≡ (thread_in (first_threads n cs) client).process + 1
unfolding first_threads
first-shown n [] client live = absurd (true≢false live)
first-shown n (c ∷ cs) zero live = refl
first-shown n (c ∷ cs) (suc client) live = first-shown (n + 1) cs client live

pub one-run : (h : History) → HaveOnePid (run h).threads
one-run h = one-from (opening h.limits h.clients) h.events tt (tidy-opening h.limits h.clients) (λ c d live also same.
    first-shown 0 h.clients c live ∙ ap (λ n. n + 1) same ∙ sym (first-shown 0 h.clients d also))
