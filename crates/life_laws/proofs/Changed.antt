-- What a call leaves of each client that it doesn't name.
use Rattle.std.proofs.Common.{◌≡◌, ◌≢◌, ℕ, zero, suc, Bool, true, false, cond, eqb, set, List, [], ◌∷◌, refl, sym, ap, ◌∙◌, ⊎_elim, Option, Some, None}
use Rattle.std.specs.Prelude.{◌&&◌, ◌==◌, map, not}
use Rattle.std.specs.List.{find}
use Rattle.std.proofs.lemmas.Bool.{and_parts, cases_eq, eq-eqb, eqb-false, eqb-true, false≢true, true≢false}
use Rattle.std.proofs.lemmas.List.{get_or-set_other}
use Rattle.std.proofs.lemmas.Option.{none-some, same_Some}
use Rattle.ipc_call.specs.declared.calls.Call.{Call}
use Rattle.ipc_call.specs.declared.calls.Call.TheVariants.{SetCreds, Assume, Begin, Fork, Clone, Name, Exec, Exit, Kill}
use Rattle.ipc_creds.specs.Credentials.{Credentials}
use Rattle.ipc_model.specs.State.{State, Thread, has_exited, has_pid, no_thread, nobody, pid_at, process_at, runs, thread_at}
use Rattle.ipc_model.specs.Processes.{ends, renamed}
use Rattle.ipc_model.specs.Tidy.{IsLive, thread_in}
use Rattle.ipc_model.proofs.Apart.{renamed-process}
use Rattle.ipc_model.proofs.Living.{renamed-ended}
use Rattle.life_laws.specs.Lives.{HaveOnePid, clients_after, creds_in, gone, is_begun_by, is_ended_by, takes_creds, takes_pid, threads_after, without_process}

pub apart : (a b : ℕ) → (a == b) ≡ false → b ≢ a
apart a b isnt e = eqb-false a b isnt (sym e)

pub turned : (b : Bool) → not b ≡ true → b ≡ false
turned true is = absurd (false≢true is)
turned false is = refl

pub ended-if : (b : Bool) → not b ≡ false → b ≡ true
ended-if true is = refl
ended-if false is = absurd (true≢false is)

-- ONE THREAD OF A LIST

abbrev process-of : Thread → ℕ
process-of t = t.process

abbrev pid-of : Thread → ℕ
pid-of t = t.pid

-- what a replacement has as what it replaces
pub set-kept : (f : Thread → ℕ) (ts : List Thread) (i : ℕ) (a : Thread) (k : ℕ) → f a ≡ f (thread_in ts i) → f (thread_in (set ts i a) k) ≡ f (thread_in ts k)
set-kept f [] i a k same = refl
set-kept f (t ∷ ts) zero a zero same = same
set-kept f (t ∷ ts) zero a (suc k) same = refl
set-kept f (t ∷ ts) (suc i) a zero same = refl
set-kept f (t ∷ ts) (suc i) a (suc k) same = set-kept f ts i a k same

-- a replacement that lives is there
pub set-there : (ts : List Thread) (i : ℕ) (a : Thread) → IsLive (set ts i a) i → thread_in (set ts i a) i ≡ a
set-there [] i a live = absurd (true≢false live)
set-there (t ∷ ts) zero a live = refl
set-there (t ∷ ts) (suc i) a live = set-there ts i a live

-- a thread that has ended stays what it is
pub ended-same : (t : Thread) → t.has_ended ≡ true → gone t ≡ t
ended-same t is = ap (λ b. record t { has_ended = b }) (sym is)

pub ends-not : (q : ℕ) (t : Thread) → runs q t ≡ false → ends q t ≡ t
ends-not q t off = by (eqb t.process q) refl off
  where
    by : (b : Bool) → eqb t.process q ≡ b → b && not t.has_ended ≡ false → ends q t ≡ t
    by true is off = ap (λ b. cond b (gone t) t) is ∙ ended-same t (ended-if t.has_ended off)
    by false is off = ap (λ b. cond b (gone t) t) is

pub ends-so : (q : ℕ) (t : Thread) → t.process ≡ q → ends q t ≡ gone t
ends-so q t same = ap (λ b. cond b (gone t) t) (eq-eqb t.process q same)

-- all threads of a process end
pub ends-at : (q : ℕ) (ts : List Thread) (k : ℕ) → thread_in (map (ends q) ts) k ≡ ends q (thread_in ts k)
ends-at q [] k = sym (ends-nobody (eqb 0 q))
  where
    ends-nobody : (b : Bool) → cond b no_thread no_thread ≡ no_thread
    ends-nobody true = refl
    ends-nobody false = refl
ends-at q (t ∷ ts) zero = refl
ends-at q (t ∷ ts) (suc k) = ends-at q ts k

ends-process : (q : ℕ) (t : Thread) → (ends q t).process ≡ t.process
ends-process q t = by (eqb t.process q)
  where
    by : (b : Bool) → (cond b (gone t) t).process ≡ t.process
    by true = refl
    by false = refl

ends-pid : (q : ℕ) (t : Thread) → (ends q t).pid ≡ t.pid
ends-pid q t = by (eqb t.process q)
  where
    by : (b : Bool) → (cond b (gone t) t).pid ≡ t.pid
    by true = refl
    by false = refl

mapped-process : (q : ℕ) (ts : List Thread) (k : ℕ) → (thread_in (map (ends q) ts) k).process ≡ (thread_in ts k).process
mapped-process q ts k = ap process-of (ends-at q ts k) ∙ ends-process q (thread_in ts k)

mapped-pid : (q : ℕ) (ts : List Thread) (k : ℕ) → (thread_in (map (ends q) ts) k).pid ≡ (thread_in ts k).pid
mapped-pid q ts k = ap pid-of (ends-at q ts k) ∙ ends-pid q (thread_in ts k)

-- exec leaves its own thread
pub exec-here : (ts : List Thread) (f : Thread → Thread) (k : ℕ) → thread_in (set (map f ts) k (thread_in ts k)) k ≡ thread_in ts k
exec-here [] f k = refl
exec-here (t ∷ ts) f zero = refl
exec-here (t ∷ ts) f (suc k) = exec-here ts f k

-- a name leaves who isn't a thread of the process, and who has ended
pub renamed-not : (q p : ℕ) (ts : List Thread) (k : ℕ) → runs q (thread_in ts k) ≡ false → thread_in (map (renamed q p) ts) k ≡ thread_in ts k
renamed-not q p [] k off = refl
renamed-not q p (t ∷ ts) zero off = ap (λ b. cond b (record t { pid = p }) t) off
renamed-not q p (t ∷ ts) (suc k) off = renamed-not q p ts k off

pub renamed-so : (q p : ℕ) (ts : List Thread) (k : ℕ) → runs q (thread_in ts k) ≡ true → thread_in (map (renamed q p) ts) k ≡ record (thread_in ts k) { pid = p }
renamed-so q p [] k on = absurd (false≢true (and_parts (eqb 0 q) false on).1)
renamed-so q p (t ∷ ts) zero on = ap (λ b. cond b (record t { pid = p }) t) on
renamed-so q p (t ∷ ts) (suc k) on = renamed-so q p ts k on

-- the first of a pid is a thread of the list, and has it
pub found-at : (p : ℕ) (ts : List Thread) (t : Thread) → find (has_pid p) ts ≡ Some t → (k : ℕ) × (thread_in ts k ≡ t) × (has_pid p t ≡ true)
found-at p [] t is = absurd (none-some t is)
found-at p (x ∷ ts) t is = by (has_pid p x) refl is (found-at p ts t)
  where
    by : (b : Bool) → has_pid p x ≡ b → cond b (Some x) (find (has_pid p) ts) ≡ Some t
        → (find (has_pid p) ts ≡ Some t → (k : ℕ) × (thread_in ts k ≡ t) × (has_pid p t ≡ true))
        → (k : ℕ) × (thread_in (x ∷ ts) k ≡ t) × (has_pid p t ≡ true)
    by true here is rest = let same = same_Some x t is in (zero, same, ap (has_pid p) (sym same) ∙ here)
    by false not_here is rest = let later = rest is in (suc later.0, later.1, later.2)

-- where a thread has it, there is a first
pub found-by : (p : ℕ) (ts : List Thread) (k : ℕ) → has_pid p (thread_in ts k) ≡ true → (t : Thread) × (find (has_pid p) ts ≡ Some t)
found-by p [] k is = absurd (false≢true (and_parts (eqb 0 p) false is).1)
found-by p (x ∷ ts) zero is = (x, ap (λ b. cond b (Some x) (find (has_pid p) ts)) is)
found-by p (x ∷ ts) (suc k) is = by (has_pid p x) refl (found-by p ts k is)
  where
    by : (b : Bool) → has_pid p x ≡ b → (t : Thread) × (find (has_pid p) ts ≡ Some t) → (t : Thread) × (find (has_pid p) (x ∷ ts) ≡ Some t)
    by true here rest = (x, ap (λ b. cond b (Some x) (find (has_pid p) ts)) here)
    by false not_here rest = (rest.0, ap (λ b. cond b (Some x) (find (has_pid p) ts)) not_here ∙ rest.1)

pub pid-parts : (p : ℕ) (t : Thread) → has_pid p t ≡ true → (t.pid ≡ p) × (t.has_ended ≡ false)
pid-parts p t is = let parts = and_parts (eqb t.pid p) (not t.has_ended) is in (eqb-true t.pid p parts.0, turned t.has_ended parts.1)

pub pid-from : (p : ℕ) (t : Thread) → t.pid ≡ p → t.has_ended ≡ false → has_pid p t ≡ true
pid-from p t is live = λ i. eq-eqb t.pid p is i && not (live i)

pub runs-parts : (q : ℕ) (t : Thread) → runs q t ≡ true → (t.process ≡ q) × (t.has_ended ≡ false)
runs-parts q t is = let parts = and_parts (eqb t.process q) (not t.has_ended) is in (eqb-true t.process q parts.0, turned t.has_ended parts.1)

pub runs-from : (q : ℕ) (t : Thread) → t.process ≡ q → t.has_ended ≡ false → runs q t ≡ true
runs-from q t is live = λ i. eq-eqb t.process q is i && not (live i)

-- who doesn't have the pid isn't a thread of its process
pub other-process : (p : ℕ) (ts : List Thread) (t : Thread) → HaveOnePid ts → find (has_pid p) ts ≡ Some t → (k : ℕ) → has_pid p (thread_in ts k) ≡ false → runs t.process (thread_in ts k) ≡ false
other-process p ts t one is k off = by (runs t.process (thread_in ts k)) refl
  where
    by : (b : Bool) → runs t.process (thread_in ts k) ≡ b → b ≡ false
    by false isnt = refl
    by true on =
        let at = found-at p ts t is in
        let first = pid-parts p t at.2 in
        let here = runs-parts t.process (thread_in ts k) on in
        let same : (thread_in ts k).pid ≡ p = one k at.0 here.1 (ap (λ (x : Thread). x.has_ended) at.1 ∙ first.1) (here.0 ∙ sym (ap process-of at.1)) ∙ ap pid-of at.1 ∙ first.0 in
        absurd (true≢false (sym (pid-from p (thread_in ts k) same here.1) ∙ off))

-- EACH CLIENT AFTER A CALL

creds-other : (cs : List Credentials) (client who : ℕ) (c : Credentials) → (client == who) ≡ false → creds_in (set cs client c) who ≡ creds_in cs who
creds-other cs client who c other = get_or-set_other cs client who c nobody (apart client who other)

thread-other : (ts : List Thread) (client who : ℕ) (t : Thread) → (client == who) ≡ false → thread_in (set ts client t) who ≡ thread_in ts who
thread-other ts client who t other = get_or-set_other ts client who t no_thread (apart client who other)

pub creds-after : (cs : List Credentials) (client : ℕ) (call : Call) (who : ℕ) → takes_creds client call who ≡ false → creds_in (clients_after cs client call) who ≡ creds_in cs who
creds-after cs client (SetCreds euid egid groups) who other = creds-other cs client who _ other
creds-after cs client (Assume creds) who other = creds-other cs client who _ other
creds-after cs client (Begin p creds) who other = creds-other cs client who _ other
creds-after cs client (Fork child p) who other = creds-other cs child who _ other
creds-after cs client (Clone child) who other = creds-other cs child who _ other
creds-after cs client Exec who other = creds-other cs client who _ other
creds-after cs client call who other = refl

killed-process : (o : Option Thread) (ts : List Thread) (who : ℕ) → (thread_in (without_process o ts) who).process ≡ (thread_in ts who).process
killed-process None ts who = refl
killed-process (Some t) ts who = mapped-process t.process ts who

killed-pid : (o : Option Thread) (ts : List Thread) (who : ℕ) → (thread_in (without_process o ts) who).pid ≡ (thread_in ts who).pid
killed-pid None ts who = refl
killed-pid (Some t) ts who = mapped-pid t.process ts who

pub process-after : (next : ℕ) (ts : List Thread) (client : ℕ) (call : Call) (who : ℕ) → is_begun_by client call who ≡ false
    → (thread_in (threads_after next ts client call) who).process ≡ (thread_in ts who).process
process-after next ts client (Begin p creds) who other = ap process-of (thread-other ts client who _ other)
process-after next ts client (Fork child p) who other = ap process-of (thread-other ts child who _ other)
process-after next ts client (Clone child) who other = ap process-of (thread-other ts child who _ other)
process-after next ts client (Name p) who other = renamed-process ts (thread_in ts client).process p who
process-after next ts client Exec who other =
    set-kept process-of (map (ends (thread_in ts client).process) ts) client (thread_in ts client) who (sym (mapped-process (thread_in ts client).process ts client))
    ∙ mapped-process (thread_in ts client).process ts who
process-after next ts client (Kill p) who other = killed-process (find (has_pid p) ts) ts who
process-after next ts client Exit who other = set-kept process-of ts client (gone (thread_in ts client)) who refl
process-after next ts client call who other = refl

pub pid-after : (s : State) (client : ℕ) (call : Call) (who : ℕ) → takes_pid s client call who ≡ false
    → (thread_in (threads_after s.next s.threads client call) who).pid ≡ pid_at s who
pid-after s client (Begin p creds) who other = ap pid-of (thread-other s.threads client who _ other)
pid-after s client (Fork child p) who other = ap pid-of (thread-other s.threads child who _ other)
pid-after s client (Clone child) who other = ap pid-of (thread-other s.threads child who _ other)
pid-after s client (Name p) who other = ap pid-of (renamed-not (process_at s client) p s.threads who other)
pid-after s client Exec who other =
    set-kept pid-of (map (ends (process_at s client)) s.threads) client (thread_at s client) who (sym (mapped-pid (process_at s client) s.threads client))
    ∙ mapped-pid (process_at s client) s.threads who
pid-after s client (Kill p) who other = killed-pid (find (has_pid p) s.threads) s.threads who
pid-after s client Exit who other = set-kept pid-of s.threads client (gone (thread_at s client)) who refl
pid-after s client call who other = refl

killed-not : (p : ℕ) (ts : List Thread) (o : Option Thread) → find (has_pid p) ts ≡ o → HaveOnePid ts → (who : ℕ) → has_pid p (thread_in ts who) ≡ false → thread_in (without_process o ts) who ≡ thread_in ts who
killed-not p ts None is one who off = refl
killed-not p ts (Some t) is one who off = ends-at t.process ts who ∙ ends-not t.process (thread_in ts who) (other-process p ts t one is who off)

-- by a kill who doesn't have the pid is what it was
pub kill-not : (p : ℕ) (ts : List Thread) → HaveOnePid ts → (who : ℕ) → has_pid p (thread_in ts who) ≡ false → thread_in (without_process (find (has_pid p) ts) ts) who ≡ thread_in ts who
kill-not p ts one who off = killed-not p ts (find (has_pid p) ts) refl one who off

-- by an exec who isn't another thread of the process
pub exec-not : (s : State) (client who : ℕ) → runs (process_at s client) (thread_at s who) && not (client == who) ≡ false
    → thread_in (threads_after s.next s.threads client Exec) who ≡ thread_at s who
exec-not s client who off = ⊎_elim
    (λ (e : who ≡ client). ap (thread_in after) e ∙ exec-here s.threads (ends (process_at s client)) client ∙ ap (thread_in s.threads) (sym e))
    (λ (ne : who ≡ client → ⊥).
    get_or-set_other (map (ends (process_at s client)) s.threads) client who (thread_at s client) no_thread ne
    ∙ ends-at (process_at s client) s.threads who
    ∙ ends-not (process_at s client) (thread_at s who) (by (runs (process_at s client) (thread_at s who)) (client == who) off (λ e. ne (sym (eqb-true client who e)))))
    (cases_eq who client)
  where
    after : List Thread
    after = threads_after s.next s.threads client Exec

    by : (b own : Bool) → b && not own ≡ false → (own ≡ true → ⊥) → b ≡ false
    by false own off other = refl
    by true true off other = absurd (other refl)
    by true false off other = absurd (true≢false off)

pub ended-after : (s : State) → HaveOnePid s.threads → (client : ℕ) (call : Call) (who : ℕ) → is_begun_by client call who ≡ false → is_ended_by s client call who ≡ false
    → (thread_in (threads_after s.next s.threads client call) who).has_ended ≡ has_exited s who
ended-after s one client (Begin p creds) who other lasts = ap (λ (t : Thread). t.has_ended) (thread-other s.threads client who _ other)
ended-after s one client (Fork child p) who other lasts = ap (λ (t : Thread). t.has_ended) (thread-other s.threads child who _ other)
ended-after s one client (Clone child) who other lasts = ap (λ (t : Thread). t.has_ended) (thread-other s.threads child who _ other)
ended-after s one client (Name p) who other lasts = renamed-ended s.threads (process_at s client) p who
ended-after s one client Exec who other lasts = ap (λ (t : Thread). t.has_ended) (exec-not s client who lasts)
ended-after s one client (Kill p) who other lasts = ap (λ (t : Thread). t.has_ended) (kill-not p s.threads one who lasts)
ended-after s one client Exit who other lasts = ap (λ (t : Thread). t.has_ended) (thread-other s.threads client who _ lasts)
ended-after s one client call who other lasts = refl
