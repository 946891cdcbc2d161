-- A client stays closed out of what it is closed out of, whatever user and group it becomes.
use Rattle.std.proofs.Common.{◌≡◌, ◌≢◌, ℕ, zero, suc, Bool, true, false, cond, get_or, set, List, [], ◌∷◌, refl, sym, ap, subst, ◌∙◌, ⊎_elim, inl, inr, Option, Some, None}
use Rattle.std.specs.Prelude.{◌⊎◌, ◌==◌, ◌+◌, ◌&&◌, ◌||◌, not, length, map, nat_le, nat_lt, is_none, is_some, unwrap_or, if◌then◌else◌, slice_set, slice_index_or}
use Rattle.std.specs.List.{AllByRecursion, find, list_all, list_any}
use Rattle.std.proofs.lemmas.Bool.{and_parts, cases_Bool, eqb-true, true≢false}
use Rattle.std.proofs.lemmas.Option.{none-some}
use Rattle.std.proofs.lemmas.List.{get_or-set_other}
use Rattle.ipc_call.specs.declared.calls.Call.{Call}
use Rattle.ipc_call.specs.declared.calls.Call.TheVariants.{Assume, Begin, Clone, Exec, Exit, Fork, Kill, Name, SetCreds}
use Rattle.ipc_call.specs.declared.perms.Perm.{Perm}
use Rattle.ipc_call.specs.declared.replies.Answer.TheVariants.{Done}
use Rattle.ipc_call.specs.declared.replies.Waiting.{Waiting}
use Rattle.ipc_call.specs.declared.rules.Rule.TheVariants.{BadPid, ClientInUse, Ended, NoClient, NoProcess, PidInUse, TooManyGroups}
use Rattle.ipc_creds.specs.Credentials.{Credentials, acting_as, became, cap_setgid, cap_setuid, executed, groups_max, has_capability, own_groups, own_users}
use Rattle.ipc_perm.specs.Access.{BecomeGroup, BecomeUser, SetGroups, denial}
use Rattle.ipc_model.specs.State.{Caller, Shared, State, Thread, caller, creds_at, has_exited, has_pid, is_running, no_thread, nobody, pid_at, process_at}
use Rattle.ipc_model.specs.Decision.{Decision, Refused, Waits, Granted, proceeds}
use Rattle.ipc_model.specs.Plan.{Needs, Passes, in_order, ◌⨾◌}
use Rattle.ipc_model.specs.Plan as plans
use Rattle.ipc_model.specs.Processes.{after_exec, ended, ends, free_client, is_other, is_process, process_ended, set_creds, to_signal, with_client, with_creds}
use Rattle.ipc_model.specs.Decide.{can_wait, decide, decide_call, hands_in, is_late, may_call, part_plan, plan}
use Rattle.ipc_model.specs.Cancelled.{cancelled}
use Rattle.ipc_model.specs.Segments.{after_fork}
use Rattle.ipc_model.specs.Step.{Event, at_time, begun, end_waiting, ended_by, expired, is_ready, moved_as, moved_by, settled, step, waiting_as, without}
use Rattle.ipc_history.specs.Waits.{AreNotReady}
use Rattle.ipc_model.proofs.Apart.{renamed-process}
use Rattle.ipc_model.proofs.Calls.{only_parkable}
use Rattle.ipc_model.proofs.Growing.{Keeps}
use Rattle.ipc_model.proofs.Beside.{KeepsClients, clients-kept, is_set_creds}
use Rattle.ipc_model.proofs.Late.{Keeps-call, at-as, late-granted, only_parkable_call}
use Rattle.ipc_model.proofs.Plans.{IfGranted}
use Rattle.ipc_model.proofs.Staying.{free-ended}
use Rattle.ipc_model.proofs.Granting.{Grants, grants-check, grants-found, grants-grant, grants-needs, grants-order, grants-passes}
use Rattle.ipc_laws.specs.Worlds.{is_closed, is_shut}
use Rattle.ipc_laws.proofs.Turns.{kept-settled, left-parked}
use Rattle.ipc_laws.proofs.Lists.{all-filter, all-found, all-map, all-push}

abbrev pub IsWithin : Credentials → Credentials → Type 0
IsWithin c d = (p : Perm) → is_closed c p ≡ true → is_closed d p ≡ true

all-at : (P : ℕ → Bool) (xs : List ℕ) (x : ℕ) → list_all P xs ≡ true → list_any (λ y. y == x) xs ≡ true → P x ≡ true
all-at P [] x all there = absurd (true≢false (sym there))
all-at P (y ∷ ys) x all there =
    let parts = and_parts (P y) (list_all P ys) all in
    ⊎_elim
    (λ (here : (y == x) ≡ true). ap P (sym (eqb-true y x here)) ∙ parts.0)
    (λ (other : (y == x) ≡ false). let later : list_any (λ z. z == x) ys ≡ true = rw other at there in all-at P ys x parts.1 later)
    (cases_Bool (y == x))

-- the first of a list is replaced by one of its members
all-head : (P : ℕ → Bool) (x y z u : ℕ) → list_all P (x ∷ y ∷ z ∷ []) ≡ true → list_any (λ o. o == u) (x ∷ y ∷ z ∷ []) ≡ true → list_all P (u ∷ y ∷ z ∷ []) ≡ true
all-head P x y z u all there =
    let rest = and_parts (P x) (list_all P (y ∷ z ∷ [])) all in
    λ i. (all-at P (x ∷ y ∷ z ∷ []) u all there i) && (rest.1 i)

all-mapped : (P Q : ℕ → Bool) (xs : List ℕ) → ((x : ℕ) → P x ≡ true → Q x ≡ true) → list_all P xs ≡ true → list_all Q xs ≡ true
all-mapped P Q [] then_so all = refl
all-mapped P Q (x ∷ xs) then_so all =
    let parts = and_parts (P x) (list_all P xs) all in
    λ i. (then_so x parts.0 i) && (all-mapped P Q xs then_so parts.1 i)

no-capability : (a b : Bool) → not (a || b) ≡ true → (a ≡ false) × (b ≡ false)
no-capability true b is = absurd (true≢false (sym is))
no-capability false true is = absurd (true≢false (sym is))
no-capability false false is = (refl, refl)

met-one : {R : Type 0} (own cap : Bool) (rule : R) → (if own || cap then None else Some rule) ≡ None → cap ≡ false → own ≡ true
met-one true cap rule met lacks = refl
met-one false true rule met lacks = absurd (true≢false lacks)
met-one false false rule met lacks = absurd (none-some rule (sym met))

met-cap : {R : Type 0} (cap : Bool) (rule : R) → (if cap then None else Some rule) ≡ None → cap ≡ true
met-cap true rule met = refl
met-cap false rule met = absurd (none-some rule (sym met))

module _ (c : Credentials) (euid egid : ℕ) (user : denial c (BecomeUser euid) ≡ None) (group : denial c (BecomeGroup egid) ≡ None) where
  within-became : (groups : Option (List ℕ)) → (is_some groups ≡ true → denial c SetGroups ≡ None) → IsWithin c (became euid egid groups c)
  unfolding is_closed
  within-became groups set p closed =
      let all = and_parts (not (has_capability c cap_setuid || has_capability c cap_setgid)) _ closed in
      let lacks = no-capability (has_capability c cap_setuid) (has_capability c cap_setgid) all.0 in
      let users = met-one (list_any (λ own. own == euid) (own_users c)) (has_capability c cap_setuid) _ user lacks.0 in
      let own_group = met-one (list_any (λ own. own == egid) (own_groups c)) (has_capability c cap_setgid) _ group lacks.1 in
      let by_user = all-head (λ u. list_all (λ g. is_shut (acting_as c u g) p) (own_groups c)) c.euid c.ruid c.suid euid all.1 users in
      let by_both : list_all (λ u. list_all (λ g. is_shut (acting_as c u g) p) (egid ∷ c.rgid ∷ c.sgid ∷ [])) (euid ∷ c.ruid ∷ c.suid ∷ []) ≡ true =
      all-mapped (λ u. list_all (λ g. is_shut (acting_as c u g) p) (own_groups c)) (λ u. list_all (λ g. is_shut (acting_as c u g) p) (egid ∷ c.rgid ∷ c.sgid ∷ [])) (euid ∷ c.ruid ∷ c.suid ∷ [])
      (λ u is. all-head (λ g. is_shut (acting_as c u g) p) c.egid c.rgid c.sgid egid is own_group) by_user in
      by groups set lacks.1 (λ i. (all.0 i) && (by_both i))
    where
      by : (groups : Option (List ℕ)) → (is_some groups ≡ true → denial c SetGroups ≡ None) → has_capability c cap_setgid ≡ false
          → (not (has_capability c cap_setuid || has_capability c cap_setgid) && list_all (λ u. list_all (λ g. is_shut (acting_as c u g) p) (egid ∷ c.rgid ∷ c.sgid ∷ [])) (euid ∷ c.ruid ∷ c.suid ∷ [])) ≡ true
          → is_closed (became euid egid groups c) p ≡ true
      by None set lacks is = is
      by (Some gs) set lacks is = absurd (true≢false (sym (met-cap (has_capability c cap_setgid) _ (set refl)) ∙ lacks))

set-at : (xs : List Credentials) (i : ℕ) (a : Credentials) (k : ℕ) (d : Credentials)
    → (slice_index_or (slice_set xs i a) k d ≡ slice_index_or xs k d) ⊎ ((i ≡ k) × (slice_index_or (slice_set xs i a) k d ≡ a))
set-at [] i a k d = inl refl
set-at (x ∷ xs) zero a zero d = inr (refl, refl)
set-at (x ∷ xs) zero a (suc k) d = inl refl
set-at (x ∷ xs) (suc i) a zero d = inl refl
set-at (x ∷ xs) (suc i) a (suc k) d = ⊎_elim
    (λ (same : slice_index_or (slice_set xs i a) k d ≡ slice_index_or xs k d). inl same)
    (λ (here : (i ≡ k) × (slice_index_or (slice_set xs i a) k d ≡ a)). inr (ap suc here.0, here.1))
    (set-at xs i a k d)

-- a client stays a thread of its process, and stays closed out of what it was closed out of
abbrev pub Lives : ℕ → State → State → Type 0
Lives k s t = IsWithin (creds_at s k) (creds_at t k) × (process_at t k ≡ process_at s k)

lives-on : (k : ℕ) (s t u : State) → Lives k s t → Lives k t u → Lives k s u
lives-on k s t u first second = (λ p closed. second.0 p (first.0 p closed), second.1 ∙ first.1)

lives-same : (k : ℕ) (s t : State) → t.clients ≡ s.clients → t.threads ≡ s.threads → Lives k s t
lives-same k s t clients threads =
    (λ p closed. ap (λ (cs : List Credentials). is_closed (slice_index_or cs k nobody) p) clients ∙ closed, ap (λ (ts : List Thread). (slice_index_or ts k no_thread).process) threads)

-- a client changes, and another keeps its process and its credentials
lives-begun : (k : ℕ) (s : State) (child q p next : ℕ) (d : Credentials) (shared : Shared) → k ≢ child → Lives k s (record (with_client s child q p d) { next = next; shared = shared })
lives-begun k s child q p next d shared ne = (
  λ o closed. ap (λ (e : Credentials). is_closed e o) (get_or-set_other s.clients child k d nobody ne) ∙ closed,
  ap (λ (t : Thread). t.process) (get_or-set_other s.threads child k (record { process = q; pid = p; has_ended = false }) no_thread ne),
)

-- of a thread that has ended the process is told still
still-of : (ts : List Thread) (k : ℕ) → (get_or (set ts k (record (get_or ts k no_thread) { has_ended = true })) k no_thread).process ≡ (get_or ts k no_thread).process
still-of [] k = refl
still-of (t ∷ ts) zero = refl
still-of (t ∷ ts) (suc k) = still-of ts k

kept-process : (ts : List Thread) (k p : ℕ) → (get_or (map (ends p) ts) k no_thread).process ≡ (get_or ts k no_thread).process
kept-process [] k p = refl
kept-process (t ∷ ts) (suc k) p = kept-process ts k p
kept-process (t ∷ ts) zero p = by (t.process == p)
  where
    by : (b : Bool) → (cond b (record t { has_ended = true }) t).process ≡ t.process
    by true = refl
    by false = refl

-- exec keeps the thread that calls it
exec-process : (ts : List Thread) (k p : ℕ) → (get_or (set (map (ends p) ts) k (get_or ts k no_thread)) k no_thread).process ≡ (get_or ts k no_thread).process
exec-process [] k p = refl
exec-process (t ∷ ts) zero p = refl
exec-process (t ∷ ts) (suc k) p = exec-process ts k p

lives-exit : (k : ℕ) (s : State) (who : Caller) (running : Bool) → Lives k s (cond running (ended s k) (process_ended (ended s k) who))
lives-exit k s who true = (λ p closed. closed, still-of s.threads k)
lives-exit k s who false = (λ p closed. closed, still-of s.threads k)

within-set : (s : State) (client euid egid : ℕ) (groups : Option (List ℕ)) → IsWithin (creds_at s client) (became euid egid groups (creds_at s client)) → Lives client s (with_creds s client (became euid egid groups (creds_at s client)))
within-set s client euid egid groups within = (by, refl)
  where
    a : Credentials
    a = became euid egid groups (creds_at s client)

    by : IsWithin (creds_at s client) (creds_at (with_creds s client a) client)
    by p closed = ⊎_elim
        (λ (same : slice_index_or (slice_set s.clients client a) client nobody ≡ slice_index_or s.clients client nobody). ap (λ d. is_closed d p) same ∙ closed)
        (λ (here : (client ≡ client) × (slice_index_or (slice_set s.clients client a) client nobody ≡ a)). ap (λ d. is_closed d p) here.1 ∙ within p closed)
        (set-at s.clients client a client nobody)

module _ (s : State) (client : ℕ) where
  abbrev c : Credentials
  c = creds_at s client

  within-setcreds : (euid egid : ℕ) (groups : Option (List ℕ)) → Grants c (Lives client s) (set_creds s (caller s client) euid egid groups)
  within-setcreds euid egid groups =
      grants-passes (Lives client s) c (nat_le (length (unwrap_or groups [])) groups_max) TooManyGroups tt (λ few.
      grants-needs (Lives client s) c (BecomeUser euid) (λ user.
      grants-needs (Lives client s) c (BecomeGroup egid) (λ group. by groups user group)))
    where
      by : (groups : Option (List ℕ)) → denial c (BecomeUser euid) ≡ None → denial c (BecomeGroup egid) ≡ None
          → Grants c (Lives client s) (in_order (if is_some groups then Needs SetGroups ∷ [] else []) (plans.Grant Done (with_creds s client (became euid egid groups c))))
      by None user group = grants-grant (Lives client s) c Done _ (within-set s client euid egid None (within-became c euid egid user group None (λ is. absurd (true≢false (sym is)))))
      by (Some gs) user group = grants-needs (Lives client s) c SetGroups (λ set. grants-grant (Lives client s) c Done _ (within-set s client euid egid (Some gs) (within-became c euid egid user group (Some gs) (λ is. set))))

  within-set-plan : (euid egid : ℕ) (groups : Option (List ℕ)) → Grants c (Lives client s) (plan s client (SetCreds euid egid groups))
  unfolding part_plan
  within-set-plan euid egid groups = grants-check (Lives client s) c (Passes (may_call s client (SetCreds euid egid groups)) Ended tt) (within-setcreds euid egid groups)

  third : (P : ℕ → Bool) (x y z : ℕ) → list_all P (x ∷ y ∷ z ∷ []) ≡ true → list_all P (x ∷ y ∷ x ∷ []) ≡ true
  third P x y z all =
      let first = and_parts (P x) (list_all P (y ∷ z ∷ [])) all in
      let second = and_parts (P y) (list_all P (z ∷ [])) first.1 in
      λ i. first.0 i && (second.0 i && (first.0 i && true))

  within-executed : IsWithin c (executed c)
  unfolding is_closed
  within-executed p closed =
      let all = and_parts (not (has_capability c cap_setuid || has_capability c cap_setgid)) _ closed in
      let users = third (λ u. list_all (λ g. is_shut (acting_as c u g) p) (own_groups c)) c.euid c.ruid c.suid all.1 in
      let both : list_all (λ u. list_all (λ g. is_shut (acting_as c u g) p) (c.egid ∷ c.rgid ∷ c.egid ∷ [])) (c.euid ∷ c.ruid ∷ c.euid ∷ []) ≡ true =
      all-mapped (λ u. list_all (λ g. is_shut (acting_as c u g) p) (own_groups c)) (λ u. list_all (λ g. is_shut (acting_as c u g) p) (c.egid ∷ c.rgid ∷ c.egid ∷ [])) (c.euid ∷ c.ruid ∷ c.euid ∷ [])
      (λ u is. third (λ g. is_shut (acting_as c u g) p) c.egid c.rgid c.sgid is) users in
      λ i. (all.0 i) && (both i)

  lives-exec : Lives client s (after_exec s (caller s client))
  lives-exec = (by, exec-process s.threads client (process_at s client))
    where
      by : IsWithin c (creds_at (after_exec s (caller s client)) client)
      by p closed = ⊎_elim
          (λ (same : slice_index_or (slice_set s.clients client (executed c)) client nobody ≡ slice_index_or s.clients client nobody). ap (λ d. is_closed d p) same ∙ closed)
          (λ (here : (client ≡ client) × (slice_index_or (slice_set s.clients client (executed c)) client nobody ≡ executed c)). ap (λ d. is_closed d p) here.1 ∙ within-executed p closed)
          (set-at s.clients client (executed c) client nobody)

  lives-executed : Grants c (Lives client s) (plan s client Exec)
  unfolding part_plan
  lives-executed = grants-check (Lives client s) c (Passes (not (has_exited s client)) Ended tt) (grants-grant (Lives client s) c Done _ lives-exec)

  lives-killed : (p : ℕ) → Grants c (Lives client s) (plan s client (Kill p))
  unfolding part_plan
  lives-killed p = grants-check (Lives client s) c (Passes (not (has_exited s client)) Ended tt) (grants-found (Lives client s) c (find (has_pid p) s.threads) NoProcess tt (λ t is.
      grants-order (Lives client s) c (to_signal s (caller s client) p) (grants-grant (Lives client s) c Done _ ((λ q closed. closed), kept-process s.threads client t.process))))

  lives-named : (p : ℕ) → Grants c (Lives client s) (plan s client (Name p))
  unfolding part_plan
  lives-named p = grants-check (Lives client s) c (Passes (not (has_exited s client)) Ended tt) (grants-check (Lives client s) c (Passes (nat_lt 0 p) BadPid tt)
      (grants-check (Lives client s) c (Passes (not (list_any (is_other (process_at s client) p) s.threads)) PidInUse tt)
      (grants-grant (Lives client s) c Done _ ((λ q closed. closed), renamed-process s.threads (process_at s client) p client))))

  -- a client that lives isn't the one that begins
  not-own : not (has_exited s client) ≡ true → (child : ℕ) (t : Thread) → free_client s child ≡ Some t → (client ≡ child → ⊥)
  not-own living child t is same = absurd (both-ways (has_exited s client) (ap (has_exited s) same ∙ free-ended s child t is) living)
    where
      both-ways : (b : Bool) → b ≡ true → not b ≡ true → ⊥
      both-ways true was isnt = true≢false (sym isnt)
      both-ways false was isnt = true≢false (sym was)

  lives-fork : (child p : ℕ) → Grants c (Lives client s) (plan s client (Fork child p))
  unfolding part_plan
  lives-fork child p = grants-passes (Lives client s) c (not (has_exited s client)) Ended tt (λ alive. grants-check (Lives client s) c (Passes (nat_lt 0 p) BadPid tt)
      (grants-check (Lives client s) c (Passes (nat_lt child (length s.threads)) NoClient tt) (grants-found (Lives client s) c (free_client s child) ClientInUse tt (λ t is.
      grants-check (Lives client s) c (Passes (not (is_process s p)) PidInUse tt)
      (grants-grant (Lives client s) c Done _ (lives-begun client s child s.next p (s.next + 1) c (after_fork s.shared (caller s client) s.next) (not-own alive child t is)))))))

  lives-clone : (child : ℕ) → Grants c (Lives client s) (plan s client (Clone child))
  unfolding part_plan
  lives-clone child = grants-passes (Lives client s) c (not (has_exited s client)) Ended tt (λ alive. grants-check (Lives client s) c (Passes (nat_lt child (length s.threads)) NoClient tt)
      (grants-found (Lives client s) c (free_client s child) ClientInUse tt (λ t is.
      grants-grant (Lives client s) c Done _ (lives-begun client s child (process_at s client) (pid_at s client) s.next c s.shared (not-own alive child t is)))))

  lives-ended : Grants c (Lives client s) (plan s client Exit)
  unfolding part_plan
  lives-ended = grants-check (Lives client s) c (Passes (not (has_exited s client)) Ended tt) (grants-grant (Lives client s) c Done _ (lives-exit client s (caller s client) (is_running (ended s client) (process_at s client))))

by-same : (k : ℕ) (s : State) (d : Decision State) → IfGranted (KeepsClients s) d → IfGranted (λ answer new. Lives k s new) d
by-same k s (Refused rule) same = tt
by-same k s Waits same = tt
by-same k s (Granted answer new) same = lives-same k s new same.0 same.1

-- the client's own call, where it hands in no credentials
pub lives-decide : (s : State) (client : ℕ) (call : Call) → hands_in call ≡ false → IfGranted (λ answer new. Lives client s new) (decide s client call)
lives-decide s client (Assume creds) own = absurd (true≢false own)
lives-decide s client (Begin p creds) own = absurd (true≢false own)
lives-decide s client (SetCreds euid egid groups) own = (within-set-plan s client euid egid groups).granted
lives-decide s client (Fork child p) own = (lives-fork s client child p).granted
lives-decide s client (Clone child) own = (lives-clone s client child).granted
lives-decide s client (Name p) own = (lives-named s client p).granted
lives-decide s client Exec own = (lives-executed s client).granted
lives-decide s client (Kill p) own = (lives-killed s client p).granted
lives-decide s client Exit own = (lives-ended s client).granted
lives-decide s client call own = by-same client s (decide s client call) (clients-kept s client call refl)

-- a call that may wait changes no client
not-changing : (call : Call) → can_wait call ≡ true → is_set_creds call ≡ false
not-changing (SetCreds euid egid groups) can = absurd (true≢false (sym can))
not-changing (Assume creds) can = absurd (true≢false (sym can))
not-changing (Begin p creds) can = absurd (true≢false (sym can))
not-changing (Fork child p) can = absurd (true≢false (sym can))
not-changing (Clone child) can = absurd (true≢false (sym can))
not-changing (Name p) can = absurd (true≢false (sym can))
not-changing Exec can = absurd (true≢false (sym can))
not-changing (Kill p) can = absurd (true≢false (sym can))
not-changing Exit can = absurd (true≢false (sym can))
not-changing call can = refl

abbrev pub CanWait : List Waiting → Type 0
CanWait ws = AllByRecursion (λ w. can_wait w.call ≡ true) ws

lives-turn : (k : ℕ) (s : State) (who : ℕ) (d : Decision State) → IfGranted (λ answer new. Lives k s new) d → Lives k s (ended_by s who d).state
lives-turn k s who (Refused rule) lives = (λ p closed. closed, refl)
lives-turn k s who Waits lives = (λ p closed. closed, refl)
lives-turn k s who (Granted answer new) lives = lives

lives-end : (k : ℕ) (s : State) (w : Waiting) → can_wait w.call ≡ true → Lives k s (end_waiting s w).state
lives-end k s w can =
    let rest = without s w.client in
    lives-turn k rest w.client (decide rest w.client w.call) (by-same k rest (decide rest w.client w.call) (clients-kept rest w.client w.call (not-changing w.call can)))

lives-settled : (k : ℕ) (s : State) → CanWait s.parked → Lives k s (settled s).state
lives-settled k s can = (kept-settled (λ t. Lives k s t × CanWait t.parked) (λ t w is holds. (
  lives-on k s t (end_waiting t w).state holds.0 (lives-end k t w (all-found (is_ready t) (λ v. can_wait v.call ≡ true) t.parked w holds.1 is).0),
  subst CanWait (sym (left-parked t w)) (all-filter (λ v. can_wait v.call ≡ true) (λ v. not (v.client == w.client)) t.parked holds.1),
)) s ((λ p closed. closed, refl), can)).0

lives-moved : (k : ℕ) (s : State) (who : ℕ) (call : Call) (d : Decision State) → IfGranted (λ answer new. Lives k s new) d → Lives k s (moved_as s who call d).state
lives-moved k s who call (Refused rule) lives = (λ p closed. closed, refl)
lives-moved k s who call Waits lives = (λ p closed. closed, refl)
lives-moved k s who call (Granted answer new) lives = lives

pub can-moved : (s : State) (who : ℕ) (call : Call) (d : Decision State) → (proceeds d ≡ false → can_wait call ≡ true) → Keeps s d → CanWait s.parked → CanWait (moved_as s who call d).state.parked
can-moved s who call (Refused rule) can keeps are = are
can-moved s who call Waits can keeps are = all-push (λ w. can_wait w.call ≡ true) s.parked (waiting_as s who call) are (ap (λ at. is_some at) (at-as call) ∙ can refl)
can-moved s who call (Granted answer new) can keeps are =
    all-filter (λ w. can_wait w.call ≡ true) (λ w. is_none (cancelled new call w)) new.parked (subst CanWait (sym keeps.0) are)

pub lives-step : (s : State) (e : Event) → hands_in e.call ≡ false → AreNotReady s → Lives e.client s (step s e).state
lives-step s e own quiet =
    let now = begun s e.now in
    let made = decide_call now e.client e.call in
    let moved = (moved_by now e.client e.call).state in
    let can : CanWait s.parked = all-map (λ w. is_ready s w ≡ false) (λ w. can_wait w.call ≡ true) (λ w waits. only_parkable s w.client w.call waits) s.parked quiet in
    let can_now : CanWait now.parked = all-filter (λ w. can_wait w.call ≡ true) (λ w. is_none (expired (at_time s e.now) w)) s.parked can in
    let starts : Lives e.client s now = (λ p closed. closed, refl) in
    let lives = late-granted (λ answer new. Lives e.client now new) (is_late now e.call) (decide now e.client e.call) (lives-decide now e.client e.call own) in
    lives-on e.client s now (settled moved).state starts
    (lives-on e.client now moved (settled moved).state (lives-moved e.client now e.client e.call made lives)
    (lives-settled e.client moved (can-moved now e.client e.call made (only_parkable_call now e.client e.call) (Keeps-call now e.client e.call) can_now)))
