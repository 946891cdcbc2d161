-- What is decided on the calls of the life of processes, where their checks pass.
use Rattle.std.proofs.Common.{◌≡◌, ◌≢◌, ℕ, ◌<◌, ◌≤◌, zero, suc, Bool, true, false, cond, eqb, List, [], ◌∷◌, length, refl, sym, ap, ◌∙◌, Option, Some, None}
use Rattle.std.specs.Prelude.{◌==◌, map, nat_le, nat_lt, not, option_and_then, slice_get}
use Rattle.std.specs.List.{find, list_any}
use Rattle.std.proofs.lemmas.Bool.{and_parts, eq-eqb, false≢true, le-leb, lt-ltb, or_from, or_right, true≢false}
use Rattle.std.proofs.lemmas.Option.{slice_get-get_or}
use Rattle.ipc_call.specs.declared.calls.Call.TheVariants.{Assume, Begin, Clone, Exec, Exit, Fork, Interrupt, InterruptThread, Kill, Name}
use Rattle.ipc_call.specs.declared.calls.Identity.{Identity}
use Rattle.ipc_call.specs.declared.replies.Answer.{Answer}
use Rattle.ipc_call.specs.declared.replies.Answer.TheVariants.{Done}
use Rattle.ipc_call.specs.declared.rules.Rule.{Rule}
use Rattle.ipc_call.specs.declared.rules.Rule.TheVariants.{BadPid, ClientInUse, Ended, NoClient, NoProcess, NotSameUser, PidInUse, TooManyGroups}
use Rattle.ipc_creds.specs.Credentials.{Credentials, cap_sys_admin, groups_max, has_capability}
use Rattle.ipc_perm.specs.Access.{Need, SameUser, denial}
use Rattle.ipc_model.specs.State.{State, Thread, caller, creds_at, has_exited, has_pid, is_running, no_thread, pid_at, process_at, thread_at}
use Rattle.ipc_model.specs.Decision.{Decision, Granted, Refused}
use Rattle.ipc_model.specs.Plan as plans
use Rattle.ipc_model.specs.Plan.{Check, IsPlain, Needs, Passes, Plan, decision, found, in_order, unless, ◌⨾◌}
use Rattle.ipc_model.specs.Processes.{after_exec, all_ended, as_process, credentials_of, ended, free_client, if_ended, is_other, is_process, process_ended, renamed, threads_of, with_client, with_creds, with_process}
use Rattle.ipc_model.specs.Segments.{after_fork}
use Rattle.ipc_model.specs.Decide.{part_plan, plan}
use Rattle.ipc_model.specs.Tidy.{IsLive, thread_in}
use Rattle.life_laws.specs.Lives.{IsFree, IsFreeBut}
use Rattle.life_laws.proofs.Changed.{pid-parts}

-- what is decided by a plan
pub record Decides {X : Type 0} (c : Credentials) (d : Decision X) (p : Plan X) : Type 0 where
  pub is : decision c p ≡ d

module _ {X : Type 0} (c : Credentials) (d : Decision X) where
  decides-grant : (answer : Answer) (new : X) → Granted answer new ≡ d → Decides c d (plans.Grant answer new)
  decides-grant answer new same = record { is = same }

  decides-passes : (b : Bool) (rule : Rule) (plain : IsPlain rule) {p : Plan X} → b ≡ true → Decides c d p → Decides c d (Passes b rule plain ⨾ p)
  decides-passes b rule plain {p} so rest = record { is = ap (λ (x : Bool). cond x (decision c p) (Refused rule)) so ∙ rest.is }

  decides-fails : (b : Bool) (rule : Rule) (plain : IsPlain rule) {p : Plan X} → b ≡ false → Refused rule ≡ d → Decides c d (Passes b rule plain ⨾ p)
  decides-fails b rule plain {p} isnt same = record { is = ap (λ (x : Bool). cond x (decision c p) (Refused rule)) isnt ∙ same }

  decides-needs : (need : Need) {p : Plan X} → denial c need ≡ None → Decides c d p → Decides c d (Needs need ⨾ p)
  decides-needs need {p} met rest = record { is = ap (λ (o : Option Rule). unless o (decision c p)) met ∙ rest.is }

  decides-found : {Z : Type 0} (o : Option Z) (rule : Rule) (plain : IsPlain rule) (F : Z → Plan X) (z : Z) → o ≡ Some z → Decides c d (F z) → Decides c d (found o rule plain F)
  decides-found {Z} o rule plain F z there rest = record { is = ap (λ (x : Option Z). decision c (found x rule plain F)) there ∙ rest.is }

  -- who may signal every user
  module _ (met : (euid : ℕ) → denial c (SameUser euid) ≡ None) where
    decides-users : (cs : List Credentials) {p : Plan X} → Decides c d p → Decides c d (in_order (map (λ x. Needs (SameUser x.euid)) cs) p)
    decides-users [] rest = rest
    decides-users (x ∷ xs) rest = decides-needs (SameUser x.euid) (met x.euid) (decides-users xs rest)

    decides-signal : (b : Bool) (cs : List Credentials) {p : Plan X} → Decides c d p → Decides c d (in_order (cond b [] (map (λ x. Needs (SameUser x.euid)) cs)) p)
    decides-signal true cs rest = rest
    decides-signal false cs rest = decides-users cs rest

    decides-one : (b : Bool) (euid : ℕ) {p : Plan X} → Decides c d p → Decides c d (in_order (cond b [] (Needs (SameUser euid) ∷ [])) p)
    decides-one true euid rest = rest
    decides-one false euid rest = decides-needs (SameUser euid) (met euid) rest

admin-met : (c : Credentials) → has_capability c cap_sys_admin ≡ true → (euid : ℕ) → denial c (SameUser euid) ≡ None
admin-met c admin euid = ap (λ (b : Bool). cond b None (Some NotSameUser)) (or_right (c.euid == euid) (has_capability c cap_sys_admin) admin)

-- an ended client is free
free-of : (s : State) (client : ℕ) → client < length s.threads → has_exited s client ≡ true → free_client s client ≡ Some (thread_at s client)
free-of s client known is_ended =
    ap (option_and_then if_ended) (slice_get-get_or s.threads client no_thread known) ∙ ap (λ (b : Bool). cond b (Some (thread_at s client)) None) is_ended

-- one that lives is there
there-of : (ts : List Thread) (client : ℕ) → IsLive ts client → slice_get ts client ≡ Some (thread_in ts client)
there-of [] client live = absurd (true≢false live)
there-of (t ∷ ts) zero live = refl
there-of (t ∷ ts) (suc client) live = there-of ts client live

-- no thread has a pid that is free
none-of : (p : ℕ) (ts : List Thread) → ((client : ℕ) → IsLive ts client → (thread_in ts client).pid ≢ p) → list_any (has_pid p) ts ≡ false
none-of p [] free = refl
none-of p (t ∷ ts) free = or_from (has_pid p t) (list_any (has_pid p) ts) (by (has_pid p t) refl) (none-of p ts (λ client live. free (suc client) live))
  where
    by : (b : Bool) → has_pid p t ≡ b → b ≡ false
    by false isnt = refl
    by true is = let parts = pid-parts p t is in absurd (free zero parts.1 parts.0)

none-but : (q p : ℕ) (ts : List Thread) → ((client : ℕ) → IsLive ts client → (thread_in ts client).pid ≡ p → (thread_in ts client).process ≡ q) → list_any (is_other q p) ts ≡ false
none-but q p [] free = refl
none-but q p (t ∷ ts) free = or_from (is_other q p t) (list_any (is_other q p) ts) (by (is_other q p t) refl) (none-but q p ts (λ client live. free (suc client) live))
  where
    by : (b : Bool) → is_other q p t ≡ b → b ≡ false
    by false isnt = refl
    by true is =
        let both = and_parts (has_pid p t) (not (eqb t.process q)) is in
        let parts = pid-parts p t both.0 in
        absurd (false≢true (sym (ap not (eq-eqb t.process q (free zero parts.1 parts.0))) ∙ both.1))

pub no-process : (s : State) (p : ℕ) → IsFree s p → is_process s p ≡ false
no-process s p free = none-of p s.threads free

module _ (s : State) (client : ℕ) where
  abbrev c : Credentials
  c = creds_at s client

  pub begin-decided : (p : ℕ) (creds : Identity) → client < length s.threads → has_exited s client ≡ true → 0 < p → length creds.groups ≤ groups_max → IsFree s p
      → Decides c (Granted Done (with_process s client p (credentials_of creds))) (plan s client (Begin p creds))
  unfolding part_plan
  begin-decided p creds known over some few free =
      let d = Granted Done (with_process s client p (credentials_of creds)) in
      decides-passes c d true Ended tt refl (
      decides-found c d (free_client s client) ClientInUse tt _ (thread_at s client) (free-of s client known over) (
      decides-passes c d (nat_lt 0 p) BadPid tt (lt-ltb 0 p some) (
      decides-passes c d (nat_le (length creds.groups) groups_max) TooManyGroups tt (le-leb (length creds.groups) groups_max few) (
      decides-passes c d (not (is_process s p)) PidInUse tt (ap not (no-process s p free)) (
      decides-grant c d Done _ refl)))))

  module _ (lives : has_exited s client ≡ false) where
    pub fork-decided : (child p : ℕ) → child < length s.threads → has_exited s child ≡ true → 0 < p → IsFree s p
        → Decides c (Granted Done (record (with_process s child p c) { shared = after_fork s.shared (caller s client) s.next })) (plan s client (Fork child p))
    unfolding part_plan
    fork-decided child p known over some free =
        let d = Granted Done (record (with_process s child p c) { shared = after_fork s.shared (caller s client) s.next }) in
        decides-passes c d (not (has_exited s client)) Ended tt (ap not lives) (
        decides-passes c d (nat_lt 0 p) BadPid tt (lt-ltb 0 p some) (
        decides-passes c d (nat_lt child (length s.threads)) NoClient tt (lt-ltb child (length s.threads) known) (
        decides-found c d (free_client s child) ClientInUse tt _ (thread_at s child) (free-of s child known over) (
        decides-passes c d (not (is_process s p)) PidInUse tt (ap not (no-process s p free)) (
        decides-grant c d Done _ refl)))))

    pub clone-decided : (child : ℕ) → child < length s.threads → has_exited s child ≡ true
        → Decides c (Granted Done (with_client s child (process_at s client) (pid_at s client) c)) (plan s client (Clone child))
    unfolding part_plan
    clone-decided child known over =
        let d = Granted Done (with_client s child (process_at s client) (pid_at s client) c) in
        decides-passes c d (not (has_exited s client)) Ended tt (ap not lives) (
        decides-passes c d (nat_lt child (length s.threads)) NoClient tt (lt-ltb child (length s.threads) known) (
        decides-found c d (free_client s child) ClientInUse tt _ (thread_at s child) (free-of s child known over) (
        decides-grant c d Done _ refl)))

    pub assume-decided : (creds : Identity) → length creds.groups ≤ groups_max → Decides c (Granted Done (with_creds s client (credentials_of creds))) (plan s client (Assume creds))
    unfolding part_plan
    assume-decided creds few =
        let d = Granted Done (with_creds s client (credentials_of creds)) in
        decides-passes c d (not (has_exited s client)) Ended tt (ap not lives) (
        decides-passes c d (nat_le (length creds.groups) groups_max) TooManyGroups tt (le-leb (length creds.groups) groups_max few) (
        decides-grant c d Done _ refl))

    pub name-decided : (p : ℕ) → 0 < p → IsFreeBut s (process_at s client) p
        → Decides c (Granted Done (record s { threads = map (renamed (process_at s client) p) s.threads })) (plan s client (Name p))
    unfolding part_plan
    name-decided p some free =
        let d = Granted Done (record s { threads = map (renamed (process_at s client) p) s.threads }) in
        decides-passes c d (not (has_exited s client)) Ended tt (ap not lives) (
        decides-passes c d (nat_lt 0 p) BadPid tt (lt-ltb 0 p some) (
        decides-passes c d (not (list_any (is_other (process_at s client) p) s.threads)) PidInUse tt (ap not (none-but (process_at s client) p s.threads free)) (
        decides-grant c d Done _ refl)))

    pub exit-decided : Decides c (Granted Done (cond (is_running (ended s client) (process_at s client)) (ended s client) (process_ended (ended s client) (caller s client)))) (plan s client Exit)
    unfolding part_plan
    exit-decided =
        let d = Granted Done (cond (is_running (ended s client) (process_at s client)) (ended s client) (process_ended (ended s client) (caller s client))) in
        decides-passes c d (not (has_exited s client)) Ended tt (ap not lives) (decides-grant c d Done _ refl)

    pub exec-decided : Decides c (Granted Done (after_exec s (caller s client))) (plan s client Exec)
    unfolding part_plan
    exec-decided =
        let d = Granted Done (after_exec s (caller s client)) in
        decides-passes c d (not (has_exited s client)) Ended tt (ap not lives) (decides-grant c d Done _ refl)

    -- an interrupt of a pid that no process has
    pub interrupt-refused : (p : ℕ) → IsFree s p → Decides c (Refused NoProcess) (plan s client (Interrupt p))
    unfolding part_plan
    interrupt-refused p free =
        let d : Decision State = Refused NoProcess in
        decides-passes c d (not (has_exited s client)) Ended tt (ap not lives) (
        decides-fails c d (is_process s p) NoProcess tt (no-process s p free) refl)

    module _ (admin : has_capability (creds_at s client) cap_sys_admin ≡ true) where
      pub kill-decided : (p : ℕ) (t : Thread) → find (has_pid p) s.threads ≡ Some t
          → Decides c (Granted Done (process_ended (all_ended s t.process) (as_process (caller s client) t))) (plan s client (Kill p))
      unfolding part_plan
      kill-decided p t there =
          let d = Granted Done (process_ended (all_ended s t.process) (as_process (caller s client) t)) in
          decides-passes c d (not (has_exited s client)) Ended tt (ap not lives) (
          decides-found c d (find (has_pid p) s.threads) NoProcess tt _ t there (
          decides-signal c d (admin-met c admin) (p == pid_at s client) (threads_of s p) (
          decides-grant c d Done _ refl)))

      pub interrupt-decided : (target : ℕ) → has_exited s target ≡ false → Decides c (Granted Done s) (plan s client (InterruptThread target))
      unfolding part_plan
      interrupt-decided target live =
          let d = Granted Done s in
          decides-passes c d (not (has_exited s client)) Ended tt (ap not lives) (
          decides-found c d (slice_get s.threads target) NoClient tt _ (thread_at s target) (there-of s.threads target live) (
          decides-passes c d (not (has_exited s target)) NoProcess tt (ap not live) (
          decides-one c d (admin-met c admin) (pid_at s target == pid_at s client) (creds_at s target).euid (
          decides-grant c d Done _ refl))))
