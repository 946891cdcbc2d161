-- Whose wait an event ends, it ends by the rights that the event leaves.
use Rattle.std.proofs.Common.{◌≡◌, ℕ, zero, suc, Bool, true, false, List, [], ◌∷◌, ◌++◌, length, refl, sym, ap, subst, ◌∙◌, Option, Some, None, Ok, Err, All}
use Rattle.std.specs.Prelude.{◌==◌, if◌then◌else◌, not, flat_map, is_none}
use Rattle.std.specs.List.{find, list_any, AllByRecursion}
use Rattle.std.proofs.lemmas.Bool.{eq-eqb, or_parts, true≢false}
use Rattle.std.proofs.lemmas.List.Elements.{All-nil, All-cons}
use Rattle.std.proofs.lemmas.Option.{none-some, same_Some}
use Rattle.ipc_call.specs.declared.calls.Call.{Call}
use Rattle.ipc_call.specs.declared.replies.Answer.{Answer}
use Rattle.ipc_call.specs.declared.replies.Completion.{Completion}
use Rattle.ipc_call.specs.declared.replies.Waiting.{Waiting}
use Rattle.ipc_call.specs.declared.rules.Rule.{Rule}
use Rattle.ipc_call.specs.declared.rules.Rule.TheVariants.{TimedOut}
use Rattle.ipc_model.specs.State.{State}
use Rattle.ipc_model.specs.Decision.{Decision, Outcome, Refused, Waits, Granted, outcome_of}
use Rattle.ipc_model.specs.Plan.{is_denial}
use Rattle.ipc_model.specs.Decide.{can_wait, decide, decide_call}
use Rattle.ipc_model.specs.Cancelled.{cancelled}
use Rattle.ipc_model.specs.Step.{Event, at_time, begun, cancel, end_waiting, ended_by, entered, expire, expired, first_ready, is_ready, settle, settle_from, settled, ended_by_rule, without}
use Rattle.ipc_model.proofs.Calls.{Keeps-decide, only_parkable}
use Rattle.ipc_model.proofs.Growing.{Keeps}
use Rattle.ipc_model.proofs.Late.{Keeps-call}
use Rattle.ipc_model.proofs.Plans.{IfGranted}
use Rattle.ipc_history.specs.Access.{EndedByRights, IsByRights}
use Rattle.ipc_history.specs.History.{History, IsLegal, next_step, run}
use Rattle.ipc_history.proofs.Rights.{cancelled-lacks, decided-there, lacked-there, rights-kept, rights_of}
use Rattle.ipc_namespace.proofs.Own.{found-none}
use Rattle.ipc_namespace.proofs.Parked.{all-filter, all-found, turned}
use Rattle.ipc_parked.specs.Parked.{AreApart}
use Rattle.ipc_space.proofs.Alone.{ends_none}
use Rattle.ipc_space.proofs.Once.{apart-run}
use Rattle.ipc_space.proofs.Permitted.{run_not_ready}
use Rattle.ipc_space.proofs.Quiet.{IsQuiet, kept-ended_by, quiet-begun}

all-both : (P Q : Waiting → Type 0) (ws : List Waiting) → AllByRecursion P ws → AllByRecursion Q ws → AllByRecursion (λ w. P w × Q w) ws
all-both P Q [] p q = tt
all-both P Q (w ∷ ws) p q = ((p.0, q.0), all-both P Q ws p.1 q.1)

all-so : (P Q : Waiting → Type 0) → ((w : Waiting) → P w → Q w) → (ws : List Waiting) → AllByRecursion P ws → AllByRecursion Q ws
all-so P Q f [] p = tt
all-so P Q f (w ∷ ws) p = (f w p.0, all-so P Q f ws p.1)

-- where no client waits twice, each call is the one that is found of its client
own-later : (v : Waiting) (ws us : List Waiting) → list_any (λ u. u.client == v.client) us ≡ false → AllByRecursion (λ w. find (λ u. u.client == w.client) ws ≡ Some w) us
    → AllByRecursion (λ w. find (λ u. u.client == w.client) (v ∷ ws) ≡ Some w) us
own-later v ws [] none own = tt
own-later v ws (w ∷ us) none own =
    let parts = or_parts (w.client == v.client) (list_any (λ u. u.client == v.client) us) none in
    let other : (v.client == w.client) ≡ false = turned w.client v.client parts.0 in
    (rw other own.0, own-later v ws us parts.1 own.1)

own-each : (ws : List Waiting) → AreApart ws → AllByRecursion (λ w. find (λ u. u.client == w.client) ws ≡ Some w) ws
unfolding AreApart
own-each [] apart = tt
own-each (w ∷ ws) apart = let own : (w.client == w.client) ≡ true = eq-eqb w.client w.client refl in (rw own refl, own-later w ws ws apart.0 (own-each ws apart.1))

module _ (was : State) where
  -- it waited, as its client's own call
  abbrev Waited : Waiting → Type 0
  Waited w = (find (λ v. v.client == w.client) was.parked ≡ Some w) × (can_wait w.call ≡ true)

  abbrev HaveWaited : State → Type 0
  HaveWaited s = AllByRecursion Waited s.parked

  waited-end : (s : State) (w : Waiting) → HaveWaited s → HaveWaited (end_waiting s w).state
  waited-end s w have =
      let rest = without s w.client in
      subst (AllByRecursion Waited) (sym (kept-ended_by rest w.client (decide rest w.client w.call) (Keeps-decide rest w.client w.call))) (all-filter Waited (λ v. not (v.client == w.client)) s.parked have)

  -- a completion changes no rights
  rights-by : (s : State) (client : ℕ) (d : Decision State) → IfGranted (λ answer new. rights_of new ≡ rights_of s) d → rights_of (ended_by s client d).state ≡ rights_of s
  rights-by s client (Refused rule) kept = refl
  rights-by s client Waits kept = refl
  rights-by s client (Granted answer new) kept = kept

  rights-end : (s : State) (w : Waiting) → Waited w → rights_of (end_waiting s w).state ≡ rights_of s
  rights-end s w waited = let rest = without s w.client in rights-by rest w.client (decide rest w.client w.call) (rights-kept rest w.client w.call waited.1)

  rights-settle_from : (n : ℕ) → ((t : State) → HaveWaited t → rights_of (settle n t).state ≡ rights_of t) → (s : State) (o : Option Waiting) → first_ready s ≡ o → HaveWaited s → rights_of (settle_from (settle n) s o).state ≡ rights_of s
  rights-settle_from n settles s None is have = refl
  rights-settle_from n settles s (Some w) is have = settles (end_waiting s w).state (waited-end s w have) ∙ rights-end s w (all-found Waited (is_ready s) s.parked w have is)

  rights-settle : (n : ℕ) (s : State) → HaveWaited s → rights_of (settle n s).state ≡ rights_of s
  rights-settle zero s have = refl
  rights-settle (suc n) s have = rights-settle_from n (rights-settle n) s (first_ready s) refl have

  module _ (final : State) where
    abbrev AreByRights : List Completion → Type 0
    AreByRights es = AllByRecursion (λ told. EndedByRights was final told) es

    by-append : (es fs : List Completion) → AreByRights es → AreByRights fs → AreByRights (es ++ fs)
    by-append [] fs first second = second
    by-append (e ∷ es) fs first second = (first.0, by-append es fs first.1 second)

    by-told : (w : Waiting) (outcome : Outcome) → Waited w → IsByRights final w outcome → EndedByRights was final (record { client = w.client; outcome = outcome })
    by-told w outcome waited by = record { call = w; waited = waited.0; by_rights = by }

    by-decided : (s : State) (w : Waiting) (d : Decision State) → Waited w → ((outcome : Outcome) → outcome_of d ≡ Some outcome → IsByRights final w outcome) → AreByRights (ended_by s w.client d).ended
    by-decided s w (Refused rule) waited by = (by-told w (Err rule) waited (by (Err rule) refl), tt)
    by-decided s w Waits waited by = tt
    by-decided s w (Granted answer new) waited by = (by-told w (Ok answer) waited (by (Ok answer) refl), tt)

    by-end : (s : State) (w : Waiting) → rights_of s ≡ rights_of final → Waited w → AreByRights (end_waiting s w).ended
    by-end s w same waited = let rest = without s w.client in by-decided rest w (decide rest w.client w.call) waited (decided-there rest final same w waited.1)

    by-settle_from : (n : ℕ) → ((t : State) → HaveWaited t → rights_of t ≡ rights_of final → AreByRights (settle n t).ended) → (s : State) (o : Option Waiting) → first_ready s ≡ o → HaveWaited s → rights_of s ≡ rights_of final → AreByRights (settle_from (settle n) s o).ended
    by-settle_from n settles s None is have same = tt
    by-settle_from n settles s (Some w) is have same =
        let waited = all-found Waited (is_ready s) s.parked w have is in
        let next = end_waiting s w in
        by-append next.ended (settle n next.state).ended (by-end s w same waited) (settles next.state (waited-end s w have) (rights-end s w waited ∙ same))

    by-settle : (n : ℕ) (s : State) → HaveWaited s → rights_of s ≡ rights_of final → AreByRights (settle n s).ended
    by-settle zero s have same = tt
    by-settle (suc n) s have same = by-settle_from n (by-settle n) s (first_ready s) refl have same

    by-one : (w : Waiting) (o : Option Rule) (es : List Completion) → Waited w → ((rule : Rule) → o ≡ Some rule → IsByRights final w (Err rule)) → AreByRights es → AreByRights (ended_by_rule w.client o ++ es)
    by-one w None es waited by rest = rest
    by-one w (Some rule) es waited by rest = (by-told w (Err rule) waited (by rule refl), rest)

    -- those that leave by a rule
    by-leaving : (f : Waiting → Option Rule) (ws : List Waiting) → AllByRecursion (λ w. Waited w × ((rule : Rule) → f w ≡ Some rule → IsByRights final w (Err rule))) ws → AreByRights (flat_map (λ w. ended_by_rule w.client (f w)) ws)
    by-leaving f [] all = tt
    by-leaving f (w ∷ ws) all = by-one w (f w) (flat_map (λ w. ended_by_rule w.client (f w)) ws) all.0.0 all.0.1 (by-leaving f ws all.1)

  -- the call is decided where none of those that wait is ready
  module _ (s : State) (client : ℕ) (call : Call) (have : HaveWaited s) (quiet : IsQuiet s) where
    by-granted : (answer : Answer) (new : State) → decide_call s client call ≡ Granted answer new → new.parked ≡ s.parked → AreByRights (settled (cancel new call).state).state ((cancel new call).ended ++ (settled (cancel new call).state).ended)
    by-granted answer new granted kept =
        let m = cancel new call in
        let final = (settled m.state).state in
        let all : AllByRecursion (λ w. Waited w × (is_ready s w ≡ false)) new.parked = subst (AllByRecursion (λ w. Waited w × (is_ready s w ≡ false))) (sym kept) (all-both Waited (λ w. is_ready s w ≡ false) s.parked have (found-none (is_ready s) s.parked quiet)) in
        let left : HaveWaited m.state = all-filter Waited (λ w. is_none (cancelled new call w)) new.parked (all-so (λ w. Waited w × (is_ready s w ≡ false)) Waited (λ w is. is.0) new.parked all) in
        let same : rights_of new ≡ rights_of final = sym (rights-settle (length m.state.parked) m.state left) in
        by-append final m.ended (settled m.state).ended
        (by-leaving final (cancelled new call) new.parked
        (all-so (λ w. Waited w × (is_ready s w ≡ false)) (λ w. Waited w × ((rule : Rule) → cancelled new call w ≡ Some rule → IsByRights final w (Err rule)))
        (λ w is. (is.0, λ rule ends denies. lacked-there new final same w is.0.1 rule (cancelled-lacks s new client answer w is.0.1 is.1 rule denies call granted ends))) new.parked all))
        (by-settle final (length m.state.parked) m.state left same)

    by-entered : (d : Decision State) → decide_call s client call ≡ d → Keeps s d → AreByRights (entered s client call d).state (entered s client call d).ended
    by-entered (Refused rule) is keeps = by-settle (settled s).state (length s.parked) s have (sym (rights-settle (length s.parked) s have))
    by-entered Waits is keeps = subst (AreByRights (entered s client call Waits).state) (sym (ends_none s client call Waits (sym is) quiet refl)) tt
    by-entered (Granted answer new) is keeps = by-granted answer new is keeps.0

expired-timed : (b : Bool) (rule : Rule) → (if b then Some TimedOut else None) ≡ Some rule → is_denial rule ≡ true → ⊥
expired-timed true rule is denies = true≢false (sym denies ∙ ap is_denial (sym (same_Some TimedOut rule is)))
expired-timed false rule is denies = none-some rule is

all-told : (before after : State) (es : List Completion) → AllByRecursion (λ told. EndedByRights before after told) es → All (λ told. EndedByRights before after told) es
all-told before after [] by = All-nil (λ told. EndedByRights before after told)
all-told before after (e ∷ es) by = All-cons (λ told. EndedByRights before after told) e es by.0 (all-told before after es by.1)

pub ended_by_rights : (h : History) (e : Event) → IsLegal h → All (λ told. EndedByRights (run h) (next_step h e).state told) (next_step h e).ended
ended_by_rights h e legal =
    let was = run h in
    let s = begun was e.now in
    let rule = expired (at_time was e.now) in
    let waits : (w : Waiting) → is_ready was w ≡ false → can_wait w.call ≡ true = λ w waits. only_parkable was w.client w.call waits in
    let have : HaveWaited was was = all-both (λ w. find (λ v. v.client == w.client) was.parked ≡ Some w) (λ w. can_wait w.call ≡ true) was.parked (own-each was.parked (apart-run h legal)) (all-so (λ w. is_ready was w ≡ false) (λ w. can_wait w.call ≡ true) waits was.parked (run_not_ready h)) in
    let d = decide_call s e.client e.call in
    let final = (next_step h e).state in
    let first = (expire (at_time was e.now)).ended in
    let rest = (entered s e.client e.call d).ended in
    all-told was final (first ++ rest)
    (by-append was final first rest
    (by-leaving was final rule was.parked (all-so (Waited was) (λ w. Waited was w × ((r : Rule) → rule w ≡ Some r → IsByRights final w (Err r))) (λ w waited. (waited, λ r is denies. absurd (expired-timed _ r is denies))) was.parked have))
    (by-entered was s e.client e.call (all-filter (Waited was) (λ w. is_none (rule w)) was.parked have) (quiet-begun h e.now) d refl (Keeps-call s e.client e.call)))
