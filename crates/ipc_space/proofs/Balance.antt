-- After every history a client has as many calls as it has replies and calls that wait; so an event tells a client one thing at most,
-- and none but the namespace's clients.
use Rattle.std.proofs.Common.{◌≡◌, ℕ, zero, suc, ◌+◌, ◌≤◌, Bool, true, false, cond, List, [], ◌∷◌, ◌++◌, map, length, refl, sym, ap, ◌∙◌, arith, Option, Some, None, length-append, append-nil, append_assoc, ⊎_elim, eq-eqb, ne_eqb, ◌<◌, All, lt_of_not-le}
use Rattle.std.specs.Prelude.{◌==◌, ◌||◌, filter, flat_map, is_none}
use Rattle.std.specs.List.{list_any}
use mathlib.Core.Logic.{dite}
use native.Mathlib.Decide.{dec_le}
use Rattle.std.proofs.lemmas.List.{length-map, map-append}
use Rattle.std.proofs.lemmas.List.Elements.{All-nil, All-cons}
use Rattle.std.proofs.lemmas.Bool.{true≢false, or_parts, cases_Bool, eq-eqb, eqb-true}
use Rattle.ipc_call.specs.declared.calls.Call.{Call}
use Rattle.ipc_call.specs.declared.replies.Waiting.{Waiting}
use Rattle.ipc_call.specs.declared.replies.Completion.{Completion}
use Rattle.ipc_call.specs.declared.rules.Rule.{Rule}
use Rattle.ipc_model.specs.State.{State, opening, is_waiting}
use Rattle.ipc_model.specs.Decision.{Decision, Refused, Waits, Granted, proceeds}
use Rattle.ipc_model.specs.Decide.{decide, decide_call}
use Rattle.ipc_model.specs.Cancelled.{cancelled}
use Rattle.ipc_model.specs.Step.{Event, Moved, Stepped, at_time, begun, expire, expired, waiting_as, end_waiting, ended_by, first_ready, cancelled_by, is_ready, settle, settle_from, settled, state_by, step, ended_by_rule, without}
use Rattle.ipc_model.specs.Decision.{Outcome, outcome_of}
use Rattle.ipc_history.specs.History.{AreLegalFrom, History, IsLegal, IsLegalAt, ReplyTo, answers_from, answers, next_step, own, replies, reply_of, run, run_from, replies_by, replies_to_ended, reply_to_own, with_event}
use Rattle.ipc_call.specs.declared.replies.Reply.{Reply}
use Rattle.ipc_space.specs.Telling.{addressed, replies_of, replies_in}
use Rattle.ipc_model.proofs.Calls.{Keeps-decide, parked_alike}
use Rattle.ipc_model.proofs.Growing.{Keeps}
use Rattle.ipc_model.proofs.Keeping.{Follows-step}
use Rattle.ipc_space.proofs.Histories.{clients-run}
use Rattle.ipc_parked.specs.Parked.{AreApart}
use Rattle.ipc_namespace.proofs.Own.{At, found-at, others}
use Rattle.ipc_space.proofs.Once.{apart-cancelled_by, apart-end_waiting, apart-state_by, apart-run, apart-step, none_apart}
use Rattle.ipc_model.proofs.Late.{Keeps-call}
use Rattle.ipc_namespace.proofs.Parked.{list_any-filter, apart-filter}
use Rattle.ipc_space.proofs.Alone.{waits_alone}
use Rattle.ipc_space.specs.Spaces.{other_replies}

-- how many calls of the client wait
abbrev pub waits_of : ℕ → List Waiting → ℕ
waits_of r [] = 0
waits_of r (w ∷ ws) = cond (w.client == r) 1 0 + waits_of r ws

abbrev pub ends_of : ℕ → List Completion → ℕ
ends_of r [] = 0
ends_of r (e ∷ es) = cond (e.client == r) 1 0 + ends_of r es

abbrev pub own_told : ℕ → ℕ → Option Outcome → ℕ
own_told r client None = 0
own_told r client (Some o) = cond (client == r) 1 0

waits-append : (r : ℕ) (a b : List Waiting) → waits_of r (a ++ b) ≡ waits_of r a + waits_of r b
waits-append r [] b = omega arith
waits-append r (w ∷ a) b = let rest = waits-append r a b in omega (arith, rest)

ends-append : (r : ℕ) (a b : List Completion) → ends_of r (a ++ b) ≡ ends_of r a + ends_of r b
ends-append r [] b = omega arith
ends-append r (w ∷ a) b = let rest = ends-append r a b in omega (arith, rest)

waits-others : (r : ℕ) (test : Waiting → Bool) (ws : List Waiting) (w : Waiting) → At test ws w → waits_of r (others w.client ws) + cond (w.client == r) 1 0 ≡ waits_of r ws
waits-others r test ws w at =
    let left = ap (waits_of r) at.left ∙ waits-append r at.before at.after in
    let all = ap (waits_of r) at.is ∙ waits-append r at.before (w ∷ at.after) in
    omega (arith, left, all)

cancel-one : (r : ℕ) (w : Waiting) (o : Option Rule) (ws rest : List Waiting) (es : List Completion) → waits_of r rest + ends_of r es ≡ waits_of r ws
    → waits_of r (cond (is_none o) (w ∷ rest) rest) + ends_of r (ended_by_rule w.client o ++ es) ≡ cond (w.client == r) 1 0 + waits_of r ws
cancel-one r w None ws rest es even = omega (arith, even)
cancel-one r w (Some rule) ws rest es even = omega (arith, even)

cancel-all : (r : ℕ) (f : Waiting → Option Rule) (ws : List Waiting) → waits_of r (filter (λ w. is_none (f w)) ws) + ends_of r (flat_map (λ w. ended_by_rule w.client (f w)) ws) ≡ waits_of r ws
cancel-all r f [] = omega arith
cancel-all r f (w ∷ ws) = cancel-one r w (f w) ws (filter (λ v. is_none (f v)) ws) (flat_map (λ v. ended_by_rule v.client (f v)) ws) (cancel-all r f ws)

-- what leaves the list is told
abbrev IsEven : ℕ → State → Moved → Type 0
IsEven r s m = waits_of r m.state.parked + ends_of r m.ended ≡ waits_of r s.parked

even-ended_by : (r : ℕ) (s : State) (client : ℕ) (d : Decision State) → proceeds d ≡ true → Keeps s d → waits_of r (ended_by s client d).state.parked + ends_of r (ended_by s client d).ended ≡ waits_of r s.parked + cond (client == r) 1 0
even-ended_by r s client (Refused rule) goes keeps = omega arith
even-ended_by r s client Waits goes keeps = absurd (true≢false (sym goes))
even-ended_by r s client (Granted answer new) goes keeps = let same = ap (waits_of r) keeps.0 in omega (arith, same)

even-end_waiting : (r : ℕ) (s : State) (w : Waiting) → AreApart s.parked → first_ready s ≡ Some w → IsEven r s (end_waiting s w)
even-end_waiting r s w apart first =
    let rest = without s w.client in
    let at = found-at (is_ready s) s.parked w apart first in
    let ready = parked_alike s rest.parked w.client w.call ∙ at.passes in
    let one = even-ended_by r rest w.client (decide rest w.client w.call) ready (Keeps-decide rest w.client w.call) in
    let left = waits-others r (is_ready s) s.parked w at in omega (arith, one, left)

even-then : (r : ℕ) (s : State) (m n : Moved) → IsEven r s m → IsEven r m.state n → waits_of r n.state.parked + ends_of r (m.ended ++ n.ended) ≡ waits_of r s.parked
even-then r s m n one two = let both = ends-append r m.ended n.ended in omega (arith, one, two, both)

even-settle_from : (r n : ℕ) → ((t : State) → AreApart t.parked → IsEven r t (settle n t)) → (s : State) (o : Option Waiting) → AreApart s.parked → o ≡ first_ready s → IsEven r s (settle_from (settle n) s o)
even-settle_from r n even s None apart is = omega arith
even-settle_from r n even s (Some w) apart is =
    even-then r s (end_waiting s w) (settle n (end_waiting s w).state) (even-end_waiting r s w apart (sym is)) (even (end_waiting s w).state (apart-end_waiting s w apart))

even-settle : (r n : ℕ) (s : State) → AreApart s.parked → IsEven r s (settle n s)
even-settle r zero s apart = omega arith
even-settle r (suc n) s apart = even-settle_from r n (even-settle r n) s (first_ready s) apart refl

even-state_by : (r : ℕ) (s : State) (client : ℕ) (call : Call) (d : Decision State) → Keeps s d → waits_of r (state_by s client call d).parked + own_told r client (outcome_of d) ≡ waits_of r s.parked + cond (client == r) 1 0
even-state_by r s client call (Refused rule) keeps = refl
even-state_by r s client call Waits keeps = let one = waits-append r s.parked (waiting_as s client call ∷ []) in omega (arith, one)
even-state_by r s client call (Granted answer new) keeps = let same = ap (waits_of r) keeps.0 in omega (arith, same)

even-cancelled_by : (r : ℕ) (s : State) (call : Call) (d : Decision State) → IsEven r s (cancelled_by s call d)
even-cancelled_by r s call (Refused rule) = omega arith
even-cancelled_by r s call Waits = omega arith
even-cancelled_by r s call (Granted answer new) = cancel-all r (cancelled s call) s.parked

-- an event: its own call is told or waits, and what leaves the list is told
pub even-step : (r : ℕ) (s : State) (e : Event) → IsLegalAt s e → AreApart s.parked → waits_of r (step s e).state.parked + (own_told r e.client (step s e).own + ends_of r (step s e).ended) ≡ waits_of r s.parked + cond (e.client == r) 1 0
even-step r s e legal apart =
    let now = begun s e.now in
    let early = (expire (at_time s e.now)).ended in
    let stays : Waiting → Bool = λ w. is_none (expired (at_time s e.now) w) in
    let expires = cancel-all r (expired (at_time s e.now)) s.parked in
    let d = decide_call now e.client e.call in
    let by = state_by now e.client e.call d in
    let m = cancelled_by by e.call d in
    let first = even-state_by r now e.client e.call d (Keeps-call now e.client e.call) in
    let left = apart-cancelled_by by e.call d (apart-state_by now e.client e.call d (Keeps-call now e.client e.call) (list_any-filter (λ w. w.client == e.client) stays s.parked legal.free) (apart-filter stays s.parked apart)) in
    let rest = even-then r by m (settled m.state) (even-cancelled_by r by e.call d) (even-settle r (length m.state.parked) m.state left) in
    let both = ends-append r early (m.ended ++ (settled m.state).ended) in
    omega (arith, expires, first, rest, both)

abbrev pub tolds_of : ℕ → List ReplyTo → ℕ
tolds_of r ts = length (filter (λ (t : ReplyTo). t.client == r) ts)

pub length-filter_if : {X : Type 0} (b : Bool) (x : X) (xs : List X) → length (cond b (x ∷ xs) xs) ≡ cond b 1 0 + length xs
length-filter_if true x xs = omega arith
length-filter_if false x xs = omega arith

pub filter-append : {X : Type 0} (p : X → Bool) (a b : List X) → filter p (a ++ b) ≡ filter p a ++ filter p b
filter-append p [] b = refl
filter-append {X} p (x ∷ a) b = ap (λ (l : List X). cond (p x) (x ∷ l) l) (filter-append p a b) ∙ behind (p x) (filter p a) (filter p b)
  where
    behind : (t : Bool) (l k : List X) → cond t (x ∷ (l ++ k)) (l ++ k) ≡ cond t (x ∷ l) l ++ k
    behind true l k = refl
    behind false l k = refl

tolds-own : (r client place : ℕ) (o : Option Outcome) → tolds_of r (reply_to_own client place o) ≡ own_told r client o
tolds-own r client place None = refl
tolds-own r client place (Some o) = let one = length-filter_if {X = ReplyTo} (client == r) (record { client = client; place = place; turn = 0; outcome = o }) [] in omega (arith, one)

tolds-ended : (r place turn : ℕ) (es : List Completion) → tolds_of r (replies_to_ended place turn es) ≡ ends_of r es
tolds-ended r place turn [] = refl
tolds-ended r place turn (e ∷ es) =
    let one = length-filter_if {X = ReplyTo} (e.client == r) (record { client = e.client; place = place; turn = turn; outcome = e.outcome }) (filter (λ (t : ReplyTo). t.client == r) (replies_to_ended place (turn + 1) es)) in
    let rest = tolds-ended r place (turn + 1) es in omega (arith, one, rest)

pub tolds-append : (r : ℕ) (a b : List ReplyTo) → tolds_of r (a ++ b) ≡ tolds_of r a + tolds_of r b
tolds-append r a b = ap length (filter-append (λ (t : ReplyTo). t.client == r) a b) ∙ length-append (filter (λ (t : ReplyTo). t.client == r) a) (filter (λ (t : ReplyTo). t.client == r) b)

pub tolds-by : (r client place : ℕ) (m : Stepped) → tolds_of r (replies_by client place m) ≡ own_told r client m.own + ends_of r m.ended
tolds-by r client place m =
    let both = tolds-append r (reply_to_own client place m.own) (replies_to_ended place 1 m.ended) in
    let one = tolds-own r client place m.own in
    let rest = tolds-ended r place 1 m.ended in omega (arith, both, one, rest)

abbrev pub events_of : ℕ → List Event → List Event
events_of r es = filter (λ (e : Event). e.client == r) es

even-run_from : (r place : ℕ) (s : State) (es : List Event) → AreLegalFrom s es → AreApart s.parked → length (events_of r es) + waits_of r s.parked ≡ tolds_of r (answers_from place s es) + waits_of r (run_from s es).parked
even-run_from r place s [] legal apart = refl
even-run_from r place s (e ∷ es) legal apart =
    let later = (step s e).state in
    let calls = length-filter_if (e.client == r) e (events_of r es) in
    let one = even-step r s e legal.0 apart in
    let told = tolds-by r e.client place (step s e) in
    let both = tolds-append r (replies_by e.client place (step s e)) (answers_from (place + 1) later es) in
    let rest = even-run_from r (place + 1) later es legal.1 (apart-step s e legal.0 apart) in
    omega (arith, calls, one, told, both, rest)

-- a client has as many calls as replies and calls that wait
pub even_run : (h : History) (r : ℕ) → IsLegal h → length (own h r) ≡ length (replies h r) + waits_of r (run h).parked
even_run h r legal =
    let even = even-run_from r 1 (opening h.limits h.clients) h.events legal none_apart in
    let calls = length-map {B = ℕ × Call} (events_of r h.events) (λ (e : Event). (e.now, e.call)) in
    let told = length-map (filter (λ (t : ReplyTo). t.client == r) (answers h)) reply_of in
    omega (arith, even, calls, told)

-- who doesn't wait has no call that waits
none_waits : (r : ℕ) (ws : List Waiting) → list_any (λ w. w.client == r) ws ≡ false → waits_of r ws ≡ 0
none_waits r [] none = refl
none_waits r (w ∷ ws) none = let parts = or_parts (w.client == r) (list_any (λ v. v.client == r) ws) none in let here = ap {B = ℕ} (λ b. cond b 1 0) parts.0 in let rest = none_waits r ws parts.1 in omega (arith, here, rest)

some_wait : (r : ℕ) (ws : List Waiting) → list_any (λ w. w.client == r) ws ≡ true → 1 ≤ waits_of r ws
some_wait r [] some = absurd (true≢false (sym some))
some_wait r (w ∷ ws) some = ⊎_elim
    (λ (here : (w.client == r) ≡ true). let one = ap {B = ℕ} (λ b. cond b 1 0) here in omega (arith, one))
    (λ (other : (w.client == r) ≡ false). let rest = some_wait r ws (ap (λ b. b || list_any (λ v. v.client == r) ws) (sym other) ∙ some) in omega (arith, rest))
    (cases_Bool (w.client == r))

-- no client has two calls that wait
few-step : (r : ℕ) (s : State) (e : Event) → IsLegalAt s e → AreApart s.parked → waits_of r s.parked ≤ 1 → waits_of r (step s e).state.parked + (own_told r e.client (step s e).own + ends_of r (step s e).ended) ≤ 1
few-step r s e legal apart few = let even = even-step r s e legal apart in ⊎_elim
    (λ (own : (e.client == r) ≡ true). let none = none_waits e.client s.parked legal.free in let same = ap (λ k. waits_of k s.parked) (eqb-true e.client r own) in let one = ap {B = ℕ} (λ b. cond b 1 0) own in omega (arith, even, none, same, one))
    (λ (other : (e.client == r) ≡ false). let one = ap {B = ℕ} (λ b. cond b 1 0) other in omega (arith, even, few, one))
    (cases_Bool (e.client == r))

few-run : (r : ℕ) (s : State) (es : List Event) → AreLegalFrom s es → AreApart s.parked → waits_of r s.parked ≤ 1 → waits_of r (run_from s es).parked ≤ 1
few-run r s [] legal apart few = few
few-run r s (e ∷ es) legal apart few = let one = few-step r s e legal.0 apart few in few-run r (step s e).state es legal.1 (apart-step s e legal.0 apart) (omega (arith, one))

-- a client has as many calls as it has replies, and one more where its last one waits
pub balanced : (h : History) (r : ℕ) → IsLegal h → length (own h r) ≡ length (replies h r) + cond (is_waiting (run h) r) 1 0
balanced h r legal =
    let even = even_run h r legal in
    let few = few-run r (opening h.limits h.clients) h.events legal none_apart (omega arith) in ⊎_elim
    (λ (some : is_waiting (run h) r ≡ true). let one = ap {B = ℕ} (λ b. cond b 1 0) some in let least = some_wait r (run h).parked some in omega (arith, even, few, one, least))
    (λ (none : is_waiting (run h) r ≡ false). let zero = ap {B = ℕ} (λ b. cond b 1 0) none in let no = none_waits r (run h).parked none in omega (arith, even, zero, no))
    (cases_Bool (is_waiting (run h) r))

legal-last : (s : State) (es : List Event) (e : Event) → AreLegalFrom s (es ++ e ∷ []) → AreLegalFrom s es × IsLegalAt (run_from s es) e
legal-last s [] e legal = (tt, legal.0)
legal-last s (x ∷ es) e legal = let rest = legal-last (step s x).state es e legal.1 in ((legal.0, rest.0), rest.1)

pub legal_before : (h : History) (e : Event) → IsLegal (with_event h e) → IsLegal h × IsLegalAt (run h) e
legal_before h e legal = legal-last (opening h.limits h.clients) h.events e legal

-- what an event tells a client
map_if : {X Y : Type 0} (f : X → Y) (b : Bool) (x : X) (xs : List X) → map f (cond b (x ∷ xs) xs) ≡ cond b (f x ∷ map f xs) (map f xs)
map_if f true x xs = refl
map_if f false x xs = refl

in-told : (r : ℕ) (ts : List ReplyTo) → replies_in (map addressed ts) r ≡ map reply_of (filter (λ (t : ReplyTo). t.client == r) ts)
in-told r [] = refl
in-told r (t ∷ ts) =
    map_if {X = ℕ × Reply} (λ x. x.1) (t.client == r) (addressed t) (filter (λ x. x.0 == r) (map addressed ts))
    ∙ ap (λ l. cond (t.client == r) (reply_of t ∷ l) l) (in-told r ts)
    ∙ sym (map_if reply_of (t.client == r) t (filter (λ (t : ReplyTo). t.client == r) ts))

told_count : (h : History) (e : Event) (r : ℕ) → length (replies_in (replies_of h e) r) ≡ own_told r e.client (next_step h e).own + ends_of r (next_step h e).ended
told_count h e r =
    let ts = replies_by e.client (length h.events + 1) (next_step h e) in
    ap length (in-told r ts) ∙ length-map {B = Reply} (filter (λ (t : ReplyTo). t.client == r) ts) reply_of ∙ tolds-by r e.client (length h.events + 1) (next_step h e)

-- it tells a client one thing at most
pub told_once : (h : History) (e : Event) (r : ℕ) → IsLegal (with_event h e) → length (replies_in (replies_of h e) r) ≤ 1
told_once h e r legal =
    let before = legal_before h e legal in
    let few = few-run r (opening h.limits h.clients) h.events before.0 none_apart (omega arith) in
    let step_few = few-step r (run h) e before.1 (apart-run h before.0) few in
    let count = told_count h e r in omega (arith, step_few, count)

-- the event's own client is none of the others that it tells
caller-ends : (h : History) (e : Event) (o : Option Outcome) → IsLegal (with_event h e) → (next_step h e).own ≡ o → ends_of e.client (next_step h e).ended ≡ 0
caller-ends h e None legal is =
    let none = none_waits e.client (run h).parked (legal_before h e legal).1.free in
    let all = cancel-all e.client (expired (at_time (run h) e.now)) (run h).parked in
    let same = ap (ends_of e.client) (waits_alone h e is) in
    omega (arith, none, all, same)
caller-ends h e (Some o) legal is =
    let before = legal_before h e legal in
    let none = none_waits e.client (run h).parked before.1.free in
    let even = even-step e.client (run h) e before.1 (apart-run h before.0) in
    let own = ap (own_told e.client e.client) is in
    let one = ap {B = ℕ} (λ b. cond b 1 0) (eq-eqb e.client e.client refl) in
    omega (arith, none, even, own, one)

none_of : {X : Type 0} (l : List X) → length l ≡ 0 → l ≡ []
none_of [] few = refl
none_of (x ∷ l) few = absurd (omega (arith, few))

pub caller-apart : (h : History) (e : Event) (place : ℕ) → IsLegal (with_event h e) → replies_in (other_replies place (next_step h e).ended) e.client ≡ []
caller-apart h e place legal =
    let ended = (next_step h e).ended in
    let told = replies_to_ended place 1 ended in
    let few : tolds_of e.client told ≡ 0 = tolds-ended e.client place 1 ended ∙ caller-ends h e (next_step h e).own legal refl in
    in-told e.client told ∙ ap (map reply_of) (none_of (filter (λ (t : ReplyTo). t.client == e.client) told) few)

-- and none but clients of the namespace
abbrev pub NoneWait : ℕ → State → Type 0
NoneWait n s = (r : ℕ) → n ≤ r → waits_of r s.parked ≡ 0

none-step : (n : ℕ) (s : State) (e : Event) → e.client < n → IsLegalAt s e → AreApart s.parked → NoneWait n s → (r : ℕ) → n ≤ r → waits_of r (step s e).state.parked + (own_told r e.client (step s e).own + ends_of r (step s e).ended) ≡ 0
none-step n s e known legal apart none r above =
    let even = even-step r s e legal apart in
    let other = ap {B = ℕ} (λ b. cond b 1 0) (ne_eqb e.client r (λ same. absurd (omega (arith, same, known, above)))) in
    let was = none r above in omega (arith, even, other, was)

pub none-run : (s : State) (es : List Event) → AreLegalFrom s es → AreApart s.parked → NoneWait (length s.clients) s → NoneWait (length s.clients) (run_from s es)
none-run s [] legal apart none = none
none-run s (e ∷ es) legal apart none =
    let same = (Follows-step s e).clients in
    let later : NoneWait (length (step s e).state.clients) (step s e).state = λ r above. (let now = none-step (length s.clients) s e legal.0.known legal.0 apart none r (omega (arith, same, above)) in omega (arith, now)) in
    λ r above. none-run (step s e).state es legal.1 (apart-step s e legal.0 apart) later r (omega (arith, same, above))

all_known : (n : ℕ) (l : List (ℕ × Reply)) → ((r : ℕ) → n ≤ r → length (replies_in l r) ≡ 0) → All (λ t. t.0 < n) l
all_known n [] none = All-nil (λ t. t.0 < n)
all_known n (t ∷ l) none = All-cons (λ (t : ℕ × Reply). t.0 < n) t l
    (dite (dec_le n t.0)
    (λ above. let here = none t.0 above in let one = ap (λ b. length (map (λ x. x.1) (cond b (t ∷ filter (λ x. x.0 == t.0) l) (filter (λ x. x.0 == t.0) l)))) (eq-eqb t.0 t.0 refl) in absurd (omega (arith, here, one)))
    (λ below. lt_of_not-le below))
    (all_known n l (λ r above. let here = none r above in shorter r (t.0 == r) here))
  where
    shorter : (r : ℕ) (b : Bool) → length (map (λ (x : ℕ × Reply). x.1) (cond b (t ∷ filter (λ x. x.0 == r) l) (filter (λ x. x.0 == r) l))) ≡ 0 → length (replies_in l r) ≡ 0
    shorter r true none = absurd (omega (arith, none))
    shorter r false none = none

pub told_known : (h : History) (e : Event) → IsLegal (with_event h e) → All (λ t. t.0 < length h.clients) (replies_of h e)
told_known h e legal =
    let before = legal_before h e legal in
    let start = opening h.limits h.clients in
    let same = clients-run start h.events in
    let known = before.1.known in
    all_known (length h.clients) (replies_of h e) (λ r above. let now = none-step (length h.clients) (run h) e (omega (arith, same, known)) before.1 (apart-run h before.0) (none-run start h.events before.0 none_apart (λ q far. refl)) r above in let count = told_count h e r in omega (arith, now, count))

-- what one more event adds to a client's calls and replies
pub own_push : (h : History) (e : Event) (r : ℕ) → own (with_event h e) r ≡ own h r ++ cond (e.client == r) ((e.now, e.call) ∷ []) []
own_push h e r =
    ap (λ (l : List Event). map (λ (x : Event). (x.now, x.call)) l) (filter-append (λ (x : Event). x.client == r) h.events (e ∷ []))
    ∙ map-append (λ (x : Event). (x.now, x.call)) (filter (λ (x : Event). x.client == r) h.events) (filter (λ (x : Event). x.client == r) (e ∷ []))
    ∙ ap (λ l. own h r ++ l) (map_if {X = Event} (λ (x : Event). (x.now, x.call)) (e.client == r) e [])

answers-push : (place : ℕ) (s : State) (es : List Event) (e : Event) → answers_from place s (es ++ e ∷ []) ≡ answers_from place s es ++ replies_by e.client (length es + place) (step (run_from s es) e)
answers-push place s [] e =
    let same : place ≡ 0 + place = omega arith in
    append-nil (replies_by e.client place (step s e)) ∙ ap (λ n. replies_by e.client n (step s e)) same
answers-push place s (x ∷ es) e =
    let later = (step s x).state in
    let same : length es + (place + 1) ≡ suc (length es) + place = omega arith in
    ap (λ l. replies_by x.client place (step s x) ++ l) (answers-push (place + 1) later es e ∙ ap (λ n. answers_from (place + 1) later es ++ replies_by e.client n (step (run_from later es) e)) same)
    ∙ sym (append_assoc (replies_by x.client place (step s x)) (answers_from (place + 1) later es) (replies_by e.client (suc (length es) + place) (step (run_from later es) e)))

pub replies_push : (h : History) (e : Event) (r : ℕ) → replies (with_event h e) r ≡ replies h r ++ replies_in (replies_of h e) r
replies_push h e r =
    let more = replies_by e.client (length h.events + 1) (next_step h e) in
    ap (λ (l : List ReplyTo). map reply_of (filter (λ (t : ReplyTo). t.client == r) l)) (answers-push 1 (opening h.limits h.clients) h.events e)
    ∙ ap (λ (l : List ReplyTo). map reply_of l) (filter-append (λ (t : ReplyTo). t.client == r) (answers h) more)
    ∙ map-append reply_of (filter (λ (t : ReplyTo). t.client == r) (answers h)) (filter (λ (t : ReplyTo). t.client == r) more)
    ∙ ap (λ l. replies h r ++ l) (sym (in-told r more))

pub no_more_replies : (h : History) (r : ℕ) → IsLegal h → length (replies h r) ≤ length (own h r)
no_more_replies h r legal = let even = even_run h r legal in omega (arith, even)

-- a client each of whose calls has its reply has no call that waits
pub is_free : (h : History) (r : ℕ) → IsLegal h → length (own h r) ≡ length (replies h r) → is_waiting (run h) r ≡ false
is_free h r legal same =
    let even = even_run h r legal in ⊎_elim
    (λ (some : is_waiting (run h) r ≡ true). let least = some_wait r (run h).parked some in absurd (omega (arith, even, same, least)))
    (λ (none : is_waiting (run h) r ≡ false). none)
    (cases_Bool (is_waiting (run h) r))
