-- That the entries of a service meet the laws of a served state.
use Rattle.std.proofs.Common.{◌≡◌, ◌≢◌, ◌⊎◌, ℕ, ◌+◌, ◌≤◌, cond, List, [], ◌∷◌, ◌++◌, map, length}
use Rattle.std.proofs.Common.{refl, sym, ap, ◌∙◌, subst, inl, inr, arith, append-nil, eq-eqb, ne_eqb, ⊎_elim}
use Rattle.std.specs.Prelude.{◌==◌}
use Rattle.ipc_call.specs.declared.replies.Reply.{Reply}
use Rattle.std.proofs.Props.{props}
use Rattle.std.specs.Coded.{×_prop, Unit-prop}
use Rattle.ipc_model.specs.State.{State, opening}
use Rattle.ipc_model.specs.Step.{Event, step}
use Rattle.ipc_history.specs.History.{AreLegalFrom, History, IsLegal, IsLegalAt, with_event}
use Rattle.ipc_history.specs.History as model
use Rattle.ipc_space.specs.Telling.{replies_of, replies_in}
use Rattle.ipc_space.proofs.Balance.{own_push, replies_push, told_once, no_more_replies}
use Rattle.pub_rule.specs.Work.{GoesOn}
use Rattle.ipc_combiner.specs.declared.entries.Entry.{Entry}
use Rattle.ipc_combiner.specs.declared.entries.Entry.TheVariants.{Opened, Called}
use Rattle.ipc_combiner.specs.declared.entries.Keeping.{Keeping}
use Rattle.ipc_combiner.specs.Entries.{called, entries_of, events_in, history_in, keeping_in, legal, has_clients}
use Rattle.ipc_combiner.specs.Entries.{client_of, call_of, own, replies}

events-called : (es : List Event) → events_in (map called es) ≡ es
events-called [] = refl
events-called (e ∷ es) = ap (λ l. e ∷ l) (events-called es)

-- the entries of a history mean it
pub history-entries : (keeping : Keeping) (h : History) → history_in (entries_of keeping h) ≡ h
history-entries keeping h = ap (λ (es : List Event). record h { events = es }) (events-called h.events)

pub is_legal : (keeping : Keeping) (h : History) → IsLegal h → legal (entries_of keeping h)
is_legal keeping h is = (ap (entries_of keeping) (sym (history-entries keeping h)), subst IsLegal (sym (history-entries keeping h)) is)

map-called : (es : List Event) (e : Event) → map called (es ++ e ∷ []) ≡ map called es ++ called e ∷ []
map-called [] e = refl
map-called (x ∷ es) e = ap (λ l. called x ∷ l) (map-called es e)

-- one more call is one more entry
pub entries_push : (keeping : Keeping) (h : History) (e : Event) → entries_of keeping (with_event h e) ≡ entries_of keeping h ++ called e ∷ []
entries_push keeping h e = ap (λ l. Opened h.limits h.clients keeping ∷ l) (map-called h.events e)

abbrev openings : List Entry → ℕ
openings [] = 0
openings (Opened limits clients keeping ∷ es) = 1 + openings es
openings (Called client now call ∷ es) = openings es

openings-append : (a b : List Entry) → openings (a ++ b) ≡ openings a + openings b
openings-append [] b = omega arith
openings-append (Opened limits clients keeping ∷ a) b = let rest = openings-append a b in omega (arith, rest)
openings-append (Called client now call ∷ a) b = openings-append a b

openings-called : (es : List Event) → openings (map called es) ≡ 0
openings-called [] = refl
openings-called (e ∷ es) = openings-called es

-- what goes on from a legal history is a call
pub as_call : (h : List Entry) (e : Entry) → legal h → legal (h ++ e ∷ []) → (ev : Event) × (e ≡ called ev)
as_call h (Called client now call) was is = (record { client = client; now = now; call = call }, refl)
as_call h (Opened limits clients keeping) was is =
    let both = openings-append h (Opened limits clients keeping ∷ []) in
    let all = ap openings is.0 in
    let one = openings-called (history_in (h ++ Opened limits clients keeping ∷ [])).events in
    let before = ap openings was.0 in
    let none = openings-called (history_in h).events in
    absurd (omega (arith, both, all, one, before, none))

pub push_call : (h : List Entry) (e : Event) → legal h → history_in (h ++ called e ∷ []) ≡ with_event (history_in h) e
push_call h e was = ap (λ l. history_in (l ++ called e ∷ [])) was.0
    ∙ ap history_in (sym (entries_push (keeping_in h) (history_in h) e)) ∙ history-entries (keeping_in h) (with_event (history_in h) e)

own_called : (h : List Entry) (e : Event) (r : ℕ) → legal h
    → own (h ++ called e ∷ []) r ≡ own h r ++ cond (e.client == r) ((e.now, e.call) ∷ []) []
own_called h e r was = ap (λ (z : History). model.own z r) (push_call h e was) ∙ own_push (history_in h) e r

pub replies_called : (h : List Entry) (e : Event) (r : ℕ) → legal h
    → replies (h ++ called e ∷ []) r ≡ replies h r ++ replies_in (replies_of (history_in h) e) r
replies_called h e r was = ap (λ (z : History). model.replies z r) (push_call h e was) ∙ replies_push (history_in h) e r

-- the laws
own_now : (h : List Entry) (e : Event) → legal h
    → own (h ++ called e ∷ []) e.client ≡ own h e.client ++ (e.now, e.call) ∷ []
own_now h e was = own_called h e e.client was
    ∙ ap (λ b. own h e.client ++ cond b ((e.now, e.call) ∷ []) []) (eq-eqb e.client e.client refl)

pub own_call : (h : List Entry) (e : Entry) → legal h → legal (h ++ e ∷ [])
    → own (h ++ e ∷ []) (client_of e) ≡ own h (client_of e) ++ call_of e ∷ []
own_call h e was is = let t = as_call h e was is in
    subst (λ (x : Entry). own (h ++ x ∷ []) (client_of x) ≡ own h (client_of x) ++ call_of x ∷ []) (sym t.1)
    (own_now h t.0 was)

other_now : (h : List Entry) (e : Event) (r : ℕ) → legal h → r ≢ e.client → own (h ++ called e ∷ []) r ≡ own h r
other_now h e r was other = own_called h e r was
    ∙ ap (λ b. own h r ++ cond b ((e.now, e.call) ∷ []) []) (ne_eqb e.client r (λ same. other (sym same)))
    ∙ append-nil (own h r)

pub own_other : (h : List Entry) (e : Entry) (r : ℕ) → legal h → legal (h ++ e ∷ []) → r ≢ client_of e
    → own (h ++ e ∷ []) r ≡ own h r
own_other h e r was is other = let t = as_call h e was is in
    subst (λ (x : Entry). r ≢ client_of x → own (h ++ x ∷ []) r ≡ own h r) (sym t.1) (other_now h t.0 r was) other

abbrev OneMore : List Reply → List Reply → Type 0
OneMore more l = (more ≡ l) ⊎ ((x : Reply) × (more ≡ l ++ x ∷ []))

pub one_of : {X : Type 0} (l : List X) → length l ≤ 1 → (l ≡ []) ⊎ ((x : X) × (l ≡ x ∷ []))
one_of [] few = inl refl
one_of (x ∷ []) few = inr (x, refl)
one_of (x ∷ y ∷ l) few = absurd (omega (arith, few))

more_now : (h : List Entry) (e : Event) (r : ℕ) → legal h → legal (h ++ called e ∷ [])
    → OneMore (replies (h ++ called e ∷ []) r) (replies h r)
more_now h e r was is =
    let few = told_once (history_in h) e r (subst IsLegal (push_call h e was) is.1) in
    let now = replies_called h e r was in
    ⊎_elim
    (λ (none : replies_in (replies_of (history_in h) e) r ≡ []).
    inl (now ∙ ap (λ l. replies h r ++ l) none ∙ append-nil (replies h r)))
    (λ (one : (x : Reply) × (replies_in (replies_of (history_in h) e) r ≡ x ∷ [])).
    inr (one.0, now ∙ ap (λ l. replies h r ++ l) one.1))
    (one_of (replies_in (replies_of (history_in h) e) r) few)

pub one_more : (h : List Entry) (e : Entry) (r : ℕ) → legal h → legal (h ++ e ∷ [])
    → OneMore (replies (h ++ e ∷ []) r) (replies h r)
one_more h e r was is = let t = as_call h e was is in
    subst (λ (x : Entry). legal (h ++ x ∷ []) → OneMore (replies (h ++ x ∷ []) r) (replies h r)) (sym t.1)
    (more_now h t.0 r was) is

pub no_more : (h : List Entry) (r : ℕ) → legal h → length (replies h r) ≤ length (own h r)
no_more h r is = no_more_replies (history_in h) r is.1

pub stays : (n : ℕ) (h k : List Entry) → GoesOn h k → has_clients n h → has_clients n k
stays n [] k more is = absurd is
stays n (Opened limits clients keeping ∷ es) k more is = subst (has_clients n) (sym more.1) is
stays n (Called client now call ∷ es) k more is = absurd is

-- that a history is legal can't be so in two ways
IsLegalAt-prop : (s : State) (e : Event) → IsProp (IsLegalAt s e)
IsLegalAt-prop s e = hlevel props

AreLegal-prop : (s : State) (es : List Event) → IsProp (AreLegalFrom s es)
AreLegal-prop s [] = Unit-prop
AreLegal-prop s (e ∷ es) = ×_prop (IsLegalAt-prop s e) (AreLegal-prop (step s e).state es)

pub IsLegal-prop : (h : History) → IsProp (IsLegal h)
IsLegal-prop h = AreLegal-prop (opening h.limits h.clients) h.events
