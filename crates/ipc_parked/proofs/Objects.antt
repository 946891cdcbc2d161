-- The calls that wait on an object, among all: what a call more or less changes, and which is at an index.
use Rattle.std.proofs.Common.{◌≡◌, ℕ, zero, suc, ◌≤◌, Bool, true, false, cond, eqb, List, [], ◌∷◌, ◌++◌, length, map, drop, slice_get, refl, sym, ap, subst, ◌∙◌, ⊎_elim, inl, inr, arith, Option, Some, None}
use Rattle.std.specs.Option.{option_map}
use Rattle.std.specs.Borrow.{Bor}
use Rattle.std.proofs.lemmas.Bool.{cases_Bool, true≢false, eqb-true, eq-eqb}
use Rattle.std.proofs.lemmas.Option.{none-some, same_Some}
use Rattle.ipc_call.specs.declared.calls.Call.{Call}
use Rattle.ipc_call.specs.declared.calls.Kind.{Kind}
use Rattle.ipc_call.specs.declared.calls.Call.TheVariants.{MsgSnd, MsgRcv, SemOp, SemTimedOp}
use Rattle.ipc_call.specs.declared.calls.Kind.TheVariants as kinds
use Rattle.ipc_call.specs.declared.replies.Waiting.{Waiting}
use Rattle.ipc_model.specs.Cancelled.{waits_on}
use Rattle.ipc_model.specs.Decide.{waits_at}
use Rattle.ipc_parked.specs.declared.parked.Arrival.{Arrival}
use Rattle.ipc_parked.specs.declared.waits.Wait.{Wait}
use Rattle.ipc_parked.specs.Waits.{clients_at, without_first}
use Rattle.ipc_parked.specs.Parked.{is_there, arrival_of, others, waiting, entry_of, on_object, clients_on, is_at, AreDistinct, IsIndex, MayAsk, Answers, Picks}
use Rattle.ipc_parked.proofs.Clients.{others_free, there_from}

-- a call more
pub clients-push : (kind : Kind) (i : ℕ) (es : List (ℕ × Arrival)) (e : ℕ × Arrival)
    → clients_on kind i (es ++ e ∷ []) ≡ cond (waits_on kind i e.1.call) (clients_on kind i es ++ e.0 ∷ []) (clients_on kind i es)
clients-push kind i [] e =
    ⊎_elim
    (λ (here : waits_on kind i e.1.call ≡ true). rw here refl)
    (λ (not_here : waits_on kind i e.1.call ≡ false). rw not_here refl)
    (cases_Bool (waits_on kind i e.1.call))
clients-push kind i (d ∷ es) e =
    let later = clients-push kind i es e in
    ⊎_elim
    (λ (first : waits_on kind i d.1.call ≡ true).
    ⊎_elim
    (λ (here : waits_on kind i e.1.call ≡ true). let l = rw here at later in rw (first, here) (ap (λ (clients : List ℕ). d.0 ∷ clients) l))
    (λ (not_here : waits_on kind i e.1.call ≡ false). let l = rw not_here at later in rw (first, not_here) (ap (λ (clients : List ℕ). d.0 ∷ clients) l))
    (cases_Bool (waits_on kind i e.1.call)))
    (λ (not_first : waits_on kind i d.1.call ≡ false). rw not_first later)
    (cases_Bool (waits_on kind i d.1.call))

-- a call less
pub clients-others : (kind : Kind) (i c : ℕ) (call : Call) (es : List (ℕ × Arrival)) → AreDistinct es → option_map (λ a. a.call) (arrival_of c es) ≡ Some call
    → clients_on kind i (others c es) ≡ cond (waits_on kind i call) (without_first c (clients_on kind i es)) (clients_on kind i es)
unfolding AreDistinct
clients-others kind i c call [] are is = absurd (none-some call is)
clients-others kind i c call (e ∷ es) are is =
    ⊎_elim
    (λ (own : eqb e.0 c ≡ true).
    let its : Some e.1.call ≡ Some call = rw own at is in
    let same : e.1.call ≡ call = same_Some e.1.call call its in
    let free : others c es ≡ es = others_free c es (subst (λ (x : ℕ). is_there x es ≡ false) (eqb-true e.0 c own) are.0) in
    ⊎_elim
    (λ (here : waits_on kind i call ≡ true).
    let first : waits_on kind i e.1.call ≡ true = ap (λ (k : Call). waits_on kind i k) same ∙ here in
    rw (own, free, here, first, own) refl)
    (λ (not_here : waits_on kind i call ≡ false).
    let not_first : waits_on kind i e.1.call ≡ false = ap (λ (k : Call). waits_on kind i k) same ∙ not_here in
    rw (own, free, not_here, not_first) refl)
    (cases_Bool (waits_on kind i call)))
    (λ (other : eqb e.0 c ≡ false).
    let its : option_map {T = Arrival} {U = Call} (λ a. a.call) (arrival_of c es) ≡ Some call = rw other at is in
    let later = clients-others kind i c call es are.1 its in
    ⊎_elim
    (λ (first : waits_on kind i e.1.call ≡ true).
    ⊎_elim
    (λ (here : waits_on kind i call ≡ true). let l = rw here at later in rw (other, first, here, other) (ap (λ (clients : List ℕ). e.0 ∷ clients) l))
    (λ (not_here : waits_on kind i call ≡ false). let l = rw not_here at later in rw (other, first, not_here) (ap (λ (clients : List ℕ). e.0 ∷ clients) l))
    (cases_Bool (waits_on kind i call)))
    (λ (not_first : waits_on kind i e.1.call ≡ false). rw (other, not_first) later)
    (cases_Bool (waits_on kind i e.1.call)))
    (cases_Bool (eqb e.0 c))

-- the index after each
pub index-none : (kind : Kind) (rows : List Wait) (es : List (ℕ × Arrival)) → rows ≡ [] → es ≡ [] → IsIndex kind rows es
index-none kind rows es no_rows no_calls =
    λ i. ap (λ (rs : List Wait). clients_at i rs) no_rows ∙ ap (λ (ds : List (ℕ × Arrival)). clients_on kind i ds) (sym no_calls)

-- a row more, of a list that is the index, with the call that came
pub index-push : (kind : Kind) (rows before after : List Wait) (at : Option (Kind × ℕ)) (es : List (ℕ × Arrival)) (e : ℕ × Arrival) → IsIndex kind rows es
    → before ≡ rows → at ≡ waits_at e.1.call
    → ((i : ℕ) → clients_at i after ≡ cond (is_at kind i at) (clients_at i before ++ e.0 ∷ []) (clients_at i before))
    → IsIndex kind after (es ++ e ∷ [])
index-push kind rows before after at es e index same own added =
    λ i. added i
    ∙ ap (λ (o : Option (Kind × ℕ)). cond (is_at kind i o) (clients_at i before ++ e.0 ∷ []) (clients_at i before)) own
    ∙ ap (λ (clients : List ℕ). cond (waits_on kind i e.1.call) (clients ++ e.0 ∷ []) clients) (ap (λ (rs : List Wait). clients_at i rs) same ∙ index i)
    ∙ sym (clients-push kind i es e)

-- a row less, of a list that is the index, with the call that left
pub index-others : (kind : Kind) (rows after : List Wait) (at : Option (Kind × ℕ)) (c : ℕ) (call : Call) (es : List (ℕ × Arrival)) → AreDistinct es
    → option_map (λ a. a.call) (arrival_of c es) ≡ Some call → IsIndex kind rows es → at ≡ waits_at call
    → ((i : ℕ) → clients_at i after ≡ cond (is_at kind i at) (without_first c (clients_at i rows)) (clients_at i rows))
    → IsIndex kind after (others c es)
index-others kind rows after at c call es are is index own removed =
    λ i. removed i
    ∙ ap (λ (o : Option (Kind × ℕ)). cond (is_at kind i o) (without_first c (clients_at i rows)) (clients_at i rows)) own
    ∙ ap (λ (clients : List ℕ). cond (waits_on kind i call) (without_first c clients) clients) (index i)
    ∙ sym (clients-others kind i c call es are is)

-- no call waits at a segment
no_segment : (i : ℕ) (call : Call) → waits_on kinds.Segment i call ≡ false
no_segment i (MsgSnd id mtype text flags) = refl
no_segment i (MsgRcv id size msgtyp flags) = refl
no_segment i (SemOp id ops) = refl
no_segment i (SemTimedOp id ops timeout) = refl
no_segment i call = refl

pub none_on_segment : (i index : ℕ) (es : List (ℕ × Arrival)) → None ≡ slice_get (clients_on kinds.Segment i es) index
none_on_segment i index [] = refl
none_on_segment i index (e ∷ es) = rw (no_segment i e.1.call) (none_on_segment i index es)

pub nobody_on_segment : (i : ℕ) (es : List (ℕ × Arrival)) → on_object kinds.Segment i es ≡ []
nobody_on_segment i [] = refl
nobody_on_segment i (e ∷ es) = rw (no_segment i e.1.call) (nobody_on_segment i es)

-- where none of its clients waits no call does
pub none_without_clients : (es : List (ℕ × Arrival)) → map (λ e. e.0) es ≡ [] → es ≡ []
none_without_clients [] none = refl
none_without_clients (e ∷ es) none = absurd (let h = ap length none in omega (arith, h))

-- which is at an index
-- past a call of another client
later_at : (e : ℕ × Arrival) (c : ℕ) (es : List (ℕ × Arrival)) → is_there e.0 es ≡ false → (a : Arrival) → arrival_of c es ≡ Some a → arrival_of c (e ∷ es) ≡ Some a
later_at e c es apart a is =
    ⊎_elim
    (λ (own : eqb e.0 c ≡ true). absurd (true≢false (sym (there_from c es a is) ∙ subst (λ (k : ℕ). is_there k es ≡ false) (eqb-true e.0 c own) apart)))
    (λ (other : eqb e.0 c ≡ false). rw other is)
    (cases_Bool (eqb e.0 c))

pub found_at : (kind : Kind) (i index c : ℕ) (es : List (ℕ × Arrival)) → AreDistinct es → slice_get (clients_on kind i es) index ≡ Some c
    → (a : Arrival) × (arrival_of c es ≡ Some a) × (slice_get (on_object kind i es) index ≡ Some (c, a))
unfolding AreDistinct
found_at kind i index c [] are is = absurd (none-some c is)
found_at kind i zero c (e ∷ es) are is =
    ⊎_elim
    (λ (here : waits_on kind i e.1.call ≡ true).
    let its : Some e.0 ≡ Some c = rw here at is in
    let same : e.0 ≡ c = same_Some e.0 c its in
    let own : eqb e.0 c ≡ true = eq-eqb e.0 c same in
    (e.1, rw own refl, rw here (ap (λ (k : ℕ). Some (k, e.1)) same)))
    (λ (not_here : waits_on kind i e.1.call ≡ false).
    let its : slice_get (clients_on kind i es) zero ≡ Some c = rw not_here at is in
    let later = found_at kind i zero c es are.1 its in
    (later.0, later_at e c es are.0 later.0 later.1, rw not_here later.2))
    (cases_Bool (waits_on kind i e.1.call))
found_at kind i (suc index) c (e ∷ es) are is =
    ⊎_elim
    (λ (here : waits_on kind i e.1.call ≡ true).
    let its : slice_get (clients_on kind i es) index ≡ Some c = rw here at is in
    let later = found_at kind i index c es are.1 its in
    (later.0, later_at e c es are.0 later.0 later.1, rw here later.2))
    (λ (not_here : waits_on kind i e.1.call ≡ false).
    let its : slice_get (clients_on kind i es) (suc index) ≡ Some c = rw not_here at is in
    let later = found_at kind i (suc index) c es are.1 its in
    (later.0, later_at e c es are.0 later.0 later.1, rw not_here later.2))
    (cases_Bool (waits_on kind i e.1.call))

waiting_get : (es : List (ℕ × Arrival)) (k : ℕ) (e : ℕ × Arrival) → slice_get es k ≡ Some e → slice_get (waiting es) k ≡ Some (entry_of e)
waiting_get [] k e is = absurd (none-some e is)
waiting_get (d ∷ es) zero e is = ap (λ (x : ℕ × Arrival). Some (entry_of x)) (same_Some d e is)
waiting_get (d ∷ es) (suc k) e is = waiting_get es k e is

-- what the map finds of the client at an index
pub nth_found : (kind : Kind) (i index c : ℕ) (es : List (ℕ × Arrival)) (a : Arrival) → AreDistinct es → Some c ≡ slice_get (clients_on kind i es) index → arrival_of c es ≡ Some a
    → Some (entry_of (c, a)) ≡ slice_get (waiting (on_object kind i es)) index
nth_found kind i index c es a are is found =
    let there = found_at kind i index c es are (sym is) in
    let same : there.0 ≡ a = same_Some there.0 a (sym there.1 ∙ found) in
    ap (λ (b : Arrival). Some (entry_of (c, b))) (sym same) ∙ sym (waiting_get (on_object kind i es) index (c, there.0) there.2)

-- a test that goes over the calls on an object by index
pub entry_at : (es : List (ℕ × Arrival)) (k : ℕ) (w : Waiting) → Some w ≡ slice_get (waiting es) k
    → (e : ℕ × Arrival) × (drop k es ≡ e ∷ drop (suc k) es) × (entry_of e ≡ w)
entry_at [] k w is = absurd (none-some w (sym is))
entry_at (e ∷ es) zero w is = (e, refl, same_Some (entry_of e) w (sym is))
entry_at (e ∷ es) (suc k) w is = entry_at es k w is

pub past_end : (es : List (ℕ × Arrival)) (k : ℕ) → None ≡ slice_get (waiting es) k → drop k es ≡ []
past_end [] zero is = refl
past_end [] (suc k) is = refl
past_end (e ∷ es) zero is = absurd (none-some (entry_of e) is)
past_end (e ∷ es) (suc k) is = past_end es k is

pub drop_all : (es : List (ℕ × Arrival)) (k : ℕ) → length es ≤ k → drop k es ≡ []
drop_all [] zero within = refl
drop_all [] (suc k) within = refl
drop_all (e ∷ es) zero within = absurd (omega (arith, within))
drop_all (e ∷ es) (suc k) within = drop_all es k (omega (arith, within))

pub length-on_object : (kind : Kind) (i : ℕ) (es : List (ℕ × Arrival)) → length (on_object kind i es) ≤ length es
length-on_object kind i [] = omega arith
length-on_object kind i (e ∷ es) =
    let later = length-on_object kind i es in
    ⊎_elim
    (λ (here : waits_on kind i e.1.call ≡ true). rw here (omega (arith, later)))
    (λ (not_here : waits_on kind i e.1.call ≡ false). rw not_here (omega (arith, later)))
    (cases_Bool (waits_on kind i e.1.call))

pub pick_end : (answers : ℕ × Arrival → Bool → Type 0) (es : List (ℕ × Arrival)) (k : ℕ) → drop k es ≡ []
    → ((client : Option ℕ) → Picks answers (drop k es) client → Picks answers es client) → Picks answers es None
pick_end answers es k nothing all = all None (subst (λ (ds : List (ℕ × Arrival)). Picks answers ds None) (sym nothing) refl)

pub may_ask_at : (pre : ℕ → Bor Call → Type 0) (es : List (ℕ × Arrival)) (k : ℕ) (w : Waiting) (call : Bor Call) → Some w ≡ slice_get (waiting es) k
    → call.now ≡ w.call → MayAsk pre (drop k es) → pre w.client call
may_ask_at pre es k w call is own may =
    let there = entry_at es k w is in
    let first : MayAsk pre (there.0 ∷ drop (suc k) es) = subst (λ (ds : List (ℕ × Arrival)). MayAsk pre ds) there.1 may in
    subst (λ (c : ℕ). pre c call) (ap (λ (v : Waiting). v.client) there.2) (first.0 call (own ∙ ap (λ (v : Waiting). v.call) (sym there.2)))

pub may_ask_later : (pre : ℕ → Bor Call → Type 0) (es : List (ℕ × Arrival)) (k : ℕ) (w : Waiting) → Some w ≡ slice_get (waiting es) k
    → MayAsk pre (drop k es) → MayAsk pre (drop (suc k) es)
may_ask_later pre es k w is may =
    let there = entry_at es k w is in
    let first : MayAsk pre (there.0 ∷ drop (suc k) es) = subst (λ (ds : List (ℕ × Arrival)). MayAsk pre ds) there.1 may in first.1

answered : (post : ℕ → Bor Call → Bool → Type 0) (e : ℕ × Arrival) (w : Waiting) (call : Bor Call) (answer : Bool) → entry_of e ≡ w → call.now ≡ w.call
    → post w.client call answer → Answers post e answer
answered post e w call answer is own says = record {
  shown = call;
  shows = own ∙ ap (λ (v : Waiting). v.call) (sym is);
  says = subst (λ (c : ℕ). post c call answer) (ap (λ (v : Waiting). v.client) (sym is)) says;
}

pub pick_here : (post : ℕ → Bor Call → Bool → Type 0) (es : List (ℕ × Arrival)) (k : ℕ) (w : Waiting) (call : Bor Call) → Some w ≡ slice_get (waiting es) k
    → call.now ≡ w.call → post w.client call true
    → ((client : Option ℕ) → Picks (Answers post) (drop k es) client → Picks (Answers post) es client) → Picks (Answers post) es (Some w.client)
pick_here post es k w call is own says all =
    let there = entry_at es k w is in
    let same : Some w.client ≡ Some there.0.0 = ap (λ (v : Waiting). Some v.client) (sym there.2) in
    all (Some w.client) (subst (λ (ds : List (ℕ × Arrival)). Picks (Answers post) ds (Some w.client)) (sym there.1) (inl (same, answered post there.0 w call true there.2 own says)))

pub pick_later : (post : ℕ → Bor Call → Bool → Type 0) (es : List (ℕ × Arrival)) (k : ℕ) (w : Waiting) (call : Bor Call) → Some w ≡ slice_get (waiting es) k
    → call.now ≡ w.call → post w.client call false
    → ((client : Option ℕ) → Picks (Answers post) (drop k es) client → Picks (Answers post) es client)
    → (client : Option ℕ) → Picks (Answers post) (drop (suc k) es) client → Picks (Answers post) es client
pick_later post es k w call is own says all client picks =
    let there = entry_at es k w is in
    all client (subst (λ (ds : List (ℕ × Arrival)). Picks (Answers post) ds client) (sym there.1) (inr (answered post there.0 w call false there.2 own says, picks)))
