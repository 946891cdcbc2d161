-- One more call of the namespace, and handing out what it tells.
use Rattle.std.proofs.Common.{◌≡◌, ◌≢◌, ℕ, ◌+◌, ◌≤◌, ◌<◌, false, cond, eqb, List, [], ◌∷◌, ◌++◌, map, length, refl, sym, ap, ◌∙◌, subst, inl, inr, arith, ⊎_elim, Option, Some, None, All, append-nil, length-append, eq-eqb, ne_eqb, IfOk, OnOk, Result, Ok, Err}
use Rattle.std.specs.Prelude.{filter}
use Rattle.std.proofs.lemmas.List.Elements.{All-head, All-tail}
use mathlib.Core.Logic.{dite}
use native.Mathlib.Decide.{ℕ_discrete}
use Rattle.ipc_call.specs.declared.calls.Call.{Call}
use Rattle.ipc_call.specs.declared.replies.Completion.{Completion}
use Rattle.ipc_call.specs.declared.replies.Reply.{Reply}
use Rattle.ipc_model.specs.State.{is_waiting}
use Rattle.ipc_space.specs.declared.ledger.Effects.{Effects}
use Rattle.ipc_model.specs.Step.{Event}
use Rattle.ipc_model.specs.Decision.{Outcome}
use Rattle.ipc_history.specs.History.{History, IsLegal, next_step, with_event}
use Rattle.ipc_history.specs.History as model
use Rattle.ipc_space.specs.Spaces.{own_reply, other_replies}
use Rattle.ipc_space.specs.Telling.{addressed, replies_of, replies_in}
use Rattle.ipc_space.proofs.Balance.{told_once, told_known, replies_push, is_free}
use Rattle.pub_rule.specs.Lists.{IsOn}
use Rattle.pub_rule.specs.Work.{GoesOn}
use Rattle.pub_rule.specs.WorkSteps.{with_work, refusing, leaving, paying, replying}
use Rattle.pub_list.specs.Combining.{MayAnswer, MayPark, EntersCall}
use Rattle.pub_list.specs.declared.asking.Answer.TheVariants as answers
use Rattle.pub_list.specs.Passing.{HasTaken, IsAsFar, HasDealt}
use Rattle.ipc_combiner.specs.declared.entries.Keeping.{Keeping}
use Rattle.pub_list.proofs.Marking.{goes_further}
use Rattle.ipc_combiner.specs.declared.entries.Entry.{Entry}
use Rattle.ipc_combiner.specs.declared.shared.Shared.{Shared}
use Rattle.ipc_combiner.specs.Entries.{called, entries_of, legal, client_of, call_of, own, replies, has_clients}
use Rattle.ipc_combiner.specs.Laws.{entries_push, history-entries, is_legal, own_call}
use Rattle.ipc_combiner.specs.Serving.{Knowledge, Serves, HasEntered, OwesReply, IsHanding, HasKept, entries_in, history_of, told_list}

here : (o : ℕ) (y : Reply) (rest : List (ℕ × Reply)) → replies_in ((o, y) ∷ rest) o ≡ y ∷ replies_in rest o
here o y rest = ap (λ b. map (λ t. t.1) (cond b ((o, y) ∷ filter (λ t. eqb t.0 o) rest) (filter (λ t. eqb t.0 o) rest))) (eq-eqb o o refl)

elsewhere : (o r : ℕ) (y : Reply) (rest : List (ℕ × Reply)) → o ≢ r → replies_in ((o, y) ∷ rest) r ≡ replies_in rest r
elsewhere o r y rest other = ap (λ b. map (λ t. t.1) (cond b ((o, y) ∷ filter (λ t. eqb t.0 r) rest) (filter (λ t. eqb t.0 r) rest))) (ne_eqb o r other)

pub none_left : {X : Type 0} (l : List X) → length l ≡ 0 → l ≡ []
none_left [] few = refl
none_left (x ∷ l) few = absurd (omega (arith, few))

no_head : {X : Type 0} (x : X) (l : List X) → x ∷ l ≡ [] → ⊥
no_head x l e = let size = ap length e in absurd (omega (arith, size))

-- where the first of a list of at most one is known, there is no other
alone : (l rest : List Reply) (y : Reply) → l ≡ y ∷ rest → length l ≤ 1 → rest ≡ []
alone l rest y is few = let size = ap length is in none_left rest (omega (arith, size, few))

replies-entries : (keeping : Keeping) (h : History) (r : ℕ) → replies (entries_of keeping h) r ≡ model.replies h r
replies-entries keeping h r = ap (λ (z : History). model.replies z r) (history-entries keeping h)

-- a client each of whose calls has its reply has none that waits
pub calls_freely : (keeping : Keeping) (h : History) (r : ℕ) → IsLegal h → length (own (entries_of keeping h) r) ≡ length (replies (entries_of keeping h) r) → is_waiting (model.run h) r ≡ false
calls_freely keeping h r legal same = is_free h r legal (sym (ap length (ap (λ (z : History). model.own z r) (history-entries keeping h))) ∙ same ∙ ap length (replies-entries keeping h r))

-- what the last event brought a client
brings : (n : ℕ) (v : Knowledge) (state : Shared) (rest : List (ℕ × Reply)) (h : IsHanding n v state rest) (r : ℕ) → replies v.work.seen r ≡ replies v.work.before r ++ replies_in (replies_of h.before h.event) r
brings n v state rest h r =
    ap (λ (es : List Entry). replies es r) h.is ∙ replies-entries h.keeping (with_event h.before h.event) r ∙ replies_push h.before h.event r
    ∙ ap (λ (l : List Reply). l ++ replies_in (replies_of h.before h.event) r) (sym (replies-entries h.keeping h.before r) ∙ ap (λ (es : List Entry). replies es r) (sym h.was))

-- what is still to be handed out
module _ (n : ℕ) (v : Knowledge) (state : Shared) (o : ℕ) (y : Reply) (rest : List (ℕ × Reply)) (h : IsHanding n v state ((o, y) ∷ rest)) where
  abbrev told : List (ℕ × Reply)
  told = replies_of h.before h.event

  few : (r : ℕ) → length (replies_in told r) ≤ 1
  few r = told_once h.before h.event r h.is_legal

  pub below : o < n
  below = All-head (λ (t : ℕ × Reply). t.0 < n) (o, y) rest h.known

  abbrev Right : Type 0
  Right = (¬ IsOn o v.work.paid) × (replies_in ((o, y) ∷ rest) o ≡ replies_in told o)

  right : Right
  right = ⊎_elim (λ (l : IsOn o v.work.paid × (replies_in ((o, y) ∷ rest) o ≡ [])). absurd (no_head y (replies_in rest o) (sym (here o y rest) ∙ l.1))) (λ (r : Right). r) (h.each o below)

  told_is : replies_in told o ≡ y ∷ replies_in rest o
  told_is = sym right.1 ∙ here o y rest

  rest_none : replies_in rest o ≡ []
  rest_none = alone (replies_in told o) (replies_in rest o) y told_is (few o)

  pub owes : OwesReply v state o y
  owes = (h.combines, h.seen, brings n v state ((o, y) ∷ rest) h o ∙ ap (λ (l : List Reply). replies v.work.before o ++ l) (told_is ∙ ap (λ (l : List Reply). y ∷ l) rest_none), right.0)

  pub handed : (w : Knowledge) (new : Shared) → w ≡ with_work (paying o v.work) v → new ≡ state → IsHanding n w new rest
  handed w new e same = subst (λ (z : Knowledge). IsHanding n z new rest) (sym e) record {
    combines = (h.combines.0, refl);
    seen = ap entries_in same ∙ h.seen;
    before = h.before;
    event = h.event;
    keeping = h.keeping;
    was = h.was;
    is = h.is;
    is_legal = h.is_legal;
    known = All-tail (λ (t : ℕ × Reply). t.0 < n) (o, y) rest h.known;
    each = λ r lt. dite (ℕ_discrete r o)
        (λ a. inl (inl a, ap (λ k. replies_in rest k) a ∙ rest_none))
        (λ a. let past = elsewhere o r y rest (λ b. a (sym b)) in ⊎_elim
        (λ (l : IsOn r v.work.paid × (replies_in ((o, y) ∷ rest) r ≡ [])). inl (inr l.0, sym past ∙ l.1))
        (λ (k : (¬ IsOn r v.work.paid) × (replies_in ((o, y) ∷ rest) r ≡ replies_in told r)). inr ((λ on. ⊎_elim a k.0 on), sym past ∙ k.1))
        (h.each r lt));
  }

pub all_handed : (n : ℕ) (v : Knowledge) (state : Shared) → IsHanding n v state [] → Serves n v state
all_handed n v state h = (
  h.combines,
  h.seen,
  (λ r lt. ⊎_elim
      (λ (l : IsOn r v.work.paid × (replies_in [] r ≡ [])). inr l.0)
      (λ (k : (¬ IsOn r v.work.paid) × (replies_in [] r ≡ replies_in (replies_of h.before h.event) r)). inl (brings n v state [] h r ∙ ap (λ (l : List Reply). replies v.work.before r ++ l) (sym k.1) ∙ append-nil (replies v.work.before r)))
      (h.each r lt)),
  subst legal (sym h.is) (is_legal h.keeping (with_event h.before h.event) h.is_legal),
)

-- it has taken the record of a client that posted this call
abbrev Takes : ℕ → ℕ → ℕ × Call → Knowledge → Shared → Type 0
Takes n client call = HasTaken entries_in legal replies own has_clients n client call

-- a call that was taken
module _ (n client now : ℕ) (call : Call) (v : Knowledge) (old : Shared) (taken : Takes n client (now, call) v old) where
  abbrev event : Event
  event = record { client = client; now = now; call = call }

  abbrev was : History
  was = history_of old

  clients_are : length was.clients ≡ n
  clients_are = subst (has_clients n) (sym taken.2) taken.5

  pub is_client : client < length was.clients
  is_client = let same = clients_are in let small = taken.6 in omega arith

  pub is_replied : length (own (entries_in old) client) ≡ length (replies (entries_in old) client)
  is_replied = subst (λ es. length (own es client) ≡ length (replies es client)) (sym taken.2) taken.4

  pub is_lawful : IsLegal was
  is_lawful = subst IsLegal (history-entries old.keeping was) (subst legal (sym taken.2) taken.7).1

  pub serves_still : (w : Knowledge) (new : Shared) → w ≡ with_work (refusing client v.work) v → entries_in new ≡ entries_in old → Serves n w new
  serves_still w new e same = subst (λ (z : Knowledge). Serves n z new) (sym e) ((taken.0, refl), same ∙ taken.2, taken.3, taken.7)

  module _ (new : Shared) (mine : Option Reply) (others : List (ℕ × Reply)) (ent : HasEntered client now call was (history_of new) mine others) (as_before : new.keeping ≡ old.keeping) where
    becomes : entries_in new ≡ entries_of old.keeping (with_event was event)
    becomes = ap (λ (k : Keeping). entries_of k (history_of new)) as_before ∙ ap (entries_of old.keeping) ent.0

    longer : entries_in new ≡ v.work.seen ++ called event ∷ []
    longer = becomes ∙ entries_push old.keeping was event ∙ ap (λ (l : List Entry). l ++ called event ∷ []) taken.2

    legal_now : legal (entries_in new)
    legal_now = is_legal new.keeping (history_of new) ent.1

    next_legal : IsLegal (with_event was event)
    next_legal = subst IsLegal ent.0 ent.1

    enters : EntersCall entries_in legal client_of call_of n client v new replies
    enters = ((now, call), called event, taken.1, refl, refl, longer, legal_now, taken.3)

    more : (r : ℕ) → replies (entries_in new) r ≡ replies v.work.seen r ++ replies_in (replies_of was event) r
    more r = replies-entries new.keeping (history_of new) r ∙ ap (λ (z : History). model.replies z r) ent.0 ∙ replies_push was event r
        ∙ ap (λ (l : List Reply). l ++ replies_in (replies_of was event) r) (sym (replies-entries old.keeping was r) ∙ ap (λ (es : List Entry). replies es r) taken.2)

    goes_on : GoesOn v.work.seen (entries_in new)
    goes_on = (called event ∷ [], longer)

    module _ (reply : Reply) (is : mine ≡ Some reply) where
      told_is_all : replies_of was event ≡ (client, reply) ∷ others
      told_is_all = ent.2 ∙ ap (λ o. told_list client o others) is

      told_mine : replies_in (replies_of was event) client ≡ reply ∷ replies_in others client
      told_mine = ap (λ l. replies_in l client) told_is_all ∙ here client reply others

      pub may_answer : MayAnswer entries_in legal client_of call_of n client v new replies (answers.Reply reply)
      may_answer = inl (enters, more client ∙ ap (λ (l : List Reply). replies v.work.seen client ++ l) (told_mine ∙ ap (λ (l : List Reply). reply ∷ l) ent.3))

      pub replied : (w : Knowledge) (same : Shared) → w ≡ with_work (replying v.work.serving client (entries_in new) v.work) v → same ≡ new → IsHanding n w same others
      replied w same e eq = subst (λ (z : Knowledge). IsHanding n z same others) (sym (e ∙ (λ i. with_work (replying (taken.1 i) client (entries_in new) v.work) v))) record {
        combines = (taken.0, refl);
        seen = ap entries_in eq;
        before = was;
        event = event;
        keeping = old.keeping;
        was = sym taken.2;
        is = becomes;
        is_legal = next_legal;
        known = subst (λ k. All (λ (t : ℕ × Reply). t.0 < k) others) clients_are (All-tail (λ (t : ℕ × Reply). t.0 < length was.clients) (client, reply) others (subst (All (λ (t : ℕ × Reply). t.0 < length was.clients)) told_is_all (told_known was event next_legal)));
        each = λ r lt. dite (ℕ_discrete r client)
            (λ a. inl (inl a, ap (λ k. replies_in others k) a ∙ ent.3))
            (λ a. inr ((λ on. ⊎_elim a (λ t. t) on), sym (ap (λ l. replies_in l r) told_is_all ∙ elsewhere client r reply others (λ b. a (sym b)))));
      }

      pub replied_far : (w : Knowledge) → w ≡ with_work (replying v.work.serving client (entries_in new) v.work) v → IsAsFar v w
      replied_far w e = subst (λ (z : Knowledge). IsAsFar v z) (sym (e ∙ (λ i. with_work (replying (taken.1 i) client (entries_in new) v.work) v))) (refl, refl, refl, refl, goes_on)

    module _ (is : mine ≡ None) where
      tells_others : replies_of was event ≡ others
      tells_others = ent.2 ∙ ap (λ o. told_list client o others) is

      same_replies : replies (entries_in new) client ≡ replies v.work.seen client
      same_replies = more client ∙ ap (λ l. replies v.work.seen client ++ l) (ap (λ l. replies_in l client) tells_others ∙ ent.3) ∙ append-nil (replies v.work.seen client)

      pub may_park : MayPark entries_in legal client_of call_of n client v new own replies
      may_park = (
        enters,
        (let told = ap length same_replies in
            let calls = ap length (ap (λ (l : List Entry). own l client) longer ∙ own_call v.work.seen (called event) taken.7 (subst legal longer legal_now)) in
            let sum = length-append (own v.work.seen client) ((now, call) ∷ []) in
            let even = taken.4 in omega (arith, told, calls, sum, even)),
      )

      pub parked : (w : Knowledge) (same : Shared) → w ≡ with_work (leaving client (entries_in new) v.work) v → same ≡ new → IsHanding n w same others
      parked w same e eq = subst (λ (z : Knowledge). IsHanding n z same others) (sym e) record {
        combines = (taken.0, refl);
        seen = ap entries_in eq;
        before = was;
        event = event;
        keeping = old.keeping;
        was = sym taken.2;
        is = becomes;
        is_legal = next_legal;
        known = subst (λ k. All (λ (t : ℕ × Reply). t.0 < k) others) clients_are (subst (All (λ (t : ℕ × Reply). t.0 < length was.clients)) tells_others (told_known was event next_legal));
        each = λ r lt. inr ((λ on. on), sym (ap (λ l. replies_in l r) tells_others));
      }

      pub parked_far : (w : Knowledge) → w ≡ with_work (leaving client (entries_in new) v.work) v → IsAsFar v w
      parked_far w e = subst (λ (z : Knowledge). IsAsFar v z) (sym e) (refl, refl, refl, refl, goes_on)

-- what is known after handing out
module _ (client : ℕ) (v w u : Knowledge) where
  pub far_then : IsAsFar v w → IsAsFar w u → IsAsFar v u
  far_then first then_far = (then_far.0 ∙ first.0, then_far.1 ∙ first.1, then_far.2 ∙ first.2, then_far.3 ∙ first.3, goes_further v.work.seen w.work.seen u.work.seen first.4 then_far.4)

  pub dealt_then : HasDealt client v w → HasKept w u → HasDealt client v u
  dealt_then dealt kept = (kept.0 ∙ dealt.0, kept.1 ∙ dealt.1, kept.2 ∙ dealt.2, kept.3 ∙ dealt.3, kept.4 ∙ dealt.4, kept.5 ∙ dealt.5)

module _ (o : ℕ) (v u w : Knowledge) (e : w ≡ with_work (paying o u.work) u) where
  pub far_paying : IsAsFar v u → IsAsFar v w
  far_paying far = subst (λ (z : Knowledge). IsAsFar v z) (sym e) far

  pub kept_paying : HasKept v u → HasKept v w
  kept_paying kept = subst (λ (z : Knowledge). HasKept v z) (sym e) kept

-- what a call of the namespace tells, by what its effects say
told_as : (client place : ℕ) (mine : Option Outcome) (ended : List Completion) → map addressed (model.reply_to_own client place mine ++ model.replies_to_ended place 1 ended) ≡ told_list client (own_reply place mine) (other_replies place ended)
told_as client place None ended = refl
told_as client place (Some o) ended = refl

module _ (h k : History) (client now : ℕ) (call : Call) where
  abbrev e : Event
  e = record { client = client; now = now; call = call }

  entered : (x : Effects) → k ≡ with_event h e → x.own ≡ own_reply (length h.events + 1) (next_step h e).own → x.others.items ≡ other_replies (length h.events + 1) (next_step h e).ended → IsLegal k → replies_in x.others.items client ≡ []
      → HasEntered client now call h k x.own x.others.items
  entered x is mine others law apart = (is, law, told_as client (length h.events + 1) (next_step h e).own (next_step h e).ended ∙ (λ i. told_list client (sym mine i) (sym others i)), apart)

  pub entered_if : {X : Type 0} (r : Result Effects X) → OnOk r (k ≡ with_event h e) → IfOk r (λ x. x.own ≡ own_reply (length h.events + 1) (next_step h e).own) → IfOk r (λ x. x.others.items ≡ other_replies (length h.events + 1) (next_step h e).ended)
      → IsLegal k → IfOk r (λ x. replies_in x.others.items client ≡ []) → IfOk r (λ x. HasEntered client now call h k x.own x.others.items)
  entered_if (Ok x) is mine others law apart = entered x is mine others law apart
  entered_if (Err x) is mine others law apart = tt
