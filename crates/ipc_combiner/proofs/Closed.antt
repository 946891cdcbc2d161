-- What the clients told at the close, by the words that the list took in.
use Rattle.std.proofs.Common.{◌≡◌, ◌≢◌, ◌⊎◌, ℕ, ◌+◌, ◌≤◌, ◌<◌, List, [], ◌∷◌, ◌++◌, length, refl, sym, ap, ◌∙◌, subst, inl, inr, ⊎_elim, arith, append-nil, All}
use Rattle.std.proofs.lemmas.List.Elements.{All-nil, All-cons, All-head}
use Rattle.ipc_call.specs.declared.calls.Call.{Call}
use Rattle.ipc_call.specs.declared.replies.Reply.{Reply}
use Rattle.ipc_model.specs.State.{State, opening}
use Rattle.ipc_model.specs.Step.{Event, step}
use Rattle.ipc_history.specs.History.{History, IsLegal, AreLegalFrom}
use Rattle.ipc_model.proofs.Keeping.{Follows-step}
use Rattle.pub_rule.specs.declared.work.Closed.{Closed}
use Rattle.pub_rule.specs.declared.work.Stage.{Stage}
use Rattle.pub_rule.specs.declared.work.Stage.TheVariants.{Spent, Maker, Away, Free, Asking, Token}
use Rattle.pub_rule.specs.declared.work.Work.{Work}
use Rattle.pub_rule.specs.Work.{GoesOn, IsAmong}
use Rattle.pub_rule.specs.WorkClosing.{IsTrueOf}
use Rattle.pub_rule.specs.WorkSplits.{owner_of}
use Rattle.pub_list.specs.Closing.{at_home, last_words, AreTrue}
use Rattle.pub_list.proofs.Marking.{goes_further}
use Rattle.ipc_combiner.specs.declared.closing.Client.{Client}
use Rattle.ipc_combiner.specs.declared.closing.Client.TheVariants.{Unjoined, Idle, InFlight}
use Rattle.ipc_combiner.specs.declared.entries.Entry.{Entry}
use Rattle.ipc_combiner.specs.declared.entries.Keeping.{Keeping}
use Rattle.ipc_combiner.specs.Closing.{number_of, work_of, IsClientOf, Has, IsKept, HasBegun, IsTold, IsOpenedBy}
use Rattle.ipc_combiner.specs.Entries.{entries_of, history_in, keeping_in, own, replies}
use Rattle.ipc_combiner.specs.States.{IsOpened, Records, first_entries, keeping, opened}

abbrev Known : Type 0
Known = Work Entry (ℕ × Call) Reply

abbrev Words : Type 0
Words = Closed Entry (ℕ × Call) Reply

abbrev pub words_of : Client → Words
words_of c = last_words (work_of c)

-- what the clients told, the last first, on top of what others told
abbrev pub words_onto : List Client → List Words → List Words
words_onto [] told = told
words_onto (c ∷ cs) told = words_onto cs (words_of c ∷ told)

pub length-words : (cs : List Client) (told : List Words) → length (words_onto cs told) ≡ length cs + length told
length-words [] told = omega arith
length-words (c ∷ cs) told = let rest = length-words cs (words_of c ∷ told) in omega (arith, rest)

-- one more told
pub told_more : (cs rest : List Client) (c : Client) (words : Words) (old new : List Words) → cs ≡ c ∷ rest → words ≡ words_of c → new ≡ words ∷ old → words_onto rest new ≡ words_onto cs old
told_more cs rest c words old new are is more = ap (λ l. words_onto rest l) (more ∙ ap (λ w. w ∷ old) is) ∙ ap (λ l. words_onto l old) (sym are)

stays_among : (b : Words) (cs : List Client) (told : List Words) → IsAmong b told → IsAmong b (words_onto cs told)
stays_among b [] told is = is
stays_among b (c ∷ cs) told is = stays_among b cs (words_of c ∷ told) (inr is)

are_among : (cs : List Client) (told : List Words) → All (λ c. IsAmong (words_of c) (words_onto cs told)) cs
are_among [] told = All-nil (λ c. IsAmong (words_of c) told)
are_among (c ∷ cs) told = All-cons (λ x. IsAmong (words_of x) (words_onto cs (words_of c ∷ told))) c cs (stays_among (words_of c) cs (words_of c ∷ told) (inl refl)) (are_among cs (words_of c ∷ told))

abbrev IsFrom : Words → List Client → Type 0
IsFrom b [] = ⊥
IsFrom b (c ∷ cs) = (b ≡ words_of c) ⊎ IsFrom b cs

from_one : (b : Words) (cs : List Client) (told : List Words) → IsAmong b (words_onto cs told) → IsAmong b told ⊎ IsFrom b cs
from_one b [] told is = inl is
from_one b (c ∷ cs) told is = ⊎_elim
    (λ (on : IsAmong b (words_of c ∷ told)). ⊎_elim (λ (e : b ≡ words_of c). inr (inl e)) (λ (a : IsAmong b told). inl a) on)
    (λ (k : IsFrom b cs). inr (inr k))
    (from_one b cs (words_of c ∷ told) is)

number_is : (c : Client) → owner_of (work_of c).stage ≡ number_of c
number_is (Unjoined c) = ap (λ (w : Known). owner_of w.stage) c.fresh.own.1
number_is (Idle c) = c.joined.own.working.own
number_is (InFlight c) = c.joined.own.working.own

begun_by : (b : Words) (r : ℕ) (cs : List Client) → IsFrom b cs → b.client ≡ r → 1 ≤ b.begun → HasBegun r cs
begun_by b r [] is who begun = is
begun_by b r (c ∷ cs) is who begun = ⊎_elim
    (λ (e : b ≡ words_of c). inl (sym (number_is c) ∙ sym (ap (λ (w : Words). w.client) e) ∙ who, subst (λ (k : ℕ). 1 ≤ k) (ap (λ (w : Words). w.begun) e) begun))
    (λ (k : IsFrom b cs). inr (begun_by b r cs k who begun))
    is

asked : {C : Type 0} (s : Stage C) (q : ℕ) (k : C) → at_home s ≡ Asking q k → s ≡ Asking q k
asked Spent q k e = e
asked (Maker n) q k e = e
asked (Away r) q k e = e
asked (Free r) q k e = cc
asked (Asking r c) q k e = e
asked (Token r) q k e = e

module _ (h : List Entry) (closed : List Words) (w : Known) (t : IsTrueOf own replies h closed (last_words w)) where
  -- a client that asks nothing
  resting : (client : ℕ) → owner_of w.stage ≡ client → ((q : ℕ) (k : ℕ × Call) → w.stage ≢ Asking q k) → Has h client w.entered w.got
  resting client who idle = subst (λ r. Has h r w.entered w.got) who (
    ⊎_elim (λ e. e) (λ x. absurd (idle (owner_of w.stage) x.0 (asked w.stage (owner_of w.stage) x.0 x.1))) t.calls,
    ⊎_elim (λ e. e) (λ x. absurd (idle (owner_of w.stage) x.0 (asked w.stage (owner_of w.stage) x.0 x.2))) t.answers,
  )

  abbrev Flying : ℕ → Type 0
  Flying r = Has h r w.entered w.got ⊎ ((k : ℕ × Call) × (w.stage ≡ Asking r k) × (Has h r (w.entered ++ k ∷ []) w.got ⊎ ((x : Reply) × Has h r (w.entered ++ k ∷ []) (w.got ++ x ∷ []))))

  -- and one whose call is in flight
  flying : (client : ℕ) → owner_of w.stage ≡ client → Flying client
  flying client who = subst Flying who (⊎_elim
      (λ got. ⊎_elim (λ calls. inl (calls, got)) (λ c. inr (c.0, asked w.stage (owner_of w.stage) c.0 c.1, inl (c.2, got))) t.calls)
      (λ a. inr (a.0, asked w.stage (owner_of w.stage) a.0 a.2, inr (a.1, (a.4, a.3))))
      t.answers)

kept : (h : List Entry) (closed : List Words) (c : Client) → IsTrueOf own replies h closed (words_of c) → IsKept h c
kept h closed (Unjoined c) t =
    let new = c.fresh.own.1 in
    let none = resting h closed (work_of (Unjoined c)) t c.fresh.client (number_is (Unjoined c)) (λ q k e. let away = ap (λ (w : Known). w.stage) new in cc) in
    (none.0 ∙ ap (λ (w : Known). w.entered) new, none.1 ∙ ap (λ (w : Known). w.got) new)
kept h closed (Idle c) t = resting h closed (work_of (Idle c)) t c.joined.client (number_is (Idle c)) (λ q k e. let free = c.own.0 in cc)
kept h closed (InFlight c) t = flying h closed (work_of (InFlight c)) t c.joined.client (number_is (InFlight c))

module _ (h : List Entry) (cs : List Client) (closed : List Words) (are : closed ≡ words_onto cs []) (true_of : AreTrue own replies h closed) where
  replies_by : (c : Client) → IsAmong (words_of c) closed → IsTold h cs c
  replies_by c on = let t = true_of (words_of c) on in record {
    saw = t.saw;
    kept = kept h closed c t;
    met = λ r is. let m = t.met r is in begun_by m.0 r cs (⊎_elim (λ (none : IsAmong m.0 []). absurd none) (λ (k : IsFrom m.0 cs). k) (from_one m.0 cs [] (subst (IsAmong m.0) are m.1))) m.2 m.3;
  }

  pub each_told : All (λ c. IsTold h cs c) cs
  each_told = λ k d lt. replies_by _ (subst (IsAmong _) (sym are) (are_among cs [] k d lt))

-- the opening stays
pub saw_opening : (a b : Keeping) (o h : History) (seen : List Entry) → GoesOn (entries_of a o) seen → GoesOn seen (entries_of b h) → (h.limits ≡ o.limits) × (h.clients ≡ o.clients) × (b ≡ a)
saw_opening a b o h seen first then =
    let all = goes_further (entries_of a o) seen (entries_of b h) first then in
    (ap (λ (es : List Entry). (history_in es).limits) all.1, ap (λ (es : List Entry). (history_in es).clients) all.1, ap keeping_in all.1)

client_saw : (list : Records) (c : Client) → IsClientOf list c → GoesOn (first_entries list) (work_of c).seen
client_saw list (Unjoined c) is = ([], is.1 ∙ sym (append-nil (first_entries list)))
client_saw list (Idle c) is = is.1
client_saw list (InFlight c) is = is.1

-- each event of a legal history is of one of its clients
below_from : (n : ℕ) (s : State) (es : List Event) → length s.clients ≡ n → AreLegalFrom s es → All (λ e. e.client < n) es
below_from n s [] is law = All-nil (λ (e : Event). e.client < n)
below_from n s (e ∷ es) is law = All-cons (λ (x : Event). x.client < n) e es (let known = law.0.known in omega arith)
    (below_from n (step s e).state es ((Follows-step s e).clients ∙ is) law.1)

pub is_opened : (list : Records) (b : Keeping) (h : History) (cs : List Client) → IsOpened list → 1 ≤ length cs → All (λ c. IsClientOf list c) cs → All (λ c. IsTold (entries_of b h) cs c) cs → IsLegal h
    → IsOpenedBy (opened list) list.clients h × (b ≡ keeping list)
is_opened list b h [] for some are told law = absurd (omega (arith, some))
is_opened list b h (c ∷ cs) for some are told law =
    let same = saw_opening (keeping list) b (opened list) h (work_of c).seen (client_saw list c (All-head (λ x. IsClientOf list x) c cs are)) (All-head (λ x. IsTold (entries_of b h) (c ∷ cs) x) c cs told).saw in
    ((same.0, same.1, below_from list.clients (opening h.limits h.clients) h.events (ap length same.1 ∙ for.0) law), same.2)
