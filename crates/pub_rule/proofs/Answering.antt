-- The steps that add an event keep the rule.
use Rattle.std.proofs.Common.{◌≡◌, ◌≢◌, ◌⊎◌, ℕ, true, ◌<◌, List, [], ◌∷◌, ◌++◌, length, set, if◌then◌else◌, sym, refl, ap, ◌∙◌, subst, inl, inr, ⊎_elim, arith, length-append, lt_of_not-le}
use mathlib.Core.Logic.{dite}
use native.Mathlib.Decide.{dec_le}
use mathlib.Core.Option.{Option, some}
use lib.ListN.{get_elem?}
use Rattle.atomic_table.specs.Table.{State, gives, Allows, rest}
use Rattle.pub_rule.specs.declared.served.Served.{Ghosts}
use Rattle.pub_rule.specs.declared.work.Work.{Work}
use Rattle.pub_rule.specs.declared.work.Stage.{Stage}
use Rattle.pub_rule.specs.declared.work.Stage.TheVariants as stages
use Rattle.pub_rule.specs.declared.work.Serving.{Serving}
use Rattle.pub_rule.specs.declared.work.Serving.TheVariants.{Nothing, Posted}
use Rattle.pub_rule.specs.declared.served.Slot.{Slot}
use Rattle.pub_rule.specs.declared.served.Slot.TheVariants as slots
use Rattle.pub_rule.specs.Words.{state_word}
use Rattle.pub_rule.specs.Lists.{IsOn}
use Rattle.pub_rule.specs.Work.{Phase, away, free, posted, taken, parked, resumed, refused, replied, Client, Desk, IsTaken, IsTakenIn, IsDealt, IsInPhase, IsInStage, IsClient, HasReplies, IsSettled, IsMarked, WasParked, word_of, home_of, calls_of, Serves}
use Rattle.pub_rule.specs.WorkSteps.{with_work, marks_of, is_own, dealt, entering, call_answered}
use Rattle.pub_rule.specs.WorkLaws.{KeptByAnswer}
use Rattle.pub_rule.proofs.Numbers.{state_from_head, state_from_next}
use Rattle.pub_rule.proofs.Moves.{Stays, holder_step, has_seat}
use Rattle.pub_rule.proofs.Lift.{Served, lift}
use Rattle.pub_rule.proofs.Passing.{marks_are, past_is}

abbrev call_or : {C : Type 0} → C → Serving C → C
call_or k (Posted r c) = c
call_or k _ = k

abbrev is_posted : {C : Type 0} → Serving C → Type 0
is_posted (Posted r c) = Unit {0}
is_posted _ = ⊥

pub phase_taken : {C R : Type 0} (r : ℕ) (c : C) (p : Phase C R) (d : Serving C) → d ≡ Posted r c → IsTakenIn r d p → p ≡ taken c
phase_taken r c away d e h = absurd (h (subst (IsTaken r) (sym e) refl))
phase_taken r c free d e h = absurd (h (subst (IsTaken r) (sym e) refl))
phase_taken r c (posted k) d e h = absurd (h (subst (IsTaken r) (sym e) refl))
phase_taken r c (taken k) d e h = ap (λ z. taken z) (ap (call_or k) (sym h ∙ e))
phase_taken r c (parked k) d e h = absurd (h (subst (IsTaken r) (sym e) refl))
phase_taken r c (resumed k) d e h = absurd (subst is_posted (sym e ∙ h) tt)
phase_taken r c (refused k) d e h = absurd (h (subst (IsTaken r) (sym e) refl))
phase_taken r c (replied k x) d e h = absurd (h (subst (IsTaken r) (sym e) refl))

in_stage : {C : Type 0} (R : Type 0) (c : C) (y : R) (st : Stage C) → IsInStage {C = C} {R = R} st (taken c) → IsInStage st (replied c y)
in_stage R c y stages.Spent h = tt
in_stage R c y (stages.Maker k) h = tt
in_stage {C} R c y (stages.Away q) h = absurd (subst (λ (p : Phase C R). IsDealt p → ⊥) h (λ f. f) tt)
in_stage {C} R c y (stages.Free q) h = absurd (subst (λ (p : Phase C R). IsDealt p → ⊥) h (λ f. f) tt)
in_stage R c y (stages.Asking q k) h = h
in_stage R c y (stages.Token q) h = tt

module _ {E C R S : Type 0} (served : Ghosts S E C R) (n : ℕ) where
  open served use {history, legal, own, replies, client, call, own_call, own_other, one_more, no_more}

  -- a client with as many replies as calls gets no further one
  even_still : (h : List E) (e : E) (i : ℕ) (calls : List C) (got : List R) → legal h → legal (h ++ e ∷ []) → i ≢ client e → own h i ≡ calls → replies h i ≡ got → length calls ≡ length got → replies (h ++ e ∷ []) i ≡ got
  even_still h e i calls got was law other o g even = ⊎_elim (λ same. same ∙ g)
      (λ y. let x : R = y.0 in let most = no_more (h ++ e ∷ []) i law in let a = ap length (own_other h e i was law other ∙ o) in let b = ap length (y.1 ∙ ap (λ (l : List R). l ++ x ∷ []) g) in let c = length-append got (x ∷ []) in absurd (omega arith)) (one_more h e i was law)

  -- another client, after an event
  other_phase : (d : Desk E C) (r : ℕ) (c : C) (e : E) (i : ℕ) (t : Client E C R) (p : Phase C R) (paid : List ℕ) → d.serving ≡ Posted r c → legal d.hist → legal (d.hist ++ e ∷ []) → client e ≡ r → i ≢ r → ¬ IsOn i paid → (replies d.hist i ≡ replies d.before i) ⊎ IsOn i d.paid
      → own d.hist i ≡ calls_of t.entered p → length t.entered ≡ length t.got → HasReplies served d i t.got p → IsTakenIn i d.serving p
      → HasReplies served (record { hist = d.hist ++ e ∷ []; before = d.hist; paid = paid; serving = Nothing }) i t.got p × IsSettled served (record { hist = d.hist ++ e ∷ []; before = d.hist; paid = paid; serving = Nothing }) i p × IsTakenIn i Nothing p
  other_phase d r c e i t away paid s was law is other off owed o even h k = let z = even_still d.hist e i t.entered t.got was law (λ z. other (z ∙ is)) o h even in (z, inl (z ∙ sym h), λ f. f)
  other_phase d r c e i t free paid s was law is other off owed o even h k = let z = even_still d.hist e i t.entered t.got was law (λ z. other (z ∙ is)) o h even in (z, inl (z ∙ sym h), λ f. f)
  other_phase d r c e i t (posted a) paid s was law is other off owed o even h k = let z = even_still d.hist e i t.entered t.got was law (λ z. other (z ∙ is)) o h even in (z, inl (z ∙ sym h), λ f. f)
  other_phase d r c e i t (taken a) paid s was law is other off owed o even h k = absurd (other (subst (IsTaken i) (sym k ∙ s) refl))
  other_phase d r c e i t (parked a) paid s was law is other off owed o even h k = let still : replies d.hist i ≡ t.got = ⊎_elim (λ z. z) (λ y. absurd (⊎_elim
      (λ (same : replies d.hist i ≡ replies d.before i). let x : R = y.0 in let z : length (t.got ++ x ∷ []) ≡ length t.got = ap length (sym y.1 ∙ (same ∙ h.0)) in let b = length-append t.got (x ∷ []) in omega arith) (λ on. y.2 on) owed)) h.1 in
      ((still, ⊎_elim (λ same. inl (same ∙ still)) (λ y. inr (y.0, y.1 ∙ ap (λ (l : List R). l ++ y.0 ∷ []) still, off)) (one_more d.hist e i was law)), tt, λ f. f)
  other_phase d r c e i t (resumed a) paid s was law is other off owed o even h k = absurd (subst is_posted (sym s ∙ k) tt)
  other_phase d r c e i t (refused a) paid s was law is other off owed o even h k = let z = even_still d.hist e i t.entered t.got was law (λ z. other (z ∙ is)) o h even in (z, inl (z ∙ sym h), λ f. f)
  other_phase d r c e i t (replied a x) paid s was law is other off owed o even h k = let z = even_still d.hist e i (t.entered ++ a ∷ []) (t.got ++ x ∷ []) was law (λ z. other (z ∙ is)) o h (let b = length-append t.entered (a ∷ []) in let l = length-append t.got (x ∷ []) in omega arith) in
      (z, inl (z ∙ sym h), λ f. f)

  append_all : (a b c : List E) → (a ++ b) ++ c ≡ a ++ (b ++ c)
  append_all [] b c = refl
  append_all (x ∷ a) b c = ap (λ (l : List E). x ∷ l) (append_all a b c)

  parked_still : (h more : List E) (i : ℕ) (t : Client E C R) (p : Phase C R) → WasParked served h i t p → WasParked served (h ++ more) i t p
  parked_still h more i t away w = w
  parked_still h more i t free w = w
  parked_still h more i t (posted c) w = w
  parked_still h more i t (taken c) w = w
  parked_still h more i t (parked c) w = let g = w.0 in ((g.0 ++ more, ap (λ (l : List E). l ++ more) g.1 ∙ append_all t.parked_by g.0 more), w.1, w.2)
  parked_still h more i t (resumed c) w = let g = w.0 in ((g.0 ++ more, ap (λ (l : List E). l ++ more) g.1 ∙ append_all t.parked_by g.0 more), w.1, w.2)
  parked_still h more i t (refused c) w = w
  parked_still h more i t (replied c x) w = w

  same_calls : (h : List E) (e : E) (i : ℕ) (t : Client E C R) → legal h → legal (h ++ e ∷ []) → i ≢ client e → own h i ≡ calls_of t.entered t.phase → own (h ++ e ∷ []) i ≡ calls_of t.entered t.phase
  same_calls h e i t was law other o = own_other h e i was law other ∙ o

  abbrev Half : State (Slot C R S) (Work E C R) → Type 0
  Half = Served n (Serves served n)

  -- the event of client q's call: its record becomes t, and whoever is in `paid` is handed what the event brings
  pub event_step : (words : List ℕ) (homes : List (Option (Slot C R S))) (works : List (Work E C R)) (s : Serves served n words homes works) (id p q x : ℕ) (y : Option (Slot C R S)) (v : Work E C R) (c : C) (e : E) (paid : List ℕ) (t : Client E C R)
      → get_elem? works id ≡ some v → IsClient p v.stage → v.holds ≡ true → v.serving ≡ Posted q c → client e ≡ q → legal (s.world.desk.hist ++ e ∷ []) → ((i : ℕ) → i < n → (replies v.seen i ≡ replies v.before i) ⊎ IsOn i v.paid)
      → Stays (s.world.truth q) t → x ≡ word_of t.phase → y ≡ home_of t.phase → IsInPhase served (record { hist = s.world.desk.hist ++ e ∷ []; before = s.world.desk.hist; paid = paid; serving = Nothing }) q t → IsDealt t.phase → ((i : ℕ) → i ≢ q → ¬ IsOn i paid)
      → (w : Work E C R) → w ≡ dealt q (record v { seen = s.world.desk.hist ++ e ∷ []; before = s.world.desk.hist; paid = paid; serving = Nothing }) → Serves served n (set words (state_word q) x) (set homes q y) (set works id w)
  event_step words homes works r id p q x y v c e paid t at was holds posts whose law owes stay number slot phase deal off w is = let k = r.each_seat id v at in let b = k.combines holds in let d : Desk E C = r.world.desk in
      let serving : d.serving ≡ Posted q c = sym b.serving ∙ posts in let inside : q < n = r.sound.taken_below q (subst (IsTaken q) (sym serving) refl) in let rec = (r.stored.each_client q inside).phase in
      let f : (r.world.truth q).phase ≡ taken c = phase_taken q c (r.world.truth q).phase d.serving serving rec.taken_is in
      let small : q < r.world.made = (dite (dec_le r.world.made q) (λ u. absurd (subst (λ (z : Phase C R). IsDealt z → ⊥) (sym f ∙ has_seat served n words homes works r q u) (λ z. z) tt)) (λ u. lt_of_not-le u)) in
      let desk' : Desk E C = record { hist = d.hist ++ e ∷ []; before = d.hist; paid = paid; serving = Nothing } in
      let owed : (i : ℕ) → i < n → (replies d.hist i ≡ replies d.before i) ⊎ IsOn i d.paid = λ i l. ⊎_elim (λ g. inl (ap (λ (z : List E). replies z i) (sym b.seen) ∙ (g ∙ ap (λ (z : List E). replies z i) b.before))) (λ on. inr (subst (IsOn i) b.paid on)) (owes i l) in
      subst (λ (z : Work E C R). Serves served n (set words (state_word q) x) (set homes q y) (set works id z)) (sym is)
      (holder_step served n words homes works r id p q x y v t desk' (marks_of q v.heard ++ v.passed) (if is_own q v.stage then true else v.past) at was holds small stay number slot phase
      (λ i l other g. let z = other_phase d q c e i (r.world.truth i) (r.world.truth i).phase paid serving r.sound.is_legal law whose other (off i other) (owed i l) g.calls g.even g.replies_are g.taken_is in record {
        calls = same_calls d.hist e i (r.world.truth i) r.sound.is_legal law (λ u. other (u ∙ whose)) g.calls;
        even = g.even;
        replies_are = z.0;
        settled = z.1;
        was_parked = parked_still d.hist (e ∷ []) i (r.world.truth i) (r.world.truth i).phase g.was_parked;
        taken_is = z.2;
      })
      (e ∷ [], refl) law (λ i z. absurd z) (λ a j m. ⊎_elim (λ (h : (a ≡ q) × IsMarked a j v.heard). inr (h.0, h.1, deal)) (λ h. inl h) (marks_are q a j v.heard v.passed m))
      (λ h. ⊎_elim (λ g. inl g) (λ g. inr (g, deal)) (past_is p q v.stage v.past was h)))

  -- the record that is taken, with its call, as the client has entered and got so far
  pub taken_record : (words : List ℕ) (homes : List (Option (Slot C R S))) (works : List (Work E C R)) (s : Serves served n words homes works) (id q : ℕ) (v : Work E C R) (c : C) → get_elem? works id ≡ some v → v.holds ≡ true → v.serving ≡ Posted q c
      → ((s.world.truth q).phase ≡ taken c) × (q < n) × (v.seen ≡ s.world.desk.hist) × (own s.world.desk.hist q ≡ (s.world.truth q).entered) × (replies s.world.desk.hist q ≡ (s.world.truth q).got) × (length (s.world.truth q).entered ≡ length (s.world.truth q).got)
  taken_record words homes works s id q v c at holds posts = let b = (s.each_seat id v at).combines holds in let o : Client E C R = s.world.truth q in let serving : s.world.desk.serving ≡ Posted q c = sym b.serving ∙ posts in
      let inside : q < n = s.sound.taken_below q (subst (IsTaken q) (sym serving) refl) in let rec = (s.stored.each_client q inside).phase in let f : o.phase ≡ taken c = phase_taken q c o.phase s.world.desk.serving serving rec.taken_is in
      let old : IsInPhase served s.world.desk q (record o { phase = taken c }) = subst (λ (z : Phase C R). IsInPhase served s.world.desk q (record o { phase = z })) f rec in (f, inside, b.seen, old.calls, old.replies_are, old.even)

  answer_half : (size id p q : ℕ) (c : C) (e : E) (h : List E) (y : R) (v : Work E C R) (hands : List (ℕ × Slot C R S)) → IsClient p v.stage → v.holds ≡ true → v.serving ≡ Posted q c → client e ≡ q → call e ≡ c → h ≡ v.seen ++ e ∷ [] → legal h
      → replies h q ≡ replies v.seen q ++ y ∷ [] → ((i : ℕ) → i < n → (replies v.seen i ≡ replies v.before i) ⊎ IsOn i v.paid)
      → Allows Half size id (v, (q, slots.Reply y) ∷ hands) (state_word q) (λ _. 4) (λ _ m'. m' ≡ (entering q h v, hands))
  answer_half size id p q c e h y v hands was holds posts whose what is law brings owes s r sz at _ = let o : Client E C R = r.world.truth q in let hist : List E = r.world.desk.hist in let g = taken_record s.words s.homes s.views r id q v c at holds posts in
      let now : h ≡ hist ++ e ∷ [] = is ∙ ap (λ (l : List E). l ++ e ∷ []) g.2 in (
        entering q h v,
        gives,
        tt,
        event_step s.words s.homes s.views r id p q 4 (some (slots.Reply y)) v c e (q ∷ []) (record o { phase = replied c y }) at was holds posts whose (subst legal now law) owes
            (subst (λ (z : Phase C R). Stays (record o { phase = z }) (record o { phase = replied c y })) (sym g.0) record { stage = in_stage R c y; entered = refl; got = refl; posts = refl; begun = refl; dealt = λ _. tt; ready = λ h. absurd (omega arith) }) refl refl
            record {
              calls = subst (λ (z : ℕ). own (hist ++ e ∷ []) z ≡ own hist z ++ call e ∷ []) whose (own_call hist e r.sound.is_legal (subst legal now law)) ∙ (λ i. g.3 i ++ what i ∷ []);
              even = g.5;
              replies_are = ap (λ (z : List E). replies z q) (sym now) ∙ (brings ∙ ap (λ (z : List R). z ++ y ∷ []) (ap (λ (z : List E). replies z q) g.2 ∙ g.4));
              settled = inr (inl refl);
              was_parked = tt;
              taken_is = λ z. z;
            } tt (λ i other on. ⊎_elim other (λ u. u) on) (entering q h v) (λ i. dealt q (record v { seen = now i; before = g.2 i; paid = q ∷ []; serving = Nothing })),
        refl,
      )

  pub answer : KeptByAnswer served n
  answer size id p q c e x y me took enters brings hands = lift n (Serves served n) size id (state_word q) (λ _. 4) me (λ _ m'. m' ≡ (entering q (history x) me.0.work, rest me.1))
      (λ k m'. call_answered served me m' (state_word q) (some (slots.State x))) (λ u. state_from_head q (sym u)) (λ r u. state_from_next q r (sym u))
      (subst (λ (z : List (ℕ × Slot C R S)). Allows Half size id (me.0.work, z) (state_word q) (λ _. 4) (λ _ m'. m' ≡ (entering q (history x) me.0.work, rest me.1))) (sym hands)
      (answer_half size id p q c e (history x) y me.0.work (rest me.1) took.client took.holds took.serves enters.by enters.asks enters.one_more enters.is_legal brings enters.owes_nothing))
      (λ _ w h u. record { state = x; it_said = refl; on = record { client = q; at = refl; left = ap (λ (z : Work E C R × List (ℕ × Slot C R S)). (with_work z.0 me.0, z.1)) u } })
