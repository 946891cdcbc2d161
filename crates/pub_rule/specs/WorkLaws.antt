-- The laws of combining: what each kind of step on the publication records asks of the seat that takes it.
use Rattle.std.specs.Prelude.{◌≡◌, ◌⊎◌, ℕ, true, false, ◌+◌, ◌-◌, ◌<◌, List, [], ◌∷◌, ◌++◌, ◌==◌, length}
use mathlib.Core.Option.{none, some}
use prog.Atomic.{either}
use Rattle.atomic_table.specs.Table.{Me, Step, step, Allows}
use Rattle.pub_rule.specs.declared.walk.View.{View}
use Rattle.pub_rule.specs.declared.work.Work.{Work}
use Rattle.pub_rule.specs.declared.work.Stage.TheVariants.{Away, Free}
use Rattle.pub_rule.specs.declared.work.Serving.{Serving}
use Rattle.pub_rule.specs.declared.work.Serving.TheVariants.{Nothing, Posted, Parked}
use Rattle.pub_rule.specs.declared.served.Served.{Ghosts}
use Rattle.pub_rule.specs.declared.served.Slot.{Slot}
use Rattle.pub_rule.specs.declared.served.Slot.TheVariants as slots
use Rattle.pub_rule.specs.declared.words.TheConstants.{FREE, POSTED, TAKEN, PARKED, ANSWERED}
use Rattle.pub_rule.specs.Words.{lock_word, state_word}
use Rattle.pub_rule.specs.Lists.{IsOn}
use Rattle.pub_rule.specs.Rule.{Ruled, work, HasInFront}
use Rattle.pub_rule.specs.Work.{Serves, IsClient}
use Rattle.pub_rule.specs.WorkSteps.{Posts, reply_collected, call_taken, state_seized, Fetches, slot_given}
use Rattle.pub_rule.specs.WorkSteps.{record_peeked, lock_peeked, LooksAtOwn, state_released, call_answered, call_parked}
use Rattle.pub_rule.specs.WorkSteps.{call_refused, Resumes, reply_handed}

-- the seat of client p, which combines, and has taken this record
pub record Combiner {E C R : Type 0} (p : ℕ) (serving : Serving C) (w : Work E C R) : Type 0 where
  pub client : IsClient p w.stage
  pub holds : w.holds ≡ true
  pub serves : w.serving ≡ serving

-- the seat of client p, which doesn't combine
pub record Bystander {E C R : Type 0} (p : ℕ) (w : Work E C R) : Type 0 where
  pub client : IsClient p w.stage
  pub waits : w.holds ≡ false

-- client i has each reply that the last event brought it
abbrev pub IsPaid : {E C R : Type 0} → (List E → ℕ → List R) → ℕ → Work E C R → Type 0
IsPaid replies i w = (replies w.seen i ≡ replies w.before i) ⊎ IsOn i w.paid

-- A law for each kind of step: what it asks of the seat, and that the rule is kept where the step tells what it tells.
module _ {S E C R : Type 0} (served : Ghosts S E C R) (n : ℕ) where
  -- the state x has the event e more than the combiner saw, which is the call c of client r, and nobody was owed a
  -- reply before it
  pub record AddsEvent (r : ℕ) (c : C) (e : E) (x : S) (w : Work E C R) : Type 0 where
    pub by : served.client e ≡ r
    pub asks : served.call e ≡ c
    pub one_more : served.history x ≡ w.seen ++ e ∷ []
    pub is_legal : served.legal (served.history x)
    pub owes_nothing : (i : ℕ) → i < n → IsPaid served.replies i w

  -- a seat's view, with the slots in its hand
  abbrev pub Seat : Type 0
  Seat = Me (Slot C R S) (View (Work E C R))

  -- a step that makes its word what the first function says, and tells what the second says, keeps the rule
  abbrev pub Keeps : Step (Slot C R S) → ℕ → Seat → (ℕ → ℕ) → (Step (Slot C R S) → Seat → ℕ → Seat → Type 0) → Type 0
  Keeps st id me to told = Allows (Ruled n (Serves served n)) st.slots id me st.word to (told st me)

  -- a client that has its slot in its hand, with its call, posts it
  abbrev pub KeptByPost : Type 0
  KeptByPost = (size id q : ℕ) (c : C) (me : Seat) (free : (work me).stage ≡ Free q)
      (held : HasInFront q (slots.Call c) me)
      → Keeps (step size (state_word q) POSTED 0 none) id me (λ _. POSTED) (λ st m k m'. Posts m m')

  -- a client makes its state word free where it is answered
  abbrev pub KeptByCollect : Type 0
  KeptByCollect = (size id q : ℕ) (me : Seat) (client : IsClient q (work me).stage)
      → Keeps (step size (state_word q) ANSWERED FREE none) id me (λ k. either (k == ANSWERED) FREE k)
      (λ st m k m'. reply_collected served m m' k)

  -- the holder, which has taken no record, takes the record of client r where it is posted
  abbrev pub KeptByTake : Type 0
  KeptByTake = (size id p r : ℕ) (me : Seat) (ready : Combiner p Nothing (work me)) (small : r < n)
      → Keeps (step size (state_word r) POSTED TAKEN none) id me (λ k. either (k == POSTED) TAKEN k)
      (λ st m k m'. call_taken served m m' st.word k)

  -- the holder, which has taken no record, reads the state word of client r
  abbrev pub KeptByPeek : Type 0
  KeptByPeek = (size id p r : ℕ) (me : Seat) (ready : Combiner p Nothing (work me)) (small : r < n)
      → Keeps (step size (state_word r) 0 0 none) id me (λ k. k) (λ st m k m'. record_peeked m m' st.word k)

  -- a client that doesn't combine makes the lock word its own number + 1 where it is 0
  abbrev pub KeptBySeize : Type 0
  KeptBySeize = (size id p : ℕ) (me : Seat) (bystander : Bystander p (work me))
      → Keeps (step size lock_word 0 (p + 1) none) id me (λ k. either (k == 0) (p + 1) k)
      (λ st m k m'. state_seized served m m' (st.slots - 1) k)

  -- a client that doesn't combine reads the lock word
  abbrev pub KeptByPeekLock : Type 0
  KeptByPeekLock = (size id p : ℕ) (me : Seat) (bystander : Bystander p (work me))
      → Keeps (step size lock_word 0 0 none) id me (λ k. k) (λ st m k m'. lock_peeked m m' (st.slots - 1) k)

  -- a client whose slot lies empty at home reads its state word, and takes the slot
  abbrev pub KeptByFetch : Type 0
  KeptByFetch = (size id q : ℕ) (me : Seat) (away : (work me).stage ≡ Away q)
      → Keeps (step size (state_word q) 0 0 none) id me (λ k. k) (λ st m k m'. Fetches m m')

  -- a client reads its state word, and gives its empty slot back where it has it in its hand
  abbrev pub KeptByGive : Type 0
  KeptByGive = (size id q : ℕ) (me : Seat) (client : IsClient q (work me).stage)
      (held : (work me).stage ≡ Free q → HasInFront q slots.Empty me)
      → Keeps (step size (state_word q) 0 0 none) id me (λ k. k) (λ st m k m'. slot_given m m')

  -- any seat reads the state word of a client
  abbrev pub KeptByLook : Type 0
  KeptByLook = (size id r : ℕ) (me : Seat) (small : r < n)
      → Keeps (step size (state_word r) 0 0 none) id me (λ k. k) (λ st m k m'. (k < 5) × (m' ≡ m))

  -- a client reads its state word
  abbrev pub KeptByWatch : Type 0
  KeptByWatch = (size id q : ℕ) (me : Seat) (client : IsClient q (work me).stage)
      → Keeps (step size (state_word q) 0 0 none) id me (λ k. k) (λ st m k m'. LooksAtOwn served m m' k)

  -- the holder, which has taken no record and owes nothing, makes the lock word 0
  abbrev pub KeptByRelease : Type 0
  KeptByRelease = (size id p : ℕ) (x : S) (me : Seat) (ready : Combiner p Nothing (work me))
      (history_is : served.history x ≡ (work me).seen)
      (owes_nothing : (i : ℕ) → i < n → IsPaid served.replies i (work me)) (held : HasInFront n (slots.State x) me)
      → Keeps (step size lock_word 0 0 none) id me (λ _. 0) (λ st m k m'. state_released m m')

  -- the holder, which has taken a posted record and owes nothing, answers it with the reply of the call's event, the
  -- last in the history
  abbrev pub KeptByAnswer : Type 0
  KeptByAnswer = (size id p r : ℕ) (c : C) (e : E) (x : S) (y : R) (me : Seat)
      (took : Combiner p (Posted r c) (work me)) (adds : AddsEvent r c e x (work me))
      (brings : served.replies (served.history x) r ≡ served.replies (work me).seen r ++ y ∷ [])
      (held : HasInFront r (slots.Reply y) me)
      → Keeps (step size (state_word r) ANSWERED 0 (some (slots.State x))) id me (λ _. ANSWERED)
      (λ st m k m'. call_answered served m m' st.word st.said)

  -- the holder, which has taken a posted record and owes nothing, leaves it parked with the call's event, which brings
  -- its client no reply: it has one reply fewer than calls
  abbrev pub KeptByPark : Type 0
  KeptByPark = (size id p r : ℕ) (c : C) (e : E) (x : S) (me : Seat)
      (took : Combiner p (Posted r c) (work me)) (adds : AddsEvent r c e x (work me))
      (fewer : length (served.replies (served.history x) r) + 1 ≡ length (served.own (served.history x) r))
      (held : HasInFront r slots.Empty me)
      → Keeps (step size (state_word r) PARKED 0 (some (slots.State x))) id me (λ _. PARKED)
      (λ st m k m'. call_parked served m m' st.word st.said)

  -- the holder, which has taken a posted record, answers it with Memory in its slot
  abbrev pub KeptByRefuse : Type 0
  KeptByRefuse = (size id p r : ℕ) (c : C) (me : Seat) (took : Combiner p (Posted r c) (work me))
      (held : HasInFront r slots.Memory me)
      → Keeps (step size (state_word r) ANSWERED 0 none) id me (λ _. ANSWERED) (λ st m k m'. call_refused m m' st.word)

  -- the holder, which has taken no record, takes the record of a client that is owed a reply: it was parked
  abbrev pub KeptByResume : Type 0
  KeptByResume = (size id p r : ℕ) (me : Seat) (ready : Combiner p Nothing (work me)) (small : r < n)
      (owed : ¬ (served.replies (work me).seen r ≡ served.replies (work me).before r))
      (unpaid : ¬ IsOn r (work me).paid)
      → Keeps (step size (state_word r) PARKED TAKEN none) id me (λ k. either (k == PARKED) TAKEN k)
      (λ st m k m'. Resumes m m' st.word k)

  -- the holder, which has taken a parked record, answers it with the last of its client's replies in the history
  abbrev pub KeptByHand : Type 0
  KeptByHand = (size id p r : ℕ) (c : C) (front : List R) (y : R) (me : Seat)
      (took : Combiner p (Parked r c) (work me)) (last : served.replies (work me).seen r ≡ front ++ y ∷ [])
      (held : HasInFront r (slots.Reply y) me)
      → Keeps (step size (state_word r) ANSWERED 0 none) id me (λ _. ANSWERED) (λ st m k m'. reply_handed m m' st.word)
