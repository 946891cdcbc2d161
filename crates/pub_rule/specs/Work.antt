-- What is true of the publication records, of the lock word, of the slots and of what seats know of them, between any
-- two steps.
use Rattle.std.specs.Prelude.{◌≡◌, ◌≢◌, ◌⊎◌, ℕ, true, false, ◌+◌, ◌<◌, ◌≤◌, List, [], ◌∷◌, ◌++◌, length, slice_index}
use mathlib.Core.Option.{Option, none, some}
use lib.ListN.{get_elem?}
use Rattle.pub_rule.specs.declared.served.Served.{Ghosts}
use Rattle.pub_rule.specs.declared.work.Work.{Work}
use Rattle.pub_rule.specs.declared.work.Closed.{Closed}
use Rattle.pub_rule.specs.declared.work.Mark.{Mark}
use Rattle.pub_rule.specs.declared.work.Stage.{Stage}
use Rattle.pub_rule.specs.declared.work.Stage.TheVariants.{Spent, Maker, Away, Free, Asking, Token}
use Rattle.pub_rule.specs.declared.work.Serving.{Serving}
use Rattle.pub_rule.specs.declared.work.Serving.TheVariants.{Nothing, Posted, Parked}
use Rattle.pub_rule.specs.declared.served.Slot.{Slot}
use Rattle.pub_rule.specs.declared.served.Slot.TheVariants as slots
use Rattle.pub_rule.specs.declared.words.TheConstants.{FREE, POSTED, TAKEN, PARKED, ANSWERED}
use Rattle.pub_rule.specs.Words.{lock_word, state_word, word_count}
use Rattle.pub_rule.specs.Lists.{IsOn, Distinct}

-- the second history goes on from the first
abbrev pub GoesOn : {E : Type 0} → List E → List E → Type 0
GoesOn {E} h k = (more : List E) × (k ≡ h ++ more)

-- the post is among those marked
abbrev pub IsMarked : ℕ → ℕ → List Mark → Type 0
IsMarked r k [] = ⊥
IsMarked r k (x ∷ xs) = ((r ≡ x.client) × (k ≡ x.post)) ⊎ IsMarked r k xs

-- how far a publication record is, with its call and its reply
pub data Phase (C R : Type 0) : Type 0 where
  away : Phase C R
  free : Phase C R
  posted : C → Phase C R
  taken : C → Phase C R
  parked : C → Phase C R
  resumed : C → Phase C R
  refused : C → Phase C R
  replied : C → R → Phase C R

-- a client: how far its record is, the number of its posts and of the times it combined, its calls entered and its
-- replies got, and the history by which it was parked
pub record Client (E C R : Type 0) : Type 0 where
  pub phase : Phase C R
  pub posts : ℕ
  pub begun : ℕ
  pub entered : List C
  pub got : List R
  pub parked_by : List E

-- what the combiner knows: the history, that before the last event, the clients answered since, and the record taken
pub record Desk (E C : Type 0) : Type 0 where
  pub hist : List E
  pub before : List E
  pub paid : List ℕ
  pub serving : Serving C

-- What there is: each client, what the combiner knows, the number of clients that have a seat, those whose seats were
-- merged since, the seat of each, and the lock: the client that combines + 1, or 0.
pub record World (E C R : Type 0) : Type 0 where
  pub truth : ℕ → Client E C R
  pub desk : Desk E C
  pub made : ℕ
  pub done : List ℕ
  pub seat : ℕ → ℕ
  pub lock : ℕ

abbrev pub unmade : {E C R : Type 0} → Client E C R
unmade = record { phase = away; posts = 0; begun = 0; entered = []; got = []; parked_by = [] }

-- the record that is taken is client r's
abbrev pub IsTaken : {C : Type 0} → ℕ → Serving C → Type 0
IsTaken r Nothing = ⊥
IsTaken r (Posted q c) = r ≡ q
IsTaken r (Parked q c) = r ≡ q

-- What a phase means: for the state word, the calls of the history, the combiner, and the slot.
module _ {C R : Type 0} where
  abbrev pub word_of : Phase C R → ℕ
  word_of away = FREE
  word_of free = FREE
  word_of (posted c) = POSTED
  word_of (taken c) = TAKEN
  word_of (parked c) = PARKED
  word_of (resumed c) = TAKEN
  word_of (refused c) = ANSWERED
  word_of (replied c x) = ANSWERED

  -- the calls entered, and the one in flight where it is in the history
  abbrev pub calls_of : List C → Phase C R → List C
  calls_of entered (parked c) = entered ++ c ∷ []
  calls_of entered (resumed c) = entered ++ c ∷ []
  calls_of entered (replied c x) = entered ++ c ∷ []
  calls_of entered _ = entered

  -- a combiner has dealt with the last post
  abbrev pub IsDealt : Phase C R → Type 0
  IsDealt (posted c) = ⊥
  IsDealt (taken c) = ⊥
  IsDealt _ = Unit {0}

  -- the record is in this phase where a call is in flight
  abbrev pub IsInFlight : C → Phase C R → Type 0
  IsInFlight k away = ⊥
  IsInFlight k free = ⊥
  IsInFlight k (posted c) = c ≡ k
  IsInFlight k (taken c) = c ≡ k
  IsInFlight k (parked c) = c ≡ k
  IsInFlight k (resumed c) = c ≡ k
  IsInFlight k (refused c) = c ≡ k
  IsInFlight k (replied c x) = c ≡ k

  -- the record of client r is the one that is taken exactly in these phases
  abbrev pub IsTakenIn : ℕ → Serving C → Phase C R → Type 0
  IsTakenIn r serving (taken c) = serving ≡ Posted r c
  IsTakenIn r serving (resumed c) = serving ≡ Parked r c
  IsTakenIn r serving _ = ¬ IsTaken r serving

  abbrev pub home_of : {S : Type 0} → Phase C R → Option (Slot C R S)
  home_of away = some slots.Empty
  home_of free = none
  home_of (posted c) = some (slots.Call c)
  home_of (taken c) = none
  home_of (parked c) = some slots.Empty
  home_of (resumed c) = none
  home_of (refused c) = some slots.Memory
  home_of (replied c x) = some (slots.Reply x)

-- How a client stands to the history that is served, by its phase.
module _ {S E C R : Type 0} (served : Ghosts S E C R) where
  -- the replies that client r got, and the one in flight where it is in the history: a parked client's is there where
  -- the combiner owes it
  abbrev pub HasReplies : Desk E C → ℕ → List R → Phase C R → Type 0
  HasReplies d r got (parked c) = (served.replies d.before r ≡ got)
      × ((served.replies d.hist r ≡ got) ⊎ ((x : R) × (served.replies d.hist r ≡ got ++ x ∷ []) × ¬ IsOn r d.paid))
  HasReplies d r got (resumed c) = (x : R) × (served.replies d.hist r ≡ got ++ x ∷ [])
  HasReplies d r got (replied c x) = served.replies d.hist r ≡ got ++ x ∷ []
  HasReplies d r got _ = served.replies d.hist r ≡ got

  -- what the last event brought client r was handed to it, but for a parked client
  abbrev pub IsSettled : Desk E C → ℕ → Phase C R → Type 0
  IsSettled d r (parked c) = Unit {0}
  IsSettled d r (resumed c) = Unit {0}
  IsSettled d r _ = (served.replies d.hist r ≡ served.replies d.before r) ⊎ IsOn r d.paid

  -- a history that came before has the call that is parked, without its reply
  abbrev pub IsParkedBy : List E → ℕ → Client E C R → C → Type 0
  IsParkedBy hist r t c = GoesOn t.parked_by hist × (served.own t.parked_by r ≡ t.entered ++ c ∷ [])
      × (served.replies t.parked_by r ≡ t.got)

  abbrev pub WasParked : List E → ℕ → Client E C R → Phase C R → Type 0
  WasParked hist r t (parked c) = IsParkedBy hist r t c
  WasParked hist r t (resumed c) = IsParkedBy hist r t c
  WasParked hist r t _ = Unit {0}

  -- client r stands to the history as its phase says
  pub record IsInPhase (d : Desk E C) (r : ℕ) (t : Client E C R) : Type 0 where
    pub calls : served.own d.hist r ≡ calls_of t.entered t.phase
    pub even : length t.entered ≡ length t.got
    pub replies_are : HasReplies d r t.got t.phase
    pub settled : IsSettled d r t.phase
    pub was_parked : WasParked d.hist r t t.phase
    pub taken_is : IsTakenIn r d.serving t.phase

  -- its state word and its slot are as its phase says, and so is how it stands to the history
  pub record HasRecord (words : List ℕ) (homes : List (Option (Slot C R S))) (d : Desk E C) (r : ℕ)
      (t : Client E C R) : Type 0 where
    pub word : slice_index words (state_word r) ≡ word_of t.phase
    pub home : get_elem? homes r ≡ some (home_of t.phase)
    pub phase : IsInPhase d r t

-- a client's seat tells how far it is
abbrev pub IsInStage : {C R : Type 0} → Stage C → Phase C R → Type 0
IsInStage (Away q) p = p ≡ away
IsInStage (Free q) p = p ≡ free
IsInStage (Asking q k) p = IsInFlight k p
IsInStage _ p = Unit {0}

-- the seat is this client's
abbrev pub IsClient : {C : Type 0} → ℕ → Stage C → Type 0
IsClient r (Away q) = q ≡ r
IsClient r (Free q) = q ≡ r
IsClient r (Asking q k) = q ≡ r
IsClient r _ = ⊥

-- the client's slot is at home
abbrev pub IsAtHome : {C : Type 0} → Stage C → Type 0
IsAtHome (Away q) = Unit {0}
IsAtHome (Asking q k) = Unit {0}
IsAtHome _ = ⊥

-- What seats know, and that it is true.
module _ {E C R : Type 0} where
  -- who told
  abbrev pub clients_of : List (Closed E C R) → List ℕ
  clients_of [] = []
  clients_of (c ∷ cs) = c.client ∷ clients_of cs

  abbrev pub IsAmong : Closed E C R → List (Closed E C R) → Type 0
  IsAmong c [] = ⊥
  IsAmong c (x ∷ xs) = (c ≡ x) ⊎ IsAmong c xs

  -- what the seat of a combiner knows
  pub record Combines (d : Desk E C) (v : Work E C R) : Type 0 where
    pub client : (r : ℕ) × IsClient r v.stage
    pub seen : v.seen ≡ d.hist
    pub before : v.before ≡ d.before
    pub paid : v.paid ≡ d.paid
    pub serving : v.serving ≡ d.serving

  module _ (w : World E C R) where
    -- client r has a seat, and has begun to combine
    abbrev pub HasBegun : ℕ → Type 0
    HasBegun r = (r < w.made) × (1 ≤ (w.truth r).begun)

    -- what the seat j of client r knows of its client, which is t
    pub record Tells (j r : ℕ) (v : Work E C R) (t : Client E C R) : Type 0 where
      pub made_it : r < w.made
      pub live : ¬ IsOn r w.done
      pub seat_is : w.seat r ≡ j
      pub stage : IsInStage v.stage t.phase
      pub entered : v.entered ≡ t.entered
      pub got : v.got ≡ t.got
      pub posts : v.posts ≡ t.posts
      pub begun : v.begun ≡ t.begun
      pub past : v.past ≡ true → IsDealt t.phase
      pub found : v.found ≡ ANSWERED → word_of t.phase ≡ ANSWERED
      pub holds : v.holds ≡ true → w.lock ≡ r + 1
      pub waits : v.holds ≡ false → w.lock ≢ r + 1

    -- what a client told when its seat was merged into the seat j is true
    pub record IsTold (j : ℕ) (c : Closed E C R) : Type 0 where
      pub made_it : c.client < w.made
      pub seat_is : w.seat c.client ≡ j
      pub client : IsClient c.client c.stage
      pub home : IsAtHome c.stage
      pub stage : IsInStage c.stage (w.truth c.client).phase
      pub entered : c.entered ≡ (w.truth c.client).entered
      pub got : c.got ≡ (w.truth c.client).got
      pub begun : c.begun ≡ (w.truth c.client).begun
      pub saw : GoesOn c.seen w.desk.hist
      pub met : (r : ℕ) → IsOn r c.met → HasBegun r

    -- a seat of no client knows what the clients told whose seats it took in
    pub record Closes (j : ℕ) (closed : List (Closed E C R)) : Type 0 where
      pub distinct : Distinct (clients_of closed)
      pub on : (r : ℕ) → IsOn r (clients_of closed) → IsOn r w.done
      pub told : (c : Closed E C R) → IsAmong c closed → IsTold j c

    -- what a seat knows that isn't a client's: the first one how many seats it made
    abbrev pub IsNobodys : ℕ → List (Closed E C R) → Stage C → Type 0
    IsNobodys j closed Spent = Closes j closed
    IsNobodys j closed (Maker k) = (j ≡ 0) × (k ≡ w.made)
    IsNobodys j closed _ = Unit {0}

    -- what the seat j knows is true
    pub record Trusts (j : ℕ) (v : Work E C R) : Type 0 where
      pub maker : IsNobodys j v.closed v.stage
      pub client : (r : ℕ) → IsClient r v.stage → Tells j r v (w.truth r)
      pub token : (r : ℕ) → v.stage ≡ Token r → (r < w.made) × (v.posts ≤ (w.truth r).posts)
      pub combines : v.holds ≡ true → Combines w.desk v
      -- the history that it saw is the beginning of the history, and so is the one that it was told
      pub saw : GoesOn v.seen w.desk.hist
      pub was_told : GoesOn v.hearsay w.desk.hist
      -- who was found to combine has begun to
      pub met : (r : ℕ) → IsOn r v.met → HasBegun r
      -- the posts heard of were made; and where the last is passed, a combiner has dealt with it
      pub heard : (r k : ℕ) → IsMarked r k v.heard → (r < w.made) × (k ≤ (w.truth r).posts)
      pub passed : (r k : ℕ) → IsMarked r k v.passed → (r < w.made) × (k ≤ (w.truth r).posts)
          × ((w.truth r).posts ≡ k → IsDealt (w.truth r).phase)

-- The rule of what is served.
module _ {S E C R : Type 0} (served : Ghosts S E C R) (n : ℕ) where
  -- what is true of the world by itself
  pub record IsSound (w : World E C R) : Type 0 where
    pub few : w.made ≤ n
    pub done_made : (r : ℕ) → IsOn r w.done → r < w.made
    pub is_legal : served.legal w.desk.hist
    pub taken_below : (r : ℕ) → IsTaken r w.desk.serving → r < n
    pub unmade_are : (r : ℕ) → w.made ≤ r → w.truth r ≡ unmade

  -- what is true of the words and the slots
  pub record IsStored (words : List ℕ) (homes : List (Option (Slot C R S))) (w : World E C R) : Type 0 where
    pub wide : length words ≡ word_count n
    pub sized : length homes ≡ n + 1
    pub lock : slice_index words lock_word ≡ w.lock
    pub each_client : (r : ℕ) → r < n → HasRecord served words homes w.desk r (w.truth r)

  -- nobody combines: the state is at home, no record is taken, and nothing is owed
  pub record IsUnheld (homes : List (Option (Slot C R S))) (w : World E C R) : Type 0 where
    pub zero : w.lock ≡ 0
    pub state : S
    pub home : get_elem? homes n ≡ some (some (slots.State state))
    pub is : served.history state ≡ w.desk.hist
    pub before : w.desk.before ≡ w.desk.hist
    pub paid : w.desk.paid ≡ []
    pub nothing : w.desk.serving ≡ Nothing

  -- a client combines, which has begun to, and has the state in its hands
  pub record IsHeld (homes : List (Option (Slot C R S))) (w : World E C R) : Type 0 where
    pub holder : ℕ
    pub client : holder < w.made
    pub live : ¬ IsOn holder w.done
    pub number : w.lock ≡ holder + 1
    pub home : get_elem? homes n ≡ some none
    pub begun : 1 ≤ (w.truth holder).begun

  pub record Serves (words : List ℕ) (homes : List (Option (Slot C R S))) (works : List (Work E C R)) : Type 0 where
    pub world : World E C R
    pub sound : IsSound world
    pub stored : IsStored words homes world
    pub state : IsUnheld homes world ⊎ IsHeld homes world
    -- what each seat knows is true
    pub each_seat : (j : ℕ) (v : Work E C R) → get_elem? works j ≡ some v → Trusts world j v
