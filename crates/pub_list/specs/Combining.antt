-- How a client combines. A view of a client that has joined is v before the call, and w after it.
use Rattle.std.specs.Prelude.{◌≡◌, ◌≢◌, ◌⊎◌, ℕ, true, ◌+◌, ◌<◌, List, [], ◌∷◌, ◌++◌, length, Result, Ok, Err}
use Rattle.pub_rule.specs.declared.walk.View.{View}
use Rattle.pub_rule.specs.declared.work.Work.{Work}
use Rattle.pub_rule.specs.declared.work.Serving.TheVariants as servings
use Rattle.pub_rule.specs.Lists.{IsOn}
use Rattle.pub_rule.specs.declared.work.Stage.TheVariants.{Asking}
use Rattle.pub_rule.specs.Work.{GoesOn, IsClient}
use Rattle.pub_rule.specs.WorkSteps.{with_work, holding, meeting, taking, resuming, dealt, leaving, refusing, replying}
use Rattle.pub_rule.specs.WorkSteps.{released}
use Rattle.pub_list.specs.declared.asking.Answer.{Answer}
use Rattle.pub_list.specs.declared.asking.Answer.TheVariants.{Reply, Memory}
use Rattle.pub_list.specs.declared.records.WordState.{WordState}
use Rattle.pub_list.specs.declared.records.WordState.TheVariants.{Posted, Parked}
use Rattle.pub_list.specs.declared.combining.Took.{Took}
use Rattle.pub_list.specs.declared.combining.Took.TheVariants.{FromPosted, FromParked, Not}

-- What a combiner is, and what it learns of a record or of the lock.
module _ {E C R : Type 0} where
  -- the client combines, and has taken no record
  abbrev pub IsCombining : View (Work E C R) → Type 0
  IsCombining v = (v.work.holds ≡ true) × (v.work.serving ≡ servings.Nothing)

  -- it met another client c, of n, which combines; nothing else has changed
  abbrev pub HasMet : ℕ → ℕ → ℕ → View (Work E C R) → View (Work E C R) → Type 0
  HasMet n client c v w = (c < n) × (c ≢ client) × (w ≡ with_work (meeting c v.work) v)

  -- it took the posted record of this client
  abbrev pub TookPosted : ℕ → View (Work E C R) → Type 0
  TookPosted client v = (v.work.holds ≡ true) × (c : C) × (v.work.serving ≡ servings.Posted client c)

  -- the client got a reply by the last event, and wasn't handed it yet
  abbrev pub IsOwed : (List E → ℕ → List R) → ℕ → View (Work E C R) → Type 0
  IsOwed replies client v = ¬ (replies v.work.seen client ≡ replies v.work.before client) × ¬ IsOn client v.work.paid

  -- nobody is owed a reply
  abbrev pub OwesNothing : (List E → ℕ → List R) → ℕ → View (Work E C R) → Type 0
  OwesNothing replies n v = (i : ℕ) → i < n → (replies v.work.seen i ≡ replies v.work.before i) ⊎ IsOn i v.work.paid

  -- from which word a record may be taken: from parked only where its client is owed a reply
  abbrev pub MayTake : (List E → ℕ → List R) → ℕ → View (Work E C R) → WordState → Type 0
  MayTake replies client v Posted = Unit {0}
  MayTake replies client v Parked = IsOwed replies client v
  MayTake replies client v _ = ⊥

  -- it took the record from that word, and if that was posted, each of its client's calls in the history has its reply
  -- there, and its own record has the call that it asks; or the word was another one, so a combiner has dealt with each
  -- post of this client that was heard of
  abbrev pub IsTook : (List E → ℕ → List C) → (List E → ℕ → List R) → ℕ → View (Work E C R) → View (Work E C R)
      → WordState → Took C → Type 0
  IsTook own replies client v w Posted (FromPosted c) =
      (length (own v.work.seen client) ≡ length (replies v.work.seen client))
      × (IsClient client v.work.stage → v.work.stage ≡ Asking client c) × (w ≡ with_work (taking client c v.work) v)
  IsTook own replies client v w Posted Not = w ≡ with_work (dealt client v.work) v
  IsTook own replies client v w Parked FromParked = (c : C) × (w ≡ with_work (resuming client c v.work) v)
  IsTook own replies client v w _ _ = ⊥

-- What it does to the state, and when it may.
module _ {E C R S : Type 0} (history : S → List E) where
  -- the state came into its hands; or another client combined
  abbrev pub IsSeized : (List E → Type 0) → ℕ → ℕ → View (Work E C R) → View (Work E C R) → Result S ℕ → Type 0
  IsSeized legal n client v w (Ok state) = GoesOn v.work.seen (history state) × legal (history state)
      × (w ≡ with_work (holding (history state) v.work) v)
  IsSeized legal n client v w (Err c) = HasMet n client c v w

  module _ (legal : List E → Type 0) (by : E → ℕ) (call : E → C) (n client : ℕ) (v : View (Work E C R))
      (state : S) where
    -- the state has one event more, which is the call that was taken, and nobody was owed a reply before it
    abbrev pub EntersCall : (List E → ℕ → List R) → Type 0
    EntersCall replies = (c : C) × (e : E) × (v.work.serving ≡ servings.Posted client c) × (by e ≡ client)
        × (call e ≡ c) × (history state ≡ v.work.seen ++ e ∷ []) × legal (history state) × OwesNothing replies n v

    -- how a record that was taken may be answered: by the reply that its event brought, or Memory, where it was posted;
    -- by the last reply that its client has in the history, where it was parked
    abbrev pub MayAnswer : (List E → ℕ → List R) → Answer R → Type 0
    MayAnswer replies (Reply y) = (EntersCall replies
        × (replies (history state) client ≡ replies v.work.seen client ++ y ∷ []))
        ⊎ ((c : C) × (front : List R) × (v.work.serving ≡ servings.Parked client c) × (history state ≡ v.work.seen)
        × (replies v.work.seen client ≡ front ++ y ∷ []))
    MayAnswer replies Memory = (c : C) × (v.work.serving ≡ servings.Posted client c) × (history state ≡ v.work.seen)

    -- a posted call may be left parked where its event brought its client no reply, so that it has one reply fewer than
    -- calls
    abbrev pub MayPark : (List E → ℕ → List C) → (List E → ℕ → List R) → Type 0
    MayPark own replies = EntersCall replies
        × (length (replies (history state) client) + 1 ≡ length (own (history state) client))

  -- it answered
  abbrev pub IsAnswered : ℕ → View (Work E C R) → View (Work E C R) → S → Answer R → Type 0
  IsAnswered client v w state (Reply y) = w ≡ with_work (replying v.work.serving client (history state) v.work) v
  IsAnswered client v w state Memory = w ≡ with_work (refusing client v.work) v

  -- it left the call parked
  abbrev pub IsParked : ℕ → View (Work E C R) → View (Work E C R) → S → Type 0
  IsParked client v w state = w ≡ with_work (leaving client (history state) v.work) v

-- it combines no more
abbrev pub IsReleased : {E C R : Type 0} → View (Work E C R) → View (Work E C R) → Type 0
IsReleased v w = w ≡ with_work (released v.work) v
