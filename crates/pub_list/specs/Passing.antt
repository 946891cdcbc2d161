-- What a combiner keeps while it passes over the records of a list. It knows v before a step, and w after it.
use Rattle.std.specs.Prelude.{◌≡◌, ℕ, true, ◌+◌, ◌<◌, ◌≤◌, List, [], ◌∷◌, ◌++◌, length, if◌then◌else◌}
use Rattle.pub_rule.specs.declared.walk.View.{View}
use Rattle.pub_rule.specs.declared.work.Work.{Work}
use Rattle.pub_rule.specs.declared.work.Mark.{Mark}
use Rattle.pub_rule.specs.declared.work.Serving.TheVariants.{Posted}
use Rattle.pub_rule.specs.Lists.{IsListOf}
use Rattle.pub_rule.specs.Work.{GoesOn, IsMarked}
use Rattle.pub_rule.specs.WorkSteps.{marks_of, is_own}
use Rattle.pub_list.specs.Combining.{IsCombining, OwesNothing}

-- the posts that are passed, of those that were heard of, after one visit to the record of each of these clients, in
-- this order
abbrev pub passed_by : List ℕ → List Mark → List Mark → List Mark
passed_by [] heard passed = passed
passed_by (c ∷ cs) heard passed = passed_by cs heard (marks_of c heard ++ passed)

-- What of its own a combiner keeps or learns in a pass.
module _ {E C R : Type 0} where
  -- it is as far as it was with its own call, and has the calls and replies that it had; the history that it sees goes
  -- on
  abbrev pub IsAsFar : View (Work E C R) → View (Work E C R) → Type 0
  IsAsFar v w = (w.work.stage ≡ v.work.stage) × (w.work.posts ≡ v.work.posts) × (w.work.entered ≡ v.work.entered)
      × (w.work.got ≡ v.work.got) × GoesOn v.work.seen w.work.seen

  -- it dealt with the last post of this client, be it one that it heard of, or its own; all else that it marks, and
  -- what it knows of the list, stays
  abbrev pub HasDealt : ℕ → View (Work E C R) → View (Work E C R) → Type 0
  HasDealt client v w = (w.work.passed ≡ marks_of client v.work.heard ++ v.work.passed)
      × (w.work.past ≡ (if is_own client v.work.stage then true else v.work.past))
      × (w.work.begun ≡ v.work.begun) × (w.work.heard ≡ v.work.heard) × (w.work.met ≡ v.work.met) × (w.walk ≡ v.walk)

  -- it forgets no post that it heard of or that is passed
  abbrev pub KeepsMarks : View (Work E C R) → View (Work E C R) → Type 0
  KeepsMarks v w = (w.work.heard ≡ v.work.heard) × ((r k : ℕ) → IsMarked r k v.work.passed → IsMarked r k w.work.passed)
      × (v.work.past ≡ true → w.work.past ≡ true)

  -- It passed: it began to combine once more, and met nobody. It loaded the list, of distinct clients below n, and
  -- visited the record of each of them once, in the list's order. So it dealt with each post that it had heard of, and
  -- with its own call
  pub record HasPassed (n client : ℕ) (v w : View (Work E C R)) : Type 0 where
    pub begun : w.work.begun ≡ v.work.begun + 1
    pub met : w.work.met ≡ v.work.met
    pub listed : IsListOf n w.walk.list
    pub visited : w.work.passed ≡ passed_by w.walk.list v.work.heard v.work.passed
    pub heard : (r k : ℕ) → IsMarked r k v.work.heard → IsMarked r k w.work.passed
    pub own : is_own client v.work.stage ≡ true → w.work.past ≡ true

-- it told the gate of each record of the list but the last, by how many were visited and how many clients there are
abbrev pub HasToldGate : {W : Type 0} → (ℕ → ℕ → Type 0) → ℕ → View W → Type 0
HasToldGate was_told n w = (k : ℕ) → 1 ≤ k → k < length w.walk.list → was_told k n

-- How it stands to the state between two records, and as a call is served.
module _ {E C R S : Type 0} (history : S → List E) (legal : List E → Type 0) (replies : List E → ℕ → List R) where
  -- it combines over this state, whose history is legal, has taken no record, and owes nobody a reply
  abbrev pub IsServing : ℕ → View (Work E C R) → S → Type 0
  IsServing n v state = IsCombining v × (history state ≡ v.work.seen) × OwesNothing replies n v × legal v.work.seen

  -- it has taken the record of a client that posted this call, each of whose calls before has its reply, and owes
  -- nobody a reply
  abbrev pub HasTaken : (List E → ℕ → List C) → (ℕ → List E → Type 0) → ℕ → ℕ → C → View (Work E C R) → S → Type 0
  HasTaken own admits n client call v state = (v.work.holds ≡ true) × (v.work.serving ≡ Posted client call)
      × (history state ≡ v.work.seen) × OwesNothing replies n v
      × (length (own v.work.seen client) ≡ length (replies v.work.seen client)) × admits n v.work.seen × (client < n)
      × legal v.work.seen

-- what may be known of a history of n clients stays true as it goes on
abbrev pub Stays : {E : Type 0} → (ℕ → List E → Type 0) → Type 0
Stays {E} admits = (n : ℕ) (h k : List E) → GoesOn h k → admits n h → admits n k
