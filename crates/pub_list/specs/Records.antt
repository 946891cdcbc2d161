-- How far a publication record is. A view of a client that has joined is v before the call, and w after it.
use Rattle.std.specs.Prelude.{◌≡◌, ◌≢◌, ◌⊎◌, ℕ, true, List, ◌==◌, if◌then◌else◌}
use Rattle.pub_rule.specs.declared.walk.View.{View}
use Rattle.pub_rule.specs.declared.work.Work.{Work}
use Rattle.pub_rule.specs.declared.work.Stage.{Stage}
use Rattle.pub_rule.specs.declared.work.Stage.TheVariants as stages
use Rattle.pub_rule.specs.declared.words.TheConstants.{FREE, POSTED, TAKEN, PARKED, ANSWERED}
use Rattle.pub_rule.specs.Work.{GoesOn}
use Rattle.pub_rule.specs.WorkSteps.{with_work, seeing, IsWaiting}
use Rattle.pub_list.specs.declared.records.WordState.{WordState}
use Rattle.pub_list.specs.declared.records.WordState.TheVariants.{Free, Posted, Taken, Parked, Answered}

-- what a state word says
abbrev pub state_at : ℕ → WordState
state_at k = if k == FREE then Free else if k == POSTED then Posted
    else if k == TAKEN then Taken else if k == PARKED then Parked else Answered

-- and the word that says it
abbrev pub number_of : WordState → ℕ
number_of Free = FREE
number_of Posted = POSTED
number_of Taken = TAKEN
number_of Parked = PARKED
number_of Answered = ANSWERED

module _ {E C R : Type 0} where
  -- What the own word tells a client of the history h that it sees with it. Where its call is in flight: whether the
  -- call waits there, which it does where it is parked, or isn't answered though a combiner is known to have dealt with
  -- it; and one that was seen answered stays so. Where it asks nothing: the history has just the calls entered and the
  -- replies got
  abbrev pub Shows : (List E → ℕ → List C) → (List E → ℕ → List R) → ℕ → List E → Work E C R → WordState → Stage C
      → Type 0
  Shows own replies client h v s (stages.Asking q c) = (s ≢ Free) × (v.past ≡ true → s ≢ Posted)
      × (v.found ≡ ANSWERED → s ≡ Answered)
      × ((s ≡ Parked) ⊎ ((v.past ≡ true) × (s ≢ Answered)) → IsWaiting own replies client c h v)
  Shows own replies client h v s _ = (s ≡ Free) × (own h client ≡ v.entered) × (replies h client ≡ v.got)

  -- it looked at its own word, found this there, and saw a legal history, which goes on from the one that it saw, and
  -- from the one that it was told
  abbrev pub IsLooked : (List E → Type 0) → (List E → ℕ → List C) → (List E → ℕ → List R) → ℕ → View (Work E C R)
      → View (Work E C R) → WordState → Type 0
  IsLooked legal own replies client v w s = (h : List E) × GoesOn v.work.seen h × GoesOn v.work.hearsay h × legal h
      × (w ≡ with_work (seeing h (number_of s) v.work) v) × Shows own replies client h v.work s v.work.stage
