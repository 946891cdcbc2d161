-- What one client tells another. The client's view is v before the call and w after it, and the other's is o.
use Rattle.std.specs.Prelude.{◌≡◌, ℕ, List}
use Rattle.pub_rule.specs.declared.walk.View.{View}
use Rattle.pub_rule.specs.declared.work.Work.{Work}
use Rattle.pub_rule.specs.Work.{GoesOn}
use Rattle.pub_rule.specs.WorkSteps.{with_work, seeing}
use Rattle.pub_rule.specs.WorkSplits.{telling, taught, token_made, view_taught}
use Rattle.pub_list.specs.Records.{number_of, Shows}
use Rattle.pub_list.specs.declared.records.WordState.{WordState}

module _ {E C R : Type 0} where
  -- what the client knows of what is served, with what the other told it
  abbrev pub knowing : Work E C R → Work E C R → Work E C R
  knowing v o = taught v (telling o)

  -- It was told that the other joined, the other's posts, and the posts that a combiner is known to have dealt with.
  -- Then it looked at its own word, and saw a legal history, which goes on from the one that it saw and from the one
  -- that the other saw
  abbrev pub IsTaught : (List E → Type 0) → (List E → ℕ → List C) → (List E → ℕ → List R) → ℕ → View (Work E C R)
      → View (Work E C R) → View (Work E C R) → Type 0
  IsTaught legal own replies client v o w = (h : List E) × (s : WordState) × GoesOn v.work.seen h × GoesOn o.work.seen h
      × legal h × (w ≡ with_work (seeing h (number_of s) (knowing v.work o.work)) (view_taught v (token_made o)))
      × Shows own replies client h (knowing v.work o.work) s v.work.stage
