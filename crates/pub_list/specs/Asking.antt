-- What a client asks, and how it is answered. A view of a client that has joined is v before the call, and w after it.
use Rattle.std.specs.Prelude.{◌≡◌, ◌≢◌, ℕ, List, [], ◌∷◌, ◌++◌, Result, Ok, Err}
use Rattle.pub_rule.specs.declared.walk.View.{View}
use Rattle.pub_rule.specs.declared.work.Work.{Work}
use Rattle.pub_rule.specs.declared.work.Stage.TheVariants as stages
use Rattle.pub_rule.specs.Work.{GoesOn}
use Rattle.pub_rule.specs.WorkSteps.{with_work, asking, answered, refused}
use Rattle.pub_list.specs.declared.records.WordState.{WordState}
use Rattle.pub_list.specs.declared.records.WordState.TheVariants.{Answered}
use Rattle.pub_list.specs.Records.{IsLooked}
use Rattle.pub_list.specs.declared.asking.Answer.{Answer}
use Rattle.pub_list.specs.declared.asking.Answer.TheVariants.{Reply, Memory}

module _ {E C R : Type 0} where
  -- the client asks nothing
  abbrev pub IsIdle : ℕ → View (Work E C R) → Type 0
  IsIdle client v = v.work.stage ≡ stages.Free client

  -- it posted
  abbrev pub IsPosted : ℕ → C → View (Work E C R) → View (Work E C R) → Type 0
  IsPosted client call v w = w ≡ with_work (asking client call v.work) v

  -- It collected: the history that it sees now goes on from the one that it saw, and has its call and the reply behind
  -- those before, or neither where the call was refused for memory. Or its word said something else
  abbrev pub IsCollected : (List E → Type 0) → (List E → ℕ → List C) → (List E → ℕ → List R) → ℕ → View (Work E C R)
      → View (Work E C R) → Result (Answer R) WordState → Type 0
  IsCollected legal own replies client v w (Ok (Reply x)) = (c : C) × (h : List E)
      × (v.work.stage ≡ stages.Asking client c) × GoesOn v.work.seen h × legal h
      × (own h client ≡ v.work.entered ++ c ∷ []) × (replies h client ≡ v.work.got ++ x ∷ [])
      × (w ≡ with_work (answered client c x h v.work) v)
  IsCollected legal own replies client v w (Ok Memory) = (c : C) × (h : List E)
      × (v.work.stage ≡ stages.Asking client c) × GoesOn v.work.seen h × legal h
      × (own h client ≡ v.work.entered) × (replies h client ≡ v.work.got) × (w ≡ with_work (refused client h v.work) v)
  IsCollected legal own replies client v w (Err s) = IsLooked legal own replies client v w s × (s ≢ Answered)
