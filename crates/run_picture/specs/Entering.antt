-- How calls and ends are entered.
use Rattle.std.specs.Prelude.{◌≡◌, ℕ, ◌-◌, ◌<◌, List, [], ◌∷◌, ◌++◌, Some, length, slice_index_or, slice_set}
use Rattle.run_picture.specs.declared.run.Call.{Call}
use Rattle.run_picture.specs.declared.run.End.{End}
use Rattle.run_picture.specs.declared.run.Lane.{Lane}
use Rattle.run_picture.specs.declared.run.Life.{Life}
use Rattle.run_picture.specs.declared.run.Wait.{Wait}

-- where there are waits, the last one has this end now, and the others are as they were
abbrev pub EndsLast : End → List Wait → List Wait → Type 0
EndsLast e old new =
    (w : Wait) → slice_index_or old (length old - 1) w ≡ w
    → new ≡ slice_set old (length old - 1) (record w { end = Some e })

-- where there are lives, the last one has this end now, and the others are as they were
abbrev pub EndsLastLife : ℕ → List Life → List Life → Type 0
EndsLastLife place old new =
    (l : Life) → slice_index_or old (length old - 1) l ≡ l
    → new ≡ slice_set old (length old - 1) (record l { end = Some place })

-- a lane has one call more, and is else as it was
abbrev pub GainsCall : Call → Lane → Lane → Type 0
GainsCall call old new =
    (new.calls.items ≡ old.calls.items ++ call ∷ [])
    × (new.lives ≡ old.lives) × (new.waits ≡ old.waits) × (new.number ≡ old.number) × (new.name ≡ old.name)

-- the lane at this index has one call more, and the other lanes are as they were
abbrev pub EntersCall : ℕ → Call → List Lane → List Lane → Type 0
EntersCall number call old new =
    (l m : Lane) → number < length old → slice_index_or old number l ≡ l → slice_index_or new number m ≡ m
    → GainsCall call l m × (new ≡ slice_set old number m)
