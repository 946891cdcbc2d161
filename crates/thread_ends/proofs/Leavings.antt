-- One more semaphore of what an end leaves; what is seen of objects; and there are always as many clients.
use Rattle.std.proofs.Common.{◌≡◌, ◌<◌, ◌≤◌, ℕ, ◌+◌, ℤ, List, [], ◌∷◌, ◌++◌, length, map, drop, get_or, refl, sym, ap, ◌∙◌, append_assoc, append-nil, Option, Some, None, Result, subst}
use Rattle.std.specs.Global.{Vec}
use Rattle.std.specs.Prelude.{filter_map, IfOk}
use Rattle.std.specs.List.{cons_option}
use Rattle.std.proofs.lemmas.List.{drop_all, drop_more}
use Rattle.ipc_history.specs.History.{History, run}
use Rattle.ipc_model.specs.Listings.{lines_of}
use Rattle.ipc_model.specs.State.{State, opening}
use Rattle.ipc_space.proofs.Histories.{clients-run}
use Rattle.thread_ends.specs.declared.ends.Detached.{Detached}
use Rattle.thread_ends.specs.declared.ends.Undone.{Undone}
use Rattle.thread_ends.specs.Leaving.{detached_row, undone_from, undone_one}

pub clients-same : (h : History) → length (run h).clients ≡ length h.clients
clients-same h = clients-run (opening h.limits h.clients) h.events

-- what is behind a place, with one more before it
pub one_more : (adj : ℕ → ℤ) (set num : ℕ) (values : List ℕ) (old new : List Undone) → num < length values → new ≡ old ++ undone_one set num (adj num) (get_or values num 0)
    → new ++ undone_from adj set (num + 1) (drop (num + 1) values) ≡ old ++ undone_from adj set num (drop num values)
unfolding undone_from
one_more adj set num values old new within is =
    let rest = undone_from adj set (num + 1) (drop (num + 1) values) in
    ap (λ us. us ++ rest) is ∙ append_assoc old (undone_one set num (adj num) (get_or values num 0)) rest
    ∙ ap (λ vs. old ++ undone_from adj set num vs) (sym (drop_more values num 0 within))

pub none_more : (adj : ℕ → ℤ) (set num : ℕ) (values : List ℕ) (old : List Undone) → length values ≤ num → old ≡ old ++ undone_from adj set num (drop num values)
unfolding undone_from
none_more adj set num values old past = sym (append-nil old) ∙ ap (λ vs. old ++ undone_from adj set num vs) (sym (drop_all num values past))

pub filter_map-map : {X Y A : Type 0} (seen : X → Y) (h : Y → Option A) (xs : List X) → filter_map (λ x. h (seen x)) xs ≡ filter_map h (map seen xs)
filter_map-map seen h [] = refl
filter_map-map seen h (x ∷ xs) = ap (cons_option (h (seen x))) (filter_map-map seen h xs)

-- the segments of a process by another name
pub detached_same : {E : Type 0} (s : State) (segments attached : List ℕ) (result : Result (Vec Detached) E) → segments ≡ attached
    → IfOk result (λ detached. detached.items ≡ filter_map (λ line. detached_row segments line.0) (lines_of s))
    → IfOk result (λ detached. detached.items ≡ filter_map (λ line. detached_row attached line.0) (lines_of s))
detached_same s segments attached result is told =
    subst (λ ids. IfOk result (λ detached. detached.items ≡ filter_map (λ line. detached_row ids line.0) (lines_of s))) is told
