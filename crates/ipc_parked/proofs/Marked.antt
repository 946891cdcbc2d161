-- The marks of objects: how they follow the rows.
use Rattle.std.proofs.Common.{◌≡◌, ℕ, zero, suc, Bool, true, false, eqb, List, [], ◌∷◌, get_or, length, set, remove, slice_get, refl, sym, ap, ◌∙◌, ⊎_elim, arith}
use Rattle.std.specs.List.{insert}
use Rattle.std.specs.Option.{unwrap_or}
use Rattle.std.proofs.lemmas.Bool.{cases_Bool, true≢false, eqb-true}
use Rattle.ipc_parked.specs.declared.waits.Wait.{Wait}
use Rattle.ipc_parked.specs.Waits.{AreMarked, clients_at, mark_at}
use Rattle.ipc_parked.proofs.Rows.{all_insert, all_map, all_remove}

mark_stays : (marks : List Bool) (i k : ℕ) → get_or marks k true ≡ true → get_or (set marks i true) k true ≡ true
mark_stays [] i k marked = refl
mark_stays (mark ∷ marks) zero zero marked = refl
mark_stays (mark ∷ marks) zero (suc k) marked = marked
mark_stays (mark ∷ marks) (suc i) zero marked = marked
mark_stays (mark ∷ marks) (suc i) (suc k) marked = mark_stays marks i k marked

mark_comes : (marks : List Bool) (i : ℕ) → get_or (set marks i true) i true ≡ true
mark_comes [] i = refl
mark_comes (mark ∷ marks) zero = refl
mark_comes (mark ∷ marks) (suc i) = mark_comes marks i

mark_told : (marks : List Bool) (k : ℕ) → unwrap_or (slice_get marks k) true ≡ get_or marks k true
mark_told [] k = refl
mark_told (mark ∷ marks) zero = refl
mark_told (mark ∷ marks) (suc k) = mark_told marks k

-- a row more, whose object is marked
pub marked_inserted : (marks : List Bool) (rows : List Wait) (id at client : ℕ) → AreMarked marks rows
    → AreMarked (set marks (mark_at id) true) (insert rows at (record { id = id; client = client }))
marked_inserted marks rows id at client marked =
    let after = set marks (mark_at id) true in
    all_insert (λ (r : Wait). get_or after (mark_at r.id) true ≡ true) rows at (record { id = id; client = client })
    (all_map (λ (r : Wait). get_or marks (mark_at r.id) true ≡ true) (λ (r : Wait). get_or after (mark_at r.id) true ≡ true) rows (λ r here. mark_stays marks (mark_at id) (mark_at r.id) here) marked)
    (mark_comes marks (mark_at id))

-- a row less
pub marked_removed : (marks : List Bool) (rows : List Wait) (at : ℕ) → AreMarked marks rows → AreMarked marks (remove rows at)
marked_removed marks rows at marked = all_remove (λ (r : Wait). get_or marks (mark_at r.id) true ≡ true) rows at marked

pub none_marked : (marks : List Bool) (rows : List Wait) → eqb (length rows) 0 ≡ true → AreMarked marks rows
none_marked marks [] none = tt
none_marked marks (row ∷ rows) none = absurd (let e = eqb-true (length (row ∷ rows)) 0 none in omega (arith, e))

-- where an object's mark isn't set nobody waits
unmarked : (marks : List Bool) (rows : List Wait) (id : ℕ) → get_or marks (mark_at id) true ≡ false → AreMarked marks rows → clients_at id rows ≡ []
unmarked marks [] id clear marked = refl
unmarked marks (row ∷ rows) id clear marked =
    ⊎_elim
    (λ (own : eqb row.id id ≡ true).
    absurd (true≢false (sym marked.0 ∙ ap (λ (k : ℕ). get_or marks (mark_at k) true) (eqb-true row.id id own) ∙ clear)))
    (λ (other : eqb row.id id ≡ false). rw other (unmarked marks rows id clear marked.1))
    (cases_Bool (eqb row.id id))

pub nobody_waits : (marks : List Bool) (rows : List Wait) (id : ℕ) → unwrap_or (slice_get marks (mark_at id)) true ≡ false → AreMarked marks rows → clients_at id rows ≡ []
nobody_waits marks rows id clear marked = unmarked marks rows id (sym (mark_told marks (mark_at id)) ∙ clear) marked
