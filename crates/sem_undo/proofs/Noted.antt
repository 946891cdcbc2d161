-- Which clients are noted at a set, where rows come and go.
use Rattle.std.proofs.Common.{◌≡◌, ◌∙◌, ◌<◌, ◌≤◌, ℕ, ℤ, ap, arith, refl, subst, sym, ⊎_elim, Bool, false, Bor, List}
use Rattle.std.specs.Prelude.{Option, Some, None, IsSome, is_some, option_copied, if◌then◌else◌}
use Rattle.std.specs.FinMap as finite
use Rattle.std.specs.Global.{Vec}
use Rattle.std.proofs.lemmas.Bool.{cases_lt, true≢false}
use Rattle.std.proofs.lemmas.Option.{none-some}
use Rattle.client_map.specs.declared.map.Key.{Key}
use Rattle.client_map.specs.Keys.{key, key_cmp}
use Rattle.client_map.proofs.Orders.{get_gone, get_gone_apart, get_put, get_put_apart, key_same, key_total}
use Rattle.sem_undo.specs.Rows.{RowMap, is_here, items_of, row_in}
use Rattle.sem_undo.proofs.Changes.{by_place, is_here_apart, is_here_here}

abbrev pub Index : Type 0
Index = finite.FinMap key_cmp Unit

-- as `IsNoted` says it of the clients, of an index and rows
abbrev pub Notes : Index → RowMap → Type 0
Notes index m = (c s : ℕ) → finite.get index (key s c) ≡ None → row_in m c s ≡ None

module _ (index index' : Index) (m m' : RowMap) (client set : ℕ) (noted : Notes index m) where
  at_place : ((c s : ℕ) → (c ≡ client → s ≡ set → ⊥) → finite.get index' (key s c) ≡ finite.get index (key s c)) → ((c s : ℕ) → (c ≡ client → s ≡ set → ⊥) → row_in m' c s ≡ row_in m c s) → (finite.get index' (key set client) ≡ None → row_in m' client set ≡ None) → Notes index' m'
  at_place same rows here c s none =
      by_place client set c s
      (λ (e : c ≡ client) (f : s ≡ set).
      ap (λ k. row_in m' k s) e ∙ ap (λ k. row_in m' client k) f
      ∙ here (sym (ap (λ k. finite.get index' (key s k)) e ∙ ap (λ k. finite.get index' (key k client)) f) ∙ none))
      (λ (ne : c ≡ client → s ≡ set → ⊥). rows c s ne ∙ noted c s (sym (same c s ne) ∙ none))

  apart : (c s : ℕ) → (c ≡ client → s ≡ set → ⊥) → key s c ≡ key set client → ⊥
  apart c s ne is = ne (ap (λ (k : Key). k.number) is) (ap (λ (k : Key). k.client) is)

  module _ (row : Option (List ℤ)) (is : (c s : ℕ) → row_in m' c s ≡ (if is_here client set c s then row else row_in m c s)) where
    now_here : row_in m' client set ≡ row
    now_here = is client set ∙ ap (λ (b : Bool). if b then row else row_in m client set) (is_here_here client set)

    as_there : (c s : ℕ) → (c ≡ client → s ≡ set → ⊥) → row_in m' c s ≡ row_in m c s
    as_there c s ne = is c s ∙ ap (λ (b : Bool). if b then row else row_in m c s) (is_here_apart client set c s ne)

    -- a row changes, and none comes where there was none
    pub noted_still : index' ≡ index → (row_in m client set ≡ None → row ≡ None) → Notes index' m'
    noted_still same stays =
        at_place (λ c s ne. ap (λ i. finite.get i (key s c)) same) as_there
        (λ none. now_here ∙ stays (noted client set (sym (ap (λ i. finite.get i (key set client)) same) ∙ none)))

    -- a row comes, and its client is noted
    pub noted_put : index' ≡ finite.insert index (key set client) tt → Notes index' m'
    noted_put more =
        at_place (λ c s ne. ap (λ i. finite.get i (key s c)) more ∙ get_put_apart key_total key_same index (key set client) tt (key s c) (apart c s ne)) as_there
        (λ none. absurd (none-some tt (sym none ∙ ap (λ i. finite.get i (key set client)) more ∙ get_put key_total key_same index (key set client) tt)))

    -- a row goes, and its client is noted no more
    pub noted_gone : index' ≡ finite.remove index (key set client) → row ≡ None → Notes index' m'
    noted_gone less gone =
        at_place (λ c s ne. ap (λ i. finite.get i (key s c)) less ∙ get_gone_apart key_total key_same index (key set client) (key s c) (apart c s ne)) as_there
        (λ none. now_here ∙ gone)

-- a client is noted for a row that didn't come
pub noted_more : (index index' : Index) (m m' : RowMap) (client set : ℕ) → Notes index m → m' ≡ m → index' ≡ finite.insert index (key set client) tt → Notes index' m'
noted_more index index' m m' client set noted same more =
    at_place index index' m m' client set noted
    (λ c s ne. ap (λ i. finite.get i (key s c)) more ∙ get_put_apart key_total key_same index (key set client) tt (key s c) (apart index index' m m' client set noted c s ne))
    (λ c s ne. ap (λ n. row_in n c s) same)
    (λ none. absurd (none-some tt (sym none ∙ ap (λ i. finite.get i (key set client)) more ∙ get_put key_total key_same index (key set client) tt)))

-- or it is noted no more, as there was no row
pub noted_back : (index more index' : Index) (m m' : RowMap) (client set : ℕ) → Notes index m → m' ≡ m → more ≡ finite.insert index (key set client) tt → index' ≡ finite.remove more (key set client) → row_in m client set ≡ None → Notes index' m'
noted_back index more index' m m' client set noted same put gone none =
    noted_gone more index' m m' client set (noted_more index more m m client set noted refl put) None
    (λ c s. ap (λ n. row_in n c s) same ∙ as_none c s)
    gone refl
  where
    as_none : (c s : ℕ) → row_in m c s ≡ (if is_here client set c s then None else row_in m c s)
    as_none c s =
        by_place client set c s
        (λ (e : c ≡ client) (f : s ≡ set).
        ap (λ k. row_in m k s) e ∙ ap (λ k. row_in m client k) f ∙ none
        ∙ ap (λ (b : Bool). if b then None else row_in m c s) (sym (is_here_here client set) ∙ ap (λ k. is_here client set k set) (sym e) ∙ ap (λ k. is_here client set c k) (sym f)))
        (λ (ne : c ≡ client → s ≡ set → ⊥). ap (λ (b : Bool). if b then None else row_in m c s) (sym (is_here_apart client set c s ne)))

-- as `IsNoted` again: a set's number has 32 bits
abbrev pub Fits : RowMap → Type 0
Fits m = (c s : ℕ) → 4294967296 ≤ s → row_in m c s ≡ None

pub set_fits : (m : RowMap) (client set : ℕ) → Fits m → IsSome (row_in m client set) → set < 4294967296
set_fits m client set fits there =
    ⊎_elim
    (λ (l : set < 4294967296). l)
    (λ (g : 4294967296 ≤ set). absurd (true≢false (sym (subst (λ o. IsSome o) (fits client set g) there))))
    (cases_lt set 4294967296)

pub row_there : (o : Option (Vec ℤ)) → IsSome o → IsSome (items_of o)
row_there None there = there
row_there (Some row) there = refl

pub fits_still : (m m' : RowMap) (client set : ℕ) (row : Option (List ℤ)) → ((c s : ℕ) → row_in m' c s ≡ (if is_here client set c s then row else row_in m c s)) → set < 4294967296 → Fits m → Fits m'
fits_still m m' client set row is small fits c s large =
    is c s
    ∙ ap (λ (b : Bool). if b then row else row_in m c s) (is_here_apart client set c s (λ _ e. omega (arith, small, large, e)))
    ∙ fits c s large

-- a look-up that finds nothing
pub no_row : (r : Option (Bor (Vec ℤ))) (o : Option (Vec ℤ)) → is_some r ≡ false → option_copied r ≡ o → items_of o ≡ None
no_row None o none is = ap items_of (sym is)
no_row (Some row) o none is = absurd (true≢false none)
