-- The entries that rows stand for.
use Rattle.std.proofs.Common.{◌≡◌, ◌∙◌, ℕ, zero, suc, ◌+◌, ap, arith, refl, sym, Bool, true, false, cond, List, [], ◌∷◌, length}
use Rattle.std.specs.Prelude.{ℤ, pos, not, ◌&&◌, ◌==◌, Option, Some, None, option_map, unwrap_or, if◌then◌else◌}
use Rattle.std.specs.Ordering.{eq_by_cmp, int_eq, is_eq}
use Rattle.std.proofs.lemmas.Bool.{true≢false}
use Rattle.std.specs.FinMap as finite
use Rattle.std.specs.Global.{Vec}
use Rattle.client_map.specs.declared.map.Key.{Key}
use Rattle.client_map.specs.Keys.{key as row_key, key_cmp}
use Rattle.client_map.proofs.Orders.{equal_keys, itself, key_same, key_total, keys_differ}
use Rattle.sem_undo.specs.Entries.{Adjusted, Entries, Place, adjusted_cmp, place_cmp, with_adj, without_row}
use Rattle.sem_undo.specs.Rows.{RowMap, adj_in, entries_in, entries_of, items_of, lens_in, lens_of, over_row, row_in}
use Rattle.sem_undo.proofs.Keys.{adjusted_same, adjusted_total, place_total}

-- the entry of a semadj
abbrev pub entry_of : ℤ → Option ℤ
entry_of adj = if int_eq adj (pos 0) then None else Some adj

abbrev pub key : ℕ → ℕ → ℕ → Adjusted
key client set num = record { client = client; set = set; num = num }

abbrev pub place : ℕ → ℕ → Place
place client set = record { client = client; set = set }

pub get_kept : (m : Entries) (p : Adjusted → Bool) (q : Adjusted) → finite.get (finite.retain_keys m p) q ≡ cond (p q) (finite.get m q) None
get_kept m p q = finite.get-retain_keys m p q (λ x tied. ap p (sym (adjusted_same q x tied)))

pub same_entries : (m n : Entries) → ((q : Adjusted) → finite.get m q ≡ finite.get n q) → m ≡ n
same_entries m n is = finite.same_map adjusted_total adjusted_same m n is

written : (m : Entries) (k q : Adjusted) (v : ℤ) (none : Bool) → finite.get (if none then finite.remove m k else finite.insert m k v) q ≡ cond (eq_by_cmp adjusted_cmp q k) (if none then None else Some v) (finite.get m q)
written m k q v true = finite.get-remove adjusted_total m k q
written m k q v false = finite.get-insert adjusted_total m k v q

pub get_with : (m : Entries) (k q : Adjusted) (v : ℤ) → finite.get (with_adj m k v) q ≡ cond (eq_by_cmp adjusted_cmp q k) (entry_of v) (finite.get m q)
get_with m k q v = written m k q v (int_eq v (pos 0))

pub get_with_here : (m : Entries) (k q : Adjusted) (v : ℤ) → q ≡ k → finite.get (with_adj m k v) q ≡ entry_of v
get_with_here m k q v e =
    get_with m k q v ∙ ap (λ b. cond b (entry_of v) (finite.get m q)) (ap (λ (x : Adjusted). eq_by_cmp adjusted_cmp x k) e ∙ itself adjusted_total k)

pub get_with_apart : (m : Entries) (k q : Adjusted) (v : ℤ) → (q ≡ k → ⊥) → finite.get (with_adj m k v) q ≡ finite.get m q
get_with_apart m k q v ne = get_with m k q v ∙ ap (λ b. cond b (entry_of v) (finite.get m q)) (keys_differ adjusted_total adjusted_same q k ne)

module _ (client set : ℕ) where
  get_in_row : (num : ℕ) (adjs : List ℤ) (m : Entries) (j x : ℕ) → x ≡ num + j → finite.get m (key client set x) ≡ None → finite.get (over_row client set num adjs m) (key client set x) ≡ entry_of (adj_in adjs j)
  unfolding over_row
  get_in_row num [] m j x e none = none
  get_in_row num (adj ∷ adjs) m zero x e none =
      get_with_here (over_row client set (num + 1) adjs m) (key client set num) (key client set x) adj (let same : x ≡ num = omega arith in λ i. key client set (same i))
  get_in_row num (adj ∷ adjs) m (suc j) x e none =
      get_with_apart (over_row client set (num + 1) adjs m) (key client set num) (key client set x) adj (λ same. let q : x ≡ num = ap (λ (k : Adjusted). k.num) same in omega arith)
      ∙ get_in_row (num + 1) adjs m j x (omega arith) none

  get_off_row : (num : ℕ) (adjs : List ℤ) (m : Entries) (q : Adjusted) → (q.client ≡ client → q.set ≡ set → ⊥) → finite.get (over_row client set num adjs m) q ≡ finite.get m q
  unfolding over_row
  get_off_row num [] m q other = refl
  get_off_row num (adj ∷ adjs) m q other =
      get_with_apart (over_row client set (num + 1) adjs m) (key client set num) q adj (λ same. other (ap (λ (k : Adjusted). k.client) same) (ap (λ (k : Adjusted). k.set) same))
      ∙ get_off_row (num + 1) adjs m q other

  kept_none : (a b : ℕ) (o : Option ℤ) → a ≡ client → b ≡ set → cond (not (a == client && b == set)) o None ≡ None
  kept_none a b o e f = kept (a == client) (b == set) (grind arith) (grind arith)
    where
      kept : (c d : Bool) → c ≡ true → d ≡ true → cond (not (c && d)) o None ≡ None
      kept true true c d = refl
      kept true false c d = absurd (let h : false ≡ true = d in cc)
      kept false d c h = absurd (let h : false ≡ true = c in cc)

  kept_all : (a b : ℕ) (o : Option ℤ) → (a ≡ client → b ≡ set → ⊥) → cond (not (a == client && b == set)) o None ≡ o
  kept_all a b o ne = let h : (a == client && b == set) ≡ false = grind arith in ap (λ (c : Bool). cond (not c) o None) h

  pub get_without : (m : Entries) (q : Adjusted) → q.client ≡ client → q.set ≡ set → finite.get (without_row m client set) q ≡ None
  get_without m q e f = get_kept m _ q ∙ kept_none q.client q.set (finite.get m q) e f

  pub get_without_apart : (m : Entries) (q : Adjusted) → (q.client ≡ client → q.set ≡ set → ⊥) → finite.get (without_row m client set) q ≡ finite.get m q
  get_without_apart m q ne = get_kept m _ q ∙ kept_all q.client q.set (finite.get m q) ne

keys_apart : (client set : ℕ) (k : Key) → is_eq (key_cmp (row_key client set) k) ≡ false → client ≡ k.client → set ≡ k.number → ⊥
keys_apart client set k is c s =
    true≢false (sym (itself key_total (row_key client set)) ∙ (λ i. is_eq (key_cmp (row_key client set) (row_key (c i) (s i)))) ∙ is)

abbrev listed : List (Key × Vec ℤ) → ℕ → ℕ → Option (List ℤ)
listed es client set = items_of (finite.find key_cmp (row_key client set) es)

module _ (e : Key × Vec ℤ) (es : List (Key × Vec ℤ)) (client set num : ℕ) (rest : finite.get (entries_of es) (key client set num) ≡ entry_of (adj_in (unwrap_or (listed es client set) []) num)) where
  entries_step : (b : Bool) → is_eq (key_cmp (row_key client set) e.0) ≡ b → finite.get (over_row e.0.client e.0.number 0 e.1.items (without_row (entries_of es) e.0.client e.0.number)) (key client set num) ≡ entry_of (adj_in (unwrap_or (items_of (cond b (Some e.1) (finite.find key_cmp (row_key client set) es))) []) num)
  entries_step true is =
      let same : row_key client set ≡ e.0 = equal_keys key_total key_same (row_key client set) e.0 is in
      let m = without_row (entries_of es) e.0.client e.0.number in
      let there : key client set num ≡ key e.0.client e.0.number num = λ i. key (same i).client (same i).number num in
      let at : num ≡ 0 + num = omega arith in
      ap (λ (k : Adjusted). finite.get (over_row e.0.client e.0.number 0 e.1.items m) k) there
      ∙ get_in_row e.0.client e.0.number 0 e.1.items m num num at (get_without e.0.client e.0.number (entries_of es) (key e.0.client e.0.number num) refl refl)
  entries_step false is =
      let apart = keys_apart client set e.0 is in
      let m = without_row (entries_of es) e.0.client e.0.number in
      get_off_row e.0.client e.0.number 0 e.1.items m (key client set num) apart
      ∙ get_without_apart e.0.client e.0.number (entries_of es) (key client set num) apart
      ∙ rest

get_listed : (es : List (Key × Vec ℤ)) (client set num : ℕ) → finite.get (entries_of es) (key client set num) ≡ entry_of (adj_in (unwrap_or (listed es client set) []) num)
unfolding entries_of
get_listed [] client set num = finite.get-empty adjusted_cmp (key client set num)
get_listed (e ∷ es) client set num =
    entries_step e es client set num (get_listed es client set num) (is_eq (key_cmp (row_key client set) e.0)) refl

-- the entries of rows are their semadj that aren't 0
pub get_entries : (m : RowMap) (client set num : ℕ) → finite.get (entries_in m) (key client set num) ≡ entry_of (adj_in (unwrap_or (row_in m client set) []) num)
get_entries m client set num =
    get_listed (finite.entries m) client set num
    ∙ ap (λ (o : Option (Vec ℤ)). entry_of (adj_in (unwrap_or (items_of o) []) num)) (sym (finite.get-entries m (row_key client set)))

-- their lengths
lens_at : (b : Bool) (row : Vec ℤ) (o : Option (Vec ℤ)) → cond b (Some (length row.items)) (option_map (λ (r : List ℤ). length r) (items_of o)) ≡ option_map (λ (r : List ℤ). length r) (items_of (cond b (Some row) o))
lens_at true row o = refl
lens_at false row o = refl

lens_listed : (es : List (Key × Vec ℤ)) (client set : ℕ) → finite.get (lens_of es) (place client set) ≡ option_map (λ (r : List ℤ). length r) (listed es client set)
unfolding lens_of
lens_listed [] client set = finite.get-empty place_cmp (place client set)
lens_listed (e ∷ es) client set =
    finite.get-insert place_total (lens_of es) (place e.0.client e.0.number) (length e.1.items) (place client set)
    ∙ ap (λ o. cond (is_eq (key_cmp (row_key client set) e.0)) (Some (length e.1.items)) o) (lens_listed es client set)
    ∙ lens_at (is_eq (key_cmp (row_key client set) e.0)) e.1 (finite.find key_cmp (row_key client set) es)

pub get_lens : (m : RowMap) (client set : ℕ) → finite.get (lens_in m) (place client set) ≡ option_map (λ (r : List ℤ). length r) (row_in m client set)
get_lens m client set =
    lens_listed (finite.entries m) client set
    ∙ ap (λ (o : Option (Vec ℤ)). option_map (λ (r : List ℤ). length r) (items_of o)) (sym (finite.get-entries m (row_key client set)))
