-- What entries and lengths become where one row changes.
use Rattle.std.proofs.Common.{◌≡◌, ◌∙◌, ℕ, ◌<◌, ap, arith, refl, sym, Bool, true, false, List, [], length, length-set, set, ⊎_elim}
use Rattle.std.specs.Prelude.{ℤ, pos, Option, Some, None, option_map, unwrap_or, if◌then◌else◌}
use Rattle.std.specs.FinMap as finite
use Rattle.std.proofs.lemmas.Bool.{cases_eq}
use Rattle.std.proofs.lemmas.List.{get_or-set_same, get_or-set_other}
use Rattle.client_map.specs.declared.map.Key.{Key}
use Rattle.client_map.specs.Keys.{key as row_key}
use Rattle.client_map.proofs.Orders.{itself, key_same, key_total, keys_differ}
use Rattle.sem_undo.specs.Entries.{Adjusted, Entries, Place, place_cmp, with_adj}
use Rattle.sem_undo.specs.Rows.{RowMap, adj_in, entries_in, is_here, lens_in, row_in}
use Rattle.sem_undo.proofs.Entries.{entry_of, get_entries, get_lens, get_with_apart, get_with_here, key, place, same_entries}
use Rattle.sem_undo.proofs.Keys.{place_same, place_total}

abbrev pub Lens : Type 0
Lens = finite.FinMap place_cmp ℕ

abbrev pub size : Option (List ℤ) → Option ℕ
size o = option_map (λ (r : List ℤ). length r) o

pub same_lens : (m n : Lens) → ((p : Place) → finite.get m p ≡ finite.get n p) → m ≡ n
same_lens m n is = finite.same_map place_total place_same m n is

pub by_place : {P : Type 0} (client set c s : ℕ) → (c ≡ client → s ≡ set → P) → ((c ≡ client → s ≡ set → ⊥) → P) → P
by_place client set c s here apart =
    ⊎_elim (λ (e : c ≡ client). ⊎_elim (λ (f : s ≡ set). here e f) (λ (f : s ≡ set → ⊥). apart (λ _ g. f g)) (cases_eq s set)) (λ (e : c ≡ client → ⊥). apart (λ g _. e g)) (cases_eq c client)

pub lens_place : (o : Option (List ℤ)) → unwrap_or (size o) 0 ≡ length (unwrap_or o [])
lens_place None = refl
lens_place (Some r) = refl

pub there_is : (o : Option (List ℤ)) (num : ℕ) → num < length (unwrap_or o []) → o ≡ Some (unwrap_or o [])
there_is None num h = absurd (omega arith)
there_is (Some r) num h = refl

pub is_here_here : (client set : ℕ) → is_here client set client set ≡ true
is_here_here client set = itself key_total (row_key client set)

pub is_here_apart : (client set c s : ℕ) → (c ≡ client → s ≡ set → ⊥) → is_here client set c s ≡ false
is_here_apart client set c s ne =
    keys_differ key_total key_same (row_key c s) (row_key client set) (λ is. ne (ap (λ (k : Key). k.client) is) (ap (λ (k : Key). k.number) is))

module _ (es es' : RowMap) (client set : ℕ) (new : Option (List ℤ)) (is : (c s : ℕ) → row_in es' c s ≡ (if is_here client set c s then new else row_in es c s)) where
  row_here : row_in es' client set ≡ new
  row_here = is client set ∙ ap (λ (b : Bool). if b then new else row_in es client set) (is_here_here client set)

  row_apart : (c s : ℕ) → (c ≡ client → s ≡ set → ⊥) → row_in es' c s ≡ row_in es c s
  row_apart c s ne = is c s ∙ ap (λ (b : Bool). if b then new else row_in es c s) (is_here_apart client set c s ne)

  pub entries_are : (target : Entries) → ((n : ℕ) → entry_of (adj_in (unwrap_or new []) n) ≡ finite.get target (key client set n)) → ((q : Adjusted) → (q.client ≡ client → q.set ≡ set → ⊥) → finite.get (entries_in es) q ≡ finite.get target q) → entries_in es' ≡ target
  entries_are target here apart =
      same_entries (entries_in es') target (λ q. by_place client set q.client q.set
      (λ (c : q.client ≡ client) (s : q.set ≡ set).
      let there : q ≡ key client set q.num = λ i. key (c i) (s i) q.num in
      ap (λ (k : Adjusted). finite.get (entries_in es') k) there
      ∙ get_entries es' client set q.num
      ∙ ap (λ (o : Option (List ℤ)). entry_of (adj_in (unwrap_or o []) q.num)) row_here
      ∙ here q.num
      ∙ ap (λ (k : Adjusted). finite.get target k) (sym there))
      (λ (ne : q.client ≡ client → q.set ≡ set → ⊥).
      get_entries es' q.client q.set q.num
      ∙ ap (λ (o : Option (List ℤ)). entry_of (adj_in (unwrap_or o []) q.num)) (row_apart q.client q.set ne)
      ∙ sym (get_entries es q.client q.set q.num)
      ∙ apart q ne))

  pub lens_are : (target : Lens) → size new ≡ finite.get target (place client set) → ((p : Place) → (p.client ≡ client → p.set ≡ set → ⊥) → finite.get (lens_in es) p ≡ finite.get target p) → lens_in es' ≡ target
  lens_are target here apart =
      same_lens (lens_in es') target (λ p. by_place client set p.client p.set
      (λ (c : p.client ≡ client) (s : p.set ≡ set).
      let there : p ≡ place client set = λ i. place (c i) (s i) in
      ap (λ (k : Place). finite.get (lens_in es') k) there
      ∙ get_lens es' client set
      ∙ ap size row_here
      ∙ here
      ∙ ap (λ (k : Place). finite.get target k) (sym there))
      (λ (ne : p.client ≡ client → p.set ≡ set → ⊥).
      get_lens es' p.client p.set
      ∙ ap size (row_apart p.client p.set ne)
      ∙ sym (get_lens es p.client p.set)
      ∙ apart p ne))

-- a semadj is written into a row
module _ (es es' : RowMap) (client at num : ℕ) (adj : ℤ) (within : num < length (unwrap_or (row_in es client at) [])) (is : (c s : ℕ) → row_in es' c s ≡ (if is_here client at c s then Some (set (unwrap_or (row_in es client at) []) num adj) else row_in es c s)) where
  written : (n : ℕ) → entry_of (adj_in (set (unwrap_or (row_in es client at) []) num adj) n) ≡ finite.get (with_adj (entries_in es) (key client at num) adj) (key client at n)
  written n =
      ⊎_elim
      (λ (e : n ≡ num).
      ap (λ (k : ℕ). entry_of (adj_in (set (unwrap_or (row_in es client at) []) num adj) k)) e
      ∙ ap entry_of (get_or-set_same (unwrap_or (row_in es client at) []) num adj (pos 0) within)
      ∙ sym (get_with_here (entries_in es) (key client at num) (key client at n) adj (λ i. key client at (e i))))
      (λ (e : n ≡ num → ⊥).
      ap entry_of (get_or-set_other (unwrap_or (row_in es client at) []) num n adj (pos 0) e)
      ∙ sym (get_entries es client at n)
      ∙ sym (get_with_apart (entries_in es) (key client at num) (key client at n) adj (λ q. e (ap (λ (k : Adjusted). k.num) q))))
      (cases_eq n num)

  pub entries_written : entries_in es' ≡ with_adj (entries_in es) (key client at num) adj
  entries_written =
      entries_are es es' client at _ is (with_adj (entries_in es) (key client at num) adj) written
      (λ q ne. sym (get_with_apart (entries_in es) (key client at num) q adj (λ e. ne (ap (λ (k : Adjusted). k.client) e) (ap (λ (k : Adjusted). k.set) e))))

  pub lens_written : lens_in es' ≡ lens_in es
  lens_written =
      lens_are es es' client at _ is (lens_in es)
      (ap (λ n. Some n) (length-set (unwrap_or (row_in es client at) []) num adj) ∙ sym (ap size (there_is (row_in es client at) num within)) ∙ sym (get_lens es client at))
      (λ p ne. refl)
