-- Undo entries of two parts that are the same on the sets in sight, and what the calls leave of both.
use Rattle.std.proofs.Common.{◌≡◌, ℕ, Bool, true, false, cond, List, [], ◌∷◌, refl, sym, ap, ◌∙◌, None}
use Rattle.std.specs.Prelude.{ℤ, pos, ◌-ℤ◌, filter, map, not, unwrap_or}
use Rattle.std.specs.Ordering.{eq_by_cmp}
use Rattle.std.specs.FinMap as finite
use Rattle.std.proofs.lemmas.Bool.{true≢false}
use Rattle.ipc_call.specs.declared.calls.SemOper.{SemOper}
use Rattle.sem_set.specs.Trials.{sum_of, undoes, undoes_on}
use Rattle.sem_undo.specs.Entries.{Adjusted, Entries, adj_of, adjusted_cmp, with_adj}
use Rattle.sem_undo.proofs.Entries.{entry_of, get_kept, get_with, same_entries}
use Rattle.ipc_model.specs.Semaphores.{lowered, with_adjs}
use Rattle.ipc_model.proofs.Apart.{lowered-apart}

abbrev pub key : ℕ → ℕ → ℕ → Adjusted
key client set num = record { client = client; set = set; num = num }

-- the same on the sets where the test fails
abbrev pub AreSame : (ℕ → Bool) → Entries → Entries → Type 0
AreSame hid m n = (k : Adjusted) → hid k.set ≡ false → finite.get m k ≡ finite.get n k

module _ (hid : ℕ → Bool) where
  pub same-kept : (m : Entries) → AreSame hid m (finite.retain_keys m (λ k. not (hid k.set)))
  same-kept m k isnt = sym (get_kept m (λ k. not (hid k.set)) k ∙ ap (λ b. cond (not b) (finite.get m k) None) isnt)

  -- what is left of the same is the same
  pub same-retained : (m n : Entries) (p : Adjusted → Bool) → AreSame hid m n → AreSame hid (finite.retain_keys m p) (finite.retain_keys n p)
  same-retained m n p same k isnt = get_kept m p k ∙ ap (λ o. cond (p k) o None) (same k isnt) ∙ sym (get_kept n p k)

  -- all that is kept is the same
  pub kept-same : (m n : Entries) (other : ℕ → Bool) → ((q : ℕ) → hid q ≡ other q) → AreSame hid m n → finite.retain_keys m (λ k. not (hid k.set)) ≡ finite.retain_keys n (λ k. not (other k.set))
  kept-same m n other alike same = same_entries _ _ (λ k. get_kept m (λ k. not (hid k.set)) k ∙ by k (hid k.set) refl ∙ ap (λ b. cond (not b) (finite.get n k) None) (alike k.set) ∙ sym (get_kept n (λ k. not (other k.set)) k))
    where
      by : (k : Adjusted) (b : Bool) → hid k.set ≡ b → cond (not (hid k.set)) (finite.get m k) None ≡ cond (not (hid k.set)) (finite.get n k) None
      by k true is = ap (λ b. cond (not b) (finite.get m k) None) is ∙ sym (ap (λ b. cond (not b) (finite.get n k) None) is)
      by k false isnt = ap (λ o. cond (not (hid k.set)) o None) (same k isnt)

-- a semadj is written
put-same : (m n : Entries) (k q : Adjusted) (v w : ℤ) → v ≡ w → finite.get m q ≡ finite.get n q → finite.get (with_adj m k v) q ≡ finite.get (with_adj n k w) q
put-same m n k q v w value same = get_with m k q v ∙ (λ i. cond (eq_by_cmp adjusted_cmp q k) (entry_of (value i)) (same i)) ∙ sym (get_with n k q w)

module _ (client id : ℕ) where
  -- of a set in sight
  module _ (hid : ℕ → Bool) (seen : hid id ≡ false) where
    adjs-same : (f g : ℕ → ℤ) → ((num : ℕ) → f num ≡ g num) → (nums : List ℕ) (m n : Entries) → AreSame hid m n → AreSame hid (with_adjs m client id f nums) (with_adjs n client id g nums)
    adjs-same f g alike [] m n same q isnt = same q isnt
    adjs-same f g alike (num ∷ nums) m n same q isnt =
        put-same (with_adjs m client id f nums) (with_adjs n client id g nums) (key client id num) q (f num) (g num) (alike num) (adjs-same f g alike nums m n same q isnt)

    pub lowered-same : (ops : List SemOper) (m n : Entries) → AreSame hid m n → AreSame hid (lowered m client id ops) (lowered n client id ops)
    lowered-same ops m n same =
        adjs-same (λ num. adj_of m client id num -ℤ sum_of (undoes_on num) ops) (λ num. adj_of n client id num -ℤ sum_of (undoes_on num) ops)
        (λ num. ap (λ x. unwrap_or x (pos 0) -ℤ sum_of (undoes_on num) ops) (same (key client id num) seen)) (map (λ o. o.num) (filter undoes ops)) m n same

    -- what is kept of the entries, after a semop, is what the semop leaves of those that are kept
    pub lowered-kept : (ops : List SemOper) (m : Entries) (other : ℕ → Bool) → ((q : ℕ) → other q ≡ hid q) → finite.retain_keys (lowered m client id ops) (λ k. not (other k.set)) ≡ lowered (finite.retain_keys m (λ k. not (hid k.set))) client id ops
    lowered-kept ops m other alike =
        same_entries _ _ (λ k. get_kept (lowered m client id ops) (λ k. not (other k.set)) k ∙ ap (λ b. cond (not b) (finite.get (lowered m client id ops) k) None) (alike k.set) ∙ by k (hid k.set) refl)
      where
        kept : Entries
        kept = finite.retain_keys m (λ k. not (hid k.set))

        by : (k : Adjusted) (b : Bool) → hid k.set ≡ b → cond (not (hid k.set)) (finite.get (lowered m client id ops) k) None ≡ finite.get (lowered kept client id ops) k
        by k true is =
            ap (λ b. cond (not b) (finite.get (lowered m client id ops) k) None) is
            ∙ sym (lowered-apart client id ops kept k (λ here. true≢false (sym is ∙ ap hid here ∙ seen)) ∙ get_kept m (λ k. not (hid k.set)) k ∙ ap (λ b. cond (not b) (finite.get m k) None) is)
        by k false isnt = ap (λ b. cond (not b) (finite.get (lowered m client id ops) k) None) isnt ∙ lowered-same ops m kept (same-kept hid m) k isnt
