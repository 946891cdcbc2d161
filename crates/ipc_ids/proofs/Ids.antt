-- A list of entries and the finite map that it stands for.
use Rattle.std.proofs.Common.{◌≡◌, ◌≢◌, ℕ, Bool, true, false, cond, List, [], ◌∷◌, refl, sym, ap, ◌∙◌, arith, Some, None}
use Rattle.std.specs.Prelude.{nat_eq}
use Rattle.std.specs.Map.{lookup}
use Rattle.std.specs.Ordering.{nat_cmp, eq_by_cmp}
use Rattle.std.specs.FinMap as map
use Rattle.std.proofs.lemmas.Cmp.{nat_cmp_total}
use Rattle.std.proofs.lemmas.Bool.Decides.{nat_tests}
use Rattle.ipc_ids.proofs.Identifiers.{apart_eq}

pub tied_eq : (x y : ℕ) → eq_by_cmp nat_cmp x y ≡ nat_eq x y
tied_eq x y = grind (arith, nat_tests)

pub eq_turned : (x y : ℕ) → nat_eq x y ≡ nat_eq y x
eq_turned x y = grind (arith, nat_tests)

find-lookup : {X : Type 0} (q : ℕ) (es : List (ℕ × X)) → map.find nat_cmp q es ≡ lookup (nat_eq q) es
find-lookup q [] = refl
find-lookup q (e ∷ es) = ap (λ b. cond b (Some e.1) (map.find nat_cmp q es)) (tied_eq q e.0) ∙ ap (λ o. cond (nat_eq q e.0) (Some e.1) o) (find-lookup q es)

pub get-ids : {X : Type 0} (es : List (ℕ × X)) (q : ℕ) → map.get (map.from_entries {R = nat_cmp} es) q ≡ lookup (nat_eq q) es
get-ids es q = map.get-from_entries nat_cmp_total es q ∙ find-lookup q es

pub get-inserted : {X : Type 0} (m : map.FinMap nat_cmp X) (k : ℕ) (v : X) (q : ℕ) → map.get (map.insert m k v) q ≡ cond (nat_eq k q) (Some v) (map.get m q)
get-inserted m k v q = map.get-insert nat_cmp_total m k v q ∙ ap (λ b. cond b (Some v) (map.get m q)) (tied_eq q k ∙ eq_turned q k)

pub get-removed : {X : Type 0} (m : map.FinMap nat_cmp X) (k q : ℕ) → map.get (map.remove m k) q ≡ cond (nat_eq k q) None (map.get m q)
get-removed m k q = map.get-remove nat_cmp_total m k q ∙ ap (λ b. cond b None (map.get m q)) (tied_eq q k ∙ eq_turned q k)

pub same_maps : {X : Type 0} (m n : map.FinMap nat_cmp X) → ((q : ℕ) → map.get m q ≡ map.get n q) → m ≡ n
same_maps m n is = map.same_map nat_cmp_total map.nat_cmp-IsAntisymmetric m n is

pub cond_same : {A : Type 0} (b : Bool) (x : A) → cond b x x ≡ x
cond_same true x = refl
cond_same false x = refl

module _ {X : Type 0} (es fs : List (ℕ × X)) (k : ℕ) where
  pub ids_bound : (v : X) → ((q : ℕ) → lookup (nat_eq q) fs ≡ cond (nat_eq k q) (Some v) (lookup (nat_eq q) es)) → map.from_entries {R = nat_cmp} fs ≡ map.insert (map.from_entries es) k v
  ids_bound v is = same_maps _ _ (λ q. get-ids fs q ∙ is q ∙ sym (get-inserted _ k v q ∙ ap (λ o. cond (nat_eq k q) (Some v) o) (get-ids es q)))

  pub ids_unbound : ((q : ℕ) → lookup (nat_eq q) fs ≡ cond (nat_eq k q) None (lookup (nat_eq q) es)) → map.from_entries {R = nat_cmp} fs ≡ map.remove (map.from_entries es) k
  ids_unbound is = same_maps _ _ (λ q. get-ids fs q ∙ is q ∙ sym (get-removed _ k q ∙ ap (λ o. cond (nat_eq k q) None o) (get-ids es q)))

  -- key 0 stays unbound
  pub private_bound : (v : X) → k ≢ 0 → map.get (map.from_entries {R = nat_cmp} es) 0 ≡ None → ((q : ℕ) → lookup (nat_eq q) fs ≡ cond (nat_eq k q) (Some v) (lookup (nat_eq q) es)) → map.get (map.from_entries {R = nat_cmp} fs) 0 ≡ None
  private_bound v ne none is = get-ids fs 0 ∙ is 0 ∙ ap (λ b. cond b (Some v) (lookup (nat_eq 0) es)) (apart_eq k 0 ne) ∙ sym (get-ids es 0) ∙ none

  pub private_unbound : map.get (map.from_entries {R = nat_cmp} es) 0 ≡ None → ((q : ℕ) → lookup (nat_eq q) fs ≡ cond (nat_eq k q) None (lookup (nat_eq q) es)) → map.get (map.from_entries {R = nat_cmp} fs) 0 ≡ None
  private_unbound none is = get-ids fs 0 ∙ is 0 ∙ ap (λ o. cond (nat_eq k 0) None o) (sym (get-ids es 0) ∙ none) ∙ cond_same (nat_eq k 0) None
