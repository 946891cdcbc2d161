-- The changes that are named allow what is denied, and the capability is always one of them.
use Rattle.std.proofs.Common.{◌≡◌, ℕ, Bool, true, false, cond, List, [], ◌∷◌, ◌++◌, refl, sym, ap, ◌∙◌, arith}
use Rattle.std.specs.Prelude.{◌||◌, ◌==◌, ◌&&◌, filter, Option, Some, None}
use Rattle.std.specs.List.{list_all, list_any}
use Rattle.std.proofs.lemmas.Nat.{and_or_self}
use Rattle.ipc_call.specs.declared.perms.Perm.{Perm}
use Rattle.ipc_creds.specs.Credentials.{Credentials, cap_ipc_owner, cap_sys_admin, has_capability}
use Rattle.ipc_perm.specs.declared.access.Want.{Want}
use Rattle.ipc_perm.specs.Access.{is_owner, is_subset, rights_of}
use Rattle.need_changes.specs.declared.changes.Change.{Change}
use Rattle.need_changes.specs.declared.changes.Change.TheVariants as changes
use Rattle.need_changes.specs.Changes.{asking, changes_of, control_changes_of, grants, grants_control, has_ipc_owner, has_sys_admin, is_ipc_owner, is_sys_admin, tried, widened, with_capability}

-- what a filter leaves passes it

all_if : {X : Type 0} (p : X → Bool) (x : X) (xs : List X) (b : Bool) → p x ≡ b → list_all p xs ≡ true → list_all p (cond b (x ∷ xs) xs) ≡ true
all_if p x xs true e h = (λ i. e i && h i)
all_if p x xs false e h = h

all_left : {X : Type 0} (p : X → Bool) (xs : List X) → list_all p (filter p xs) ≡ true
all_left p [] = refl
all_left p (x ∷ xs) = all_if p x (filter p xs) (p x) refl (all_left p xs)

pub all_grant : (c : Credentials) (p : Perm) (want : Want) (found xs : List Change) → found ≡ filter (grants c p want) xs → list_all (grants c p want) found ≡ true
all_grant c p want found xs is = ap (list_all (grants c p want)) is ∙ all_left (grants c p want) xs

pub all_grant_control : (c : Credentials) (p : Perm) (found xs : List Change) → found ≡ filter (grants_control c p) xs → list_all (grants_control c p) found ≡ true
all_grant_control c p found xs is = ap (list_all (grants_control c p)) is ∙ all_left (grants_control c p) xs

-- a capability that is given is there

same_number : (n : ℕ) → (n == n) ≡ true
same_number n = grind arith

given : (cap : ℕ) (c : Credentials) → has_capability (with_capability cap c) cap ≡ true
given cap c = ap (λ (n : ℕ). n == cap) (and_or_self cap c.caps) ∙ same_number cap

or_true : (a b : Bool) → b ≡ true → (a || b) ≡ true
or_true true b h = refl
or_true false b h = h

pub owner_grants : (c : Credentials) (p : Perm) (want : Want) → grants c p want changes.IpcOwner ≡ true
owner_grants c p want = or_true (is_subset want (rights_of (with_capability cap_ipc_owner c) p)) _ (given cap_ipc_owner c)

pub admin_grants : (c : Credentials) (p : Perm) → grants_control c p changes.SysAdmin ≡ true
admin_grants c p = or_true (is_owner (with_capability cap_sys_admin c) p) _ (given cap_sys_admin c)

-- so it is among what is left

any_if : {X : Type 0} (q : X → Bool) (x : X) (xs : List X) (b : Bool) → list_any q xs ≡ true → list_any q (cond b (x ∷ xs) xs) ≡ true
any_if q x xs true h = or_true (q x) (list_any q xs) h
any_if q x xs false h = h

any_kept : {X : Type 0} (q p : X → Bool) (x : X) (b : Bool) → p x ≡ b → b ≡ true → q x ≡ true → list_any q (cond b (x ∷ []) []) ≡ true
any_kept q p x true e h is = ap (λ (a : Bool). a || false) is
any_kept q p x false e h is = absurd (let e : false ≡ true = h in cc)

last_kept : {X : Type 0} (q p : X → Bool) (xs : List X) (x : X) → p x ≡ true → q x ≡ true → list_any q (filter p (xs ++ x ∷ [])) ≡ true
last_kept q p [] x h is = any_kept q p x (p x) refl h is
last_kept q p (y ∷ ys) x h is = any_if q y (filter p (ys ++ x ∷ [])) (p y) (last_kept q p ys x h is)

some_if : (c : Credentials) (p : Perm) (want : Want) (less : Option Want) → has_ipc_owner (changes_of c p want less) ≡ true
some_if c p want None = last_kept is_ipc_owner (grants c p want) (changes.Mode (widened c p want) ∷ changes.Group p.gid ∷ changes.User p.uid ∷ []) changes.IpcOwner (owner_grants c p want) refl
some_if c p want (Some less) = last_kept is_ipc_owner (grants c p want) (changes.Asking less ∷ changes.Mode (widened c p want) ∷ changes.Group p.gid ∷ changes.User p.uid ∷ []) changes.IpcOwner (owner_grants c p want) refl

pub some_change : (c : Credentials) (p : Perm) (want : Want) (less : Option Want) (found : List Change) → found ≡ changes_of c p want less → has_ipc_owner found ≡ true
some_change c p want less found is = ap has_ipc_owner is ∙ some_if c p want less

pub some_control : (c : Credentials) (p : Perm) (found : List Change) → found ≡ control_changes_of c p → has_sys_admin found ≡ true
some_control c p found is = ap has_sys_admin is ∙ last_kept is_sys_admin (grants_control c p) (changes.User p.uid ∷ []) changes.SysAdmin (admin_grants c p) refl

-- what is left of what was tried

pub found_some : (c : Credentials) (p : Perm) (want : Want) (mode : ℕ) (less : Want) (asked : Option Want) (found : List Change) → mode ≡ widened c p want → asked ≡ Some less → found ≡ filter (grants c p want) (changes.Asking less ∷ changes.Mode mode ∷ changes.Group p.gid ∷ changes.User p.uid ∷ changes.IpcOwner ∷ []) → found ≡ changes_of c p want asked
found_some c p want mode less asked found m a is =
    is
    ∙ ap (λ (n : ℕ). filter (grants c p want) (changes.Asking less ∷ changes.Mode n ∷ changes.Group p.gid ∷ changes.User p.uid ∷ changes.IpcOwner ∷ [])) m
    ∙ ap (changes_of c p want) (sym a)

pub found_none : (c : Credentials) (p : Perm) (want : Want) (mode : ℕ) (asked : Option Want) (found : List Change) → mode ≡ widened c p want → asked ≡ None → found ≡ filter (grants c p want) (changes.Mode mode ∷ changes.Group p.gid ∷ changes.User p.uid ∷ changes.IpcOwner ∷ []) → found ≡ changes_of c p want asked
found_none c p want mode asked found m a is =
    is
    ∙ ap (λ (n : ℕ). filter (grants c p want) (changes.Mode n ∷ changes.Group p.gid ∷ changes.User p.uid ∷ changes.IpcOwner ∷ [])) m
    ∙ ap (changes_of c p want) (sym a)

pub all_changes : (c : Credentials) (p : Perm) (want : Want) (less : Option Want) (found : List Change) → found ≡ changes_of c p want less → list_all (grants c p want) found ≡ true
all_changes c p want less found is = all_grant c p want found (asking less ++ tried c p want) is
