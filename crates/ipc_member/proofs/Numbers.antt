-- The numbers of clients that join one after another, and facts on answers.
use Rattle.std.proofs.Common.{◌≡◌, ℕ, List, [], ◌∷◌, ◌++◌, map, sym, ap, ◌∙◌, subst, Option, Some, None, Result, Ok, Err}
use Rattle.std.specs.Prelude.{IfOk, IfSome, option_map}
use Rattle.std.specs.List.{slice_get}
use Rattle.std.proofs.lemmas.Option.{slice_get-map}
use Rattle.ipc_combiner.specs.declared.states.Unjoined.{Unjoined}
use Rattle.ipc_member.specs.declared.states.Member.{Member}
use Rattle.ipc_member.specs.Members.{number_of}

abbrev pub fresh_number : Unjoined → ℕ
fresh_number u = u.fresh.client

pub one_more : (ms : List Member) (m : Member) (u : Unjoined) (us : List Unjoined) → number_of m ≡ u.fresh.client
    → map number_of (ms ++ m ∷ []) ++ map fresh_number us ≡ map number_of ms ++ map fresh_number (u ∷ us)
one_more [] m u us is = ap (λ n. n ∷ map fresh_number us) is
one_more (x ∷ ms) m u us is = ap (λ l. number_of x ∷ l) (one_more ms m u us is)

pub if_ok : {T E : Type 0} (P Q : T → Type 0) (r : Result T E) → ((x : T) → P x → Q x) → IfOk r P → IfOk r Q
if_ok P Q (Ok x) more is = more x is
if_ok P Q (Err e) more is = tt

numbered : (k : ℕ) (b : Option Unjoined) → IfSome b (λ u. u.fresh.client ≡ k) → IfSome (option_map fresh_number b) (λ n. n ≡ k)
numbered k (Some u) is = is
numbered k None is = tt

member_of : (k : ℕ) (a : Option Member) → IfSome (option_map number_of a) (λ n. n ≡ k) → IfSome a (λ m. number_of m ≡ k)
member_of k (Some m) is = is
member_of k None is = tt

pub numbers : (ms : List Member) (us : List Unjoined) → map number_of ms ≡ map fresh_number us
    → ((k : ℕ) → IfSome (slice_get us k) (λ u. u.fresh.client ≡ k)) → (k : ℕ) → IfSome (slice_get ms k) (λ m. number_of m ≡ k)
numbers ms us same are k =
    let e = sym (slice_get-map number_of ms k) ∙ ap (λ (l : List ℕ). slice_get l k) same ∙ slice_get-map fresh_number us k in
    member_of k (slice_get ms k) (subst (λ (o : Option ℕ). IfSome o (λ n. n ≡ k)) (sym e) (numbered k (slice_get us k) (are k)))
