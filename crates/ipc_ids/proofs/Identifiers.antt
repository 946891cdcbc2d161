-- Identifiers, each with its sequence number and its slot.
use Rattle.std.proofs.Common.{◌≡◌, ◌≢◌, ℕ, ◌/◌, ◌%◌, ◌<◌, true, false, sym, ap, ◌∙◌, arith, ⊎_elim}
use Rattle.std.specs.Prelude.{nat_eq}
use Rattle.std.proofs.lemmas.Nat.{div-add-mod', mod_below, mod-mul-add, div-mul-add, same_from_place}
use Rattle.std.proofs.lemmas.Bool.{cases_eq, eq-eqb, ne_eqb}
use Rattle.ipc_ids.specs.Table.{id_of}

pub same_eq : (x y : ℕ) → x ≡ y → nat_eq x y ≡ true
same_eq x y e = eq-eqb x y e

pub apart_eq : (x y : ℕ) → x ≢ y → nat_eq x y ≡ false
apart_eq x y ne = ne_eqb x y ne

pub by_eq : {A : Type 0} (x y : ℕ) → (x ≡ y → A) → (x ≢ y → A) → A
by_eq x y same apart = ⊎_elim (λ (e : x ≡ y). same e) (λ (ne : x ≡ y → ⊥). apart ne) (cases_eq x y)

pub whole_id : (id : ℕ) → id ≡ id_of (id / 32768) (id % 32768)
whole_id id = sym (div-add-mod' id 32768)

pub slot_below : (id : ℕ) → id % 32768 < 32768
slot_below id = mod_below id 32768 (omega arith)

pub slot_of-id : (seq slot : ℕ) → slot < 32768 → id_of seq slot % 32768 ≡ slot
slot_of-id seq slot h = mod-mul-add seq 32768 slot h

pub seq_of-id : (seq slot : ℕ) → slot < 32768 → id_of seq slot / 32768 ≡ seq
seq_of-id seq slot h = div-mul-add seq 32768 slot h

pub same_id : (s t slot : ℕ) → slot < 32768 → nat_eq (id_of s slot) (id_of t slot) ≡ nat_eq s t
same_id s t slot h =
    by_eq s t
    (λ e. same_eq (id_of s slot) (id_of t slot) (ap (λ n. id_of n slot) e) ∙ sym (same_eq s t e))
    (λ ne. apart_eq (id_of s slot) (id_of t slot) (λ e. ne ((same_from_place s slot t slot 32768 h h e).0)) ∙ sym (apart_eq s t ne))

pub other_id : (s t a b : ℕ) → a < 32768 → b < 32768 → a ≢ b → nat_eq (id_of s a) (id_of t b) ≡ false
other_id s t a b h k ne = apart_eq (id_of s a) (id_of t b) (λ e. ne ((same_from_place s a t b 32768 h k e).1))
