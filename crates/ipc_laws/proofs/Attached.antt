-- The segments that a client has attached, after an attach and a detach.
use Rattle.std.proofs.Common.{◌≡◌, ◌≢◌, ℕ, ◌+◌, Bool, true, false, cond, refl, sym, ap, arith, ◌∙◌, Option, Some, None}
use Rattle.std.specs.Prelude.{◌==◌, nat_lt}
use Rattle.std.specs.Ordering.{is_eq}
use Rattle.std.specs.FinMap as finite
use Rattle.std.proofs.lemmas.Bool.Decides.{nat_tests}
use Rattle.std.proofs.lemmas.Bool.{ne_eqb}
use Rattle.client_map.specs.Keys.{key}
use Rattle.client_map.proofs.Orders.{equal_keys, key_same, key_total}
use Rattle.shm_seg.specs.declared.attachments.Attachment.{Attachment}
use Rattle.shm_seg.specs.Attachments.{Attached, Handle, attach_count, attachment_at, handle_cmp, with_attachment, without_attachment}
use Rattle.shm_seg.proofs.Changes.{attached_count_other, detached_count, there_counted}
use Rattle.ipc_laws.specs.Worlds.{has_attached}

module _ (client : ℕ) where
  abbrev own : Attached → Attached
  own m = finite.retain_keys m (λ h. h.client == client)

  get-own : (m : Attached) (q : Handle) → finite.get (own m) q ≡ cond (q.client == client) (finite.get m q) None
  get-own m q = finite.get-retain_keys m (λ h. h.client == client) q (λ x tied. ap (λ (h : Handle). h.client == client) (sym (key_same q x tied)))

  is-own : (client == client) ≡ true
  is-own = grind arith

  at-own : (m : Attached) (n : ℕ) → attachment_at (own m) client n ≡ attachment_at m client n
  at-own m n = get-own m (key client n) ∙ ap (λ b. cond b (finite.get m (key client n)) None) is-own

  module _ (m : Attached) (n : ℕ) where
    own-with : (a : Attachment) → own (with_attachment m client n a) ≡ with_attachment (own m) client n a
    own-with a = finite.same_map key_total key_same _ _ (λ q.
        get-own (with_attachment m client n a) q ∙ ap (λ o. cond (q.client == client) o None) (finite.get-insert key_total m (key client n) a q)
        ∙ by q (is_eq (handle_cmp q (key client n))) refl
        ∙ sym (finite.get-insert key_total (own m) (key client n) a q ∙ ap (λ o. cond (is_eq (handle_cmp q (key client n))) (Some a) o) (get-own m q)))
      where
        by : (q : Handle) (b : Bool) → is_eq (handle_cmp q (key client n)) ≡ b → cond (q.client == client) (cond (is_eq (handle_cmp q (key client n))) (Some a) (finite.get m q)) None
            ≡ cond (is_eq (handle_cmp q (key client n))) (Some a) (cond (q.client == client) (finite.get m q) None)
        by q true is =
            let mine : (q.client == client) ≡ true = ap (λ (x : Handle). x.client == client) (equal_keys key_total key_same q (key client n) is) ∙ is-own in
            ap (λ b. cond (q.client == client) (cond b (Some a) (finite.get m q)) None) is ∙ ap (λ b. cond b (Some a) None) mine ∙ sym (ap (λ b. cond b (Some a) (cond (q.client == client) (finite.get m q) None)) is)
        by q false isnt =
            ap (λ b. cond (q.client == client) (cond b (Some a) (finite.get m q)) None) isnt ∙ sym (ap (λ b. cond b (Some a) (cond (q.client == client) (finite.get m q) None)) isnt)

    own-without : own (without_attachment m client n) ≡ without_attachment (own m) client n
    own-without = finite.same_map key_total key_same _ _ (λ q.
        get-own (without_attachment m client n) q ∙ ap (λ o. cond (q.client == client) o None) (finite.get-remove key_total m (key client n) q)
        ∙ by (q.client == client) (is_eq (handle_cmp q (key client n))) (finite.get m q)
        ∙ sym (finite.get-remove key_total (own m) (key client n) q ∙ ap (λ o. cond (is_eq (handle_cmp q (key client n))) None o) (get-own m q)))
      where
        by : (mine same : Bool) (o : Option Attachment) → cond mine (cond same None o) None ≡ cond same None (cond mine o None)
        by true true o = refl
        by true false o = refl
        by false true o = refl
        by false false o = refl

  -- what another process attaches
  own-apart : (m : Attached) (child n : ℕ) (a : Attachment) → child ≢ client → own (with_attachment m child n a) ≡ own m
  own-apart m child n a ne = finite.same_map key_total key_same _ _ (λ q.
      get-own (with_attachment m child n a) q ∙ ap (λ o. cond (q.client == client) o None) (finite.get-insert key_total m (key child n) a q)
      ∙ by q (is_eq (handle_cmp q (key child n))) refl ∙ sym (get-own m q))
    where
      by : (q : Handle) (b : Bool) → is_eq (handle_cmp q (key child n)) ≡ b → cond (q.client == client) (cond (is_eq (handle_cmp q (key child n))) (Some a) (finite.get m q)) None
          ≡ cond (q.client == client) (finite.get m q) None
      by q true is =
          let other : (q.client == client) ≡ false = ap (λ (x : Handle). x.client == client) (equal_keys key_total key_same q (key child n) is) ∙ ne_eqb child client ne in
          ap (λ b. cond b (cond (is_eq (handle_cmp q (key child n))) (Some a) (finite.get m q)) None) other ∙ sym (ap (λ b. cond b (finite.get m q) None) other)
      by q false isnt = ap (λ b. cond (q.client == client) (cond b (Some a) (finite.get m q)) None) isnt

  own-left : (m : Attached) (child n : ℕ) → child ≢ client → own (without_attachment m child n) ≡ own m
  own-left m child n ne = finite.same_map key_total key_same _ _ (λ q.
      get-own (without_attachment m child n) q ∙ ap (λ o. cond (q.client == client) o None) (finite.get-remove key_total m (key child n) q)
      ∙ by q (is_eq (handle_cmp q (key child n))) refl ∙ sym (get-own m q))
    where
      by : (q : Handle) (b : Bool) → is_eq (handle_cmp q (key child n)) ≡ b → cond (q.client == client) (cond (is_eq (handle_cmp q (key child n))) None (finite.get m q)) None
          ≡ cond (q.client == client) (finite.get m q) None
      by q true is =
          let other : (q.client == client) ≡ false = ap (λ (x : Handle). x.client == client) (equal_keys key_total key_same q (key child n) is) ∙ ne_eqb child client ne in
          ap (λ b. cond b (cond (is_eq (handle_cmp q (key child n))) None (finite.get m q)) None) other ∙ sym (ap (λ b. cond b (finite.get m q) None) other)
      by q false isnt = ap (λ b. cond (q.client == client) (cond b None (finite.get m q)) None) isnt

  pub attached-left : (m : Attached) (child n q : ℕ) → child ≢ client → has_attached (without_attachment m child n) client q ≡ has_attached m client q
  attached-left m child n q ne = ap (λ x. nat_lt 0 (attach_count x q)) (own-left m child n ne)

  pub attached-apart : (m : Attached) (child n : ℕ) (a : Attachment) (q : ℕ) → child ≢ client → has_attached (with_attachment m child n a) client q ≡ has_attached m client q
  attached-apart m child n a q ne = ap (λ x. nat_lt 0 (attach_count x q)) (own-apart m child n a ne)

  -- another segment than the new one is attached as before
  pub attached-other : (m : Attached) (n : ℕ) (a : Attachment) (q : ℕ) → attachment_at m client n ≡ None → (a.segment ≡ q → ⊥) → has_attached (with_attachment m client n a) client q ≡ has_attached m client q
  attached-other m n a q free ne = ap (λ k. nat_lt 0 k) (ap (λ k. attach_count k q) (own-with m n a) ∙ attached_count_other (own m) client n a (at-own m n ∙ free) q ne)

  module _ (m : Attached) (n : ℕ) (a : Attachment) (there : attachment_at m client n ≡ Some a) where
    pub attached-there : has_attached m client a.segment ≡ true
    attached-there = let some = there_counted (own m) client n a (at-own m n ∙ there) in grind (arith, nat_tests)

    -- what isn't attached isn't after a detach
    pub detached-fewer : (q : ℕ) → has_attached m client q ≡ false → has_attached (without_attachment m client n) client q ≡ false
    detached-fewer q none =
        let left = detached_count (own m) client n a (at-own m n ∙ there) q in
        ap (λ k. nat_lt 0 (attach_count k q)) (own-without m n) ∙ fewer (attach_count (own m) q) (attach_count (without_attachment (own m) client n) q) (cond (a.segment == q) 1 0) left none
      where
        fewer : (x y z : ℕ) → x ≡ y + z → nat_lt 0 x ≡ false → nat_lt 0 y ≡ false
        fewer x y z is none = grind (arith, nat_tests)
