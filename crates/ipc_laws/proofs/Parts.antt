-- A part of the state and its blur: how what a call leaves of both is related, and calls on an object of a table.
use Rattle.std.proofs.Common.{◌≡◌, ℕ, Bool, true, false, refl, sym, ap, ◌∙◌, subst, ⊎_elim, Option, Some, None}
use Rattle.std.specs.Prelude.{option_map, ◌==◌, ◌||◌}
use Rattle.std.specs.FinMap as finite
use Rattle.std.proofs.lemmas.Bool.{cases_Bool}
use Rattle.ipc_call.specs.Flags.{has_flag, ipc_creat}
use Rattle.ipc_call.specs.declared.perms.Perm.{Perm}
use Rattle.ipc_call.specs.declared.rules.Rule.{Rule}
use Rattle.ipc_call.specs.declared.rules.Rule.TheVariants.{NoKey, NoSlot}
use Rattle.ipc_call.specs.declared.replies.Answer.TheVariants.{Id}
use Rattle.ipc_creds.specs.Credentials.{Credentials}
use Rattle.ipc_ids.specs.Table.{Table, next_id, with_object, without_object}
use Rattle.ipc_objects.specs.declared.object.Object.{Object}
use Rattle.ipc_objects.specs.Objects.{changed, with_perm}
use Rattle.ipc_objects.proofs.Seen.{next_id-free}
use Rattle.ipc_model.specs.State.{Caller}
use Rattle.ipc_model.specs.Plan.{IsPlain, Passes, Plan, Grant, found, in_order}
use Rattle.ipc_model.specs.Gets.{Getting, get, get_found, make_object, new_object, object_of_key, to_open, Get}
use Rattle.ipc_laws.specs.Worlds.{all_masked, blank, is_hidden_in, masked}
use Rattle.ipc_laws.proofs.Pairs.{Both, both-check, both-found, both-grant, both-order, both-refuse}
use Rattle.ipc_laws.proofs.Searches.{find-masked, next_id-masked, told}
use Rattle.ipc_laws.proofs.Tables.{again, get-masked, get-seen, hidden-at, kept-with, masked-hidden, masked-seen, more-with, more-without, perm-masked, with-alike, with-exact, with-hidden, without-alike}

-- both look the same, and what was hidden in the first part is so still
abbrev pub Alike : {P : Type 0} → (P → P) → (P → ℕ → Bool) → P → P → P → Type 0
Alike blur hid old new later = (blur new ≡ blur later) × ((q : ℕ) → hid old q ≡ true → hid new q ≡ true)

-- the second is the blur of the first, and the same is hidden as before
abbrev pub Exact : {P : Type 0} → (P → P) → (P → ℕ → Bool) → P → P → P → Type 0
Exact blur hid old new later = (blur new ≡ later) × ((q : ℕ) → hid new q ≡ hid old q)

pub exact-alike : {P : Type 0} (blur : P → P) (hid : P → ℕ → Bool) → ((p : P) → blur p ≡ blur (blur p)) → (old new later : P) → Exact blur hid old new later → Alike blur hid old new later
exact-alike blur hid twice old new later exact = (twice new ∙ ap blur exact.0, λ q is. exact.1 q ∙ is)

module _ {X : Type 0} (empty : X → X) (hides : ℕ → Perm → Bool) (t : Table (Object X)) where
  abbrev u : Table (Object X)
  u = all_masked empty hides t

  module _ (id : ℕ) where
    pub there-seen : (o : Object X) → finite.get t.objects id ≡ Some o → hides id o.perm ≡ false → finite.get u.objects id ≡ Some o
    there-seen o there seen = get-masked empty hides t id ∙ ap (option_map (masked empty hides id)) there ∙ ap (λ (x : Object X). Some x) (masked-seen empty hides id o seen)

    -- an object in sight changes, and its permissions stay
    pub exact-changed : (o : Object X) → finite.get t.objects id ≡ Some o → hides id o.perm ≡ false → (f : Object X → Object X) → (f o).perm ≡ o.perm
        → Exact (all_masked empty hides) (is_hidden_in hides) t (changed t id f) (changed u id f)
    exact-changed o there seen f perm =
        let on_t : changed t id f ≡ with_object t id (f o) = ap (with_perm t id f) there in
        let on_u : changed u id f ≡ with_object u id (f o) = ap (with_perm u id f) (there-seen o there seen) in (
          ap (all_masked empty hides) on_t ∙ with-exact empty hides t id (f o) (ap (hides id) perm ∙ seen) ∙ sym on_u,
          λ q. ap (λ x. is_hidden_in hides x q) on_t ∙ kept-with t id hides o (f o) there perm q,
        )

    -- or they change too, and what hides them
    module _ (twice : (x : X) → empty (empty x) ≡ empty x) (later : ℕ → Perm → Bool) (more : (q : ℕ) → (q ≡ id → ⊥) → (p : Perm) → hides q p ≡ true → later q p ≡ true)
        (o : Object X) (there : finite.get t.objects id ≡ Some o) (seen : hides id o.perm ≡ false) where
      in-sight : is_hidden_in hides t id ≡ false
      in-sight = hidden-at hides t id (Some o) there ∙ seen

      pub alike-changed : (f : Object X → Object X) → (all_masked empty later (changed t id f) ≡ all_masked empty later (changed u id f)) × ((q : ℕ) → is_hidden_in hides t q ≡ true → is_hidden_in later (changed t id f) q ≡ true)
      alike-changed f =
          let on_t : changed t id f ≡ with_object t id (f o) = ap (with_perm t id f) there in
          let on_u : changed u id f ≡ with_object u id (f o) = ap (with_perm u id f) (there-seen o there seen) in (
            ap (all_masked empty later) on_t ∙ with-alike empty twice hides later t id (f o) more ∙ sym (ap (all_masked empty later) on_u),
            λ q is. ap (λ x. is_hidden_in later x q) on_t ∙ more-with t id hides later in-sight (f o) q (more q) is,
          )

      pub alike-without : (all_masked empty later (without_object t id) ≡ all_masked empty later (without_object u id)) × ((q : ℕ) → is_hidden_in hides t q ≡ true → is_hidden_in later (without_object t id) q ≡ true)
      alike-without = (without-alike empty twice hides later t id more, λ q is. more-without t id hides later in-sight q (more q) is)

    -- an object out of sight changes in its contents
    pub hidden-changed : (o : Object X) → finite.get t.objects id ≡ Some o → hides id o.perm ≡ true → (f : Object X → Object X) → (f o).perm ≡ o.perm → empty (f o).contents ≡ empty o.contents
        → all_masked empty hides (changed t id f) ≡ u
    hidden-changed o there is f perm same = ap (λ x. all_masked empty hides (with_perm t id f x)) there ∙ with-hidden empty hides t id o (f o) there is perm same

    -- an object is looked for: in sight it is the same in both, and out of sight it is blank in one
    pub own-found : {S V : Type 0} (R : S → V → Type 0) (c : Credentials) (rule : Rule) (plain : IsPlain rule) {F : Object X → Plan S} {G : Object X → Plan V}
        → ((o : Object X) → finite.get t.objects id ≡ Some o → hides id o.perm ≡ false → Both c R (F o) (G o))
        → ((o : Object X) → hides id o.perm ≡ true → Both c R (F o) (G (blank empty o)))
        → Both c R (found (finite.get t.objects id) rule plain F) (found (finite.get u.objects id) rule plain G)
    own-found R c rule plain {F} {G} seen hidden =
        subst (λ o. Both c R (found (finite.get t.objects id) rule plain F) (found o rule plain G)) (sym (get-masked empty hides t id)) (by (finite.get t.objects id) refl)
      where
        one : (o : Object X) → finite.get t.objects id ≡ Some o → Both c R (F o) (G (masked empty hides id o))
        one o there = ⊎_elim
            (λ (is : hides id o.perm ≡ true). subst (λ x. Both c R (F o) (G x)) (sym (masked-hidden empty hides id o is)) (hidden o is))
            (λ (isnt : hides id o.perm ≡ false). subst (λ x. Both c R (F o) (G x)) (sym (masked-seen empty hides id o isnt)) (seen o there isnt))
            (cases_Bool (hides id o.perm))

        by : (o : Option (Object X)) → finite.get t.objects id ≡ o → Both c R (found o rule plain F) (found (option_map (masked empty hides id) o) rule plain G)
        by None there = both-refuse R c rule plain
        by (Some o) there = one o there

    pub seen-found : {S V : Type 0} (R : S → V → Type 0) (c : Credentials) (rule : Rule) (plain : IsPlain rule) {F : Object X → Plan S} {G : Object X → Plan V} → is_hidden_in hides t id ≡ false
        → ((o : Object X) → finite.get t.objects id ≡ Some o → hides id o.perm ≡ false → Both c R (F o) (G o))
        → Both c R (found (finite.get t.objects id) rule plain F) (found (finite.get u.objects id) rule plain G)
    seen-found R c rule plain {F} {G} isnt seen =
        subst (λ o. Both c R (found (finite.get t.objects id) rule plain F) (found o rule plain G)) (sym (get-seen empty hides t id isnt))
        (both-found R c (finite.get t.objects id) rule plain (λ o there. seen o there (sym (hidden-at hides t id (Some o) there) ∙ isnt)))

  -- a get
  module _ (twice : (x : X) → empty (empty x) ≡ empty x) (c : Credentials) where
    abbrev R : Table (Object X) → Table (Object X) → Type 0
    R = Alike (all_masked empty hides) (is_hidden_in hides) t

    both-made : (object : Object X) (o : Option ℕ) → next_id t ≡ o → Both c R (found o NoSlot tt (λ id. Grant (Id id) (with_object t id object))) (found o NoSlot tt (λ id. Grant (Id id) (with_object u id object)))
    both-made object o is = both-found R c o NoSlot tt (λ id new.
        both-grant R c (Id id) _ _ (
          with-alike empty twice hides hides t id object (λ q ne p same. same),
          λ q hidden. more-with t id hides hides (hidden-at hides t id None (next_id-free t id (is ∙ new))) object q (λ ne p same. same) hidden,
        ))

    both-make : (object : Object X) → Both c R (make_object t object) (make_object u object)
    both-make object = subst (λ o. Both c R (make_object t object) (found o NoSlot tt (λ id. Grant (Id id) (with_object u id object)))) (sym (next_id-masked empty hides t)) (both-made object (next_id t) refl)

    module _ (getting : Getting X) (fits : (x : X) → getting.to_find (empty x) ≡ getting.to_find x) (who : Caller) (asked : Get) where
      contents-masked : (q : ℕ) (o : Object X) → getting.to_find (masked empty hides q o).contents ≡ getting.to_find o.contents
      contents-masked q o = ⊎_elim
          (λ (is : hides q o.perm ≡ true). ap (λ (x : Object X). getting.to_find x.contents) (masked-hidden empty hides q o is) ∙ fits o.contents)
          (λ (isnt : hides q o.perm ≡ false). ap (λ (x : Object X). getting.to_find x.contents) (masked-seen empty hides q o isnt))
          (cases_Bool (hides q o.perm))

      by-key : (o : Option (ℕ × Object X)) → Both c R (get_found t who asked getting o) (get_found u who asked getting (option_map {U = ℕ × Object X} (told empty hides t) o))
      by-key None =
          let object = new_object who asked.key asked.flags getting.new in
          both-check R c (Passes (asked.key == 0 || has_flag asked.flags ipc_creat) NoKey tt) (both-order R c getting.to_make (both-make object))
      by-key (Some there) =
          let id = there.0 in
          let o = there.1 in
          subst (λ (p : Perm). Both c R (get_found t who asked getting (Some there)) (in_order (to_open p asked.flags) (in_order (getting.to_find (masked empty hides id o).contents) (Grant (Id id) u)))) (sym (perm-masked empty hides id o))
          (subst (λ checks. Both c R (get_found t who asked getting (Some there)) (in_order (to_open o.perm asked.flags) (in_order checks (Grant (Id id) u)))) (sym (contents-masked id o))
          (both-order R c (to_open o.perm asked.flags) (both-order R c (getting.to_find o.contents) (both-grant R c (Id id) t u (again empty twice hides hides t (λ q p same. same), λ q is. is)))))

      pub both-get : Both c R (get t who asked getting) (get u who asked getting)
      both-get = subst (λ o. Both c R (get t who asked getting) (get_found u who asked getting o)) (sym (find-masked empty hides t asked.key)) (by-key (object_of_key t asked.key))
