-- The calls on semaphores, and exit, on the sets with their undo entries and on their blur.
use Rattle.std.proofs.Common.{◌≡◌, ℕ, suc, ◌+◌, ℤ, Bool, true, false, List, [], ◌∷◌, length, map, refl, sym, ap, ◌∙◌, subst, eqb-true, Option, Some, None}
use Rattle.std.specs.Prelude.{unwrap_or, option_map, ◌==◌, nat_le, nat_lt, pos, not, ◌||◌, slice_set, replicate}
use Rattle.std.specs.List.{list_all, list_any}
use Rattle.std.specs.Ordering.{int_eq}
use Rattle.std.specs.FinMap as finite
use Rattle.std.proofs.lemmas.Bool.{true≢false}
use Rattle.std.proofs.lemmas.List.{length-map, length-replicate, length-set}
use Rattle.ipc_call.specs.declared.calls.SemOper.{SemOper}
use Rattle.ipc_call.specs.declared.limits.Limits.{Limits}
use Rattle.ipc_call.specs.declared.rules.Rule.TheVariants.{BadId, BadSem, BadSize, NoOperations, SemOutOfSet, TooManyOperations, ValueRange}
use Rattle.ipc_call.specs.declared.replies.Answer.TheVariants.{Done, Value, Values}
use Rattle.ipc_creds.specs.Credentials.{Credentials}
use Rattle.ipc_perm.specs.Access.{Permission, class_of, rule_of, to_alter, to_read}
use Rattle.ipc_ids.specs.Images.{map_entries}
use Rattle.ipc_ids.specs.Table.{Table, without_object}
use Rattle.ipc_ids.proofs.Images.{get-entries}
use Rattle.ipc_objects.specs.declared.object.Object.{Object}
use Rattle.ipc_objects.specs.Objects.{changed}
use Rattle.sem_set.specs.declared.set.Semaphore.{Semaphore}
use Rattle.sem_set.specs.Exits.{undone_from}
use Rattle.sem_set.specs.Sets.{is_value, set_to, zeroed}
use Rattle.sem_set.specs.Trials.{are_in, committed, left_from}
use Rattle.sem_undo.specs.Entries.{Adjusted, Entries, adj_of, cleared, without_client}
use Rattle.ipc_model.specs.State.{Caller, SemSet, Sems}
use Rattle.ipc_model.specs.Plan.{Needs, Passes, Grant, in_order}
use Rattle.ipc_model.specs.Controls.{without_set}
use Rattle.ipc_model.specs.Gets.{Get, get_set, getting_set}
use Rattle.ipc_model.specs.Semaphores.{after_exit, set_after_exit, undone_set, get_all, look, lowered, operate, operate_found, operated, renewed, set_all, set_at, set_value, trial_checks, values_of, wanted_by, with_values}
use Rattle.ipc_model.proofs.Apart.{cleared-apart, lowered-apart}
use Rattle.ipc_model.proofs.Granting.{Grants, grants-check, grants-found, grants-grant, grants-order, grants-passes}
use Rattle.ipc_laws.specs.Worlds.{all_masked, blank, blank_set, masked, blur_sems, hides_closed, is_closed, is_hidden_in}
use Rattle.ipc_laws.proofs.Closed.{denied-permission}
use Rattle.ipc_laws.proofs.Pairs.{Both, both-check, both-denied, both-grant, both-less, both-on, both-order, both-passes}
use Rattle.ipc_laws.proofs.Parts.{Alike, Exact, alike-changed, alike-without, both-get, exact-alike, exact-changed, hidden-changed, own-found, seen-found}
use Rattle.ipc_laws.proofs.Tables.{again, blank-like, get-masked, hidden-at, hidden-masked, masked-hidden, masked-seen, same-tables}
use Rattle.ipc_laws.proofs.Undo.{AreSame, kept-same, lowered-kept, same-kept, same-retained}

-- how many semaphores there are is all that a blank set has
blank-same : (x y : SemSet) → length x.semaphores ≡ length y.semaphores → blank_set x ≡ blank_set y
blank-same x y same = ap (λ n. record { semaphores = replicate n zeroed; op_time = 0 }) same

pub set-twice : (x : SemSet) → blank_set (blank_set x) ≡ blank_set x
set-twice x = blank-same (blank_set x) x (length-replicate (length x.semaphores) zeroed)

left-long : (num : ℕ) (ops : List SemOper) (pid : ℕ) (ss : List Semaphore) → length (left_from num ops pid ss) ≡ length ss
left-long num ops pid [] = refl
left-long num ops pid (s ∷ ss) = ap suc (left-long (num + 1) ops pid ss)

undone-long : (adj : ℕ → ℤ) (pid num : ℕ) (ss : List Semaphore) → length (undone_from adj pid num ss) ≡ length ss
undone-long adj pid num [] = refl
undone-long adj pid num (s ∷ ss) = ap suc (undone-long adj pid (num + 1) ss)

-- some right is wanted where there is an operation
pub wants : (os : List SemOper) → nat_lt 0 (length os) ≡ true → ((wanted_by os).read || (wanted_by os).alter) ≡ true
wants [] some = absurd (true≢false (sym some))
wants (o ∷ os) some = by (int_eq o.op (pos 0)) (list_any (λ o. int_eq o.op (pos 0)) os) (list_any (λ o. not (int_eq o.op (pos 0))) os)
  where
    by : (a b d : Bool) → ((a || b) || (not a || d)) ≡ true
    by true b d = refl
    by false true d = refl
    by false false d = refl

module _ (client : ℕ) (c : Credentials) where
  abbrev pub hid : Sems → ℕ → Bool
  hid sems q = is_hidden_in (hides_closed client c) sems.sets q

  abbrev mask : Table (Object SemSet) → Table (Object SemSet)
  mask sets = all_masked blank_set (hides_closed client c) sets

  hid-alike : (t u : Table (Object SemSet)) → mask t ≡ mask u → (q : ℕ) → is_hidden_in (hides_closed client c) t q ≡ is_hidden_in (hides_closed client c) u q
  hid-alike t u same q = sym (hidden-masked blank_set (hides_closed client c) t q) ∙ ap (λ x. is_hidden_in (hides_closed client c) x q) same ∙ hidden-masked blank_set (hides_closed client c) u q

  -- two parts look the same
  pub blur-same : (a b : Sems) → mask a.sets ≡ mask b.sets → AreSame (hid a) a.undo b.undo → blur_sems client c a ≡ blur_sems client c b
  blur-same a b sets undo =
      let entries = kept-same (hid a) a.undo b.undo (hid b) (hid-alike a.sets b.sets sets) undo in
      λ i. record { sets = sets i; undo = entries i }

  pub sems-twice : (sems : Sems) → blur_sems client c sems ≡ blur_sems client c (blur_sems client c sems)
  sems-twice sems = blur-same sems (blur_sems client c sems) (again blank_set set-twice (hides_closed client c) (hides_closed client c) sems.sets (λ q p is. is)) (same-kept (hid sems) sems.undo)

  fewer : (a b : Bool) → (a ≡ true → b ≡ true) → b ≡ false → a ≡ false
  fewer true b then_so is = absurd (true≢false (sym (then_so refl) ∙ is))
  fewer false b then_so is = refl

  module _ (sems : Sems) where
    abbrev blurred : Sems
    blurred = blur_sems client c sems

    abbrev pub IsExact : Sems → Sems → Type 0
    IsExact new later = Exact (blur_sems client c) hid sems new later

    abbrev pub IsAlike : Sems → Sems → Type 0
    IsAlike new later = Alike (blur_sems client c) hid sems new later

    -- the blur stays
    abbrev pub IsSame : Sems → Type 0
    IsSame new = blur_sems client c new ≡ blurred

    exact-less : (new later : Sems) → IsExact new later → IsAlike new later
    exact-less new later exact = exact-alike (blur_sems client c) hid sems-twice sems new later exact

    -- the semadj of a set in sight are the same
    pub same-adj : (who q : ℕ) → hid sems q ≡ false → adj_of sems.undo who q ≡ adj_of blurred.undo who q
    same-adj who q seen = λ i num. unwrap_or (same-kept (hid sems) sems.undo (record { client = who; set = q; num = num }) seen i) (pos 0)

    pub same-sems : IsAlike sems blurred
    same-sems = (sems-twice sems, λ q is. is)

    -- other sets, and other entries
    alike-sems : (sets others : Table (Object SemSet)) (undo entries : Entries) → Alike mask (λ t q. is_hidden_in (hides_closed client c) t q) sems.sets sets others → AreSame (hid sems) undo entries
        → IsAlike (record { sets = sets; undo = undo }) (record { sets = others; undo = entries })
    alike-sems sets others undo entries alike same =
        (blur-same (record { sets = sets; undo = undo }) (record { sets = others; undo = entries }) alike.0 (λ k isnt. same k (fewer (hid sems k.set) _ (alike.1 k.set) isnt)), alike.1)

    -- semget
    pub own-get : (limits : Limits) (who : Caller) (asked : Get) (nsems : ℕ) → Both c IsAlike (get_set limits sems who asked nsems) (get_set limits blurred who asked nsems)
    own-get limits who asked nsems =
        both-check IsAlike c (Passes (nat_le nsems limits.sem_msl) BadSize tt)
        (both-on (Alike mask (λ t q. is_hidden_in (hides_closed client c) t q) sems.sets) IsAlike (λ sets. record sems { sets = sets }) (λ sets. record blurred { sets = sets })
        (λ sets others alike. alike-sems sets others sems.undo blurred.undo alike (same-kept (hid sems) sems.undo)) c
        (both-get blank_set (hides_closed client c) sems.sets set-twice c (getting_set nsems) (λ x. ap (λ n. Passes (nat_le nsems n) BadSize tt ∷ []) (length-replicate (length x.semaphores) zeroed)) who asked))

    module _ (id : ℕ) where
      -- GETVAL, GETPID, GETNCNT and GETZCNT
      pub own-look : (num : ℕ) (tell other : List Semaphore → ℕ) → ((o : Object SemSet) → finite.get sems.sets.objects id ≡ Some o → is_closed c o.perm ≡ false → tell o.contents.semaphores ≡ other o.contents.semaphores)
          → Both c IsAlike (look sems id num tell) (look blurred id num other)
      own-look num tell other same =
          own-found blank_set (hides_closed client c) sems.sets id IsAlike c BadId tt
          (λ o there isnt. both-check IsAlike c (Needs (Permission o.perm to_read)) (both-check IsAlike c (Passes (nat_lt num (length o.contents.semaphores)) BadSem tt)
          (subst (λ n. Both c IsAlike (Grant (Value (tell o.contents.semaphores)) sems) (Grant (Value n) blurred)) (same o there isnt) (both-grant IsAlike c (Value (tell o.contents.semaphores)) sems blurred same-sems))))
          (λ o is. both-denied IsAlike c (Permission o.perm to_read) (rule_of (class_of c o.perm)) (denied-permission c o.perm to_read is refl))

      -- GETALL
      pub own-all : Both c IsAlike (get_all sems id) (get_all blurred id)
      own-all = own-found blank_set (hides_closed client c) sems.sets id IsAlike c BadId tt
          (λ o there isnt. both-check IsAlike c (Needs (Permission o.perm to_read)) (both-grant IsAlike c (Values (values_of o)) sems blurred same-sems))
          (λ o is. both-denied IsAlike c (Permission o.perm to_read) (rule_of (class_of c o.perm)) (denied-permission c o.perm to_read is refl))

      -- the set changes in sight, and its permissions stay
      exact-sets : (o : Object SemSet) → finite.get sems.sets.objects id ≡ Some o → is_closed c o.perm ≡ false → (f : Object SemSet → Object SemSet) → (f o).perm ≡ o.perm
          → Exact mask (λ t q. is_hidden_in (hides_closed client c) t q) sems.sets (changed sems.sets id f) (changed blurred.sets id f)
      exact-sets o there seen f perm = exact-changed blank_set (hides_closed client c) sems.sets id o there seen f perm

      -- SETVAL and SETALL
      alike-values : (o : Object SemSet) → finite.get sems.sets.objects id ≡ Some o → is_closed c o.perm ≡ false → (now : ℕ) (semaphores : List Semaphore) (which : ℕ → Bool) → IsAlike (with_values sems now id semaphores which) (with_values blurred now id semaphores which)
      alike-values o there seen now semaphores which =
          alike-sems (with_values sems now id semaphores which).sets (with_values blurred now id semaphores which).sets (cleared sems.undo id which) (cleared blurred.undo id which)
          (exact-alike mask (λ t q. is_hidden_in (hides_closed client c) t q) (λ t. again blank_set set-twice (hides_closed client c) (hides_closed client c) t (λ q p is. is)) sems.sets _ _ (exact-sets o there seen (renewed now semaphores) refl))
          (same-retained (hid sems) sems.undo blurred.undo _ (same-kept (hid sems) sems.undo))

      pub own-set : (who : Caller) (num : ℕ) (value : ℤ) → Both c IsAlike (set_value sems who id num value) (set_value blurred who id num value)
      own-set who num value =
          both-check IsAlike c (Passes (is_value value) ValueRange tt)
          (own-found blank_set (hides_closed client c) sems.sets id IsAlike c BadId tt
          (λ o there isnt. both-check IsAlike c (Needs (Permission o.perm to_alter)) (both-check IsAlike c (Passes (nat_lt num (length o.contents.semaphores)) BadSem tt)
          (both-grant IsAlike c Done _ _ (alike-values o there isnt who.now (slice_set o.contents.semaphores num (set_to who.pid value)) (λ n. n == num)))))
          (λ o is. both-denied IsAlike c (Permission o.perm to_alter) (rule_of (class_of c o.perm)) (denied-permission c o.perm to_alter is refl)))

      pub own-set_all : (who : Caller) (values : List ℤ) → Both c IsAlike (set_all sems who id values) (set_all blurred who id values)
      own-set_all who values =
          both-check IsAlike c (Passes (list_all is_value values) ValueRange tt)
          (own-found blank_set (hides_closed client c) sems.sets id IsAlike c BadId tt
          (λ o there isnt. both-check IsAlike c (Needs (Permission o.perm to_alter)) (both-check IsAlike c (Passes (length values == length o.contents.semaphores) BadSize tt)
          (both-grant IsAlike c Done _ _ (alike-values o there isnt who.now (map (set_to who.pid) values) (λ n. true)))))
          (λ o is. both-denied IsAlike c (Permission o.perm to_alter) (rule_of (class_of c o.perm)) (denied-permission c o.perm to_alter is refl)))

      -- semop: of any caller, on a set in sight
      module _ (who : Caller) (ops : List SemOper) where
        exact-operated : (o : Object SemSet) → finite.get sems.sets.objects id ≡ Some o → is_closed c o.perm ≡ false → IsExact (operated sems who id ops o.contents) (operated blurred who id ops o.contents)
        exact-operated o there seen =
            let new = operated sems who id ops o.contents in
            let sets = exact-sets o there seen (λ (y : Object SemSet). record y { contents = record { semaphores = committed ops who.pid o.contents.semaphores; op_time = who.now } }) refl in
            let undo = lowered-kept who.process id (hid sems) (hidden-at (hides_closed client c) sems.sets id (Some o) there ∙ seen) ops sems.undo (hid new) sets.1 in
            (λ i. record { sets = sets.0 i; undo = undo i }, sets.1)

        exact-found : (d : Credentials) (o : Object SemSet) → finite.get sems.sets.objects id ≡ Some o → is_closed c o.perm ≡ false → Both d IsExact (operate_found sems who id ops (Some o)) (operate_found blurred who id ops (Some o))
        exact-found d o there seen =
            both-check IsExact d (Needs (Permission o.perm (wanted_by ops))) (both-check IsExact d (Passes (are_in o.contents.semaphores ops) SemOutOfSet tt)
            (subst (λ adj. Both d IsExact (in_order (trial_checks o.contents.semaphores (adj_of sems.undo who.process id) [] ops) (Grant Done (operated sems who id ops o.contents)))
            (in_order (trial_checks o.contents.semaphores adj [] ops) (Grant Done (operated blurred who id ops o.contents)))) (same-adj who.process id (hidden-at (hides_closed client c) sems.sets id (Some o) there ∙ seen))
            (both-order IsExact d (trial_checks o.contents.semaphores (adj_of sems.undo who.process id) [] ops) (both-grant IsExact d Done _ _ (exact-operated o there seen)))))

        pub exact-operate : (d : Credentials) → hid sems id ≡ false → (limits : Limits) → Both d IsExact (operate limits sems who id ops) (operate limits blurred who id ops)
        exact-operate d seen limits =
            both-check IsExact d (Passes (nat_lt 0 (length ops)) NoOperations tt) (both-check IsExact d (Passes (nat_le (length ops) limits.sem_opm) TooManyOperations tt)
            (seen-found blank_set (hides_closed client c) sems.sets id IsExact d BadId tt seen (exact-found d)))

        pub own-operate : (limits : Limits) → Both c IsAlike (operate limits sems who id ops) (operate limits blurred who id ops)
        own-operate limits =
            both-passes IsAlike c (nat_lt 0 (length ops)) NoOperations tt (λ some. both-check IsAlike c (Passes (nat_le (length ops) limits.sem_opm) TooManyOperations tt)
            (own-found blank_set (hides_closed client c) sems.sets id IsAlike c BadId tt
            (λ o there isnt. both-less IsExact IsAlike exact-less c (exact-found c o there isnt))
            (λ o is. both-denied IsAlike c (Permission o.perm (wanted_by ops)) (rule_of (class_of c o.perm)) (denied-permission c o.perm (wanted_by ops) is (wants ops some)))))

      -- of any caller: what only reads
      pub same-look : (d : Credentials) (num : ℕ) (tell : List Semaphore → ℕ) → Grants d IsSame (look sems id num tell)
      same-look d num tell = grants-found IsSame d (set_at sems id) BadId tt (λ o there.
          grants-check IsSame d (Needs (Permission o.perm to_read)) (grants-check IsSame d (Passes (nat_lt num (length o.contents.semaphores)) BadSem tt)
          (grants-grant IsSame d (Value (tell o.contents.semaphores)) sems refl)))

      pub same-all : (d : Credentials) → Grants d IsSame (get_all sems id)
      same-all d = grants-found IsSame d (set_at sems id) BadId tt (λ o there. grants-check IsSame d (Needs (Permission o.perm to_read)) (grants-grant IsSame d (Values (values_of o)) sems refl))

      -- of any caller, on a hidden set
      module _ (d : Credentials) (hidden : hid sems id ≡ true) where
        same-changed : (o : Object SemSet) → finite.get sems.sets.objects id ≡ Some o → (f : Object SemSet → Object SemSet) (undo : Entries) → (f o).perm ≡ o.perm → length (f o).contents.semaphores ≡ length o.contents.semaphores
            → ((k : Adjusted) → (k.set ≡ id → ⊥) → finite.get undo k ≡ finite.get sems.undo k) → IsSame (record { sets = changed sems.sets id f; undo = undo })
        same-changed o there f undo perm long apart =
            let new : Sems = record { sets = changed sems.sets id f; undo = undo } in
            let sets = hidden-changed blank_set (hides_closed client c) sems.sets id o there (sym (hidden-at (hides_closed client c) sems.sets id (Some o) there) ∙ hidden) f perm (blank-same (f o).contents o.contents long) in
            blur-same new sems sets (λ k isnt. apart k (λ here. true≢false (sym hidden ∙ ap (hid sems) (sym here) ∙ sym (hid-alike new.sets sems.sets sets k.set) ∙ isnt)))

        pub same-set : (who : Caller) (num : ℕ) (value : ℤ) → Grants d IsSame (set_value sems who id num value)
        same-set who num value = grants-check IsSame d (Passes (is_value value) ValueRange tt) (grants-found IsSame d (set_at sems id) BadId tt (λ o there.
            grants-check IsSame d (Needs (Permission o.perm to_alter)) (grants-check IsSame d (Passes (nat_lt num (length o.contents.semaphores)) BadSem tt)
            (let new = slice_set o.contents.semaphores num (set_to who.pid value) in
            grants-grant IsSame d Done _ (same-changed o there (renewed who.now new) (cleared sems.undo id (λ n. n == num)) refl (length-set o.contents.semaphores num (set_to who.pid value)) (cleared-apart sems.undo id (λ n. n == num)))))))

        pub same-set_all : (who : Caller) (values : List ℤ) → Grants d IsSame (set_all sems who id values)
        same-set_all who values = grants-check IsSame d (Passes (list_all is_value values) ValueRange tt) (grants-found IsSame d (set_at sems id) BadId tt (λ o there.
            grants-check IsSame d (Needs (Permission o.perm to_alter)) (grants-passes IsSame d (length values == length o.contents.semaphores) BadSize tt (λ many.
            grants-grant IsSame d Done _ (same-changed o there (renewed who.now (map (set_to who.pid) values)) (cleared sems.undo id (λ n. true)) refl
            (length-map values (set_to who.pid) ∙ eqb-true (length values) (length o.contents.semaphores) many) (cleared-apart sems.undo id (λ n. true)))))))

        pub same-operate : (who : Caller) (ops : List SemOper) (limits : Limits) → Grants d IsSame (operate limits sems who id ops)
        same-operate who ops limits =
            grants-check IsSame d (Passes (nat_lt 0 (length ops)) NoOperations tt) (grants-check IsSame d (Passes (nat_le (length ops) limits.sem_opm) TooManyOperations tt)
            (grants-found IsSame d (set_at sems id) BadId tt (λ o there.
            grants-check IsSame d (Needs (Permission o.perm (wanted_by ops))) (grants-check IsSame d (Passes (are_in o.contents.semaphores ops) SemOutOfSet tt)
            (grants-order IsSame d (trial_checks o.contents.semaphores (adj_of sems.undo who.process id) [] ops)
            (grants-grant IsSame d Done _ (same-changed o there (λ (y : Object SemSet). record y { contents = record { semaphores = committed ops who.pid o.contents.semaphores; op_time = who.now } })
            (lowered sems.undo who.process id ops) refl (left-long 0 ops who.pid o.contents.semaphores) (lowered-apart who.process id ops sems.undo))))))))

      -- IPC_SET and IPC_RMID of a set in sight
      module _ (o : Object SemSet) (there : finite.get sems.sets.objects id ≡ Some o) (seen : is_closed c o.perm ≡ false) where
        pub alike-set : (f : Object SemSet → Object SemSet) → IsAlike (record sems { sets = changed sems.sets id f }) (record blurred { sets = changed blurred.sets id f })
        alike-set f = alike-sems (changed sems.sets id f) (changed blurred.sets id f) sems.undo blurred.undo
            (alike-changed blank_set (hides_closed client c) sems.sets id set-twice (hides_closed client c) (λ q ne p is. is) o there seen f) (same-kept (hid sems) sems.undo)

        pub alike-removed : IsAlike (without_set sems id) (without_set blurred id)
        alike-removed = alike-sems (without_object sems.sets id) (without_object blurred.sets id) (cleared sems.undo id (λ n. true)) (cleared blurred.undo id (λ n. true))
            (alike-without blank_set (hides_closed client c) sems.sets id set-twice (hides_closed client c) (λ q ne p is. is) o there seen)
            (same-retained (hid sems) sems.undo blurred.undo _ (same-kept (hid sems) sems.undo))

    -- exit
    module _ (who : Caller) where
      exited-one : (q : ℕ) (o : Object SemSet) → finite.get sems.sets.objects q ≡ Some o → (b : Bool) → is_closed c o.perm ≡ b
          → masked blank_set (hides_closed client c) q (set_after_exit sems who q o) ≡ masked blank_set (hides_closed client c) q (set_after_exit blurred who q (masked blank_set (hides_closed client c) q o))
      exited-one q o there true is =
          masked-hidden blank_set (hides_closed client c) q (set_after_exit sems who q o) is
          ∙ blank-like blank_set (set_after_exit sems who q o) (set_after_exit blurred who q (blank blank_set o)) refl (blank-same (set_after_exit sems who q o).contents (set_after_exit blurred who q (blank blank_set o)).contents
          (undone-long (adj_of sems.undo who.process q) who.pid 0 o.contents.semaphores ∙ sym (undone-long (adj_of blurred.undo who.process q) who.pid 0 (blank_set o.contents).semaphores ∙ length-replicate (length o.contents.semaphores) zeroed)))
          ∙ sym (masked-hidden blank_set (hides_closed client c) q (set_after_exit blurred who q (blank blank_set o)) is)
          ∙ ap (λ x. masked blank_set (hides_closed client c) q (set_after_exit blurred who q x)) (sym (masked-hidden blank_set (hides_closed client c) q o is))
      exited-one q o there false isnt =
          ap (λ adj. masked blank_set (hides_closed client c) q (record o { contents = undone_set adj who.pid who.now o.contents })) (same-adj who.process q (hidden-at (hides_closed client c) sems.sets q (Some o) there ∙ isnt))
          ∙ ap (λ x. masked blank_set (hides_closed client c) q (set_after_exit blurred who q x)) (sym (masked-seen blank_set (hides_closed client c) q o isnt))

      exited-at : (q : ℕ) (o : Option (Object SemSet)) → finite.get sems.sets.objects q ≡ o
          → option_map (masked blank_set (hides_closed client c) q) (option_map (set_after_exit sems who q) o) ≡ option_map (masked blank_set (hides_closed client c) q) (option_map (set_after_exit blurred who q) (option_map (masked blank_set (hides_closed client c) q) o))
      exited-at q None there = refl
      exited-at q (Some o) there = ap (λ (x : Object SemSet). Some x) (exited-one q o there (is_closed c o.perm) refl)

      hidden-exited : (q : ℕ) (o : Option (Object SemSet)) → unwrap_or (option_map (λ (x : Object SemSet). is_closed c x.perm) (option_map (set_after_exit sems who q) o)) false ≡ unwrap_or (option_map (λ (x : Object SemSet). is_closed c x.perm) o) false
      hidden-exited q None = refl
      hidden-exited q (Some o) = refl

      pub own-exit : IsAlike (after_exit sems who) (after_exit blurred who)
      own-exit =
          let t = sems.sets in
          let new = map_entries (set_after_exit sems who) t in
          let later = map_entries (set_after_exit blurred who) blurred.sets in
          alike-sems new later (without_client sems.undo who.process) (without_client blurred.undo who.process) (
            same-tables (mask new) (mask later) refl refl refl (λ q.
                get-masked blank_set (hides_closed client c) new q ∙ ap (option_map (masked blank_set (hides_closed client c) q)) (get-entries (set_after_exit sems who) t q)
                ∙ exited-at q (finite.get t.objects q) refl
                ∙ sym (get-masked blank_set (hides_closed client c) later q ∙ ap (option_map (masked blank_set (hides_closed client c) q)) (get-entries (set_after_exit blurred who) blurred.sets q ∙ ap (option_map (set_after_exit blurred who q)) (get-masked blank_set (hides_closed client c) t q)))),
            λ q is. hidden-at (hides_closed client c) new q _ (get-entries (set_after_exit sems who) t q) ∙ hidden-exited q (finite.get t.objects q) ∙ is,
          )
          (same-retained (hid sems) sems.undo blurred.undo _ (same-kept (hid sems) sems.undo))
