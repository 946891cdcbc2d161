-- What an event adds to the replies of each client, to those that are kept and to those that it has been given.
use Rattle.std.proofs.Common.{◌≡◌, ℕ, zero, suc, ◌+◌, ◌-◌, ◌<◌, ◌≤◌, Bool, true, false, cond, List, [], ◌∷◌, ◌++◌, map, length, take, drop, refl, sym, ap, ◌∙◌, subst, arith, Option, Some, None, Ok, Err, All, length-append, append-nil, append_assoc, length-drop, ⊎_elim}
use Rattle.std.specs.Prelude.{◌==◌, ◌&&◌, filter, option_to_list, option_map, slice_get}
use Rattle.std.specs.List.{list_all}
use Rattle.std.proofs.Math.Seq.{take-length, drop-length}
use Rattle.std.proofs.lemmas.Bool.{cases_Bool, eqb-true, true≢false}
use Rattle.std.proofs.lemmas.List.{drop-append-le, map-append, take-append-le, take-append-drop}
use Rattle.std.proofs.lemmas.List.Elements.{All-tail}
use Rattle.std.proofs.lemmas.List.Folds.{list_all-append}
use Rattle.ipc_call.specs.declared.replies.Reply.{Reply}
use Rattle.ipc_call.specs.declared.replies.Reply.TheVariants.{Entered}
use Rattle.ipc_model.specs.Decision.{Outcome}
use Rattle.ipc_model.specs.State.{is_waiting}
use Rattle.ipc_model.specs.Step.{Event}
use Rattle.ipc_history.specs.History.{History, IsLegal, ReplyTo, next_step, own, replies, replies_to_ended, reply_to_own, run, with_event}
use Rattle.ipc_space.specs.Spaces.{other_replies, own_reply}
use Rattle.ipc_space.specs.Telling.{addressed, replies_in, replies_of}
use Rattle.ipc_space.proofs.Balance.{balanced, caller-apart, filter-append, own_push, replies_push, told_known}
use Rattle.ipc_desk.specs.Kept.{AreKept, is_of_waiting, kept_for, kept_in}
use Rattle.ipc_desk.proofs.Ends.{told_waited}

all-behind : {X : Type 0} (P : X → Type 0) (xs ys : List X) → All P (xs ++ ys) → All P ys
all-behind P [] ys are = are
all-behind P (x ∷ xs) ys are = all-behind P xs ys (All-tail P x (xs ++ ys) are)

-- the last ones of a list, and those before them
module _ {X : Type 0} (xs ks : List X) (last : drop (length xs - length ks) xs ≡ ks) where
  pub fewer : length ks ≤ length xs
  fewer = let same = ap length last in omega (arith, same, length-drop (length xs - length ks) xs)

  module _ (more : List X) where
    shift : length (xs ++ more) - length (ks ++ more) ≡ length xs - length ks
    shift = omega (arith, length-append xs more, length-append ks more, fewer)

    pub last-more : drop (length (xs ++ more) - length (ks ++ more)) (xs ++ more) ≡ ks ++ more
    last-more = ap (λ n. drop n (xs ++ more)) shift ∙ drop-append-le (length xs - length ks) xs more (omega arith) ∙ ap (λ l. l ++ more) last

    pub before-more : take (length (xs ++ more) - length (ks ++ more)) (xs ++ more) ≡ take (length xs - length ks) xs
    before-more = ap (λ n. take n (xs ++ more)) shift ∙ take-append-le (length xs - length ks) xs more (omega arith)

module _ (h : History) (e : Event) (place : ℕ) (is_place : place ≡ length h.events + 1) (legal : IsLegal (with_event h e)) where
  abbrev others : List (ℕ × Reply)
  others = other_replies place (next_step h e).ended

  -- what the caller is told at once
  abbrev pub own_told : ℕ → List Reply
  own_told r = cond (e.client == r) (option_to_list (own_reply place (next_step h e).own)) []

  one_told : (o : Option Outcome) (b : Bool) (r : ℕ) → (e.client == r) ≡ b → replies_in (map addressed (reply_to_own e.client place o)) r ≡ cond b (option_to_list (own_reply place o)) []
  one_told None true r is = refl
  one_told None false r is = refl
  one_told (Some o) b r is = ap (λ c. map (λ (x : ℕ × Reply). x.1) (cond c ((e.client, Entered place 0 o) ∷ []) [])) is ∙ by_test b
    where
      by_test : (c : Bool) → map (λ (x : ℕ × Reply). x.1) (cond c ((e.client, Entered place 0 o) ∷ []) []) ≡ cond c (Entered place 0 o ∷ []) []
      by_test true = refl
      by_test false = refl

  parted : (a b : List (ℕ × Reply)) (r : ℕ) → replies_in (a ++ b) r ≡ replies_in a r ++ replies_in b r
  parted a b r = ap (map (λ (x : ℕ × Reply). x.1)) (filter-append (λ (x : ℕ × Reply). x.0 == r) a b)
      ∙ map-append (λ (x : ℕ × Reply). x.1) (filter (λ (x : ℕ × Reply). x.0 == r) a) (filter (λ (x : ℕ × Reply). x.0 == r) b)

  abbrev own_part : List (ℕ × Reply)
  own_part = map addressed (reply_to_own e.client place (next_step h e).own)

  parts : replies_of h e ≡ own_part ++ others
  parts = subst (λ (p : ℕ). replies_of h e ≡ map addressed (reply_to_own e.client p (next_step h e).own) ++ other_replies p (next_step h e).ended) (sym is_place)
      (map-append addressed (reply_to_own e.client (length h.events + 1) (next_step h e).own) (replies_to_ended (length h.events + 1) 1 (next_step h e).ended))

  pub known-others : All (λ (t : ℕ × Reply). t.0 < length h.clients) others
  known-others = all-behind (λ (t : ℕ × Reply). t.0 < length h.clients) own_part others (subst (λ (l : List (ℕ × Reply)). All (λ (t : ℕ × Reply). t.0 < length h.clients) l) parts (told_known h e legal))

  pub replies-after : (r : ℕ) → replies (with_event h e) r ≡ (replies h r ++ own_told r) ++ replies_in others r
  replies-after r =
      replies_push h e r
      ∙ ap (λ l. replies h r ++ l) (ap (λ l. replies_in l r) parts ∙ parted own_part others r ∙ ap (λ l. l ++ replies_in others r) (one_told (next_step h e).own (e.client == r) r refl))
      ∙ sym (append_assoc (replies h r) (own_told r) (replies_in others r))

  -- whom the event finds with nothing kept or with a call that waits
  module _ (slots : List (Option Reply)) (kept : AreKept h slots) (none : kept_for slots e.client ≡ []) where
    few : (o : Option (Option Reply)) → length (kept_in o) ≤ 1
    few None = omega arith
    few (Some None) = omega arith
    few (Some (Some reply)) = omega arith

    -- of another client, as many replies as it has waited less
    waits-less : (r : ℕ) → (e.client == r) ≡ false → length (replies_in others r) + cond (is_waiting (run (with_event h e)) r) 1 0 ≡ cond (is_waiting (run h) r) 1 0
    waits-less r other =
        let before = balanced h r kept.legal in
        let after = balanced (with_event h e) r legal in
        let calls : length (own (with_event h e) r) ≡ length (own h r) =
        ap length (own_push h e r ∙ ap (λ b. own h r ++ cond b ((e.now, e.call) ∷ []) []) other ∙ append-nil (own h r)) in
        let told : length (replies (with_event h e) r) ≡ length (replies h r) + length (replies_in others r) =
        ap length (replies-after r ∙ ap (λ b. (replies h r ++ cond b (option_to_list (own_reply place (next_step h e).own)) []) ++ replies_in others r) other ∙ ap (λ l. l ++ replies_in others r) (append-nil (replies h r)))
        ∙ length-append (replies h r) (replies_in others r) in
        omega (arith, before, after, calls, told)

    none-own : (r : ℕ) → (e.client == r) ≡ true → kept_for slots r ≡ []
    none-own r own = subst (λ (k : ℕ). kept_for slots k ≡ []) (eqb-true e.client r own) none

    none-told : (r : ℕ) → (e.client == r) ≡ true → replies_in others r ≡ []
    none-told r own = subst (λ (k : ℕ). replies_in others k ≡ []) (eqb-true e.client r own) (caller-apart h e place legal)

    none_of : {X : Type 0} (l : List X) → length l ≡ 0 → l ≡ []
    none_of [] is = refl
    none_of (x ∷ l) is = absurd (omega (arith, is))

    pub few-kept : (r : ℕ) → length (kept_for slots r) + length (replies_in others r) ≤ 1
    few-kept r = ⊎_elim
        (λ (own : (e.client == r) ≡ true). omega (arith, ap length (none-own r own), ap length (none-told r own)))
        (λ (other : (e.client == r) ≡ false). ⊎_elim
        (λ (waits : is_waiting (run h) r ≡ true). let less = waits-less r other in let was = ap {B = ℕ} (λ b. cond b 1 0) waits in let empty = ap length (kept.apart r waits) in by_wait (is_waiting (run (with_event h e)) r) (length (replies_in others r)) (length (kept_for slots r)) (less ∙ was) empty)
        (λ (free : is_waiting (run h) r ≡ false). let less = waits-less r other in let was = ap {B = ℕ} (λ b. cond b 1 0) free in let one = few (slice_get slots r) in by_free (is_waiting (run (with_event h e)) r) (length (replies_in others r)) (length (kept_for slots r)) (less ∙ was) one)
        (cases_Bool (is_waiting (run h) r)))
        (cases_Bool (e.client == r))
      where
        by_wait : (b : Bool) (n k : ℕ) → n + cond b 1 0 ≡ 1 → k ≡ 0 → k + n ≤ 1
        by_wait true n k less empty = omega (arith, less, empty)
        by_wait false n k less empty = omega (arith, less, empty)

        by_free : (b : Bool) (n k : ℕ) → n + cond b 1 0 ≡ 0 → k ≤ 1 → k + n ≤ 1
        by_free true n k less one = omega (arith, less, one)
        by_free false n k less one = omega (arith, less, one)

    module _ (later : List (Option Reply)) (now : (r : ℕ) → kept_for later r ≡ kept_for slots r ++ replies_in others r) where
      now-own : (r : ℕ) → (e.client == r) ≡ true → kept_for later r ≡ []
      now-own r own = now r ∙ ap (λ l. l ++ replies_in others r) (none-own r own) ∙ none-told r own

      -- all of a list is before nothing
      all-before : {X : Type 0} (xs ks : List X) → ks ≡ [] → (take (length xs - length ks) xs ≡ xs) × (drop (length xs - length ks) xs ≡ ks)
      all-before xs ks is =
          let n : length xs - length ks ≡ length xs = omega (arith, ap length is) in
          (ap (λ n. take n xs) n ∙ take-length xs, ap (λ n. drop n xs) n ∙ drop-length xs ∙ sym is)

      own-after : (r : ℕ) → (e.client == r) ≡ true → replies (with_event h e) r ≡ replies h r ++ own_told r
      own-after r own = replies-after r ∙ ap (λ l. (replies h r ++ own_told r) ++ l) (none-told r own) ∙ append-nil (replies h r ++ own_told r)

      other-after : (r : ℕ) → (e.client == r) ≡ false → replies (with_event h e) r ≡ replies h r ++ replies_in others r
      other-after r other = replies-after r ∙ ap (λ b. (replies h r ++ cond b (option_to_list (own_reply place (next_step h e).own)) []) ++ replies_in others r) other ∙ ap (λ l. l ++ replies_in others r) (append-nil (replies h r))

      last : (r : ℕ) → drop (length (replies (with_event h e) r) - length (kept_for later r)) (replies (with_event h e) r) ≡ kept_for later r
      last r = ⊎_elim
          (λ (own : (e.client == r) ≡ true). (all-before (replies (with_event h e) r) (kept_for later r) (now-own r own)).1)
          (λ (other : (e.client == r) ≡ false).
          subst (λ (l : List Reply). drop (length l - length (kept_for later r)) l ≡ kept_for later r) (sym (other-after r other))
          (subst (λ (k : List Reply). drop (length (replies h r ++ replies_in others r) - length k) (replies h r ++ replies_in others r) ≡ k) (sym (now r)) (last-more (replies h r) (kept_for slots r) (kept.last r) (replies_in others r))))
          (cases_Bool (e.client == r))

      waits-none : (r : ℕ) → is_waiting (run (with_event h e)) r ≡ true → kept_for later r ≡ []
      waits-none r waits = ⊎_elim
          (λ (own : (e.client == r) ≡ true). now-own r own)
          (λ (other : (e.client == r) ≡ false).
          let less = waits-less r other in
          let after = ap {B = ℕ} (λ b. cond b 1 0) waits in
          let told : length (replies_in others r) ≡ 0 = by_was (is_waiting (run h) r) (length (replies_in others r)) (ap (λ n. length (replies_in others r) + n) (sym after) ∙ less) in
          let was : is_waiting (run h) r ≡ true = wait_before (is_waiting (run h) r) (length (replies_in others r)) (ap (λ n. length (replies_in others r) + n) (sym after) ∙ less) in
          now r ∙ ap (λ l. l ++ replies_in others r) (kept.apart r was) ∙ none_of (replies_in others r) told)
          (cases_Bool (e.client == r))
        where
          by_was : (b : Bool) (n : ℕ) → n + 1 ≡ cond b 1 0 → n ≡ 0
          by_was true n is = omega (arith, is)
          by_was false n is = absurd (omega (arith, is))

          wait_before : (b : Bool) (n : ℕ) → n + 1 ≡ cond b 1 0 → b ≡ true
          wait_before true n is = refl
          wait_before false n is = absurd (omega (arith, is))

      pub AreKept-after : length later ≡ length slots → AreKept (with_event h e) later
      AreKept-after count = record {
        legal = legal;
        count = count ∙ kept.count;
        last = last;
        apart = waits-none;
        waited = λ r. ap (list_all is_of_waiting) (now r) ∙ list_all-append is_of_waiting (kept_for slots r) (replies_in others r) ∙ ap (λ b. b && list_all is_of_waiting (replies_in others r)) (kept.waited r) ∙ told_waited h e place r;
      }

      -- the caller has been given one reply more, and the others as many as before
      pub given-after : (r : ℕ) → take (length (replies (with_event h e) r) - length (kept_for later r)) (replies (with_event h e) r) ≡ take (length (replies h r) - length (kept_for slots r)) (replies h r) ++ own_told r
      given-after r = ⊎_elim
          (λ (own : (e.client == r) ≡ true).
          (all-before (replies (with_event h e) r) (kept_for later r) (now-own r own)).0 ∙ own-after r own ∙ ap (λ l. l ++ own_told r) (sym (all-before (replies h r) (kept_for slots r) (none-own r own)).0))
          (λ (other : (e.client == r) ≡ false).
          let same : take (length (replies (with_event h e) r) - length (kept_for later r)) (replies (with_event h e) r) ≡ take (length (replies h r) - length (kept_for slots r)) (replies h r) =
          ap (λ l. take (length l - length (kept_for later r)) l) (other-after r other)
          ∙ ap (λ k. take (length (replies h r ++ replies_in others r) - length k) (replies h r ++ replies_in others r)) (now r)
          ∙ before-more (replies h r) (kept_for slots r) (kept.last r) (replies_in others r) in
          same ∙ sym (append-nil (take (length (replies h r) - length (kept_for slots r)) (replies h r))) ∙ ap (λ b. take (length (replies h r) - length (kept_for slots r)) (replies h r) ++ cond b (option_to_list (own_reply place (next_step h e).own)) []) (sym other))
          (cases_Bool (e.client == r))
