-- What a process has attached, copied for another one, and taken back.
use Rattle.std.proofs.Common.{◌≡◌, ◌∙◌, ℕ, ◌+◌, ◌<◌, ◌≤◌, ap, arith, refl, subst, sym, Bool, true, false, ⊎_elim}
use Rattle.std.specs.Prelude.{◌==◌, ◌&&◌, nat_lt, Option, Some, None, IfNone, IfSome, is_some, if◌then◌else◌}
use Rattle.std.specs.FinMap as finite
use Rattle.std.proofs.lemmas.Bool.{cases_eq, cases_lt, true≢false}
use Rattle.std.proofs.lemmas.Bool.Decides.{nat_tests}
use Rattle.client_map.specs.declared.map.Key.{Key}
use Rattle.client_map.specs.Keys.{key}
use Rattle.client_map.proofs.Orders.{get_put, get_put_apart, key_same, key_total}
use Rattle.shm_seg.specs.Attachments.{Attached, Attachment, IsPut, attachment_at, first_number, with_attachment}
use Rattle.shm_seg.specs.Inside.{reached}
use Rattle.shm_seg.proofs.Changes.{first_is_least}

module _ (m : Attached) (client number : ℕ) (a : Attachment) where
  pub with-here : attachment_at (with_attachment m client number a) client number ≡ Some a
  with-here = get_put key_total key_same m (key client number) a

  pub with-apart : (c n : ℕ) → (c ≡ client → n ≡ number → ⊥) → attachment_at (with_attachment m client number a) c n ≡ attachment_at m c n
  with-apart c n apart = get_put_apart key_total key_same m (key client number) a (key c n) (λ e. apart (ap (λ (k : Key). k.client) e) (ap (λ (k : Key). k.number) e))

module _ (to : ℕ) (f : ℕ → Option Attachment) (old : Attached) where
  abbrev chosen : Bool → ℕ → ℕ → Option Attachment
  chosen b c n = if b then f n else attachment_at old c n

  pub put-none : IsPut to 0 f old old
  put-none c n = let t : (c == to && nat_lt n 0) ≡ false = grind (arith, nat_tests) in sym (ap (λ b. chosen b c n) t)

  -- from the bound on, and of others, all is as it was
  pub put-past : (k : ℕ) (now : Attached) → IsPut to k f old now → (c n : ℕ) → k ≤ n → attachment_at now c n ≡ attachment_at old c n
  put-past k now is c n past = let t : (c == to && nat_lt n k) ≡ false = grind (arith, nat_tests, past) in is c n ∙ ap (λ b. chosen b c n) t

  pub put-others : (k : ℕ) (now : Attached) → IsPut to k f old now → (c n : ℕ) → (c ≡ to → ⊥) → attachment_at now c n ≡ attachment_at old c n
  put-others k now is c n other = let t : (c == to && nat_lt n k) ≡ false = grind (arith, nat_tests, other) in is c n ∙ ap (λ b. chosen b c n) t

  -- nothing is put under numbers that have nothing to put, and had nothing
  pub put-skip : (k j : ℕ) (now : Attached) → IsPut to k f old now → k ≤ j → ((n : ℕ) → k ≤ n → n < j → (f n ≡ None) × (attachment_at old to n ≡ None)) → IsPut to j f old now
  put-skip k j now is up nothing c n = ⊎_elim
      (λ (e : c ≡ to). ⊎_elim
      (λ (low : n < k).
      let t : (c == to && nat_lt n k) ≡ true = grind (arith, nat_tests, e, low) in
      let u : (c == to && nat_lt n j) ≡ true = grind (arith, nat_tests, e, low, up) in
      is c n ∙ ap (λ b. chosen b c n) (t ∙ sym u))
      (λ (past : k ≤ n). ⊎_elim
      (λ (low : n < j).
      let t : (c == to && nat_lt n k) ≡ false = grind (arith, nat_tests, past) in
      let u : (c == to && nat_lt n j) ≡ true = grind (arith, nat_tests, e, low) in
      is c n ∙ ap (λ b. chosen b c n) t ∙ ap (λ x. attachment_at old x n) e ∙ (nothing n past low).1 ∙ sym (nothing n past low).0 ∙ sym (ap (λ b. chosen b c n) u))
      (λ (far : j ≤ n).
      let t : (c == to && nat_lt n k) ≡ false = grind (arith, nat_tests, past) in
      let u : (c == to && nat_lt n j) ≡ false = grind (arith, nat_tests, far) in
      is c n ∙ ap (λ b. chosen b c n) (t ∙ sym u))
      (cases_lt n j))
      (cases_lt n k))
      (λ (other : c ≡ to → ⊥).
      let t : (c == to && nat_lt n k) ≡ false = grind (arith, nat_tests, other) in
      let u : (c == to && nat_lt n j) ≡ false = grind (arith, nat_tests, other) in
      is c n ∙ ap (λ b. chosen b c n) (t ∙ sym u))
      (cases_eq c to)

  pub put-more : (k : ℕ) (now later : Attached) → IsPut to k f old now → attachment_at later to k ≡ f k → ((c n : ℕ) → (c ≡ to → n ≡ k → ⊥) → attachment_at later c n ≡ attachment_at now c n) → IsPut to (k + 1) f old later
  put-more k now later is here apart c n = ⊎_elim
      (λ (e : c ≡ to). ⊎_elim
      (λ (g : n ≡ k).
      let t : (c == to && nat_lt n (k + 1)) ≡ true = grind (arith, nat_tests, e, g) in
      (λ i. attachment_at later (e i) (g i)) ∙ here ∙ ap f (sym g) ∙ sym (ap (λ b. chosen b c n) t))
      (λ (ne : n ≡ k → ⊥).
      let t : (c == to && nat_lt n k) ≡ (c == to && nat_lt n (k + 1)) = grind (arith, nat_tests, ne) in
      apart c n (λ _ g. ne g) ∙ is c n ∙ ap (λ b. chosen b c n) t)
      (cases_eq n k))
      (λ (other : c ≡ to → ⊥).
      let t : (c == to && nat_lt n k) ≡ (c == to && nat_lt n (k + 1)) = grind (arith, nat_tests, other) in
      apart c n (λ e _. other e) ∙ is c n ∙ ap (λ b. chosen b c n) t)
      (cases_eq c to)

-- what was put where nothing was, and is taken out, leaves all as it was
pub put-back : (to k : ℕ) (f : ℕ → Option Attachment) (old now later : Attached) → k ≤ 4096 → ((n : ℕ) → attachment_at old to n ≡ None) → IsPut to k f old now → IsPut to 4096 (λ n. None) now later → later ≡ old
put-back to k f old now later within none is gone = finite.same_map key_total key_same later old (λ q. by q.client q.number)
  where
    by : (c n : ℕ) → attachment_at later c n ≡ attachment_at old c n
    by c n = ⊎_elim
        (λ (e : c ≡ to). ⊎_elim
        (λ (l : n < 4096).
        let t : (c == to && nat_lt n 4096) ≡ true = grind (arith, nat_tests, e, l) in
        gone c n ∙ ap (λ (b : Bool). if b then None else attachment_at now c n) t ∙ sym (ap (λ x. attachment_at old x n) e ∙ none n))
        (λ (far : 4096 ≤ n).
        let t : (c == to && nat_lt n 4096) ≡ false = grind (arith, nat_tests, far) in
        let u : (c == to && nat_lt n k) ≡ false = grind (arith, nat_tests, far, within) in
        gone c n ∙ ap (λ (b : Bool). if b then None else attachment_at now c n) t ∙ is c n ∙ ap (λ (b : Bool). if b then f n else attachment_at old c n) u)
        (cases_lt n 4096))
        (λ (other : c ≡ to → ⊥).
        let t : (c == to && nat_lt n 4096) ≡ false = grind (arith, nat_tests, other) in
        let u : (c == to && nat_lt n k) ≡ false = grind (arith, nat_tests, other) in
        gone c n ∙ ap (λ (b : Bool). if b then None else attachment_at now c n) t ∙ is c n ∙ ap (λ (b : Bool). if b then f n else attachment_at old c n) u)
        (cases_eq c to)

pub none-if : (o : Option Attachment) → is_some o ≡ false → o ≡ None
none-if None is = refl
none-if (Some a) is = absurd (true≢false is)

-- a walk over the numbers of a process, each of which is put under another one that has nothing
module _ (to from : ℕ) (old : Attached) (none : (n : ℕ) → attachment_at old to n ≡ None) where
  abbrev its : ℕ → Option Attachment
  its n = attachment_at old from n

  pub walk-first : (o : Option ℕ) → o ≡ first_number old from → IfNone o ((n : ℕ) → attachment_at old from n ≡ None) → IsPut to (reached o) its old old
  walk-first None first nothing = put-skip to its old 0 4096 old (put-none to its old) (omega arith) (λ n l h. (nothing n, none n))
  walk-first (Some k) first nothing =
      let least = first_is_least old from k (sym first) in
      put-skip to its old 0 k old (put-none to its old) (omega arith) (λ n l h. (none-if (attachment_at old from n) (least.none_before n l h), none n))

  pub first-few : (o : Option ℕ) → o ≡ first_number old from → IfSome o (λ n. n < 4096)
  first-few None first = tt
  first-few (Some k) first = (first_is_least old from k (sym first)).high

  pub few-reached : (o : Option ℕ) → IfSome o (λ n. n < 4096) → reached o ≤ 4096
  few-reached None few = omega arith
  few-reached (Some k) few = omega (arith, few)

  module _ (number : ℕ) (now later : Attached) (put : IsPut to number its old now) where
    pub walk-copied : (o : Option Attachment) → attachment_at now from number ≡ o → IfSome o (λ a. later ≡ with_attachment now to number a) → IfNone o (later ≡ now) → IsPut to (number + 1) its old later
    walk-copied None is some same =
        let still : its number ≡ None = sym (put-past to its old number now put from number (omega arith)) ∙ is in
        subst (λ m. IsPut to (number + 1) its old m) (sym same)
        (put-skip to its old number (number + 1) now put (omega arith) (λ n l h. let e : n ≡ number = omega (arith, l, h) in (ap its e ∙ still, none n)))
    walk-copied (Some a) is some same =
        let still : its number ≡ Some a = sym (put-past to its old number now put from number (omega arith)) ∙ is in
        put-more to its old number now later put
        (ap (λ m. attachment_at m to number) some ∙ with-here now to number a ∙ sym still)
        (λ c n apart. ap (λ m. attachment_at m c n) some ∙ with-apart now to number a c n apart)

  pub walk-next : (number : ℕ) (later : Attached) → IsPut to (number + 1) its old later → number < 4096 → (o : Option ℕ) → IfNone o ((n : ℕ) → number < n → attachment_at later from n ≡ None)
      → IfSome o (λ next. number < next) → IfSome o (λ next. (n : ℕ) → number < n → n < next → attachment_at later from n ≡ None) → IsPut to (reached o) its old later
  walk-next number later put few None nothing above least =
      put-skip to its old (number + 1) 4096 later put (omega (arith, few)) (λ n l h. (sym (put-past to its old (number + 1) later put from n l) ∙ nothing n (omega (arith, l)), none n))
  walk-next number later put few (Some next) nothing above least =
      put-skip to its old (number + 1) next later put (omega (arith, above)) (λ n l h. (sym (put-past to its old (number + 1) later put from n l) ∙ least n (omega (arith, l)) h, none n))
