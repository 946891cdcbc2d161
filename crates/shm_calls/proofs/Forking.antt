-- Fork: what a process has attached is put under the child first, and then each segment is noted.
use Rattle.std.proofs.Common.{◌≡◌, ◌∙◌, ℕ, zero, suc, ◌+◌, ◌<◌, ◌≤◌, ◌-◌, ap, arith, refl, subst, sym, Option, Some, None}
use Rattle.std.specs.Prelude.{◌==◌, ◌&&◌, Bool, true, false, nat_lt, IfNone, IfSome, if◌then◌else◌}
use Rattle.std.specs.FinMap as finite
use Rattle.client_map.proofs.Orders.{key_same, key_total}
use Rattle.ipc_ids.specs.Table.{Table}
use Rattle.ipc_objects.specs.declared.object.Object.{Object}
use Rattle.shm_seg.specs.declared.attachments.Attachment.{Attachment}
use Rattle.shm_seg.specs.Attachments.{Attached, IsPut, attachment_at, first_number}
use Rattle.shm_seg.specs.Inside.{reached}
use Rattle.shm_seg.proofs.Changes.{first_is_least}
use Rattle.shm_seg.proofs.Copies.{none-if, put-none, put-past, walk-copied}
use Rattle.ipc_model.specs.State.{Caller, Segment, Shared}
use Rattle.ipc_model.specs.Segments.{after_fork, copied, copied_from, with_copy}
use Rattle.shm_calls.specs.Calls.{noted_at, noted_from}

abbrev Segments : Type 0
Segments = Table (Object Segment)

module _ (who : Caller) (its : ℕ → Option Attachment) where
  -- one number more is noted
  pub noted-more : (left start : ℕ) (t : Segments) → noted_from (suc left) start who its t ≡ noted_at (noted_from left start who its t) who (its (start + left))
  unfolding noted_from
  noted-more zero start t = ap (λ n. noted_at t who (its n)) (let e : start ≡ start + 0 = omega arith in e)
  noted-more (suc left) start t =
      noted-more left (start + 1) (noted_at t who (its start))
      ∙ ap (λ n. noted_at (noted_from left (start + 1) who its (noted_at t who (its start))) who (its n)) (let e : (start + 1) + left ≡ start + suc left = omega arith in e)

  pub noted-next : (n : ℕ) (t : Segments) → noted_from (suc n) 0 who its t ≡ noted_at (noted_from n 0 who its t) who (its n)
  noted-next n t = noted-more n 0 t ∙ ap (λ k. noted_at (noted_from n 0 who its t) who (its k)) (let e : 0 + n ≡ n = omega arith in e)

  -- numbers that have nothing change nothing
  noted-skips : (more n : ℕ) (t : Segments) → ((k : ℕ) → n ≤ k → k < n + more → its k ≡ None) → noted_from (n + more) 0 who its t ≡ noted_from n 0 who its t
  noted-skips zero n t none = ap (λ k. noted_from k 0 who its t) (let e : n + 0 ≡ n = omega arith in e)
  noted-skips (suc more) n t none =
      ap (λ k. noted_from k 0 who its t) (let e : n + suc more ≡ suc (n + more) = omega arith in e)
      ∙ noted-next (n + more) t
      ∙ ap (λ o. noted_at (noted_from (n + more) 0 who its t) who o) (none (n + more) (omega arith) (omega arith))
      ∙ noted-skips more n t (λ k low high. none k low (omega (arith, high)))

  pub noted-to : (n j : ℕ) (t : Segments) → n ≤ j → ((k : ℕ) → n ≤ k → k < j → its k ≡ None) → noted_from j 0 who its t ≡ noted_from n 0 who its t
  noted-to n j t up none = by (j - n) (omega (arith, up))
    where
      by : (more : ℕ) → n + more ≡ j → noted_from j 0 who its t ≡ noted_from n 0 who its t
      by more is = ap (λ k. noted_from k 0 who its t) (sym is) ∙ noted-skips more n t (λ k low high. none k low (omega (arith, high, is)))

-- a walk over the numbers of the process, each of which is noted
module _ (who : Caller) (s : Shared) where
  abbrev pub own : ℕ → Option Attachment
  own n = attachment_at s.attached who.process n

  abbrev pub Noted : Option ℕ → Shared → Type 0
  Noted o now = now ≡ record s { segments = noted_from (reached o) 0 who own s.segments }

  pub walk-start : (o : Option ℕ) → o ≡ first_number s.attached who.process → IfNone o ((n : ℕ) → own n ≡ None) → Noted o s
  unfolding noted_from
  walk-start None first none = ap (λ (t : Segments). record s { segments = t }) (sym (noted-to who own 0 4096 s.segments (omega arith) (λ k low high. none k)))
  walk-start (Some k) first none =
      let least = first_is_least s.attached who.process k (sym first) in
      ap (λ (t : Segments). record s { segments = t }) (sym (noted-to who own 0 k s.segments (omega arith) (λ n low high. none-if (own n) (least.none_before n low high))))

  pub start-few : (o : Option ℕ) → o ≡ first_number s.attached who.process → IfSome o (λ n. n < 4096)
  start-few None first = tt
  start-few (Some k) first = (first_is_least s.attached who.process k (sym first)).high

  module _ (number : ℕ) (now new : Shared) (at : Noted (Some number) now) (is : new ≡ record now { segments = noted_at now.segments who (attachment_at now.attached who.process number) }) where
    one-noted : new ≡ record s { segments = noted_from (suc number) 0 who own s.segments }
    one-noted =
        is ∙ ap (λ (x : Shared). record x { segments = noted_at x.segments who (attachment_at x.attached who.process number) }) at
        ∙ ap (λ (t : Segments). record s { segments = t }) (sym (noted-next who own number s.segments))

    kept : (k : ℕ) → attachment_at new.attached who.process k ≡ own k
    kept k = ap (λ (x : Shared). attachment_at x.attached who.process k) one-noted

    pub walk-noted : number < 4096 → (o : Option ℕ) → IfNone o ((k : ℕ) → number < k → attachment_at new.attached who.process k ≡ None) → IfSome o (λ next. number < next)
        → IfSome o (λ next. (k : ℕ) → number < k → k < next → attachment_at new.attached who.process k ≡ None) → Noted o new
    walk-noted few None none above least =
        one-noted ∙ ap (λ (t : Segments). record s { segments = t }) (sym (noted-to who own (suc number) 4096 s.segments (omega (arith, few)) (λ k low high. sym (kept k) ∙ none k (omega (arith, low)))))
    walk-noted few (Some next) none above least =
        one-noted ∙ ap (λ (t : Segments). record s { segments = t }) (sym (noted-to who own (suc number) next s.segments (omega (arith, above)) (λ k low high. sym (kept k) ∙ least k (omega (arith, low)) high)))

-- the process has what it had
pub its-same : (from to : ℕ) (old new : Attached) → IsPut to 4096 (λ n. attachment_at old from n) old new → (n : ℕ) → attachment_at new from n ≡ attachment_at old from n
its-same from to old new put n = put from n ∙ by (from == to && nat_lt n 4096)
  where
    by : (b : Bool) → (if b then attachment_at old from n else attachment_at old from n) ≡ attachment_at old from n
    by true = refl
    by false = refl

module _ (who : Caller) (child : ℕ) (old : Attached) (none : (n : ℕ) → attachment_at old child n ≡ None) where
  abbrev its : ℕ → Option Attachment
  its n = attachment_at old who.process n

  -- so many numbers: the segments are noted, and the child has the attachments
  abbrev Copies : ℕ → ℕ → Shared → Type 0
  Copies left number s = ((copied_from left number who child s).segments ≡ noted_from left number who its s.segments)
      × IsPut child (number + left) its old (copied_from left number who child s).attached

  step-segments : (s : Shared) (number : ℕ) (o : Option Attachment) → (with_copy s who child number o None).segments ≡ noted_at s.segments who o
  step-segments s number None = refl
  step-segments s number (Some a) = refl

  step-attached : (s : Shared) (number : ℕ) → IsPut child number its old s.attached → (o : Option Attachment) → attachment_at s.attached who.process number ≡ o → IsPut child (number + 1) its old (with_copy s who child number o None).attached
  step-attached s number put None is = walk-copied child who.process old none number s.attached s.attached put None is tt refl
  step-attached s number put (Some a) is = walk-copied child who.process old none number s.attached (with_copy s who child number (Some a) None).attached put (Some a) is refl tt

  pub copies : (left number : ℕ) (s : Shared) → IsPut child number its old s.attached → Copies left number s
  unfolding copied_from noted_from
  copies zero number s put = (refl, subst (λ n. IsPut child n its old s.attached) (let e : number ≡ number + 0 = omega arith in e) put)
  copies (suc left) number s put =
      let free : attachment_at s.attached child number ≡ None = put-past child its old number s.attached put child number (omega arith) ∙ none number in
      let mine : attachment_at s.attached who.process number ≡ its number = put-past child its old number s.attached put who.process number (omega arith) in
      let x = copied s who child number in
      let x_is : x ≡ with_copy s who child number (its number) None = (λ i. with_copy s who child number (mine i) (free i)) in
      let put_x : IsPut child (number + 1) its old x.attached = subst (λ (y : Shared). IsPut child (number + 1) its old y.attached) (sym x_is) (step-attached s number put (its number) mine) in
      let rest = copies left (number + 1) x put_x in (
        rest.0 ∙ ap (λ t. noted_from left (number + 1) who its t) (ap (λ (y : Shared). y.segments) x_is ∙ step-segments s number (its number)),
        subst (λ n. IsPut child n its old (copied_from left (number + 1) who child x).attached) (let e : (number + 1) + left ≡ number + suc left = omega arith in e) rest.1,
      )

  same-put : (x y : Attached) → IsPut child 4096 its old x → IsPut child 4096 its old y → x ≡ y
  same-put x y one other = finite.same_map key_total key_same x y (λ q. one q.client q.number ∙ sym (other q.client q.number))

-- fork
pub forked : (s : Shared) (who : Caller) (child : ℕ) (attached : Attached) → ((n : ℕ) → attachment_at s.attached child n ≡ None) → IsPut child 4096 (λ n. attachment_at s.attached who.process n) s.attached attached
    → record { segments = noted_from 4096 0 who (λ n. attachment_at attached who.process n) s.segments; attached = attached } ≡ after_fork s who child
forked s who child attached none put =
    let all = copies who child s.attached none 4096 0 s (put-none child (λ n. attachment_at s.attached who.process n) s.attached) in
    let same : (λ n. attachment_at attached who.process n) ≡ (λ n. attachment_at s.attached who.process n) = λ i n. its-same who.process child s.attached attached put n i in
    λ i. record {
      segments = (ap (λ f. noted_from 4096 0 who f s.segments) same ∙ sym all.0) i;
      attached = same-put who child s.attached none attached (after_fork s who child).attached put all.1 i;
    }
