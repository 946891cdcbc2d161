-- The index of the threads by pid: what it tells, and how it follows when a thread begins or ends.
use Rattle.std.proofs.Common.{◌≡◌, ◌≢◌, ℕ, zero, suc, ◌+◌, ◌<◌, ◌≤◌, Bool, true, false, cond, eqb, set, List, [], ◌∷◌, ◌++◌, length, refl, sym, ap, ◌∙◌, ⊎_elim, arith}
use Rattle.std.specs.Prelude.{◌||◌, ◌&&◌, not, filter}
use Rattle.std.proofs.lemmas.Bool.{and_parts, cases_eq, cases_lt, eq-eqb, eqb-true, ne_eqb, true≢false}
use Rattle.std.proofs.lemmas.List.{get_or_append_left, get_or_past, get_or_push, get_or-set_other, get_or-set_same, length-set, length_push}
use Rattle.ipc_model.specs.State.{Thread, has_pid, no_thread}
use Rattle.ipc_model.specs.Tidy.{IsLive, thread_in}
use Rattle.process_table.specs.Index.{AreKept, IsIndexed, count, is_live}
use Rattle.process_table.specs.Rows.{RowsState, holds, row_of}

pub and-false : (b : Bool) → b && false ≡ false
and-false true = refl
and-false false = refl

pub and-true : (b : Bool) → b && true ≡ b
and-true true = refl
and-true false = refl

-- a client that lives is there
pub known-live : (ts : List Thread) (c : ℕ) → IsLive ts c → c < length ts
known-live [] c live = absurd (true≢false live)
known-live (t ∷ ts) zero live = omega arith
known-live (t ∷ ts) (suc c) live = let later = known-live ts c live in omega (arith, later)

-- a thread that has ended is of no pid
pub of-no-pid : (t : Thread) (pid : ℕ) → t.has_ended ≡ true → has_pid pid t ≡ false
of-no-pid t pid ended = (λ i. eqb t.pid pid && not (ended i)) ∙ and-false (eqb t.pid pid)

-- and one that is of a pid hasn't ended
turned : (b : Bool) → not b ≡ true → b ≡ false
turned true is = absurd (true≢false (sym is))
turned false is = refl

pub of-pid : (t : Thread) (pid : ℕ) → has_pid pid t ≡ true → (t.pid ≡ pid) × (t.has_ended ≡ false)
of-pid t pid is = let parts = and_parts (eqb t.pid pid) (not t.has_ended) is in (eqb-true t.pid pid parts.0, turned t.has_ended parts.1)

pub past-no-pid : (ts : List Thread) (c pid : ℕ) → length ts ≤ c → has_pid pid (thread_in ts c) ≡ false
past-no-pid ts c pid past = ap (has_pid pid) (get_or_past ts c no_thread past) ∙ of-no-pid no_thread pid refl

-- how many pass a test, where one is replaced
module _ (test : Thread → Bool) where
  pub counted-all : (ts : List Thread) → count test ts ≤ length ts
  counted-all [] = omega arith
  counted-all (t ∷ ts) = by (test t) (counted-all ts)
    where
      by : (b : Bool) → count test ts ≤ length ts → length (cond b (t ∷ filter test ts) (filter test ts)) ≤ length (t ∷ ts)
      by true le = omega (arith, le)
      by false le = omega (arith, le)

  pub counted-fewer : (ts : List Thread) (c : ℕ) → c < length ts → test (thread_in ts c) ≡ false → count test ts < length ts
  counted-fewer [] c known isnt = absurd (omega (arith, known))
  counted-fewer (t ∷ ts) zero known isnt =
      let le = counted-all ts in
      let e : count test (t ∷ ts) ≡ count test ts = ap (λ b. length (cond b (t ∷ filter test ts) (filter test ts))) isnt in
      omega (arith, le, e)
  counted-fewer (t ∷ ts) (suc c) known isnt = by (test t) (counted-fewer ts c (omega (arith, known)) isnt)
    where
      by : (b : Bool) → count test ts < length ts → length (cond b (t ∷ filter test ts) (filter test ts)) < length (t ∷ ts)
      by true lt = omega (arith, lt)
      by false lt = omega (arith, lt)

  pub counted-more : (ts : List Thread) (c : ℕ) (new : Thread) → c < length ts → test (thread_in ts c) ≡ false → test new ≡ true
      → count test (set ts c new) ≡ count test ts + 1
  counted-more [] c new known isnt is = absurd (omega (arith, known))
  counted-more (t ∷ ts) zero new known isnt is =
      let e : count test (t ∷ ts) ≡ count test ts = ap (λ b. length (cond b (t ∷ filter test ts) (filter test ts))) isnt in
      let f : count test (new ∷ ts) ≡ suc (count test ts) = ap (λ b. length (cond b (new ∷ filter test ts) (filter test ts))) is in
      omega (arith, e, f)
  counted-more (t ∷ ts) (suc c) new known isnt is = by (test t) (counted-more ts c new (omega (arith, known)) isnt is)
    where
      by : (b : Bool) → count test (set ts c new) ≡ count test ts + 1
          → length (cond b (t ∷ filter test (set ts c new)) (filter test (set ts c new))) ≡ length (cond b (t ∷ filter test ts) (filter test ts)) + 1
      by true e = omega (arith, e)
      by false e = e

  pub counted-less : (ts : List Thread) (c : ℕ) (new : Thread) → c < length ts → test (thread_in ts c) ≡ true → test new ≡ false
      → count test (set ts c new) + 1 ≡ count test ts
  counted-less [] c new known is isnt = absurd (omega (arith, known))
  counted-less (t ∷ ts) zero new known is isnt =
      let e : count test (t ∷ ts) ≡ suc (count test ts) = ap (λ b. length (cond b (t ∷ filter test ts) (filter test ts))) is in
      let f : count test (new ∷ ts) ≡ count test ts = ap (λ b. length (cond b (new ∷ filter test ts) (filter test ts))) isnt in
      omega (arith, e, f)
  counted-less (t ∷ ts) (suc c) new known is isnt = by (test t) (counted-less ts c new (omega (arith, known)) is isnt)
    where
      by : (b : Bool) → count test (set ts c new) + 1 ≡ count test ts
          → length (cond b (t ∷ filter test (set ts c new)) (filter test (set ts c new))) + 1 ≡ length (cond b (t ∷ filter test ts) (filter test ts))
      by true e = omega (arith, e)
      by false e = e

  pub counted-pushed : (ts : List Thread) (new : Thread) → test new ≡ true → count test (ts ++ new ∷ []) ≡ count test ts + 1
  counted-pushed [] new is = ap (λ b. length (cond b (new ∷ []) [])) is
  counted-pushed (t ∷ ts) new is = by (test t) (counted-pushed ts new is)
    where
      by : (b : Bool) → count test (ts ++ new ∷ []) ≡ count test ts + 1
          → length (cond b (t ∷ filter test (ts ++ new ∷ [])) (filter test (ts ++ new ∷ []))) ≡ length (cond b (t ∷ filter test ts) (filter test ts)) + 1
      by true e = omega (arith, e)
      by false e = e

-- a row more: the client's, whose thread begins
module _ (ts us : List Thread) (rows more : List ℕ) (client : ℕ) (t : Thread) (low : client < 4294967296) (here : thread_in us client ≡ t)
    (elsewhere : (c : ℕ) → c ≢ client → thread_in us c ≡ thread_in ts c) (ended : (thread_in ts client).has_ended ≡ true) (live : t.has_ended ≡ false)
    (held : (other : ℕ) → holds other more ≡ eqb (row_of t.pid client) other || holds other rows) (kept : AreKept ts rows) where
  begun-here : (pid : ℕ) → holds (row_of pid client) more ≡ has_pid pid t
  begun-here pid = ⊎_elim
      (λ (same : t.pid ≡ pid).
      held (row_of pid client)
      ∙ (λ i. eq-eqb (row_of t.pid client) (row_of pid client) (ap (λ n. row_of n client) same) i || holds (row_of pid client) rows)
      ∙ sym (λ i. eq-eqb t.pid pid same i && not (live i)))
      (λ (apart : t.pid ≡ pid → ⊥).
      held (row_of pid client)
      ∙ (λ i. ne_eqb (row_of t.pid client) (row_of pid client) (λ e. apart (omega (arith, e))) i || holds (row_of pid client) rows)
      ∙ kept pid client low
      ∙ of-no-pid (thread_in ts client) pid ended
      ∙ sym (λ i. ne_eqb t.pid pid apart i && not t.has_ended))
      (cases_eq t.pid pid)

  pub kept-begun : AreKept us more
  kept-begun pid c within = ⊎_elim
      (λ (same : c ≡ client).
      ap (λ n. holds (row_of pid n) more) same ∙ begun-here pid ∙ sym (ap (has_pid pid) here) ∙ sym (ap (λ n. has_pid pid (thread_in us n)) same))
      (λ (apart : c ≡ client → ⊥).
      held (row_of pid c)
      ∙ (λ i. ne_eqb (row_of t.pid client) (row_of pid c) (λ e. apart (omega (arith, e, low, within))) i || holds (row_of pid c) rows)
      ∙ kept pid c within
      ∙ sym (ap (has_pid pid) (elsewhere c apart)))
      (cases_eq c client)

-- a row less: the client's, whose thread ends
module _ (ts us : List Thread) (rows less : List ℕ) (client : ℕ) (low : client < 4294967296) (here : (thread_in us client).has_ended ≡ true)
    (elsewhere : (c : ℕ) → c ≢ client → thread_in us c ≡ thread_in ts c)
    (held : (other : ℕ) → holds other less ≡ holds other rows && not (eqb (row_of (thread_in ts client).pid client) other)) (kept : AreKept ts rows) where
  gone-here : (pid : ℕ) → holds (row_of pid client) less ≡ false
  gone-here pid = ⊎_elim
      (λ (same : (thread_in ts client).pid ≡ pid).
      held (row_of pid client)
      ∙ (λ i. holds (row_of pid client) rows && not (eq-eqb (row_of (thread_in ts client).pid client) (row_of pid client) (ap (λ n. row_of n client) same) i))
      ∙ and-false (holds (row_of pid client) rows))
      (λ (apart : (thread_in ts client).pid ≡ pid → ⊥).
      held (row_of pid client)
      ∙ (λ i. (kept pid client low ∙ (λ j. ne_eqb (thread_in ts client).pid pid apart j && not (thread_in ts client).has_ended)) i && not (eqb (row_of (thread_in ts client).pid client) (row_of pid client))))
      (cases_eq (thread_in ts client).pid pid)

  pub kept-gone : AreKept us less
  kept-gone pid c within = ⊎_elim
      (λ (same : c ≡ client).
      ap (λ n. holds (row_of pid n) less) same ∙ gone-here pid ∙ sym (of-no-pid (thread_in us client) pid here) ∙ sym (ap (λ n. has_pid pid (thread_in us n)) same))
      (λ (apart : c ≡ client → ⊥).
      held (row_of pid c)
      ∙ (λ i. holds (row_of pid c) rows && not (ne_eqb (row_of (thread_in ts client).pid client) (row_of pid c) (λ e. apart (omega (arith, e, low, within))) i))
      ∙ and-true (holds (row_of pid c) rows)
      ∙ kept pid c within
      ∙ sym (ap (has_pid pid) (elsewhere c apart)))
      (cases_eq c client)

-- a thread begins where one had ended
module _ (ts : List Thread) (index next : RowsState) (client : ℕ) (t : Thread) (indexed : IsIndexed ts index) (known : client < length ts)
    (ended : (thread_in ts client).has_ended ≡ true) where
  pub room-for : length index.rows < index.capacity
  room-for =
      let fewer = counted-fewer is_live ts client known (ap not ended) in
      let room = indexed.room in let many = indexed.many in omega (arith, fewer, room, many)

  pub not-there : (pid : ℕ) → holds (row_of pid client) index.rows ≡ false
  not-there pid = indexed.kept pid client (let few = indexed.few in omega (arith, few, known)) ∙ of-no-pid (thread_in ts client) pid ended

  pub indexed-put : t.has_ended ≡ false → ((other : ℕ) → holds other next.rows ≡ eqb (row_of t.pid client) other || holds other index.rows)
      → length next.rows ≡ length index.rows + 1 → next.capacity ≡ index.capacity → IsIndexed (set ts client t) next
  indexed-put live held long same =
      let long-set = length-set ts client t in record {
        few = let few = indexed.few in omega (arith, few, long-set);
        room = let room = indexed.room in omega (arith, room, same, long-set);
        many = let many = indexed.many in let more = counted-more is_live ts client t known (ap not ended) (ap not live) in omega (arith, many, more, long);
        kept = kept-begun ts (set ts client t) index.rows next.rows client t (let few = indexed.few in omega (arith, few, known))
            (get_or-set_same ts client t no_thread known) (λ c apart. get_or-set_other ts client c t no_thread apart) ended live held indexed.kept;
      }

-- a thread ends
module _ (ts : List Thread) (index next : RowsState) (client : ℕ) (t : Thread) (indexed : IsIndexed ts index) (is-live : IsLive ts client) where
  low-live : client < 4294967296
  low-live = let known = known-live ts client is-live in let few = indexed.few in omega (arith, few, known)

  pub indexed-gone : t.has_ended ≡ true → ((other : ℕ) → holds other next.rows ≡ holds other index.rows && not (eqb (row_of (thread_in ts client).pid client) other))
      → length next.rows + 1 ≡ length index.rows → next.capacity ≡ index.capacity → IsIndexed (set ts client t) next
  indexed-gone ended held long same =
      let long-set = length-set ts client t in
      let known = known-live ts client is-live in record {
        few = let few = indexed.few in omega (arith, few, long-set);
        room = let room = indexed.room in omega (arith, room, same, long-set);
        many = let many = indexed.many in let less = counted-less is_live ts client t known (ap not is-live) (ap not ended) in omega (arith, many, less, long);
        kept = kept-gone ts (set ts client t) index.rows next.rows client low-live
            (ap (λ (x : Thread). x.has_ended) (get_or-set_same ts client t no_thread known) ∙ ended) (λ c apart. get_or-set_other ts client c t no_thread apart) held indexed.kept;
      }

-- one more is pushed
module _ (ts : List Thread) (index next : RowsState) (client : ℕ) (t : Thread) (indexed : IsIndexed ts index) (last : length ts ≡ client) (room : client < index.capacity)
    (few : client < 4096) where
  pub room-pushed : length index.rows < index.capacity
  room-pushed = let all = counted-all is_live ts in let many = indexed.many in omega (arith, all, many, last, room)

  pub new-pushed : (pid : ℕ) → holds (row_of pid client) index.rows ≡ false
  new-pushed pid = indexed.kept pid client (omega (arith, few)) ∙ past-no-pid ts client pid (omega (arith, last))

  pushed-elsewhere : (c : ℕ) → c ≢ client → thread_in (ts ++ t ∷ []) c ≡ thread_in ts c
  pushed-elsewhere c apart = ⊎_elim
      (λ (known : c < length ts). get_or_append_left ts (t ∷ []) no_thread c known)
      (λ (past : length ts ≤ c).
      let longer = length_push ts t in
      get_or_past (ts ++ t ∷ []) c no_thread (omega (arith, past, longer, last, apart)) ∙ sym (get_or_past ts c no_thread past))
      (cases_lt c (length ts))

  pub indexed-pushed : t.has_ended ≡ false → ((other : ℕ) → holds other next.rows ≡ eqb (row_of t.pid client) other || holds other index.rows)
      → length next.rows ≡ length index.rows + 1 → next.capacity ≡ index.capacity → IsIndexed (ts ++ t ∷ []) next
  indexed-pushed live held long same =
      let longer = length_push ts t in record {
        few = omega (arith, few, longer, last);
        room = omega (arith, room, same, longer, last);
        many = let many = indexed.many in let more = counted-pushed is_live ts t (ap not live) in omega (arith, many, more, long);
        kept = kept-begun ts (ts ++ t ∷ []) index.rows next.rows client t (omega (arith, few)) (get_or_push ts t no_thread client last) pushed-elsewhere
            (ap (λ (x : Thread). x.has_ended) (get_or_past ts client no_thread (omega (arith, last)))) live held indexed.kept;
      }
