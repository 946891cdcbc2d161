-- The rows of a journal have each client's calls, and its refusals.
use Rattle.std.proofs.Common.{◌≡◌, ℕ, zero, suc, ◌+◌, Bool, true, false, cond, List, [], ◌∷◌, ◌++◌, map, length, refl, sym, ap, ◌∙◌, subst, arith, Ok, Err, IfSome}
use Rattle.std.specs.Prelude.{◌==◌, ◌&&◌, count_by, filter, is_some}
use Rattle.std.specs.List.{slice_get}
use Rattle.std.proofs.lemmas.List.{length-map, map-append}
use Rattle.std.proofs.lemmas.List.Sums.{length-filter, sum_by-append, sum_by-cons}
use Rattle.ipc_call.specs.declared.replies.JournalRow.{JournalRow}
use Rattle.ipc_call.specs.declared.replies.JournalRow.TheVariants.{Called}
use Rattle.ipc_call.specs.declared.replies.Reply.TheVariants.{Entered}
use Rattle.ipc_model.specs.Decision.{Outcome}
use Rattle.ipc_model.specs.State.{State, opening}
use Rattle.ipc_model.specs.Step.{Event, step}
use Rattle.ipc_history.specs.History.{History, ReplyTo, answered_row, answers, answers_from, own, replies, reply_of, rows_from, rows_of, rule_in, replies_by}
use Rattle.ipc_jobs.specs.Courses.{is_refusal}
use Rattle.ipc_jobs.specs.Rows.{is_call_of, is_refusal_of}

-- one more is counted
pub count-cons : {X : Type 0} (p : X → Bool) (x : X) (xs : List X) → count_by p (x ∷ xs) ≡ cond (p x) 1 0 + count_by p xs
count-cons p x xs = sum_by-cons (λ y. cond (p y) 1 0) x xs

no_calls : (k : ℕ) (ts : List ReplyTo) → count_by (is_call_of k) (map answered_row ts) ≡ 0
no_calls k [] = refl
no_calls k (t ∷ ts) = let rest = no_calls k ts in omega (arith, rest)

calls_from : (k place : ℕ) (s : State) (es : List Event) → count_by (is_call_of k) (rows_from place s es) ≡ count_by (λ e. e.client == k) es
calls_from k place s [] = refl
calls_from k place s (e ∷ es) =
    let told = map answered_row (replies_by e.client place (step s e)) in
    let none = no_calls k (replies_by e.client place (step s e)) in
    let rest = calls_from k (place + 1) (step s e).state es in
    let later = rows_from (place + 1) (step s e).state es in
    let both = sum_by-append (λ (row : JournalRow). cond (is_call_of k row) 1 0) told later in
    let first = count-cons (is_call_of k) (Called e.client e.now e.call) (told ++ later) in
    let event = count-cons (λ (x : Event). x.client == k) e es in
    omega (arith, none, rest, both, first, event)

pub counted_calls : (h : History) (k : ℕ) → count_by (is_call_of k) (rows_of h) ≡ length (own h k)
counted_calls h k = calls_from k 1 (opening h.limits h.clients) h.events
    ∙ sym (length-filter (λ (e : Event). e.client == k) h.events)
    ∙ sym (length-map (filter (λ (e : Event). e.client == k) h.events) (λ e. (e.now, e.call)))

refusals_from : (k place : ℕ) (s : State) (es : List Event)
    → count_by (is_refusal_of k) (rows_from place s es) ≡ count_by (is_refusal_of k) (map answered_row (answers_from place s es))
refusals_from k place s [] = refl
refusals_from k place s (e ∷ es) =
    let told = replies_by e.client place (step s e) in
    let later = answers_from (place + 1) (step s e).state es in
    let test = λ (row : JournalRow). cond (is_refusal_of k row) 1 0 in
    let rest = refusals_from k (place + 1) (step s e).state es in
    let first = count-cons (is_refusal_of k) (Called e.client e.now e.call) (map answered_row told ++ rows_from (place + 1) (step s e).state es) in
    let left = sum_by-append test (map answered_row told) (rows_from (place + 1) (step s e).state es) in
    let right = ap (count_by (is_refusal_of k)) (map-append answered_row told later) ∙ sum_by-append test (map answered_row told) (map answered_row later) in
    omega (arith, rest, first, left, right)

refuses : (o : Outcome) (place turn : ℕ) → is_refusal (Entered place turn o) ≡ is_some (rule_in o)
refuses (Ok answer) place turn = refl
refuses (Err rule) place turn = refl

one_more : (b : Bool) (t : ReplyTo) (ts : List ReplyTo) (n : ℕ) → n ≡ count_by is_refusal (map reply_of ts)
    → cond (b && is_some (rule_in t.outcome)) 1 0 + n ≡ count_by is_refusal (map reply_of (cond b (t ∷ ts) ts))
one_more true t ts n is =
    let here = ap {B = ℕ} (λ (x : Bool). cond x 1 0) (refuses t.outcome t.place t.turn) in
    let all = count-cons is_refusal (reply_of t) (map reply_of ts) in
    omega (arith, is, here, all)
one_more false t ts n is = omega (arith, is)

of_client : (k : ℕ) (ts : List ReplyTo) → count_by (is_refusal_of k) (map answered_row ts) ≡ count_by is_refusal (map reply_of (filter (λ t. t.client == k) ts))
of_client k [] = refl
of_client k (t ∷ ts) = count-cons (is_refusal_of k) (answered_row t) (map answered_row ts) ∙ one_more (t.client == k) t (filter (λ t. t.client == k) ts) (count_by (is_refusal_of k) (map answered_row ts)) (of_client k ts)

pub counted_refusals : (h : History) (k : ℕ) → count_by (is_refusal_of k) (rows_of h) ≡ count_by is_refusal (replies h k)
counted_refusals h k = refusals_from k 1 (opening h.limits h.clients) h.events ∙ of_client k (answers h)

-- a list of what is known of clients 0, 1, ..: of none, and of one more
module _ {X : Type 0} where
  abbrev pub AreCounted : (ℕ → X → Type 0) → List X → Type 0
  AreCounted P counts = (k : ℕ) → IfSome (slice_get counts k) (P k)

  pub none_counted : (P : ℕ → X → Type 0) (counts : List X) → counts ≡ [] → AreCounted P counts
  none_counted P counts none = subst (AreCounted P) (sym none) (λ k. tt)

  one_more_from : (P : ℕ → X → Type 0) (counts : List X) (x : X) → P (length counts) x → AreCounted P counts → AreCounted P (counts ++ x ∷ [])
  one_more_from P [] x is are zero = is
  one_more_from P [] x is are (suc k) = tt
  one_more_from P (c ∷ counts) x is are zero = are zero
  one_more_from P (c ∷ counts) x is are (suc k) = one_more_from (λ j. P (suc j)) counts x is (λ j. are (suc j)) k

  pub one_counted : (P : ℕ → X → Type 0) (counts new : List X) (x : X) → new ≡ counts ++ x ∷ [] → P (length counts) x → AreCounted P counts → AreCounted P new
  one_counted P counts new x more is are = subst (AreCounted P) (sym more) (one_more_from P counts x is are)
