-- The rows of a history tell its events: where the journal of one begins that of another, so do the events.
use Rattle.std.proofs.Common.{◌≡◌, ℕ, zero, suc, ◌+◌, ◌<◌, List, [], ◌∷◌, ◌++◌, map, length, take, refl, sym, ap, ◌∙◌, arith, append_assoc, Some}
use Rattle.std.specs.Prelude.{slice_get, IfSome}
use Rattle.std.proofs.Math.Seq.{take-append-add}
use Rattle.std.proofs.lemmas.List.{append_cancel_left, take_more}
use Rattle.std.proofs.lemmas.Option.{get_or_from_slice_get, none-some, same_Some, slice_get_within}
use Rattle.ipc_call.specs.declared.replies.JournalRow.{JournalRow}
use Rattle.ipc_model.specs.State.{State}
use Rattle.ipc_model.specs.Step.{Event, step}
use Rattle.ipc_history.specs.History.{AreLegalFrom, ReplyTo, answered_row, rows_from, run_from, replies_by}
use Rattle.ipc_space.specs.Following.{IsAnswered, call_row}

module _ {X : Type 0} where
  pub get-append : (xs ys : List X) (k : ℕ) → k < length xs → slice_get (xs ++ ys) k ≡ slice_get xs k
  get-append [] ys k below = absurd (omega (arith, below))
  get-append (x ∷ xs) ys zero below = refl
  get-append (x ∷ xs) ys (suc k) below = get-append xs ys k (omega (arith, below))

  pub get-take : (xs : List X) (n k : ℕ) → k < n → slice_get (take n xs) k ≡ slice_get xs k
  get-take xs zero k below = absurd (omega (arith, below))
  get-take [] (suc n) k below = refl
  get-take (x ∷ xs) (suc n) zero below = refl
  get-take (x ∷ xs) (suc n) (suc k) below = get-take xs n k (omega (arith, below))

  -- a longer prefix goes on with the next element
  pub take-longer : (xs : List X) (n m : ℕ) (x : X) → n < m → slice_get xs n ≡ Some x → (rest : List X) × (take m xs ≡ take n xs ++ x ∷ rest)
  take-longer xs n zero x below here = absurd (omega (arith, below))
  take-longer [] n (suc m) x below here = absurd (none-some x here)
  take-longer (y ∷ ys) zero (suc m) x below here = (take m ys, ap (λ z. z ∷ take m ys) (same_Some y x here))
  take-longer (y ∷ ys) (suc n) (suc m) x below here =
      let rest = take-longer ys n m x (omega (arith, below)) here in
      (rest.0, ap (λ l. y ∷ l) rest.1)

  pub take-next : (xs : List X) (n : ℕ) (x : X) → slice_get xs n ≡ Some x → take (n + 1) xs ≡ take n xs ++ x ∷ []
  take-next xs n x here = take_more xs n x (slice_get_within xs n x here) ∙ ap (λ y. take n xs ++ y ∷ []) (get_or_from_slice_get xs n x x here)

  pub take-one_more : (xs : List X) (m : ℕ) (x : X) (ys : List X) → m ≡ length xs + 1 → take m (xs ++ x ∷ ys) ≡ xs ++ x ∷ []
  take-one_more xs m x ys is = ap (λ k. take k (xs ++ x ∷ ys)) is ∙ take-append-add xs (x ∷ ys) 1

  pub append-one : (xs : List X) (x : X) (ys : List X) → xs ++ x ∷ ys ≡ (xs ++ x ∷ []) ++ ys
  append-one xs x ys = sym (append_assoc xs (x ∷ []) ys)

  tail : List X → List X
  tail [] = []
  tail (x ∷ xs) = xs

  pub head_or : X → List X → X
  head_or d [] = d
  head_or d (x ∷ xs) = x

  pub head-cons : (d x : X) (xs : List X) → head_or d (x ∷ xs) ≡ x
  unfolding head_or
  head-cons d x xs = refl

  pub nil≢cons : (x : X) (xs : List X) → [] ≡ x ∷ xs → ⊥
  nil≢cons x xs is = let none : 0 ≡ suc (length xs) = ap length is in omega (arith, none)

-- events are alike where the rows of their calls are
pub event_of : (e f : Event) → call_row e ≡ call_row f → e ≡ f
event_of e f same =
    let client : e.client ≡ f.client = cc in
    let now : e.now ≡ f.now = cc in
    let call : e.call ≡ f.call = cc in
    λ i. record { client = client i; now = now i; call = call i }

-- the rows of an event behind its call
abbrev pub answer_rows : ℕ → State → Event → List JournalRow
answer_rows place s e = map answered_row (replies_by e.client place (step s e))

pub fronts : (place : ℕ) (s : State) (es fs : List Event) (zs : List JournalRow) → rows_from place s fs ≡ rows_from place s es ++ zs → (gs : List Event) × (fs ≡ es ++ gs)
unfolding tail head_or
fronts place s [] fs zs is = (fs, refl)
fronts place s (e ∷ es) [] zs is = absurd (nil≢cons _ _ is)
fronts place s (e ∷ es) (f ∷ fs) zs is =
    let same : f ≡ e = event_of f e (ap (head_or (call_row f)) is) in
    let tails : answer_rows place s f ++ rows_from (place + 1) (step s f).state fs ≡ (answer_rows place s e ++ rows_from (place + 1) (step s e).state es) ++ zs = ap tail is in
    let moved : answer_rows place s e ++ rows_from (place + 1) (step s e).state fs ≡ answer_rows place s e ++ (rows_from (place + 1) (step s e).state es ++ zs) =
    ap (λ (x : Event). answer_rows place s x ++ rows_from (place + 1) (step s x).state fs) (sym same) ∙ tails ∙ append_assoc (answer_rows place s e) (rows_from (place + 1) (step s e).state es) zs in
    let rest = fronts (place + 1) (step s e).state es fs zs (append_cancel_left (answer_rows place s e) _ _ moved) in
    (rest.0, (λ i. same i ∷ rest.1 i))

pub legal-append : (s : State) (es fs : List Event) → AreLegalFrom s (es ++ fs) → AreLegalFrom (run_from s es) fs
legal-append s [] fs legal = legal
legal-append s (e ∷ es) fs legal = legal-append (step s e).state es fs legal.1

all-answers : (ts : List ReplyTo) (k : ℕ) → IfSome (slice_get (map answered_row ts) k) (λ row. IsAnswered row)
all-answers [] k = tt
all-answers (t ∷ ts) zero = tt
all-answers (t ∷ ts) (suc k) = all-answers ts k

-- what stands behind a call at the end of the rows is an answer
pub behind-call : (front : List JournalRow) (row : JournalRow) (ts : List ReplyTo) (k : ℕ) → length front < k → IfSome (slice_get (front ++ row ∷ map answered_row ts) k) (λ r. IsAnswered r)
behind-call [] row ts zero above = absurd (omega (arith, above))
behind-call [] row ts (suc k) above = all-answers ts k
behind-call (x ∷ front) row ts zero above = absurd (omega (arith, above))
behind-call (x ∷ front) row ts (suc k) above = behind-call front row ts k (omega (arith, above))
