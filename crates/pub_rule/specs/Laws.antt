-- The laws: what each kind of step asks of the seat that takes it, beside any half `serves` that doesn't look at the
-- list's words.
use Rattle.std.specs.Prelude.{◌≡◌, ℕ, ◌+◌, ◌<◌, List, ◌==◌}
use mathlib.Core.Option.{Option, none}
use prog.Atomic.{either}
use Rattle.atomic_table.specs.Table.{Me, step, Allows, Splits, Joins}
use Rattle.pub_rule.specs.declared.walk.View.{View}
use Rattle.pub_rule.specs.declared.walk.Role.TheVariants.{Maker, Fresh, Joined, Token}
use Rattle.pub_rule.specs.Words.{head_word, next_word}
use Rattle.pub_rule.specs.Lists.{link_to}
use Rattle.pub_rule.specs.Rule.{Ruled, LetsSplit, LetsMerge, walk}
use Rattle.pub_rule.specs.Steps.{IsKnown, head_loaded, next_stored, head_exchanged, next_loaded, next_maker, newcomer}
use Rattle.pub_rule.specs.Steps.{token, learned, spent}

module _ {T W : Type 0} (n : ℕ) (serves : List ℕ → List (Option T) → List W → Type 0) where
  -- the first seat, which has made those of the clients below k, makes that of client k
  abbrev pub KeptBySplitClient : Type 0
  KeptBySplitClient = (id k : ℕ) (v left right : View W) (maker : v.walk.role ≡ Maker k) (room : k < n)
      (left_is : left.walk ≡ next_maker v.walk) (right_is : right.walk ≡ newcomer v.walk)
      (lets : LetsSplit n serves id v.work left.work right.work) → Splits (Ruled n serves) id v left right

  -- a client that joined makes a token, and knows what it knew
  abbrev pub KeptBySplitToken : Type 0
  KeptBySplitToken = (id c : ℕ) (v left right : View W) (joined : v.walk.role ≡ Joined c)
      (left_is : left.walk ≡ v.walk) (right_is : right.walk ≡ token v.walk)
      (lets : LetsSplit n serves id v.work left.work right.work) → Splits (Ruled n serves) id v left right

  -- a seat takes in what a token tells
  abbrev pub KeptByMerge : Type 0
  KeptByMerge = (id other : ℕ) (v w both gone : View W) (token_is : w.walk.role ≡ Token)
      (both_is : both.walk ≡ learned v.walk w.walk) (gone_is : gone.walk ≡ spent)
      (lets : LetsMerge n serves id v.work other w.work both.work gone.work)
      → Joins (Ruled n serves) id v other w both gone

  -- a seat is merged into another, as the list is closed, and what the other knows of the list stays
  abbrev pub KeptByMergeSeat : Type 0
  KeptByMergeSeat = (id other : ℕ) (v w both gone : View W) (both_is : both.walk ≡ v.walk) (gone_is : gone.walk ≡ spent)
      (lets : LetsMerge n serves id v.work other w.work both.work gone.work)
      → Joins (Ruled n serves) id v other w both gone

  -- an unjoined client writes its own next word
  abbrev pub KeptByStoreNext : Type 0
  KeptByStoreNext = (slots id c x : ℕ) (me : Me T (View W)) (fresh : (walk me).role ≡ Fresh c)
      → Allows (Ruled n serves) slots id me (next_word c) (λ _. x)
      (λ _. next_stored (step slots (next_word c) x 0 none) me x)

  -- any seat loads the head
  abbrev pub KeptByLoadHead : Type 0
  KeptByLoadHead = (slots id : ℕ) (me : Me T (View W))
      → Allows (Ruled n serves) slots id me head_word (λ k. k) (head_loaded (step slots head_word 0 0 none) me)

  -- an unjoined client, whose next word holds the head that it loaded, makes the head its own number + 1
  abbrev pub KeptByExchangeHead : Type 0
  KeptByExchangeHead = (slots id c old new : ℕ) (me : Me T (View W)) (fresh : (walk me).role ≡ Fresh c)
      (stored : (walk me).stored ≡ old) (loaded : link_to (walk me).list ≡ old) (number : new ≡ c + 1)
      → Allows (Ruled n serves) slots id me head_word (λ k. either (k == old) new k)
      (head_exchanged (step slots head_word old new none) me)

  -- any seat loads the next word of a client that it knows to have joined
  abbrev pub KeptByLoadNext : Type 0
  KeptByLoadNext = (slots id c : ℕ) (me : Me T (View W)) (known : IsKnown c (walk me))
      → Allows (Ruled n serves) slots id me (next_word c) (λ k. k)
      (next_loaded (step slots (next_word c) 0 0 none) me)
