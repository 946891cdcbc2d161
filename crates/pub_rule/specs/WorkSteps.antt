-- What each kind of step on the publication records tells the seat that takes it. The seat was m before the step, which
-- found the number k in the word, and is m' after it.
use Rattle.std.specs.Prelude.{◌≡◌, ◌≢◌, ◌⊎◌, ℕ, Bool, true, false, ◌+◌, ◌<◌, List, [], ◌∷◌, ◌++◌, ◌==◌}
use Rattle.std.specs.Prelude.{if◌then◌else◌, length}
use mathlib.Core.Option.{Option, some}
use Rattle.atomic_table.specs.Table.{Me, rest}
use Rattle.pub_rule.specs.declared.walk.View.{View}
use Rattle.pub_rule.specs.declared.work.Work.{Work}
use Rattle.pub_rule.specs.declared.work.Mark.{Mark}
use Rattle.pub_rule.specs.declared.work.Stage.{Stage}
use Rattle.pub_rule.specs.declared.work.Stage.TheVariants.{Away, Free, Asking}
use Rattle.pub_rule.specs.declared.work.Serving.{Serving}
use Rattle.pub_rule.specs.declared.work.Serving.TheVariants.{Nothing, Posted, Parked}
use Rattle.pub_rule.specs.declared.served.Served.{Ghosts}
use Rattle.pub_rule.specs.declared.served.Slot.{Slot}
use Rattle.pub_rule.specs.declared.served.Slot.TheVariants as slots
use Rattle.pub_rule.specs.declared.words.TheConstants.{FREE, POSTED, PARKED, ANSWERED}
use Rattle.pub_rule.specs.Words.{state_word}
use Rattle.pub_rule.specs.Rule.{view, work, hand, HasInFront, ByWord}
use Rattle.pub_rule.specs.Work.{GoesOn, IsClient, IsAtHome}

-- the other half of a view is replaced
abbrev pub with_work : {W : Type 0} → W → View W → View W
with_work w v = record v { work = w }

-- the posts of client r among those marked
abbrev pub marks_of : ℕ → List Mark → List Mark
marks_of r [] = []
marks_of r (x ∷ xs) = if x.client == r then x ∷ marks_of r xs else marks_of r xs

-- the seat is that of client r, whose call is in flight
abbrev pub is_own : {C : Type 0} → ℕ → Stage C → Bool
is_own r (Asking q k) = r == q
is_own r _ = false

-- What a seat knows after each kind of step, as a function of what it knew.
module _ {E C R : Type 0} where
  -- the client has its slot in its hands
  abbrev pub fetched : ℕ → Work E C R → Work E C R
  fetched q w = record w { stage = Free q; found = 0 }

  -- it posted
  abbrev pub asking : ℕ → C → Work E C R → Work E C R
  asking q c w = record w { stage = Asking q c; posts = w.posts + 1; past = false; found = 0 }

  -- it has the reply to its call, by this history
  abbrev pub answered : ℕ → C → R → List E → Work E C R → Work E C R
  answered q c x h w = record w {
    stage = Free q;
    seen = h;
    entered = w.entered ++ c ∷ [];
    got = w.got ++ x ∷ [];
    past = false;
    found = 0;
  }

  -- its call was refused for memory
  abbrev pub refused : ℕ → List E → Work E C R → Work E C R
  refused q h w = record w { stage = Free q; seen = h; past = false; found = 0 }

  -- it gave its slot back
  abbrev pub given : ℕ → Work E C R → Work E C R
  given q w = record w { stage = Away q; found = 0 }

  -- it saw this history, and found its state word to be k
  abbrev pub seeing : List E → ℕ → Work E C R → Work E C R
  seeing h k w = record w { seen = h; found = k }

  -- client q's call c waits: the history has it, and a beginning of the history has it without its reply
  abbrev pub IsWaiting : (List E → ℕ → List C) → (List E → ℕ → List R) → ℕ → C → List E → Work E C R → Type 0
  IsWaiting own replies q c h w = (own h q ≡ w.entered ++ c ∷ []) × (part : List E) × GoesOn part h
      × (own part q ≡ w.entered ++ c ∷ []) × (replies part q ≡ w.got)

  -- it combines, by this history
  abbrev pub holding : List E → Work E C R → Work E C R
  holding h w = record w { holds = true; seen = h; before = h; paid = []; serving = Nothing; begun = w.begun + 1 }

  -- it found another that combines
  abbrev pub meeting : ℕ → Work E C R → Work E C R
  meeting c w = record w { met = c ∷ w.met }

  -- it took a record that was posted, or one that was parked
  abbrev pub taking : ℕ → C → Work E C R → Work E C R
  taking r c w = record w { serving = Posted r c }

  abbrev pub resuming : ℕ → C → Work E C R → Work E C R
  resuming r c w = record w { serving = Parked r c }

  -- it dealt with the last post of client r, be it one that it heard of, or its own
  abbrev pub dealt : ℕ → Work E C R → Work E C R
  dealt r w = record w { passed = marks_of r w.heard ++ w.passed; past = if is_own r w.stage then true else w.past }

  -- it answered with the event of this history, or left the call parked
  abbrev pub entering : ℕ → List E → Work E C R → Work E C R
  entering r h w = dealt r (record w { seen = h; before = w.seen; paid = r ∷ []; serving = Nothing })

  abbrev pub leaving : ℕ → List E → Work E C R → Work E C R
  leaving r h w = dealt r (record w { seen = h; before = w.seen; paid = []; serving = Nothing })

  -- it refused a call for memory, or handed out a parked call's reply
  abbrev pub refusing : ℕ → Work E C R → Work E C R
  refusing r w = dealt r (record w { serving = Nothing })

  abbrev pub paying : ℕ → Work E C R → Work E C R
  paying r w = record w { paid = r ∷ w.paid; serving = Nothing }

  -- it answered the record that it took: one that was parked, whose reply the history has, or one that was posted
  abbrev pub replying : Serving C → ℕ → List E → Work E C R → Work E C R
  replying (Parked q c) r h w = paying r w
  replying _ r h w = entering r h w

  -- it combines no more
  abbrev pub released : Work E C R → Work E C R
  released w = record w { holds = false; before = w.seen; paid = []; serving = Nothing }

-- How a call was answered: refused for memory, or by a reply.
pub data Collected (R : Type 0) : Type 0 where
  Refused : Collected R
  Replied : R → Collected R

-- what lies in the record then
abbrev pub slot_of : {C R S : Type 0} → Collected R → Slot C R S
slot_of Refused = slots.Memory
slot_of (Replied x) = slots.Reply x

-- what client q, which asked c, knows when it has collected it, by this history
abbrev pub work_after : {E C R : Type 0} → ℕ → C → List E → Collected R → Work E C R → Work E C R
work_after q c h Refused w = refused q h w
work_after q c h (Replied x) w = answered q c x h w

-- the seat m is left knowing w, with these slots in its hand
abbrev pub left_with : {T W : Type 0} → W → List (ℕ × T) → Me T (View W) → Me T (View W)
left_with w slots_now m = (with_work w (view m), slots_now)

-- How a seat m is left by a step.
module _ {E C R S : Type 0} (m m' : Me (Slot C R S) (View (Work E C R))) where
  -- the first read of the own state: the slot comes into the client's hand
  pub record Fetches : Type 0 where
    pub client : ℕ
    pub away : (work m).stage ≡ Away client
    pub left : m' ≡ left_with (fetched client (work m)) ((client, slots.Empty) ∷ hand m) m

  -- the last read of the own state: a client that asks nothing gives its slot back, which is empty
  pub record Gives : Type 0 where
    pub client : ℕ
    pub free : (work m).stage ≡ Free client
    pub held : HasInFront client slots.Empty m
    pub left : m' ≡ left_with (given client (work m)) (rest (hand m)) m

  -- one that has it at home stays as it was
  abbrev pub slot_given : Type 0
  slot_given = Gives ⊎ (IsAtHome (work m).stage × (m' ≡ m))

  -- post: the call goes home
  pub record Posts : Type 0 where
    pub client : ℕ
    pub call : C
    pub free : (work m).stage ≡ Free client
    pub held : HasInFront client (slots.Call call) m
    pub left : m' ≡ left_with (asking client call (work m)) (rest (hand m)) m

  -- the lock word k named another client, of n, which combines
  pub record Meets (n k : ℕ) : Type 0 where
    pub holder : ℕ
    pub named : k ≡ holder + 1
    pub below : holder < n
    pub other : (r : ℕ) → IsClient r (work m).stage → holder ≢ r
    pub left : m' ≡ left_with (meeting holder (work m)) (hand m) m

  -- peek at the lock: nobody combined, which tells nothing; or another client combines
  abbrev pub lock_peeked : ℕ → ℕ → Type 0
  lock_peeked n k = ByWord 0 k (m' ≡ m) (Meets n k)

  -- release: the state goes home
  abbrev pub state_released : Type 0
  state_released = m' ≡ left_with (released (work m)) (rest (hand m)) m

  -- a step of the holder on a client's record, at this word: what it knows then, and what it has in its hand
  pub record OnRecord (word : ℕ) (after : ℕ → Work E C R → Work E C R) (slots_now : List (ℕ × Slot C R S)) : Type 0
    where
      pub client : ℕ
      pub at : word ≡ state_word client
      pub left : m' ≡ left_with (after client (work m)) slots_now m

  -- peek at a record: it is posted; or its word is another one, so a combiner dealt with its client's last post
  abbrev pub record_peeked : ℕ → ℕ → Type 0
  record_peeked word k = ByWord POSTED k (m' ≡ m) (OnRecord word dealt (hand m))

  -- answer Memory: Memory goes home, and the history stays
  abbrev pub call_refused : ℕ → Type 0
  call_refused word = OnRecord word refusing (rest (hand m))

  -- answer from parked: the reply goes home, and the history stays, which has it
  abbrev pub reply_handed : ℕ → Type 0
  reply_handed word = OnRecord word paying (rest (hand m))

  -- take from parked: the record was parked, and its empty slot comes into the holder's hand
  pub record Resumes (word k : ℕ) : Type 0 where
    pub client : ℕ
    pub call : C
    pub parked : k ≡ PARKED
    pub at : word ≡ state_word client
    pub left : m' ≡ left_with (resuming client call (work m)) ((client, slots.Empty) ∷ hand m) m

-- The steps that tell of the history that is served.
module _ {S E C R : Type 0} (served : Ghosts S E C R) where
  -- What client q is told by its own state word k, beside the history h, while its call c is in flight: where the call
  -- is parked, or a combiner is known to have dealt with the call that isn't answered, the call waits
  pub record ShowsCall (q k : ℕ) (c : C) (h : List E) (w : Work E C R) : Type 0 where
    pub asks : 0 < k
    pub below : k < 5
    pub dealt : w.past ≡ true → k ≢ POSTED
    pub answered : w.found ≡ ANSWERED → k ≡ ANSWERED
    pub waits : (k ≡ PARKED) ⊎ ((w.past ≡ true) × (k ≢ ANSWERED)) → IsWaiting served.own served.replies q c h w

  -- and while none is: the history has just the calls entered and the replies got
  pub record ShowsIdle (q k : ℕ) (h : List E) (w : Work E C R) : Type 0 where
    pub idle : k ≡ FREE
    pub calls : served.own h q ≡ w.entered
    pub answers : served.replies h q ≡ w.got

  -- the one or the other, by how far the client is
  abbrev pub Shows : ℕ → ℕ → List E → Work E C R → Stage C → Type 0
  Shows q k h w (Asking r c) = ShowsCall q k c h w
  Shows q k h w (Away r) = ShowsIdle q k h w
  Shows q k h w (Free r) = ShowsIdle q k h w
  Shows q k h w _ = ⊥

  -- the history h is legal, and goes on from the one that was seen
  pub record IsLater (h : List E) (w : Work E C R) : Type 0 where
    pub later : GoesOn w.seen h
    pub is_legal : served.legal h

  -- How a seat m is left by them.
  module _ (m m' : Me (Slot C R S) (View (Work E C R))) where
    -- read state of the own record: the history is seen, which goes on from the one that was told too
    pub record LooksAtOwn (k : ℕ) : Type 0 where
      pub client : ℕ
      pub history : List E
      pub is_client : IsClient client (work m).stage
      pub later : IsLater history (work m)
      pub told : GoesOn (work m).hearsay history
      pub shows : Shows client k history (work m) (work m).stage
      pub left : m' ≡ left_with (seeing history k (work m)) (hand m) m

    -- collect: the call was answered, so the answer comes into the client's hand, and the history has just the calls
    -- and the replies that the client has then
    pub record Collects : Type 0 where
      pub client : ℕ
      pub call : C
      pub history : List E
      pub answer : Collected R
      pub asked : (work m).stage ≡ Asking client call
      pub later : IsLater history (work m)
      pub calls : served.own history client ≡ (work_after client call history answer (work m)).entered
      pub answers : served.replies history client ≡ (work_after client call history answer (work m)).got
      pub left : m' ≡ left_with (work_after client call history answer (work m)) ((client, slot_of answer) ∷ hand m) m

    -- or the word was another one, and the client saw it
    abbrev pub reply_collected : ℕ → Type 0
    reply_collected k = ByWord ANSWERED k Collects (LooksAtOwn k)

    -- seize: nobody combined, so the state, the last of n + 1 slots, comes into the client's hand with the history
    pub record Seizes (n : ℕ) : Type 0 where
      pub state : S
      pub later : IsLater (served.history state) (work m)
      pub left : m' ≡ left_with (holding (served.history state) (work m)) ((n, slots.State state) ∷ hand m) m

    -- or another client combines
    abbrev pub state_seized : ℕ → ℕ → Type 0
    state_seized n k = ByWord 0 k (Seizes n) (Meets m m' n k)

    -- take from posted, by the holder: the record was posted, so its call comes into the holder's hand, each of its
    -- client's calls in the history has its reply there, and where the client is its own, it asks just this
    pub record Takes (word : ℕ) : Type 0 where
      pub client : ℕ
      pub call : C
      pub at : word ≡ state_word client
      pub even : length (served.own (work m).seen client) ≡ length (served.replies (work m).seen client)
      pub mine : IsClient client (work m).stage → (work m).stage ≡ Asking client call
      pub left : m' ≡ left_with (taking client call (work m)) ((client, slots.Call call) ∷ hand m) m

    -- or its word was another one, so a combiner dealt with its client's last post
    abbrev pub call_taken : ℕ → ℕ → Type 0
    call_taken word k = ByWord POSTED k (Takes word) (OnRecord m m' word dealt (hand m))

    -- a step of the holder on a client's record that announces the state, whose history has one event more
    pub record Announces (word : ℕ) (said : Option (Slot C R S)) (after : ℕ → List E → Work E C R → Work E C R) : Type 0
      where
        pub state : S
        pub it_said : said ≡ some (slots.State state)
        pub on : OnRecord m m' word (λ r. after r (served.history state)) (rest (hand m))

    -- answer: the reply goes home
    abbrev pub call_answered : ℕ → Option (Slot C R S) → Type 0
    call_answered word said = Announces word said entering

    -- mark parked: the slot goes home empty
    abbrev pub call_parked : ℕ → Option (Slot C R S) → Type 0
    call_parked word said = Announces word said leaving

    -- a reply goes home: that of a parked call, which the history has, or that of the history's last event
    abbrev pub reply_put : ℕ → Option (Slot C R S) → Serving C → Type 0
    reply_put word said (Parked q c) = reply_handed m m' word
    reply_put word said _ = call_answered word said
