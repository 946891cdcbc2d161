-- The words of a table are different ones, and lie within it.
use Rattle.std.proofs.Common.{◌≡◌, ◌≢◌, ℕ, ◌<◌, arith}
use Rattle.pub_rule.specs.Words.{head_word, lock_word, state_word, next_word, word_count}

pub head_within : (n : ℕ) → head_word < word_count n
unfolding head_word word_count
head_within n = omega arith

pub lock_within : (n : ℕ) → lock_word < word_count n
unfolding lock_word word_count
lock_within n = omega arith

pub state_within : (r n : ℕ) → r < n → state_word r < word_count n
unfolding state_word word_count
state_within r n h = omega arith

pub next_within : (r n : ℕ) → r < n → next_word r < word_count n
unfolding next_word word_count
next_within r n h = omega arith

pub next_from_head : (r : ℕ) → next_word r ≢ head_word
unfolding next_word head_word
next_from_head r e = omega arith

pub next_from_next : (r q : ℕ) → next_word r ≡ next_word q → r ≡ q
unfolding next_word
next_from_next r q e = omega arith

pub state_from_state : (r q : ℕ) → state_word r ≡ state_word q → r ≡ q
unfolding state_word
state_from_state r q e = omega arith

pub state_from_next : (r q : ℕ) → state_word r ≢ next_word q
unfolding state_word next_word
state_from_next r q e = omega arith

pub state_from_head : (r : ℕ) → state_word r ≢ head_word
unfolding state_word head_word
state_from_head r e = omega arith

pub state_from_lock : (r : ℕ) → state_word r ≢ lock_word
unfolding state_word lock_word
state_from_lock r e = omega arith

pub lock_from_next : (r : ℕ) → lock_word ≢ next_word r
unfolding lock_word next_word
lock_from_next r e = omega arith

pub lock_from_head : lock_word ≢ head_word
unfolding lock_word head_word
lock_from_head e = omega arith
