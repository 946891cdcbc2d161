-- Which word of the table is which. All that names a word by its number stands here; the proofs cite the lemmas of
-- proofs/Numbers.
use Rattle.std.specs.Prelude.{ℕ, ◌+◌, ◌*◌}

-- where the list begins
unfoldable pub head_word : ℕ
head_word = 0

-- who combines
unfoldable pub lock_word : ℕ
lock_word = 16

-- what client r asks
unfoldable pub state_word : ℕ → ℕ
state_word r = 32 * r + 32

-- which client stands behind client r
unfoldable pub next_word : ℕ → ℕ
next_word r = 32 * r + 48

-- how many words the table of n clients has
unfoldable pub word_count : ℕ → ℕ
word_count n = 32 * n + 32
