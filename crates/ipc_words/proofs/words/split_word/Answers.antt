use Rattle.std.proofs.Common.{◌<◌, ◌≡◌, drop, length, rules}
use Rattle.ipc_words.proofs.WordLemmas.{blanks, first_word, no_word}
use Rattle.ipc_words.proofs.words.split_word.Goals as goal

pub returns-then-is_empty : goal.returns-then-is_empty
returns-then-is_empty c =
    let e : c.split_at.result.1.now ≡ drop (blanks c.args.text.now) c.args.text.now = cc in
    no_word c.args.text.now c.split_at.result.1.now e (search rules)

pub returns : goal.returns
returns c =
    let e : c.split_at.result.1.now ≡ drop (blanks c.args.text.now) c.args.text.now = cc in
    let more : 0 < length c.split_at.result.1.now = search rules in
    rw (c.split_at-2.ensures.front, c.split_at-2.ensures.back, c.word_len.ensures.value) (first_word c.args.text.now c.split_at.result.1.now e more)
