-- The limits that a script can set (the words are the project's own).
use Rattle.std.specs.Prelude.{ℕ, List, nat_le, codes, bytes_eq, Option, Some, None, if◌then◌else◌, option_and_then}
use Rattle.ipc_call.specs.declared.limits.Limit.{Limit}
use Rattle.ipc_call.specs.declared.limits.Limit.TheVariants.{Slots, Queues, Sets, Segments, FirstSeq, MsgMax, MsgMnb, SemMsl, SemOpm, ShmMax}
use Rattle.ipc_call.specs.Limits.{least, most}
use Rattle.ipc_words.specs.Numbers.{number_within}

unfoldable pub limit_named : List ℕ → Option Limit
limit_named word =
    if bytes_eq word (codes "slots") then Some Slots
    else (if bytes_eq word (codes "queues") then Some Queues
    else (if bytes_eq word (codes "sets") then Some Sets
    else (if bytes_eq word (codes "segments") then Some Segments
    else (if bytes_eq word (codes "first-seq") then Some FirstSeq
    else (if bytes_eq word (codes "msgmax") then Some MsgMax
    else (if bytes_eq word (codes "msgmnb") then Some MsgMnb
    else (if bytes_eq word (codes "semmsl") then Some SemMsl
    else (if bytes_eq word (codes "semopm") then Some SemOpm
    else (if bytes_eq word (codes "shmmax") then Some ShmMax else None)))))))))

abbrev pub at_least : ℕ → ℕ → Option ℕ
at_least low n = if nat_le low n then Some n else None

-- the value of a limit, where the word writes one in its range
abbrev pub value_of : Limit → List ℕ → Option ℕ
value_of limit word = option_and_then (at_least (least limit)) (number_within (most limit) word)
