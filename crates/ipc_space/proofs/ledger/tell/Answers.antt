use Rattle.std.proofs.Common.{ℕ, ◌+◌, List, map, length, ap, ◌∙◌, arith, length-append}
use Rattle.std.proofs.lemmas.List.{length-map}
use Rattle.ipc_call.specs.declared.replies.JournalRow.{JournalRow}
use Rattle.ipc_call.specs.declared.replies.Reply.{Reply}
use Rattle.ipc_history.specs.History.{ReplyTo, answered_row, replies_to_ended, reply_of, reply_to_own}
use Rattle.ipc_space.specs.Spaces.{other_replies}
use Rattle.ipc_space.proofs.Entering.{length_told}
use Rattle.ipc_space.proofs.ledger.tell.Goals as goal

pub returns-clause-journal_kept : goal.returns-clause-journal_kept
returns-clause-journal_kept c =
    let own = reply_to_own c.args.client c.args.place c.args.own in
    let ended = c.args.ended.now.items in
    let count : List JournalRow → ℕ = λ rows. length rows in
    let answered = ap count c.tell_own-reply.ensures.rows ∙ length-append c.args.journal.now.rows (map answered_row own) in
    let told = ap count c.tell_others.ensures.rows ∙ length-append c.tell_own-reply.new.journal.rows (map answered_row (replies_to_ended c.args.place 1 ended)) in
    let answers = length-map {B = JournalRow} own answered_row in
    let others = length_told c.args.place 1 ended in
    omega (arith, answered, told, answers, others, c.args.ended.now.ok.0, c.tell_own-reply.ensures.room, c.tell_others.ensures.journal_room)

pub returns-clause-count : goal.returns-clause-count
returns-clause-count c =
    let ended = c.args.ended.now.items in
    let count : List (ℕ × Reply) → ℕ = λ told. length told in
    let told = ap count c.tell_others.ensures.others ∙ length-append c.args.others.now.items (other_replies c.args.place ended) in
    let each = length-map {B = ℕ × Reply} (replies_to_ended c.args.place 1 ended) (λ (reply : ReplyTo). (reply.client, reply_of reply)) in
    let rows = length-map {B = JournalRow} (replies_to_ended c.args.place 1 ended) answered_row in
    let others = length_told c.args.place 1 ended in
    omega (arith, told, each, rows, others, c.args.ended.now.ok.0, c.tell_others.new.others.ok.0, c.args.others.now.ok.0)
