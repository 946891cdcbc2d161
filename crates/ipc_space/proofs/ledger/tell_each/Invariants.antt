use Rattle.std.proofs.Common.{◌≡◌, ◌+◌, ◌≤◌, ◌++◌, map, length, vec_len, vec_capacity}
use Rattle.std.specs.Vec.Iter.{drain_items}
use Rattle.ipc_history.specs.History.{answered_row, reply_of, replies_to_ended}
use Rattle.ipc_space.proofs.ledger.tell_each.Given as goal

-- what the calls that are left give completes the rows and the replies
abbrev pub invariant-loop-completion : goal.invariant-loop-completion
invariant-loop-completion l = record {
  steps : goal.iterator-loop-completion.can_next l.completion-iterator;
  finite : goal.iterator-loop-completion.is_finite l.completion-iterator;
  rows : l.journal.rows ++ map answered_row (replies_to_ended l.place l.turn (drain_items l.completion-iterator)) ≡ l.initial.journal.rows ++ map answered_row (replies_to_ended l.place 1 (drain_items l.initial.completion-iterator));
  given : l.journal.given ≡ l.initial.journal.given;
  others : l.others.items ++ map (λ told. (told.client, reply_of told)) (replies_to_ended l.place l.turn (drain_items l.completion-iterator)) ≡ l.initial.others.items ++ map (λ told. (told.client, reply_of told)) (replies_to_ended l.place 1 (drain_items l.initial.completion-iterator));
  journal_room : length (drain_items l.completion-iterator) ≤ l.journal.room;
  room : vec_len l.others + length (drain_items l.completion-iterator) ≤ vec_capacity l.others;
  entered : l.initial.journal.room + length (drain_items l.completion-iterator) ≤ l.journal.room + length (drain_items l.initial.completion-iterator);
  kept : vec_capacity l.initial.others ≤ vec_capacity l.others;
  few : l.turn + length (drain_items l.completion-iterator) ≤ 4098;
}
