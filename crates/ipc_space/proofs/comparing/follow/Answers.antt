use Rattle.std.proofs.Common.{◌≡◌, ◌<◌, ◌≤◌, ◌+◌, List, length, take, sym, ap, ◌∙◌, subst, arith, Some}
use Rattle.std.specs.Prelude.{slice_get, IfSome}
use Rattle.std.proofs.lemmas.Option.{slice_get-get_or}
use Rattle.ipc_call.specs.declared.replies.JournalRow.{JournalRow}
use Rattle.ipc_history.specs.History.{History, IsLegalAt, rows_of, run, with_event}
use Rattle.ipc_model.specs.Step.{Event}
use Rattle.ipc_space.specs.Following.{IsAnswered, call_row}
use Rattle.ipc_space.specs.Replays.{IsHistoryOf}
use Rattle.ipc_space.proofs.Parting.{longer-known, nothing_behind, taken_again}
use Rattle.ipc_space.proofs.Longest.{answers_behind, entered-not, entered-so, long_enough, one_more, parted-differs, stuck-differs}
use Rattle.ipc_space.proofs.comparing.follow.Goals as goal
use Rattle.ipc_space.proofs.comparing.follow.Goals.{After-journal}

pub returns-then-not-branch : goal.returns-then-not-branch
returns-then-not-branch c =
    let stuck = entered-not c.loop-at.space c.enter.new.space c.index-rows-at.result c.in_ok-enter.field-0 c.in_ok-enter.ensures c.if-not-branch.true in
    let here : slice_get c.args.rows.now c.loop-at.at ≡ Some c.index-rows-at.result = slice_get-get_or c.args.rows.now c.loop-at.at c.index-rows-at.result c.loop-at-test.true ∙ ap (λ (r : JournalRow). Some r) (sym c.index-rows-at.is) in
    let same : rows_of c.enter.new.space ≡ take c.loop-at.at c.args.rows.now = ap rows_of stuck.0 ∙ c.loop-at.invariant.rows in
    record {
      none = stuck-differs c.args.space.now.limits c.args.space.now.clients c.args.rows.now c.loop-at.space c.loop-at.invariant.known c.loop-at.at c.loop-at.invariant.rows c.index-rows-at.result here stuck.1;
      known = subst (IsHistoryOf c.args.space.now.limits c.args.space.now.clients) (sym stuck.0) c.loop-at.invariant.known;
      begins = taken_again c.args.rows.now (rows_of c.enter.new.space) c.loop-at.at same;
      next = nothing_behind c.args.rows.now (rows_of c.enter.new.space) c.loop-at.at same;
    }

-- the event of the row
came : (c : After-journal) → (e : Event) × IsLegalAt (run c.loop-at.space) e × (call_row e ≡ c.index-rows-at.result) × (c.enter.new.space ≡ with_event c.loop-at.space e)
came c = entered-so c.loop-at.space c.enter.new.space c.index-rows-at.result c.in_ok-enter.field-0 c.in_ok-enter.ensures c.if-not-branch.false

here : (c : After-journal) → slice_get c.args.rows.now c.loop-at.at ≡ Some (call_row (came c).0)
here c = slice_get-get_or c.args.rows.now c.loop-at.at c.index-rows-at.result c.loop-at-test.true ∙ ap (λ (r : JournalRow). Some r) (sym c.index-rows-at.is ∙ sym (came c).2)

journal : (c : After-journal) → c.journal.result.now ≡ rows_of (with_event c.loop-at.space (came c).0)
journal c = c.journal.ensures.rows ∙ ap rows_of (came c).3

pub shared-next-requires-clause-in_a : goal.shared-next-requires-clause-in_a
shared-next-requires-clause-in_a c =
    subst (λ (l : List JournalRow). c.loop-at.at + 1 ≤ length l) (sym (journal c))
    (long_enough c.args.space.now.limits c.args.space.now.clients c.args.rows.now c.loop-at.space c.loop-at.invariant.known c.loop-at.at c.loop-at.invariant.rows (came c).0 (came c).1 (here c))

pub shared-next-requires-clause-alike : goal.shared-next-requires-clause-alike
shared-next-requires-clause-alike c =
    ap (take (c.loop-at.at + 1)) (journal c)
    ∙ one_more c.args.space.now.limits c.args.space.now.clients c.args.rows.now c.loop-at.space c.loop-at.invariant.known c.loop-at.at c.loop-at.invariant.rows (came c).0 (came c).1 (here c)

pub returns-then-next-journal : goal.returns-then-next-journal
returns-then-next-journal c =
    let b = (goal.at.returns-then-next-journal c).After-journal in
    let k = c.shared-next.result in
    let e = (came b).0 in
    let last = c.journal-in-loop-at.ensures.rows ∙ ap rows_of (came b).3 in
    let below : k < length (rows_of (with_event c.loop-at.space e)) = subst (λ (l : List JournalRow). k < length l) last c.if-next-journal.true in
    let behind : c.loop-at.at < k = omega (arith, c.shared-next.ensures.least) in
    let answer = answers_behind c.args.space.now.limits c.args.space.now.clients c.args.rows.now c.loop-at.space c.loop-at.invariant.known c.loop-at.at c.loop-at.invariant.rows e (came b).1 (here b) k behind in
    record {
      none = parted-differs c.args.space.now.limits c.args.space.now.clients c.args.rows.now c.loop-at.space c.loop-at.invariant.known c.loop-at.at c.loop-at.invariant.rows e (came b).1 (here b) k
          behind
          c.shared-next.ensures.in_b
          below
          (ap (take k) (sym (journal b)) ∙ c.shared-next.ensures.alike)
          (λ within same. c.shared-next.ensures.other (subst (λ (l : List JournalRow). k < length l) (sym (journal b)) below) within
          (subst (λ (l : List JournalRow). IfSome (slice_get l k) (λ row. IsAnswered row)) (sym (journal b)) answer)
          (ap (λ (l : List JournalRow). slice_get l k) (journal b) ∙ same));
      known = subst (IsHistoryOf c.args.space.now.limits c.args.space.now.clients) (sym (came b).3) (longer-known c.args.space.now.limits c.args.space.now.clients c.loop-at.space e c.loop-at.invariant.known (came b).1);
      begins = ap (take k) (ap rows_of (came b).3 ∙ sym (journal b)) ∙ c.shared-next.ensures.alike;
      next = subst (λ (h : History). IfSome (slice_get (rows_of h) k) (λ row. IsAnswered row)) (sym (came b).3) answer;
    }
