use Rattle.std.proofs.Common.{◌≡◌, ◌∙◌, ap, arith, List, refl, set, sym}
use Rattle.std.specs.Prelude.{map}
use Rattle.std.proofs.lemmas.List.{set-set}
use Rattle.ipc_model.specs.State.{Thread, has_pid}
use Rattle.ipc_model.specs.Tidy.{thread_in}
use Rattle.process_table.specs.Index.{as_ended, changed_if, count, under_pid}
use Rattle.process_table.proofs.Changing.{changed-all, changed-one, other-pid}
use Rattle.process_table.proofs.Indexing.{counted-less, known-live, of-pid}
use Rattle.process_table.proofs.threads.Threads.rename.Goals as goal
use Rattle.process_table.proofs.threads.Threads.rename.Goals.{After-put}

-- the thread in place of the one before
put : (c : After-put) → c.put.new.self ≡ set c.loop-client.self c.in-Some.client (under_pid c.args.other (thread_in c.loop-client.self c.in-Some.client))
put c =
    let now = c.loop-client.self in
    let client = c.in-Some.client in
    c.put.ensures
    ∙ ap (λ (t : Thread). set c.end.new.self client (under_pid c.args.other t)) c.get-thread.ensures
    ∙ ap (λ (ts : List Thread). set ts client (under_pid c.args.other (thread_in now client))) c.end.ensures
    ∙ set-set now client (as_ended (thread_in now client)) (under_pid c.args.other (thread_in now client))

pub loop-client-smaller : goal.loop-client-smaller
loop-client-smaller c =
    let now = c.loop-client.self in
    let client = c.in-Some.client in
    let test = has_pid c.args.pid in
    let there = c.in-Some.ensures.there in
    let new = under_pid c.args.other (thread_in now client) in
    let known = known-live now client (of-pid (thread_in now client) c.args.pid there).1 in
    let less = counted-less test now client new known there (other-pid (thread_in now client) c.args.pid c.args.other c.requires) in
    let same = ap (λ (ts : List Thread). count test ts) (put (goal.at.loop-client-smaller c).After-put) in
    omega (arith, less, same)

pub loop-client-preserved : goal.loop-client-preserved
loop-client-preserved c =
    let now = c.loop-client.self in
    let client = c.in-Some.client in
    let change = under_pid c.args.other in
    ap (λ (ts : List Thread). map (changed_if (has_pid c.args.pid) change) ts) (put (goal.at.loop-client-preserved c).After-put)
    ∙ changed-one (has_pid c.args.pid) change now client (change (thread_in now client)) refl c.in-Some.ensures.there
    (other-pid (thread_in now client) c.args.pid c.args.other c.requires)
    ∙ c.loop-client.invariant

pub returns : goal.returns
returns c =
    sym (changed-all (has_pid c.args.pid) (under_pid c.args.other) c.loop-client.self (λ client. c.in_default.ensures.none client (omega arith))) ∙ c.loop-client.invariant
