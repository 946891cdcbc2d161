use Rattle.std.proofs.Common.{◌∙◌, ap, arith, List, refl, sym}
use Rattle.std.specs.Prelude.{map}
use Rattle.ipc_model.specs.State.{Thread, has_pid}
use Rattle.ipc_model.specs.Tidy.{thread_in}
use Rattle.process_table.specs.Index.{as_ended, changed_if, count}
use Rattle.process_table.proofs.Changing.{changed-all, changed-one}
use Rattle.process_table.proofs.Indexing.{counted-less, known-live, of-no-pid, of-pid}
use Rattle.process_table.proofs.threads.Threads.end_all.Goals as goal

pub loop-client-smaller : goal.loop-client-smaller
loop-client-smaller c =
    let now = c.loop-client.self in
    let client = c.in-Some.client in
    let test = has_pid c.args.pid in
    let there = c.in-Some.ensures.there in
    let new = as_ended (thread_in now client) in
    let known = known-live now client (of-pid (thread_in now client) c.args.pid there).1 in
    let less = counted-less test now client new known there (of-no-pid new c.args.pid refl) in
    let same = ap (λ (ts : List Thread). count test ts) c.end.ensures in
    omega (arith, less, same)

pub loop-client-preserved : goal.loop-client-preserved
loop-client-preserved c =
    let now = c.loop-client.self in
    let client = c.in-Some.client in
    let new = as_ended (thread_in now client) in
    ap (λ (ts : List Thread). map (changed_if (has_pid c.args.pid) as_ended) ts) c.end.ensures
    ∙ changed-one (has_pid c.args.pid) as_ended now client new refl c.in-Some.ensures.there (of-no-pid new c.args.pid refl)
    ∙ c.loop-client.invariant

pub returns : goal.returns
returns c =
    sym (changed-all (has_pid c.args.pid) as_ended c.loop-client.self (λ client. c.in_default.ensures.none client (omega arith))) ∙ c.loop-client.invariant
