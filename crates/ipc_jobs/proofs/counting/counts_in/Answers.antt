use Rattle.std.proofs.Common.{ap, ◌∙◌}
use Rattle.std.specs.Prelude.{count_by}
use Rattle.ipc_jobs.specs.Rows.{is_call_of, is_refusal_of}
use Rattle.ipc_jobs.proofs.Counted.{counted_calls, counted_refusals}
use Rattle.ipc_jobs.proofs.counting.counts_in.Goals as goal

pub returns-clause-counts : goal.returns-clause-counts
returns-clause-counts c =
    let h = c.args.space.now in
    let k = c.args.client in (
      c.count_calls.ensures ∙ ap (count_by (is_call_of k)) c.journal-rows.ensures.rows ∙ counted_calls h k,
      c.count_refusals.ensures ∙ ap (count_by (is_refusal_of k)) c.journal-rows.ensures.rows ∙ counted_refusals h k,
    )
