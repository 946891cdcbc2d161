use Rattle.std.proofs.Common.{rules, ◌≡◌, ℕ, List, ◌++◌, ap, ◌∙◌}
use Rattle.std.proofs.lemmas.Result.{IfOk-weaker}
use Rattle.ipc_history.specs.History.{run}
use Rattle.ipc_model.specs.Listings.{lines_of}
use Rattle.ipcsh_threads.specs.Rows.{count_rows, object_lines}
use Rattle.ipcsh_threads.proofs.RunLemmas.{all_gone}
use Rattle.ipcsh_threads.proofs.running.run_script.Goals as goal

pub returns : goal.returns
returns g c =
    let e = c.in_ok-end.ensures in
    let rows = λ (names : List (List ℕ)). count_rows names c.in_ok-end.end.counts.items ++ object_lines (lines_of (run c.in_ok-end.end.space)) in
    let same : c.as_slice.result.now ≡ c.args.script.names.items = search rules in
    IfOk-weaker c.ending_of.result _ _ (λ ending made. (
      c.in_ok-end.end.space,
      c.in_ok-end.end.counts.items,
      record {
        limits = e.opening.0;
        clients = e.opening.1;
        legal = e.legal;
        whole = all_gone _ _ _ _ e.courses;
        counted = e.counts;
      },
      made.0 ∙ ap rows same,
      made.1,
    )) c.ending_of.ensures
