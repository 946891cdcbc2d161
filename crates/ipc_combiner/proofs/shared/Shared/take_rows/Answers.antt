use Rattle.std.proofs.Common.{◌≡◌, ℕ, ◌+◌, ◌<◌, ◌^◌, ◌∙◌, drop, length, sym, ap, subst, vec_len, Ok, rules}
use Rattle.ipc_history.specs.History.{History, rows_of}
use Rattle.ipc_space.specs.Spaces.{Parts}
use Rattle.ipc_combiner.specs.Laws.{history-entries}
use Rattle.ipc_combiner.specs.Parts.{Takes}
use Rattle.ipc_combiner.specs.Serving.{entries_in, history_of}
use Rattle.ipc_combiner.proofs.shared.Shared.take_rows.Goals as goal

pub returns-in-UntilTaken-clause-takes : goal.returns-in-UntilTaken-clause-takes
returns-in-UntilTaken-clause-takes c =
    let self = c.args.self.now in
    let rows = c.take_rows.result in
    let same : history_of self ≡ c.deref_mut.result.now.history = ap (λ (l : Parts). l.history) (sym c.deref_mut.ensures.value) in
    let means = history-entries self.keeping (history_of self) ∙ same in
    let from : c.deref_mut.result.now.given ≡ c.args.from = ap (λ (l : Parts). l.given) c.deref_mut.ensures.value ∙ search rules in
    subst (λ k. Takes k (entries_in self) c.args.from (Ok rows)) (sym c.in-UntilTaken.is) (
      c.take_rows.ensures.rows ∙ ap (λ (n : ℕ). drop n (rows_of c.deref_mut.result.now.history)) from ∙ ap (λ (h : History). drop c.args.from (rows_of h)) (sym means),
      ap (λ (n : ℕ). n + vec_len rows) (sym from) ∙ c.take_rows.ensures.count ∙ ap (λ (h : History). length (rows_of h)) (sym means),
      subst (λ (h : History). length (rows_of h) < 2 ^ 64) (sym means) c.take_rows.ensures.fits,
    )
