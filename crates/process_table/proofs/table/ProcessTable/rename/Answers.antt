use Rattle.std.proofs.Common.{◌≡◌, ◌∙◌, ap, false, List, subst, sym}
use Rattle.std.specs.Prelude.{map}
use Rattle.std.specs.List.{list_any}
use Rattle.ipc_model.specs.State.{Thread, has_pid}
use Rattle.ipc_model.specs.Processes.{is_other, renamed}
use Rattle.ipc_model.specs.Tidy.{AreNumbered, thread_in}
use Rattle.ipc_model.proofs.Threads.{numbered-renamed, own-pid}
use Rattle.process_table.specs.Index.{HaveOnePid, changed_if, under_pid}
use Rattle.process_table.specs.Table.{Table}
use Rattle.process_table.proofs.Numbering.{one-renamed, renames-all, renames-none}
use Rattle.process_table.proofs.table.ProcessTable.rename.Goals as goal
use Rattle.process_table.proofs.table.ProcessTable.rename.Goals.{After-rename}

left : (c : After-rename) → c.rename.new.self ≡ map (renamed (thread_in c.self.inside.threads c.args.client).process c.args.pid) c.self.inside.threads
left c =
    let ts = c.self.inside.threads in
    let live = ap (λ (t : Table). (thread_in t.threads c.args.client).has_ended) c.self.view_is ∙ c.requires.live in
    c.rename.ensures
    ∙ ap (λ (t : Thread). map (changed_if (has_pid t.pid) (under_pid c.args.pid)) ts) c.get-own.ensures
    ∙ renames-all ts c.self.inside.next c.args.client c.self.invariant.0 c.self.invariant.1 live c.args.pid

pub invariant_of-self : goal.invariant_of-self
invariant_of-self c =
    let before = (goal.at.invariant_of-self c).After-rename in
    let ts = c.self.inside.threads in
    let process = (thread_in ts c.args.client).process in
    let unused : list_any (is_other process c.args.pid) ts ≡ false =
    ap (λ (t : Table). list_any (is_other (thread_in t.threads c.args.client).process c.args.pid) t.threads) c.self.view_is ∙ c.requires.unused in (
      subst (λ (us : List Thread). AreNumbered us c.self.inside.next) (sym (left before))
          (numbered-renamed process c.args.pid ts c.self.inside.next c.requires.some (λ d live is. own-pid ts process c.args.pid d unused live is) c.self.invariant.0),
      subst (λ (us : List Thread). HaveOnePid us) (sym (left before)) (one-renamed process c.args.pid ts c.self.invariant.1),
    )

pub returns-then-own-pid : goal.returns-then-own-pid
returns-then-own-pid c =
    let before = (goal.at.returns-then-own-pid c).After-rename in
    ap (λ (us : List Thread). record { threads = us; next = c.self.inside.next }) (left before)
    ∙ ap (λ (t : Table). record { threads = map (renamed (thread_in t.threads c.args.client).process c.args.pid) t.threads; next = t.next }) c.self.view_is

pub returns-else-own-pid : goal.returns-else-own-pid
returns-else-own-pid c =
    let ts = c.self.inside.threads in
    let live = ap (λ (t : Table). (thread_in t.threads c.args.client).has_ended) c.self.view_is ∙ c.requires.live in
    let same = ap (λ (t : Thread). t.pid) (sym c.get-own.ensures) ∙ c.if-own-pid.false in
    sym c.self.view_is
    ∙ ap (λ (us : List Thread). record { threads = us; next = c.self.inside.next }) (renames-none ts c.self.inside.next c.args.client c.self.invariant.0 c.self.invariant.1 live c.args.pid same)
    ∙ ap (λ (t : Table). record { threads = map (renamed (thread_in t.threads c.args.client).process c.args.pid) t.threads; next = t.next }) c.self.view_is
