use Rattle.std.proofs.Common.{◌∙◌, ap}
use Rattle.sem_set.specs.Trials.{adj_in}
use Rattle.sem_undo.specs.Entries.{Undone}
use Rattle.sem_calls.specs.WithRows.{SetsWithRows, row_at, sems_of}
use Rattle.sem_calls.proofs.Exiting.{exit-done, exit-row, fewer-rows, other-rows}
use Rattle.sem_calls.proofs.sets.Sets.exit.Goals as goal

pub loop-id-smaller : goal.loop-id-smaller
loop-id-smaller c =
    fewer-rows c.self.inside.sets c.self.inside.undo c.loop-id.self c.self.view_is c.args.who.now c.process.result c.in-Some.id c.process.ensures c.take_all.new.self c.in-Some.ensures.rest c.undo_row.new.self c.as_slice.result.now c.undo_row.ensures
    _ c.in-Some.ensures.len

pub loop-id-preserved : goal.loop-id-preserved
loop-id-preserved c = record {
  rest = exit-row c.self.inside.sets c.self.inside.undo c.loop-id.self c.self.view_is c.args.who.now c.process.result c.in-Some.id c.process.ensures c.take_all.new.self c.in-Some.ensures.rest c.undo_row.new.self c.as_slice.result.now c.undo_row.ensures
      (λ num. ap (λ xs. adj_in xs num) c.as_slice.ensures.value ∙ c.in-Some.ensures.adjs num) ∙ c.loop-id.invariant.rest;
  rows = λ client set ne. other-rows c.self.inside.sets c.self.inside.undo c.loop-id.self c.self.view_is c.args.who.now c.process.result c.in-Some.id c.process.ensures c.take_all.new.self c.in-Some.ensures.rest c.undo_row.new.self c.as_slice.result.now c.undo_row.ensures
      client set ne ∙ c.loop-id.invariant.rows client set ne;
}

pub returns-clause-sems : goal.returns-clause-sems
returns-clause-sems c =
    ap (λ (v : Undone). sems_of (record { sets = c.self.inside.sets; undone = v })) c.in_default.ensures.same ∙ ap (λ (h : SetsWithRows). sems_of h) c.self.view_is
    ∙ exit-done c.self.inside.sets c.self.inside.undo c.loop-id.self c.self.view_is c.args.who.now c.process.result c.process.ensures c.in_default.ensures.none ∙ c.loop-id.invariant.rest

pub returns-clause-rows : goal.returns-clause-rows
returns-clause-rows c = λ client set ne.
    ap (λ (v : Undone). row_at (record { sets = c.self.inside.sets; undone = v }) client set) c.in_default.ensures.same ∙ ap (λ (h : SetsWithRows). row_at h client set) c.self.view_is
    ∙ c.loop-id.invariant.rows client set ne
