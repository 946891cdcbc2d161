use Rattle.std.proofs.Common.{◌++◌, ◌∷◌, [], length, map, sym, ap, subst, ◌∙◌, arith}
use Rattle.std.proofs.lemmas.List.{length_push, map-append, take_more}
use Rattle.ipc_jobs.specs.Courses.{IsCountOf}
use Rattle.ipc_jobs.specs.declared.counting.Counts.{Counts}
use Rattle.ipc_jobs.proofs.Counted.{none_counted, one_counted}
use Rattle.ipc_jobs.proofs.counting.counts_of.Goals as goal

pub loop-client-init : goal.loop-client-init
loop-client-init c = (
  ap length c.new-counts.ensures.items,
  none_counted (IsCountOf c.args.space.now) c.new-counts.result.items c.new-counts.ensures.items,
  ap (map (λ (n : Counts). n.memory)) c.new-counts.ensures.items,
)

pub loop-client-preserved : goal.loop-client-preserved
loop-client-preserved c = let i = c.loop-client.invariant in let more = c.in_ok-push.ensures.items in let one = c.counts_in.ensures in let h = c.args.space.now in (
  (let size = ap length more ∙ length_push _ _ in let was = i.0 in omega (arith, size, was)),
  one_counted (IsCountOf h) c.loop-client.counts.items c.push.new.self.items c.counts_in.result more (subst (λ k. IsCountOf h k c.counts_in.result) (sym i.0) one.counts) i.1,
  ap (map (λ (n : Counts). n.memory)) more ∙ map-append (λ (n : Counts). n.memory) c.loop-client.counts.items (c.counts_in.result ∷ []) ∙ (λ j. i.2 j ++ one.memory j ∷ [])
      ∙ sym (take_more c.args.memory.now c.loop-client.client 0 (let below = c.loop-client-test.true in let count = c.clients-client-end.ensures.count in let all = c.requires in omega (arith, below, count, all))),
)

pub returns-clause-counts : goal.returns-clause-counts
returns-clause-counts c = let i = c.loop-client.invariant in
    ((let all = i.0 in let count = c.clients-client-end.ensures.count in let end = c.loop-client-test.false in let within = c.loop-client.auto.client-end in omega (arith, all, count, end, within)), i.1)
