use Rattle.std.proofs.Common.{◌++◌, [], ◌∷◌, sym, ap, ◌∙◌, arith, append_assoc}
use Rattle.ipc_model.specs.Step.{Moved, settled}
use Rattle.ipc_namespace.specs.Touching.{is_listed}
use Rattle.ipc_namespace.proofs.Quiet.{of-listed, quiet-turn}
use Rattle.ipc_namespace.proofs.Settling.{settled-turn}
use Rattle.ipc_namespace.proofs.namespace.Namespace.settle_several.Goals as goal

pub loop-completion-preserved : goal.loop-completion-preserved
loop-completion-preserved c =
    let inv = c.loop-completion.invariant in
    let e = c.in-Some.completion in
    let new = c.complete_listed.new.self in
    let turn = settled-turn c.loop-completion.self new e c.in-Some.ensures.first c.in-Some.ensures.shorter in
    let pushed = (let p = c.push.ensures.len in rw c.unwrap.ensures at p) in
    record {
      state = inv.state ∙ ap (λ (m : Moved). m.state) turn;
      ended = inv.ended ∙ ap (λ (m : Moved). c.loop-completion.ended.items ++ m.ended) turn ∙ sym (append_assoc c.loop-completion.ended.items (e ∷ []) (settled new).ended)
          ∙ ap (λ es. es ++ (settled new).ended) (sym (let p = c.push.ensures.items in rw c.unwrap.ensures at p));
      quiet = quiet-turn c.loop-completion.self new e (is_listed c.args.owed.now) (of-listed c.args.owed.now) inv.quiet c.in-Some.ensures.first;
      room = omega (arith, pushed, c.in-Some.ensures.shorter, c.push.ensures.capacity, inv.room);
      few = omega (arith, pushed, c.in-Some.ensures.shorter, inv.few);
      capacity = omega (arith, c.push.ensures.capacity, inv.capacity);
    }
