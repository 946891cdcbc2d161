use Rattle.std.proofs.Common.{◌≡◌, ℕ, ◌+◌, ◌<◌, ◌≤◌, List, ◌∷◌, ◌++◌, length, vec_len, Option, Some, sym, ap, ◌∙◌, subst, arith, All, length-append}
use Rattle.std.specs.Vec.Iter.{into_iter_items}
use Rattle.std.proofs.lemmas.List.Elements.{All-tail}
use Rattle.ipc_call.specs.declared.replies.Reply.{Reply}
use Rattle.ipc_space.specs.Telling.{replies_in}
use Rattle.ipc_desk.specs.Kept.{kept_for}
use Rattle.ipc_desk.proofs.Slots.{kept-put}
use Rattle.ipc_desk.proofs.asking.keep.Goals as goal

pub loop-client-preserved : goal.loop-client-preserved
loop-client-preserved c =
    let it = c.loop-client.invariant in
    let slots : List (Option Reply) = c.loop-client.kept.items in
    let rest : List (ℕ × Reply) = into_iter_items c.next.new.self in
    let items : into_iter_items c.loop-client.client-iterator ≡ (c.in-Some.client, c.in-Some.reply) ∷ rest = c.in-Some.ensures.steps.0 in
    let known : All (λ (t : ℕ × Reply). t.0 < vec_len c.args.kept.now) ((c.in-Some.client, c.in-Some.reply) ∷ rest) =
    subst (λ (l : List (ℕ × Reply)). All (λ (t : ℕ × Reply). t.0 < vec_len c.args.kept.now) l) items it.known in
    let first : c.in-Some.client < vec_len c.args.kept.now = known 0 (c.in-Some.client, c.in-Some.reply) (omega arith) in
    let within : c.in-Some.client < length slots = omega (arith, first, it.count, c.loop-client.kept.ok) in
    record {
      steps = tt;
      finite = tt;
      count = c.put.ensures.count ∙ it.count;
      known = All-tail (λ (t : ℕ × Reply). t.0 < vec_len c.args.kept.now) (c.in-Some.client, c.in-Some.reply) rest known;
      kept = λ r.
          let few : length (kept_for slots r ++ replies_in ((c.in-Some.client, c.in-Some.reply) ∷ rest) r) ≤ 1 =
          subst (λ (l : List Reply). length l ≤ 1) (sym (ap (λ (l : List (ℕ × Reply)). kept_for slots r ++ replies_in l r) (sym items) ∙ it.kept r))
          (subst (λ (l : List (ℕ × Reply)). length (kept_for c.args.kept.now.items r ++ replies_in l r) ≤ 1) (sym c.into_iter-client-iterator.ensures.into_iter_gives.0)
          (omega (arith, c.requires.apart r, length-append (kept_for c.args.kept.now.items r) (replies_in c.args.others.items r)))) in
          ap (λ (s : List (Option Reply)). kept_for s r ++ replies_in rest r) c.put.ensures.items
          ∙ kept-put slots c.in-Some.client c.in-Some.reply rest within r few
          ∙ ap (λ (l : List (ℕ × Reply)). kept_for slots r ++ replies_in l r) (sym items)
          ∙ it.kept r;
    }
