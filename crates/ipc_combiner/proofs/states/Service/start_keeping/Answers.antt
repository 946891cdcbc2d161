use Rattle.std.proofs.Common.{◌≡◌, ℕ, rules, arith, length, sym, ap, ◌∙◌, subst, IfSome, All}
use Rattle.std.proofs.lemmas.List.{length-map}
use Rattle.std.specs.List.{slice_get}
use Rattle.ipc_combiner.specs.Serving.{entries_in}
use Rattle.ipc_combiner.specs.States.{IsUnjoinedOf}
use Rattle.ipc_combiner.proofs.Opened.{placed, all_of}
use Rattle.ipc_combiner.proofs.states.Service.start_keeping.Goals as goal

pub returns : goal.returns
returns c =
    let list = c.in_ok-list.list in let unjoined = c.in_ok-unjoined.unjoined.items in
    let same = ap entries_in (sym c.in_ok-list.ensures.opening) in record {
      opening = search rules;
      keeps = ap (λ s. s.keeping) c.in_ok-list.ensures.opening;
      count = let mapped = length-map unjoined (λ u. u.fresh) in let same = ap length c.in_ok-unjoined.ensures in let all = c.in_ok-list.ensures.clients.1 in let size = c.args.clients.ok.0 in let few = c.requires.few in
          omega (arith, mapped, same, all, size, few, c.len-count.ensures);
      numbers = placed (λ u. u.fresh) (λ k f. f.client ≡ k) unjoined
          (subst (λ fs. (k : ℕ) → IfSome (slice_get fs k) (λ f. f.client ≡ k)) (sym c.in_ok-unjoined.ensures) c.in_ok-list.ensures.numbers);
      service = all_of (λ u. u.fresh) (λ f. IsUnjoinedOf list f) unjoined
          (subst (λ fs. All (λ f. IsUnjoinedOf list f) fs) (sym c.in_ok-unjoined.ensures) (λ k d lt. (c.in_ok-list.ensures.seats k d lt, c.in_ok-list.ensures.seen k d lt ∙ same)));
    }
