-- A client that tries once to combine, and then looks for its answer.
use Rattle.std.proofs.Common.{◌≡◌, ℕ, [], sym, refl, ◌∙◌, subst, inr, arith, append-nil}
use Rattle.std.specs.Arc.{arc_value}
use Rattle.ipc_call.specs.declared.calls.Call.{Call}
use Rattle.ipc_call.specs.declared.replies.Reply.{Reply}
use Rattle.pub_rule.specs.declared.served.Served.{Ghosts}
use Rattle.pub_rule.specs.Lists.{IsOn}
use Rattle.pub_rule.specs.WorkSteps.{meeting}
use Rattle.pub_list.specs.declared.joined.Joined.{Joined}
use Rattle.pub_list.specs.Clients.{work}
use Rattle.ipc_combiner.specs.declared.calls.Pass.{Pass}
use Rattle.ipc_combiner.specs.declared.calls.Pass.TheVariants.{Passed, Busy}
use Rattle.ipc_combiner.specs.declared.entries.Entry.{Entry}
use Rattle.ipc_combiner.specs.declared.shared.Shared.{Shared}
use Rattle.ipc_combiner.specs.Asking.{HasCombined, HasDone, HasTried, IsFurther, IsStill}
use Rattle.ipc_combiner.specs.States.{Records}
use Rattle.ipc_member.specs.declared.states.Posted.{Posted}
use Rattle.ipc_member.specs.declared.calls.Looked.{Looked}
use Rattle.ipc_member.specs.declared.calls.Looked.TheVariants.{Done, Still}
use Rattle.ipc_member.specs.Members.{Known, HasAdvanced, HasLooked}

met_one : (u : Known) (c : ℕ) → IsFurther u (meeting c u)
met_one u c = record {
  stage = refl;
  posts = refl;
  entered = refl;
  got = refl;
  seen = ([], sym (append-nil u.seen));
  heard = refl;
  passed = λ r k is. is;
  begun = omega arith;
  met = λ r is. inr is;
}

module _ {g : Ghosts Shared Entry (ℕ × Call) Reply} (list : Records) (u w : Joined Shared Entry (ℕ × Call) Reply g) where
  combined : (pass : Pass) → HasCombined list u w pass → IsFurther (work u) (work w)
  combined Passed did = record {
    stage = did.1.0;
    posts = did.1.1;
    entered = did.1.2;
    got = did.1.3;
    seen = did.1.4;
    heard = did.2.0;
    passed = did.2.1;
    begun = let more = did.0.begun in omega arith;
    met = λ r is. subst (IsOn r) (sym did.0.met) is;
  }
  combined (Busy c) did = subst (λ (z : Known). IsFurther (work u) z) (sym did.2) (met_one (work u) c)

pub advanced : (v p : Posted) (pass : Pass) (r : Looked) → arc_value p.service ≡ arc_value v.service
    → HasTried (arc_value v.service).list v.flight.joined p.flight.joined pass → HasLooked p r → HasAdvanced v r
advanced v p pass (Done m reply) same tried looked =
    let known = work p.flight.joined in
    let further = combined (arc_value v.service).list v.flight.joined p.flight.joined pass tried.2 in
    (looked.0 ∙ same, looked.1 ∙ tried.1, (known, further, subst (λ (q : ℕ). HasDone q known (work m.idle.joined) reply) tried.1 looked.2))
advanced v p pass (Still q seen) same tried looked =
    let known = work p.flight.joined in
    let further = combined (arc_value v.service).list v.flight.joined p.flight.joined pass tried.2 in
    (looked.0 ∙ same, looked.1 ∙ tried.1, (known, further, subst (λ (c : ℕ). IsStill c known (work q.flight.joined) seen) tried.1 looked.2))
