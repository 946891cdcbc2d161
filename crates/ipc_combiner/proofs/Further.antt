-- What a client that waits for its reply still knows.
use Rattle.std.proofs.Common.{◌≡◌, ℕ, List, [], sym, refl, ◌∙◌, subst, inr, arith, append-nil}
use Rattle.ipc_call.specs.declared.calls.Call.{Call}
use Rattle.ipc_call.specs.declared.replies.Reply.{Reply}
use Rattle.pub_rule.specs.declared.served.Served.{Ghosts}
use Rattle.pub_rule.specs.declared.work.Work.{Work}
use Rattle.pub_rule.specs.Lists.{IsOn}
use Rattle.pub_rule.specs.Work.{GoesOn}
use Rattle.pub_rule.specs.WorkSteps.{meeting, seeing}
use Rattle.pub_list.specs.declared.joined.Joined.{Joined}
use Rattle.pub_list.specs.Clients.{work}
use Rattle.pub_list.proofs.Marking.{goes_further}
use Rattle.ipc_combiner.specs.declared.calls.Pass.{Pass}
use Rattle.ipc_combiner.specs.declared.calls.Pass.TheVariants.{Passed, Busy}
use Rattle.ipc_combiner.specs.declared.entries.Entry.{Entry}
use Rattle.ipc_combiner.specs.declared.shared.Shared.{Shared}
use Rattle.ipc_combiner.specs.Asking.{IsFurther, HasCombined}
use Rattle.ipc_combiner.specs.States.{Records}

abbrev Known : Type 0
Known = Work Entry (ℕ × Call) Reply

pub further : (v u w : Known) → IsFurther v u → IsFurther u w → IsFurther v w
further v u w a b = record {
  stage = b.stage ∙ a.stage;
  posts = b.posts ∙ a.posts;
  entered = b.entered ∙ a.entered;
  got = b.got ∙ a.got;
  seen = goes_further v.seen u.seen w.seen a.seen b.seen;
  heard = b.heard ∙ a.heard;
  passed = λ r k is. b.passed r k (a.passed r k is);
  begun = let first = a.begun in let second = b.begun in omega arith;
  met = λ r is. b.met r (a.met r is);
}

looked : (u : Known) (h : List Entry) (k : ℕ) → GoesOn u.seen h → IsFurther u (seeing h k u)
looked u h k goes = record {
  stage = refl;
  posts = refl;
  entered = refl;
  got = refl;
  seen = goes;
  heard = refl;
  passed = λ r j is. is;
  begun = omega arith;
  met = λ r is. is;
}

-- it looked
pub still_further : (v u w : Known) (h : List Entry) (k : ℕ) → IsFurther v u → GoesOn u.seen h → w ≡ seeing h k u → IsFurther v w
still_further v u w h k is goes saw = further v u w is (subst (λ z. IsFurther u z) (sym saw) (looked u h k goes))

met_one : (u : Known) (c : ℕ) → IsFurther u (meeting c u)
met_one u c = record {
  stage = refl;
  posts = refl;
  entered = refl;
  got = refl;
  seen = ([], sym (append-nil u.seen));
  heard = refl;
  passed = λ r j is. is;
  begun = omega arith;
  met = λ r is. inr is;
}

-- it tried to combine
module _ {g : Ghosts Shared Entry (ℕ × Call) Reply} (list : Records) (u w : Joined Shared Entry (ℕ × Call) Reply g) where
  pub combined : (pass : Pass) → HasCombined list u w pass → IsFurther (work u) (work w)
  combined Passed did = record {
    stage = did.1.0;
    posts = did.1.1;
    entered = did.1.2;
    got = did.1.3;
    seen = did.1.4;
    heard = did.2.0;
    passed = did.2.1;
    begun = let more = did.0.begun in omega arith;
    met = λ r is. subst (IsOn r) (sym did.0.met) is;
  }
  combined (Busy c) did = subst (λ z. IsFurther (work u) z) (sym did.2) (met_one (work u) c)
