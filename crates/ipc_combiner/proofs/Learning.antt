-- What a client knows when another has told it what it knew, or combined in its place.
use Rattle.std.proofs.Common.{◌≡◌, ℕ, ◌∷◌, ap, sym, ◌∙◌, subst}
use Rattle.ipc_call.specs.declared.calls.Call.{Call}
use Rattle.ipc_call.specs.declared.replies.Reply.{Reply}
use Rattle.pub_rule.specs.declared.served.Served.{Ghosts}
use Rattle.pub_rule.specs.declared.work.Stage.TheVariants.{Free}
use Rattle.pub_rule.specs.Work.{GoesOn}
use Rattle.pub_list.specs.declared.joined.Joined.{Joined}
use Rattle.pub_list.specs.Clients.{view, work, told, IsSame}
use Rattle.pub_list.specs.Combining.{HasMet}
use Rattle.pub_list.specs.Learning.{Learns}
use Rattle.pub_list.specs.Records.{Shows}
use Rattle.pub_list.specs.Telling.{knowing}
use Rattle.pub_list.proofs.Marking.{goes_further}
use Rattle.ipc_combiner.specs.declared.calls.Pass.TheVariants.{Busy}
use Rattle.ipc_combiner.specs.declared.entries.Entry.{Entry}
use Rattle.ipc_combiner.specs.declared.shared.Shared.{Shared}
use Rattle.ipc_combiner.specs.Asking.{HasTried}
use Rattle.ipc_combiner.specs.Entries.{legal, own, replies}
use Rattle.ipc_combiner.specs.States.{IsIdle, IsInFlight, IsOf, Records, first_entries, is_asking}
use Rattle.ipc_combiner.specs.Telling.{AreOf, HasLearnt, HasTold, LearnsFrom}

module _ {g : Ghosts Shared Entry (ℕ × Call) Reply} (list : Records) where
  -- a client of the service stays one while its history goes on
  pub still_of : (old new : Joined Shared Entry (ℕ × Call) Reply g) → IsOf list old → IsSame old new → GoesOn (work old).seen (work new).seen → IsOf list new
  still_of old new is same goes = (same.1 ∙ is.0, goes_further (first_entries list) (work old).seen (work new).seen is.1 goes)

  -- another client combined
  pub met_another : (old new : Joined Shared Entry (ℕ × Call) Reply g) (c : ℕ) → IsOf list old → IsSame old new → GoesOn (work old).seen (work new).seen → HasMet list.clients old.client c (view old) (view new) → told new ≡ told old → HasTried list old new (Busy c)
  met_another old new c is same goes met known = (still_of old new is same goes, same.0, (met.0, met.1, ap (λ z. z.work) met.2, known))

  has_told : (old new : Joined Shared Entry (ℕ × Call) Reply g) → IsOf list old → IsSame old new → view new ≡ view old → HasTold list old new
  has_told old new is same still = ((same.1 ∙ is.0, subst (λ z. GoesOn (first_entries list) z.work.seen) (sym still) is.1), same.0, still)

  module _ (v o w : Joined Shared Entry (ℕ × Call) Reply g) (did : Learns legal own replies v o w) where
    has_learnt : HasLearnt v o w
    has_learnt = let t = did.3 in record {
      learns = did;
      far = (
        ap (λ z. z.work.stage) t.5,
        ap (λ z. z.work.posts) t.5,
        ap (λ z. z.work.entered) t.5,
        ap (λ z. z.work.got) t.5,
        subst (λ z. GoesOn (work v).seen z.work.seen) (sym t.5) t.2,
      );
      goes_on = subst (λ z. GoesOn (work o).seen z.work.seen) (sym t.5) t.3;
      is_legal = subst (λ z. legal z.work.seen) (sym t.5) t.4;
      heard = ap (λ z. z.work.heard) t.5 ∙ ap (λ (r : ℕ). record { client = r; post = (work o).posts } ∷ (work v).heard) o.own.working.own;
      passed = ap (λ z. z.work.passed) t.5;
      begun = ap (λ z. z.work.begun) t.5;
      met = ap (λ z. z.work.met) t.5;
    }

    pub learns_from : (p : Joined Shared Entry (ℕ × Call) Reply g) → AreOf list v o → IsSame v w → IsSame o p → view p ≡ view o → LearnsFrom list v o w p
    learns_from p are same other still = (still_of v w are.0 same has_learnt.far.4, same.0, has_learnt, has_told o p are.1 other still)

    shows : (work v).stage ≡ Free v.client → (own did.3.0 v.client ≡ (work v).entered) × (replies did.3.0 v.client ≡ (work v).got)
    shows stage = let t = subst (Shows own replies v.client did.3.0 (knowing (work v) (work o)) did.3.1) stage did.3.6 in (t.1, t.2)

    pub idle_still : IsIdle v → w.client ≡ v.client → IsIdle w
    idle_still is same = let t = did.3 in (
      has_learnt.far.0 ∙ is.0 ∙ ap (λ r. Free r) (sym same),
      ap (λ z. z.work.holds) t.5 ∙ is.1,
      (λ i. own (t.5 i).work.seen (same i)) ∙ (shows is.0).0 ∙ sym has_learnt.far.2,
      (λ i. replies (t.5 i).work.seen (same i)) ∙ (shows is.0).1 ∙ sym has_learnt.far.3,
      has_learnt.is_legal,
    )

    pub asking_still : IsInFlight v → IsInFlight w
    asking_still is = (ap (λ s. is_asking s) has_learnt.far.0 ∙ is.0, ap (λ z. z.work.holds) did.3.5 ∙ is.1, has_learnt.is_legal)

  pub idle_as_was : (old new : Joined Shared Entry (ℕ × Call) Reply g) → IsIdle old → IsSame old new → view new ≡ view old → IsIdle new
  idle_as_was old new is same still = (
    ap (λ z. z.work.stage) still ∙ is.0 ∙ ap (λ r. Free r) (sym same.0),
    ap (λ z. z.work.holds) still ∙ is.1,
    (λ i. own (still i).work.seen (same.0 i)) ∙ is.2 ∙ sym (ap (λ z. z.work.entered) still),
    (λ i. replies (still i).work.seen (same.0 i)) ∙ is.3 ∙ sym (ap (λ z. z.work.got) still),
    subst (λ z. legal z.work.seen) (sym still) is.4,
  )

  pub asking_as_was : (old new : Joined Shared Entry (ℕ × Call) Reply g) → IsInFlight old → view new ≡ view old → IsInFlight new
  asking_as_was old new is still = (ap (λ z. is_asking z.work.stage) still ∙ is.0, ap (λ z. z.work.holds) still ∙ is.1, subst (λ z. legal z.work.seen) (sym still) is.2)
