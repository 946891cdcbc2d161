-- A client's seat that is handed in as the list is closed.
use Rattle.std.proofs.Common.{◌≡◌, ℕ, false, List, [], ◌∷◌, sym, ap, ◌∙◌, subst}
use Rattle.atomic_table.specs.Table.{Me, rest, Allows}
use Rattle.pub_rule.specs.declared.served.Served.{Ghosts}
use Rattle.pub_rule.specs.declared.walk.View.{View}
use Rattle.pub_rule.specs.declared.work.Work.{Work}
use Rattle.pub_rule.specs.declared.work.Stage.TheVariants.{Free}
use Rattle.pub_rule.specs.declared.served.Slot.{Slot}
use Rattle.pub_rule.specs.declared.served.Slot.TheVariants as slots
use Rattle.pub_rule.specs.Words.{state_word}
use Rattle.pub_rule.specs.Rule.{Ruled}
use Rattle.pub_rule.specs.Work.{Serves}
use Rattle.pub_rule.specs.WorkSteps.{slot_given}
use Rattle.pub_list.specs.Joined.{IsWorking}
use Rattle.pub_rule.proofs.Clientwork.{give}
use Rattle.pub_list.proofs.Working.{alone, is_client}

module _ {E C R S : Type 0} where
  -- the slot in its hands is its own, and empty
  pub own_in_hands : (client n : ℕ) (w : Work E C R) (hands : List (ℕ × Slot C R S)) → IsWorking client n w hands → w.holds ≡ false → w.stage ≡ Free client → hands ≡ (client, slots.Empty) ∷ rest hands
  own_in_hands client n w hands i free is = let one : hands ≡ (client, slots.Empty) ∷ [] = alone client n w hands (Free client) i is free in one ∙ ap (λ (l : List (ℕ × Slot C R S)). (client, slots.Empty) ∷ rest l) (sym one)

  pub give_at : (served : Ghosts S E C R) (n size id client word m : ℕ) (me : Me (Slot C R S) (View (Work E C R))) → word ≡ state_word client → IsWorking client m me.0.work me.1 → me.0.work.holds ≡ false
      → Allows (Ruled n (Serves served n)) size id me word (λ k. k) (λ k m'. slot_given me m')
  give_at served n size id client word m me is i free = subst (λ (w : ℕ). Allows (Ruled n (Serves served n)) size id me w (λ k. k) (λ k m'. slot_given me m')) (sym is)
      (give served n size id client me (is_client client m me.0.work me.1 i) (λ stage. own_in_hands client m me.0.work me.1 i free stage))
