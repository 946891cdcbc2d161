-- What lies in the state's slot, after each client was handed in.
use Rattle.std.proofs.Common.{◌≡◌, ℕ, List, length, sym, ap, ◌∙◌, subst}
use mathlib.Core.Option.{some, some-injective}
use lib.ListN.{get_elem?}
use Rattle.atomic_table.specs.Table.{Final, Seen}
use Rattle.pub_rule.specs.declared.served.Served.{Ghosts}
use Rattle.pub_rule.specs.declared.walk.View.{View}
use Rattle.pub_rule.specs.declared.work.Work.{Work}
use Rattle.pub_rule.specs.declared.work.Stage.TheVariants.{Spent}
use Rattle.pub_rule.specs.declared.served.Slot.{Slot}
use Rattle.pub_rule.specs.declared.served.Slot.TheVariants as slots
use Rattle.pub_rule.specs.Rule.{Ruled}
use Rattle.pub_rule.specs.Work.{Serves}
use Rattle.pub_rule.proofs.Endings.{end}
use Rattle.pub_list.specs.Closing.{AreTrue}

abbrev state_or : {C R S : Type 0} → S → Slot C R S → S
state_or d (slots.State x) = x
state_or d _ = d

module _ {E C R S : Type 0} (served : Ghosts S E C R) where
  open served use {history, legal, own, replies}

  pub record IsEnd (v : Work E C R) (y : Slot C R S) : Type 0 where
    pub state : S
    pub is : y ≡ slots.State state
    pub true_of : (x : S) → y ≡ slots.State x → legal (history x) × AreTrue own replies (history x) v.closed

  pub at_end : (n clients id : ℕ) (v : View (Work E C R)) (words : List ℕ) (items : List (Slot C R S)) (y : Slot C R S) → Final (Seen (Ruled n (Serves served n)) id v) words items → v.work.stage ≡ Spent → n ≡ clients → length v.work.closed ≡ clients
      → get_elem? items clients ≡ some y → IsEnd v.work y
  at_end n clients id v words items y f is same full there = let e = end served n f.0 id v f.1.0 f.1.1 is (full ∙ sym same) in
      let at : get_elem? items clients ≡ some (slots.State e.state) = subst (λ (k : ℕ). get_elem? items k ≡ some (slots.State e.state)) same (f.4 n (slots.State e.state) e.home) in
      let it : y ≡ slots.State e.state = some-injective y (slots.State e.state) (sym there ∙ at) in record {
        state = e.state;
        is = it;
        true_of = λ x h. let one : e.state ≡ x = ap (state_or x) (sym it ∙ h) in subst (λ (z : S). legal (history z) × AreTrue own replies (history z) v.work.closed) one (e.is_legal, e.told);
      }
