-- What a client that has joined has in its hands, and its seat after a step on a publication record.
use Rattle.std.proofs.Common.{◌≡◌, ℕ, true, false, ◌+◌, ◌-◌, ◌<◌, List, [], ◌∷◌, sym, ap, ◌∙◌, subst}
use Rattle.std.proofs.lemmas.Bool.{false≢true}
use Rattle.atomic_table.specs.Seated.{TableId}
use Rattle.atomic_table.specs.Table.{Me}
use Rattle.atomic_table.specs.declared.shared.Seat.{Seat}
use Rattle.pub_rule.specs.declared.walk.Walk.{Walk}
use Rattle.pub_rule.specs.declared.walk.View.{View}
use Rattle.pub_rule.specs.declared.work.Work.{Work}
use Rattle.pub_rule.specs.declared.work.Stage.{Stage}
use Rattle.pub_rule.specs.declared.work.Stage.TheVariants.{Spent, Maker, Away, Free, Asking, Token}
use Rattle.pub_rule.specs.declared.work.Serving.{Serving}
use Rattle.pub_rule.specs.declared.served.Slot.{Slot}
use Rattle.pub_rule.specs.declared.served.Slot.TheVariants as slots
use Rattle.pub_rule.specs.Lists.{IsOn}
use Rattle.pub_rule.specs.Work.{IsClient, IsMarked}
use Rattle.pub_rule.specs.WorkSplits.{owner_of}
use Rattle.pub_list.specs.Joined.{IsJoined, is_on, IsWorking, is_live, own_slot, with_state, with_taken, work}

client_is : {C : Type 0} (q : ℕ) (st : Stage C) → owner_of st ≡ q → is_live st ≡ true → IsClient q st
client_is q Spent e l = absurd (false≢true l)
client_is q (Maker k) e l = absurd (false≢true l)
client_is q (Away c) e l = e
client_is q (Free c) e l = e
client_is q (Asking c k) e l = e
client_is q (Token c) e l = absurd (false≢true l)

module _ {C R S : Type 0} where
  -- what the front slot in the hands is
  abbrev pub place_in : List (ℕ × Slot C R S) → ℕ
  place_in [] = 0
  place_in (x ∷ xs) = x.0

  abbrev pub slot_in : List (ℕ × Slot C R S) → Slot C R S
  slot_in [] = slots.Empty
  slot_in (x ∷ xs) = x.1

  -- a slot in front that is known to be empty
  pub empty_there : (r : ℕ) (hands others more : List (ℕ × Slot C R S)) (x : Slot C R S) → hands ≡ (r, slots.Empty) ∷ others → hands ≡ (r, x) ∷ more → x ≡ slots.Empty
  empty_there r hands others more x empty was = ap slot_in (sym was ∙ empty)

  -- what was put in front, and is known to be empty
  pub empty_put : {V : Type 0} (now : Me (Slot C R S) V) (v : V) (r : ℕ) (others : List (ℕ × Slot C R S)) (x : Slot C R S) → x ≡ slots.Empty → now ≡ (v, (r, x) ∷ others) → now ≡ (v, (r, slots.Empty) ∷ others)
  empty_put now v r others x empty put = put ∙ ap (λ (z : Slot C R S). (v, (r, z) ∷ others)) empty

  -- the call in it, else d
  abbrev pub call_of : C → Slot C R S → C
  call_of d (slots.Call c) = c
  call_of d _ = d

  abbrev pub call_in : C → List (ℕ × Slot C R S) → C
  call_in d [] = d
  call_in d (x ∷ xs) = call_of d x.1

module _ {E C R S : Type 0} where
  pub is_client : (client n : ℕ) (w : Work E C R) (hands : List (ℕ × Slot C R S)) → IsWorking client n w hands → IsClient client w.stage
  is_client client n w hands i = client_is client w.stage i.own i.live

  -- where the client doesn't combine, it has at most its own slot
  pub alone : (client n : ℕ) (w : Work E C R) (hands : List (ℕ × Slot C R S)) (st : Stage C) → IsWorking client n w hands → w.stage ≡ st → w.holds ≡ false → hands ≡ own_slot st
  alone client n w hands st i is free = i.hands_are ∙ (λ j. with_taken (i.quiet free j) (with_state n (free j) (own_slot (is j))))

  -- a combiner that has taken no record has the state's slot in front, and one that has taken a record has that
  pub with_both : (client n : ℕ) (w : Work E C R) (hands : List (ℕ × Slot C R S)) (serving : Serving C) → IsWorking client n w hands → w.holds ≡ true → w.serving ≡ serving → hands ≡ with_taken serving ((n, slots.Empty) ∷ own_slot w.stage)
  with_both client n w hands serving i holds is = i.hands_are ∙ (λ j. with_taken (is j) (with_state n (holds j) (own_slot w.stage)))

  -- the seat after a step that leaves the list
  pub rejoined : (client : ℕ) (old new : Seat (Slot C R S) (View (Work E C R))) → IsJoined client old → new.table_id ≡ old.table_id → new.me.0.walk ≡ old.me.0.walk → (work new).heard ≡ (work old).heard → IsWorking client (old.table_id.slots - 1) (work new) new.me.1 → IsJoined client new
  rejoined client old new own same walk heard working = record {
    role = ap (λ (v : Walk). v.role) walk ∙ own.role;
    working = subst (λ (z : TableId). IsWorking client (z.slots - 1) (work new) new.me.1) (sym same) working;
    small = subst (λ (z : TableId). client + 1 < z.slots) (sym same) own.small;
    listed = λ c h. subst (λ (z : TableId). c < z.slots - 1) (sym same) (own.listed c (subst (IsOn c) (ap (λ (v : Walk). v.list) walk) h));
    others = λ c h. subst (λ (z : TableId). c < z.slots - 1) (sym same) (own.others c (subst (IsOn c) (ap (λ (v : Walk). v.known) walk) h));
    heard = λ r k h. ap (is_on r) (ap (λ (v : Walk). v.known) walk) ∙ own.heard r k (subst (IsMarked r k) heard h);
  }
