-- The word of a record that the holder has taken is 2, so an exchange from 2 is a store.
use Rattle.std.proofs.Common.{◌≡◌, ℕ, true, eqb, List, get_or, map, sym, refl, ap, ◌∙◌, subst, eq-eqb}
use mathlib.Core.Option.{Option, some}
use lib.ListN.{get_elem?}
use prog.Atomic.{either}
use Rattle.atomic_table.specs.Table.{Me, Act, Allows, Valid, stepped, carried_after}
use Rattle.atomic_table.proofs.Lists.{at_map}
use Rattle.pub_rule.specs.declared.served.Served.{Ghosts}
use Rattle.pub_rule.specs.declared.walk.View.{View}
use Rattle.pub_rule.specs.declared.work.Work.{Work}
use Rattle.pub_rule.specs.declared.work.Serving.{Serving}
use Rattle.pub_rule.specs.declared.served.Slot.{Slot}
use Rattle.pub_rule.specs.Words.{state_word}
use Rattle.pub_rule.specs.Rule.{Ruled, work_of}
use Rattle.pub_rule.specs.Work.{Phase, away, free, posted, taken, parked, resumed, refused, replied, IsTaken, IsTakenIn, word_of, Serves}

is_two : {C R : Type 0} (r : ℕ) (serving : Serving C) (p : Phase C R) → IsTaken r serving → IsTakenIn r serving p → word_of p ≡ 2
is_two r serving away t h = absurd (h t)
is_two r serving free t h = absurd (h t)
is_two r serving (posted c) t h = absurd (h t)
is_two r serving (taken c) t h = refl
is_two r serving (parked c) t h = absurd (h t)
is_two r serving (resumed c) t h = refl
is_two r serving (refused c) t h = absurd (h t)
is_two r serving (replied c x) t h = absurd (h t)

module _ {E C R S : Type 0} (served : Ghosts S E C R) (n : ℕ) where
  open served use {history, legal, own, replies}

  taken_word : (words : List ℕ) (homes : List (Option (Slot C R S))) (works : List (Work E C R)) → Serves served n words homes works → (id r : ℕ) (v : Work E C R) → get_elem? works id ≡ some v
      → v.holds ≡ true → IsTaken r v.serving → get_or words (state_word r) 0 ≡ 2
  taken_word words homes works s id r v at holds has = let b = (s.each_seat id v at).combines holds in let t : IsTaken r s.world.desk.serving = subst (IsTaken r) b.serving has in let c = s.stored.each_client r (s.sound.taken_below r t) in
      c.word ∙ is_two r s.world.desk.serving (s.world.truth r).phase t c.phase.taken_is

  pub by_exchange : (size id r x : ℕ) (me : Me (Slot C R S) (View (Work E C R))) (then : ℕ → Me (Slot C R S) (View (Work E C R)) → Type 0) → me.0.work.holds ≡ true → IsTaken r me.0.work.serving
      → Allows (Ruled n (Serves served n)) size id me (state_word r) (λ _. x) then → Allows (Ruled n (Serves served n)) size id me (state_word r) (λ k. either (eqb k 2) x k) then
  by_exchange size id r x me then holds has allows s ruled sz at small = let found : ℕ = get_or s.words (state_word r) 0 in
      let two : found ≡ 2 = taken_word s.words s.homes (map work_of s.views) ruled.works id r me.0.work (at_map work_of s.views id me.0 at) holds has in
      let F : ℕ → Type 0 = λ y. (w : View (Work E C R)) × (a : Act (Slot C R S)) × Valid s.homes me.1 a × Ruled n (Serves served n) (stepped s (state_word r) y id me.1 w a) × then found (w, carried_after me.1 a) in
      subst F (ap (λ b. either b x found) (sym (eq-eqb found 2 two))) (allows s ruled sz at small)
