-- A seat that is merged into another keeps the rule of the list.
use Rattle.std.proofs.Common.{◌≡◌, ℕ, List, [], ◌∷◌, ◌++◌, map, set, sym, ap, ◌∙◌, subst}
use mathlib.Core.Option.{Option, some}
use lib.ListN.{get_elem?}
use lib.Seq.{map-set}
use mathlib.Core.List.{map-append}
use Rattle.atomic_table.specs.Table.{State}
use Rattle.pub_rule.specs.declared.walk.Role.TheVariants.{Spent}
use Rattle.atomic_table.proofs.Lists.{set_again, at_map}
use Rattle.pub_rule.specs.declared.walk.Walk.{Walk}
use Rattle.pub_rule.specs.declared.walk.View.{View}
use Rattle.pub_rule.specs.Walk.{Walks}
use Rattle.pub_rule.specs.Rule.{walk_of, work_of, Ruled, blank}
use Rattle.pub_rule.specs.Laws.{KeptByMergeSeat}
use Rattle.pub_rule.proofs.Kept.{spends, enters_spent}

module _ {T W : Type 0} (n : ℕ) (serves : List ℕ → List (Option T) → List W → Type 0) where
  pub merge_seat : KeptByMergeSeat n serves
  merge_seat id other v w both gone b g lets s r at apart there = let vs : List Walk = map walk_of s.views in let mine = at_map walk_of s.views id v at in
      let walks_are : map walk_of (set s.views id both) ≡ vs = map-set walk_of s.views id both ∙ (ap (set vs id) b ∙ set_again vs id v.walk mine) in let works_are = map-set work_of s.views id both in
      let other_there : get_elem? vs other ≡ some w.walk = ap (λ (l : List Walk). get_elem? l other) (sym walks_are) ∙ at_map walk_of (set s.views id both) other w there in record {
        walks = subst (Walks n s.words) (sym (map-set walk_of (set s.views id both) other gone ∙ (ap (λ (l : List Walk). set l other gone.walk) walks_are ∙ ap (set vs other) g))) (spends n s.words vs r.walks other w.walk other_there);
        works = subst (serves s.words s.homes) (sym (map-set work_of (set s.views id both) other gone ∙ ap (λ (l : List W). set l other gone.work) works_are))
            (lets s.words s.homes (map work_of s.views) r.works (at_map work_of s.views id v at) apart (ap (λ (l : List W). get_elem? l other) (sym works_are) ∙ at_map work_of (set s.views id both) other w there));
      }

  -- a new seat that is nobody's
  pub new_seat : (s : State T (View W)) (w : View W) → Ruled n serves s → w.walk ≡ blank Spent → serves s.words s.homes (map work_of s.views ++ w.work ∷ []) → Ruled n serves record { words = s.words; homes = s.homes; views = s.views ++ w ∷ [] }
  new_seat s w r is works = record {
    walks = subst (Walks n s.words) (sym (map-append walk_of s.views (w ∷ []) ∙ ap (λ (z : Walk). map walk_of s.views ++ z ∷ []) is)) (enters_spent n s.words (map walk_of s.views) r.walks);
    works = subst (serves s.words s.homes) (sym (map-append work_of s.views (w ∷ []))) works;
  }
