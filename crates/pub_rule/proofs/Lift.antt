-- A step on another word than the list's: what it does to the half that is served, it does to the whole.
use Rattle.std.proofs.Common.{◌≡◌, ◌≢◌, ℕ, List, map, get_or, set, sym, ◌∙◌, subst, length-set, get_or-set_other, arith}
use mathlib.Core.Option.{Option}
use lib.Seq.{map-set}
use Rattle.atomic_table.specs.Table.{State, Me, Allows, carried_after, homes_after}
use Rattle.atomic_table.proofs.Lists.{set_again, at_map}
use Rattle.pub_rule.specs.declared.walk.Walk.{Walk}
use Rattle.pub_rule.specs.declared.walk.View.{View}
use Rattle.pub_rule.specs.Words.{head_word, next_word}
use Rattle.pub_rule.specs.Walk.{Walks}
use Rattle.pub_rule.specs.Rule.{Ruled, walk_of, work_of}
use Rattle.pub_rule.specs.WorkSteps.{with_work}
use Rattle.pub_rule.proofs.Kept.{role_still}
use Rattle.pub_rule.proofs.Clients.{linked_still}

walks_deaf : (n : ℕ) (words : List ℕ) (views : List Walk) (i x : ℕ) → head_word ≢ i → ((r : ℕ) → next_word r ≢ i) → Walks n words views → Walks n (set words i x) views
walks_deaf n words views i x head next r = let else : (q : ℕ) → get_or (set words i x) (next_word q) 0 ≡ get_or words (next_word q) 0 = λ q. get_or-set_other words i (next_word q) x 0 (next q) in record {
  roll = r.roll;
  wide = length-set words i x ∙ r.wide;
  few = r.few;
  head = get_or-set_other words i head_word x 0 head ∙ r.head;
  linked = linked_still r.roll.made r.roll.made words (set words i x) r.roll.list (omega arith) (λ q _. else q) r.linked;
  distinct = r.distinct;
  unmade = λ q a b. else q ∙ r.unmade q a b;
  each_client = r.each_client;
  each_seat = λ j u e. let k = r.each_seat j u e in record {
    role = role_still r.roll r.roll.list words (set words i x) j u.stored u.role (λ q _. else q) k.role;
    loaded = k.loaded;
    tried = k.tried;
    told = k.told;
  };
}

module _ {T W : Type 0} (n : ℕ) (serves : List ℕ → List (Option T) → List W → Type 0) where
  abbrev pub Served : State T W → Type 0
  Served st = serves st.words st.homes st.views

  pub lift : (size id i : ℕ) (f : ℕ → ℕ) (m : Me T (View W)) (half : ℕ → Me T W → Type 0) (then : ℕ → Me T (View W) → Type 0) → head_word ≢ i → ((r : ℕ) → next_word r ≢ i)
      → Allows Served size id (m.0.work, m.1) i f half → ((k : ℕ) (w : W) (c : List (ℕ × T)) → half k (w, c) → then k (with_work w m.0, c)) → Allows (Ruled n serves) size id m i f then
  lift size id i f m half then head next allows told s r sz at small = let a = allows record { words = s.words; homes = s.homes; views = map work_of s.views } r.works sz (at_map work_of s.views id m.0 at) small in
      let w : View W = with_work a.0 m.0 in let words' : List ℕ = set s.words i (f (get_or s.words i 0)) in (
        w,
        a.1,
        a.2,
        record {
          walks = subst (Walks n words') (sym (map-set walk_of s.views id w ∙ set_again (map walk_of s.views) id m.0.walk (at_map walk_of s.views id m.0 at)))
              (walks_deaf n s.words (map walk_of s.views) i (f (get_or s.words i 0)) head next r.walks);
          works = subst (serves words' (homes_after s.homes m.1 a.1)) (sym (map-set work_of s.views id w)) a.3;
        },
        told (get_or s.words i 0) a.0 (carried_after m.1 a.1) a.4,
      )
