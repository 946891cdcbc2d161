-- What a change of one link leaves of the links and messages of a slab.
use Rattle.std.proofs.Common.{◌≡◌, ℕ, Bool, true, false, cond, eqb, refl, sym, ap, ◌∙◌, ⊎_elim, Option, Some, None, is_some, IsSome, arith}
use Rattle.std.specs.Option.{option_map}
use Rattle.std.proofs.lemmas.Bool.{cases_Bool, eqb-true, eqb-false}
use Rattle.std.proofs.lemmas.List.Sums.{sum_by-set}
use Rattle.slab.specs.Slab.{Slab, get, slab_len, with_value}
use Rattle.slab.proofs.SlabLemmas.{Updates-with_value, ContainsKey-within}
use Rattle.msg_queue.specs.declared.nodes.Node.{Node}
use Rattle.msg_queue.specs.declared.nodes.Link.{Link}
use Rattle.msg_queue.specs.declared.nodes.Chain.{Chain}
use Rattle.msg_queue.specs.declared.nodes.Chain.TheVariants.{Arrival, Same}
use Rattle.msg_queue.specs.Links.{change_at, link_of, with_link, link_in, message_in}

abbrev pub is_at : Option ℕ → ℕ → Bool
is_at None x = false
is_at (Some k) x = eqb k x

map_same : {X : Type 0} (o : Option X) → o ≡ option_map (λ (x : X). x) o
map_same None = refl
map_same (Some x) = refl

some_from : {X : Type 0} {x : X} (o : Option X) → o ≡ Some x → IsSome o
some_from None h = cc
some_from (Some y) h = refl

changed_key : (s : Slab Node) (k : ℕ) (f : Node → Node) (o : Option Node) → get s k ≡ o → (x : ℕ) → get (change_at s (Some k) f) x ≡ option_map (λ (node : Node). cond (eqb k x) (f node) node) (get s x)
changed_key s k f None absent x = rw absent (
    ⊎_elim
    (λ (here : eqb k x ≡ true). let e : get s x ≡ None = ap (get s) (sym (eqb-true k x here)) ∙ absent in rw e refl)
    (λ (other : eqb k x ≡ false). rw other (map_same (get s x)))
    (cases_Bool (eqb k x))
    )
changed_key s k f (Some node) there x = rw there (
    let u = Updates-with_value s k (f node) (some_from (get s k) there) in
    ⊎_elim
    (λ (here : eqb k x ≡ true).
    let same : k ≡ x = eqb-true k x here in
    let e : get s x ≡ Some node = ap (get s) (sym same) ∙ there in
    let v : get (with_value s k (f node)) x ≡ Some (f node) = ap (get (with_value s k (f node))) (sym same) ∙ u.changed in
    rw (here, e) v)
    (λ (other : eqb k x ≡ false). rw other (u.others x (λ e. eqb-false k x other (sym e)) ∙ map_same (get s x)))
    (cases_Bool (eqb k x))
    )

pub get-change_at : (s : Slab Node) (at : Option ℕ) (f : Node → Node) (x : ℕ) → get (change_at s at f) x ≡ option_map (λ (node : Node). cond (is_at at x) (f node) node) (get s x)
get-change_at s None f x = map_same (get s x)
get-change_at s (Some k) f x = changed_key s k f (get s k) refl x

-- of a change of a link
module _ (s : Slab Node) (at : Option ℕ) (g : Link → Link) (x : ℕ) where
  own : (chain : Chain) (b : Bool) (o : Option Node) → option_map (link_of chain) (option_map (λ (node : Node). cond b (with_link chain node (g (link_of chain node))) node) o) ≡ option_map (λ (l : Link). cond b (g l) l) (option_map (link_of chain) o)
  own chain b None = refl
  own Arrival true (Some node) = refl
  own Arrival false (Some node) = refl
  own Same true (Some node) = refl
  own Same false (Some node) = refl

  pub link-change_at : (chain : Chain) → link_in chain (change_at s at (λ node. with_link chain node (g (link_of chain node)))) x ≡ option_map (λ (l : Link). cond (is_at at x) (g l) l) (link_in chain s x)
  link-change_at chain = ap (option_map (link_of chain)) (get-change_at s at (λ node. with_link chain node (g (link_of chain node))) x) ∙ own chain (is_at at x) (get s x)

  kept_arrival : (b : Bool) (o : Option Node) → option_map (link_of Arrival) (option_map (λ (node : Node). cond b (with_link Same node (g (link_of Same node))) node) o) ≡ option_map (link_of Arrival) o
  kept_arrival b None = refl
  kept_arrival true (Some node) = refl
  kept_arrival false (Some node) = refl

  kept_same : (b : Bool) (o : Option Node) → option_map (link_of Same) (option_map (λ (node : Node). cond b (with_link Arrival node (g (link_of Arrival node))) node) o) ≡ option_map (link_of Same) o
  kept_same b None = refl
  kept_same true (Some node) = refl
  kept_same false (Some node) = refl

  pub arrival-change_at : link_in Arrival (change_at s at (λ node. with_link Same node (g (link_of Same node)))) x ≡ link_in Arrival s x
  arrival-change_at = ap (option_map (link_of Arrival)) (get-change_at s at (λ node. with_link Same node (g (link_of Same node))) x) ∙ kept_arrival (is_at at x) (get s x)

  pub same-change_at : link_in Same (change_at s at (λ node. with_link Arrival node (g (link_of Arrival node)))) x ≡ link_in Same s x
  same-change_at = ap (option_map (link_of Same)) (get-change_at s at (λ node. with_link Arrival node (g (link_of Arrival node))) x) ∙ kept_same (is_at at x) (get s x)

  kept_message : (chain : Chain) (b : Bool) (o : Option Node) → option_map (λ (node : Node). node.message) (option_map (λ (node : Node). cond b (with_link chain node (g (link_of chain node))) node) o) ≡ option_map (λ (node : Node). node.message) o
  kept_message chain b None = refl
  kept_message Arrival true (Some node) = refl
  kept_message Arrival false (Some node) = refl
  kept_message Same true (Some node) = refl
  kept_message Same false (Some node) = refl

  pub message-change_at : (chain : Chain) → message_in (change_at s at (λ node. with_link chain node (g (link_of chain node)))) x ≡ message_in s x
  message-change_at chain = ap (option_map (λ (node : Node). node.message)) (get-change_at s at (λ node. with_link chain node (g (link_of chain node))) x) ∙ kept_message chain (is_at at x) (get s x)

-- the number of messages and the room
count_key : (s : Slab Node) (k : ℕ) (f : Node → Node) (o : Option Node) → get s k ≡ o → slab_len (change_at s (Some k) f) ≡ slab_len s
count_key s k f None absent = rw absent refl
count_key s k f (Some node) there = rw there (
    let within = ContainsKey-within s k (some_from (get s k) there) in
    let sums = sum_by-set (λ (o : Option Node). cond (is_some o) 1 0) s.slots k (Some (f node)) None within in
    let one : ◌≡◌ {A = ℕ} (cond (is_some (get s k)) 1 0) 1 = rw there refl in
    omega (arith, sums, one)
    )

pub len-change_at : (s : Slab Node) (at : Option ℕ) (f : Node → Node) → slab_len (change_at s at f) ≡ slab_len s
len-change_at s None f = refl
len-change_at s (Some k) f = count_key s k f (get s k) refl

room_key : (s : Slab Node) (k : ℕ) (f : Node → Node) (o : Option Node) → get s k ≡ o → (change_at s (Some k) f).capacity ≡ s.capacity
room_key s k f None absent = rw absent refl
room_key s k f (Some node) there = rw there refl

pub capacity-change_at : (s : Slab Node) (at : Option ℕ) (f : Node → Node) → (change_at s at f).capacity ≡ s.capacity
capacity-change_at s None f = refl
capacity-change_at s (Some k) f = room_key s k f (get s k) refl
