-- A queue after a message was taken out, and after one was added, in the form of the code's steps.
use Rattle.std.proofs.Common.{zero, suc, eqb, is_some, ◌≡◌, ℕ, ◌+◌, ◌<◌, true, cond, ℤ, List, [], ◌∷◌, ◌++◌, length, remove, refl, sym, ap, subst, ◌∙◌, Option, Some, None, ⊎_elim, IsSome, IfSome, slice_get, option_map, arith}
use Rattle.std.specs.List.{AllByRecursion}
use Rattle.std.specs.Ordering.{int_eq}
use Rattle.std.proofs.lemmas.List.Sums.{sum_by-cons}
use Rattle.std.proofs.lemmas.Option.{none-some, same_Some}
use Rattle.std.proofs.lemmas.List.Quantifiers.{position-Some}
use Rattle.slab.specs.Slab.{Slab, Updates, get, slab_len}
use Rattle.msg_queue.specs.declared.messages.Message.{Message}
use Rattle.msg_queue.specs.declared.nodes.Node.{Node}
use Rattle.msg_queue.specs.declared.nodes.Ends.{Ends}
use Rattle.msg_queue.specs.declared.nodes.Chain.TheVariants.{Arrival, Same}
use Rattle.msg_queue.specs.declared.types.Row.{Row}
use Rattle.msg_queue.specs.Messages.{bytes_of}
use Rattle.msg_queue.specs.Queues.{Placed, messages_of, position_in}
use Rattle.msg_queue.specs.Links.{Holds, IsAmong, IsChain, appended_ends, link_in, of_type, message_in, next_set, placed_at, unlinked_ends, unlinked_nodes, walk, without}
use Rattle.msg_queue.specs.Types.{ends_in}
use Rattle.msg_queue.proofs.Holding.{among_of_type, own_eq, holds_left, holds_more, len_left, len_more, order_is, own_message}
use Rattle.msg_queue.proofs.Placed.{among_position, at_position, bytes-without, messages-last, without_position}
use Rattle.msg_queue.proofs.Relinks.{capacity-change_at}

abbrev pub order : Slab Node → Ends → List Placed
order s ends = walk (slab_len s) s ends.first

-- what a removal leaves
pub record IsWithout (s s3 : Slab Node) (ends e2 : Ends) (rows' : List Row) (k : ℕ) (message : Message) : Type 0 where
  pub holds : Holds s3 e2 (ends_in rows') (order s3 e2)
  pub is : order s3 e2 ≡ without k (order s ends)
  pub bytes : bytes_of (messages_of (order s3 e2)) + length message.text ≡ bytes_of (messages_of (order s ends))
  pub count : slab_len s3 + 1 ≡ slab_len s

module _ (s s1 s2 s3 : Slab Node) (ends e2 same same' : Ends) (rows rows' : List Row) (k : ℕ) (node : Node) (u : ℤ)
    (holds : Holds s ends (ends_in rows) (order s ends)) (there : IsSome (position_in (order s ends) k)) (here : get s k ≡ Some node)
    (removed : Updates s s1 k None) (fewer : slab_len s1 + 1 ≡ slab_len s)
    (first : s2 ≡ unlinked_nodes Arrival node.arrival s1) (first' : e2 ≡ unlinked_ends node.arrival ends)
    (own : u ≡ node.message.mtype) (same_is : same ≡ ends_in rows u)
    (second : s3 ≡ unlinked_nodes Same node.same s2) (second' : same' ≡ unlinked_ends node.same same)
    (put : (t : ℤ) → ends_in rows' t ≡ cond (int_eq u t) same' (ends_in rows t)) where
  ends_are : (t : ℤ) → ends_in rows' t ≡ cond (int_eq node.message.mtype t) (unlinked_ends node.same (ends_in rows node.message.mtype)) (ends_in rows t)
  ends_are t =
      put t
      ∙ ap (λ (e : Ends). cond (int_eq u t) e (ends_in rows t)) (second' ∙ ap (unlinked_ends node.same) same_is)
      ∙ ap (λ (x : ℤ). cond (int_eq x t) (unlinked_ends node.same (ends_in rows x)) (ends_in rows t)) own

  among : IsAmong (Some k) (order s ends)
  among = among_position k (order s ends) there

  nodes_are : s3 ≡ unlinked_nodes Same node.same (unlinked_nodes Arrival node.arrival s1)
  nodes_are = second ∙ ap (unlinked_nodes Same node.same) first

  left_holds : Holds s3 e2 (ends_in rows') (without k (order s ends))
  left_holds =
      subst (λ (x : Slab Node). Holds x e2 (ends_in rows') (without k (order s ends))) (sym nodes_are) (
      subst (λ (e : Ends). Holds (unlinked_nodes Same node.same (unlinked_nodes Arrival node.arrival s1)) e (ends_in rows') (without k (order s ends))) (sym first') (
      holds_left s s1 ends (ends_in rows) (ends_in rows') (order s ends) k node holds here among removed fewer ends_are
      )
      )

  left_order : order s3 e2 ≡ without k (order s ends)
  left_order = order_is s3 e2 (ends_in rows') (without k (order s ends)) left_holds

  own_node : message_in s k ≡ Some node.message
  own_node = ap (option_map (λ (n : Node). n.message)) here

  pub is_without : IsWithout s s3 ends e2 rows' k node.message
  is_without = record {
    holds = subst (λ (l : List Placed). Holds s3 e2 (ends_in rows') l) (sym left_order) left_holds;
    is = left_order;
    bytes = ap (λ (l : List Placed). bytes_of (messages_of l) + length node.message.text) left_order
        ∙ bytes-without k node.message (order s ends) holds.apart among (own_message s k node.message own_node (order s ends) holds.held);
    count = let len = ap (λ (x : Slab Node). slab_len x) nodes_are ∙ len_left s s1 ends (ends_in rows) (ends_in rows') (order s ends) k node holds here among removed fewer ends_are in omega (arith, len, fewer);
  }

  pub capacity_left : s3.capacity ≡ s1.capacity
  capacity_left =
      ap (λ (x : Slab Node). x.capacity) nodes_are
      ∙ capacity-change_at (next_set Same (unlinked_nodes Arrival node.arrival s1) node.same.previous node.same.next) node.same.next _
      ∙ capacity-change_at (unlinked_nodes Arrival node.arrival s1) node.same.previous _
      ∙ capacity-change_at (next_set Arrival s1 node.arrival.previous node.arrival.next) node.arrival.next _
      ∙ capacity-change_at s1 node.arrival.previous _

-- the message at the place that was taken
pub message_taken : (s : Slab Node) (ends : Ends) (rows : List Row) (k : ℕ) (node : Node) → Holds s ends (ends_in rows) (order s ends) → get s k ≡ Some node
    → IfSome (position_in (order s ends) k) (λ i. slice_get (messages_of (order s ends)) i ≡ Some node.message)
message_taken s ends rows k node holds here =
    each (position_in (order s ends) k) (at_position (λ m. m.message ≡ node.message) k (order s ends) holds.apart (own_message s k node.message (ap (option_map (λ (n : Node). n.message)) here) (order s ends) holds.held)) (within k (order s ends))
  where
    at : (ls : List Placed) (i : ℕ) → i < length ls → IfSome (slice_get ls i) (λ m. m.message ≡ node.message) → slice_get (messages_of ls) i ≡ Some node.message
    at [] i below h = absurd (omega (arith, below))
    at (m ∷ ls) zero below h = ap (λ (x : Message). Some x) h
    at (m ∷ ls) (suc i) below h = at ls i (omega (arith, below)) h

    each : (o : Option ℕ) → IfSome o (λ i. IfSome (slice_get (order s ends) i) (λ m. m.message ≡ node.message)) → IfSome o (λ i. i < length (order s ends)) → IfSome o (λ i. slice_get (messages_of (order s ends)) i ≡ Some node.message)
    each None h w = tt
    each (Some i) h w = at (order s ends) i w h

    within : (k : ℕ) (ls : List Placed) → IfSome (position_in ls k) (λ i. i < length ls)
    within k ls = by (position_in ls k) refl
      where
        by : (o : Option ℕ) → position_in ls k ≡ o → IfSome o (λ i. i < length ls)
        by None is = tt
        by (Some i) is = (position-Some (λ (p : Placed). eqb p.place k) ls i (record { place = 0; message = node.message }) is).0

-- what an addition leaves
pub record IsWith (s s3 : Slab Node) (ends e2 : Ends) (rows' : List Row) (new : Placed) : Type 0 where
  pub holds : Holds s3 e2 (ends_in rows') (order s3 e2)
  pub is : order s3 e2 ≡ order s ends ++ new ∷ []
  pub count : slab_len s3 ≡ slab_len s + 1

module _ (s s1 s2 s3 : Slab Node) (ends e2 same same' : Ends) (rows rows' : List Row) (k : ℕ) (message : Message) (u : ℤ)
    (holds : Holds s ends (ends_in rows) (order s ends)) (vacant : get s k ≡ None)
    (own : u ≡ message.mtype) (same_is : same ≡ ends_in rows u)
    (added : Updates s s1 k (Some (record { message = message; arrival = record { previous = ends.last; next = None }; same = record { previous = same.last; next = None } })))
    (more : slab_len s1 ≡ slab_len s + 1)
    (first : s2 ≡ next_set Arrival s1 ends.last (Some k)) (first' : e2 ≡ appended_ends k ends)
    (second : s3 ≡ next_set Same s2 same.last (Some k)) (second' : same' ≡ appended_ends k same)
    (put : (t : ℤ) → ends_in rows' t ≡ cond (int_eq u t) same' (ends_in rows t)) where
  same_own : same ≡ ends_in rows message.mtype
  same_own = same_is ∙ ap (ends_in rows) own

  ends_put : (t : ℤ) → ends_in rows' t ≡ cond (int_eq message.mtype t) (appended_ends k (ends_in rows message.mtype)) (ends_in rows t)
  ends_put t =
      put t
      ∙ ap (λ (e : Ends). cond (int_eq u t) e (ends_in rows t)) (second' ∙ ap (appended_ends k) same_is)
      ∙ ap (λ (x : ℤ). cond (int_eq x t) (appended_ends k (ends_in rows x)) (ends_in rows t)) own

  nodes_with : s3 ≡ next_set Same (next_set Arrival s1 ends.last (Some k)) (ends_in rows message.mtype).last (Some k)
  nodes_with = second ∙ ap (λ (x : Slab Node). next_set Same x same.last (Some k)) first ∙ ap (λ (e : Ends). next_set Same (next_set Arrival s1 ends.last (Some k)) e.last (Some k)) same_own

  added_own : Updates s s1 k (Some (record { message = message; arrival = record { previous = ends.last; next = None }; same = record { previous = (ends_in rows message.mtype).last; next = None } }))
  added_own = subst (λ (e : Ends). Updates s s1 k (Some (record { message = message; arrival = record { previous = ends.last; next = None }; same = record { previous = e.last; next = None } }))) same_own added

  abbrev new_one : Placed
  new_one = record { place = k; message = message }

  more_holds : Holds s3 e2 (ends_in rows') (order s ends ++ new_one ∷ [])
  more_holds =
      subst (λ (x : Slab Node). Holds x e2 (ends_in rows') (order s ends ++ new_one ∷ [])) (sym nodes_with) (
      subst (λ (e : Ends). Holds (next_set Same (next_set Arrival s1 ends.last (Some k)) (ends_in rows message.mtype).last (Some k)) e (ends_in rows') (order s ends ++ new_one ∷ [])) (sym first') (
      holds_more s s1 ends (ends_in rows) (ends_in rows') (order s ends) k message holds vacant added_own more ends_put
      )
      )

  more_order : order s3 e2 ≡ order s ends ++ new_one ∷ []
  more_order = order_is s3 e2 (ends_in rows') (order s ends ++ new_one ∷ []) more_holds

  pub is_with : IsWith s s3 ends e2 rows' new_one
  is_with = record {
    holds = subst (λ (l : List Placed). Holds s3 e2 (ends_in rows') l) (sym more_order) more_holds;
    is = more_order;
    count = ap (λ (x : Slab Node). slab_len x) nodes_with ∙ len_more s s1 ends (ends_in rows) (ends_in rows') (order s ends) k message holds vacant added_own more ends_put ∙ more;
  }

  pub capacity_with : s3.capacity ≡ s1.capacity
  capacity_with =
      ap (λ (x : Slab Node). x.capacity) nodes_with
      ∙ capacity-change_at (next_set Arrival s1 ends.last (Some k)) (ends_in rows message.mtype).last _
      ∙ capacity-change_at s1 ends.last _

pub contents_with : (s s3 : Slab Node) (ends e2 : Ends) (rows' : List Row) (new : Placed) → IsWith s s3 ends e2 rows' new → messages_of (order s3 e2) ≡ messages_of (order s ends) ++ new.message ∷ []
contents_with s s3 ends e2 rows' new is = ap messages_of is.is ∙ messages-last (order s ends) new

-- where a message stands there is a node
pub node_there : (s : Slab Node) (ends : Ends) (rows : List Row) (k : ℕ) → Holds s ends (ends_in rows) (order s ends) → IsSome (position_in (order s ends) k) → IsSome (get s k)
node_there s ends rows k holds there = found (order s ends) holds.held (among_position k (order s ends) there)
  where
    some : (o : Option Node) (message : Message) → option_map (λ (n : Node). n.message) o ≡ Some message → IsSome o
    some None message h = absurd (none-some message h)
    some (Some node) message h = refl

    found : (ls : List Placed) → AllByRecursion (λ m. message_in s m.place ≡ Some m.message) ls → IsAmong (Some k) ls → IsSome (get s k)
    found [] held among = absurd among
    found (m ∷ ls) held among =
        ⊎_elim
        (λ (e : Some k ≡ Some m.place). some (get s k) m.message (ap (message_in s) (same_Some k m.place e) ∙ held.0))
        (λ (later : IsAmong (Some k) ls). found ls held.1 later)
        among

-- its type has a row
pub type_there : (s : Slab Node) (ends : Ends) (rows : List Row) (k : ℕ) (node : Node) → Holds s ends (ends_in rows) (order s ends) → IsSome (position_in (order s ends) k) → get s k ≡ Some node
    → is_some (ends_in rows node.message.mtype).first ≡ true
type_there s ends rows k node holds there here =
    by (of_type node.message.mtype (order s ends)) (holds.same node.message.mtype)
    (among_of_type s k node.message (ap (option_map (λ (n : Node). n.message)) here) node.message.mtype (own_eq node.message.mtype) (order s ends) holds.held (among_position k (order s ends) there))
  where
    by : (ls : List Placed) → IsChain (link_in Same s) (ends_in rows node.message.mtype) ls → IsAmong (Some k) ls → is_some (ends_in rows node.message.mtype).first ≡ true
    by [] chain among = absurd among
    by (m ∷ ls) chain among = ap is_some chain.0

pub if_same : (o : Option ℕ) (f : ℕ → Option Message) (a b : Message) → a ≡ b → IfSome o (λ i. f i ≡ Some a) → IfSome o (λ i. f i ≡ Some b)
if_same o f a b e h = subst (λ (x : Message). IfSome o (λ i. f i ≡ Some x)) e h

pub rest_taken : (s s3 : Slab Node) (ends e2 : Ends) (rows rows' : List Row) (k : ℕ) (message : Message) → Holds s ends (ends_in rows) (order s ends) → IsWithout s s3 ends e2 rows' k message
    → IfSome (position_in (order s ends) k) (λ i. messages_of (order s3 e2) ≡ remove (messages_of (order s ends)) i)
rest_taken s s3 ends e2 rows rows' k message holds w =
    subst (λ (l : List Placed). IfSome (position_in (order s ends) k) (λ i. messages_of l ≡ remove (messages_of (order s ends)) i)) (sym w.is) (without_position k (order s ends) holds.apart)

pub bytes_last : (xs : List Message) (m : Message) → bytes_of (xs ++ m ∷ []) ≡ bytes_of xs + length m.text
bytes_last [] m = refl
bytes_last (x ∷ xs) m =
    let front = sum_by-cons (λ (y : Message). length y.text) x (xs ++ m ∷ []) in
    let back = sum_by-cons (λ (y : Message). length y.text) x xs in
    let rest = bytes_last xs m in
    omega (arith, front, back, rest)

pub if_len : (o : Option ℕ) (f : ℕ → Option Message) (m : Message) (n : ℕ) → n ≡ length m.text → IfSome o (λ i. f i ≡ Some m) → IfSome o (λ i. option_map (λ (x : Message). length x.text) (f i) ≡ Some n)
if_len None f m n is h = tt
if_len (Some i) f m n is h = ap (option_map (λ (x : Message). length x.text)) h ∙ ap (λ (k : ℕ). Some k) (sym is)

-- the same slab with other room
walk_room : (n : ℕ) (s : Slab Node) (x : ℕ) (at : Option ℕ) → walk n (record s { capacity = x }) at ≡ walk n s at
walk_room zero s x at = refl
walk_room (suc n) s x None = refl
walk_room (suc n) s x (Some place) = by (λ at. walk_room n s x at) (get s place)
  where
    by : ((at : Option ℕ) → walk n (record s { capacity = x }) at ≡ walk n s at) → (o : Option Node) → placed_at place (walk n (record s { capacity = x })) o ≡ placed_at place (walk n s) o
    by rest None = refl
    by rest (Some node) = ap (λ (ms : List Placed). record { place = place; message = node.message } ∷ ms) (rest node.arrival.next)

pub order_room : (s s' : Slab Node) (ends : Ends) → s' ≡ record s { capacity = s'.capacity } → order s' ends ≡ order s ends
order_room s s' ends is = ap (λ (t : Slab Node). order t ends) is ∙ walk_room (slab_len s) s s'.capacity ends.first

-- and with other rows for the same ends
pub holds_room : (s s' : Slab Node) (ends : Ends) (rows rows' : List Row) → s' ≡ record s { capacity = s'.capacity } → ((t : ℤ) → ends_in rows' t ≡ ends_in rows t) → Holds s ends (ends_in rows) (order s ends) → Holds s' ends (ends_in rows') (order s' ends)
holds_room s s' ends rows rows' is same holds =
    subst (λ (l : List Placed). Holds s' ends (ends_in rows') l) (sym (order_room s s' ends is))
    (subst (λ (t : Slab Node). Holds t ends (ends_in rows') (order s ends)) (sym is)
    (record {
      apart = holds.apart;
      held = holds.held;
      arrival = holds.arrival;
      same = λ t. subst (λ (e : Ends). IsChain (link_in Same s) e (of_type t (order s ends))) (sym (same t)) (holds.same t);
      count = holds.count;
    }))
