-- What a queue's slab holds, after a message was added and after one was taken out.
use Rattle.std.proofs.Common.{◌≡◌, ◌≢◌, ℕ, zero, suc, ◌+◌, ◌≤◌, Bool, true, false, cond, not, eqb, ℤ, List, [], ◌∷◌, ◌++◌, length, refl, sym, ap, subst, ◌∙◌, ⊎_elim, inl, inr, Option, Some, None, is_some, arith}
use Rattle.std.specs.List.{AllByRecursion, filter}
use Rattle.std.specs.Option.{option_map, option_and_then}
use Rattle.std.specs.Ordering.{int_eq}
use Rattle.std.proofs.lemmas.Bool.{cases_Bool, eq-eqb, true≢false}
use Rattle.std.proofs.lemmas.Int.{ints}
use Rattle.std.proofs.lemmas.List.{append-nil}
use Rattle.std.proofs.lemmas.Option.{none-some, same_Some}
use Rattle.slab.specs.Slab.{Slab, Updates, get, slab_len}
use Rattle.msg_queue.specs.declared.messages.Message.{Message}
use Rattle.msg_queue.specs.declared.nodes.Node.{Node}
use Rattle.msg_queue.specs.declared.nodes.Link.{Link}
use Rattle.msg_queue.specs.declared.nodes.Ends.{Ends}
use Rattle.msg_queue.specs.declared.nodes.Chain.{Chain}
use Rattle.msg_queue.specs.declared.nodes.Chain.TheVariants.{Arrival, Same}
use Rattle.msg_queue.specs.Queues.{Placed}
use Rattle.msg_queue.specs.Links.{Away, Holds, IsAmong, IsChain, Linked, appended_ends, has_type, link_in, link_of, message_in, next_in, next_set, of_type, placed_at, previous_in, unlinked_ends, unlinked_nodes, walk, without}
use Rattle.msg_queue.proofs.Chains.{IsSource, after_is, before_is, last_source, without_away}
use Rattle.msg_queue.proofs.Links.{AreThere, followed, left, longer, moved, not_at, stays, untouched}
use Rattle.msg_queue.proofs.Placed.{all_filter, all_last, all_map, among_all, apart_filter, apart_last, away_filter, filter_last, filter_turned, length-last, length-without}
use Rattle.msg_queue.proofs.Relinks.{arrival-change_at, is_at, len-change_at, link-change_at, message-change_at, same-change_at}

pub same_type : (a b : ℤ) → int_eq a b ≡ true → a ≡ b
same_type a b h = grind (arith, ints)

pub own_eq : (a : ℤ) → int_eq a a ≡ true
own_eq a = grind (arith, ints)

-- the walk along the links gives the list
module _ (s : Slab Node) (ends : Ends) (previous : Option ℕ → Option ℕ) where
  pub walk_is : (n : ℕ) (at : Option ℕ) (ms : List Placed) → Linked (next_in (link_in Arrival s) ends) previous at ms → AllByRecursion (λ m. message_in s m.place ≡ Some m.message) ms → length ms ≤ n
      → walk n s (next_in (link_in Arrival s) ends at) ≡ ms
  walk_is zero at [] linked held count = refl
  walk_is (suc n) at [] linked held count = ap (walk (suc n) s) linked.0
  walk_is zero at (m ∷ ms) linked held count = absurd (omega (arith, count))
  walk_is (suc n) at (m ∷ ms) linked held count =
      ap (walk (suc n) s) linked.0 ∙ by (walk_is n (Some m.place) ms linked.2 held.1 (omega (arith, count))) (get s m.place) refl
    where
      by : walk n s (next_in (link_in Arrival s) ends (Some m.place)) ≡ ms → (o : Option Node) → get s m.place ≡ o → placed_at m.place (walk n s) (get s m.place) ≡ m ∷ ms
      by behind None absent = absurd (none-some m.message (sym (ap (option_map (λ (node : Node). node.message)) absent) ∙ held.0))
      by behind (Some node) found =
          let own : node.message ≡ m.message = same_Some node.message m.message (sym (ap (option_map (λ (node : Node). node.message)) found) ∙ held.0) in
          let next : next_in (link_in Arrival s) ends (Some m.place) ≡ node.arrival.next = ap (λ (o : Option Node). option_and_then (λ (l : Link). l.next) (option_map (link_of Arrival) o)) found in
          let rest : walk n s node.arrival.next ≡ ms = ap (walk n s) (sym next) ∙ behind in
          ap (placed_at m.place (walk n s)) found ∙ (λ i. record { place = m.place; message = own i } ∷ rest i)

pub order_is : (s : Slab Node) (ends : Ends) (ends_of : ℤ → Ends) (ms : List Placed) → Holds s ends ends_of ms → walk (slab_len s) s ends.first ≡ ms
order_is s ends ends_of ms holds = walk_is s ends (previous_in (link_in Arrival s) ends) (slab_len s) None ms holds.arrival holds.held (omega (arith, holds.count))

-- where a message is held there is a link
is_linked : (chain : Chain) (o : Option Node) (message : Message) → option_map (λ (node : Node). node.message) o ≡ Some message → is_some (option_map (link_of chain) o) ≡ true
is_linked chain None message h = absurd (none-some message h)
is_linked chain (Some node) message h = refl

pub are_there : (chain : Chain) (s : Slab Node) (ms : List Placed) → AllByRecursion (λ m. message_in s m.place ≡ Some m.message) ms → AreThere (link_in chain s) ms
are_there chain s ms held = all_map _ _ ms (λ m h. is_linked chain (get s m.place) m.message h) held

-- the message of a place is one
module _ (s : Slab Node) (k : ℕ) (message : Message) (here : message_in s k ≡ Some message) where
  pub own_message : (ms : List Placed) → AllByRecursion (λ m. message_in s m.place ≡ Some m.message) ms → AllByRecursion (λ m. Some k ≡ Some m.place → m.message ≡ message) ms
  own_message ms held = all_map _ _ ms (λ m h e. same_Some m.message message (sym h ∙ ap (message_in s) (sym (same_Some k m.place e)) ∙ here)) held

  pub away_of_type : (mtype : ℤ) → int_eq message.mtype mtype ≡ false → (ms : List Placed) → AllByRecursion (λ m. message_in s m.place ≡ Some m.message) ms → Away (Some k) (of_type mtype ms)
  away_of_type mtype other [] held = tt
  away_of_type mtype other (m ∷ ms) held =
      ⊎_elim
      (λ (yes : int_eq m.message.mtype mtype ≡ true).
      rw yes (
        λ e. true≢false (sym yes ∙ ap (λ (x : Message). int_eq x.mtype mtype) (same_Some m.message message (sym held.0 ∙ ap (message_in s) (sym (same_Some k m.place e)) ∙ here)) ∙ other),
        away_of_type mtype other ms held.1,
      ))
      (λ (no : int_eq m.message.mtype mtype ≡ false). rw no (away_of_type mtype other ms held.1))
      (cases_Bool (int_eq m.message.mtype mtype))

  pub among_of_type : (mtype : ℤ) → int_eq message.mtype mtype ≡ true → (ms : List Placed) → AllByRecursion (λ m. message_in s m.place ≡ Some m.message) ms → IsAmong (Some k) ms → IsAmong (Some k) (of_type mtype ms)
  among_of_type mtype same [] held among = absurd among
  among_of_type mtype same (m ∷ ms) held among =
      ⊎_elim
      (λ (yes : int_eq m.message.mtype mtype ≡ true).
      rw yes (⊎_elim (λ (e : Some k ≡ Some m.place). inl e) (λ (later : IsAmong (Some k) ms). inr (among_of_type mtype same ms held.1 later)) among))
      (λ (no : int_eq m.message.mtype mtype ≡ false).
      rw no (
      ⊎_elim
      (λ (e : Some k ≡ Some m.place). absurd (true≢false (sym same ∙ ap (λ (x : Message). int_eq x.mtype mtype) (sym (same_Some m.message message (sym held.0 ∙ ap (message_in s) (sym (same_Some k m.place e)) ∙ here))) ∙ no)))
      (λ (later : IsAmong (Some k) ms). among_of_type mtype same ms held.1 later)
      among
      ))
      (cases_Bool (int_eq m.message.mtype mtype))

-- a place of one type is away from those of another
module _ (s : Slab Node) (a b : ℤ) (other : int_eq a b ≡ false) (ms : List Placed) (held : AllByRecursion (λ m. message_in s m.place ≡ Some m.message) ms) where
  no_type : (m : Placed) → int_eq m.message.mtype a ≡ true → int_eq m.message.mtype b ≡ false
  no_type m is = ap (λ (x : ℤ). int_eq x b) (same_type m.message.mtype a is) ∙ other

  types_apart : (o : Option ℕ) (ls : List Placed) → AllByRecursion (λ m. message_in s m.place ≡ Some m.message) ls → IsAmong o (of_type a ls) → Away o (of_type b ms)
  types_apart o [] held' among = absurd among
  types_apart o (m ∷ ls) held' among =
      ⊎_elim
      (λ (yes : int_eq m.message.mtype a ≡ true).
      let found : IsAmong o (m ∷ of_type a ls) = rw yes at among in
      ⊎_elim
      (λ (e : o ≡ Some m.place). subst (λ (x : Option ℕ). Away x (of_type b ms)) (sym e) (away_of_type s m.place m.message held'.0 b (no_type m yes) ms held))
      (λ (later : IsAmong o (of_type a ls)). types_apart o ls held'.1 later)
      found)
      (λ (no : int_eq m.message.mtype a ≡ false).
      let found : IsAmong o (of_type a ls) = rw no at among in types_apart o ls held'.1 found)
      (cases_Bool (int_eq m.message.mtype a))

  none_away : (ls : List Placed) → Away None ls
  none_away [] = tt
  none_away (m ∷ ls) = (none-some m.place, none_away ls)

  pub neighbour_apart : (o : Option ℕ) → IsSource None (of_type a ms) o → Away o (of_type b ms)
  neighbour_apart o source =
      ⊎_elim
      (λ (e : o ≡ None). subst (λ (x : Option ℕ). Away x (of_type b ms)) (sym e) (none_away (of_type b ms)))
      (λ (among : IsAmong o (of_type a ms)). types_apart o ms held among)
      source

pub held_filter : (test : Placed → Bool) (s s' : Slab Node) (k : ℕ) → ((x : ℕ) → x ≢ k → message_in s' x ≡ message_in s x) → (ms : List Placed) → AllByRecursion (λ m. message_in s m.place ≡ Some m.message) ms → Away (Some k) (filter test ms)
    → AllByRecursion (λ m. message_in s' m.place ≡ Some m.message) (filter test ms)
held_filter test s s' k change ms held away = kept (filter test ms) (all_filter test _ ms held) away
  where
    kept : (ls : List Placed) → AllByRecursion (λ m. message_in s m.place ≡ Some m.message) ls → Away (Some k) ls → AllByRecursion (λ m. message_in s' m.place ≡ Some m.message) ls
    kept [] h a = tt
    kept (m ∷ ls) h a = (change m.place (λ e. a.0 (ap (λ (x : ℕ). Some x) (sym e))) ∙ h.0, kept ls h.1 a.1)

pub away_without : (k : ℕ) (ms : List Placed) → Away (Some k) (without k ms)
away_without k [] = tt
away_without k (m ∷ ms) =
    ⊎_elim
    (λ (here : eqb m.place k ≡ true). rw here (away_without k ms))
    (λ (elsewhere : eqb m.place k ≡ false). rw elsewhere ((λ e. true≢false (sym (eq-eqb m.place k (sym (same_Some k m.place e))) ∙ elsewhere)), away_without k ms))
    (cases_Bool (eqb m.place k))

-- the message of a place was taken out, and its neighbours joined
module _ (s s1 : Slab Node) (ends : Ends) (ends_of ends_of' : ℤ → Ends) (ms : List Placed) (k : ℕ) (node : Node)
    (holds : Holds s ends ends_of ms) (here : get s k ≡ Some node) (among : IsAmong (Some k) ms) (removed : Updates s s1 k None) (fewer : slab_len s1 + 1 ≡ slab_len s)
    (ends_are : (t : ℤ) → ends_of' t ≡ cond (int_eq node.message.mtype t) (unlinked_ends node.same (ends_of node.message.mtype)) (ends_of t)) where
  abbrev s2 : Slab Node
  s2 = unlinked_nodes Arrival node.arrival s1

  abbrev s3 : Slab Node
  s3 = unlinked_nodes Same node.same s2

  own : message_in s k ≡ Some node.message
  own = ap (option_map (λ (node : Node). node.message)) here

  arrival_moved : (x : ℕ) → x ≢ k → link_in Arrival s3 x ≡ moved (is_at node.arrival.previous x) (is_at node.arrival.next x) node.arrival (link_in Arrival s x)
  arrival_moved x other =
      arrival-change_at (next_set Same s2 node.same.previous node.same.next) node.same.next (λ l. record l { previous = node.same.previous }) x
      ∙ arrival-change_at s2 node.same.previous (λ l. record l { next = node.same.next }) x
      ∙ link-change_at (next_set Arrival s1 node.arrival.previous node.arrival.next) node.arrival.next (λ l. record l { previous = node.arrival.previous }) x Arrival
      ∙ ap (option_map (λ (l : Link). cond (is_at node.arrival.next x) (record l { previous = node.arrival.previous }) l)) (link-change_at s1 node.arrival.previous (λ l. record l { next = node.arrival.next }) x Arrival)
      ∙ ap (λ (o : Option Node). moved (is_at node.arrival.previous x) (is_at node.arrival.next x) node.arrival (option_map (link_of Arrival) o)) (removed.others x other)

  same_moved : (x : ℕ) → x ≢ k → link_in Same s3 x ≡ moved (is_at node.same.previous x) (is_at node.same.next x) node.same (link_in Same s x)
  same_moved x other =
      link-change_at (next_set Same s2 node.same.previous node.same.next) node.same.next (λ l. record l { previous = node.same.previous }) x Same
      ∙ ap (option_map (λ (l : Link). cond (is_at node.same.next x) (record l { previous = node.same.previous }) l)) (
      link-change_at s2 node.same.previous (λ l. record l { next = node.same.next }) x Same
      ∙ ap (option_map (λ (l : Link). cond (is_at node.same.previous x) (record l { next = node.same.next }) l)) (
      same-change_at (next_set Arrival s1 node.arrival.previous node.arrival.next) node.arrival.next (λ l. record l { previous = node.arrival.previous }) x
      ∙ same-change_at s1 node.arrival.previous (λ l. record l { next = node.arrival.next }) x
      ∙ ap (option_map (link_of Same)) (removed.others x other)
      )
      )

  messages_kept : (x : ℕ) → x ≢ k → message_in s3 x ≡ message_in s x
  messages_kept x other =
      message-change_at (next_set Same s2 node.same.previous node.same.next) node.same.next (λ l. record l { previous = node.same.previous }) x Same
      ∙ message-change_at s2 node.same.previous (λ l. record l { next = node.same.next }) x Same
      ∙ message-change_at (next_set Arrival s1 node.arrival.previous node.arrival.next) node.arrival.next (λ l. record l { previous = node.arrival.previous }) x Arrival
      ∙ message-change_at s1 node.arrival.previous (λ l. record l { next = node.arrival.next }) x Arrival
      ∙ ap (option_map (λ (node : Node). node.message)) (removed.others x other)

  pub len_left : slab_len s3 ≡ slab_len s1
  len_left =
      len-change_at (next_set Same s2 node.same.previous node.same.next) node.same.next _
      ∙ len-change_at s2 node.same.previous _
      ∙ len-change_at (next_set Arrival s1 node.arrival.previous node.arrival.next) node.arrival.next _
      ∙ len-change_at s1 node.arrival.previous _

  same_left : (t : ℤ) (b : Bool) → int_eq node.message.mtype t ≡ b → IsChain (link_in Same s3) (ends_of' t) (of_type t (without k ms))
  same_left t true is =
      let own_type : node.message.mtype ≡ t = same_type node.message.mtype t is in
      let chain = left (link_in Same s) (link_in Same s3) (ends_of t) k node.same (of_type t ms) (ap (option_map (link_of Same)) here) same_moved (holds.same t) (apart_filter (has_type t) ms holds.apart)
      (among_of_type s k node.message own t is ms holds.held among) (all_filter (has_type t) _ ms (are_there Same s ms holds.held)) in
      let ends' : ends_of' t ≡ unlinked_ends node.same (ends_of t) =
      ends_are t ∙ ap (λ (b : Bool). cond b (unlinked_ends node.same (ends_of node.message.mtype)) (ends_of t)) is
      ∙ ap (λ (x : ℤ). unlinked_ends node.same (ends_of x)) own_type in
      subst (λ (e : Ends). IsChain (link_in Same s3) e (of_type t (without k ms))) (sym ends') (
      subst (λ (ls : List Placed). IsChain (link_in Same s3) (unlinked_ends node.same (ends_of t)) ls) (filter_turned (λ m. not (eqb m.place k)) (has_type t) ms) chain
      )
  same_left t false is =
      let mtype = node.message.mtype in
      let free : Away (Some k) (of_type t ms) = away_of_type s k node.message own t is ms holds.held in
      let next = next_in (link_in Same s) (ends_of mtype) in
      let previous = previous_in (link_in Same s) (ends_of mtype) in
      let mine : int_eq mtype mtype ≡ true = own_eq mtype in
      let among' : IsAmong (Some k) (of_type mtype ms) = among_of_type s k node.message own mtype mine ms holds.held among in
      let before : previous (Some k) ≡ node.same.previous = ap (λ (o : Option Node). option_and_then (λ (l : Link). l.previous) (option_map (link_of Same) o)) here in
      let after : next (Some k) ≡ node.same.next = ap (λ (o : Option Node). option_and_then (λ (l : Link). l.next) (option_map (link_of Same) o)) here in
      let source : IsSource None (of_type mtype ms) node.same.previous = subst (λ (o : Option ℕ). IsSource None (of_type mtype ms) o) before (before_is next previous None (of_type mtype ms) (Some k) (holds.same mtype) among') in
      let target : IsSource None (of_type mtype ms) node.same.next = subst (λ (o : Option ℕ). IsSource None (of_type mtype ms) o) after (after_is next previous None (of_type mtype ms) (Some k) (holds.same mtype) (inr among')) in
      let chain = untouched (link_in Same s) (link_in Same s3) (ends_of t) k node.same same_moved (of_type t ms) (holds.same t) free
      (neighbour_apart s mtype t is ms holds.held node.same.previous source) (neighbour_apart s mtype t is ms holds.held node.same.next target) in
      let ends' : ends_of' t ≡ ends_of t = ends_are t ∙ ap (λ (b : Bool). cond b (unlinked_ends node.same (ends_of node.message.mtype)) (ends_of t)) is in
      subst (λ (e : Ends). IsChain (link_in Same s3) e (of_type t (without k ms))) (sym ends') (
      subst (λ (ls : List Placed). IsChain (link_in Same s3) (ends_of t) ls) (sym (without_away k (of_type t ms) free) ∙ filter_turned (λ m. not (eqb m.place k)) (has_type t) ms) chain
      )

  pub holds_left : Holds s3 (unlinked_ends node.arrival ends) ends_of' (without k ms)
  holds_left = record {
    apart = apart_filter (λ m. not (eqb m.place k)) ms holds.apart;
    held = held_filter (λ m. not (eqb m.place k)) s s3 k messages_kept ms holds.held (away_without k ms);
    arrival = left (link_in Arrival s) (link_in Arrival s3) ends k node.arrival ms (ap (option_map (link_of Arrival)) here) arrival_moved holds.arrival holds.apart among (are_there Arrival s ms holds.held);
    same = λ t. same_left t (int_eq node.message.mtype t) refl;
    count = let fewer' = length-without k ms holds.apart among in omega (arith, len_left, fewer, fewer', holds.count);
  }

-- the places of messages are taken
vacant_away : (s : Slab Node) (k : ℕ) → get s k ≡ None → (ms : List Placed) → AllByRecursion (λ m. message_in s m.place ≡ Some m.message) ms → Away (Some k) ms
vacant_away s k vacant [] held = tt
vacant_away s k vacant (m ∷ ms) held = (
  λ e. none-some m.message (sym (ap (option_map (λ (node : Node). node.message)) vacant) ∙ ap (message_in s) (same_Some k m.place e) ∙ held.0),
  vacant_away s k vacant ms held.1,
)

-- a message was added, and made the last
module _ (s s1 : Slab Node) (ends : Ends) (ends_of ends_of' : ℤ → Ends) (ms : List Placed) (k : ℕ) (message : Message)
    (holds : Holds s ends ends_of ms) (vacant : get s k ≡ None)
    (added : Updates s s1 k (Some (record { message = message; arrival = record { previous = ends.last; next = None }; same = record { previous = (ends_of message.mtype).last; next = None } })))
    (more : slab_len s1 ≡ slab_len s + 1)
    (ends_are : (t : ℤ) → ends_of' t ≡ cond (int_eq message.mtype t) (appended_ends k (ends_of message.mtype)) (ends_of t)) where
  abbrev last_same : Option ℕ
  last_same = (ends_of message.mtype).last

  abbrev t2 : Slab Node
  t2 = next_set Arrival s1 ends.last (Some k)

  abbrev t3 : Slab Node
  t3 = next_set Same t2 last_same (Some k)

  abbrev new : Placed
  new = record { place = k; message = message }

  free : Away (Some k) ms
  free = vacant_away s k vacant ms holds.held

  arrival_at : (x : ℕ) → link_in Arrival t3 x ≡ option_map (λ (l : Link). cond (is_at ends.last x) (record l { next = Some k }) l) (link_in Arrival s1 x)
  arrival_at x =
      arrival-change_at t2 last_same (λ l. record l { next = Some k }) x
      ∙ link-change_at s1 ends.last (λ l. record l { next = Some k }) x Arrival

  same_at : (x : ℕ) → link_in Same t3 x ≡ option_map (λ (l : Link). cond (is_at last_same x) (record l { next = Some k }) l) (link_in Same s1 x)
  same_at x =
      link-change_at t2 last_same (λ l. record l { next = Some k }) x Same
      ∙ ap (option_map (λ (l : Link). cond (is_at last_same x) (record l { next = Some k }) l)) (same-change_at s1 ends.last (λ l. record l { next = Some k }) x)

  message_at : (x : ℕ) → message_in t3 x ≡ message_in s1 x
  message_at x =
      message-change_at t2 last_same (λ l. record l { next = Some k }) x Same
      ∙ message-change_at s1 ends.last (λ l. record l { next = Some k }) x Arrival

  -- the last is another
  other_last : (o : Option ℕ) → IsSource None ms o → is_at o k ≡ false
  other_last o source = not_at o k (
      ⊎_elim
      (λ (e : o ≡ None). λ e'. none-some k (sym e ∙ e'))
      (λ (among : IsAmong o ms). λ e'. away_among k ms free (subst (λ (x : Option ℕ). IsAmong x ms) e' among))
      source
      )
    where
      away_among : (k : ℕ) (ls : List Placed) → Away (Some k) ls → IsAmong (Some k) ls → ⊥
      away_among k [] away among = among
      away_among k (m ∷ ls) away among =
          ⊎_elim (λ (e : Some k ≡ Some m.place). away.0 e) (λ (later : IsAmong (Some k) ls). away_among k ls away.1 later) among

  arrival_last : IsSource None ms ends.last
  arrival_last = last_source (next_in (link_in Arrival s) ends) (previous_in (link_in Arrival s) ends) None ms holds.arrival

  same_last : IsSource None (of_type message.mtype ms) last_same
  same_last = last_source (next_in (link_in Same s) (ends_of message.mtype)) (previous_in (link_in Same s) (ends_of message.mtype)) None (of_type message.mtype ms) (holds.same message.mtype)

  pub len_more : slab_len t3 ≡ slab_len s1
  len_more = len-change_at t2 last_same _ ∙ len-change_at s1 ends.last _

  messages_stay : (x : ℕ) → x ≢ k → message_in t3 x ≡ message_in s x
  messages_stay x other = message_at x ∙ ap (option_map (λ (node : Node). node.message)) (added.others x other)

  held_on : (ls : List Placed) → AllByRecursion (λ m. message_in s m.place ≡ Some m.message) ls → Away (Some k) ls → AllByRecursion (λ m. message_in t3 m.place ≡ Some m.message) ls
  held_on [] h a = tt
  held_on (m ∷ ls) h a = (messages_stay m.place (λ e. a.0 (ap (λ (x : ℕ). Some x) (sym e))) ∙ h.0, held_on ls h.1 a.1)

  same_change : (x : ℕ) → x ≢ k → link_in Same t3 x ≡ followed (is_at last_same x) k (link_in Same s x)
  same_change x other = same_at x ∙ ap (λ (o : Option Node). followed (is_at last_same x) k (option_map (link_of Same) o)) (added.others x other)

  same_more : (t : ℤ) (b : Bool) → int_eq message.mtype t ≡ b → IsChain (link_in Same t3) (ends_of' t) (of_type t (ms ++ new ∷ []))
  same_more t true is =
      let own_type : message.mtype ≡ t = same_type message.mtype t is in
      let own : link_in Same t3 k ≡ Some (record { previous = (ends_of t).last; next = None }) =
      same_at k ∙ ap (λ (o : Option Node). followed (is_at last_same k) k (option_map (link_of Same) o)) added.changed
      ∙ ap (λ (b : Bool). followed b k (Some (record { previous = last_same; next = None }))) (other_same message.mtype (own_eq message.mtype) last_same same_last)
      ∙ ap (λ (x : ℤ). Some (record { previous = (ends_of x).last; next = None })) own_type in
      let change : (x : ℕ) → x ≢ k → link_in Same t3 x ≡ followed (is_at (ends_of t).last x) k (link_in Same s x) =
      λ x other. same_change x other ∙ ap (λ (z : ℤ). followed (is_at (ends_of z).last x) k (link_in Same s x)) own_type in
      let chain = longer (link_in Same s) (link_in Same t3) (ends_of t) new (of_type t ms) own change (holds.same t) (apart_filter (has_type t) ms holds.apart) (away_filter (has_type t) (Some k) ms free)
      (all_filter (has_type t) _ ms (are_there Same s ms holds.held)) in
      let ends' : ends_of' t ≡ appended_ends k (ends_of t) =
      ends_are t ∙ ap (λ (b : Bool). cond b (appended_ends k (ends_of message.mtype)) (ends_of t)) is
      ∙ ap (λ (x : ℤ). appended_ends k (ends_of x)) own_type in
      subst (λ (e : Ends). IsChain (link_in Same t3) e (of_type t (ms ++ new ∷ []))) (sym ends') (
      subst (λ (ls : List Placed). IsChain (link_in Same t3) (appended_ends k (ends_of t)) ls)
      (sym (filter_last (has_type t) ms new ∙ ap (λ (b : Bool). of_type t ms ++ cond b (new ∷ []) []) is)) chain
      )
    where
      other_same : (mtype : ℤ) → int_eq message.mtype mtype ≡ true → (o : Option ℕ) → IsSource None (of_type mtype ms) o → is_at o k ≡ false
      other_same mtype e o source = other_last o (among_all (has_type mtype) o ms source)
  same_more t false is =
      let chain = stays (link_in Same s) (link_in Same t3) (ends_of t) last_same k same_change (of_type t ms) (holds.same t) (away_filter (has_type t) (Some k) ms free)
      (neighbour_apart s message.mtype t is ms holds.held last_same same_last) in
      let ends' : ends_of' t ≡ ends_of t = ends_are t ∙ ap (λ (b : Bool). cond b (appended_ends k (ends_of message.mtype)) (ends_of t)) is in
      subst (λ (e : Ends). IsChain (link_in Same t3) e (of_type t (ms ++ new ∷ []))) (sym ends') (
      subst (λ (ls : List Placed). IsChain (link_in Same t3) (ends_of t) ls)
      (sym (filter_last (has_type t) ms new ∙ ap (λ (b : Bool). of_type t ms ++ cond b (new ∷ []) []) is ∙ append-nil (of_type t ms))) chain
      )

  pub holds_more : Holds t3 (appended_ends k ends) ends_of' (ms ++ new ∷ [])
  holds_more = record {
    apart = apart_last ms new holds.apart free;
    held = all_last _ ms new (held_on ms holds.held free) (message_at k ∙ ap (option_map (λ (node : Node). node.message)) added.changed);
    arrival = longer (link_in Arrival s) (link_in Arrival t3) ends new ms
        (arrival_at k ∙ ap (λ (o : Option Node). followed (is_at ends.last k) k (option_map (link_of Arrival) o)) added.changed
        ∙ ap (λ (b : Bool). followed b k (Some (record { previous = ends.last; next = None }))) (other_last ends.last arrival_last))
        (λ x other. arrival_at x ∙ ap (λ (o : Option Node). followed (is_at ends.last x) k (option_map (link_of Arrival) o)) (added.others x other))
        holds.arrival holds.apart free (are_there Arrival s ms holds.held);
    same = λ t. same_more t (int_eq message.mtype t) refl;
    count = omega (arith, len_more, more, holds.count, length-last ms new);
  }
