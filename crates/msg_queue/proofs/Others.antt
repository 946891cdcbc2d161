-- The first message of another type than the first message: where it stands once a message was taken out, or added.
use Rattle.std.proofs.Common.{◌≡◌, ◌≢◌, ℕ, ◌≤◌, Bool, true, false, cond, not, eqb, ℤ, List, [], ◌∷◌, ◌++◌, length, refl, sym, ap, subst, ◌∙◌, ⊎_elim, inl, inr, Option, Some, None, is_none, IfSome, ◌&&◌, arith}
use Rattle.std.specs.List.{AllByRecursion}
use Rattle.std.specs.Option.{option_map, option_and_then}
use Rattle.std.specs.Ordering.{int_eq}
use Rattle.std.proofs.lemmas.Bool.{cases_Bool, eqb-true, eqb-false, eq-eqb, true≢false}
use Rattle.std.proofs.lemmas.Int.{ints}
use Rattle.std.proofs.lemmas.Option.{none-some, same_Some}
use Rattle.slab.specs.Slab.{Slab, get, slab_len}
use Rattle.msg_queue.specs.declared.messages.Message.{Message}
use Rattle.msg_queue.specs.declared.nodes.Node.{Node}
use Rattle.msg_queue.specs.declared.nodes.Link.{Link}
use Rattle.msg_queue.specs.declared.nodes.Ends.{Ends}
use Rattle.msg_queue.specs.declared.nodes.Chain.TheVariants.{Arrival}
use Rattle.msg_queue.specs.Queues.{Placed}
use Rattle.msg_queue.specs.Links.{AreApart, Away, Holds, IsAmong, IsChain, Linked, first_place, is_first_other, is_place, link_in, link_of, message_in, next_at, next_in, other_of, other_type, previous_in, walk, without}
use Rattle.msg_queue.proofs.Chains.{without_away}
use Rattle.msg_queue.proofs.Holding.{same_type, walk_is}
use Rattle.msg_queue.proofs.Links.{not_at}
use Rattle.msg_queue.proofs.Placed.{first_away}
use Rattle.msg_queue.proofs.Relinks.{is_at}

-- the messages behind a place
abbrev pub after : ℕ → List Placed → List Placed
after k [] = []
after k (m ∷ ms) = cond (eqb m.place k) ms (after k ms)

later_among : (k : ℕ) (m : Placed) (ms : List Placed) → eqb m.place k ≡ false → IsAmong (Some k) (m ∷ ms) → IsAmong (Some k) ms
later_among k m ms elsewhere among =
    ⊎_elim (λ (e : Some k ≡ Some m.place). absurd (eqb-false m.place k elsewhere (sym (same_Some k m.place e)))) (λ (h : IsAmong (Some k) ms). h) among

linked_after : (next previous : Option ℕ → Option ℕ) (k : ℕ) (at : Option ℕ) (ms : List Placed) → Linked next previous at ms → IsAmong (Some k) ms → Linked next previous (Some k) (after k ms)
linked_after next previous k at [] l among = absurd among
linked_after next previous k at (m ∷ ms) l among =
    ⊎_elim
    (λ (here : eqb m.place k ≡ true). rw here (subst (λ (x : ℕ). Linked next previous (Some x) ms) (eqb-true m.place k here) l.2))
    (λ (elsewhere : eqb m.place k ≡ false). rw elsewhere (linked_after next previous k (Some m.place) ms l.2 (later_among k m ms elsewhere among)))
    (cases_Bool (eqb m.place k))

all_after : (P : Placed → Type 0) (k : ℕ) (ms : List Placed) → AllByRecursion P ms → AllByRecursion P (after k ms)
all_after P k [] all = tt
all_after P k (m ∷ ms) all =
    ⊎_elim
    (λ (here : eqb m.place k ≡ true). rw here all.1)
    (λ (elsewhere : eqb m.place k ≡ false). rw elsewhere (all_after P k ms all.1))
    (cases_Bool (eqb m.place k))

length-after : (k : ℕ) (ms : List Placed) → length (after k ms) ≤ length ms
length-after k [] = omega arith
length-after k (m ∷ ms) =
    ⊎_elim
    (λ (here : eqb m.place k ≡ true). rw here (omega arith))
    (λ (elsewhere : eqb m.place k ≡ false). let less = length-after k ms in rw elsewhere (omega (arith, less)))
    (cases_Bool (eqb m.place k))

-- the links behind a place give the messages behind it
pub walk_behind : (s : Slab Node) (ends : Ends) (ends_of : ℤ → Ends) (ms : List Placed) (k : ℕ) (node : Node) → Holds s ends ends_of ms → IsAmong (Some k) ms → get s k ≡ Some node
    → walk (slab_len s) s node.arrival.next ≡ after k ms
walk_behind s ends ends_of ms k node holds among here =
    let next : next_in (link_in Arrival s) ends (Some k) ≡ node.arrival.next = ap (λ (o : Option Node). option_and_then (λ (l : Link). l.next) (option_map (link_of Arrival) o)) here in
    let less = length-after k ms in
    ap (walk (slab_len s) s) (sym next)
    ∙ walk_is s ends (previous_in (link_in Arrival s) ends) (slab_len s) (Some k) (after k ms)
    (linked_after (next_in (link_in Arrival s) ends) (previous_in (link_in Arrival s) ends) k None ms holds.arrival among)
    (all_after _ k ms holds.held) (omega (arith, less, holds.count))

-- the first that passes, without a place
pub first_without : (test : Message → Bool) (k : ℕ) (ms : List Placed) → AreApart ms
    → first_place test (without k ms) ≡ cond (is_at (first_place test ms) k) (first_place test (after k ms)) (first_place test ms)
first_without test k [] apart = refl
first_without test k (m ∷ ms) apart =
    ⊎_elim
    (λ (here : eqb m.place k ≡ true).
    let free : Away (Some k) ms = subst (λ (x : ℕ). Away (Some x) ms) (eqb-true m.place k here) apart.0 in
    ⊎_elim
    (λ (yes : test m.message ≡ true). rw (here, yes) (rw here (ap (first_place test) (without_away k ms free))))
    (λ (no : test m.message ≡ false).
    let far = not_at (first_place test ms) k (first_away test k ms free) in
    rw (here, no) (rw far (ap (first_place test) (without_away k ms free))))
    (cases_Bool (test m.message)))
    (λ (elsewhere : eqb m.place k ≡ false).
    ⊎_elim
    (λ (yes : test m.message ≡ true). rw (elsewhere, yes) (rw elsewhere refl))
    (λ (no : test m.message ≡ false). rw (elsewhere, no) (first_without test k ms apart.1))
    (cases_Bool (test m.message)))
    (cases_Bool (eqb m.place k))

-- behind a message of a type the first of another type than that is the first of another type
alike : (t : ℤ) (m : Placed) (ms : List Placed) → int_eq m.message.mtype t ≡ true → other_of (m ∷ ms) ≡ first_place (other_type t) (m ∷ ms)
alike t m ms is = rw is (ap (λ (x : ℤ). first_place (other_type x) ms) (same_type m.message.mtype t is))

none_alike : (t : ℤ) (ms : List Placed) → first_place (other_type t) ms ≡ None → other_of ms ≡ None
none_alike t [] none = refl
none_alike t (m ∷ ms) none =
    ⊎_elim
    (λ (yes : int_eq m.message.mtype t ≡ true). alike t m ms yes ∙ none)
    (λ (no : int_eq m.message.mtype t ≡ false). let some : Some m.place ≡ None = rw no at none in absurd (none-some m.place (sym some)))
    (cases_Bool (int_eq m.message.mtype t))

free_of : (k : ℕ) (m : Placed) (ms : List Placed) → AreApart (m ∷ ms) → eqb m.place k ≡ true → Away (Some k) ms
free_of k m ms apart here = subst (λ (x : ℕ). Away (Some x) ms) (eqb-true m.place k here) apart.0

-- there was none
pub none_left : (k : ℕ) (ms : List Placed) → AreApart ms → other_of ms ≡ None → other_of (without k ms) ≡ None
none_left k [] apart none = refl
none_left k (m ∷ ms) apart none =
    ⊎_elim
    (λ (here : eqb m.place k ≡ true). rw here (ap other_of (without_away k ms (free_of k m ms apart here)) ∙ none_alike m.message.mtype ms none))
    (λ (elsewhere : eqb m.place k ≡ false).
    rw elsewhere (
    first_without (other_type m.message.mtype) k ms apart.1
    ∙ ap (λ (o : Option ℕ). cond (is_at o k) (first_place (other_type m.message.mtype) (after k ms)) o) none
    ))
    (cases_Bool (eqb m.place k))

-- it was taken
pub other_taken : (k : ℕ) (m : Placed) (ms : List Placed) → AreApart (m ∷ ms) → other_of (m ∷ ms) ≡ Some k
    → other_of (without k (m ∷ ms)) ≡ first_place (other_type m.message.mtype) (after k (m ∷ ms))
other_taken k m ms apart is =
    ⊎_elim
    (λ (here : eqb m.place k ≡ true). absurd (first_away (other_type m.message.mtype) k ms (free_of k m ms apart here) is))
    (λ (elsewhere : eqb m.place k ≡ false).
    let own = eq-eqb k k refl in
    rw elsewhere (
    first_without (other_type m.message.mtype) k ms apart.1
    ∙ ap (λ (o : Option ℕ). cond (is_at o k) (first_place (other_type m.message.mtype) (after k ms)) o) is
    ∙ ap (λ (b : Bool). cond b (first_place (other_type m.message.mtype) (after k ms)) (Some k)) own
    ))
    (cases_Bool (eqb m.place k))

-- the first was taken, which it follows
pub other_first : (k o : ℕ) (m m2 : Placed) (ms : List Placed) → AreApart (m ∷ m2 ∷ ms) → m.place ≡ k → m2.place ≡ o
    → other_of (without k (m ∷ m2 ∷ ms)) ≡ first_place (other_type m2.message.mtype) (after o (m ∷ m2 ∷ ms))
other_first k o m m2 ms apart first next =
    let here = eq-eqb m.place k first in
    let there = eq-eqb m2.place o next in
    let elsewhere : eqb m.place o ≡ false = by (eqb m.place o) refl in
    rw (here, elsewhere, there) (ap other_of (without_away k (m2 ∷ ms) (free_of k m (m2 ∷ ms) apart here)))
  where
    by : (b : Bool) → eqb m.place o ≡ b → eqb m.place o ≡ false
    by true is = absurd (apart.0.0 (ap (λ (x : ℕ). Some x) (eqb-true m.place o is ∙ sym next)))
    by false is = is

-- neither
pub other_stays : (k o : ℕ) (ms : List Placed) → AreApart ms → other_of ms ≡ Some o → o ≢ k
    → ((m m2 : Placed) (rest : List Placed) → ms ≡ m ∷ m2 ∷ rest → m.place ≡ k → m2.place ≢ o)
    → other_of (without k ms) ≡ Some o
other_stays k o [] apart is other free = absurd (none-some o is)
other_stays k o (m ∷ ms) apart is other free =
    ⊎_elim
    (λ (here : eqb m.place k ≡ true).
    rw here (ap other_of (without_away k ms (free_of k m ms apart here)) ∙ kept ms is (λ m2 rest e. free m m2 rest (ap (λ (l : List Placed). m ∷ l) e) (eqb-true m.place k here))))
    (λ (elsewhere : eqb m.place k ≡ false).
    let far : is_at (Some o) k ≡ false = not_at (Some o) k (λ e. other (same_Some o k e)) in
    rw elsewhere (
    first_without (other_type m.message.mtype) k ms apart.1
    ∙ ap (λ (x : Option ℕ). cond (is_at x k) (first_place (other_type m.message.mtype) (after k ms)) x) is
    ∙ ap (λ (b : Bool). cond b (first_place (other_type m.message.mtype) (after k ms)) (Some o)) far
    ))
    (cases_Bool (eqb m.place k))
  where
    kept : (ls : List Placed) → first_place (other_type m.message.mtype) ls ≡ Some o → ((m2 : Placed) (rest : List Placed) → ls ≡ m2 ∷ rest → m2.place ≢ o) → other_of ls ≡ Some o
    kept [] is away = is
    kept (m2 ∷ ls) is away =
        ⊎_elim
        (λ (yes : int_eq m2.message.mtype m.message.mtype ≡ true). alike m.message.mtype m2 ls yes ∙ is)
        (λ (no : int_eq m2.message.mtype m.message.mtype ≡ false). let some : Some m2.place ≡ Some o = rw no at is in absurd (away m2 ls refl (same_Some m2.place o some)))
        (cases_Bool (int_eq m2.message.mtype m.message.mtype))

-- a message was added
turned : (a b : ℤ) → int_eq a b ≡ int_eq b a
turned a b = grind (arith, ints)

first_last : (test : Message → Bool) (ms : List Placed) (m : Placed)
    → first_place test (ms ++ m ∷ []) ≡ cond (is_none (first_place test ms)) (cond (test m.message) (Some m.place) None) (first_place test ms)
first_last test [] m = refl
first_last test (x ∷ ms) m =
    ⊎_elim
    (λ (yes : test x.message ≡ true). rw yes refl)
    (λ (no : test x.message ≡ false). rw no (first_last test ms m))
    (cases_Bool (test x.message))

pub other_with : (ms : List Placed) (m : Placed) (b : Bool) → is_first_other m.message.mtype ms ≡ b → other_of (ms ++ m ∷ []) ≡ cond b (Some m.place) (other_of ms)
other_with [] m true is = absurd (true≢false (sym is))
other_with [] m false is = refl
other_with (x ∷ ms) m b is =
    first_last (other_type x.message.mtype) ms m ∙ by (first_place (other_type x.message.mtype) ms) (int_eq x.message.mtype m.message.mtype) refl refl b is
  where
    by : (o : Option ℕ) (c : Bool) → first_place (other_type x.message.mtype) ms ≡ o → int_eq x.message.mtype m.message.mtype ≡ c → (b : Bool) → is_first_other m.message.mtype (x ∷ ms) ≡ b
        → cond (is_none (first_place (other_type x.message.mtype) ms)) (cond (not (int_eq m.message.mtype x.message.mtype)) (Some m.place) None) (first_place (other_type x.message.mtype) ms) ≡ cond b (Some m.place) (first_place (other_type x.message.mtype) ms)
    by None c none eq b is =
        let e : int_eq m.message.mtype x.message.mtype ≡ c = turned m.message.mtype x.message.mtype ∙ eq in
        let is' : not c ≡ b = rw (none, eq) at is in
        rw (none, e) (ap (λ (d : Bool). cond d (Some m.place) None) is')
    by (Some o) c some eq true is = let is' : false ≡ true = rw some at is in absurd (true≢false (sym is'))
    by (Some o) c some eq false is = rw some refl

-- The same in the form of the code's steps.
first_among : (test : Message → Bool) (ms : List Placed) (k : ℕ) → first_place test ms ≡ Some k → IsAmong (Some k) ms
first_among test [] k is = absurd (none-some k is)
first_among test (m ∷ ms) k is =
    ⊎_elim
    (λ (yes : test m.message ≡ true). let e : Some m.place ≡ Some k = rw yes at is in inl (sym e))
    (λ (no : test m.message ≡ false). let e : first_place test ms ≡ Some k = rw no at is in inr (first_among test ms k e))
    (cases_Bool (test m.message))

held_node : (P : Type 0) (s : Slab Node) (k : ℕ) (ms : List Placed) → AllByRecursion (λ m. message_in s m.place ≡ Some m.message) ms → IsAmong (Some k) ms → ((node : Node) → get s k ≡ Some node → P) → P
held_node P s k [] held among f = absurd among
held_node P s k (m ∷ ms) held among f =
    ⊎_elim (λ (e : Some k ≡ Some m.place). by e (get s k) refl) (λ (later : IsAmong (Some k) ms). held_node P s k ms held.1 later f) among
  where
    by : Some k ≡ Some m.place → (o : Option Node) → get s k ≡ o → P
    by e None absent = absurd (none-some m.message (sym (ap (option_map (λ (node : Node). node.message)) absent) ∙ ap (message_in s) (same_Some k m.place e) ∙ held.0))
    by e (Some node) found = f node found

-- where the first of another type than the message at a place stands, behind another
abbrev pub IsBehind : Slab Node → ℕ → ℕ → Option ℕ → Type 0
IsBehind s k f r = IfSome (get s k) (λ node. IfSome (message_in s f) (λ m. r ≡ first_place (other_type m.mtype) (walk (slab_len s) s node.arrival.next)))

behind_is : (s : Slab Node) (k f : ℕ) (r : Option ℕ) (node : Node) (m : Message) → get s k ≡ Some node → message_in s f ≡ Some m → IsBehind s k f r → r ≡ first_place (other_type m.mtype) (walk (slab_len s) s node.arrival.next)
behind_is s k f r node m here own given =
    subst (λ (o : Option Message). IfSome o (λ m. r ≡ first_place (other_type m.mtype) (walk (slab_len s) s node.arrival.next))) own
    (subst (λ (o : Option Node). IfSome o (λ node. IfSome (message_in s f) (λ m. r ≡ first_place (other_type m.mtype) (walk (slab_len s) s node.arrival.next)))) here given)

both : (a b : Bool) → (a && b) ≡ true → (a ≡ true) × (b ≡ true)
both true b is = (refl, is)
both false b is = absurd (true≢false (sym is))

module _ (s : Slab Node) (ends : Ends) (ends_of : ℤ → Ends) where
  pub taken_left : (ms : List Placed) (k f : ℕ) (r : Option ℕ) → Holds s ends ends_of ms → ends.first ≡ Some f → other_of ms ≡ Some k → IsBehind s k f r → r ≡ other_of (without k ms)
  taken_left [] k f r holds first is given = absurd (none-some k is)
  taken_left (m ∷ ms) k f r holds first is given =
      held_node (r ≡ other_of (without k (m ∷ ms))) s k (m ∷ ms) holds.held among
      (λ node here.
      behind_is s k f r node m.message here (ap (message_in s) (same_Some f m.place (sym first ∙ holds.arrival.0)) ∙ holds.held.0) given
      ∙ ap (first_place (other_type m.message.mtype)) (walk_behind s ends ends_of (m ∷ ms) k node holds among here)
      ∙ sym (other_taken k m ms holds.apart is))
    where
      among : IsAmong (Some k) (m ∷ ms)
      among = inr (first_among (other_type m.message.mtype) ms k is)

  pub first_left : (ms : List Placed) (k f o : ℕ) (r : Option ℕ) → Holds s ends ends_of ms → ends.first ≡ Some f → other_of ms ≡ Some o → (eqb f k && is_place (next_at s f) o) ≡ true → IsBehind s o o r
      → r ≡ other_of (without k ms)
  first_left [] k f o r holds first is follows given = absurd (none-some o is)
  first_left (m ∷ []) k f o r holds first is follows given = absurd (none-some o is)
  first_left (m ∷ m2 ∷ ms) k f o r holds first is follows given =
      held_node (r ≡ other_of (without k (m ∷ m2 ∷ ms))) s o (m ∷ m2 ∷ ms) holds.held among
      (λ node here.
      behind_is s o o r node m2.message here (ap (message_in s) (sym second) ∙ holds.held.1.0) given
      ∙ ap (first_place (other_type m2.message.mtype)) (walk_behind s ends ends_of (m ∷ m2 ∷ ms) o node holds among here)
      ∙ sym (other_first k o m m2 ms holds.apart (sym at ∙ eqb-true f k (both (eqb f k) _ follows).0) second))
    where
      at : f ≡ m.place
      at = same_Some f m.place (sym first ∙ holds.arrival.0)

      second : m2.place ≡ o
      second = eqb-true m2.place o (sym (ap (λ (x : Option ℕ). is_place x o) (ap (next_at s) at ∙ holds.arrival.2.0)) ∙ (both (eqb f k) _ follows).1)

      among : IsAmong (Some o) (m ∷ m2 ∷ ms)
      among = inr (inl (ap (λ (x : ℕ). Some x) (sym second)))

  pub stays_left : (ms : List Placed) (k f o : ℕ) → Holds s ends ends_of ms → ends.first ≡ Some f → other_of ms ≡ Some o → o ≢ k → (eqb f k && is_place (next_at s f) o) ≡ false → Some o ≡ other_of (without k ms)
  stays_left ms k f o holds first is other free =
      sym (other_stays k o ms holds.apart is other (λ m m2 rest e here next.
      let chain : IsChain (link_in Arrival s) ends (m ∷ m2 ∷ rest) = subst (λ (l : List Placed). IsChain (link_in Arrival s) ends l) e holds.arrival in
      let at : f ≡ m.place = same_Some f m.place (sym first ∙ chain.0) in
      let follows : is_place (next_at s f) o ≡ true = ap (λ (x : Option ℕ). is_place x o) (ap (next_at s) at ∙ chain.2.0) ∙ eq-eqb m2.place o next in
      let own : eqb f k ≡ true = eq-eqb f k (at ∙ here) in
      let e : true ≡ false = rw (own, follows) at free in
      true≢false e))
