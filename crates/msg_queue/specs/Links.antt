-- The messages of a queue as its slab holds them: linked in order of arrival, and within their type.
use Rattle.std.specs.Prelude.{◌≡◌, ◌≢◌, ℕ, zero, suc, ◌==◌, Bool, false, not, ◌&&◌, ◌⊎◌, ℤ, List, [], ◌∷◌, length, filter}
use Rattle.std.specs.Prelude.{Option, Some, None, is_none, option_map, option_and_then, if◌then◌else◌}
use Rattle.std.specs.List.{AllByRecursion}
use Rattle.std.specs.Ordering.{int_eq}
use Rattle.slab.specs.Slab.{Slab, get, slab_len, with_value}
use Rattle.msg_queue.specs.declared.messages.Message.{Message}
use Rattle.msg_queue.specs.declared.nodes.Node.{Node}
use Rattle.msg_queue.specs.declared.nodes.Link.{Link}
use Rattle.msg_queue.specs.declared.nodes.Ends.{Ends}
use Rattle.msg_queue.specs.declared.nodes.Chain.{Chain}
use Rattle.msg_queue.specs.declared.nodes.Chain.TheVariants.{Arrival, Same}
use Rattle.msg_queue.specs.Queues.{Placed}
pub use Rattle.msg_queue.specs.Others.{other_type}

abbrev pub no_ends : Ends
no_ends = record { first = None; last = None }

abbrev pub link_of : Chain → Node → Link
link_of Arrival node = node.arrival
link_of Same node = node.same

abbrev pub with_link : Chain → Node → Link → Node
with_link Arrival node link = record node { arrival = link }
with_link Same node link = record node { same = link }

-- the slab with another node at a place, where there is one
abbrev pub node_changed : Slab Node → ℕ → (Node → Node) → Option Node → Slab Node
node_changed s place change None = s
node_changed s place change (Some node) = with_value s place (change node)

abbrev pub change_at : Slab Node → Option ℕ → (Node → Node) → Slab Node
change_at s None change = s
change_at s (Some place) change = node_changed s place change (get s place)

abbrev pub next_set : Chain → Slab Node → Option ℕ → Option ℕ → Slab Node
next_set chain s at next = change_at s at (λ node. with_link chain node (record (link_of chain node) { next = next }))

abbrev pub previous_set : Chain → Slab Node → Option ℕ → Option ℕ → Slab Node
previous_set chain s at previous =
    change_at s at (λ node. with_link chain node (record (link_of chain node) { previous = previous }))

-- after a place left a list, whose neighbours were these
abbrev pub unlinked_nodes : Chain → Link → Slab Node → Slab Node
unlinked_nodes chain gone s =
    previous_set chain (next_set chain s gone.previous gone.next) gone.next gone.previous

abbrev pub unlinked_ends : Link → Ends → Ends
unlinked_ends gone ends = record {
  first = if is_none gone.previous then gone.next else ends.first;
  last = if is_none gone.next then gone.previous else ends.last;
}

-- after a place became the last
abbrev pub appended_ends : ℕ → Ends → Ends
appended_ends place ends = record {
  first = if is_none ends.last then Some place else ends.first;
  last = Some place;
}

-- the link of a place in a list, and the message there
abbrev pub link_in : Chain → Slab Node → ℕ → Option Link
link_in chain s place = option_map (link_of chain) (get s place)

abbrev pub message_in : Slab Node → ℕ → Option Message
message_in s place = option_map (λ (node : Node). node.message) (get s place)

-- what follows a place, or what stands before it; None stands for the ends of the list
abbrev pub next_in : (ℕ → Option Link) → Ends → Option ℕ → Option ℕ
next_in links ends None = ends.first
next_in links ends (Some place) = option_and_then (λ (link : Link). link.next) (links place)

abbrev pub previous_in : (ℕ → Option Link) → Ends → Option ℕ → Option ℕ
previous_in links ends None = ends.last
previous_in links ends (Some place) = option_and_then (λ (link : Link). link.previous) (links place)

-- from a place on the links give this list, forwards and backwards
abbrev pub Linked : (Option ℕ → Option ℕ) → (Option ℕ → Option ℕ) → Option ℕ → List Placed → Type 0
Linked next previous at [] = (next at ≡ None) × (previous None ≡ at)
Linked next previous at (m ∷ ms) =
    (next at ≡ Some m.place) × (previous (Some m.place) ≡ at) × Linked next previous (Some m.place) ms

abbrev pub IsChain : (ℕ → Option Link) → Ends → List Placed → Type 0
IsChain links ends ms = Linked (next_in links ends) (previous_in links ends) None ms

-- a is the place of none of them; each has a place of its own
abbrev pub Away : Option ℕ → List Placed → Type 0
Away a [] = Unit {0}
Away a (m ∷ ms) = (a ≢ Some m.place) × Away a ms

abbrev pub AreApart : List Placed → Type 0
AreApart [] = Unit {0}
AreApart (m ∷ ms) = Away (Some m.place) ms × AreApart ms

-- a is the place of one of them
abbrev pub IsAmong : Option ℕ → List Placed → Type 0
IsAmong a [] = ⊥
IsAmong a (m ∷ ms) = (a ≡ Some m.place) ⊎ IsAmong a ms

abbrev pub has_type : ℤ → Placed → Bool
has_type mtype m = int_eq m.message.mtype mtype

-- those of a type
abbrev pub of_type : ℤ → List Placed → List Placed
of_type mtype ms = filter (has_type mtype) ms

-- those at other places
abbrev pub without : ℕ → List Placed → List Placed
without place ms = filter (λ m. not (m.place == place)) ms

-- the place of the first message that passes
abbrev pub first_place : (Message → Bool) → List Placed → Option ℕ
first_place test [] = None
first_place test (m ∷ ms) = if test m.message then Some m.place else first_place test ms

-- the first message of another type than that of the first message
abbrev pub other_of : List Placed → Option ℕ
other_of [] = None
other_of (m ∷ ms) = first_place (other_type m.message.mtype) ms

-- a message of this type would be that
abbrev pub is_first_other : ℤ → List Placed → Bool
is_first_other mtype [] = false
is_first_other mtype (m ∷ ms) = is_none (other_of (m ∷ ms)) && other_type mtype m.message

-- there is a message, and it has another type
abbrev pub is_other_in : Option Message → ℤ → Bool
is_other_in None mtype = false
is_other_in (Some m) mtype = other_type mtype m

-- there is a place, and it is this one
abbrev pub is_place : Option ℕ → ℕ → Bool
is_place None place = false
is_place (Some own) place = own == place

-- what follows a place in order of arrival
abbrev pub next_at : Slab Node → ℕ → Option ℕ
next_at s place = option_and_then (λ (link : Link). link.next) (link_in Arrival s place)

-- the messages from a place on in order of arrival, at most so many
abbrev pub placed_at : ℕ → (Option ℕ → List Placed) → Option Node → List Placed
placed_at place rest None = []
placed_at place rest (Some node) = record { place = place; message = node.message } ∷ rest node.arrival.next

abbrev pub placed_from : Slab Node → (Option ℕ → List Placed) → Option ℕ → List Placed
placed_from s rest None = []
placed_from s rest (Some place) = placed_at place rest (get s place)

abbrev pub walk : ℕ → Slab Node → Option ℕ → List Placed
walk zero s at = []
walk (suc n) s at = placed_from s (walk n s) at

-- the slab holds these messages, in this order, and they are linked, all of them and those of each type
pub record Holds (s : Slab Node) (ends : Ends) (ends_of : ℤ → Ends) (ms : List Placed) : Type 0 where
  pub apart : AreApart ms
  pub held : AllByRecursion (λ m. message_in s m.place ≡ Some m.message) ms
  pub arrival : IsChain (link_in Arrival s) ends ms
  pub same : (mtype : ℤ) → IsChain (link_in Same s) (ends_of mtype) (of_type mtype ms)
  pub count : slab_len s ≡ length ms
