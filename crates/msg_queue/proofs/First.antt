-- The walk to the first message of another type.
use Rattle.std.proofs.Common.{◌≡◌, ℕ, suc, Bool, true, false, cond, ℤ, List, sym, ap, ◌∙◌, Option, Some}
use Rattle.slab.specs.Slab.{Slab, get}
use Rattle.msg_queue.specs.declared.nodes.Node.{Node}
use Rattle.msg_queue.specs.Others.{other_type}
use Rattle.msg_queue.specs.Queues.{Placed}
use Rattle.msg_queue.specs.Links.{first_place, placed_at, walk}

step : (s : Slab Node) (n : ℕ) (at : Option ℕ) (place : ℕ) (node : Node) (u : ℤ) → at ≡ Some place → get s place ≡ Some node
    → first_place (other_type u) (walk (suc n) s at) ≡ cond (other_type u node.message) (Some place) (first_place (other_type u) (walk n s node.arrival.next))
step s n at place node u is found =
    ap (λ (o : Option ℕ). first_place (other_type u) (walk (suc n) s o)) is ∙ ap (λ (o : Option Node). first_place (other_type u) (placed_at place (walk n s) o)) found

pub first_found : (s : Slab Node) (left n : ℕ) (at : Option ℕ) (place : ℕ) (node : Node) (u : ℤ) (r : Bool) (all : List Placed) → left ≡ suc n → at ≡ Some place → get s place ≡ Some node → r ≡ other_type u node.message → r ≡ true
    → first_place (other_type u) (walk left s at) ≡ first_place (other_type u) all → Some place ≡ first_place (other_type u) all
first_found s left n at place node u r all more is found tests passes inv =
    sym (ap (λ (m : ℕ). first_place (other_type u) (walk m s at)) more ∙ step s n at place node u is found ∙ ap (λ (b : Bool). cond b (Some place) (first_place (other_type u) (walk n s node.arrival.next))) (sym tests ∙ passes))
    ∙ inv

pub first_later : (s : Slab Node) (left n : ℕ) (at : Option ℕ) (place : ℕ) (node : Node) (u : ℤ) (r : Bool) (all : List Placed) → left ≡ suc n → at ≡ Some place → get s place ≡ Some node → r ≡ other_type u node.message → r ≡ false
    → first_place (other_type u) (walk left s at) ≡ first_place (other_type u) all → first_place (other_type u) (walk n s node.arrival.next) ≡ first_place (other_type u) all
first_later s left n at place node u r all more is found tests fails inv =
    sym (ap (λ (m : ℕ). first_place (other_type u) (walk m s at)) more ∙ step s n at place node u is found ∙ ap (λ (b : Bool). cond b (Some place) (first_place (other_type u) (walk n s node.arrival.next))) (sym tests ∙ fails))
    ∙ inv
