-- One after the other.
use Rattle.std.proofs.Common.{◌≡◌, ℕ, ◌+◌, ◌≤◌, Bool, true, false, List, [], ◌∷◌, ◌++◌, length, refl, sym, ap, ◌∙◌, arith, append_assoc, append-nil}
use Rattle.std.specs.Prelude.{if◌then◌else◌, Result, Ok, Err, OnOk}
use Rattle.ipc_server.specs.declared.outputs.Output.{Output}
use Rattle.ipc_server.specs.Going.{Went, and_then, says, stays}
use Rattle.ipc_server.specs.Held.{Costs, Goes, HasRoom, Held, Stays}
use Rattle.ipc_server.specs.Servers.{Server}

pub goes_on : (a b c : Held) (f g : Server → Went) → Goes a b f → Goes b c g → Goes a c (λ s. and_then (f s) g)
goes_on a b c f g first next = record {
  server = next.server ∙ ap (λ (s : Server). (g s).server) first.server;
  outputs = next.outputs
      ∙ ap (λ (l : List Output). l ++ (g b.server).outputs) first.outputs
      ∙ append_assoc a.outputs.list (f a.server).outputs (g b.server).outputs
      ∙ ap (λ (s : Server). a.outputs.list ++ ((f a.server).outputs ++ (g s).outputs)) first.server;
  given = next.given ∙ first.given;
}

pub costs_on : (a b c : Held) (m n o p : ℕ) → Costs a b m n → Costs b c o p → Costs a c (m + o) (n + p)
costs_on a b c m n o p first next = record {
  events = omega (arith, first.events, next.events);
  rows = omega (arith, first.rows, next.rows);
  outputs = omega (arith, first.outputs, next.outputs);
}

-- what costs so much costs more at most
pub costs_less : (a b : Held) (m n o p : ℕ) → m ≤ o → n ≤ p → Costs a b m n → Costs a b o p
costs_less a b m n o p rows outputs cost = record {
  events = omega (arith, rows, cost.events);
  rows = omega (arith, rows, cost.rows);
  outputs = omega (arith, outputs, cost.outputs);
}

-- nothing has changed
pub goes_nowhere : (a : Held) → Goes a a stays
goes_nowhere a = record { server = refl; outputs = sym (append-nil a.outputs.list); given = refl }

pub costs_nothing : (a : Held) (m n : ℕ) → Costs a a m n
costs_nothing a m n = record { events = omega arith; rows = omega arith; outputs = omega arith }

-- by a test of the server before
pub goes_so : (a b : Held) (t : Bool) (f : Server → Went) (w : Went) → t ≡ true → Goes a b f → Goes a b (λ s. if t then f s else w)
goes_so a b t f w is goes = record {
  server = goes.server ∙ sym (ap (λ (x : Bool). (if x then f a.server else w).server) is);
  outputs = goes.outputs ∙ sym (ap (λ (x : Bool). a.outputs.list ++ (if x then f a.server else w).outputs) is);
  given = goes.given;
}

pub goes_else : (a b : Held) (t : Bool) (f : Server → Went) (w : Went) → t ≡ false → Goes a b f → Goes a b (λ s. if t then w else f s)
goes_else a b t f w is goes = record {
  server = goes.server ∙ sym (ap (λ (x : Bool). (if x then w else f a.server).server) is);
  outputs = goes.outputs ∙ sym (ap (λ (x : Bool). a.outputs.list ++ (if x then w else f a.server).outputs) is);
  given = goes.given;
}

-- it leads to the same
pub goes_as : (a b : Held) (f g : Server → Went) → f a.server ≡ g a.server → Goes a b f → Goes a b g
goes_as a b f g same goes = record {
  server = goes.server ∙ ap (λ (w : Went). w.server) same;
  outputs = goes.outputs ∙ ap (λ (w : Went). a.outputs.list ++ w.outputs) same;
  given = goes.given;
}

-- there is still room for the rest
pub room_after : (a b : Held) (m n o p : ℕ) → HasRoom a (m + o) (n + p) → Costs a b m n → HasRoom b o p
room_after a b m n o p room cost = record {
  rows = omega (arith, room.rows, cost.rows);
  outputs = omega (arith, room.outputs, cost.outputs);
  counted = let count = room.counted in let events = cost.events in omega (arith, count, events);
}

-- there is room for less
pub room_for : (a : Held) (m n o p : ℕ) → o ≤ m → p ≤ n → HasRoom a m n → HasRoom a o p
room_for a m n o p rows outputs room = record {
  rows = omega (arith, room.rows, rows);
  outputs = omega (arith, room.outputs, outputs);
  counted = let count = room.counted in omega (arith, count, rows);
}

pub goes_as_ok : {T E : Type 0} (r : Result T E) (a b : Held) (f g : Server → Went) → f a.server ≡ g a.server → OnOk r (Goes a b f) → OnOk r (Goes a b g)
goes_as_ok (Ok x) a b f g same goes = goes_as a b f g same goes
goes_as_ok (Err e) a b f g same goes = tt
