-- What is known of clients with their service.
use Rattle.std.specs.Prelude.{◌≡◌, ℕ, List, All}
use Rattle.ipc_call.specs.declared.calls.Call.{Call}
use Rattle.ipc_call.specs.declared.replies.Reply.{Reply}
use Rattle.ipc_history.specs.History.{History}
use Rattle.pub_rule.specs.declared.work.Work.{Work}
use Rattle.pub_list.specs.Clients.{work}
use Rattle.ipc_combiner.specs.declared.entries.Entry.{Entry}
use Rattle.ipc_combiner.specs.declared.entries.Keeping.{Keeping}
use Rattle.ipc_combiner.specs.declared.states.Service.{Service}
use Rattle.ipc_combiner.specs.Asking.{HasCalled, HasDone, IsFurther, IsStill}
use Rattle.ipc_combiner.specs.States.{keeping, opened}
use Rattle.std.specs.Arc.{arc_value}
use Rattle.ipc_member.specs.declared.states.Member.{Member}
use Rattle.ipc_member.specs.declared.states.Posted.{Posted}
use Rattle.ipc_member.specs.declared.calls.Looked.{Looked}
use Rattle.ipc_member.specs.declared.calls.Looked.TheVariants.{Done, Still}

abbrev pub Known : Type 0
Known = Work Entry (ℕ × Call) Reply

-- the service of a client, its number, and what it knows
abbrev pub service_of : Member → Service
service_of m = arc_value m.service

abbrev pub number_of : Member → ℕ
number_of m = m.idle.joined.client

-- A look for the answer: the call has ended with this reply, or is still in flight. It is the same client of the same service
abbrev pub HasLooked : Posted → Looked → Type 0
HasLooked v (Done m reply) = (arc_value m.service ≡ arc_value v.service) × (m.idle.joined.client ≡ v.flight.joined.client)
    × HasDone v.flight.joined.client (work v.flight.joined) (work m.idle.joined) reply
HasLooked v (Still p seen) = (arc_value p.service ≡ arc_value v.service) × (p.flight.joined.client ≡ v.flight.joined.client)
    × IsStill v.flight.joined.client (work v.flight.joined) (work p.flight.joined) seen

-- The same after one try to combine, by which it came to know u
abbrev pub HasAdvanced : Posted → Looked → Type 0
HasAdvanced v (Done m reply) = (arc_value m.service ≡ arc_value v.service) × (m.idle.joined.client ≡ v.flight.joined.client)
    × HasCalled v.flight.joined.client (work v.flight.joined) (work m.idle.joined) reply
HasAdvanced v (Still p seen) = (arc_value p.service ≡ arc_value v.service) × (p.flight.joined.client ≡ v.flight.joined.client)
    × ((u : Known) × IsFurther (work v.flight.joined) u × IsStill v.flight.joined.client u (work p.flight.joined) seen)

-- the clients of one service, opened so, which keeps this of its journal
abbrev pub AreOf : Keeping → History → List Member → Type 0
AreOf kept opening members = (service : Service) × (opened service.list ≡ opening)
    × All (λ m. service_of m ≡ service) members × (keeping service.list ≡ kept)
