-- What posting, going on and taking do with a client's state.
use Rattle.std.specs.Prelude.{◌≡◌, ℕ, Option, None, Some, Result, Ok, Err, ⊤}
use Rattle.std.specs.Arc.{arc_value}
use Rattle.ipc_call.specs.declared.calls.Call.{Call}
use Rattle.ipc_call.specs.declared.replies.Reply.{Reply}
use Rattle.pub_rule.specs.WorkSteps.{asking}
use Rattle.pub_list.specs.Clients.{work}
use Rattle.ipc_combiner.specs.declared.calls.Seen.{Seen}
use Rattle.ipc_combiner.specs.declared.calls.Seen.TheVariants.{Posted as IsPosted, Taken, Parked}
use Rattle.ipc_member.specs.declared.calls.Looked.{Looked}
use Rattle.ipc_member.specs.declared.calls.Looked.TheVariants.{Done, Still}
use Rattle.ipc_member.specs.declared.states.Member.{Member}
use Rattle.ipc_member.specs.declared.states.Posted.{Posted}
use Rattle.ipc_member.specs.Members.{HasAdvanced}
use Rattle.ipc_seat.specs.declared.calls.Progress.{Progress}
use Rattle.ipc_seat.specs.declared.calls.Progress.TheVariants as progress
use Rattle.ipc_seat.specs.declared.seat.SeatError.{SeatError}
use Rattle.ipc_seat.specs.declared.seat.SeatError.TheVariants as errors
use Rattle.ipc_seat.specs.declared.seat.Phase.{Phase}
use Rattle.ipc_seat.specs.declared.seat.Phase.TheVariants as phases
use Rattle.ipc_seat.specs.declared.seat.Seat.{Seat}

-- How far a client is: it asks nothing, has a call in flight, has a reply to take, or has left
pub data State : Type 0 where
  Idle : (member : Member) → State
  InFlight : (posted : Posted) → State
  Answered : (member : Member) (reply : Reply) → State
  Left : State

-- the reply counts where the call is answered alone
abbrev pub state_with : Reply → Phase → State
state_with reply (phases.Idle m) = Idle m
state_with reply (phases.InFlight p) = InFlight p
state_with reply (phases.Answered m) = Answered m reply
state_with reply phases.Left = Left

abbrev pub state_of : Seat → State
state_of seat = state_with seat.reply seat.phase

-- the client asks this at this time, as the same client of the same service
abbrev pub IsPostOf : Member → ℕ → Call → Posted → Type 0
IsPostOf m now call p = (arc_value p.service ≡ arc_value m.service) × (p.flight.joined.client ≡ m.idle.joined.client)
    × (work p.flight.joined ≡ asking m.idle.joined.client (now, call) (work m.idle.joined))

-- a post: of a client that asks nothing; any other stays as it was
abbrev pub Posts : State → ℕ → Call → State → Result (Unit {0}) SeatError → Type 0
Posts (Idle m) now call new result = (p : Posted) × IsPostOf m now call p × (new ≡ InFlight p) × (result ≡ Ok tt)
Posts (InFlight p) now call new result = (new ≡ InFlight p) × (result ≡ Err errors.InFlight)
Posts (Answered m reply) now call new result = (new ≡ Answered m reply) × (result ≡ Err errors.Untaken)
Posts Left now call new result = (new ≡ Left) × (result ≡ Err errors.Left)

-- why a client does nothing that is asked of it out of turn: it has no call to go on with, or it can't post one now
abbrev pub hindrance_of : State → SeatError
hindrance_of (Idle m) = errors.NoCall
hindrance_of (InFlight p) = errors.InFlight
hindrance_of (Answered m reply) = errors.Untaken
hindrance_of Left = errors.Left

-- no call of it is in flight
abbrev pub IsAtRest : Phase → Type 0
IsAtRest (phases.InFlight p) = ⊥
IsAtRest (phases.Idle m) = ⊤
IsAtRest (phases.Answered m) = ⊤
IsAtRest phases.Left = ⊤

abbrev pub progress_of_seen : Seen → Progress
progress_of_seen IsPosted = progress.InFlight
progress_of_seen Taken = progress.InFlight
progress_of_seen Parked = progress.Waiting

-- what a look makes of a client, and how far its call is then
abbrev pub looked_at : Looked → State × Progress
looked_at (Done m reply) = (Answered m reply, progress.Answered)
looked_at (Still p seen) = (InFlight p, progress_of_seen seen)

-- one try to combine and a look, where a call is in flight
abbrev pub Advances : State → State → Result Progress SeatError → Type 0
Advances (Idle m) new result = (new ≡ Idle m) × (result ≡ Err errors.NoCall)
Advances (InFlight p) new result =
    (looked : Looked) × HasAdvanced p looked × (new ≡ (looked_at looked).0) × (result ≡ Ok (looked_at looked).1)
Advances (Answered m reply) new result = (new ≡ Answered m reply) × (result ≡ Ok progress.Answered)
Advances Left new result = (new ≡ Left) × (result ≡ Err errors.Left)

-- the reply that can be taken, and the state once it is
abbrev pub reply_of : State → Option Reply
reply_of (Answered m reply) = Some reply
reply_of (Idle m) = None
reply_of (InFlight p) = None
reply_of Left = None

abbrev pub taken_of : State → State
taken_of (Answered m reply) = Idle m
taken_of (Idle m) = Idle m
taken_of (InFlight p) = InFlight p
taken_of Left = Left
