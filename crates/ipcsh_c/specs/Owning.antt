-- What C's handles own.
use Rattle.std.specs.Prelude.{◌≡◌, ◌≢◌, ℤ, pos, List, [], ◌∷◌, length, drop, map, Box, box_value}
use Rattle.std.specs.Box.Ownership.{box_owns}
use Rattle.std.specs.declared.alloc.Global.{Global}
use Rattle.std.specs.contracts.impls.GlobalAllocator.TheImpl.{ghosts as heap}
use base.Fml.{Fml, ftrue, ffalse, fsep}
use denote.RawPtr.{Ptr}
use Rattle.ipc_abi.specs.Openings.{creds_in, journal_in, limits_in}
use Rattle.ipc_abi.specs.declared.opening.RawClient.{RawClient}
use Rattle.ipc_abi.specs.declared.opening.RawLimits.{RawLimits}
use Rattle.ipc_seat.specs.Openings.{AreOpened}
use Rattle.ipc_seat.specs.contracts.seat.Seat.{the_row}
use Rattle.ipc_seat.specs.declared.seat.Seat.{Seat}

-- a handle owns a client: the client lies at its address, and may be freed there
abbrev pub OwnsSeat : Ptr → Seat → Fml
OwnsSeat handle seat = box_owns (heap.dealloc_token seat.alloc) the_row handle seat

-- these handles own these clients one each, in their order
abbrev pub OwnSeats : List Ptr → List Seat → Fml
OwnSeats [] [] = ftrue
OwnSeats (handle ∷ handles) (seat ∷ seats) = fsep (OwnsSeat handle seat) (OwnSeats handles seats)
OwnSeats [] (seat ∷ seats) = ffalse
OwnSeats (handle ∷ handles) [] = ffalse

-- these are the clients that `open` gave in boxes
abbrev pub AreOfService : RawLimits → List RawClient → List Seat → Type 0
AreOfService limits clients seats = (boxes : List (Box Seat Global))
    × AreOpened (journal_in limits) (limits_in limits) (map creds_in clients) boxes × (seats ≡ map box_value boxes)

-- what an opening gives: where its code is 0, the clients of a service that was opened so, and past them the handles are as
-- they were; else no client
abbrev pub GivesSeats : ℤ → RawLimits → List RawClient → List Ptr → List Ptr → List Seat → Type 0
GivesSeats code limits clients old new seats =
    (code ≡ pos 0 → AreOfService limits clients seats × (length seats ≡ length clients)
    × (drop (length clients) new ≡ drop (length clients) old))
    × (code ≢ pos 0 → seats ≡ [])
