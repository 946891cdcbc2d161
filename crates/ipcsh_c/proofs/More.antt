-- One handle more.
use Rattle.std.proofs.Common.{List, [], ◌∷◌, ◌++◌}
use seplogic.Ra.Ura.{Ura}
use base.Fml.{ftrue, fsep}
use base.Logic.{ent, sep, via, fst∗, never, never_e}
use denote.RawPtr.{Ptr}
use types.Logic.{Logic, sem}
use types.Kit.{‵, ◌$◌, ◌∵◌, !, qed, done, move, drop, use2, fsplit, fjoin}
use denote.Steps.{nothing}
use Rattle.ipc_seat.specs.declared.seat.Seat.{Seat}
use Rattle.ipcsh_c.specs.Owning.{OwnsSeat, OwnSeats}

pub own_more : {M : Type 1} {𝓤 : Ura M} (𝓛 : Logic 𝓤) (handles : List Ptr) (seats : List Seat) (handle : Ptr) (seat : Seat)
    → ent 𝓤 (sep 𝓤 (sem 𝓛 (OwnSeats handles seats)) (sem 𝓛 (OwnsSeat handle seat))) (sem 𝓛 (OwnSeats (handles ++ handle ∷ []) (seats ++ seat ∷ [])))
own_more 𝓛 [] [] h s = qed 𝓛 (‵ ftrue ∷ ‵ (OwnsSeat h s) ∷ []) ∵ drop ! $ nothing ! $ move ! (1 ∷ 0 ∷ []) $ fjoin ! $ done !
own_more 𝓛 (k ∷ ks) (t ∷ ts) h s =
    qed 𝓛 (‵ (fsep (OwnsSeat k t) (OwnSeats ks ts)) ∷ ‵ (OwnsSeat h s) ∷ []) ∵ fsplit ! $
    move ! (1 ∷ 2 ∷ []) $ use2 𝓛 (‵ (OwnSeats (ks ++ h ∷ []) (ts ++ s ∷ []))) (own_more 𝓛 ks ts h s) $ move ! (1 ∷ 0 ∷ []) $ fjoin ! $ done !
own_more {𝓤 = 𝓤} 𝓛 [] (t ∷ ts) h s = via 𝓤 (never 𝓤) (fst∗ 𝓤 (never 𝓤) (sem 𝓛 (OwnsSeat h s))) (never_e 𝓤 _)
own_more {𝓤 = 𝓤} 𝓛 (k ∷ ks) [] h s = via 𝓤 (never 𝓤) (fst∗ 𝓤 (never 𝓤) (sem 𝓛 (OwnsSeat h s))) (never_e 𝓤 _)
