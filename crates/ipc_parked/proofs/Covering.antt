-- The waiting calls that the grant of a call touches.
use Rattle.std.proofs.Common.{◌≡◌, ℕ, zero, suc, ℤ, Bool, true, false, List, [], ◌∷◌, refl, sym, ap, ◌∙◌, ⊎_elim, Option, Some, None}
use Rattle.std.specs.Prelude.{filter, map, option_map, slice_get, unwrap_or}
use Rattle.std.proofs.lemmas.Bool.{cases_Bool, false≢true}
use Rattle.ipc_call.specs.declared.calls.Call.{Call}
use Rattle.ipc_call.specs.declared.calls.Call.TheVariants.{MsgGet, MsgSnd, MsgRcv, SemGet, SemOp, SemTimedOp, SetVal, SetAll, IpcSet, IpcRmid, Exit, Kill}
use Rattle.ipc_call.specs.declared.calls.Kind.{Kind}
use Rattle.ipc_call.specs.declared.calls.SemOper.{SemOper}
use Rattle.ipc_call.specs.declared.replies.Waiting.{Waiting}
use Rattle.ipc_model.specs.State.{State}
use Rattle.ipc_model.specs.Cancelled.{waits_on}
use Rattle.ipc_model.specs.Decide.{waits_at}
use Rattle.ipc_model.specs.Step.{is_ready}
use Rattle.ipc_model.specs.Touched.{touches_place}
use Rattle.ipc_model.proofs.Turning.{msgget-touches, semget-touches}
use Rattle.ipc_parked.specs.declared.parked.Arrival.{Arrival}
use Rattle.ipc_parked.specs.declared.touched.Touched.TheVariants.{Nothing, Object}
use Rattle.ipc_parked.specs.Parked.{clients_on, entry_of, on_object, waiting}
use Rattle.ipc_parked.specs.Touched.{is_touched}

pub filter-none : (ws : List Waiting) → filter (λ w. false) ws ≡ []
filter-none [] = refl
filter-none (w ∷ ws) = filter-none ws

pub waiting-on : (kind : Kind) (id : ℕ) (es : List (ℕ × Arrival)) → waiting (on_object kind id es) ≡ filter (λ w. waits_on kind id w.call) (waiting es)
waiting-on kind id [] = refl
waiting-on kind id (e ∷ es) =
    ⊎_elim
    (λ (on : waits_on kind id e.1.call ≡ true). rw on (ap (λ (ws : List Waiting). entry_of e ∷ ws) (waiting-on kind id es)))
    (λ (off : waits_on kind id e.1.call ≡ false). rw off (waiting-on kind id es))
    (cases_Bool (waits_on kind id e.1.call))

-- the client at an index among those that were touched
abbrev pub client_at : (Waiting → Bool) → List Waiting → ℕ → Option ℕ
client_at touched ws i = option_map (λ w. w.client) (slice_get (filter touched ws) i)

pub client-none : (ws : List Waiting) (i : ℕ) → client_at (is_touched Nothing) ws i ≡ None
client-none ws i = ap (λ (vs : List Waiting). option_map (λ w. w.client) (slice_get vs i)) (filter-none ws)

clients-at : (es : List (ℕ × Arrival)) (i : ℕ) → slice_get (map (λ e. e.0) es) i ≡ option_map (λ w. w.client) (slice_get (waiting es) i)
clients-at [] i = refl
clients-at (e ∷ es) zero = refl
clients-at (e ∷ es) (suc i) = clients-at es i

pub client-on : (kind : Kind) (id : ℕ) (es : List (ℕ × Arrival)) (i : ℕ) → client_at (is_touched (Object kind id)) (waiting es) i ≡ slice_get (clients_on kind id es) i
client-on kind id es i = ap (λ (vs : List Waiting). option_map (λ w. w.client) (slice_get vs i)) (sym (waiting-on kind id es)) ∙ sym (clients-at (on_object kind id es) i)

-- a call of none of these names touches nothing on which a call waits
nowhere : (place : Option (Kind × ℕ)) → unwrap_or (option_map (λ at. false) place) false ≡ true → ⊥
nowhere None on = false≢true on
nowhere (Some at) on = false≢true on

pub touches-nothing : (call : Call)
    → ((id : ℕ) (mtype : ℤ) (text : List ℕ) (flags : ℕ) → call ≡ MsgSnd id mtype text flags → ⊥)
    → ((id size : ℕ) (msgtyp : ℤ) (flags : ℕ) → call ≡ MsgRcv id size msgtyp flags → ⊥)
    → ((id : ℕ) (ops : List SemOper) → call ≡ SemOp id ops → ⊥)
    → ((id : ℕ) (ops : List SemOper) (timeout : ℕ) → call ≡ SemTimedOp id ops timeout → ⊥)
    → ((id num : ℕ) (value : ℤ) → call ≡ SetVal id num value → ⊥)
    → ((id : ℕ) (values : List ℤ) → call ≡ SetAll id values → ⊥)
    → ((kind : Kind) (id uid gid mode : ℕ) (qbytes : Option ℕ) → call ≡ IpcSet kind id uid gid mode qbytes → ⊥)
    → ((kind : Kind) (id : ℕ) → call ≡ IpcRmid kind id → ⊥)
    → (call ≡ Exit → ⊥)
    → ((pid : ℕ) → call ≡ Kill pid → ⊥)
    → (s : State) (client : ℕ) (w : Waiting) → is_ready s w ≡ false → touches_place s client call w ≡ true → ⊥
touches-nothing (MsgSnd id mtype text flags) sends receives operates timed sets sets_all puts removes exits kills s client w waits on = sends id mtype text flags refl
touches-nothing (MsgRcv id size msgtyp flags) sends receives operates timed sets sets_all puts removes exits kills s client w waits on = receives id size msgtyp flags refl
touches-nothing (SemOp id ops) sends receives operates timed sets sets_all puts removes exits kills s client w waits on = operates id ops refl
touches-nothing (SemTimedOp id ops timeout) sends receives operates timed sets sets_all puts removes exits kills s client w waits on = timed id ops timeout refl
touches-nothing (SetVal id num value) sends receives operates timed sets sets_all puts removes exits kills s client w waits on = sets id num value refl
touches-nothing (SetAll id values) sends receives operates timed sets sets_all puts removes exits kills s client w waits on = sets_all id values refl
touches-nothing (IpcSet kind id uid gid mode qbytes) sends receives operates timed sets sets_all puts removes exits kills s client w waits on = puts kind id uid gid mode qbytes refl
touches-nothing (IpcRmid kind id) sends receives operates timed sets sets_all puts removes exits kills s client w waits on = removes kind id refl
touches-nothing Exit sends receives operates timed sets sets_all puts removes exits kills s client w waits on = exits refl
touches-nothing (Kill pid) sends receives operates timed sets sets_all puts removes exits kills s client w waits on = kills pid refl
touches-nothing (MsgGet key flags) sends receives operates timed sets sets_all puts removes exits kills s client w waits on = false≢true (sym (msgget-touches s w waits client key flags) ∙ on)
touches-nothing (SemGet key nsems flags) sends receives operates timed sets sets_all puts removes exits kills s client w waits on = false≢true (sym (semget-touches s w waits client key nsems flags) ∙ on)
touches-nothing call sends receives operates timed sets sets_all puts removes exits kills s client w waits on = nowhere (waits_at w.call) on
