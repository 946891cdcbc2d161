-- Connections where one is replaced.
use Rattle.std.proofs.Common.{◌≡◌, ℕ, zero, suc, Bool, true, false, List, [], ◌∷◌, Some, refl, sym, ap, subst, get_or, map, set}
use Rattle.std.specs.Prelude.{is_some, if◌then◌else◌}
use Rattle.std.proofs.lemmas.Bool.{false≢true}
use Rattle.std.proofs.lemmas.Option.{none-some, same_Some}
use Rattle.ipc_server.specs.declared.peers.Conn.{Conn}
use Rattle.ipc_server.specs.declared.peers.Conn.TheVariants.{Absent, Silent, Member}
use Rattle.ipc_server.specs.declared.peers.Peer.{Peer}
use Rattle.ipc_server.specs.Lives.{without}
use Rattle.ipc_server.specs.Servers.{peer_in}

-- a connection where one is put
pub set_here : (xs : List Conn) (c : ℕ) (y : Conn) → is_some (peer_in (get_or xs c Absent)) ≡ true → get_or (set xs c y) c Absent ≡ y
set_here [] c y there = absurd (false≢true there)
set_here (x ∷ xs) zero y there = refl
set_here (x ∷ xs) (suc c) y there = set_here xs c y there

pub set_gone : (xs : List Conn) (c : ℕ) → get_or (set xs c Absent) c Absent ≡ Absent
set_gone [] c = refl
set_gone (x ∷ xs) zero = refl
set_gone (x ∷ xs) (suc c) = set_gone xs c

-- what is there beside one that goes
pub gone_member : (xs : List Conn) (c d : ℕ) (peer : Peer) (client seq : ℕ) → get_or (set xs c Absent) d Absent ≡ Member peer client seq → get_or xs d Absent ≡ Member peer client seq
gone_member [] c d peer client seq is = is
gone_member (x ∷ xs) zero zero peer client seq is = cc
gone_member (x ∷ xs) zero (suc d) peer client seq is = is
gone_member (x ∷ xs) (suc c) zero peer client seq is = is
gone_member (x ∷ xs) (suc c) (suc d) peer client seq is = gone_member xs c d peer client seq is

pub gone_peer : (xs : List Conn) (c d : ℕ) (peer : Peer) → peer_in (get_or (set xs c Absent) d Absent) ≡ Some peer → peer_in (get_or xs d Absent) ≡ Some peer
gone_peer [] c d peer is = is
gone_peer (x ∷ xs) zero zero peer is = absurd (none-some peer is)
gone_peer (x ∷ xs) zero (suc d) peer is = is
gone_peer (x ∷ xs) (suc c) zero peer is = is
gone_peer (x ∷ xs) (suc c) (suc d) peer is = gone_peer xs c d peer is

-- and beside one that is silent now
pub silent_member : (xs : List Conn) (c d : ℕ) (new peer : Peer) (client seq : ℕ) → get_or (set xs c (Silent new)) d Absent ≡ Member peer client seq → get_or xs d Absent ≡ Member peer client seq
silent_member [] c d new peer client seq is = is
silent_member (x ∷ xs) zero zero new peer client seq is = cc
silent_member (x ∷ xs) zero (suc d) new peer client seq is = is
silent_member (x ∷ xs) (suc c) zero new peer client seq is = is
silent_member (x ∷ xs) (suc c) (suc d) new peer client seq is = silent_member xs c d new peer client seq is

pub silent_peer : (P : Peer → Type 0) (xs : List Conn) (c d : ℕ) (new peer : Peer) → P new → ((i : ℕ) (p : Peer) → peer_in (get_or xs i Absent) ≡ Some p → P p)
    → peer_in (get_or (set xs c (Silent new)) d Absent) ≡ Some peer → P peer
silent_peer P [] c d new peer here others is = others d peer is
silent_peer P (x ∷ xs) zero zero new peer here others is = subst P (same_Some new peer is) here
silent_peer P (x ∷ xs) zero (suc d) new peer here others is = others (suc d) peer is
silent_peer P (x ∷ xs) (suc c) zero new peer here others is = others zero peer is
silent_peer P (x ∷ xs) (suc c) (suc d) new peer here others is = silent_peer P xs c d new peer here (λ i p at. others (suc i) p at) is

-- and beside those that pass a test and go
pub map_without : (test : Conn → Bool) → test Absent ≡ false → (xs : List Conn) (i : ℕ) → get_or (map (without test) xs) i Absent ≡ without test (get_or xs i Absent)
map_without test fails [] i = sym (ap (λ (b : Bool). if b then Absent else Absent) fails)
map_without test fails (x ∷ xs) zero = refl
map_without test fails (x ∷ xs) (suc i) = map_without test fails xs i
