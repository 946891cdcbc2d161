-- The connections of a process are closed, one after another.
use Rattle.std.proofs.Common.{◌≡◌, ℕ, suc, ◌+◌, ◌<◌, ◌≤◌, Bool, true, false, cond, List, Option, Some, [], ◌∷◌, ◌++◌, refl, sym, ap, ◌∙◌, arith, drop, get_or, length, map, set, take, append_assoc}
use Rattle.std.specs.Prelude.{not, if◌then◌else◌}
use Rattle.std.proofs.lemmas.Bool.{le-leb}
use Rattle.std.proofs.Math.Seq.{get_or-append_seam, set-append_seam}
use Rattle.std.proofs.lemmas.List.{drop_more, length-map, length-take-le, map-append, take_more}
use Rattle.ipc_creds.specs.Credentials.{Credentials, groups_max}
use Rattle.ipc_server.specs.declared.outputs.Closing.{Closing}
use Rattle.ipc_server.specs.declared.outputs.Closing.TheVariants.{BadNumber, TooManyGroups}
use Rattle.ipc_server.specs.declared.outputs.Output.{Output}
use Rattle.ipc_server.specs.declared.outputs.Output.TheVariants.{Close}
use Rattle.ipc_server.specs.Going.{says}
use Rattle.ipc_server.specs.declared.peers.Conn.{Conn}
use Rattle.ipc_server.specs.declared.peers.Conn.TheVariants.{Absent}
use Rattle.ipc_server.specs.Lives.{bar, closed_from, closed_one, connects, connects_unless, is_free, new_bar}
use Rattle.ipc_server.specs.Servers.{Server, is_of, is_process}

closed_on : (b : Bool) (conn : ℕ) (rest : List Output) → closed_one b conn [] ++ rest ≡ closed_one b conn rest
closed_on true conn rest = refl
closed_on false conn rest = refl

module _ (w : Conn → Conn) (xs ys : List Conn) (at : ℕ) (within : at < length xs) (is : ys ≡ map w (take at xs) ++ drop at xs) where
  abbrev x : Conn
  x = get_or xs at Absent

  abbrev front : List Conn
  front = map w (take at xs)

  count : length front ≡ at
  count = length-map (take at xs) w ∙ length-take-le at xs (omega (arith, within))

  split : ys ≡ front ++ x ∷ drop (at + 1) xs
  split = is ∙ ap (λ (l : List Conn). front ++ l) (drop_more xs at Absent within)

  pub got : get_or ys at Absent ≡ x
  got = ap (λ (l : List Conn). get_or l at Absent) split
      ∙ ap (λ (i : ℕ). get_or (front ++ x ∷ drop (at + 1) xs) i Absent) (sym count)
      ∙ get_or-append_seam front x (drop (at + 1) xs) Absent

  pub close_step : set ys at (w (get_or ys at Absent)) ≡ map w (take (at + 1) xs) ++ drop (at + 1) xs
  close_step =
      ap (λ (c : Conn). set ys at (w c)) got
      ∙ ap (λ (l : List Conn). set l at (w x)) split
      ∙ ap (λ (i : ℕ). set (front ++ x ∷ drop (at + 1) xs) i (w x)) (sym count)
      ∙ set-append_seam front x (drop (at + 1) xs) (w x)
      ∙ sym (append_assoc front (w x ∷ []) (drop (at + 1) xs))
      ∙ ap (λ (l : List Conn). l ++ drop (at + 1) xs) (sym (map-append w (take at xs) (x ∷ [])) ∙ ap (map w) (sym (take_more xs at Absent within)))

  pub told_step : (pid : ℕ) (out told : List Output) → told ≡ out ++ closed_one (is_of (is_process pid) (get_or ys at Absent)) at []
      → told ++ closed_from pid (at + 1) (drop (at + 1) xs) ≡ out ++ closed_from pid at (drop at xs)
  told_step pid out told told_is =
      ap (λ (l : List Output). l ++ closed_from pid (at + 1) (drop (at + 1) xs)) told_is
      ∙ append_assoc out (closed_one (is_of (is_process pid) (get_or ys at Absent)) at []) (closed_from pid (at + 1) (drop (at + 1) xs))
      ∙ ap (λ (l : List Output). out ++ l) (closed_on (is_of (is_process pid) (get_or ys at Absent)) at (closed_from pid (at + 1) (drop (at + 1) xs))
      ∙ ap (λ (c : Conn). closed_one (is_of (is_process pid) c) at (closed_from pid (at + 1) (drop (at + 1) xs))) got
      ∙ ap (closed_from pid at) (sym (drop_more xs at Absent within)))

-- a connection that may be
pub barred : (s : Server) (conn pid euid : ℕ) (c : Credentials) (r : Option Closing) → is_free s conn ≡ true → euid ≡ c.euid → r ≡ new_bar s pid euid → r ≡ bar s conn pid c
barred s conn pid euid c r free same is =
    is ∙ ap (new_bar s pid) same ∙ sym (ap (λ (b : Bool). cond b (new_bar s pid c.euid) (Some BadNumber)) free)

-- few groups are as they are
pub connected_as : (conn pid : ℕ) (k c : Credentials) (s : Server) → c ≡ k → length k.groups ≤ groups_max
    → connects_unless (bar s conn pid c) conn (record { pid = pid; creds = c }) s ≡ connects conn pid k s
connected_as conn pid k c s same few =
    ap (λ (c : Credentials). connects_unless (bar s conn pid c) conn (record { pid = pid; creds = c }) s) same
    ∙ sym (ap (λ (b : Bool). if not b then says (Close conn TooManyGroups) s else connects_unless (bar s conn pid k) conn (record { pid = pid; creds = k }) s) (le-leb (length k.groups) groups_max few))
