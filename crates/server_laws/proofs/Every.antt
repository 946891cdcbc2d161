-- What is so of each output of a step.
use Rattle.std.proofs.Common.{◌≡◌, ℕ, ◌+◌, Bool, true, false, List, [], ◌∷◌, ◌++◌, Option, Some, None, refl}
use Rattle.std.specs.Prelude.{◌==◌}
use Rattle.std.specs.List.{AllByRecursion, list_any}
use Rattle.ipc_call.specs.declared.replies.Reply.{Reply}
use Rattle.ipc_server.specs.declared.outputs.Closing.TheVariants as why
use Rattle.ipc_server.specs.declared.outputs.Output.{Output}
use Rattle.ipc_server.specs.declared.outputs.Output.TheVariants as outputs
use Rattle.ipc_server.specs.declared.peers.Conn.{Conn}
use Rattle.ipc_server.specs.declared.peers.Role.{Role}
use Rattle.ipc_server.specs.Going.{Went}
use Rattle.ipc_server.specs.Lives.{closed_from, closed_one}
use Rattle.ipc_server.specs.Making.{asked, others_told, replies_told, reply, reply_on, size_of, told_of}
use Rattle.ipc_server.specs.Servers.{Server, is_of, is_process}
use Rattle.server_laws.proofs.Memory.{holding}
use Rattle.server_laws.proofs.Moves.{Moves, comes, followed, goes, goes_all, is_plain, joins_in, keeps, makes_one, still, tells, turns, waits_on}

module _ (P : Output → Type 0) where
  abbrev pub Each : List Output → Type 0
  Each list = AllByRecursion (λ o. P o) list

  pub each_append : (xs ys : List Output) → Each xs → Each ys → Each (xs ++ ys)
  each_append [] ys first next = next
  each_append (x ∷ xs) ys first next = (first.0, each_append xs ys first.1 next)

  module _ (plain : (o : Output) → is_plain o ≡ true → P o) where
    each_on : (what : Reply) (on : Option (ℕ × ℕ)) → Each (reply_on what on)
    each_on what None = tt
    each_on what (Some on) = (plain (reply on.0 on.1 (told_of what)) refl, tt)

    pub each_told : (conns : List Conn) (roles : List Role) (tos : List (ℕ × Reply)) → Each (replies_told conns roles tos)
    each_told conns roles [] = tt
    each_told conns roles (to ∷ tos) = each_append (reply_on to.1 (asked conns roles to.0)) (replies_told conns roles tos) (each_on to.1 (asked conns roles to.0)) (each_told conns roles tos)

    each_one : (b : Bool) (conn : ℕ) (rest : List Output) → Each rest → Each (closed_one b conn rest)
    each_one true conn rest all = (plain (outputs.Close conn why.Ended) refl, all)
    each_one false conn rest all = all

    each_closed : (pid conn : ℕ) (cs : List Conn) → Each (closed_from pid conn cs)
    each_closed pid conn [] = tt
    each_closed pid conn (c ∷ cs) = each_one (is_of (is_process pid) c) conn (closed_from pid (conn + 1) cs) (each_closed pid (conn + 1) cs)

    module _ (making : (segment size : ℕ) → P (outputs.Make segment size)) where
      pub each_held : (s : Server) (segment : ℕ) (b : Bool) → Each (holding s segment b).outputs
      each_held s segment true = tt
      each_held s segment false = (making segment (size_of s segment), tt)

      pub each_moves : {s : Server} {w : Went} → Moves s w → Each w.outputs
      each_moves (still s) = tt
      each_moves (tells s o is) = (plain o is, tt)
      each_moves (makes_one s now client call may) = each_told s.conns s.roles (others_told now client call s)
      each_moves (goes s conn) = tt
      each_moves (comes s conn pid c free) = tt
      each_moves (joins_in s conn peer client seq silent) = tt
      each_moves (waits_on s conn seq) = tt
      each_moves (turns s client role) = tt
      each_moves (keeps s segment) = each_held s segment (list_any (λ own. own == segment) s.memory)
      each_moves (goes_all s pid) = each_closed pid 0 s.conns
      each_moves (followed {s} {v} {w} m n) = each_append v.outputs w.outputs (each_moves m) (each_moves n)
