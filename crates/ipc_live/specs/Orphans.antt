-- Objects that nobody may need any more (the project's own).
use Rattle.std.specs.Prelude.{ℕ, Bool, List, false, not, ◌&&◌, ◌||◌, ◌==◌}
use Rattle.std.specs.List.{list_any}
use Rattle.ipc_live.specs.declared.objects.Use.{Use}
use Rattle.ipc_live.specs.declared.objects.Use.TheVariants.{Queue, Sems, Segment}

-- a segment that nobody has attached
abbrev pub is_unattached : Use → Bool
is_unattached (Queue _ _) = false
is_unattached Sems = false
is_unattached (Segment _ _ nattch) = nattch == 0

-- no process that is alive has this number; 0 names none
abbrev pub is_gone : List ℕ → ℕ → Bool
is_gone alive pid = pid == 0 || not (list_any (λ p. p == pid) alive)

-- some of the two numbers names a process, and each that does names one that is gone
abbrev pub all_gone : List ℕ → ℕ → ℕ → Bool
all_gone alive first second = (not (first == 0) || not (second == 0)) && is_gone alive first && is_gone alive second

-- the same of who sent last and who received last, or of who created a segment and who attached or detached it last
abbrev pub users_are_gone : List ℕ → Use → Bool
users_are_gone alive (Queue lspid lrpid) = all_gone alive lspid lrpid
users_are_gone alive Sems = false
users_are_gone alive (Segment cpid lpid _) = all_gone alive cpid lpid
