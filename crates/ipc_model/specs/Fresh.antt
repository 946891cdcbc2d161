-- What is true of a process that begins, by a fork (fork(2)) or by a client that begins anew (the project's own): it has no
-- semadj; a forked one has what its parent has attached, under the same numbers; its thread is one client.
use Rattle.std.specs.Prelude.{◌≡◌, ℕ, false, Option, Some, None}
use Rattle.std.specs.FinMap as finite
use Rattle.ipc_call.specs.declared.calls.Call.TheVariants.{Begin, Fork}
use Rattle.shm_seg.specs.declared.attachments.Attachment.{Attachment}
use Rattle.shm_seg.specs.Attachments.{attachment_at}
use Rattle.ipc_model.specs.State.{Call, State, has_exited, process_at, thread_at}

-- by this call of a client a process begins: the client that is its thread, and its pid
abbrev pub begun_by : ℕ → Call → Option (ℕ × ℕ)
begun_by client (Begin pid creds) = Some (client, pid)
begun_by client (Fork child pid) = Some (child, pid)
begun_by client call = None

-- what it has attached under a number: what the caller's process has, by a fork
abbrev pub handed_on : State → ℕ → Call → ℕ → Option Attachment
handed_on s client (Fork child pid) number = attachment_at s.shared.attached (process_at s client) number
handed_on s client call number = None

-- from the one state to the other the process of the next serial number has begun
pub record IsFresh (s new : State) (caller : ℕ) (call : Call) (child pid : ℕ) : Type 0 where
  pub semadj : (set num : ℕ) → finite.get new.sems.undo (record { client = s.next; set = set; num = num }) ≡ None
  pub attached : (number : ℕ) → attachment_at new.shared.attached s.next number ≡ handed_on s caller call number
  pub thread : thread_at new child ≡ record { process = s.next; pid = pid; has_ended = false }
  pub alone : (client : ℕ) → has_exited new client ≡ false → process_at new client ≡ s.next → client ≡ child
