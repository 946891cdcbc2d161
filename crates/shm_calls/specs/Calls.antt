-- The decisions on the calls on segments.
use Rattle.std.specs.Prelude.{ℕ, zero, suc, ◌+◌, List, Option, Some, None}
use Rattle.ipc_call.specs.declared.limits.Limits.{Limits}
use Rattle.ipc_ids.specs.Table.{Table}
use Rattle.ipc_objects.specs.declared.object.Object.{Object}
use Rattle.ipc_model.specs.Decision.{Decision}
use Rattle.ipc_model.specs.Gets.{Get, get_found, get_segment, getting_segment}
use Rattle.ipc_model.specs.Plan.{decision}
use Rattle.ipc_model.specs.Segments.{attach, detach, noted, read_bytes, write_bytes}
use Rattle.shm_seg.specs.declared.attachments.Attachment.{Attachment}
use Rattle.ipc_model.specs.State.{Caller, Segment, Shared}

-- shmget, and with what is found under the key
abbrev pub getting : Limits → Shared → Caller → Get → ℕ → Decision Shared
getting limits shared who asked size = decision who.creds (get_segment limits shared who asked size)

abbrev pub getting_found : Limits → Table (Object Segment) → Caller → Get → ℕ → Option (ℕ × Object Segment)
    → Decision (Table (Object Segment))
getting_found limits t who asked size there =
    decision who.creds (get_found t who asked (getting_segment limits who.pid size) there)

-- shmat, shmdt, and the reads and writes of an attachment
abbrev pub attaching : Shared → Caller → ℕ → ℕ → Decision Shared
attaching shared who id flags = decision who.creds (attach shared who id flags)

abbrev pub detaching : Shared → Caller → ℕ → Decision Shared
detaching shared who number = decision who.creds (detach shared who number)

abbrev pub reading : Shared → Caller → ℕ → ℕ → ℕ → Decision Shared
reading shared who number offset len = decision who.creds (read_bytes shared who number offset len)

abbrev pub writing : Shared → Caller → ℕ → ℕ → List ℕ → Decision Shared
writing shared who number offset new = decision who.creds (write_bytes shared who number offset new)

-- the segment of an attachment is noted, where there is one
abbrev pub noted_at : Table (Object Segment) → Caller → Option Attachment → Table (Object Segment)
noted_at t who None = t
noted_at t who (Some a) = noted t who a.segment

-- those of so many numbers, from this one on
unfoldable pub noted_from : ℕ → ℕ → Caller → (ℕ → Option Attachment) → Table (Object Segment) → Table (Object Segment)
noted_from zero number who its t = t
noted_from (suc left) number who its t = noted_from left (number + 1) who its (noted_at t who (its number))
