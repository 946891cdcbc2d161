-- The attachments of clients to segments, each by its client and a number (shmop(2)).
use Rattle.std.specs.Prelude.{◌≡◌, ℕ, zero, suc, ◌+◌, ◌==◌, ◌&&◌, nat_lt, Bool, Option, Some, None, is_none, is_some}
use Rattle.std.specs.Prelude.{if◌then◌else◌}
use Rattle.std.specs.List.{count_by}
use Rattle.std.specs.declared.cmp.Ordering.{Ordering}
use Rattle.std.specs.FinMap as finite
use Rattle.client_map.specs.declared.map.Key.{Key}
use Rattle.client_map.specs.Keys.{key, key_cmp}
pub use Rattle.shm_seg.specs.declared.attachments.Attachment.{Attachment}

-- where an attachment stands: a number of a client
abbrev pub Handle : Type 0
Handle = Key

abbrev pub handle_cmp : Handle → Handle → Ordering
handle_cmp = key_cmp

-- the attachments there are
abbrev pub Attached : Type 0
Attached = finite.FinMap handle_cmp Attachment

abbrev pub none_attached : Attached
none_attached = finite.empty

-- SHMSEG: a client's attachments have the numbers below it
abbrev pub shmseg : ℕ
shmseg = 4096

-- what a client has attached under a number
abbrev pub attachment_at : Attached → ℕ → ℕ → Option Attachment
attachment_at attached client number = finite.get attached (key client number)

abbrev pub with_attachment : Attached → ℕ → ℕ → Attachment → Attached
with_attachment attached client number attachment =
    finite.insert attached (key client number) attachment

abbrev pub without_attachment : Attached → ℕ → ℕ → Attached
without_attachment attached client number = finite.remove attached (key client number)

-- the least of `left` numbers from a start that passes
unfoldable pub least_from : (ℕ → Bool) → ℕ → ℕ → Option ℕ
least_from test zero start = None
least_from test (suc left) start = if test start then Some start else least_from test left (start + 1)

-- the least number under which a client has nothing attached
abbrev pub free_number : Attached → ℕ → Option ℕ
free_number attached client = least_from (λ number. is_none (attachment_at attached client number)) shmseg 0

-- the least number under which it has something attached
abbrev pub first_number : Attached → ℕ → Option ℕ
first_number attached client = least_from (λ number. is_some (attachment_at attached client number)) shmseg 0

-- how many attachments are to a segment
abbrev pub attach_count : Attached → ℕ → ℕ
attach_count attached segment = count_by (λ a. a.segment == segment) (finite.values attached)

-- under the numbers of a process below one stands this, and all else is as it was
abbrev pub IsPut : ℕ → ℕ → (ℕ → Option Attachment) → Attached → Attached → Type 0
IsPut to below f old new =
    (c n : ℕ) → attachment_at new c n ≡ (if c == to && nat_lt n below then f n else attachment_at old c n)

-- a process has what another one has, under the same numbers
abbrev pub IsCopied : ℕ → ℕ → Attached → Attached → Type 0
IsCopied from to old new = IsPut to shmseg (λ n. attachment_at old from n) old new
