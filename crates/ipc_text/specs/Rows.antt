-- The rows that a script prints (the project's own; the names of errors are those of errno(3)).
use Rattle.std.specs.Prelude.{ℕ, ℤ, Bool, ◌-◌, ◌^◌, false, length, List, [], ◌+◌, ◌++◌, if◌then◌else◌, codes, decimal, Option, Some, None, Result, Ok, Err, unwrap_or, slice_get, flat_map}
use Rattle.ipc_call.specs.declared.replies.Answer.TheVariants.{Attached, Bytes, Id, Done, Message, Rows, Status, Value, Values}
use Rattle.ipc_call.specs.declared.replies.Status.TheVariants.{Queue, Segment, Set}
use Rattle.ipc_call.specs.declared.listings.Listed.{Listed}
use Rattle.ipc_call.specs.declared.listings.Row.{Row}
use Rattle.ipc_call.specs.declared.listings.Row.TheVariants as rows
use Rattle.ipc_call.specs.declared.replies.QueueStatus.{QueueStatus}
use Rattle.ipc_call.specs.declared.replies.SegmentStatus.{SegmentStatus}
use Rattle.ipc_call.specs.declared.replies.SetStatus.{SetStatus}
use Rattle.ipc_call.specs.declared.perms.Perm.{Perm}
use Rattle.std.specs.Fmt.{digits, format_spec, padded_integral, signed_decimal}
use Rattle.hex.specs.Hex.{encode_lower}
use Rattle.ipc_call.specs.declared.replies.Reply.{Reply}
use Rattle.ipc_call.specs.declared.replies.Reply.TheVariants.{Entered, Memory}
use Rattle.ipc_call.specs.declared.error.Errno.{Errno}
use Rattle.ipc_call.specs.declared.error.Errno.TheVariants.{ENOMEM}
use Rattle.ipc_call.specs.Errors.{number_of, name_of}
use Rattle.ipc_call.specs.Rules.{error_of, name_of_rule}
use Rattle.ipc_call.specs.declared.replies.Answer.{Answer}
use Rattle.ipc_call.specs.declared.rules.Rule.{Rule}
use Rattle.ipc_text.specs.declared.reasons.Reason.{Reason}
use Rattle.ipc_text.specs.declared.reasons.Reason.TheVariants as reasons

unfoldable pub name_of_reason : Reason → List ℕ
name_of_reason reasons.TooLong = codes "too-long"
name_of_reason reasons.BadLine = codes "bad-line"
name_of_reason reasons.Late = codes "late"
name_of_reason reasons.Twice = codes "twice"
name_of_reason reasons.Many = codes "many"
name_of_reason reasons.UnknownClient = codes "unknown-client"
name_of_reason reasons.BadCommand = codes "bad-command"
name_of_reason reasons.Busy = codes "busy"

-- the row of a bad line, by its number from 1
abbrev pub bad_row : ℕ → Reason → List ℕ
bad_row line reason = codes "line " ++ (decimal line ++ (codes ": " ++ (name_of_reason reason ++ codes "\n")))

-- an error with its number, its name, and the rule or the lack of memory that caused it
abbrev pub error_text : Errno → List ℕ → List ℕ
error_text error cause =
    codes "error "
    ++ (decimal (number_of error) ++ (codes " " ++ (name_of error ++ (codes " " ++ (cause ++ codes "\n")))))

-- a key: 0x and eight hexadecimal digits, as {:08x} writes them
unfoldable pub key_text : ℕ → List ℕ
key_text key = codes "0x" ++ padded_integral (format_spec 32 0 4 8 (2 ^ 64 - 1)) false [] (digits 16 false key)

-- a mode: four octal digits, as {:04o} writes them
unfoldable pub mode_text : ℕ → List ℕ
mode_text mode = padded_integral (format_spec 32 0 4 4 (2 ^ 64 - 1)) false [] (digits 8 false mode)

abbrev pub owners_text : Perm → List ℕ
owners_text a =
    codes " uid "
    ++ (decimal a.uid
    ++ (codes " gid "
    ++ (decimal a.gid ++ (codes " cuid " ++ (decimal a.cuid ++ (codes " cgid " ++ decimal a.cgid))))))

-- the word of a kind, and what the state of its objects begins with, with a mode
abbrev pub owned_text : List ℕ → Perm → ℕ → List ℕ
owned_text kind a mode =
    kind ++ (codes " key " ++ (key_text a.key ++ (owners_text a ++ (codes " mode " ++ mode_text mode))))

-- the same with the object's own mode
abbrev pub perm_text : List ℕ → Perm → List ℕ
perm_text kind a = owned_text kind a a.mode

-- the times of two calls by their names, and that of the last change
abbrev pub times_text : List ℕ → ℕ → List ℕ → ℕ → ℕ → List ℕ
times_text first first_time second second_time ctime =
    codes " "
    ++ (first
    ++ (codes " "
    ++ (decimal first_time
    ++ (codes " "
    ++ (second ++ (codes " " ++ (decimal second_time ++ (codes " ctime " ++ (decimal ctime ++ codes "\n")))))))))

abbrev pub contents_text : QueueStatus → List ℕ
contents_text q =
    (codes " cbytes "
    ++ (decimal q.cbytes ++ (codes " qnum " ++ (decimal q.qnum ++ (codes " qbytes " ++ decimal q.qbytes)))))
    ++ ((codes " lspid " ++ (decimal q.lspid ++ (codes " lrpid " ++ decimal q.lrpid)))
    ++ times_text (codes "stime") q.stime (codes "rtime") q.rtime q.ctime)

-- the state of a queue
abbrev pub queue_text : QueueStatus → List ℕ
queue_text q = perm_text (codes "queue") q.perm ++ contents_text q

-- the state of a semaphore set
abbrev pub set_text : SetStatus → List ℕ
set_text s =
    perm_text (codes "set") s.perm
    ++ (codes " nsems "
    ++ (decimal s.nsems
    ++ (codes " otime " ++ (decimal s.otime ++ (codes " ctime " ++ (decimal s.ctime ++ codes "\n"))))))

-- SHM_DEST of the mode that shmctl(2) reports, 01000
abbrev pub shm_dest : ℕ
shm_dest = 512

-- the mode of a segment, with SHM_DEST where it is marked
abbrev pub segment_mode : ℕ → Bool → ℕ
segment_mode mode is_marked = if is_marked then shm_dest + mode else mode

abbrev pub memory_text : SegmentStatus → List ℕ
memory_text s =
    codes " size "
    ++ (decimal s.size
    ++ (codes " nattch "
    ++ (decimal s.nattch ++ (codes " cpid " ++ (decimal s.cpid ++ (codes " lpid " ++ decimal s.lpid))))))

-- the state of a segment
abbrev pub segment_text : SegmentStatus → List ℕ
segment_text s = owned_text (codes "segment") s.perm (segment_mode s.perm.mode s.is_marked) ++ (memory_text s
    ++ times_text (codes "atime") s.atime (codes "dtime") s.dtime s.ctime)

abbrev pub value_text : ℕ → List ℕ
value_text value = codes " " ++ decimal value

-- the values of all semaphores of a set
abbrev pub values_text : List ℕ → List ℕ
values_text values = codes "values" ++ (flat_map value_text values ++ codes "\n")

-- bytes, each by two hexadecimal digits, and the end of the row
abbrev pub hex_text : List ℕ → List ℕ
hex_text bytes = codes " x:" ++ (encode_lower bytes ++ codes "\n")

-- a message: its type and the bytes of its text
abbrev pub message_text : ℤ → List ℕ → List ℕ
message_text mtype text = codes "message " ++ (signed_decimal mtype ++ hex_text text)

-- the bytes that were read
abbrev pub bytes_text : List ℕ → List ℕ
bytes_text bytes = codes "bytes" ++ hex_text bytes

-- what the line of an object begins with, with a mode
abbrev pub listed_text : List ℕ → Listed → ℕ → List ℕ
listed_text kind object mode =
    kind
    ++ (codes " "
    ++ (key_text object.key
    ++ (codes " " ++ (decimal object.id ++ (codes " " ++ (decimal object.uid ++ (codes " " ++ mode_text mode)))))))

-- the line of an object
abbrev pub row_text : Row → List ℕ
row_text (rows.Queue object cbytes qnum) =
    listed_text (codes "q") object object.mode
    ++ (codes " " ++ (decimal cbytes ++ (codes " " ++ (decimal qnum ++ codes "\n"))))
row_text (rows.Set object nsems) =
    listed_text (codes "s") object object.mode ++ (codes " " ++ (decimal nsems ++ codes "\n"))
row_text (rows.Segment object is_marked size nattch) =
    listed_text (codes "m") object (segment_mode object.mode is_marked)
    ++ (codes " " ++ (decimal size ++ (codes " " ++ (decimal nattch ++ codes "\n"))))

abbrev pub indented : Row → List ℕ
indented row = codes "  " ++ row_text row

-- a listing: how many objects there are, and the line of each
abbrev pub list_text : List Row → List ℕ
list_text listed = codes "list " ++ (decimal (length listed) ++ (codes "\n" ++ flat_map indented listed))

-- the line of an object, and of a semaphore set its values
abbrev pub values_of_row : Row → List ℕ → List ℕ
values_of_row (rows.Set object nsems) values = values_text values
values_of_row _ values = []

abbrev pub object_rows : Row → List ℕ → List ℕ
object_rows row values = row_text row ++ values_of_row row values

abbrev pub outcome_text : Result Answer Rule → List ℕ
outcome_text (Ok (Id id)) = codes "id " ++ (decimal id ++ codes "\n")
outcome_text (Ok Done) = codes "ok\n"
outcome_text (Ok (Message mtype text)) = message_text mtype text
outcome_text (Ok (Status (Queue status))) = queue_text status
outcome_text (Ok (Status (Set status))) = set_text status
outcome_text (Ok (Status (Segment status))) = segment_text status
outcome_text (Ok (Value value)) = codes "value " ++ (decimal value ++ codes "\n")
outcome_text (Ok (Values values)) = values_text values
outcome_text (Ok (Attached att)) = codes "attached " ++ (decimal att ++ codes "\n")
outcome_text (Ok (Bytes bytes)) = bytes_text bytes
outcome_text (Ok (Rows listed)) = list_text listed
outcome_text (Err rule) = error_text (error_of rule) (name_of_rule rule)

-- PLACE.TURN NAME, with a space behind each
abbrev pub row_head : ℕ → ℕ → List ℕ → List ℕ
row_head place turn name = decimal place ++ (codes "." ++ (decimal turn ++ (codes " " ++ (name ++ codes " "))))

abbrev pub reply_row : List ℕ → Reply → List ℕ
reply_row name (Entered place turn outcome) = row_head place turn name ++ outcome_text outcome
reply_row name Memory = codes "- " ++ (name ++ (codes " " ++ error_text ENOMEM (codes "memory")))

-- the call parked
abbrev pub waits_row : ℕ → List ℕ → List ℕ
waits_row place name = row_head place 0 name ++ codes "waits\n"

abbrev pub name_at : List (List ℕ) → ℕ → List ℕ
name_at names client = unwrap_or (slice_get names client) []

abbrev pub own_row : ℕ → List ℕ → Option Reply → List ℕ
own_row place name None = waits_row place name
own_row place name (Some reply) = reply_row name reply

abbrev pub other_row : List (List ℕ) → ℕ × Reply → List ℕ
other_row names other = reply_row (name_at names other.0) other.1

-- the rows of an event: its own first, then those of the waiting calls that it ended, by turn
abbrev pub effect_rows : List (List ℕ) → ℕ → ℕ → Option Reply → List (ℕ × Reply) → List ℕ
effect_rows names client place own others =
    own_row place (name_at names client) own ++ flat_map (other_row names) others
