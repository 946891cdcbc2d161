-- A journal as text: a heading with the version, the limits and the clients' credentials at the start, and then a line for
-- each row. The text is the project's own.
use Rattle.std.specs.Prelude.{ℕ, ◌+◌, Bool, ◌&&◌, ◌==◌, if◌then◌else◌, List, [], ◌∷◌, ◌++◌, codes, decimal, flat_map, Option, Some, None}
use Rattle.ipc_call.specs.Rules.{error_of, name_of_rule}
use Rattle.ipc_call.specs.declared.limits.Limits.{Limits}
use Rattle.ipc_call.specs.declared.replies.JournalRow.{JournalRow}
use Rattle.ipc_call.specs.declared.replies.JournalRow.TheVariants.{Called, Answered}
use Rattle.ipc_call.specs.declared.rules.Rule.{Rule}
use Rattle.ipc_creds.specs.Credentials.{Credentials}
use Rattle.ipc_journal_text.specs.CallText.{call_text}
use Rattle.ipc_journal_text.specs.CredentialsText.{capabilities_text, ids_in, ids_text, supplementary_text}
use Rattle.ipc_text.specs.Rows.{error_text}

unfoldable pub limit_text : List ℕ → ℕ → List ℕ
limit_text name value = codes "limit " ++ (name ++ (codes " " ++ (decimal value ++ codes "\n")))

-- whether all kinds have as many slots
abbrev pub are_alike : Limits → Bool
are_alike l = (l.queues == l.sets) && (l.sets == l.segments)

-- the slots of each kind: one line where they are as many
unfoldable pub slot_limits : Limits → List ℕ
slot_limits l =
    if are_alike l then limit_text (codes "slots") l.queues
    else limit_text (codes "queues") l.queues
    ++ (limit_text (codes "sets") l.sets ++ limit_text (codes "segments") l.segments)

unfoldable pub message_limits : Limits → List ℕ
message_limits l =
    limit_text (codes "first-seq") l.first_seq
    ++ (limit_text (codes "msgmax") l.msg_max ++ limit_text (codes "msgmnb") l.msg_mnb)

unfoldable pub other_limits : Limits → List ℕ
other_limits l =
    limit_text (codes "semmsl") l.sem_msl
    ++ (limit_text (codes "semopm") l.sem_opm ++ limit_text (codes "shmmax") l.shm_max)

-- how many lines the heading and the limits are
abbrev pub head_lines : Limits → ℕ
head_lines l = if are_alike l then 8 else 10

-- the heading, with the version of the text
unfoldable pub heading_text : List ℕ
heading_text = codes "ipcsh journal 1\n"

-- a client by its number, and all of its credentials
abbrev pub client_text : ℕ → Credentials → List ℕ
client_text client c =
    codes "client "
    ++ (decimal client ++ (ids_text (ids_in c) ++ (supplementary_text c.groups ++ (capabilities_text c.caps ++ codes "\n"))))

-- clients that are numbered from this number on
abbrev pub clients_text : ℕ → List Credentials → List ℕ
clients_text first [] = []
clients_text first (c ∷ cs) = client_text first c ++ clients_text (first + 1) cs

-- granted, or the error with its number and its name and the rule that decided
abbrev pub ending_text : Option Rule → List ℕ
ending_text None = codes "granted\n"
ending_text (Some rule) = error_text (error_of rule) (name_of_rule rule)

-- a call with its time and its client; an answer with the place and turn of the event that gave it, and the client
abbrev pub row_text : JournalRow → List ℕ
row_text (Called client now call) =
    codes "at " ++ (decimal now ++ (codes " client " ++ (decimal client ++ (codes ": " ++ (call_text call ++ codes "\n")))))
row_text (Answered client place turn rule) =
    codes "  "
    ++ (decimal place
    ++ (codes "." ++ (decimal turn ++ (codes " client " ++ (decimal client ++ (codes ": " ++ ending_text rule))))))

-- the limits and the credentials at the start, and a line for each row
abbrev pub text_of : Limits → List Credentials → List JournalRow → List ℕ
text_of limits clients rows =
    heading_text
    ++ (slot_limits limits
    ++ (message_limits limits ++ (other_limits limits ++ (clients_text 0 clients ++ flat_map row_text rows))))
