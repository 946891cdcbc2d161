-- What a line says at its place in a script.
use Rattle.std.specs.Prelude.{◌≡◌, ◌<◌, ℕ, Bool, true, false, ◌==◌, List, [], ◌∷◌, length, codes, bytes_eq, nat_le, Option, Some, None, Result, Ok, Err, if◌then◌else◌, is_some, option_map}
use Rattle.ipc_creds.specs.Credentials.{Credentials}
use Rattle.ipcsh.specs.declared.readings.Reading.{Reading}
use Rattle.ipcsh.specs.declared.readings.Reading.TheVariants as readings
use Rattle.ipc_call.specs.declared.calls.Call.{Call}
use Rattle.ipc_commands.specs.declared.parts.Part.{Part}
use Rattle.ipc_commands.specs.declared.parts.Part.TheVariants.{Plain}
use Rattle.ipc_text.specs.Lives.{call_by, naming_of}
use Rattle.ipc_text.specs.declared.lives.Naming.{Naming}
use Rattle.ipc_words.specs.Names.{is_name}
use Rattle.ipc_text.specs.declared.reasons.Reason.{Reason}
use Rattle.ipc_text.specs.declared.reasons.Reason.TheVariants as reasons
use Rattle.ipc_call.specs.declared.limits.Limit.{Limit}
use Rattle.ipc_text.specs.Commands.{command_of}
use Rattle.ipc_text.specs.Grammar.{client_of, limit_of, clock_of}
use Rattle.ipc_call.specs.Limits.{is_in_range}
use Rattle.ipc_words.specs.Words.{words_of, is_plain}
use Rattle.ipcsh.specs.Session.{Session, has_started, waits, client_named}

abbrev pub begins_comment : List ℕ → Bool
begins_comment [] = false
begins_comment (b ∷ bs) = b == 35

abbrev pub unless : Option Reason → Reading → Reading
unless None reading = reading
unless (Some reason) reading = readings.Bad reason

-- a client comes before the start, not twice, and not as the 65th
abbrev pub client_fault : Session → List ℕ → Option Reason
client_fault s name =
    if has_started s then Some reasons.Late
    else (if is_some (client_named s name) then Some reasons.Twice
    else (if nat_le 64 (length s.names) then Some reasons.Many else None))

abbrev pub client_line : Session → Option (List ℕ × Credentials) → Reading
client_line s None = readings.Bad reasons.BadLine
client_line s (Some new) = unless (client_fault s new.0) (readings.Client new.0 new.1)

abbrev pub limit_line : Session → Option (Limit × ℕ) → Reading
limit_line s None = readings.Bad reasons.BadLine
limit_line s (Some set) = if has_started s then readings.Bad reasons.Late else readings.Limit set.0 set.1

abbrev pub clock_line : Option ℕ → Reading
clock_line None = readings.Bad reasons.BadLine
clock_line (Some now) = readings.Clock now

abbrev pub command_by : Session → ℕ → Result (List Part) Reason → Reading
command_by s client (Err reason) = readings.Bad reason
command_by s client (Ok parts) = if waits s client then readings.Bad reasons.Busy else readings.Command client parts

abbrev pub call_or : Option Call → Result (List Part) Reason
call_or None = Err reasons.UnknownClient
call_or (Some call) = Ok (Plain call ∷ [])

-- words that name another client make a call where they name one
abbrev pub named_or : Session → Option (List ℕ × Naming) → List (List ℕ) → Result (List Part) Reason
named_or s None words = command_of words
named_or s (Some named) words =
    if is_name named.0 then call_or (option_map (call_by named.1) (client_named s named.0)) else command_of words

abbrev pub command_with : Session → List (List ℕ) → Result (List Part) Reason
command_with s words = named_or s (naming_of words) words

abbrev pub command_line : Session → Option ℕ → List (List ℕ) → Reading
command_line s None words = readings.Bad reasons.UnknownClient
command_line s (Some client) words = command_by s client (command_with s words)

-- the first word is a directive or a client's name
abbrev pub words_line : Session → List ℕ → List (List ℕ) → Reading
words_line s word words =
    if bytes_eq word (codes "client") then client_line s (client_of words)
    else (if bytes_eq word (codes "limit") then limit_line s (limit_of words)
    else (if bytes_eq word (codes "clock") then clock_line (clock_of words)
    else command_line s (client_named s word) words))

-- a line without a word, or whose first word begins with a number sign, is skipped, whatever bytes it has
abbrev pub text_line : Session → List ℕ → List (List ℕ) → Reading
text_line s text [] = readings.Skip
text_line s text (word ∷ words) =
    if begins_comment word then readings.Skip
    else (if is_plain text then words_line s word words else readings.Bad reasons.BadLine)

-- what a line says; None is a line that is too long
unfoldable pub reading_of : Session → Option (List ℕ) → Reading
reading_of s None = readings.Bad reasons.TooLong
reading_of s (Some text) = text_line s text (words_of text)

-- a client may still be added
abbrev pub CanJoin : Session → Type 0
CanJoin s = (has_started s ≡ false) × (length s.names < 64)

-- what holds of what a line said
abbrev pub IsSound : Session → Reading → Type 0
IsSound s readings.Skip = Unit {0}
IsSound s (readings.Bad reason) = Unit {0}
IsSound s (readings.Client name creds) = CanJoin s
IsSound s (readings.Limit limit n) = (has_started s ≡ false) × (is_in_range limit n ≡ true)
IsSound s (readings.Clock now) = Unit {0}
IsSound s (readings.Command client parts) = client < length s.names
