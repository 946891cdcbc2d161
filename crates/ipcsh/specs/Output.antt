-- The output of a script, for any calls that memory refused.
use Rattle.std.specs.Prelude.{◌≡◌, ℕ, ◌+◌, Bool, List, [], ◌∷◌, ◌++◌, map, fold, Option}
use Rattle.ipcsh.specs.Commands.{Progress, parts_made}
use Rattle.ipcsh.specs.declared.readings.Reading.{Reading}
use Rattle.ipcsh.specs.declared.readings.Reading.TheVariants as readings
use Rattle.ipcsh.specs.Readings.{reading_of}
use Rattle.ipc_text.specs.Rows.{bad_row}
use Rattle.ipcsh.specs.Session.{Session, fresh_session}
use Rattle.ipc_call.specs.Limits.{with_limit}

-- a session, and all that was printed on the way to it
pub record Printed : Type 0 where
  pub session : Session
  pub output : List ℕ

-- a session, and the rows of the line that led to it
pub record Answered : Type 0 where
  pub session : Session
  pub rows : List ℕ

abbrev pub answer_in : Progress → Answered
answer_in p = record { session = p.session; rows = p.rows }

abbrev pub carried_out : Session → Reading → List Bool → Answered
carried_out s readings.Skip refusals = record { session = s; rows = [] }
carried_out s (readings.Bad reason) refusals =
    record { session = record s { bad = s.bad + 1 }; rows = bad_row s.lines reason }
carried_out s (readings.Client name creds) refusals =
    record { session = record s { names = s.names ++ name ∷ []; clients = s.clients ++ creds ∷ [] }; rows = [] }
carried_out s (readings.Limit limit n) refusals =
    record { session = record s { limits = with_limit s.limits limit n }; rows = [] }
carried_out s (readings.Clock now) refusals = record { session = record s { time = now }; rows = [] }
carried_out s (readings.Command client parts) refusals =
    answer_in (parts_made client parts (record { session = s; rows = []; refusals = refusals }))

abbrev pub counted : Session → Session
counted s = record s { lines = s.lines + 1 }

-- what a function did: the session, and the rows at the end
pub record IsAnswer (a : Answered) (new : Session) (old_rows new_rows : List ℕ) : Type 0 where
  pub session : new ≡ a.session
  pub rows : new_rows ≡ old_rows ++ a.rows

-- carried out, for some refusals of memory
abbrev pub CarriesOut : Session → Reading → Session → List ℕ → List ℕ → Type 0
CarriesOut old reading new old_rows new_rows =
    (refusals : List Bool) × IsAnswer (carried_out old reading refusals) new old_rows new_rows

-- a line, and for each call that it makes, in order, whether memory was refused to it; to calls beyond the end of the
-- list it wasn't
abbrev pub Input : Type 0
Input = Option (List ℕ) × List Bool

unfoldable pub answered : Session → Input → Answered
answered s input = carried_out (counted s) (reading_of (counted s) input.0) input.1

-- the line was answered, for some refusals of memory
abbrev pub Answers : Session → Option (List ℕ) → Session → List ℕ → List ℕ → Type 0
Answers old line new old_rows new_rows =
    (refusals : List Bool) × IsAnswer (answered old (line, refusals)) new old_rows new_rows

abbrev pub with_rows : Printed → Answered → Printed
with_rows p a = record { session = a.session; output = p.output ++ a.rows }

abbrev pub after_line : Printed → Input → Printed
after_line p input = with_rows p (answered p.session input)

-- what the lines lead to, from the start
abbrev pub after_lines : List Input → Printed
after_lines inputs = fold after_line (record { session = fresh_session; output = [] }) inputs

abbrev pub lines_in : List Input → List (Option (List ℕ))
lines_in inputs = map (λ input. input.0) inputs
