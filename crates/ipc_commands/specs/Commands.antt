-- The calls that the words of ipcs(1), ipcrm(1) and ipcmk(1) make; None where they make none.
use Rattle.std.specs.Prelude.{ℕ, Bool, ◌^◌, ◌-◌, ◌||◌, not, List, [], ◌∷◌, codes, Option, Some, None, if◌then◌else◌, option_map}
use Rattle.std.specs.List.{list_all}
use Rattle.clap.specs.Words.{Row, Text, first_of}
use Rattle.ipc_call.specs.declared.calls.Call.TheVariants.{IpcRmid, Listing, MsgGet, SemGet, ShmGet}
use Rattle.ipc_call.specs.declared.calls.Kind.{Kind}
use Rattle.ipc_call.specs.declared.calls.Kind.TheVariants.{Queue, Sems, Segment}
use Rattle.ipc_words.specs.Numbers.{number_32}
use Rattle.ipc_words.specs.Steps.{◌>>=◌}
use Rattle.ipc_words.specs.Words.{is_plain}
use Rattle.ipc_commands.specs.Options.{app_of_tool, is_set, matched, name_of_tool}
use Rattle.ipc_commands.specs.Values.{decimal_within, key_of, mode_of}
use Rattle.ipc_commands.specs.declared.parts.Part.{Part}
use Rattle.ipc_commands.specs.declared.parts.Part.TheVariants.{Plain, RemoveByKey}
use Rattle.ipc_commands.specs.declared.requests.Request.{Request}
use Rattle.ipc_commands.specs.declared.requests.Request.TheVariants as requests
use Rattle.ipc_commands.specs.declared.tools.Tool.{Tool}
use Rattle.ipc_commands.specs.declared.tools.Tool.TheVariants.{Ipcs, Ipcrm, Ipcmk}

-- the option of a kind, in a small letter and in a capital one
abbrev pub small_of : Kind → Text
small_of Queue = codes "q"
small_of Segment = codes "m"
small_of Sems = codes "s"

abbrev pub capital_of : Kind → Text
capital_of Queue = codes "Q"
capital_of Segment = codes "M"
capital_of Sems = codes "S"

abbrev pub any_is_set : List Row → Bool
any_is_set rows = is_set (codes "q") rows || (is_set (codes "m") rows || is_set (codes "s") rows)

-- the kind is listed: its option is given, or none is
abbrev pub is_listed : Kind → List Row → Bool
is_listed kind rows = is_set (small_of kind) rows || not (any_is_set rows)

abbrev pub listing_of : Kind → List Row → Option Part
listing_of kind rows = if is_listed kind rows then Some (Plain (Listing kind)) else None

abbrev pub removal_by_id : Kind → Text → Option Part
removal_by_id kind id = option_map (λ i. Plain (IpcRmid kind i)) (number_32 id)

abbrev pub removal_by_key : Kind → Text → Option Part
removal_by_key kind key = option_map (λ k. RemoveByKey kind k) (key_of key)

-- the mode, where it isn't given 0644
abbrev pub mode_or_default : Option Text → Option ℕ
mode_or_default None = Some 420
mode_or_default (Some mode) = mode_of mode

abbrev pub mode_given : List Row → Option ℕ
mode_given rows = mode_or_default (first_of (codes "p") rows)

abbrev pub new_queue : List Row → Option (Option Part)
new_queue rows =
    if is_set (codes "Q") rows then option_map (λ f. Some (Plain (MsgGet 0 f))) (mode_given rows) else Some None

abbrev pub new_segment : List Row → Text → Option Part
new_segment rows size = do
  n ← decimal_within (2 ^ 64 - 1) size
  f ← mode_given rows
  Some (Plain (ShmGet 0 n f))

abbrev pub new_set : List Row → Text → Option Part
new_set rows nsems = do
  n ← decimal_within (2 ^ 32 - 1) nsems
  f ← mode_given rows
  Some (Plain (SemGet 0 n f))

-- what an option's value makes, if it is given
abbrev pub if_given : (Text → Option Part) → Option Text → Option (Option Part)
if_given read None = Some None
if_given read (Some value) = option_map (λ part. Some part) (read value)

-- the part that an option asks for, if it is given
unfoldable pub part_of : List Row → Request → Option (Option Part)
part_of rows (requests.List kind) = Some (listing_of kind rows)
part_of rows (requests.RemoveById kind) = if_given (removal_by_id kind) (first_of (small_of kind) rows)
part_of rows (requests.RemoveByKey kind) = if_given (removal_by_key kind) (first_of (capital_of kind) rows)
part_of rows (requests.Make Queue) = new_queue rows
part_of rows (requests.Make Segment) = if_given (new_segment rows) (first_of (codes "M") rows)
part_of rows (requests.Make Sems) = if_given (new_set rows) (first_of (codes "S") rows)

abbrev pub onto_parts : Option Part → List Part → List Part
onto_parts None parts = parts
onto_parts (Some part) parts = part ∷ parts

-- the parts that options ask for, in their order
abbrev pub parts_by : List Row → List Request → Option (List Part)
parts_by rows [] = Some []
parts_by rows (request ∷ others) = do
  part ← part_of rows request
  parts ← parts_by rows others
  Some (onto_parts part parts)

-- the options of a command, in the order of their parts
abbrev pub requests_of : Tool → List Request
requests_of Ipcs = requests.List Queue ∷ requests.List Segment ∷ requests.List Sems ∷ []
requests_of Ipcrm =
    requests.RemoveById Queue
    ∷ requests.RemoveById Segment
    ∷ requests.RemoveById Sems
    ∷ requests.RemoveByKey Queue
    ∷ requests.RemoveByKey Segment
    ∷ requests.RemoveByKey Sems
    ∷ []
requests_of Ipcmk = requests.Make Queue ∷ requests.Make Segment ∷ requests.Make Sems ∷ []

-- one part at least
abbrev pub some_parts : List Part → Option (List Part)
some_parts [] = None
some_parts (part ∷ parts) = Some (part ∷ parts)

-- a command's name and the words behind it, where each is of tabs and printing characters of ASCII
abbrev pub arguments_of : Text → List Text → Option (List Text)
arguments_of name words = if list_all is_plain words then Some (name ∷ words) else None

-- the words behind a command's name
unfoldable pub command_parts : Tool → List Text → Option (List Part)
command_parts tool words = do
  arguments ← arguments_of (name_of_tool tool) words
  rows ← matched (app_of_tool tool) arguments
  parts ← parts_by rows (requests_of tool)
  some_parts parts
