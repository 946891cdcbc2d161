-- The options of ipcs(1), ipcrm(1) and ipcmk(1), and what words give of them.
use Rattle.std.specs.Prelude.{ℕ, Bool, List, [], ◌∷◌, codes, fold, bytes_eq, Option, Some, None, if◌then◌else◌, unwrap_or}
use Rattle.clap.specs.Words.{App, Row, Rule, Text, fault_of, first_of, matches_of, new_app, new_rule, with_rule}
use Rattle.clap.specs.Kinds.{Kinds}
use Rattle.clap.specs.declared.builder.action.ArgAction.TheVariants.{Set, SetTrue}
use Rattle.ipc_commands.specs.declared.tools.Tool.{Tool}
use Rattle.ipc_commands.specs.declared.tools.Tool.TheVariants.{Ipcs, Ipcrm, Ipcmk}

-- an option of this letter that takes no value
abbrev pub flag_rule : Text → ℕ → Rule
flag_rule id letter = record (new_rule id) { short = Some letter; action = Some SetTrue }

-- an option of this letter that takes a value
abbrev pub value_rule : Text → ℕ → Rule
value_rule id letter = record (new_rule id) { short = Some letter; action = Some Set }

abbrev pub command_app : Text → List Rule → App
command_app name rules = fold with_rule (new_app name) rules

-- ipcs [-q] [-m] [-s]
unfoldable pub ipcs_app : App
ipcs_app =
    command_app (codes "ipcs") (flag_rule (codes "q") 113 ∷ flag_rule (codes "m") 109 ∷ flag_rule (codes "s") 115 ∷ [])

-- ipcrm [-q ID] [-m ID] [-s ID] [-Q KEY] [-M KEY] [-S KEY]
unfoldable pub ipcrm_app : App
ipcrm_app =
    command_app (codes "ipcrm")
    (value_rule (codes "q") 113
    ∷ value_rule (codes "m") 109
    ∷ value_rule (codes "s") 115
    ∷ value_rule (codes "Q") 81
    ∷ value_rule (codes "M") 77
    ∷ value_rule (codes "S") 83
    ∷ [])

-- ipcmk [-Q] [-M SIZE] [-S NSEMS] [-p MODE]
unfoldable pub ipcmk_app : App
ipcmk_app =
    command_app (codes "ipcmk")
    (flag_rule (codes "Q") 81
    ∷ value_rule (codes "M") 77
    ∷ value_rule (codes "S") 83
    ∷ value_rule (codes "p") 112
    ∷ [])

-- the command of this name
unfoldable pub tool_named : Text → Option Tool
tool_named word =
    if bytes_eq word (codes "ipcs") then Some Ipcs
    else (if bytes_eq word (codes "ipcrm") then Some Ipcrm
    else (if bytes_eq word (codes "ipcmk") then Some Ipcmk else None))

abbrev pub name_of_tool : Tool → Text
name_of_tool Ipcs = codes "ipcs"
name_of_tool Ipcrm = codes "ipcrm"
name_of_tool Ipcmk = codes "ipcmk"

abbrev pub app_of_tool : Tool → App
app_of_tool Ipcs = ipcs_app
app_of_tool Ipcrm = ipcrm_app
app_of_tool Ipcmk = ipcmk_app

-- the matches of words without a fault
abbrev pub without_fault : Kinds → List Row → Option (List Row)
without_fault [] rows = Some rows
without_fault (kind ∷ kinds) rows = None

-- what the words give of a command's options; None where it doesn't take the words
unfoldable pub matched : App → List Text → Option (List Row)
matched app words = without_fault (fault_of app words) (matches_of app words)

-- the option, which takes no value, was given
unfoldable pub is_set : Text → List Row → Bool
is_set id rows = bytes_eq (unwrap_or (first_of id rows) []) (codes "true")
