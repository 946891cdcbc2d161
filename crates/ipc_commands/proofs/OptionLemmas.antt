-- The commands are of the kind whose matches clap's definitions give.
use Rattle.std.proofs.Common.{◌≡◌, ◌&&◌, ◌∷◌, [], Bool, true, false, List, Some, None, refl, inl, inr}
use Rattle.clap.specs.Words.{App, HasKind, Kinds, Row, Text, fault_of, is_simple_and_free, kind_of, matches_of}
use Rattle.clap.specs.declared.error.Error.{Error}
use Rattle.clap.specs.declared.error.kind.ErrorKind.TheVariants.{OutOfMemory}
use Rattle.clap.proofs.OnLiterals.{clap_on_literals}
use Rattle.ipc_commands.specs.Options.{app_of_tool, ipcmk_app, ipcrm_app, ipcs_app, matched, without_fault}
use Rattle.ipc_commands.specs.Programs.{ipcsh_app}
use Rattle.ipc_commands.specs.declared.tools.Tool.{Tool}
use Rattle.ipc_commands.specs.declared.tools.Tool.TheVariants.{Ipcs, Ipcrm, Ipcmk}

pub tool_is_simple : (tool : Tool) → is_simple_and_free (app_of_tool tool) ≡ true
unfolding clap_on_literals ipcs_app ipcrm_app ipcmk_app
tool_is_simple Ipcs = refl
tool_is_simple Ipcrm = refl
tool_is_simple Ipcmk = refl

pub program_is_simple : is_simple_and_free ipcsh_app ≡ true
unfolding clap_on_literals ipcsh_app
program_is_simple = refl

pub first_of_both : (a b : Bool) → (a && b) ≡ true → a ≡ true
first_of_both true b h = refl
first_of_both false b h = cc

taken_where : (fault : Kinds) (rows found : List Row) → fault ≡ [] → found ≡ rows → Some found ≡ without_fault fault rows
taken_where fault rows found none same = rw (none, same) refl

refused_where : (fault : Kinds) (rows : List Row) (e : Error) → HasKind fault e → (kind_of e ≡ OutOfMemory → ⊥) → None ≡ without_fault fault rows
refused_where [] rows e (inl memory) other = absurd (other memory)
refused_where [] rows e (inr among) other = absurd among
refused_where (k ∷ ks) rows e h other = refl

-- the matches of words that the command takes
pub matched-taken : (app : App) (words : List Text) (found : List Row) → fault_of app words ≡ [] → found ≡ matches_of app words → Some found ≡ matched app words
unfolding matched
matched-taken app words found none same = taken_where (fault_of app words) (matches_of app words) found none same

-- an error that isn't want of memory
pub matched-refused : (app : App) (words : List Text) (e : Error) → HasKind (fault_of app words) e → (kind_of e ≡ OutOfMemory → ⊥) → None ≡ matched app words
unfolding matched
matched-refused app words e h other = refused_where (fault_of app words) (matches_of app words) e h other
