use Rattle.std.proofs.Common.{rules, ap, ap₂, ◌∙◌}
use Rattle.std.proofs.lemmas.Result.{IfOk-weaker}
use Rattle.clap.specs.Simple.{app_of_fields}
use Rattle.clap.specs.Words.{App, with_subcommand}
use Rattle.ipc_commands.specs.Programs.{ipcsh_app, without_help}
use Rattle.ipc_commands.proofs.programs.ipcsh.Goals as goal

pub returns : goal.returns
unfolding ipcsh_app
returns c =
    let top = ap app_of_fields c.disable_help_subcommand.ensures ∙ ap without_help c.new.ensures.app in
    let sub = ap (λ (a : App). a.top) c.new-2.ensures.app in
    IfOk-weaker c.subcommand.result _ _ (λ command h. h.shape (search rules) ∙ ap₂ with_subcommand top sub) c.subcommand.ensures
