use Rattle.std.proofs.Common.{ap₂, ◌∙◌}
use Rattle.std.proofs.lemmas.Result.{IfOk-weaker}
use Rattle.clap.specs.Words.{with_rule}
use Rattle.ipc_commands.specs.Options.{ipcrm_app}
use Rattle.ipc_commands.proofs.options.ipcrm.Goals as goal

pub returns : goal.returns
unfolding ipcrm_app
returns c =
    let one = c.in_ok-arg.ensures.shape c.value.ensures.local ∙ ap₂ with_rule c.new.ensures.app c.value.ensures.rule in
    let two = c.in_ok-arg-2.ensures.shape c.value-2.ensures.local ∙ ap₂ with_rule one c.value-2.ensures.rule in
    let three = c.in_ok-arg-3.ensures.shape c.value-3.ensures.local ∙ ap₂ with_rule two c.value-3.ensures.rule in
    let four = c.in_ok-arg-4.ensures.shape c.value-4.ensures.local ∙ ap₂ with_rule three c.value-4.ensures.rule in
    let five = c.in_ok-arg-5.ensures.shape c.value-5.ensures.local ∙ ap₂ with_rule four c.value-5.ensures.rule in
    IfOk-weaker c.arg-6.result _ _ (λ command h. h.shape c.value-6.ensures.local ∙ ap₂ with_rule five c.value-6.ensures.rule) c.arg-6.ensures
