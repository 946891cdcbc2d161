use Rattle.std.proofs.Common.{◌≡◌, ℕ, ap, sym, ◌∙◌}
use Rattle.ipc_call.specs.declared.replies.Answer.TheVariants.{Attached}
use Rattle.ipc_call.specs.declared.rules.Rule.TheVariants.{TooManyAttached}
use Rattle.ipc_perm.specs.declared.access.Want.{Want}
use Rattle.ipc_model.specs.Decision.{Decision, Refused, left_by, outcome_of}
use Rattle.ipc_model.specs.Plan.{Grant, Plan, decision, found}
use Rattle.ipc_model.specs.Segments.{attachment_to, segment_at, with_attached}
use Rattle.ipc_model.specs.State.{Caller, Object, Segment, Shared}
use Rattle.shm_seg.specs.Attachments.{free_number}
use Rattle.object_calls.specs.Permitted.{permitted}
use Rattle.shm_calls.specs.Calls.{attaching}
use Rattle.shm_calls.proofs.segments.Segments.shmat.Goals as goal

abbrev number_free : Shared → Caller → ℕ → ℕ → Object Segment → Plan Shared
number_free shared who id flags segment = found (free_number shared.attached who.process) TooManyAttached _ (λ number.
    Grant (Attached number) (with_attached shared who number (attachment_to id flags) segment.contents))

pub returns-in-Err-clause-outcome : goal.returns-in-Err-clause-outcome
returns-in-Err-clause-outcome c =
    let shared = c.args.self.now in
    let who = c.args.who.now in
    let free = number_free shared who c.args.id c.args.flags in
    let refused : attaching shared who c.args.id c.args.flags ≡ Refused c.in-Err.rule =
    ap (λ (want : Want). decision who.creds (permitted (segment_at shared c.args.id) want free)) (sym c.wanted_by.ensures) ∙ c.in-Err.ensures.refused free in
    ap (λ (d : Decision Shared). outcome_of d) refused

pub returns-in-Err-clause-shared : goal.returns-in-Err-clause-shared
returns-in-Err-clause-shared c =
    let shared = c.args.self.now in
    let who = c.args.who.now in
    let free = number_free shared who c.args.id c.args.flags in
    let refused : attaching shared who c.args.id c.args.flags ≡ Refused c.in-Err.rule =
    ap (λ (want : Want). decision who.creds (permitted (segment_at shared c.args.id) want free)) (sym c.wanted_by.ensures) ∙ c.in-Err.ensures.refused free in
    ap (λ (d : Decision Shared). left_by shared d) (sym refused)
