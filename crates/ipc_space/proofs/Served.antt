-- What an event enters and tells, of what serving its call came to.
use Rattle.std.proofs.Common.{◌≡◌, ℕ, List, [], ◌∷◌, ◌++◌, map, ap, ◌∙◌, append_assoc, Option}
use Rattle.ipc_call.specs.declared.calls.Call.{Call}
use Rattle.ipc_call.specs.declared.replies.Completion.{Completion}
use Rattle.ipc_call.specs.declared.replies.JournalRow.{JournalRow}
use Rattle.ipc_call.specs.declared.replies.JournalRow.TheVariants.{Called}
use Rattle.ipc_call.specs.declared.replies.Reply.{Reply}
use Rattle.ipc_model.specs.Decision.{Outcome}
use Rattle.ipc_model.specs.Step.{Stepped}
use Rattle.ipc_history.specs.History.{answered_row, replies_to_ended, reply_to_own, rows_by}
use Rattle.ipc_space.specs.Spaces.{other_replies, own_reply}

module _ (place n : ℕ) (same : n ≡ place) (stepped : Stepped) (own : Option Outcome) (own_is : own ≡ stepped.own) where
  pub own_told : (reply : Option Reply) → reply ≡ own_reply n own → reply ≡ own_reply place stepped.own
  own_told reply is = is ∙ ap (λ (m : ℕ). own_reply m own) same ∙ ap (own_reply place) own_is

  module _ (ended : List Completion) (ended_is : ended ≡ stepped.ended) where
    pub others_told : (old told : List (ℕ × Reply)) → told ≡ old ++ other_replies n ended → told ≡ old ++ other_replies place stepped.ended
    others_told old told is = is ∙ ap (λ (m : ℕ). old ++ other_replies m ended) same ∙ ap (λ (es : List Completion). old ++ other_replies place es) ended_is

    pub rows_entered : (client now : ℕ) (call : Call) (old first rows : List JournalRow) → first ≡ old ++ Called client now call ∷ []
        → rows ≡ first ++ map answered_row (reply_to_own client n own ++ replies_to_ended n 1 ended)
        → rows ≡ old ++ rows_by place (record { client = client; now = now; call = call }) stepped
    rows_entered client now call old first rows first_is rows_is =
        rows_is
        ∙ ap (λ (l : List JournalRow). l ++ map answered_row (reply_to_own client n own ++ replies_to_ended n 1 ended)) first_is
        ∙ append_assoc old (Called client now call ∷ []) (map answered_row (reply_to_own client n own ++ replies_to_ended n 1 ended))
        ∙ ap (λ (m : ℕ). old ++ Called client now call ∷ map answered_row (reply_to_own client m own ++ replies_to_ended m 1 ended)) same
        ∙ ap (λ (o : Option Outcome). old ++ Called client now call ∷ map answered_row (reply_to_own client place o ++ replies_to_ended place 1 ended)) own_is
        ∙ ap (λ (es : List Completion). old ++ Called client now call ∷ map answered_row (reply_to_own client place stepped.own ++ replies_to_ended place 1 es)) ended_is
