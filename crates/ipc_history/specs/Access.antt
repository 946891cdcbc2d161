-- Who is granted, and who is denied: the caller of an event, and those whose wait it ends.
use Rattle.std.specs.Prelude.{◌≡◌, Bool, true, List, ◌∷◌, ◌++◌, Some, None, is_none, Ok, Err}
use Rattle.std.specs.List.{AllByRecursion}
use Rattle.ipc_call.specs.declared.replies.Completion.{Completion}
use Rattle.ipc_call.specs.declared.replies.Waiting.{Waiting}
use Rattle.ipc_call.specs.declared.rules.Rule.{Rule}
use Rattle.ipc_creds.specs.Credentials.{Credentials}
use Rattle.ipc_perm.specs.Access.{Need, denial}
use Rattle.ipc_model.specs.Decision.{Outcome}
use Rattle.ipc_model.specs.Plan.{Check, Needs, Passes, Proceeds, checks_in, is_denial}
use Rattle.ipc_model.specs.State.{State, creds_at, waiting_of}
use Rattle.ipc_model.specs.Decide.{needs, plan}
use Rattle.ipc_model.specs.Step.{Event, begun}
use Rattle.ipc_history.specs.History.{History, run}

-- every need is met
abbrev pub AreMet : Credentials → List Need → Type 0
AreMet c needs = AllByRecursion (λ need. denial c need ≡ None) needs

-- a check passes
abbrev pub does_pass : Credentials → Check → Bool
does_pass c (Passes passes rule plain) = passes
does_pass c (Needs need) = is_none (denial c need)
does_pass c (Proceeds proceeds flags rule plain) = proceeds

-- some need fails by the rule, and every check before it passes
pub record IsDenied (c : Credentials) (checks : List Check) (rule : Rule) : Type 0 where
  pub before : List Check
  pub need : Need
  pub after : List Check
  pub split : checks ≡ before ++ Needs need ∷ after
  pub passed : AllByRecursion (λ check. does_pass c check ≡ true) before
  pub fails : denial c need ≡ Some rule

-- the caller of an event after a history, what its call needs there, and its checks
abbrev pub caller_of : History → Event → Credentials
caller_of h e = creds_at (run h) e.client

abbrev pub needs_of : History → Event → List Need
needs_of h e = needs (begun (run h) e.now) e.client e.call

abbrev pub checks_of : History → Event → List Check
checks_of h e = checks_in (plan (begun (run h) e.now) e.client e.call)

-- a waiting call ends by the rights of its client in this state: a granted one has every need met, and of one that is
-- denied a need fails by the rule, and every check before it passes
abbrev pub IsByRights : State → Waiting → Outcome → Type 0
IsByRights s w (Ok answer) = AreMet (creds_at s w.client) (needs s w.client w.call)
IsByRights s w (Err rule) =
    is_denial rule ≡ true → IsDenied (creds_at s w.client) (checks_in (plan s w.client w.call)) rule

-- a client whose wait ended between two states had a call that waited in the first, which ended by its rights in the
-- second
pub record EndedByRights (before after : State) (completion : Completion) : Type 0 where
  pub call : Waiting
  pub waited : waiting_of before completion.client ≡ Some call
  pub by_rights : IsByRights after call completion.outcome
