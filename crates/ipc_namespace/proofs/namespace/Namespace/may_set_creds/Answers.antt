use Rattle.std.proofs.Common.{◌≡◌, ℕ, Bool, true, List, [], length, refl, sym, ap, ◌∙◌, arith, Option, Some, None, Ok, Err}
use Rattle.std.specs.Prelude.{⊤, nat_le, is_some, unwrap_or, Result}
use Rattle.std.specs.Option.{option_or}
use Rattle.std.specs.Result.{result_err}
use Rattle.std.proofs.lemmas.Bool.{le-leb}
use Rattle.ipc_call.specs.declared.replies.Answer.TheVariants.{Done}
use Rattle.ipc_call.specs.declared.rules.Rule.{Rule}
use Rattle.ipc_creds.specs.Credentials.{Credentials, groups_max}
use Rattle.ipc_perm.specs.Access.{BecomeGroup, BecomeUser, SetGroups, becoming, denial}
use Rattle.ipc_model.specs.State.{State, caller, creds_at}
use Rattle.ipc_model.specs.Decision.{Granted, without_answer}
use Rattle.ipc_model.specs.Plan.{decision, unless}
use Rattle.ipc_model.specs.Processes.{set_creds}
use Rattle.ipc_namespace.proofs.Moving.{creds-read}
use Rattle.ipc_namespace.proofs.namespace.Namespace.may_set_creds.Goals as goal

abbrev verdict : Option Rule → Result ⊤ Rule
verdict None = Ok tt
verdict (Some rule) = Err rule

told : (r : Result ⊤ Rule) → r ≡ verdict (result_err r)
told (Ok x) = refl
told (Err rule) = refl

-- three needs in order, and two
three : (user group sets : Option Rule) (new : State) → without_answer (unless user (unless group (unless sets (Granted Done new)))) ≡ Some (verdict (option_or user (option_or group sets)))
three (Some rule) group sets new = refl
three None (Some rule) sets new = refl
three None None (Some rule) new = refl
three None None None new = refl

two : (user group : Option Rule) (new : State) → without_answer (unless user (unless group (Granted Done new))) ≡ Some (verdict (option_or user (option_or group None)))
two (Some rule) group new = refl
two None (Some rule) new = refl
two None None new = refl

decides : (s : State) (client euid egid : ℕ) (groups : Option (List ℕ)) → nat_le (length (unwrap_or groups [])) groups_max ≡ true
    → without_answer (decision (creds_at s client) (set_creds s (caller s client) euid egid groups)) ≡ Some (verdict (becoming (creds_at s client) euid egid (is_some groups)))
decides s client euid egid None few = two (denial (creds_at s client) (BecomeUser euid)) (denial (creds_at s client) (BecomeGroup egid)) _
decides s client euid egid (Some gs) few = rw few (three (denial (creds_at s client) (BecomeUser euid)) (denial (creds_at s client) (BecomeGroup egid)) (denial (creds_at s client) SetGroups) _)

pub returns : goal.returns
returns c =
    let s = c.args.self.now in
    let known = creds-read _ s c.args.client c.index.result.now c.self.view_is c.requires.known c.index.ensures in
    let few : nat_le (length (unwrap_or c.args.groups.now [])) groups_max ≡ true = le-leb (length (unwrap_or c.args.groups.now [])) groups_max (omega (arith, c.given.ensures, c.if-given-gt-GROUPS_MAX.false)) in
    decides s c.args.client c.args.euid c.args.egid c.args.groups.now few
    ∙ ap (λ (o : Option Rule). Some (verdict o)) (ap (λ (k : Credentials). becoming k c.args.euid c.args.egid (is_some c.args.groups.now)) (sym known) ∙ ap (λ (b : Bool). becoming c.index.result.now c.args.euid c.args.egid b) (sym c.is_some.ensures) ∙ sym c.may_become.ensures)
    ∙ ap (λ (r : Result ⊤ Rule). Some r) (sym (told c.may_become.result))
