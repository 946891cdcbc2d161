use Rattle.std.proofs.Common.{◌≡◌, ◌∙◌, ◌+◌, ◌∷◌, [], true, ap, length, sym, subst, Some}
use Rattle.std.specs.Prelude.{◌&&◌, is_some, option_map, IfNone, IfSome}
use Rattle.std.specs.List.{find}
use Rattle.std.proofs.lemmas.Bool.{and_parts}
use Rattle.ipc_call.specs.declared.replies.Waiting.{Waiting}
use Rattle.ipc_model.specs.State.{State, is_waiting, waiting_of}
use Rattle.ipc_model.specs.Step.{end_waiting, is_ready}
use Rattle.ipc_namespace.specs.Touching.{is_listed}
use Rattle.ipc_namespace.proofs.Calling.{IfSome-at}
use Rattle.ipc_namespace.proofs.OnSets.{completes, named, quiet-first, unnamed}
use Rattle.ipc_namespace.proofs.Own.{found-at, found-passes, found-there}
use Rattle.ipc_namespace.proofs.namespace.Namespace.complete_listed.Goals as goal
use Rattle.ipc_namespace.proofs.namespace.Namespace.complete_listed.Goals.{In_ok-client}

-- the call that was found
abbrev at : (c : In_ok-client) → (w : Waiting) × (find (λ v. is_listed c.args.owed.now v && is_ready c.args.self.now v) c.args.self.now.parked ≡ Some w) × (w.client ≡ c.in_ok-client.client)
at c = named c.in_ok-client.client _ c.in_ok-client.ensures.first

-- is its client's own
is_own : (c : In_ok-client) → waiting_of c.args.self.now c.in_ok-client.client ≡ Some (at c).0
is_own c =
    let s = c.args.self.now in
    subst (λ client. waiting_of s client ≡ Some (at c).0) (at c).2
    (found-at (λ v. is_listed c.args.owed.now v && is_ready s v) s.parked (at c).0 c.in_ok-client.ensures.apart (at c).1).own

pub try_waiting-requires : goal.try_waiting-requires
try_waiting-requires c =
    let s = c.args.self.now in
    let b = (goal.at.try_waiting-requires c).In_ok-client in
    subst (λ (t : State). is_waiting t c.in_ok-client.client ≡ true) (sym c.in_ok-client.ensures.same)
    (subst (λ client. is_waiting s client ≡ true) (at b).2 (found-there (λ v. is_listed c.args.owed.now v && is_ready s v) s.parked (at b).0 (at b).1))

pub returns-in_err-client-clause-first : goal.returns-in_err-client-clause-first
returns-in_err-client-clause-first c =
    let s = c.args.self.now in
    rw c.from_residual.ensures (ap (option_map (end_waiting s)) (quiet-first s (is_listed c.args.owed.now) c.requires.quiet ∙ unnamed _ c.in_err-client.ensures.first))

pub returns-clause-first : goal.returns-clause-first
returns-clause-first c =
    let s = c.args.self.now in
    let b = (goal.at.returns-clause-first c).In_ok-client in
    let w = (at b).0 in
    let same = c.in_ok-client.ensures.same in
    let ended = c.try_waiting.result in
    let own = waiting_of s c.in_ok-client.client in
    let passes = found-passes (λ v. is_listed c.args.owed.now v && is_ready s v) s.parked (Some w) (at b).1 in
    let ready = and_parts (is_listed c.args.owed.now w) (is_ready s w) passes in
    let some = IfSome-at own w (λ (v : Waiting). is_some ended ≡ is_ready s v) (is_own b) (subst (λ (t : State). IfSome (waiting_of t c.in_ok-client.client) (λ v. is_some ended ≡ is_ready t v)) same c.try_waiting.ensures.ready) in
    let ends = IfSome-at own w (λ (v : Waiting). IfSome ended (λ e. end_waiting s v ≡ record { state = c.try_waiting.new.self; ended = e ∷ [] })) (is_own b)
    (subst (λ (t : State). IfSome (waiting_of t c.in_ok-client.client) (λ v. IfSome ended (λ e. end_waiting t v ≡ record { state = c.try_waiting.new.self; ended = e ∷ [] }))) same c.try_waiting.ensures.ended) in
    completes s c.try_waiting.new.self w _ ended (quiet-first s (is_listed c.args.owed.now) c.requires.quiet ∙ (at b).1) (some ∙ ready.1) ends

pub returns-clause-none : goal.returns-clause-none
returns-clause-none c = subst (λ (t : State). IfNone c.try_waiting.result (c.try_waiting.new.self ≡ t)) c.in_ok-client.ensures.same c.try_waiting.ensures.none

pub returns-clause-shorter : goal.returns-clause-shorter
returns-clause-shorter c = subst (λ (t : State). IfSome c.try_waiting.result (λ _. length c.try_waiting.new.self.parked + 1 ≡ length t.parked)) c.in_ok-client.ensures.same c.try_waiting.ensures.shorter
