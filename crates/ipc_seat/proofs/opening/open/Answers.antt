use Rattle.std.proofs.Common.{◌≡◌, List, [], length, map, ap, ◌∙◌, arith, subst, option_map, box_value}
use Rattle.std.specs.List.{slice_get}
use Rattle.std.proofs.lemmas.Grind.{common_steps}
use Rattle.ipc_abi.specs.Openings.{creds_in, limits_in}
use Rattle.ipc_call.specs.declared.limits.Limits.{Limits}
use Rattle.ipc_creds.specs.Credentials.{Credentials}
use Rattle.ipc_history.specs.History.{History}
use Rattle.ipc_seat.specs.Journals.{IsFirst}
use Rattle.ipc_seat.specs.Openings.{keeping_for}
use Rattle.ipc_seat.proofs.Firsts.{first_reads}
use Rattle.ipc_seat.proofs.opening.open.Goals as goal

pub returns-clause-opened : goal.returns-clause-opened
returns-clause-opened c =
    let o = c.in_ok-members.ensures in
    let same = ap length c.in_ok-creds.ensures in
    let count : length c.in_ok-members.members.items ≡ length (map creds_in c.args.clients.now) = grind (arith, common_steps, o.count, same, c.in_ok-creds.creds.ok) in
    let of_limits : Limits → History = λ l. record { limits = l; clients = c.in_ok-creds.creds.items; events = [] } in
    let of_clients : List Credentials → History = λ cs. record { limits = limits_in c.args.limits.now; clients = cs; events = [] } in (
      c.in_ok-members.members.items,
      (o.opening.0, o.opening.1 ∙ ap of_limits c.limits-limits.ensures ∙ ap of_clients c.in_ok-creds.ensures, o.opening.2, o.opening.3 ∙ c.keeping_for.ensures ∙ ap keeping_for c.keeps_journal-journal.ensures),
      count,
      o.numbers,
      c.with_reader.ensures.states ∙ c.in_ok-seats.ensures,
      (λ yes. first_reads (slice_get c.with_reader.result.items 0) c.in_ok-reader.reader (IsFirst (limits_in c.args.limits.now) (map creds_in c.args.clients.now)) c.with_reader.ensures.first
          (subst (λ (l : Limits). IsFirst l (map creds_in c.args.clients.now) (option_map (λ r. box_value r) c.in_ok-reader.reader)) c.limits-limits.ensures
          (subst (λ (cs : List Credentials). IsFirst c.limits-limits.result cs (option_map (λ r. box_value r) c.in_ok-reader.reader)) (c.as_slice.ensures.value ∙ c.in_ok-creds.ensures) (c.in_ok-reader.ensures (c.keeps_journal-journal.ensures ∙ yes))))),
    )
