use Rattle.std.proofs.Common.{◌≡◌, length, drop, box_value, ap, sym, ◌∙◌}
use Rattle.std.proofs.lemmas.List.{length-map}
use Rattle.ipc_abi.specs.Openings.{creds_in}
use Rattle.ipc_seat.specs.Openings.{state_in}
use Rattle.ipc_seat.specs.Seats.{Idle}
use Rattle.ipcsh_c.proofs.Placed.{dropped}
use Rattle.ipcsh_c.proofs.opened.Goals as goal

pub returns-in-Ok-clause-seats : goal.returns-in-Ok-clause-seats
returns-in-Ok-clause-seats c =
    let given = c.hand_out.result in let said = c.hand_out.ensures in let boxes = c.in-Ok.seats.items in let clients = c.args.clients.now in
    let opened = c.in-Ok.ensures.opened in
    let seated : length boxes ≡ length opened.0 = sym (length-map boxes state_in) ∙ ap length opened.4 ∙ length-map opened.0 (λ m. Idle m) in
    let count : length given.seats ≡ length clients = ap length said.seats ∙ length-map boxes box_value ∙ seated ∙ opened.2 ∙ length-map clients creds_in in
    let past = dropped given.handles c.args.handles.now (length clients) (length given.seats) (said.length ∙ count) count in (
      (λ is_zero. ((boxes, opened, said.seats), count, ap (λ handles. drop (length clients) handles) said.given ∙ past)),
      (λ no. absurd (no said.code)),
    )
