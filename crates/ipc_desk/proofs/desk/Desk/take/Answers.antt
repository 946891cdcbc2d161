use Rattle.std.proofs.Common.{◌≡◌, List, Option, None, sym, subst, ◌∙◌}
use Rattle.std.specs.Prelude.{slice_set}
use Rattle.ipc_call.specs.declared.replies.Reply.{Reply}
use Rattle.ipc_desk.specs.Desks.{IsTaken}
use Rattle.ipc_desk.specs.Kept.{AreKept, DeskState}
use Rattle.ipc_desk.proofs.Taking.{AreKept-taken, taken-as, waited-of}
use Rattle.ipc_desk.proofs.desk.Desk.take.Goals as goal

pub ended_in-requires : goal.ended_in-requires
ended_in-requires c = waited-of c.self.inside.space c.self.inside.kept.items c.self.invariant c.args.client.0 c.take_out-reply.result c.take_out-reply.ensures.taken

pub invariant_of-self : goal.invariant_of-self
invariant_of-self c =
    subst (λ (slots : List (Option Reply)). AreKept c.self.inside.space slots) (sym c.take_out-reply.ensures.left)
    (AreKept-taken c.self.inside.space c.self.inside.kept.items c.self.invariant c.args.client.0)

pub returns : goal.returns
returns c =
    let h = c.self.inside.space in
    let time = c.self.inside.time in
    let slots = c.self.inside.kept.items in
    let client = c.args.client.0 in
    let taken = taken-as h slots c.self.invariant client time c.take_out-reply.result c.ended_in.result c.take_out-reply.ensures.taken c.ended_in.ensures in
    subst (λ (d : DeskState). IsTaken d (record { history = h; time = time; kept = c.take_out-reply.new.kept.items }) client c.ended_in.result) c.self.view_is
    (subst (λ (l : List (Option Reply)). IsTaken (record { history = h; time = time; kept = slots }) (record { history = h; time = time; kept = l }) client c.ended_in.result) (sym c.take_out-reply.ensures.left) taken)
