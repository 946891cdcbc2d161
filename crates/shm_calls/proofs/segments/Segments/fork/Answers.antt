use Rattle.std.proofs.Common.{◌≡◌, ◌∙◌, ℕ, None, ap, subst, sym}
use Rattle.shm_seg.specs.Attachments.{Attached, IsPut, attachment_at}
use Rattle.ipc_model.specs.State.{Shared}
use Rattle.ipc_model.specs.Segments.{after_fork}
use Rattle.shm_calls.specs.Calls.{noted_from}
use Rattle.shm_calls.proofs.Forking.{forked}
use Rattle.shm_calls.proofs.segments.Segments.fork.Goals as goal

pub returns-clause-ok : goal.returns-clause-ok
returns-clause-ok c =
    let inside : Shared = record { segments = c.self.inside.segments; attached = c.self.inside.attached } in
    let who = c.args.who.now in
    let none : (n : ℕ) → attachment_at inside.attached c.args.child n ≡ None = subst (λ (x : Shared). (n : ℕ) → attachment_at x.attached c.args.child n ≡ None) (sym c.self.view_is) c.requires.none in
    let put = subst (λ (p : ℕ). IsPut c.args.child 4096 (λ n. attachment_at inside.attached p n) inside.attached c.copy_all.new.self) c.process.ensures c.in_ok-copy_all.ensures.ok in
    c.note_copies.ensures ∙ forked inside who c.args.child c.copy_all.new.self none put ∙ ap (λ (x : Shared). after_fork x who c.args.child) c.self.view_is
