use Rattle.std.proofs.Common.{◌≡◌, ◌∙◌, ◌<◌, ℕ, Option, Some, subst, sym}
use Rattle.std.specs.Prelude.{None, IfNone, IfSome}
use Rattle.shm_seg.specs.Attachments.{attachment_at, first_number}
use Rattle.ipc_model.specs.State.{Shared}
use Rattle.shm_calls.proofs.Forking.{Noted, start-few, walk-noted, walk-start}
use Rattle.shm_calls.proofs.segments.Segments.note_copies.Goals as goal

pub loop-next-init : goal.loop-next-init
loop-next-init c =
    let s = c.args.self.now in
    let who = c.args.who.now in
    let o = c.first-next.result in
    let first : o ≡ first_number s.attached who.process = c.first-next.ensures.first ∙ (λ i. first_number (c.self.view_is i).attached (c.process.ensures i)) in
    let none = subst (λ (x : Shared). IfNone o ((n : ℕ) → attachment_at x.attached who.process n ≡ None)) c.self.view_is
    (subst (λ (p : ℕ). IfNone o ((n : ℕ) → attachment_at c.self.inside.attached p n ≡ None)) c.process.ensures c.first-next.ensures.none) in
    record { noted = walk-start who s o first none; few = start-few who s o first }

pub loop-next-preserved : goal.loop-next-preserved
loop-next-preserved c =
    let s = c.args.self.now in
    let who = c.args.who.now in
    let now = c.loop-next.self in
    let new = c.note_number.new.self in
    let n = c.in-Some.number in
    let o = c.next-next.result in
    let at : Noted who s (Some n) now = subst (λ (x : Option ℕ). Noted who s x now) c.in-Some.is c.loop-next.invariant.noted in
    let few : n < 4096 = subst (λ (x : Option ℕ). IfSome x (λ k. k < 4096)) c.in-Some.is c.loop-next.invariant.few in
    let none = subst (λ (x : Shared). IfNone o ((k : ℕ) → n < k → attachment_at x.attached who.process k ≡ None)) c.self-in-Some.view_is
    (subst (λ (p : ℕ). IfNone o ((k : ℕ) → n < k → attachment_at c.self-in-Some.inside.attached p k ≡ None)) c.process-in-Some.ensures c.next-next.ensures.none) in
    let least = subst (λ (x : Shared). IfSome o (λ next. (k : ℕ) → n < k → k < next → attachment_at x.attached who.process k ≡ None)) c.self-in-Some.view_is
    (subst (λ (p : ℕ). IfSome o (λ next. (k : ℕ) → n < k → k < next → attachment_at c.self-in-Some.inside.attached p k ≡ None)) c.process-in-Some.ensures c.next-next.ensures.least) in
    record { noted = walk-noted who s n now new at c.note_number.ensures few o none c.next-next.ensures.above least; few = c.next-next.ensures.few }
