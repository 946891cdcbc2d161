use Rattle.std.specs.Prelude.{IfSome}
use Rattle.std.proofs.Common.{◌∙◌, ◌<◌, ℕ, None, Option, refl, subst, sym}
use Rattle.shm_seg.specs.Attachments.{Attached, IsPut, attachment_at}
use Rattle.shm_seg.specs.Inside.{reached}
use Rattle.shm_seg.proofs.Copies.{few-reached, first-few, put-back, walk-copied, walk-first, walk-next}
use Rattle.shm_seg.proofs.attachments.Attachments.copy_all.Goals as goal

pub loop-next-init : goal.loop-next-init
loop-next-init c =
    let old = c.args.self.now in
    record {
      put = walk-first c.args.to c.args.from old c.requires.none c.first-next.result c.first-next.ensures.first c.first-next.ensures.none;
      few = first-few c.args.to c.args.from old c.requires.none c.first-next.result c.first-next.ensures.first;
    }

pub returns-in-Err-clause-err : goal.returns-in-Err-clause-err
returns-in-Err-clause-err c =
    let old = c.args.self.now in
    put-back c.args.to (reached c.loop-next.next) (λ n. attachment_at old c.args.from n) old c.loop-next.self c.let_go.new.self
    (few-reached c.args.to c.args.from old c.requires.none c.loop-next.next c.loop-next.invariant.few) c.requires.none c.loop-next.invariant.put
    (subst (λ (m : Attached). IsPut c.args.to 4096 (λ n. None) m c.let_go.new.self) c.in-Err.ensures.err c.let_go.ensures)

pub loop-next-preserved : goal.loop-next-preserved
loop-next-preserved c =
    let old = c.args.self.now in
    let n = c.in-Some.number in
    let now = c.loop-next.self in
    let later = c.copy.new.self in
    let at : IsPut c.args.to n (λ k. attachment_at old c.args.from k) old now = subst (λ (o : Option ℕ). IsPut c.args.to (reached o) (λ k. attachment_at old c.args.from k) old now) c.in-Some.is c.loop-next.invariant.put in
    let few = c.loop-next.invariant.few in
    let put = walk-copied c.args.to c.args.from old c.requires.none n now later at (attachment_at now c.args.from n) refl c.in_default-copy.ensures.ok c.in_default-copy.ensures.none in
    record {
      put = walk-next c.args.to c.args.from old c.requires.none n later put (subst (λ (o : Option ℕ). IfSome o (λ k. k < 4096)) c.in-Some.is few) c.next-next.result c.next-next.ensures.none c.next-next.ensures.above c.next-next.ensures.least;
      few = c.next-next.ensures.few;
    }
