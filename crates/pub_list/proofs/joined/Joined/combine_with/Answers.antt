use Rattle.std.proofs.Common.{rules, ◌+◌, ◌∙◌, ◌++◌, ◌∷◌, [], take, length, sym, ap, subst, inl, arith}
use Rattle.pub_rule.specs.Lists.{IsOn}
use Rattle.pub_rule.specs.WorkSteps.{with_work}
use Rattle.pub_rule.specs.Work.{IsMarked}
use Rattle.pub_list.specs.Clients.{view, work, seen}
use Rattle.pub_list.specs.Passing.{IsServing, IsAsFar, KeepsMarks, HasPassed, HasToldGate}
use Rattle.pub_list.proofs.Marking.{on_by, goes_further, HasServed, HasVisited, marked_by, marks_more, served_more, told_more, visited_more}
use Rattle.pub_list.proofs.Walks.{begins, at_next, moves_on, at_end, count_at_end}
use Rattle.pub_list.proofs.joined.Joined.combine_with.Goals.{then-visited-gt0, else-visited-gt0}
use Rattle.pub_list.proofs.joined.Joined.combine_with.Goals as goal

pub loop-at-init : goal.loop-at-init
loop-at-init g c = let first = c.first-at.ensures in let seized = c.in_ok-state.ensures in (
  search rules,
  search rules,
  search rules,
  search rules,
  search rules,
  search rules,
  search rules,
  search rules,
  (λ on own. absurd on),
  begins c.args.list.now.clients (seen c.first-at.new.self) c.first-at.result first.listed first.first,
  subst (λ q. IsOn q (seen c.first-at.new.self)) seized.client.0 first.seen.0,
  (λ q h. first.seen.1 q (subst (λ l. IsOn q l) (sym (ap (λ z. z.walk.known) seized.seized.2)) h)),
  (λ k least below. absurd (omega arith)),
)

pub between-requires : goal.between-requires
between-requires g c = let l = c.loop-at in let t = at_next c.args.list.now.clients (seen l.self) l.visited c.in-Some.client l.at l.invariant.9 c.in-Some.is in
    let below = t.2 in let few = t.3 in let most = c.args.list.now.sized.4 in (search rules, omega arith, omega arith)

pub visit-state-requires-clause-client : goal.visit-state-requires-clause-client
visit-state-requires-clause-client g c = let l = c.loop-at in (at_next c.args.list.now.clients (seen l.self) l.visited c.in-Some.client l.at l.invariant.9 c.in-Some.is).1

pub overflow_add-visited : goal.overflow_add-visited
overflow_add-visited g c = let l = c.loop-at in let t = at_next c.args.list.now.clients (seen l.self) l.visited c.in-Some.client l.at l.invariant.9 c.in-Some.is in
    let below = t.2 in let few = t.3 in let most = c.args.list.now.sized.4 in omega arith

pub next-at-requires-clause-known : goal.next-at-requires-clause-known
next-at-requires-clause-known g c = let l = c.loop-at in
    inl (subst (λ z. IsOn c.in-Some.client z.list) (sym c.visit-state.ensures.dealt.5) (at_next c.args.list.now.clients (seen l.self) l.visited c.in-Some.client l.at l.invariant.9 c.in-Some.is).0)

pub loop-at-smaller : goal.loop-at-smaller
loop-at-smaller g c = let l = c.loop-at in let t = at_next c.args.list.now.clients (seen l.self) l.visited c.in-Some.client l.at l.invariant.9 c.in-Some.is in
    let did = c.visit-state.ensures.dealt in
    let same = ap length (c.next-at.ensures.seen.2 (subst (λ z. IsOn c.in-Some.client z.list) (sym did.5) t.0) ∙ ap (λ z. z.list) did.5) in let below = t.2 in omega arith

pub loop-at-preserved : goal.loop-at-preserved
loop-at-preserved g c =
    let own = c.args.self.now.client in
    let n = c.args.list.now.clients in
    let l = c.loop-at in
    let v = view c.args.self.now in
    let u = view l.self in
    let m = view c.visit-state.new.self in
    let w = view c.next-at.new.self in
    let x = c.in-Some.client in
    let i = l.invariant in
    let before = take l.visited (seen l.self) in
    let did = c.visit-state.ensures.dealt in
    let far = c.visit-state.ensures.far in
    let next = c.next-at.ensures in
    let t = at_next n (seen l.self) l.visited x l.at i.9 c.in-Some.is in
    let same = next.seen.2 (subst (λ z. IsOn x z.list) (sym did.5) t.0) ∙ ap (λ z. z.list) did.5 in
    let more = ap (λ y. take (l.visited + 1) y) same ∙ t.4 in
    let still = sym next.client.1.3 in (
      (next.client.0 ∙ (c.visit-state.ensures.client.0 ∙ i.0.0), next.client.1.0 ∙ (c.visit-state.ensures.client.1 ∙ i.0.1)),
      subst (λ z. IsServing g.S.Served.history g.S.Served.legal g.S.Served.replies n (with_work z m) c.visit-state.result) still c.visit-state.ensures.serving,
      subst (λ z. IsAsFar v (with_work z m)) still (far.0 ∙ i.2.0, far.1 ∙ i.2.1, far.2 ∙ i.2.2, far.3 ∙ i.2.3, goes_further v.work.seen u.work.seen m.work.seen i.2.4 far.4),
      subst (λ z. KeepsMarks v (with_work z m)) still (marks_more x before v u m did i.3),
      next.client.1.1 ∙ (ap (λ z. z.known) did.5 ∙ i.4),
      ap (λ z. z.begun) next.client.1.3 ∙ (did.2 ∙ i.5),
      ap (λ z. z.met) next.client.1.3 ∙ (did.4 ∙ i.6),
      subst (λ y. HasVisited y v w) (sym more) (subst (λ z. HasVisited (before ++ x ∷ []) v (with_work z m)) still (visited_more x before v u m did i.7 i.3.0)),
      subst (λ y. HasServed own v y w) (sym more) (subst (λ z. HasServed own v (before ++ x ∷ []) (with_work z m)) still (served_more x before v u m did own i.8 i.2.0)),
      moves_on n (seen l.self) (seen c.next-at.new.self) l.visited x l.at c.next-at.result i.9 c.in-Some.is same next.next,
      subst (λ y. IsOn own y) (sym same) i.10,
      (λ q h. subst (λ y. IsOn q y) (sym same) (i.11 q h)),
      told_more (g.G.PassGate.was_told c.args.gate.now) n l.visited i.12 (λ some. elim c.if-visited-gt0.branch [ then-visited-gt0 w ↦ w.between.ensures | else-visited-gt0 w ↦ absurd (let none = w.if-visited-gt0.false in omega arith) ]),
    )

pub returns-clause-marks : goal.returns-clause-marks
returns-clause-marks g c = subst (λ z. KeepsMarks (view c.args.self.now) z) (sym c.release.ensures.released) c.loop-at.invariant.3

pub returns-clause-passed : goal.returns-clause-passed
returns-clause-passed g c =
    let self = c.args.self.now in
    let l = c.loop-at in
    let i = l.invariant in
    let list = seen l.self in
    let all = sym (at_end c.args.list.now.clients list l.visited l.at i.9 c.in_default.is) in
    let visited : HasVisited list (view self) (view l.self) = subst (λ y. HasVisited y (view self) (view l.self)) (sym all) i.7 in
    subst (λ z. HasPassed c.args.list.now.clients self.client (view self) z) (sym c.release.ensures.released) record {
      begun = i.5;
      met = i.6;
      listed = i.9.listed;
      visited = visited;
      heard = λ r k heard. subst (IsMarked r k) (sym visited) (marked_by r k list (work self).heard (work self).passed (i.11 r (on_by r _ (self.own.heard r k heard))) heard);
      own = λ mine. i.8 (subst (λ y. IsOn self.client y) all i.10) mine;
    }

pub returns-clause-gate : goal.returns-clause-gate
returns-clause-gate g c =
    let l = c.loop-at in
    let i = l.invariant in
    let n = c.args.list.now.clients in
    let all = count_at_end n (seen l.self) l.visited l.at i.9 c.in_default.is in
    subst (λ z. HasToldGate (g.G.PassGate.was_told c.args.gate.now) n z) (sym c.release.ensures.released) (λ k least below. i.12 k least (omega (arith, all, below)))
