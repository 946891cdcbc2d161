use Rattle.std.proofs.Common.{◌≡◌, ◌≢◌, ℤ, Bool, Option, None, ℕ, AllPairs, int_lt, int_le, pos, true, false, ap, sym, subst, ◌∙◌, w64, to_z, of_z, SFits, rules}
use Rattle.std.proofs.lemmas.Int.{to_z-of_z}
use Rattle.msg_queue.specs.Messages.{magnitude, select}
use Rattle.msg_queue.specs.Queues.{Chooses, ChoosesIn, Placed, QueueState, contents, messages_of}
use Rattle.msg_queue.specs.Links.{first_place, link_in, other_type}
use Rattle.msg_queue.specs.declared.nodes.Chain.TheVariants.{Same}
use Rattle.msg_queue.specs.declared.nodes.Ends.{Ends}
use Rattle.msg_queue.specs.Types.{ends_in}
use Rattle.msg_queue.proofs.Changing.{order}
use Rattle.msg_queue.proofs.Placed.{places_differ}
use Rattle.msg_queue.proofs.Selecting.{chooses_below, chooses_nothing, chooses_other, chooses_type, not_zero}
use Rattle.msg_queue.proofs.queue.Queue.select.Goals as goal

pub returns-in_err-mtype-clause-distinct : goal.returns-in_err-mtype-clause-distinct
returns-in_err-mtype-clause-distinct c =
    subst (λ (q : QueueState). AllPairs (λ (a b : Placed). a.place ≢ b.place) q.placed) c.self.view_is (places_differ (order c.self.inside.nodes c.self.inside.ends) c.self.invariant.0.apart)

pub returns-then-msgtyp-eq0-clause-distinct : goal.returns-then-msgtyp-eq0-clause-distinct
returns-then-msgtyp-eq0-clause-distinct c =
    subst (λ (q : QueueState). AllPairs (λ (a b : Placed). a.place ≢ b.place) q.placed) c.self.view_is (places_differ (order c.self.inside.nodes c.self.inside.ends) c.self.invariant.0.apart)

pub returns-then-except-clause-distinct : goal.returns-then-except-clause-distinct
returns-then-except-clause-distinct c =
    subst (λ (q : QueueState). AllPairs (λ (a b : Placed). a.place ≢ b.place) q.placed) c.self.view_is (places_differ (order c.self.inside.nodes c.self.inside.ends) c.self.invariant.0.apart)

pub returns-else-except-clause-distinct : goal.returns-else-except-clause-distinct
returns-else-except-clause-distinct c =
    subst (λ (q : QueueState). AllPairs (λ (a b : Placed). a.place ≢ b.place) q.placed) c.self.view_is (places_differ (order c.self.inside.nodes c.self.inside.ends) c.self.invariant.0.apart)

pub returns-then-mtype-magnitude-clause-distinct : goal.returns-then-mtype-magnitude-clause-distinct
returns-then-mtype-magnitude-clause-distinct c =
    subst (λ (q : QueueState). AllPairs (λ (a b : Placed). a.place ≢ b.place) q.placed) c.self.view_is (places_differ (order c.self.inside.nodes c.self.inside.ends) c.self.invariant.0.apart)

pub returns-else-mtype-magnitude-clause-distinct : goal.returns-else-mtype-magnitude-clause-distinct
returns-else-mtype-magnitude-clause-distinct c =
    subst (λ (q : QueueState). AllPairs (λ (a b : Placed). a.place ≢ b.place) q.placed) c.self.view_is (places_differ (order c.self.inside.nodes c.self.inside.ends) c.self.invariant.0.apart)

pub returns-then-except-clause-chooses : goal.returns-then-except-clause-chooses
returns-then-except-clause-chooses c =
    let ms = order c.self.inside.nodes c.self.inside.ends in
    let own = to_z-of_z w64 c.args.msgtyp c.ranges.msgtyp in
    subst (λ (q : QueueState). Chooses q c.first_of_another.result (select (contents q) c.args.msgtyp c.args.except)) c.self.view_is
    (subst (λ (x : Bool). ChoosesIn ms c.first_of_another.result (select (messages_of ms) c.args.msgtyp x)) (sym c.if-except.true)
    (subst (λ (o : Option ℕ). ChoosesIn ms o (select (messages_of ms) c.args.msgtyp true)) (sym (c.first_of_another.ensures ∙ ap (λ (z : ℤ). first_place (other_type z) c.args.self.now.placed) own ∙ ap (λ (q : QueueState). first_place (other_type c.args.msgtyp) q.placed) (sym c.self.view_is)))
    (chooses_other ms c.args.msgtyp (ap (int_lt (pos 0)) (sym own) ∙ c.if-msgtyp-gt0.true) c.self.invariant.0.apart)))

pub returns-else-except-clause-chooses : goal.returns-else-except-clause-chooses
returns-else-except-clause-chooses c =
    let ms = order c.self.inside.nodes c.self.inside.ends in
    let own = to_z-of_z w64 c.args.msgtyp c.ranges.msgtyp in
    rw c.get-else-except.ensures (subst (λ (q : QueueState). Chooses q c.ends_at.result.first (select (contents q) c.args.msgtyp c.args.except)) c.self.view_is
    (subst (λ (x : Bool). ChoosesIn ms c.ends_at.result.first (select (messages_of ms) c.args.msgtyp x)) (sym c.if-except.false)
    (subst (λ (e : Ends). ChoosesIn ms e.first (select (messages_of ms) c.args.msgtyp false)) (sym (c.ends_at.ensures ∙ ap (ends_in c.self.inside.types.rows) (c.seek.ensures.mtype ∙ own)))
    (chooses_type (link_in Same c.self.inside.nodes) (ends_in c.self.inside.types.rows c.args.msgtyp) ms c.args.msgtyp (ap (int_lt (pos 0)) (sym own) ∙ c.if-msgtyp-gt0.true) (c.self.invariant.0.same c.args.msgtyp) c.self.invariant.0.apart))))

pub returns-in_err-mtype-clause-chooses : goal.returns-in_err-mtype-clause-chooses
returns-in_err-mtype-clause-chooses c =
    let ms = order c.self.inside.nodes c.self.inside.ends in
    let own = to_z-of_z w64 c.args.msgtyp c.ranges.msgtyp in
    subst (λ (o : Option ℕ). Chooses c.args.self.now o (select (contents c.args.self.now) c.args.msgtyp c.args.except)) (sym c.from_residual.ensures)
    (subst (λ (q : QueueState). select (contents q) c.args.msgtyp c.args.except ≡ None) c.self.view_is
    (chooses_nothing (link_in Same c.self.inside.nodes) c.self.inside.types.rows ms c.self.invariant.0.same c.self.invariant.0.apart c.args.msgtyp c.args.except (not_zero c.args.msgtyp c.if-msgtyp-eq0.false) (ap (int_lt (pos 0)) (sym own) ∙ c.if-msgtyp-gt0.false) c.in_err-mtype.ensures.none))

pub returns-then-mtype-magnitude-clause-chooses : goal.returns-then-mtype-magnitude-clause-chooses
returns-then-mtype-magnitude-clause-chooses c =
    let ms = order c.self.inside.nodes c.self.inside.ends in
    let fits : SFits w64 c.in_ok-mtype.mtype = search rules in
    let least = to_z-of_z w64 c.in_ok-mtype.mtype fits in
    let fits' : SFits w64 c.magnitude.result = search rules in
    let bound = to_z-of_z w64 c.magnitude.result fits' in
    let own = to_z-of_z w64 c.args.msgtyp c.ranges.msgtyp in
    rw c.get-then-mtype-magnitude.ensures (subst (λ (q : QueueState). Chooses q c.in_ok-mtype.ends.first (select (contents q) c.args.msgtyp c.args.except)) c.self.view_is
    (chooses_below (link_in Same c.self.inside.nodes) c.self.inside.types.rows ms c.self.invariant.0.same c.self.invariant.0.apart c.args.msgtyp c.args.except (not_zero c.args.msgtyp c.if-msgtyp-eq0.false) (ap (int_lt (pos 0)) (sym own) ∙ c.if-msgtyp-gt0.false)
    (c.in_ok-mtype.mtype, c.in_ok-mtype.ends) c.in_ok-mtype.ensures.least true (ap (int_le c.in_ok-mtype.mtype) (sym (c.magnitude.ensures ∙ ap (λ (z : ℤ). pos (magnitude z)) own)) ∙ ap (λ (x : ℤ). int_le x c.magnitude.result) (sym least) ∙ ap (int_le (to_z w64 (of_z w64 c.in_ok-mtype.mtype))) (sym bound) ∙ c.if-mtype-magnitude.true)))

pub returns-else-mtype-magnitude-clause-chooses : goal.returns-else-mtype-magnitude-clause-chooses
returns-else-mtype-magnitude-clause-chooses c =
    let ms = order c.self.inside.nodes c.self.inside.ends in
    let fits : SFits w64 c.in_ok-mtype.mtype = search rules in
    let least = to_z-of_z w64 c.in_ok-mtype.mtype fits in
    let fits' : SFits w64 c.magnitude.result = search rules in
    let bound = to_z-of_z w64 c.magnitude.result fits' in
    let own = to_z-of_z w64 c.args.msgtyp c.ranges.msgtyp in
    subst (λ (q : QueueState). select (contents q) c.args.msgtyp c.args.except ≡ None) c.self.view_is
    (chooses_below (link_in Same c.self.inside.nodes) c.self.inside.types.rows ms c.self.invariant.0.same c.self.invariant.0.apart c.args.msgtyp c.args.except (not_zero c.args.msgtyp c.if-msgtyp-eq0.false) (ap (int_lt (pos 0)) (sym own) ∙ c.if-msgtyp-gt0.false)
    (c.in_ok-mtype.mtype, c.in_ok-mtype.ends) c.in_ok-mtype.ensures.least false (ap (int_le c.in_ok-mtype.mtype) (sym (c.magnitude.ensures ∙ ap (λ (z : ℤ). pos (magnitude z)) own)) ∙ ap (λ (x : ℤ). int_le x c.magnitude.result) (sym least) ∙ ap (int_le (to_z w64 (of_z w64 c.in_ok-mtype.mtype))) (sym bound) ∙ c.if-mtype-magnitude.false))
