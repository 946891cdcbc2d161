use Rattle.std.proofs.Common.{◌≡◌, ℕ, ◌+◌, ◌∙◌, sym, ap, subst, arith, IfSome, All, length, refl}
use Rattle.std.proofs.lemmas.List.Elements.{All-push}
use Rattle.std.proofs.lemmas.List.{length_push}
use Rattle.std.specs.List.{slice_get}
use Rattle.pub_rule.proofs.Numbers.{head_within}
use Rattle.pub_rule.specs.declared.walk.Role.TheVariants as roles
use Rattle.pub_rule.specs.Steps.{made_of}
use Rattle.pub_rule.specs.declared.work.Stage.TheVariants as stages
use Rattle.pub_rule.specs.WorkSplits.{seats_of}
use Rattle.pub_list.proofs.Seats.{placed_push}
use Rattle.pub_rule.proofs.Splitting.{make_client}
use Rattle.pub_list.proofs.making.make_clients.Goals as goal

pub split_seat-seat-requires : goal.split_seat-seat-requires
split_seat-seat-requires g c = let i = c.loop-client.invariant in let sized = c.requires.table in let words = sized.0 in let key = sized.2 in let within = head_within c.args.clients in let room = c.loop-client-test.true in
    (i.0 ∙ c.requires.first.0, omega arith, make_client g.S.Served _ _ c.loop-client.client _ i.1.0 i.1.1 (omega arith))

pub loop-client-preserved : goal.loop-client-preserved
loop-client-preserved g c = let i = c.loop-client.invariant in let did = c.split_seat-seat.ensures in let e = c.in_ok-push.ensures.items in let size = c.in_ok-push.ensures.len in (
  did.0 ∙ i.0,
  (
    ap (λ m. m.0.walk.role) did.2 ∙ ap (λ (k : ℕ). roles.Maker (k + 1)) (ap made_of i.1.0),
    ap (λ m. m.0.work.stage) did.2 ∙ ap (λ (k : ℕ). stages.Maker (k + 1)) (ap seats_of i.1.1),
  ),
  ap length e ∙ (length_push _ _ ∙ ap (λ (k : ℕ). k + 1) i.2),
  subst (λ xs. (k : ℕ) → IfSome (slice_get xs k) (λ f. f.client ≡ k)) (sym e) (placed_push (λ k f. f.client ≡ k) _ _ _ i.2 i.3 refl),
  subst (All (λ f. f.seat.table_id ≡ c.args.table.now.shared.table_id)) (sym e) (All-push (λ f. f.seat.table_id ≡ c.args.table.now.shared.table_id) _ _ i.4 (did.3 ∙ (i.0 ∙ c.requires.first.0))),
  ap (λ m. m.0.work.seen) did.2 ∙ i.5,
  subst (All (λ f. f.seat.me.0.work.seen ≡ c.args.first.me.0.work.seen)) (sym e) (All-push (λ f. f.seat.me.0.work.seen ≡ c.args.first.me.0.work.seen) _ _ i.6 (ap (λ m. m.0.work.seen) did.4 ∙ i.5)),
)
