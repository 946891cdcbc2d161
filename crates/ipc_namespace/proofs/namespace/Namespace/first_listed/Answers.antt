use Rattle.std.proofs.Common.{◌≡◌, ◌∙◌, ℕ, ◌+◌, ◌<◌, ◌≤◌, List, [], ◌∷◌, ◌++◌, true, ap, arith, length, refl, sym, subst, take, take_all, Option}
use Rattle.std.specs.Prelude.{◌&&◌, ◌||◌, IfSome}
use Rattle.std.proofs.lemmas.List.{take_more}
use Rattle.std.specs.List.{find}
use Rattle.ipc_model.specs.State.{State, is_waiting}
use Rattle.ipc_model.specs.Step.{is_ready}
use Rattle.ipc_parked.specs.Parked.{AreApart}
use Rattle.ipc_namespace.specs.Namespace.{earliest_of, is_found}
use Rattle.ipc_namespace.specs.Touching.{first_on, is_listed}
use Rattle.ipc_namespace.proofs.OnSets.{first-more, first-nowhere, found-either, whatever}
use Rattle.ipc_namespace.proofs.Own.{found-waits}
use Rattle.ipc_namespace.proofs.Owing.{on}
use Rattle.ipc_namespace.proofs.namespace.Namespace.first_listed.Goals as goal

pub loop-id-init : goal.loop-id-init
loop-id-init c = record {
  same = refl;
  first = sym (first-nowhere (is_ready c.args.self.now) c.args.self.now.parked);
  apart = tt;
}

-- what was found on some sets waits
waits : (s : State) (ids : List ℕ) (first : Option ℕ) → first ≡ first_on s (is_listed ids) → IfSome first (λ client. is_waiting s client ≡ true)
waits s ids first is =
    subst (λ (o : Option ℕ). IfSome o (λ client. is_waiting s client ≡ true)) (sym is)
    (found-waits (λ w. is_listed ids w && is_ready s w) s.parked (find (λ w. is_listed ids w && is_ready s w) s.parked) refl)

pub earlier_on_set-first-requires : goal.earlier_on_set-first-requires
earlier_on_set-first-requires c =
    let inv = c.loop-id.invariant in
    subst (λ (t : State). IfSome c.loop-id.first (λ client. is_waiting t client ≡ true)) (sym inv.same)
    (waits c.args.self.now (take c.loop-id.id-index c.args.owed.now) c.loop-id.first inv.first)

-- one more set
more : (s t : State) (owed : List ℕ) (i id : ℕ) (first now : Option ℕ) → t ≡ s → first ≡ first_on s (is_listed (take i owed)) → AreApart t.parked → now ≡ earliest_of t (λ k. is_found first k || is_found (first_on t (on id)) k)
    → now ≡ first_on s (is_listed (take i owed ++ id ∷ []))
more s t owed i id first now same was apart is =
    let ids = take i owed in
    is ∙ ap (λ (u : State). earliest_of u (λ k. is_found first k || is_found (first_on u (on id)) k)) same
    ∙ ap (λ (o : Option ℕ). earliest_of s (λ k. is_found o k || is_found (first_on s (on id)) k)) was
    ∙ found-either (λ w. is_listed ids w && is_ready s w) (λ w. on id w && is_ready s w) s.parked (subst (λ (u : State). AreApart u.parked) same apart)
    ∙ first-more s ids id

pub loop-id-preserved : goal.loop-id-preserved
loop-id-preserved c =
    let s = c.args.self.now in
    let i = c.loop-id.id-index in
    let owed = c.args.owed.now in
    let inv = c.loop-id.invariant in
    let e = c.earlier_on_set-first.ensures in
    let lt : i < length owed = omega arith in
    record {
      same = e.same ∙ inv.same;
      first = more s c.loop-id.self owed i _ c.loop-id.first c.earlier_on_set-first.result inv.same inv.first e.apart e.first ∙ ap (λ (ids : List ℕ). first_on s (is_listed ids)) (sym (take_more owed i 0 lt));
      apart = whatever c.earlier_on_set-first.result (AreApart s.parked) (subst (λ (t : State). AreApart t.parked) inv.same e.apart);
    }

pub returns : goal.returns
returns c =
    let s = c.args.self.now in
    let owed = c.args.owed.now in
    let inv = c.loop-id.invariant in
    let past : length owed ≤ c.loop-id.id-index = omega arith in
    record {
      first = inv.first ∙ ap (λ (ids : List ℕ). first_on s (is_listed ids)) (take_all c.loop-id.id-index owed past);
      apart = inv.apart;
      same = inv.same;
    }
