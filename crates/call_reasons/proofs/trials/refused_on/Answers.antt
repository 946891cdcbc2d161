use Rattle.std.proofs.Common.{◌≡◌, ◌++◌, ◌∷◌, [], ◌+◌, ap, drop, take, get_or, pos, subst, sym, ◌∙◌, ◌<◌, length, List, ℕ, Option, None, arith}
use Rattle.std.specs.Prelude.{option_map}
use Rattle.std.proofs.lemmas.List.{drop_all, drop_more, take_more}
use Rattle.ipc_call.specs.declared.calls.SemOper.{SemOper}
use Rattle.sem_set.specs.Sets.{value_of}
use Rattle.sem_set.specs.Trials.{adj_in, committed, trial_on}
use Rattle.sem_set.proofs.Running.{no_oper, num_in}
use Rattle.sem_set.specs.declared.set.Semaphore.{Semaphore}
use Rattle.call_reasons.specs.declared.trials.Stopped.{Stopped}
use Rattle.call_reasons.specs.Trials.{refusal_of, refused_from}
use Rattle.call_reasons.proofs.TrialLemmas.{AreMet, done, gone, refuses, same-len, same-rule, waits}
use Rattle.call_reasons.proofs.trials.refused_on.Goals as goal

pub returns-in-Wait-clause-stop : goal.returns-in-Wait-clause-stop
returns-in-Wait-clause-stop c =
    let ops = c.args.ops.now in
    let i = c.loop-oper.oper-index in
    let o : SemOper = get_or ops i no_oper in
    let adj = adj_in c.args.row.now in
    let told = c.in-Wait.ensures.told ∙ ap (trial_on c.loop-oper.set (adj_in c.loop-oper.row)) c.from_ref.ensures.value in
    waits c.loop-oper.set c.loop-oper.row c.args.set.now adj (take i ops) o c.loop-oper.invariant.met (drop (i + 1) ops) _ told
    ∙ sym (ap (refused_from c.args.set.now adj (take i ops)) (drop_more ops i no_oper c.loop-oper-test.true))
    ∙ c.loop-oper.invariant.told

pub returns-in-Wait-clause-rule : goal.returns-in-Wait-clause-rule
returns-in-Wait-clause-rule c =
    ap (λ (s : Option Stopped). option_map (λ t. t.rule) s) (returns-in-Wait-clause-stop c) ∙ same-rule 0 c.args.set.now (adj_in c.args.row.now) [] c.args.ops.now

pub returns-in-Refuse-clause-stop : goal.returns-in-Refuse-clause-stop
returns-in-Refuse-clause-stop c =
    let ops = c.args.ops.now in
    let i = c.loop-oper.oper-index in
    let o : SemOper = get_or ops i no_oper in
    let adj = adj_in c.args.row.now in
    let told = c.in-Refuse.ensures.told ∙ ap (trial_on c.loop-oper.set (adj_in c.loop-oper.row)) c.from_ref.ensures.value in
    refuses c.loop-oper.set c.loop-oper.row c.args.set.now adj (take i ops) o c.loop-oper.invariant.met (drop (i + 1) ops) _ _ told (c.refusal_at.ensures ∙ (λ k. record { oper = o; value = pos (value_of (c.trial.ensures.same k) o.num); adj = adj_in c.loop-oper.row o.num; rule = c.in-Refuse.rule }))
    ∙ sym (ap (refused_from c.args.set.now adj (take i ops)) (drop_more ops i no_oper c.loop-oper-test.true))
    ∙ c.loop-oper.invariant.told

pub returns-in-Refuse-clause-rule : goal.returns-in-Refuse-clause-rule
returns-in-Refuse-clause-rule c =
    ap (λ (s : Option Stopped). option_map (λ t. t.rule) s) (returns-in-Refuse-clause-stop c) ∙ same-rule 0 c.args.set.now (adj_in c.args.row.now) [] c.args.ops.now

pub loop-oper-preserved : goal.loop-oper-preserved
loop-oper-preserved c =
    let ops = c.args.ops.now in
    let i = c.loop-oper.oper-index in
    let o : SemOper = get_or ops i no_oper in
    let adj = adj_in c.args.row.now in
    let cur = c.loop-oper.set in
    let row = c.loop-oper.row in
    let met = c.loop-oper.invariant.met in
    let told = c.in-Go.ensures.told ∙ ap (trial_on cur (adj_in row)) c.from_ref.ensures.value in
    let within : o.num < length cur = subst (λ (n : ℕ). o.num < n) (sym c.loop-oper.invariant.len) (num_in c.args.set.now ops i c.requires.numbers c.loop-oper-test.true) in
    let set2 : c.commit.new.self ≡ committed (o ∷ []) 0 cur = c.commit.ensures ∙ (λ k. committed (c.from_ref-in-Go.ensures.value k) 0 (c.trial.ensures.same k)) in
    let more = take_more ops i no_oper c.loop-oper-test.true in
    record {
      len = same-len cur row c.args.set.now adj (take i ops) o met c.commit.new.self c.lower.new.row within (sym told) set2 c.lower.ensures.adj ∙ c.loop-oper.invariant.len;
      row = c.lower.ensures.len ∙ c.loop-oper.invariant.row;
      met = subst (λ (os : List SemOper). AreMet c.commit.new.self c.lower.new.row c.args.set.now adj os) (sym more) (done cur row c.args.set.now adj (take i ops) o met c.commit.new.self c.lower.new.row within (sym told) set2 c.lower.ensures.adj);
      told = ap (λ (os : List SemOper). refused_from c.args.set.now adj os (drop (i + 1) ops)) more
          ∙ gone cur row c.args.set.now adj (take i ops) o met (drop (i + 1) ops) told
          ∙ sym (ap (refused_from c.args.set.now adj (take i ops)) (drop_more ops i no_oper c.loop-oper-test.true))
          ∙ c.loop-oper.invariant.told;
    }

pub returns-clause-rule : goal.returns-clause-rule
returns-clause-rule c =
    let ops = c.args.ops.now in
    let i = c.loop-oper.oper-index in
    let past = c.loop-oper-test.false in
    let stop : None ≡ refused_from c.args.set.now (adj_in c.args.row.now) [] ops = sym (ap (refused_from c.args.set.now (adj_in c.args.row.now) (take i ops)) (drop_all i ops (omega (arith, past)))) ∙ c.loop-oper.invariant.told in
    ap (λ (s : Option Stopped). option_map (λ t. t.rule) s) stop ∙ same-rule 0 c.args.set.now (adj_in c.args.row.now) [] c.args.ops.now
