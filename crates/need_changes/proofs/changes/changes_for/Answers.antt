use Rattle.std.proofs.lemmas.Result.{IfOk-weaker}
use Rattle.need_changes.proofs.ChangeLemmas.{all_changes, found_none, found_some, some_change}
use Rattle.need_changes.proofs.changes.changes_for.Goals as goal

pub returns-in-Some-clause-exact : goal.returns-in-Some-clause-exact
returns-in-Some-clause-exact c =
    IfOk-weaker c.granting.result _ _ (λ found h. found_some c.args.creds.now c.args.perm.now c.args.want c.widened.result c.in-Some.less c.args.less found.items c.widened.ensures c.in-Some.is h) c.granting.ensures

pub returns-in-Some-clause-granting : goal.returns-in-Some-clause-granting
returns-in-Some-clause-granting c =
    IfOk-weaker c.granting.result _ _ (λ found h. all_changes c.args.creds.now c.args.perm.now c.args.want c.args.less found.items h) (returns-in-Some-clause-exact c)

pub returns-in-Some-clause-some : goal.returns-in-Some-clause-some
returns-in-Some-clause-some c =
    IfOk-weaker c.granting.result _ _ (λ found h. some_change c.args.creds.now c.args.perm.now c.args.want c.args.less found.items h) (returns-in-Some-clause-exact c)

pub returns-in-None-clause-granting : goal.returns-in-None-clause-granting
returns-in-None-clause-granting c =
    IfOk-weaker c.granting-in-None.result _ _ (λ found h. all_changes c.args.creds.now c.args.perm.now c.args.want c.args.less found.items (found_none c.args.creds.now c.args.perm.now c.args.want c.widened.result c.args.less found.items c.widened.ensures c.in-None.is h)) c.granting-in-None.ensures

pub returns-in-None-clause-some : goal.returns-in-None-clause-some
returns-in-None-clause-some c =
    IfOk-weaker c.granting-in-None.result _ _ (λ found h. some_change c.args.creds.now c.args.perm.now c.args.want c.args.less found.items (found_none c.args.creds.now c.args.perm.now c.args.want c.widened.result c.args.less found.items c.widened.ensures c.in-None.is h)) c.granting-in-None.ensures
