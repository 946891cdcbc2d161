-- One call after another.
use Rattle.std.proofs.Common.{◌≡◌, ℕ, ◌+◌, ◌-◌, ◌^◌, ◌<◌, ◌≤◌, cond, List, [], ◌∷◌, ◌++◌, map, length, refl, sym, ap, ◌∙◌, subst, arith, append-nil, append_assoc, length-append, Option, Some, None, ⊎_elim}
use Rattle.std.proofs.Math.Nat.{min-eq_left, min-eq_right}
use Rattle.std.proofs.lemmas.Bool.{cases_lt}
use Rattle.std.proofs.lemmas.List.Sums.{sum_by-append}
use Rattle.std.proofs.lemmas.List.{map-append}
use Rattle.std.proofs.lemmas.List.Concat.{flat_map-append}
use Rattle.ipc_call.specs.declared.calls.Call.{Call}
use Rattle.ipc_call.specs.declared.calls.Call.TheVariants.{IpcRmid}
use Rattle.ipc_call.specs.declared.calls.Kind.{Kind}
use Rattle.ipc_call.specs.declared.replies.Reply.{Reply}
use Rattle.ipc_call.specs.declared.replies.Reply.TheVariants.{Entered, Memory}
use Rattle.ipc_commands.specs.declared.parts.Part.{Part}
use Rattle.ipc_commands.specs.declared.parts.Part.TheVariants.{Plain, RemoveByKey}
use Rattle.ipc_commands.specs.Removals.{get_of, id_in}
use Rattle.pub_rule.specs.WorkSteps.{asking}
use Rattle.ipc_combiner.specs.Asking.{HasCalled}
use Rattle.ipc_commands.specs.declared.jobs.Job.{Job}
use Rattle.ipc_jobs.specs.Calls.{AreCallsOf, Replied, Timed, calls_in, capped, counted_with, entered, failures, has_failed, parts_in, removal, replies_in, rest_of, timed}
use Rattle.ipc_jobs.specs.Working.{HasAsked, HasDone, HasMade, Known}

pub none_left : {X : Type 0} (xs : List X) → length xs ≡ 0 → xs ≡ []
none_left [] none = refl
none_left (x ∷ xs) none = absurd (omega (arith, none))

pub calls_on : (cs ds : List Replied) (ps qs : List Timed) → AreCallsOf cs ps → AreCallsOf ds qs → AreCallsOf (cs ++ ds) (ps ++ qs)
calls_on [] ds ps qs a b = subst (λ (x : List Timed). AreCallsOf ds (x ++ qs)) (sym a) b
calls_on (c ∷ cs) ds [] qs a b = absurd a
calls_on (c ∷ cs) ds (p ∷ ps) qs a b = (a.0, subst (λ (x : List Timed). AreCallsOf (cs ++ ds) x) (append_assoc (rest_of p c.1) ps qs) (calls_on cs ds (rest_of p c.1 ++ ps) qs a.1 b))

entered-append : (cs ds : List Replied) → entered (cs ++ ds) ≡ entered cs ++ entered ds
entered-append [] ds = refl
entered-append ((call, Entered place turn outcome) ∷ cs) ds = ap (λ l. (call, Entered place turn outcome) ∷ l) (entered-append cs ds)
entered-append ((call, Memory) ∷ cs) ds = entered-append cs ds

pub calls-append : (cs ds : List Replied) → calls_in (cs ++ ds) ≡ calls_in cs ++ calls_in ds
calls-append cs ds = ap (map (λ (c : Replied). c.0)) (entered-append cs ds) ∙ map-append (λ (c : Replied). c.0) (entered cs) (entered ds)

pub replies-append : (cs ds : List Replied) → replies_in (cs ++ ds) ≡ replies_in cs ++ replies_in ds
replies-append cs ds = ap (map (λ (c : Replied). c.1)) (entered-append cs ds) ∙ map-append (λ (c : Replied). c.1) (entered cs) (entered ds)

pub failures-append : (cs ds : List Replied) → failures (cs ++ ds) ≡ failures cs + failures ds
failures-append cs ds = sum_by-append (λ (c : Replied). cond (has_failed c.1) 1 0) cs ds

-- one more is counted
capped_more : (n : ℕ) → capped (capped n + 1) ≡ capped (n + 1)
capped_more n =
    let most = 2 ^ 64 - 1 in
    ⊎_elim
    (λ (less : n < most). let here : capped n ≡ n = min-eq_left (omega arith) in ap (λ x. capped (x + 1)) here)
    (λ (more : most ≤ n). let here : capped n ≡ most = min-eq_right more in
    ap (λ x. capped (x + 1)) here ∙ min-eq_right {n = most} {m = most + 1} (omega arith) ∙ sym (min-eq_right {n = most} {m = n + 1} (omega arith)))
    (cases_lt n most)

pub made_none : (v : Known) (m : ℕ) → HasMade [] v v m m
made_none v m = record {
  posts = omega arith;
  entered = sym (append-nil v.entered);
  got = sym (append-nil v.got);
  counted = λ before is. is ∙ ap capped (let none : failures [] ≡ 0 = refl in omega (arith, none));
}

pub made_more : (cs ds : List Replied) (v u w : Known) (m k n : ℕ) → HasMade cs v u m k → HasMade ds u w k n → HasMade (cs ++ ds) v w m n
made_more cs ds v u w m k n a b = record {
  posts = let first = a.posts in let second = b.posts in let all = length-append cs ds in omega (arith, first, second, all);
  entered = b.entered ∙ ap (λ l. l ++ calls_in ds) a.entered ∙ append_assoc v.entered (calls_in cs) (calls_in ds) ∙ ap (λ l. v.entered ++ l) (sym (calls-append cs ds));
  got = b.got ∙ ap (λ l. l ++ replies_in ds) a.got ∙ append_assoc v.got (replies_in cs) (replies_in ds) ∙ ap (λ l. v.got ++ l) (sym (replies-append cs ds));
  counted = λ before is. b.counted (before + failures cs) (a.counted before is) ∙ ap capped (let both = failures-append cs ds in omega (arith, both));
}

-- a call that ended
pub made_one : (client now : ℕ) (call : Call) (v w : Known) (reply : Reply) (m n : ℕ) → HasCalled client (asking client (now, call) v) w reply → n ≡ counted_with m reply → HasMade (((now, call), reply) ∷ []) v w m n
made_one client now call v w (Entered place turn outcome) m n (u, further, (c, h, stage, goes, law, calls, got, is)) counts =
    let same : c ≡ (now, call) = (let asks = further.stage in cc) in record {
      posts = let all = ap (λ (x : Known). x.posts) is in let one = further.posts in omega (arith, all, one);
      entered = ap (λ (x : Known). x.entered) is ∙ ap (λ l. l ++ c ∷ []) further.entered ∙ ap (λ x. v.entered ++ x ∷ []) same;
      got = ap (λ (x : Known). x.got) is ∙ ap (λ l. l ++ Entered place turn outcome ∷ []) further.got;
      counted = λ before was. counts ∙ was ∙ ap capped (let none : failures (((now, call), Entered place turn outcome) ∷ []) ≡ 0 = refl in omega (arith, none));
    }
made_one client now call v w Memory m n (u, further, (h, goes, law, calls, got, is)) counts = record {
  posts = let all = ap (λ (x : Known). x.posts) is in let one = further.posts in omega (arith, all, one);
  entered = ap (λ (x : Known). x.entered) is ∙ further.entered ∙ sym (append-nil v.entered);
  got = ap (λ (x : Known). x.got) is ∙ further.got ∙ sym (append-nil v.got);
  counted = λ before was. counts ∙ ap (λ x. capped (x + 1)) was ∙ capped_more before ∙ ap capped (let one : failures (((now, call), Memory) ∷ []) ≡ 1 = refl in omega (arith, one));
}

pub asked : (client now : ℕ) (call : Call) (id : Option ℕ) (v w : Known) (reply : Reply) (m n : ℕ) → id ≡ id_in reply → HasCalled client (asking client (now, call) v) w reply → n ≡ counted_with m reply → HasAsked (now, call) id v w m n
asked client now call id v w reply m n is called counts = (reply, is, made_one client now call v w reply m n called counts)

-- a part that is one call
pub done_plain : (now : ℕ) (part : Part) (call : Call) (id : Option ℕ) (v w : Known) (m n : ℕ) → part ≡ Plain call → HasAsked (now, call) id v w m n → HasDone ((now, part) ∷ []) v w m n
done_plain now part call id v w m n is a =
    subst (λ (p : Part). HasDone ((now, p) ∷ []) v w m n) (sym is) (((now, call), a.0) ∷ [], (refl, refl), a.2)

-- a removal by key, of an object that wasn't found, and of one that was
pub done_get : (now key : ℕ) (part : Part) (kind : Kind) (call : Call) (v w : Known) (m n : ℕ) → part ≡ RemoveByKey kind key → call ≡ get_of kind key → HasAsked (now, call) None v w m n → HasDone ((now, part) ∷ []) v w m n
done_get now key part kind call v w m n is gets a =
    subst (λ (p : Part). HasDone ((now, p) ∷ []) v w m n) (sym is) (((now, call), a.0) ∷ [], (ap (λ x. (now, x)) gets, ap (λ (o : Option ℕ). map (λ (p : Part). (now, p)) (removal kind o) ++ []) (sym a.1)), a.2)

pub done_removal : (now key id : ℕ) (part : Part) (kind : Kind) (call : Call) (last : Option ℕ) (v u w : Known) (m k n : ℕ) → part ≡ RemoveByKey kind key → call ≡ get_of kind key
    → HasAsked (now, call) (Some id) v u m k → HasAsked (now, IpcRmid kind id) last u w k n → HasDone ((now, part) ∷ []) v w m n
done_removal now key id part kind call last v u w m k n is gets a b =
    let get : Replied = ((now, call), a.0) in
    let gone : Replied = ((now, IpcRmid kind id), b.0) in
    let rest : AreCallsOf (gone ∷ []) ((now, Plain (IpcRmid kind id)) ∷ []) = (refl, refl) in
    subst (λ (p : Part). HasDone ((now, p) ∷ []) v w m n) (sym is) (
      get ∷ gone ∷ [],
      (ap (λ x. (now, x)) gets, subst (λ (o : Option ℕ). AreCallsOf (gone ∷ []) (map (λ (p : Part). (now, p)) (removal kind o) ++ [])) a.1 rest),
      made_more (get ∷ []) (gone ∷ []) v u w m k n a.2 b.2,
    )

-- a job's parts, one after another: what was done goes on to all of them
pub done_more : (now : ℕ) (part : Part) (rest : List Part) (all : List Timed) (cs ds : List Replied)
    → ((more : List Replied) → AreCallsOf more (map (λ p. (now, p)) (part ∷ rest)) → AreCallsOf (cs ++ more) all) → AreCallsOf ds ((now, part) ∷ [])
    → (more : List Replied) → AreCallsOf more (map (λ p. (now, p)) rest) → AreCallsOf ((cs ++ ds) ++ more) all
done_more now part rest all cs ds before one more are =
    subst (λ (l : List Replied). AreCallsOf l all) (sym (append_assoc cs ds more)) (before (ds ++ more) (calls_on ds more ((now, part) ∷ []) (map (λ p. (now, p)) rest) one are))

-- one more job
parts_more : (done : List Job) (job : Job) → parts_in (done ++ job ∷ []) ≡ parts_in done ++ timed job
parts_more done job = flat_map-append timed done (job ∷ []) ∙ ap (λ l. parts_in done ++ l) (append-nil (timed job))

pub jobs_more : (done : List Job) (job : Job) (cs ds : List Replied) → AreCallsOf cs (parts_in done) → AreCallsOf ds (timed job) → AreCallsOf (cs ++ ds) (parts_in (done ++ job ∷ []))
jobs_more done job cs ds a b = subst (λ (l : List Timed). AreCallsOf (cs ++ ds) l) (sym (parts_more done job)) (calls_on cs ds (parts_in done) (timed job) a b)
