-- What the workers' clients did, as the history at the end has it.
use Rattle.std.proofs.Common.{◌≡◌, ℕ, suc, ◌+◌, ◌<◌, Bool, cond, List, [], ◌∷◌, map, length, refl, sym, ap, ◌∙◌, subst, arith, IfSome, IfOk, Result, Ok, Err, All}
use Rattle.std.specs.Global.{Vec}
use Rattle.std.specs.Prelude.{count_by, slice_index_or}
use Rattle.std.specs.List.{slice_get, zip}
use Rattle.std.proofs.lemmas.List.Elements.{All-cons, All-head, All-nil, All-tail}
use Rattle.ipc_call.specs.declared.calls.Call.{Call}
use Rattle.ipc_call.specs.declared.replies.Reply.{Reply}
use Rattle.ipc_history.specs.History.{History}
use Rattle.ipc_history.specs.History as model
use Rattle.pub_list.specs.Clients.{work}
use Rattle.ipc_combiner.specs.declared.closing.Client.{Client}
use Rattle.ipc_combiner.specs.declared.entries.Keeping.TheVariants.{Whole}
use Rattle.ipc_combiner.specs.declared.states.Unjoined.{Unjoined}
use Rattle.ipc_combiner.specs.Closing.{IsClientOf, IsTold}
use Rattle.ipc_combiner.specs.Entries.{entries_of}
use Rattle.ipc_combiner.specs.Entries as entries
use Rattle.ipc_combiner.specs.Laws.{history-entries}
use Rattle.ipc_combiner.specs.States.{IsUnjoinedOf, Records}
use Rattle.ipc_commands.specs.declared.jobs.Job.{Job}
use Rattle.ipc_jobs.specs.declared.working.Ended.{Ended}
use Rattle.ipc_jobs.specs.declared.working.Worker.{Worker}
use Rattle.ipc_jobs.specs.Courses.{AreCourses, Course, IsCourse, failures_of, is_held}
use Rattle.ipc_jobs.specs.Working.{AreEnds, IsEndOf, client_of, worker_of}
use Rattle.ipc_jobs.proofs.Counted.{count-cons}

-- of two things that are known of an answer a third follows
pub both : {X Y : Type 0} (r : Result X Y) (A B C : X → Type 0) → IfOk r A → IfOk r B → ((x : X) → A x → B x → C x) → IfOk r C
both (Ok x) A B C a b f = f x a b
both (Err y) A B C a b f = tt

course_at : (may_hold was_told : ℕ → ℕ → Type 0) (n k : ℕ) (jobs : List Job) (calls own : List (ℕ × Call)) (got replies : List Reply) (c : Course)
    → n ≡ k → own ≡ calls → replies ≡ got → IsCourse may_hold was_told n jobs calls got c → IsCourse may_hold was_told k jobs own replies c
course_at may_hold was_told n k jobs calls own got replies c same own_is got_is is = record {
  all = is.all;
  made = is.made;
  calls = own_is ∙ is.calls;
  answers = got_is ∙ is.answers;
  told = λ j least most. subst (λ x. was_told x j) same (is.told j least most);
  held = λ yes. subst (λ x. may_hold x (length c.done + 1)) same (is.held yes);
}

-- the clients are numbered from k on
abbrev pub AreNumbered : ℕ → List Unjoined → Type 0
AreNumbered k us = (j : ℕ) → IfSome (slice_get us j) (λ u. u.fresh.client ≡ k + j)

numbered_on : (k : ℕ) (u : Unjoined) (us : List Unjoined) → AreNumbered k (u ∷ us) → AreNumbered (k + 1) us
numbered_on k u us are = λ j. subst (λ n. IfSome (slice_get us j) (λ x. x.fresh.client ≡ n)) (omega arith) (are (suc j))

module _ (may_hold was_told : ℕ → ℕ → Type 0) (h : History) (list : Records) (all : List Client) where
  abbrev pub IsGone : ℕ → List (Vec Job) → List Ended → Type 0
  IsGone k js es = (cs : List Course) × AreCourses may_hold was_told h k (map (λ own. own.items) js) cs × (count_by (λ e. e.held) es ≡ count_by is_held cs)
      × (map (λ e. e.caller.memory) es ≡ map failures_of cs)

  pub gone : (k : ℕ) (us : List Unjoined) (js : List (Vec Job)) (es : List Ended) → length us ≡ length js → AreEnds may_hold was_told list (map worker_of (zip us js)) es
      → AreNumbered k us → All (λ c. IsTold (entries_of Whole h) all c) (map client_of es) → IsGone k js es
  gone k [] [] [] alike ends are told = ([], tt, refl, refl)
  gone k [] [] (e ∷ es) alike ends are told = absurd ends
  gone k [] (j ∷ js) es alike ends are told = absurd (omega (arith, alike))
  gone k (u ∷ us) [] es alike ends are told = absurd (omega (arith, alike))
  gone k (u ∷ us) (j ∷ js) [] alike ends are told = absurd ends
  gone k (u ∷ us) (j ∷ js) (e ∷ es) alike ends are told =
      let end = ends.0 in
      let rest = gone (k + 1) us js es (omega (arith, alike)) ends.1 (numbered_on k u us are) (All-tail (λ c. IsTold (entries_of Whole h) all c) (client_of e) (map client_of es) told) in
      let kept = (All-head (λ c. IsTold (entries_of Whole h) all c) (client_of e) (map client_of es) told).kept in
      let first : u.fresh.client ≡ k = (let zeroth = are 0 in omega (arith, zeroth)) in
      let same : e.caller.idle.joined.client ≡ k = end.1 ∙ first in
      let own = ap (λ (z : History). model.own z k) (sym (history-entries Whole h)) ∙ ap (λ r. entries.own (entries_of Whole h) r) (sym same) ∙ kept.0 in
      let got = ap (λ (z : History). model.replies z k) (sym (history-entries Whole h)) ∙ ap (λ r. entries.replies (entries_of Whole h) r) (sym same) ∙ kept.1 in
      let c = end.2 in
      let held = ap {B = ℕ} (λ (b : Bool). cond b 1 0) end.5 in
      let ends_count = count-cons (λ (x : Ended). x.held) e es in
      let courses_count = count-cons is_held c rest.0 in
      let others = rest.2 in (
        c ∷ rest.0,
        (course_at may_hold was_told u.fresh.client k j.items (work e.caller.idle.joined).entered (model.own h k) (work e.caller.idle.joined).got (model.replies h k) c first own got end.3, rest.1),
        omega (arith, held, ends_count, courses_count, others),
        (λ i. end.6 i ∷ rest.3 i),
      )

-- what each did by its place, all of it
pub all_ends : (may_hold was_told : ℕ → ℕ → Type 0) (list : Records) (ws : List Worker) (es : List Ended) → length es ≡ length ws
    → ((k : ℕ) (w : Worker) (e : Ended) → k < length ws → IsEndOf may_hold was_told list (slice_index_or ws k w) (slice_index_or es k e)) → AreEnds may_hold was_told list ws es
all_ends may_hold was_told list [] [] alike each = tt
all_ends may_hold was_told list [] (e ∷ es) alike each = absurd (omega (arith, alike))
all_ends may_hold was_told list (w ∷ ws) [] alike each = absurd (omega (arith, alike))
all_ends may_hold was_told list (w ∷ ws) (e ∷ es) alike each = (each 0 w e (omega arith), all_ends may_hold was_told list ws es (omega (arith, alike)) (λ k x y lt. each (suc k) x y (omega (arith, lt))))

-- each client with its jobs
pub worker_count : (us : List Unjoined) (js : List (Vec Job)) → length us ≡ length js → length (map worker_of (zip us js)) ≡ length us
worker_count [] [] alike = refl
worker_count [] (j ∷ js) alike = absurd (omega (arith, alike))
worker_count (u ∷ us) [] alike = absurd (omega (arith, alike))
worker_count (u ∷ us) (j ∷ js) alike = let rest = worker_count us js (omega (arith, alike)) in omega (arith, rest)

pub none_joined : (list : Records) (us : List Unjoined) (js : List (Vec Job)) → length us ≡ length js → All (λ u. IsUnjoinedOf list u.fresh) us
    → All (λ w. IsUnjoinedOf list w.client.fresh) (map worker_of (zip us js))
none_joined list [] [] alike all = All-nil (λ (w : Worker). IsUnjoinedOf list w.client.fresh)
none_joined list [] (j ∷ js) alike all = absurd (omega (arith, alike))
none_joined list (u ∷ us) [] alike all = absurd (omega (arith, alike))
none_joined list (u ∷ us) (j ∷ js) alike all = All-cons (λ (w : Worker). IsUnjoinedOf list w.client.fresh) (worker_of (u, j)) (map worker_of (zip us js)) (All-head (λ (x : Unjoined). IsUnjoinedOf list x.fresh) u us all)
    (none_joined list us js (omega (arith, alike)) (All-tail (λ (x : Unjoined). IsUnjoinedOf list x.fresh) u us all))

pub end_count : (may_hold was_told : ℕ → ℕ → Type 0) (list : Records) (ws : List Worker) (es : List Ended) → AreEnds may_hold was_told list ws es → length es ≡ length ws
end_count may_hold was_told list [] [] ends = refl
end_count may_hold was_told list [] (e ∷ es) ends = absurd ends
end_count may_hold was_told list (w ∷ ws) [] ends = absurd ends
end_count may_hold was_told list (w ∷ ws) (e ∷ es) ends = let rest = end_count may_hold was_told list ws es ends.1 in omega (arith, rest)

pub are_clients : (may_hold was_told : ℕ → ℕ → Type 0) (list : Records) (ws : List Worker) (es : List Ended) → AreEnds may_hold was_told list ws es → All (λ c. IsClientOf list c) (map client_of es)
are_clients may_hold was_told list [] [] ends = All-nil (λ c. IsClientOf list c)
are_clients may_hold was_told list [] (e ∷ es) ends = absurd ends
are_clients may_hold was_told list (w ∷ ws) [] ends = absurd ends
are_clients may_hold was_told list (w ∷ ws) (e ∷ es) ends = All-cons (λ c. IsClientOf list c) (client_of e) (map client_of es) ends.0.0 (are_clients may_hold was_told list ws es ends.1)

pub numbered : (us : List Unjoined) → ((j : ℕ) → IfSome (slice_get us j) (λ u. u.fresh.client ≡ j)) → AreNumbered 0 us
numbered us are = λ j. subst (λ n. IfSome (slice_get us j) (λ u. u.fresh.client ≡ n)) (omega arith) (are j)
