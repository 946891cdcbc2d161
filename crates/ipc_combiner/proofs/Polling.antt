-- What a client knows when its call has ended.
use Rattle.std.proofs.Common.{◌≡◌, ℕ, List, [], ◌∷◌, ◌++◌, map, sym, ap, ◌∙◌, subst, Ok}
use Rattle.std.specs.Prelude.{filter, ◌==◌}
use Rattle.ipc_call.specs.declared.calls.Call.{Call}
use Rattle.ipc_call.specs.declared.replies.Reply.{Reply}
use Rattle.ipc_call.specs.declared.replies.Reply.TheVariants.{Entered, Memory}
use Rattle.ipc_history.specs.History.{ReplyTo, answers, reply_of}
use Rattle.pub_rule.specs.declared.work.Work.{Work}
use Rattle.pub_rule.specs.declared.work.Stage.TheVariants.{Asking}
use Rattle.pub_rule.specs.Work.{GoesOn}
use Rattle.pub_rule.specs.WorkSteps.{with_work, answered, seeing}
use Rattle.pub_list.specs.Asking.{IsCollected}
use Rattle.pub_list.specs.declared.asking.Answer.TheVariants as answers_of
use Rattle.pub_list.proofs.Marking.{goes_further}
use Rattle.ipc_combiner.specs.declared.entries.Entry.{Entry}
use Rattle.ipc_combiner.specs.Asking.{HasDone}
use Rattle.ipc_combiner.specs.Entries.{history_in, legal, own, replies}
use Rattle.ipc_combiner.specs.Serving.{Knowledge}

-- no reply of a history is Memory
abbrev IsEntered : Reply → Type 0
IsEntered (Entered place turn outcome) = Unit {0}
IsEntered Memory = ⊥

abbrev AllEntered : List Reply → Type 0
AllEntered [] = Unit {0}
AllEntered (x ∷ xs) = IsEntered x × AllEntered xs

all-map : (ts : List ReplyTo) → AllEntered (map reply_of ts)
all-map [] = tt
all-map (t ∷ ts) = (tt, all-map ts)

all-last : (got : List Reply) (x : Reply) → AllEntered (got ++ x ∷ []) → IsEntered x
all-last [] x h = h.0
all-last (y ∷ got) x h = all-last got x h.1

entered : (es : List Entry) (client : ℕ) (got : List Reply) (x : Reply) → replies es client ≡ got ++ x ∷ [] → IsEntered x
entered es client got x is = all-last got x (subst AllEntered is (all-map (filter (λ (t : ReplyTo). t.client == client) (answers (history_in es)))))

done_of : (client : ℕ) (v w : Work Entry (ℕ × Call) Reply) (x : Reply) (c : ℕ × Call) (h : List Entry) → v.stage ≡ Asking client c → GoesOn v.seen h → legal h
    → own h client ≡ v.entered ++ c ∷ [] → replies h client ≡ v.got ++ x ∷ [] → w ≡ answered client c x h v → HasDone client v w x
done_of client v w (Entered place turn outcome) c h asks goes law calls got now = (c, h, asks, goes, law, calls, got, now)
done_of client v w Memory c h asks goes law calls got now = absurd (entered h client v.got Memory got)

module _ (client : ℕ) (v u w : Knowledge) (x : Reply) (h : List Entry) (k : ℕ) (goes : GoesOn v.work.seen h) (is : u ≡ with_work (seeing h k v.work) v) (did : IsCollected legal own replies client u w (Ok (answers_of.Reply x))) where
  goes_to : GoesOn v.work.seen did.1
  goes_to = goes_further v.work.seen u.work.seen did.1 (subst (λ (z : Knowledge). GoesOn v.work.seen z.work.seen) (sym is) goes) did.3

  now : w.work ≡ answered client did.0 x did.1 v.work
  now = ap (λ (z : Knowledge). z.work) did.7 ∙ ap (λ (z : Knowledge). answered client did.0 x did.1 z.work) is

  pub done : HasDone client v.work w.work x
  done = done_of client v.work w.work x did.0 did.1 (sym (ap (λ (z : Knowledge). z.work.stage) is) ∙ did.2) goes_to did.4
      (did.5 ∙ ap (λ (z : Knowledge). z.work.entered ++ did.0 ∷ []) is) (did.6 ∙ ap (λ (z : Knowledge). z.work.got ++ x ∷ []) is) now

  pub seen_goes : GoesOn v.work.seen w.work.seen
  seen_goes = subst (λ (z : Work Entry (ℕ × Call) Reply). GoesOn v.work.seen z.seen) (sym now) goes_to
