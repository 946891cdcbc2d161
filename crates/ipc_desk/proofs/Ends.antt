-- Of a call that waited the reply is a refusal, or the answer of a msgsnd, a semop or a msgrcv.
use Rattle.std.proofs.Common.{◌≡◌, ℕ, ◌+◌, Bool, true, false, cond, List, [], ◌∷◌, ◌++◌, map, length, refl, sym, ap, ◌∙◌, subst, arith, Option, Some, None, Ok, Err, ⊎_elim, All}
use Rattle.std.specs.Prelude.{◌==◌, ◌&&◌, ◌||◌, filter}
use Rattle.std.specs.List.{list_all, list_any, AllByRecursion}
use Rattle.std.proofs.lemmas.Bool.{and_parts, cases_Bool, true≢false}
use Rattle.std.proofs.lemmas.List.Elements.{All-tail}
use Rattle.ipc_call.specs.declared.calls.Call.{Call}
use Rattle.ipc_call.specs.declared.calls.Call.TheVariants.{MsgGet, MsgSnd, MsgRcv, SemGet, SemOp, SemTimedOp, GetVal, GetPid, GetNcnt, GetZcnt, GetAll, SetVal, SetAll, ShmGet, ShmAt, ShmDt, ShmRead, ShmWrite, Exit, IpcStat, IpcSet, IpcRmid, Listing, Interrupt, InterruptThread, Kill, SetCreds, Assume, Begin, Fork, Clone, Name, Exec}
use Rattle.ipc_call.specs.declared.replies.Answer.{Answer}
use Rattle.ipc_call.specs.declared.replies.Answer.TheVariants.{Id, Done, Message, Status as StatusAnswer, Value, Values, Attached, Bytes, Rows}
use Rattle.ipc_call.specs.declared.replies.Completion.{Completion}
use Rattle.ipc_call.specs.declared.replies.Reply.{Reply}
use Rattle.ipc_call.specs.declared.replies.Reply.TheVariants.{Entered}
use Rattle.ipc_call.specs.declared.replies.Waiting.{Waiting}
use Rattle.ipc_model.specs.Decide.{can_wait}
use Rattle.ipc_model.specs.Decision.{Outcome}
use Rattle.ipc_model.specs.State.{State}
use Rattle.ipc_model.specs.Step.{Event, is_ready}
use Rattle.ipc_model.proofs.Calls.{only_parkable}
use Rattle.ipc_history.specs.History.{History, next_step, replies_to_ended, run}
use Rattle.ipc_history.specs.Waits.{AreNotReady}
use Rattle.ipc_space.specs.Answers.{can_end, can_give, is_end_of}
use Rattle.ipc_space.specs.Spaces.{other_replies}
use Rattle.ipc_space.specs.Telling.{replies_in}
use Rattle.ipc_space.proofs.Answering.{others_end}
use Rattle.ipc_space.proofs.Permitted.{run_not_ready}
use Rattle.ipc_desk.specs.Answered.{is_done, is_message}
use Rattle.ipc_desk.specs.Kept.{is_of_waiting}

module _ (place turn : ℕ) where
  abbrev IsWaited : Outcome → Type 0
  IsWaited o = is_of_waiting (Entered place turn o) ≡ true

  done : (answer : Answer) → is_done answer ≡ true → IsWaited (Ok answer)
  done (Id n) is = absurd (true≢false (sym is))
  done Done is = refl
  done (Message mtype text) is = refl
  done (StatusAnswer status) is = absurd (true≢false (sym is))
  done (Value value) is = absurd (true≢false (sym is))
  done (Values values) is = absurd (true≢false (sym is))
  done (Attached number) is = absurd (true≢false (sym is))
  done (Bytes bytes) is = absurd (true≢false (sym is))
  done (Rows rows) is = absurd (true≢false (sym is))

  message : (answer : Answer) → is_message answer ≡ true → IsWaited (Ok answer)
  message (Id n) is = absurd (true≢false (sym is))
  message Done is = refl
  message (Message mtype text) is = refl
  message (StatusAnswer status) is = absurd (true≢false (sym is))
  message (Value value) is = absurd (true≢false (sym is))
  message (Values values) is = absurd (true≢false (sym is))
  message (Attached number) is = absurd (true≢false (sym is))
  message (Bytes bytes) is = absurd (true≢false (sym is))
  message (Rows rows) is = absurd (true≢false (sym is))

  -- each call that can wait
  granted : (call : Call) (answer : Answer) → can_wait call ≡ true → can_give call answer ≡ true → IsWaited (Ok answer)
  granted (MsgSnd id mtype text flags) answer can gives = done answer gives
  granted (MsgRcv id size msgtyp flags) answer can gives = message answer gives
  granted (SemOp id ops) answer can gives = done answer gives
  granted (SemTimedOp id ops timeout) answer can gives = done answer gives
  granted (MsgGet key flags) answer can gives = absurd (true≢false (sym can))
  granted (SemGet key nsems flags) answer can gives = absurd (true≢false (sym can))
  granted (GetVal id num) answer can gives = absurd (true≢false (sym can))
  granted (GetPid id num) answer can gives = absurd (true≢false (sym can))
  granted (GetNcnt id num) answer can gives = absurd (true≢false (sym can))
  granted (GetZcnt id num) answer can gives = absurd (true≢false (sym can))
  granted (GetAll id) answer can gives = absurd (true≢false (sym can))
  granted (SetVal id num value) answer can gives = absurd (true≢false (sym can))
  granted (SetAll id values) answer can gives = absurd (true≢false (sym can))
  granted (ShmGet key size flags) answer can gives = absurd (true≢false (sym can))
  granted (ShmAt id flags) answer can gives = absurd (true≢false (sym can))
  granted (ShmDt att) answer can gives = absurd (true≢false (sym can))
  granted (ShmRead att offset len) answer can gives = absurd (true≢false (sym can))
  granted (ShmWrite att offset bytes) answer can gives = absurd (true≢false (sym can))
  granted (IpcStat kind id) answer can gives = absurd (true≢false (sym can))
  granted (IpcSet kind id uid gid mode qbytes) answer can gives = absurd (true≢false (sym can))
  granted (IpcRmid kind id) answer can gives = absurd (true≢false (sym can))
  granted (Listing kind) answer can gives = absurd (true≢false (sym can))
  granted (Interrupt pid) answer can gives = absurd (true≢false (sym can))
  granted (InterruptThread target) answer can gives = absurd (true≢false (sym can))
  granted (Kill pid) answer can gives = absurd (true≢false (sym can))
  granted (SetCreds euid egid groups) answer can gives = absurd (true≢false (sym can))
  granted (Assume creds) answer can gives = absurd (true≢false (sym can))
  granted (Begin pid creds) answer can gives = absurd (true≢false (sym can))
  granted (Fork child pid) answer can gives = absurd (true≢false (sym can))
  granted (Clone child) answer can gives = absurd (true≢false (sym can))
  granted (Name pid) answer can gives = absurd (true≢false (sym can))
  granted Exec answer can gives = absurd (true≢false (sym can))
  granted Exit answer can gives = absurd (true≢false (sym can))

  ended : (call : Call) (o : Outcome) → can_wait call ≡ true → can_end call o ≡ true → IsWaited o
  ended call (Ok answer) can gives = granted call answer can gives
  ended call (Err rule) can gives = refl

  -- the end of one of these calls that wait
  one_ended : (c : Completion) (ws : List Waiting) → AllByRecursion (λ w. can_wait w.call ≡ true) ws → is_end_of ws c ≡ true → IsWaited c.outcome
  one_ended c [] wait is = absurd (true≢false (sym is))
  one_ended c (w ∷ ws) wait is = ⊎_elim
      (λ (this : (w.client == c.client && can_end w.call c.outcome) ≡ true). ended w.call c.outcome wait.0 (and_parts (w.client == c.client) (can_end w.call c.outcome) this).1)
      (λ (other : (w.client == c.client && can_end w.call c.outcome) ≡ false). one_ended c ws wait.1 (ap (λ b. b || list_any (λ v. v.client == c.client && can_end v.call c.outcome) ws) (sym other) ∙ is))
      (cases_Bool (w.client == c.client && can_end w.call c.outcome))

-- a call that waits is one that can
can_each : (s : State) (ws : List Waiting) → AllByRecursion (λ w. is_ready s w ≡ false) ws → AllByRecursion (λ w. can_wait w.call ≡ true) ws
can_each s [] waits = tt
can_each s (w ∷ ws) waits = (only_parkable s w.client w.call waits.0, can_each s ws waits.1)

-- what a client is told of them
module _ (r place : ℕ) where
  told_if : (b : Bool) (t : ℕ × Reply) (l : List (ℕ × Reply)) → is_of_waiting t.1 ≡ true → list_all is_of_waiting (map (λ (x : ℕ × Reply). x.1) l) ≡ true
      → list_all is_of_waiting (map (λ (x : ℕ × Reply). x.1) (cond b (t ∷ l) l)) ≡ true
  told_if true t l one rest = ap (λ b. b && list_all is_of_waiting (map (λ (x : ℕ × Reply). x.1) l)) one ∙ rest
  told_if false t l one rest = rest

  each_told : (ws : List Waiting) → AllByRecursion (λ w. can_wait w.call ≡ true) ws → (turn : ℕ) (es : List Completion) → All (λ c. is_end_of ws c ≡ true) es
      → list_all is_of_waiting (replies_in (map (λ t. (t.client, Entered t.place t.turn t.outcome)) (replies_to_ended place turn es)) r) ≡ true
  each_told ws wait turn [] are = refl
  each_told ws wait turn (c ∷ es) are =
      let rest = map (λ t. (t.client, Entered t.place t.turn t.outcome)) (replies_to_ended place (turn + 1) es) in
      told_if (c.client == r) (c.client, Entered place turn c.outcome) (filter (λ (x : ℕ × Reply). x.0 == r) rest) (one_ended place turn c ws wait (are 0 c (omega arith)))
      (each_told ws wait (turn + 1) es (All-tail (λ (d : Completion). is_end_of ws d ≡ true) c es are))

pub told_waited : (h : History) (e : Event) (place r : ℕ) → list_all is_of_waiting (replies_in (other_replies place (next_step h e).ended) r) ≡ true
told_waited h e place r = each_told r place (run h).parked (can_each (run h) (run h).parked (run_not_ready h)) 1 (next_step h e).ended (others_end h e)
