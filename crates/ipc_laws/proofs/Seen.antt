-- Calls of anyone: one that may wait comes out alike in sight, one that is unseen leaves the blur, and the client's own
-- call doesn't wait out of sight. A line for each call.
use Rattle.std.proofs.Common.{◌≡◌, ℕ, true, false, List, length, refl, sym, ap, ◌∙◌, Some}
use Rattle.std.specs.Prelude.{int_le, nat_le, nat_lt, pos, option_map}
use Rattle.std.proofs.lemmas.Bool.{true≢false}
use Rattle.ipc_call.specs.declared.settings.Receive.{Receive}
use Rattle.ipc_call.specs.declared.calls.Call.{Call}
use Rattle.ipc_call.specs.declared.calls.Call.TheVariants.{MsgSnd, MsgRcv, SemOp, SemTimedOp, GetVal, GetPid, GetNcnt, GetZcnt, GetAll, SetVal, SetAll, ShmRead, ShmWrite, IpcStat, Listing}
use Rattle.ipc_call.specs.declared.calls.Kind.{Kind}
use Rattle.ipc_call.specs.declared.calls.Kind.TheVariants as kinds
use Rattle.ipc_call.specs.declared.calls.SemOper.{SemOper}
use Rattle.ipc_call.specs.declared.replies.Answer.TheVariants.{Rows, Status as StatusAnswer}
use Rattle.ipc_call.specs.declared.rules.Rule.TheVariants.{BadId, BadType, Ended, NoOperations, TextTooLong, TooManyOperations}
use Rattle.ipc_creds.specs.Credentials.{Credentials}
use Rattle.ipc_perm.specs.Access.{Permission, class_of, rule_of, to_alter, to_read}
use Rattle.shm_seg.specs.declared.attachments.Attachment.{Attachment}
use Rattle.shm_seg.specs.Attachments.{attachment_at}
use Rattle.ipc_model.specs.State.{Queues, Sems, Shared, State, caller, creds_at, process_at}
use Rattle.ipc_model.specs.Decision.{proceeds}
use Rattle.ipc_model.specs.Plan.{Needs, Passes, Plan, decision}
use Rattle.ipc_model.proofs.Plans.{IfGranted}
use Rattle.ipc_model.specs.Messages.{queue_at, receive_message, send_message, Send}
use Rattle.ipc_model.specs.Semaphores.{operate, set_at, wanted_by}
use Rattle.ipc_model.specs.Controls.{status_of}
use Rattle.ipc_model.specs.Listings.{rows_to}
use Rattle.ipc_model.specs.Decide.{OnQueues, OnSems, OnShared, can_wait, decide, may_call, part_plan, plan, plan_alive, waits_at, whole}
use Rattle.ipc_model.proofs.Granting.{Grants, grants-check, grants-found, grants-grant, grants-less, grants-on}
use Rattle.ipc_laws.specs.Worlds.{blur_by, blur_queues, blur_sems, blur_shared, hides_closed, is_hidden_at, is_unseen}
use Rattle.ipc_laws.proofs.Closed.{denied-permission}
use Rattle.ipc_laws.proofs.Pairs.{Both, Goes, both-check, both-on, goes-denied, goes-found, goes-on, goes-passes}
use Rattle.ipc_laws.proofs.Queues as queues
use Rattle.ipc_laws.proofs.Segments as segments
use Rattle.ipc_laws.proofs.Sets as sets
use Rattle.ipc_laws.proofs.Sight.{IsExact, IsSame, dim, exact-queues, exact-sems}
use Rattle.ipc_laws.proofs.Tables.{hidden-at}

module _ (client : ℕ) (c : Credentials) (s : State) where
  abbrev b : State
  b = blur_by client c s

  module _ (who : ℕ) where
    abbrev d : Credentials
    d = creds_at s who

    -- a call that may wait, in sight
    visible-alive : (call : Call) → can_wait call ≡ true → is_hidden_at client c s (waits_at call) ≡ false → Both d (IsExact client c s) (plan_alive s who call) (plan_alive b who call)
    unfolding part_plan
    visible-alive (MsgSnd id mtype text flags) can seen =
        both-on (queues.IsExact client c s.queues) (IsExact client c s) (λ u. record s { queues = u }) (λ v. record b { queues = v }) (exact-queues client c s) d
        (queues.exact-send client c s.queues (caller s who) id d seen s.limits (record { message = record { mtype = mtype; text = text }; flags = flags }))
    visible-alive (MsgRcv id size msgtyp flags) can seen =
        both-on (queues.IsExact client c s.queues) (IsExact client c s) (λ u. record s { queues = u }) (λ v. record b { queues = v }) (exact-queues client c s) d
        (queues.exact-receive client c s.queues (caller s who) id d seen (record { size = size; msgtyp = msgtyp; flags = flags }))
    visible-alive (SemOp id ops) can seen =
        both-on (sets.IsExact client c s.sems) (IsExact client c s) (λ u. record s { sems = u }) (λ v. record b { sems = v }) (exact-sems client c s) d
        (sets.exact-operate client c s.sems id (caller s who) ops d seen s.limits)
    visible-alive (SemTimedOp id ops timeout) can seen =
        both-on (sets.IsExact client c s.sems) (IsExact client c s) (λ u. record s { sems = u }) (λ v. record b { sems = v }) (exact-sems client c s) d
        (sets.exact-operate client c s.sems id (caller s who) ops d seen s.limits)
    visible-alive call can seen = absurd (true≢false (sym can))

    pub visible-alike : (call : Call) → can_wait call ≡ true → is_hidden_at client c s (waits_at call) ≡ false → Both d (IsExact client c s) (plan s who call) (plan b who call)
    visible-alike call can seen = both-check (IsExact client c s) d (Passes (may_call s who call) Ended tt) (visible-alive call can seen)

    -- a call on hidden contents
    stays-queues : {p : Plan Queues} → Grants d (λ u. blur_queues client c u ≡ blur_queues client c s.queues) p → Grants d (IsSame client c s) (whole s (OnQueues p))
    stays-queues grants = grants-on (IsSame client c s) d (λ u. record s { queues = u }) (grants-less _ _ (λ u same i. record (dim client c s) { queues = same i }) d grants)

    stays-sems : {p : Plan Sems} → Grants d (λ u. blur_sems client c u ≡ blur_sems client c s.sems) p → Grants d (IsSame client c s) (whole s (OnSems p))
    stays-sems grants = grants-on (IsSame client c s) d (λ u. record s { sems = u }) (grants-less _ _ (λ u same i. record (dim client c s) { sems = same i }) d grants)

    stays-shared : {p : Plan Shared} → Grants d (λ u. blur_shared client c u ≡ blur_shared client c s.shared) p → Grants d (IsSame client c s) (whole s (OnShared p))
    stays-shared grants = grants-on (IsSame client c s) d (λ u. record s { shared = u }) (grants-less _ _ (λ u same i. record (dim client c s) { shared = same i }) d grants)

    behind-hidden : (att : ℕ) → is_hidden_at client c s (option_map (λ a. (kinds.Segment, a.segment)) (attachment_at s.shared.attached (process_at s who) att)) ≡ true
        → (of : Attachment) → attachment_at s.shared.attached (process_at s who) att ≡ Some of → segments.hid client c s.shared of.segment ≡ true
    behind-hidden att hidden of there = sym (ap (λ o. is_hidden_at client c s (option_map {U = Kind × ℕ} (λ (a : Attachment). (kinds.Segment, a.segment)) o)) there) ∙ hidden

    stays-alive : (call : Call) → is_unseen client c s who call ≡ true → Grants d (IsSame client c s) (plan_alive s who call)
    unfolding part_plan
    stays-alive (MsgSnd id mtype text flags) hidden = stays-queues (queues.same-send client c s.queues (caller s who) id d hidden s.limits (record { message = record { mtype = mtype; text = text }; flags = flags }))
    stays-alive (MsgRcv id size msgtyp flags) hidden = stays-queues (queues.same-receive client c s.queues (caller s who) id d hidden (record { size = size; msgtyp = msgtyp; flags = flags }))
    stays-alive (SemOp id ops) hidden = stays-sems (sets.same-operate client c s.sems id d hidden (caller s who) ops s.limits)
    stays-alive (SemTimedOp id ops timeout) hidden = stays-sems (sets.same-operate client c s.sems id d hidden (caller s who) ops s.limits)
    stays-alive (SetVal id num value) hidden = stays-sems (sets.same-set client c s.sems id d hidden (caller s who) num value)
    stays-alive (SetAll id values) hidden = stays-sems (sets.same-set_all client c s.sems id d hidden (caller s who) values)
    stays-alive (ShmWrite att offset bytes) hidden = stays-shared (segments.same-write client c s.shared d (caller s who) att (behind-hidden att hidden) offset bytes)
    stays-alive (GetVal id num) reads = stays-sems (sets.same-look client c s.sems id d num _)
    stays-alive (GetPid id num) reads = stays-sems (sets.same-look client c s.sems id d num _)
    stays-alive (GetNcnt id num) reads = stays-sems (sets.same-look client c s.sems id d num _)
    stays-alive (GetZcnt id num) reads = stays-sems (sets.same-look client c s.sems id d num _)
    stays-alive (GetAll id) reads = stays-sems (sets.same-all client c s.sems id d)
    stays-alive (ShmRead att offset len) reads = stays-shared (segments.same-read client c s.shared d (caller s who) att offset len)
    stays-alive (IpcStat kind id) reads = grants-found (IsSame client c s) d (status_of s kind id) BadId tt (λ told is.
        grants-check (IsSame client c s) d (Needs (Permission told.0 to_read)) (grants-grant (IsSame client c s) d (StatusAnswer told.1) s refl))
    stays-alive (Listing kind) reads = grants-grant (IsSame client c s) d (Rows (rows_to s d kind)) s refl
    stays-alive call hidden = absurd (true≢false (sym hidden))

    pub unseen-stays : (call : Call) → is_unseen client c s who call ≡ true → IfGranted (λ answer new. IsSame client c s new) (decide s who call)
    unseen-stays call unseen = (grants-check (IsSame client c s) d (Passes (may_call s who call) Ended tt) (stays-alive call unseen)).granted

    -- a call that may wait is unseen where its object is hidden
    pub unseen-waits : (call : Call) → can_wait call ≡ true → is_unseen client c s who call ≡ is_hidden_at client c s (waits_at call)
    unseen-waits (MsgSnd id mtype text flags) can = refl
    unseen-waits (MsgRcv id size msgtyp flags) can = refl
    unseen-waits (SemOp id ops) can = refl
    unseen-waits (SemTimedOp id ops timeout) can = refl
    unseen-waits call can = absurd (true≢false (sym can))

  -- the client's own call
  module _ (who : ℕ) (creds : creds_at s who ≡ c) where
    refused-queues : {p : Plan Queues} → Goes c p → Goes c (whole s (OnQueues p))
    refused-queues goes = goes-on c (λ u. record s { queues = u }) goes

    refused-sems : {p : Plan Sems} → Goes c p → Goes c (whole s (OnSems p))
    refused-sems goes = goes-on c (λ u. record s { sems = u }) goes

    refused-send : (id : ℕ) (asked : Send) → queues.hid client c s.queues id ≡ true → Goes c (send_message s.limits s.queues (caller s who) id asked)
    refused-send id asked hidden =
        goes-passes c (int_le (pos 1) asked.message.mtype) BadType tt (λ right. goes-passes c (nat_le (length asked.message.text) s.limits.msg_max) TextTooLong tt (λ short.
        goes-found c (queue_at s.queues id) BadId tt (λ o there.
        goes-denied c (Permission o.perm to_alter) (rule_of (class_of c o.perm)) (denied-permission c o.perm to_alter (sym (hidden-at (hides_closed client c) s.queues id (Some o) there) ∙ hidden) refl))))

    refused-receive : (id : ℕ) (asked : Receive) → queues.hid client c s.queues id ≡ true → Goes c (receive_message s.queues (caller s who) id asked)
    refused-receive id asked hidden =
        goes-found c (queue_at s.queues id) BadId tt (λ o there.
        goes-denied c (Permission o.perm to_read) (rule_of (class_of c o.perm)) (denied-permission c o.perm to_read (sym (hidden-at (hides_closed client c) s.queues id (Some o) there) ∙ hidden) refl))

    refused-operate : (id : ℕ) (ops : List SemOper) → sets.hid client c s.sems id ≡ true → Goes c (operate s.limits s.sems (caller s who) id ops)
    refused-operate id ops hidden =
        goes-passes c (nat_lt 0 (length ops)) NoOperations tt (λ some. goes-passes c (nat_le (length ops) s.limits.sem_opm) TooManyOperations tt (λ few.
        goes-found c (set_at s.sems id) BadId tt (λ o there.
        goes-denied c (Permission o.perm (wanted_by ops)) (rule_of (class_of c o.perm))
        (denied-permission c o.perm (wanted_by ops) (sym (hidden-at (hides_closed client c) s.sems.sets id (Some o) there) ∙ hidden) (sets.wants ops some)))))

    refused-alive : (call : Call) → is_hidden_at client c s (waits_at call) ≡ true → Goes c (plan_alive s who call)
    unfolding part_plan
    refused-alive (MsgSnd id mtype text flags) hidden = refused-queues (refused-send id (record { message = record { mtype = mtype; text = text }; flags = flags }) hidden)
    refused-alive (MsgRcv id size msgtyp flags) hidden =
        let asked : Receive = record { size = size; msgtyp = msgtyp; flags = flags } in
        refused-queues (refused-receive id asked hidden)
    refused-alive (SemOp id ops) hidden = refused-sems (refused-operate id ops hidden)
    refused-alive (SemTimedOp id ops timeout) hidden = refused-sems (refused-operate id ops hidden)
    refused-alive call hidden = absurd (true≢false (sym hidden))

    pub own-refused : (call : Call) → is_hidden_at client c s (waits_at call) ≡ true → proceeds (decide s who call) ≡ true
    own-refused call hidden =
        ap (λ e. proceeds (decision e (plan s who call))) creds ∙ (goes-passes c (may_call s who call) Ended tt (λ alive. refused-alive call hidden)).goes
