-- An identifier that an event gives to a new object was never used before, so none is given twice.
use Rattle.std.proofs.Common.{◌≡◌, ℕ, ◌≤◌, Bool, true, false, eqb, List, [], ◌∷◌, ◌++◌, refl, sym, subst, Option, Some, None, Ok}
use Rattle.std.specs.Prelude.{if◌then◌else◌, is_none}
use Rattle.std.specs.List.{AllByRecursion, IsDistinct}
use Rattle.std.proofs.lemmas.Bool.{true≢false, ne_eqb}
use Rattle.ipc_call.specs.declared.calls.Call.{Call}
use Rattle.ipc_call.specs.declared.calls.Call.TheVariants.{MsgGet, SemGet, ShmGet}
use Rattle.ipc_call.specs.declared.calls.Kind.{Kind}
use Rattle.ipc_call.specs.declared.calls.Kind.TheVariants as kinds
use Rattle.ipc_call.specs.declared.replies.Answer.{Answer}
use Rattle.ipc_call.specs.declared.replies.Answer.TheVariants.{Id}
use Rattle.ipc_call.specs.declared.rules.Rule.TheVariants.{NoSlot}
use Rattle.ipc_ids.specs.Table.{IsSound, Table, WasUsed, next_id, with_object}
use Rattle.ipc_ids.proofs.Sound.{IsFresh, IsSound-empty, WasUsed-there, fresh-unused, get-insert-same, next_id-fresh}
use Rattle.ipc_objects.specs.declared.object.Object.{Object}
use Rattle.ipc_model.specs.State.{Caller, Queues, Segment, SemSet, Sems, Shared, State, caller, creds_at, opening, pid_at}
use Rattle.ipc_model.specs.Decision.{Decision, Granted, Outcome, outcome_of}
use Rattle.ipc_model.specs.Plan.{found}
use Rattle.ipc_model.specs.Plan as plans
use Rattle.ipc_model.specs.Gets.{Getting, get, get_found, get_queue, get_segment, get_set, getting_queue, getting_segment, getting_set, new_object, object_of_key, Get}
use Rattle.ipc_model.specs.Decide.{decide, part_plan, plan}
use Rattle.ipc_model.specs.Step.{Event, begun, cancel, cancelled_by, settled, state_by, step}
use Rattle.ipc_history.specs.History.{History}
use Rattle.ipc_history.specs.Made.{id_in, made, made_by, made_from, makes}
use Rattle.ipc_model.proofs.Plans.{Ends, Ends-decision, Ends-on, Ends-order, IfGranted}
use Rattle.ipc_model.proofs.Calls.{Keeps-decide}
use Rattle.ipc_model.proofs.Growing.{Follows, Grows, Keeps}
use Rattle.ipc_model.proofs.Keeping.{Follows-cancelled_by, Follows-settled, Follows-step}

-- the identifier names an object of the kind, or named one that was removed
abbrev pub IsUsed : State → Kind → ℕ → Type 0
IsUsed s kinds.Queue id = WasUsed s.queues id
IsUsed s kinds.Sems id = WasUsed s.sems.sets id
IsUsed s kinds.Segment id = WasUsed s.shared.segments id

-- an identifier that is answered with a new table is fresh, and names an object of it
abbrev pub IsNew : {X : Type 0} → Table X → Answer → Table X → Type 0
IsNew t (Id id) new = IsFresh t id × WasUsed new id
IsNew t answer new = Unit {0}

-- where no object has the key, a get creates one, or is refused
module _ {X : Type 0} (t : Table (Object X)) (few : t.slots ≤ 32768) where
  Ends-made : (object : Object X) (id : Option ℕ) → next_id t ≡ id → Ends (IsNew t) (found id NoSlot tt (λ id. plans.Grant (Id id) (with_object t id object)))
  Ends-made object None is = tt
  Ends-made object (Some id) is = (next_id-fresh t few id is, WasUsed-there (with_object t id object) id object (get-insert-same t.objects id object))

  Ends-get : (who : Caller) (asked : Get) (getting : Getting X) (there : Option (ℕ × Object X)) → is_none there ≡ true → Ends (IsNew t) (get_found t who asked getting there)
  Ends-get who asked getting None absent = Ends-order (IsNew t) getting.to_make _ (Ends-made (new_object who asked.key asked.flags getting.new) (next_id t) refl)
  Ends-get who asked getting (Some there) absent = absurd (true≢false (sym absent))

-- msgget, among the queues
Names-queue : (s : State) (client key flags : ℕ) → s.queues.slots ≤ 32768 → is_none (object_of_key s.queues key) ≡ true → IfGranted (λ answer new. IsNew s.queues answer new.queues) (decide s client (MsgGet key flags))
unfolding part_plan
Names-queue s client key flags few absent =
    let put : Queues → State = λ queues. record s { queues = queues } in
    let asked : Get = record { key = key; flags = flags } in
    let p = get_queue s.limits s.queues (caller s client) asked in
    Ends-decision (creds_at s client) (λ answer new. IsNew s.queues answer new.queues) (plan s client (MsgGet key flags))
    (Ends-on put (λ answer new. IsNew s.queues answer new.queues) p (Ends-get s.queues few (caller s client) asked (getting_queue s.limits) (object_of_key s.queues key) absent))

-- semget, among the sets
Names-set : (s : State) (client key nsems flags : ℕ) → s.sems.sets.slots ≤ 32768 → is_none (object_of_key s.sems.sets key) ≡ true → IfGranted (λ answer new. IsNew s.sems.sets answer new.sems.sets) (decide s client (SemGet key nsems flags))
unfolding part_plan
Names-set s client key nsems flags few absent =
    let put : Sems → State = λ sems. record s { sems = sems } in
    let put_sets : Table (Object SemSet) → Sems = λ sets. record s.sems { sets = sets } in
    let who = caller s client in
    let asked : Get = record { key = key; flags = flags } in
    let p = get s.sems.sets who asked (getting_set nsems) in
    Ends-decision (creds_at s client) (λ answer new. IsNew s.sems.sets answer new.sems.sets) (plan s client (SemGet key nsems flags))
    (Ends-on put (λ answer new. IsNew s.sems.sets answer new.sems.sets) (get_set s.limits s.sems who asked nsems)
    (Ends-on put_sets (λ answer u. IsNew s.sems.sets answer u.sets) p (Ends-get s.sems.sets few who asked (getting_set nsems) (object_of_key s.sems.sets key) absent)))

-- shmget, among the segments
Names-segment : (s : State) (client key size flags : ℕ) → s.shared.segments.slots ≤ 32768 → is_none (object_of_key s.shared.segments key) ≡ true → IfGranted (λ answer new. IsNew s.shared.segments answer new.shared.segments) (decide s client (ShmGet key size flags))
unfolding part_plan
Names-segment s client key size flags few absent =
    let put : Shared → State = λ shared. record s { shared = shared } in
    let put_segments : Table (Object Segment) → Shared = λ segments. record s.shared { segments = segments } in
    let who = caller s client in
    let t = s.shared.segments in
    let asked : Get = record { key = key; flags = flags } in
    let getting = getting_segment s.limits (pid_at s client) size in
    Ends-decision (creds_at s client) (λ answer new. IsNew t answer new.shared.segments) (plan s client (ShmGet key size flags))
    (Ends-on put (λ answer new. IsNew t answer new.shared.segments) (get_segment s.limits s.shared who asked size)
    (Ends-on put_segments (λ answer u. IsNew t answer u.segments) (get t who asked getting) (Ends-get t few who asked getting (object_of_key t key) absent)))

-- what holds of an identifier that an event made: it was never used before the event, and is used after it
abbrev IsNamed : State → Kind → State → ℕ → Type 0
IsNamed s kind new id = (IsUsed s kind id → ⊥) × IsUsed new kind id

all-where : (P : ℕ → Type 0) (b : Bool) (xs : List ℕ) → (b ≡ true → AllByRecursion P xs) → AllByRecursion P (if b then xs else [])
all-where P true xs named = named refl
all-where P false xs named = tt

-- of the table of a kind
module _ {X : Type 0} (table : State → Table X) (grows : (s t : State) → Follows s t → Grows (table s) (table t)) where
  named-in : (s : State) (d : Decision State) (client : ℕ) (call : Call) → IfGranted (λ answer new. IsNew (table s) answer (table new)) d → Keeps s d → IsSound (table s)
      → AllByRecursion (λ id. (WasUsed (table s) id → ⊥) × WasUsed (table (settled (cancelled_by (state_by s client call d) call d).state).state) id) (id_in (outcome_of d))
  named-in s (Granted (Id id) new) client call names keeps sound =
      let cancelled = (cancel new call).state in
      let granted = (grows s new keeps.1).sound sound in
      let left = grows new cancelled (Follows-cancelled_by new call (Granted (Id id) new)) in
      let later = grows cancelled (settled cancelled).state (Follows-settled cancelled) in
      ((fresh-unused (table s) id names.0, later.used (left.sound granted) id (left.used granted id names.1)), tt)
  named-in s d client call names keeps sound = tt

pub record AreSound (s : State) : Type 0 where
  pub queues : IsSound s.queues
  pub sets : IsSound s.sems.sets
  pub segments : IsSound s.shared.segments

sound-later : (s t : State) → Follows s t → AreSound s → AreSound t
sound-later s t follows sound = record { queues = follows.queues.sound sound.queues; sets = follows.sets.sound sound.sets; segments = follows.shared.grows.sound sound.segments }

named-by : (kind : Kind) (s : State) (client now : ℕ) (call : Call) → AreSound s
    → AllByRecursion (IsNamed s kind (step s (record { client = client; now = now; call = call })).state) (made_by kind s (record { client = client; now = now; call = call }))
named-by kinds.Queue s client now (MsgGet key flags) sound =
    let here = begun s now in
    let call = MsgGet key flags in
    all-where _ (is_none (object_of_key s.queues key)) _ (λ absent.
    named-in (λ t. t.queues) (λ s t follows. follows.queues) here (decide here client call) client call (Names-queue here client key flags sound.queues.few absent) (Keeps-decide here client call) sound.queues)
named-by kinds.Sems s client now (SemGet key nsems flags) sound =
    let here = begun s now in
    let call = SemGet key nsems flags in
    all-where _ (is_none (object_of_key s.sems.sets key)) _ (λ absent.
    named-in (λ t. t.sems.sets) (λ s t follows. follows.sets) here (decide here client call) client call (Names-set here client key nsems flags sound.sets.few absent) (Keeps-decide here client call) sound.sets)
named-by kinds.Segment s client now (ShmGet key size flags) sound =
    let here = begun s now in
    let call = ShmGet key size flags in
    all-where _ (is_none (object_of_key s.shared.segments key)) _ (λ absent.
    named-in (λ t. t.shared.segments) (λ s t follows. follows.shared.grows) here (decide here client call) client call (Names-segment here client key size flags sound.segments.few absent) (Keeps-decide here client call) sound.segments)
named-by kind s client now call sound = tt

used-later : (kind : Kind) (s t : State) → Follows s t → AreSound s → (id : ℕ) → IsUsed s kind id → IsUsed t kind id
used-later kinds.Queue s t follows sound id used = follows.queues.used sound.queues id used
used-later kinds.Sems s t follows sound id used = follows.sets.used sound.sets id used
used-later kinds.Segment s t follows sound id used = follows.shared.grows.used sound.segments id used

all-append : (P : ℕ → Type 0) (xs ys : List ℕ) → AllByRecursion P xs → AllByRecursion P ys → AllByRecursion P (xs ++ ys)
all-append P [] ys a b = b
all-append P (x ∷ xs) ys a b = (a.0, all-append P xs ys a.1 b)

all-map : (P Q : ℕ → Type 0) (xs : List ℕ) → ((x : ℕ) → P x → Q x) → AllByRecursion P xs → AllByRecursion Q xs
all-map P Q [] f a = tt
all-map P Q (x ∷ xs) f a = (f x a.0, all-map P Q xs f a.1)

unused-from : (kind : Kind) (s : State) (es : List Event) → AreSound s → AllByRecursion (λ id. IsUsed s kind id → ⊥) (made_from kind s es)
unused-from kind s [] sound = tt
unused-from kind s (e ∷ es) sound =
    let later = (step s e).state in
    let follows = Follows-step s e in
    all-append _ (made_by kind s e) (made_from kind later es)
    (all-map _ _ (made_by kind s e) (λ id named. named.0) (named-by kind s e.client e.now e.call sound))
    (all-map _ _ (made_from kind later es) (λ id unused used. unused (used-later kind s later follows sound id used)) (unused-from kind later es (sound-later s later follows sound)))

-- what has the property is none of those that lack it
apart-from : (P : ℕ → Type 0) (x : ℕ) (ys : List ℕ) → P x → AllByRecursion (λ y. P y → ⊥) ys → AllByRecursion (λ y. eqb x y ≡ false) ys
apart-from P x [] has lack = tt
apart-from P x (y ∷ ys) has lack = (ne_eqb x y (λ same. lack.0 (subst P same has)), apart-from P x ys has lack.1)

distinct-append : (P : ℕ → Type 0) (xs ys : List ℕ) → IsDistinct eqb xs → AllByRecursion P xs → AllByRecursion (λ y. P y → ⊥) ys → IsDistinct eqb ys → IsDistinct eqb (xs ++ ys)
unfolding IsDistinct
distinct-append P [] ys xs_distinct has lack ys_distinct = ys_distinct
distinct-append P (x ∷ xs) ys xs_distinct has lack ys_distinct =
    (all-append _ xs ys xs_distinct.0 (apart-from P x ys has.0 lack), distinct-append P xs ys xs_distinct.1 has.1 lack ys_distinct)

distinct-in : (own : Option Outcome) → IsDistinct eqb (id_in own)
unfolding IsDistinct
distinct-in (Some (Ok (Id id))) = (tt, tt)
distinct-in own = tt

distinct-where : (b : Bool) (xs : List ℕ) → IsDistinct eqb xs → IsDistinct eqb (if b then xs else [])
unfolding IsDistinct
distinct-where true xs distinct = distinct
distinct-where false xs distinct = tt

distinct-from : (kind : Kind) (s : State) (es : List Event) → AreSound s → IsDistinct eqb (made_from kind s es)
unfolding IsDistinct
distinct-from kind s [] sound = tt
distinct-from kind s (e ∷ es) sound =
    let later = (step s e).state in
    let later_sound = sound-later s later (Follows-step s e) sound in
    distinct-append (λ id. IsUsed later kind id) (made_by kind s e) (made_from kind later es)
    (distinct-where (makes s kind e.call) (id_in (step s e).own) (distinct-in (step s e).own))
    (all-map _ _ (made_by kind s e) (λ id named. named.1) (named-by kind s e.client e.now e.call sound))
    (unused-from kind later es later_sound)
    (distinct-from kind later es later_sound)

-- no identifier is given to two objects of one kind
pub made-distinct : (kind : Kind) (h : History) → h.limits.queues ≤ 32768 → h.limits.sets ≤ 32768 → h.limits.segments ≤ 32768 → IsDistinct eqb (made kind h)
made-distinct kind h queues sets segments = distinct-from kind (opening h.limits h.clients) h.events
    (record { queues = IsSound-empty h.limits.queues h.limits.first_seq queues; sets = IsSound-empty h.limits.sets h.limits.first_seq sets; segments = IsSound-empty h.limits.segments h.limits.first_seq segments })
