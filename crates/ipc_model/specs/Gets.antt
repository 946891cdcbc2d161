-- The gets: the object of a key, or a new one (msgget(2), semget(2), shmget(2), POSIX.1-2017 XSH). With a key that an
-- object has: IPC_CREAT with IPC_EXCL is refused, then the rights that the flags ask for are needed. With any other
-- key: IPC_CREAT is needed, and then a slot. Key 0 is IPC_PRIVATE: no object has it, and it needs no IPC_CREAT.
use Rattle.std.specs.Prelude.{ℕ, ◌%◌, ◌==◌, nat_le, nat_lt, false, not, ◌&&◌, ◌||◌, List, [], ◌∷◌, length, replicate, Option, Some, None}
use Rattle.ipc_call.specs.Flags.{has_flag, ipc_creat, ipc_excl}
use Rattle.ipc_call.specs.declared.rules.Rule.TheVariants.{NoKey, KeyExists, NoSlot, BadSize}
use Rattle.ipc_call.specs.declared.replies.Answer.TheVariants.{Id}
pub use Rattle.ipc_call.specs.declared.settings.Get.{Get}
use Rattle.ipc_perm.specs.Access.{Permission, asked_of}
use Rattle.ipc_ids.specs.Table.{Table, find_object, next_id, with_object}
use Rattle.ipc_objects.specs.Objects.{has_key}
use Rattle.sem_set.specs.Sets.{zeroed}
use Rattle.ipc_model.specs.State.{Caller, Credentials, Limits, Object, Perm, Queue, Queues, Segment, SemSet, Sems, Shared}
use Rattle.ipc_model.specs.Plan.{Check, Needs, Passes, Plan, Grant, found, in_order, on_part, ◌⨾◌}

-- the caller is owner and creator
abbrev pub owned_by : Credentials → ℕ → ℕ → Perm
owned_by c key mode = record { key = key; uid = c.euid; gid = c.egid; cuid = c.euid; cgid = c.egid; mode = mode }

-- the mode is the low nine bits of the flags, and the time of change is now
abbrev pub new_object : {X : Type 0} → Caller → ℕ → ℕ → X → Object X
new_object who key flags contents =
    record { perm = owned_by who.creds key (flags % 512); change_time = who.now; contents = contents }

abbrev pub make_object : {X : Type 0} → Table (Object X) → Object X → Plan (Table (Object X))
make_object t object = found (next_id t) NoSlot _ (λ id. Grant (Id id) (with_object t id object))

-- what a get of a kind has of its own: what a new object holds, the checks before one is made, and those on one that is
-- found
pub record Getting (X : Type 0) : Type 0 where
  pub new : X
  pub to_make : List Check
  pub to_find : X → List Check

-- the checks on an object that is found, of any kind
abbrev pub to_open : Perm → ℕ → List Check
to_open perm flags =
    Passes (not (has_flag flags ipc_creat && has_flag flags ipc_excl)) KeyExists _
    ∷ Needs (Permission perm (asked_of flags)) ∷ []

abbrev pub get_found : {X : Type 0} → Table (Object X) → Caller → Get → Getting X → Option (ℕ × Object X)
    → Plan (Table (Object X))
get_found t who asked getting None =
    Passes (asked.key == 0 || has_flag asked.flags ipc_creat) NoKey _
    ⨾ in_order getting.to_make (make_object t (new_object who asked.key asked.flags getting.new))
get_found t who asked getting (Some there) =
    in_order (to_open there.1.perm asked.flags) (in_order (getting.to_find there.1.contents) (Grant (Id there.0) t))

-- the object with its identifier
abbrev pub object_of_key : {X : Type 0} → Table (Object X) → ℕ → Option (ℕ × Object X)
object_of_key t key = find_object (has_key key) t

abbrev pub get : {X : Type 0} → Table (Object X) → Caller → Get → Getting X → Plan (Table (Object X))
get t who asked getting = get_found t who asked getting (object_of_key t asked.key)

-- msgget: a new queue has no messages; its pids and times are 0
abbrev pub new_queue : Limits → Queue
new_queue max =
    record { messages = []; qbytes = max.msg_mnb; last_sender = 0; last_receiver = 0; send_time = 0; receive_time = 0 }

abbrev pub getting_queue : Limits → Getting Queue
getting_queue limits = record { new = new_queue limits; to_make = []; to_find = λ queue. [] }

abbrev pub get_queue : Limits → Queues → Caller → Get → Plan Queues
get_queue limits queues who asked = get queues who asked (getting_queue limits)

-- semget: at most SEMMSL semaphores; a new set has at least one, each 0, and one that is found has as many
abbrev pub new_set : ℕ → SemSet
new_set nsems = record { semaphores = replicate nsems zeroed; op_time = 0 }

abbrev pub getting_set : ℕ → Getting SemSet
getting_set nsems = record {
  new = new_set nsems;
  to_make = Passes (nat_lt 0 nsems) BadSize _ ∷ [];
  to_find = λ set. Passes (nat_le nsems (length set.semaphores)) BadSize _ ∷ [];
}

abbrev pub get_set : Limits → Sems → Caller → Get → ℕ → Plan Sems
get_set limits sems who asked nsems =
    Passes (nat_le nsems limits.sem_msl) BadSize _
    ⨾ on_part (λ sets. record sems { sets = sets }) (get sems.sets who asked (getting_set nsems))

-- shmget: a new segment has at least one byte and at most SHMMAX, each 0, and one that is found has as many
abbrev pub new_segment : ℕ → ℕ → Segment
new_segment pid size = record {
  bytes = replicate size 0;
  is_marked = false;
  creator = pid;
  last = 0;
  attach_time = 0;
  detach_time = 0;
}

abbrev pub getting_segment : Limits → ℕ → ℕ → Getting Segment
getting_segment limits pid size = record {
  new = new_segment pid size;
  to_make = Passes (nat_lt 0 size && nat_le size limits.shm_max) BadSize _ ∷ [];
  to_find = λ segment. Passes (nat_le size (length segment.bytes)) BadSize _ ∷ [];
}

abbrev pub get_segment : Limits → Shared → Caller → Get → ℕ → Plan Shared
get_segment limits shared who asked size =
    on_part (λ segments. record shared { segments = segments })
    (get shared.segments who asked (getting_segment limits who.pid size))
