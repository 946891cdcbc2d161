-- Tables and states of which the second may come after the first: they stay sound, and an identifier that was used stays
-- used.
use Rattle.std.proofs.Common.{◌≡◌, ℕ, ◌<◌, ◌/◌, ◌%◌, ⊎_elim, inl, inr, ap, true, refl, sym, ◌∙◌, subst, Option, Some, None}
use Rattle.std.specs.FinMap as finite
use Rattle.ipc_call.specs.declared.replies.Answer.{Answer}
use Rattle.std.specs.Prelude.{is_some, length, option_map}
use Rattle.std.proofs.lemmas.Option.{none-some}
use Rattle.ipc_ids.specs.Images.{map_entries}
use Rattle.ipc_ids.proofs.Images.{get-entries}
use Rattle.ipc_ids.specs.Table.{Table, IsSound, WasUsed, next_id, seq_of, with_object, without_object}
use Rattle.ipc_ids.proofs.Sound.{IsSound-change, IsSound-new, IsSound-without, WasUsed-with, WasUsed-without, next_id-fresh}
use Rattle.ipc_objects.specs.declared.object.Object.{Object}
use Rattle.ipc_objects.specs.Objects.{changed, with_perm}
use Rattle.ipc_model.specs.State.{Queues, Sems, Shared, State}
use Rattle.ipc_model.specs.Segments.{AreAttached}
use Rattle.ipc_model.specs.Decision.{Decision}
use Rattle.ipc_model.proofs.Plans.{IfGranted}

-- the second table may come after the first
pub record Grows {X : Type 0} (t u : Table X) : Type 0 where
  pub sound : IsSound t → IsSound u
  pub used : IsSound t → (id : ℕ) → WasUsed t id → WasUsed u id

module _ {X : Type 0} where
  pub Grows-same : (t : Table X) → Grows t t
  Grows-same t = record { sound = λ sound. sound; used = λ sound id was. was }

  Grows-on : (t u v : Table X) → Grows t u → Grows u v → Grows t v
  Grows-on t u v first second = record {
    sound = λ sound. second.sound (first.sound sound);
    used = λ sound id was. second.used (first.sound sound) id (first.used sound id was);
  }

  pub Grows-new : (t : Table X) (id : ℕ) (x : X) → next_id t ≡ Some id → Grows t (with_object t id x)
  Grows-new t id x is = record {
    sound = λ sound. IsSound-new t sound id x (next_id-fresh t sound.few id is);
    used = λ sound j was. WasUsed-with t id x j was;
  }

  pub Grows-gone : (t : Table X) (id : ℕ) (x : X) → finite.get t.objects id ≡ Some x → Grows t (without_object t id)
  Grows-gone t id x there = record {
    sound = λ sound. IsSound-without t sound id x there;
    used = λ sound j was. WasUsed-without t sound id x there j was;
  }

-- each object changes
module _ {X : Type 0} (f : ℕ → X → X) (t : Table X) where
  there-mapped : (o : Option X) (id : ℕ) (y : X) → option_map (f id) o ≡ Some y → (x : X) × (o ≡ Some x)
  there-mapped None id y is = absurd (none-some y is)
  there-mapped (Some x) id y is = (x, refl)

  still-there : (o : Option X) (id : ℕ) → is_some (option_map (f id) o) ≡ is_some o
  still-there None id = refl
  still-there (Some x) id = refl

  pub Grows-mapped : Grows t (map_entries f t)
  Grows-mapped = record {
    sound = λ sound. record {
      few = sound.few;
      held = λ id y is. let there = there-mapped (finite.get t.objects id) id y (sym (get-entries f t id) ∙ is) in sound.held id there.0 there.1;
    };
    used = λ sound id was. ⊎_elim
        (λ (here : finite.contains_key t.objects id ≡ true). inl (ap (λ o. is_some o) (get-entries f t id) ∙ still-there (finite.get t.objects id) id ∙ here))
        (λ (before : id / 32768 < seq_of t (id % 32768)). inr before)
        was;
  }

module _ {X : Type 0} where
  -- an object, where there is one, changes
  Grows-perm : (t : Table (Object X)) (id : ℕ) (change : Object X → Object X) (o : Option (Object X)) → finite.get t.objects id ≡ o → Grows t (with_perm t id change o)
  Grows-perm t id change None is = Grows-same t
  Grows-perm t id change (Some object) is = record {
    sound = λ sound. IsSound-change t sound id (change object) object is;
    used = λ sound j was. WasUsed-with t id (change object) j was;
  }

  pub Grows-changed : (t : Table (Object X)) (id : ℕ) (change : Object X → Object X) → Grows t (changed t id change)
  Grows-changed t id change = Grows-perm t id change (finite.get t.objects id) refl

-- the second segments with their attachments may come after the first
pub record Leads (a b : Shared) : Type 0 where
  pub grows : Grows a.segments b.segments
  pub attached : AreAttached a → AreAttached b

pub Leads-same : (a : Shared) → Leads a a
Leads-same a = record { grows = Grows-same a.segments; attached = λ are. are }

pub Leads-on : (a b c : Shared) → Leads a b → Leads b c → Leads a c
Leads-on a b c first second = record {
  grows = Grows-on a.segments b.segments c.segments first.grows second.grows;
  attached = λ are. second.attached (first.attached are);
}

-- the second state may come after the first
pub record Follows (s t : State) : Type 0 where
  pub queues : Grows s.queues t.queues
  pub sets : Grows s.sems.sets t.sems.sets
  pub shared : Leads s.shared t.shared
  pub clients : length t.clients ≡ length s.clients
  pub limits : t.limits ≡ s.limits

pub Follows-same : (s t : State) → t.queues ≡ s.queues → t.sems ≡ s.sems → t.shared ≡ s.shared → length t.clients ≡ length s.clients → t.limits ≡ s.limits → Follows s t
Follows-same s t queues sems shared clients limits = record {
  queues = subst (λ (q : Queues). Grows s.queues q) (sym queues) (Grows-same s.queues);
  sets = subst (λ (u : Sems). Grows s.sems.sets u.sets) (sym sems) (Grows-same s.sems.sets);
  shared = subst (λ (u : Shared). Leads s.shared u) (sym shared) (Leads-same s.shared);
  clients = clients;
  limits = limits;
}

pub Follows-on : (s t u : State) → Follows s t → Follows t u → Follows s u
Follows-on s t u first second = record {
  queues = Grows-on s.queues t.queues u.queues first.queues second.queues;
  sets = Grows-on s.sems.sets t.sems.sets u.sems.sets first.sets second.sets;
  shared = Leads-on s.shared t.shared u.shared first.shared second.shared;
  clients = second.clients ∙ first.clients;
  limits = second.limits ∙ first.limits;
}

-- the queues grow, or the sets, or the segments, and nothing else
pub Follows-queues : (s : State) (q : Queues) → Grows s.queues q → Follows s (record s { queues = q })
Follows-queues s q grows = record { queues = grows; sets = Grows-same s.sems.sets; shared = Leads-same s.shared; clients = refl; limits = refl }

pub Follows-sems : (s : State) (u : Sems) → Grows s.sems.sets u.sets → Follows s (record s { sems = u })
Follows-sems s u grows = record { queues = Grows-same s.queues; sets = grows; shared = Leads-same s.shared; clients = refl; limits = refl }

pub Follows-shared : (s : State) (u : Shared) → Leads s.shared u → Follows s (record s { shared = u })
Follows-shared s u leads = record { queues = Grows-same s.queues; sets = Grows-same s.sems.sets; shared = leads; clients = refl; limits = refl }

-- what is granted leaves the calls that wait, and its state may follow
abbrev pub Succeeds : State → Answer → State → Type 0
Succeeds s answer new = (new.parked ≡ s.parked) × Follows s new

abbrev pub Keeps : State → Decision State → Type 0
Keeps s d = IfGranted (Succeeds s) d

pub Succeeds-same : (s : State) (answer : Answer) → Succeeds s answer s
Succeeds-same s answer = (refl, Follows-same s s refl refl refl refl refl)
