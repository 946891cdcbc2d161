-- A client's seat while it tries to join.
use Rattle.std.proofs.Common.{◌≡◌, ◌≢◌, ℕ, ◌+◌, ◌-◌, refl, ◌<◌, ◌≤◌, List, [], ◌∷◌, length, sym, ap, ◌∙◌, subst, ⊎_elim, arith, Some}
use mathlib.Core.Option.{none}
use Rattle.atomic_table.specs.Table.{Me, step}
use Rattle.atomic_table.specs.declared.shared.Seat.{Seat}
use Rattle.pub_rule.specs.declared.walk.Walk.{Walk}
use Rattle.pub_rule.specs.declared.walk.View.{View}
use Rattle.pub_rule.specs.declared.walk.Role.TheVariants as roles
use Rattle.pub_rule.specs.Lists.{IsOn, IsListOf, link_to, head_of}
use Rattle.pub_rule.specs.Rule.{blank}
use Rattle.pub_rule.specs.Steps.{client_of, with_list, with_stored, with_walk, failed, joined, head_loaded, head_exchanged}
use Rattle.pub_rule.proofs.Clients.{at_most}
use Rattle.pub_list.specs.Fresh.{IsFresh}
use Rattle.pub_list.specs.Joined.{IsJoined, IsWorking, seen, told, tries, work}
use Rattle.atomic_table.specs.Seated.{TableId}
use Rattle.pub_rule.specs.declared.served.Slot.{Slot}
use Rattle.pub_rule.specs.declared.served.Slot.TheVariants as slots
use Rattle.pub_rule.specs.declared.work.Work.{Work}
use Rattle.pub_rule.specs.declared.work.Stage.TheVariants.{Away, Free}
use Rattle.pub_rule.specs.Work.{IsMarked}
use Rattle.pub_rule.specs.WorkSteps.{with_work, fetched, Fetches}
use Rattle.pub_rule.specs.WorkSplits.{starting, owner_of}

pub record Trying {T E C R : Type 0} (client clients head : ℕ) (h : List E) (seat : Seat T (View (Work E C R))) : Type 0 where
  pub knows : seat.me.0.work ≡ starting (Away client) h
  pub role : seat.me.0.walk.role ≡ roles.Fresh client
  pub empty : seat.me.1 ≡ []
  pub told : told seat ≡ []
  pub link : head ≡ link_to (seen seat)
  pub listed : IsListOf clients (seen seat)
  pub off : ¬ IsOn client (seen seat)
  pub tried : tries seat ≤ length (seen seat)
  pub small : client < clients

-- it has joined, but hasn't its slot yet
pub record Won {T E C R : Type 0} (client : ℕ) (h : List E) (seat : Seat T (View (Work E C R))) : Type 0 where
  pub role : seat.me.0.walk.role ≡ roles.Joined client
  pub knows : seat.me.0.work ≡ starting (Away client) h
  pub empty : seat.me.1 ≡ []
  pub small : client + 1 < seat.table_id.slots
  pub listed : (c : ℕ) → IsOn c (seen seat) → c < seat.table_id.slots - 1
  pub told : told seat ≡ []

-- so the list that it loaded has fewer than all clients
pub fewer : {T E C R : Type 0} {h : List E} (client clients head : ℕ) (seat : Seat T (View (Work E C R))) → Trying client clients head h seat → tries seat < clients
fewer client clients head seat t = let tried = t.tried in let small = t.small in
    let all = at_most clients (client ∷ seen seat) ((t.off, t.listed.0), λ c h. ⊎_elim (λ e. omega arith) (t.listed.1 c) h) in omega arith

-- the first load
module _ {T E C R : Type 0} where
  pub begins : (client clients slots word k : ℕ) (old new : Seat T (View (Work E C R))) → IsFresh client old → old.table_id.slots ≡ slots → slots ≡ clients + 1
      → head_loaded (step slots word 0 0 none) old.me k new.me → Trying client clients k old.me.0.work.seen new
  begins client clients slots word k old new fresh at sized did = let was : old.me.0.walk ≡ blank (roles.Fresh client) = fresh.0 in let view : new.me.0.walk ≡ with_list did.list old.me.0.walk = ap (λ (m : Me T (View (Work E C R))). m.0.walk) did.left in
      let now : seen new ≡ did.list = ap (λ (v : Walk). v.list) view in let still = λ (v : Walk). v.role in let role : old.me.0.walk.role ≡ roles.Fresh client = ap still was in let none_tried : old.me.0.walk.tries ≡ 0 = ap (λ (v : Walk). v.tries) was in
      let small = fresh.3 in record {
        knows = ap (λ (m : Me T (View (Work E C R))). m.0.work) did.left ∙ fresh.1;
        role = ap still view ∙ role;
        empty = ap (λ (m : Me T (View (Work E C R))). m.1) did.left ∙ fresh.2;
        told = ap (λ (v : Walk). v.known) view ∙ ap (λ (v : Walk). v.known) was;
        link = did.link ∙ ap link_to (sym now);
        listed = subst (IsListOf clients) (sym now) (subst (λ (z : ℕ). IsListOf z did.list) (omega arith) did.saw.clients);
        off = subst (λ (l : List ℕ). ¬ IsOn client l) (sym now) (did.saw.unjoined client role);
        tried = let few = ap (λ (v : Walk). v.tries) view in omega arith;
        small = omega arith;
      }

-- one try: the seat was old, mid after the store, and is new
module _ {T E C R : Type 0} {h : List E} (client clients slots word head number found : ℕ) (old mid new : Seat T (View (Work E C R))) (t : Trying client clients head h old) (sized : slots ≡ clients + 1)
    (stored : mid.me ≡ (with_walk (with_stored head old.me.0.walk) old.me.0, old.me.1)) (did : head_exchanged (step slots word head number none) mid.me found new.me) where
  abbrev before : mid.me.0.walk ≡ with_stored head old.me.0.walk
  before = ap (λ (m : Me T (View (Work E C R))). m.0.walk) stored

  abbrev was_fresh : mid.me.0.walk.role ≡ roles.Fresh client
  was_fresh = ap (λ (v : Walk). v.role) before ∙ t.role

  pub tries_again : found ≢ head → Trying client clients found h new × (tries new ≡ tries old + 1)
  tries_again other = let went = did.miss other in let view : new.me.0.walk ≡ failed went.list mid.me.0.walk = ap (λ (m : Me T (View (Work E C R))). m.0.walk) went.left in let now : seen new ≡ went.list = ap (λ (v : Walk). v.list) view in
      let count : tries new ≡ tries old + 1 = ap (λ (v : Walk). v.tries) view ∙ ap (λ (v : Walk). v.tries + 1) before in
      let saw = went.saw in let tried = saw.tried in let size = ap length now in let same = ap (λ (v : Walk). v.tries) view in (
        record {
          knows = ap (λ (m : Me T (View (Work E C R))). m.0.work) went.left ∙ (ap (λ (m : Me T (View (Work E C R))). m.0.work) stored ∙ t.knows);
          role = ap (λ (v : Walk). v.role) view ∙ was_fresh;
          empty = ap (λ (m : Me T (View (Work E C R))). m.1) went.left ∙ (ap (λ (m : Me T (View (Work E C R))). m.1) stored ∙ t.empty);
          told = ap (λ (v : Walk). v.known) view ∙ (ap (λ (v : Walk). v.known) before ∙ t.told);
          link = went.link ∙ ap link_to (sym now);
          listed = subst (IsListOf clients) (sym now) (subst (λ (z : ℕ). IsListOf z went.list) (omega arith) saw.clients);
          off = subst (λ (l : List ℕ). ¬ IsOn client l) (sym now) (saw.unjoined client was_fresh);
          tried = omega arith;
          small = t.small;
        },
        count,
      )

  module _ (hit : found ≡ head) where
    abbrev view_now : new.me.0.walk ≡ joined mid.me.0.walk
    view_now = ap (λ (m : Me T (View (Work E C R))). m.0.walk) (did.hit hit).left

    abbrev itself : client_of mid.me.0.walk.role ≡ client
    itself = ap client_of was_fresh

    abbrev list_now : seen new ≡ client ∷ seen old
    list_now = ap (λ (v : Walk). v.list) view_now ∙ (ap (λ (c : ℕ). c ∷ mid.me.0.walk.list) itself ∙ ap (λ (v : Walk). client ∷ v.list) before)

    abbrev listed_now : IsListOf clients (seen new)
    listed_now = subst (IsListOf clients) (sym (ap (λ (v : Walk). v.list) view_now)) (subst (λ (z : ℕ). IsListOf z (joined mid.me.0.walk).list) (omega arith) (did.hit hit).saw.clients)

    pub wins : new.table_id.slots ≡ slots → Won client h new
    wins at = let small = t.small in record {
      role = ap (λ (v : Walk). v.role) view_now ∙ ap (λ (c : ℕ). roles.Joined c) itself;
      knows = ap (λ (m : Me T (View (Work E C R))). m.0.work) (did.hit hit).left ∙ (ap (λ (m : Me T (View (Work E C R))). m.0.work) stored ∙ t.knows);
      empty = ap (λ (m : Me T (View (Work E C R))). m.1) (did.hit hit).left ∙ (ap (λ (m : Me T (View (Work E C R))). m.1) stored ∙ t.empty);
      small = omega arith;
      listed = λ c on. let below = listed_now.1 c on in omega arith;
      told = ap (λ (v : Walk). v.known) view_now ∙ (ap (λ (v : Walk). v.known) before ∙ t.told);
    }

    pub knows_itself : (head_of (seen new) ≡ Some client) × IsListOf clients (seen new)
    knows_itself = (ap head_of list_now, listed_now)

    pub few_tries : (1 ≤ tries new) × (tries new ≤ clients)
    few_tries = let tried = (did.hit hit).saw.tried in let all = at_most clients (seen new) listed_now in let count : tries new ≡ mid.me.0.walk.tries + 1 = ap (λ (v : Walk). v.tries) view_now in
        let size : length (seen new) ≡ length (joined mid.me.0.walk).list = ap (λ (v : Walk). length v.list) view_now in (omega arith, omega arith)

-- the client takes its slot then
module _ {E C R S : Type 0} {h : List E} (client count word k : ℕ) (won new : Seat (Slot C R S) (View (Work E C R))) (w : Won client h won) (same : new.table_id ≡ won.table_id) (did : Fetches won.me new.me) where
  abbrev owns_it : did.client ≡ client
  owns_it = sym (ap owner_of did.away) ∙ ap (λ (v : Work E C R). owner_of v.stage) w.knows

  abbrev me_now : new.me ≡ (with_work (fetched client won.me.0.work) won.me.0, (client, slots.Empty) ∷ [])
  me_now = did.left ∙ (λ i. (with_work (fetched (owns_it i) won.me.0.work) won.me.0, (owns_it i, slots.Empty) ∷ w.empty i))

  pub walk_still : new.me.0.walk ≡ won.me.0.walk
  walk_still = ap (λ (m : Me (Slot C R S) (View (Work E C R))). m.0.walk) did.left

  pub knows_now : work new ≡ starting (Free client) h
  knows_now = ap (λ (m : Me (Slot C R S) (View (Work E C R))). m.0.work) me_now ∙ ap (fetched client) w.knows

  pub is_joined : IsJoined client new
  is_joined = record {
    role = ap (λ (v : Walk). v.role) walk_still ∙ w.role;
    working = subst (λ (m : Work E C R × List (ℕ × Slot C R S)). IsWorking client (new.table_id.slots - 1) m.0 m.1) (λ i. (sym knows_now i, sym (ap (λ (m : Me (Slot C R S) (View (Work E C R))). m.1) me_now) i)) record { own = refl; live = refl; hands_are = refl; quiet = λ _. refl; below = λ r h. absurd h };
    small = subst (λ (z : TableId). client + 1 < z.slots) (sym same) w.small;
    listed = λ c on. subst (λ (z : TableId). c < z.slots - 1) (sym same) (w.listed c (subst (IsOn c) (ap (λ (v : Walk). v.list) walk_still) on));
    others = λ c on. absurd (subst (IsOn c) (ap (λ (v : Walk). v.known) walk_still ∙ w.told) on);
    heard = λ r m marked. absurd (subst (λ (v : Work E C R). IsMarked r m v.heard) knows_now marked);
  }
