-- What one more call, part or reading of a line does to where the line leads.
use Rattle.std.proofs.Common.{◌≡◌, ℕ, Bool, true, false, List, [], ◌∷◌, ◌++◌, refl, sym, ap, ◌∙◌, append_assoc, append-nil}
use Rattle.std.specs.Prelude.{Option, Some, None}
use Rattle.std.proofs.lemmas.List.Sums.{fold_push}
use Rattle.ipc_call.specs.declared.calls.Call.{Call}
use Rattle.ipc_call.specs.declared.calls.Call.TheVariants.{IpcRmid}
use Rattle.ipc_call.specs.declared.calls.Kind.{Kind}
use Rattle.ipc_commands.specs.declared.parts.Part.{Part}
use Rattle.ipc_commands.specs.declared.parts.Part.TheVariants.{Plain, RemoveByKey}
use Rattle.ipcsh.specs.Commands.{Progress, called, id_answered, made, part_made, parts_made, removed}
use Rattle.ipc_commands.specs.Removals.{get_of}
use Rattle.ipcsh.specs.Leading.{Leads}
use Rattle.ipcsh.specs.Output.{CarriesOut}
use Rattle.ipcsh.specs.declared.readings.Reading.TheVariants as readings
use Rattle.ipcsh.specs.Session.{Session, history_of, waits}

abbrev progress : Session → List ℕ → List Bool → Progress
progress s rows refusals = record { session = s; rows = rows; refusals = refusals }

-- nothing was done
pub Leads-none : {A : Type 0} (steps ends : Progress → A) (s : Session) (rows : List ℕ) → ((p : Progress) → p.session ≡ s → steps p ≡ ends p) → Leads steps ends s s rows rows
Leads-none steps ends s rows same = record {
  used = [];
  printed = [];
  rows = sym (append-nil rows);
  leads = λ before refusals. same (progress s before refusals) refl ∙ ap (λ bs. ends (progress s bs refusals)) (sym (append-nil before));
}

-- one after another
pub Leads-then : {A B : Type 0} (first : Progress → A) (middle : Progress → A) (second : A → B) (ends : Progress → B) (old mid new : Session) (old_rows mid_rows new_rows : List ℕ)
    → Leads first middle old mid old_rows mid_rows → Leads (λ p. second (middle p)) ends mid new mid_rows new_rows
    → Leads (λ p. second (first p)) ends old new old_rows new_rows
Leads-then first middle second ends old mid new old_rows mid_rows new_rows a b = record {
  used = a.used ++ b.used;
  printed = a.printed ++ b.printed;
  rows = b.rows ∙ ap (λ bs. bs ++ b.printed) a.rows ∙ append_assoc old_rows a.printed b.printed;
  leads = λ before refusals.
      ap (λ rs. second (first (progress old before rs))) (append_assoc a.used b.used refusals)
      ∙ ap second (a.leads before (b.used ++ refusals))
      ∙ b.leads (before ++ a.printed) refusals
      ∙ ap (λ bs. ends (progress new bs refusals)) (append_assoc before a.printed b.printed);
}

-- a client that waits makes no call
pub made-waits : (client : ℕ) (call : Call) (p : Progress) → waits p.session client ≡ true → made client call p ≡ (p, None)
unfolding made
made-waits client call p busy = rw busy refl

pub Leads-waits : (client : ℕ) (call : Call) (s : Session) (rows : List ℕ) → waits s client ≡ true → Leads (made client call) (λ p. (p, None)) s s rows rows
Leads-waits client call s rows busy =
    Leads-none (made client call) (λ p. (p, None)) s rows (λ p is. made-waits client call p (ap (λ (t : Session). waits t client) is ∙ busy))

-- a call that is made, or for which memory is refused
pub Leads-called : (client : ℕ) (call : Call) (refused : Bool) (old new : Session) (old_rows new_rows : List ℕ) (id : Option ℕ)
    → waits old client ≡ false
    → new ≡ (called old client call (history_of old) refused).session
    → new_rows ≡ old_rows ++ (called old client call (history_of old) refused).rows
    → id ≡ id_answered (called old client call (history_of old) refused).reply
    → Leads (made client call) (λ p. (p, id)) old new old_rows new_rows
unfolding made
Leads-called client call refused old new old_rows new_rows id free session rows is =
    let c = called old client call (history_of old) refused in
    record {
      used = refused ∷ [];
      printed = c.rows;
      rows = rows;
      leads = λ before refusals. rw free (λ i. (progress (sym session i) (before ++ c.rows) refusals, sym is i));
    }

-- the parts of a line
pub Leads-plain : (client : ℕ) (call : Call) (id : Option ℕ) (old new : Session) (old_rows new_rows : List ℕ)
    → Leads (made client call) (λ p. (p, id)) old new old_rows new_rows
    → Leads (λ p. part_made client p (Plain call)) (λ p. p) old new old_rows new_rows
unfolding part_made
Leads-plain client call id old new old_rows new_rows h = record {
  used = h.used;
  printed = h.printed;
  rows = h.rows;
  leads = λ before refusals. ap (λ (a : Progress × Option ℕ). a.0) (h.leads before refusals);
}

pub Leads-not_found : (client : ℕ) (kind : Kind) (key : ℕ) (old new : Session) (old_rows new_rows : List ℕ)
    → Leads (made client (get_of kind key)) (λ p. (p, None)) old new old_rows new_rows
    → Leads (λ p. part_made client p (RemoveByKey kind key)) (λ p. p) old new old_rows new_rows
unfolding part_made
Leads-not_found client kind key old new old_rows new_rows h = record {
  used = h.used;
  printed = h.printed;
  rows = h.rows;
  leads = λ before refusals. ap (removed client kind) (h.leads before refusals);
}

pub Leads-found : (client : ℕ) (kind : Kind) (key id : ℕ) (last : Option ℕ) (old mid new : Session) (old_rows mid_rows new_rows : List ℕ)
    → Leads (made client (get_of kind key)) (λ p. (p, Some id)) old mid old_rows mid_rows
    → Leads (made client (IpcRmid kind id)) (λ p. (p, last)) mid new mid_rows new_rows
    → Leads (λ p. part_made client p (RemoveByKey kind key)) (λ p. p) old new old_rows new_rows
unfolding part_made
Leads-found client kind key id last old mid new old_rows mid_rows new_rows a b =
    Leads-then (made client (get_of kind key)) (λ p. (p, Some id)) (removed client kind) (λ p. p) old mid new old_rows mid_rows new_rows a (record {
      used = b.used;
      printed = b.printed;
      rows = b.rows;
      leads = λ before refusals. ap (λ (a : Progress × Option ℕ). a.0) (b.leads before refusals);
    })

-- one more part
pub Leads-more : (client : ℕ) (parts : List Part) (part : Part) (old mid new : Session) (old_rows mid_rows new_rows : List ℕ)
    → Leads (parts_made client parts) (λ p. p) old mid old_rows mid_rows
    → Leads (λ p. part_made client p part) (λ p. p) mid new mid_rows new_rows
    → Leads (parts_made client (parts ++ part ∷ [])) (λ p. p) old new old_rows new_rows
Leads-more client parts part old mid new old_rows mid_rows new_rows a b =
    let h = Leads-then (parts_made client parts) (λ p. p) (λ p. part_made client p part) (λ p. p) old mid new old_rows mid_rows new_rows a b in
    record {
      used = h.used;
      printed = h.printed;
      rows = h.rows;
      leads = λ before refusals. fold_push (part_made client) (progress old before (h.used ++ refusals)) parts part ∙ h.leads before refusals;
    }

-- a line whose parts lead somewhere is carried out
pub CarriesOut-parts : (client : ℕ) (parts : List Part) (old new : Session) (old_rows new_rows : List ℕ)
    → Leads (parts_made client parts) (λ p. p) old new old_rows new_rows
    → CarriesOut old (readings.Command client parts) new old_rows new_rows
CarriesOut-parts client parts old new old_rows new_rows h =
    let e = h.leads [] [] in (
      h.used ++ [],
      record { session = ap (λ (p : Progress). p.session) (sym e); rows = h.rows ∙ ap (λ (p : Progress). old_rows ++ p.rows) (sym e) },
    )
