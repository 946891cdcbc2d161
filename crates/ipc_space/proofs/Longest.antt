-- How far rows are a journal: they end where no event brings the next row, or where the rows of one more event part
-- from them.
use Rattle.std.proofs.Common.{◌≡◌, ℕ, ◌+◌, ◌<◌, ◌≤◌, List, [], ◌∷◌, ◌++◌, length, take, drop, sym, ap, ◌∙◌, subst, arith, append_assoc, append-nil, length-append, Some, ⊎_elim, Bool, true, false}
use Rattle.std.specs.Prelude.{slice_get, IfSome}
use Rattle.std.proofs.Math.Seq.{take-length}
use Rattle.std.proofs.lemmas.List.{append_cancel_left, length-take-le, take-append-drop}
use Rattle.std.proofs.lemmas.Bool.{cases_lt, true≢false}
use Rattle.std.proofs.lemmas.Option.{slice_get_within}
use Rattle.ipc_call.specs.declared.limits.Limits.{Limits}
use Rattle.ipc_call.specs.declared.replies.JournalRow.{JournalRow}
use Rattle.ipc_creds.specs.Credentials.{Credentials}
use Rattle.ipc_model.specs.State.{State, opening}
use Rattle.ipc_model.specs.Step.{Event, step}
use Rattle.ipc_history.specs.History.{AreLegalFrom, History, IsLegalAt, rows_by, rows_from, rows_of, run, replies_by, with_event}
use Rattle.ipc_space.specs.Replays.{AreNoJournal, IsHistoryOf, IsPrefix}
use Rattle.ipc_space.specs.Following.{Enters, IsAnswered, call_row}
use Rattle.ipc_space.proofs.Fronts.{answer_rows, append-one, behind-call, event_of, fronts, get-append, get-take, head-cons, head_or, legal-append, nil≢cons, take-longer, take-next, take-one_more}
use Rattle.ipc_space.proofs.Histories.{legal-push, rows_from-append, rows_from-push}

pub entered-not : (old new : History) (row : JournalRow) (b : Bool) → Enters old new row b → b ≡ false → (new ≡ old) × ((e : Event) → IsLegalAt (run old) e → call_row e ≡ row → ⊥)
entered-not old new row true enters is = absurd (true≢false is)
entered-not old new row false enters is = enters

pub entered-so : (old new : History) (row : JournalRow) (b : Bool) → Enters old new row b → b ≡ true → (e : Event) × IsLegalAt (run old) e × (call_row e ≡ row) × (new ≡ with_event old e)
entered-so old new row true enters is = enters
entered-so old new row false enters is = absurd (true≢false (sym is))

-- rows are a prefix of themselves
pub whole : (rows : List JournalRow) (others : List JournalRow) → others ≡ rows → IsPrefix (take (length rows) rows) others
whole rows others is = ([], is ∙ sym (take-length rows) ∙ sym (append-nil (take (length rows) rows)))

-- a history whose rows are the first so many of those given
module _ (limits : Limits) (clients : List Credentials) (journal : List JournalRow) (h : History) (of : IsHistoryOf limits clients h) (n : ℕ) (rows : rows_of h ≡ take n journal) where
  -- what another history that has these rows and one more goes on with
  record GoesOn (g : History) (row : JournalRow) : Type 0 where
    event : Event
    others : List Event
    brings : call_row event ≡ row
    legal : IsLegalAt (run h) event
    opened : g ≡ record h { events = h.events ++ event ∷ others }

  by_events : (g : History) (row : JournalRow) (zs : List JournalRow) (gs : List Event) → g.events ≡ h.events ++ gs → AreLegalFrom (run h) gs → rows_from (length h.events + 1) (run h) gs ≡ row ∷ zs
      → g.limits ≡ h.limits → g.clients ≡ h.clients → GoesOn g row
  by_events g row zs [] is legal after l c = absurd (nil≢cons _ _ after)
  by_events g row zs (e ∷ gs) is legal after l c = record {
    event = e;
    others = gs;
    brings = sym (head-cons (call_row e) (call_row e) _) ∙ ap (head_or (call_row e)) after ∙ head-cons (call_row e) row zs;
    legal = legal.0;
    opened = λ i. record { limits = l i; clients = c i; events = is i };
  }

  goes-on : (g : History) → IsHistoryOf limits clients g → (row : JournalRow) (zs : List JournalRow) → rows_of g ≡ take n journal ++ row ∷ zs → GoesOn g row
  goes-on g other row zs is =
      let same_limits : g.limits ≡ h.limits = other.limited ∙ sym of.limited in
      let same_clients : g.clients ≡ h.clients = other.known ∙ sym of.known in
      let start : opening g.limits g.clients ≡ opening h.limits h.clients = (λ i. opening (same_limits i) (same_clients i)) in
      let here : rows_from 1 (opening h.limits h.clients) g.events ≡ rows_from 1 (opening h.limits h.clients) h.events ++ row ∷ zs =
      ap (λ (s : State). rows_from 1 s g.events) (sym start) ∙ is ∙ ap (λ l. l ++ row ∷ zs) (sym rows) in
      let more = fronts 1 (opening h.limits h.clients) h.events g.events (row ∷ zs) here in
      let legal : AreLegalFrom (opening h.limits h.clients) (h.events ++ more.0) = subst (λ (s : State). AreLegalFrom s (h.events ++ more.0)) start (subst (AreLegalFrom (opening g.limits g.clients)) more.1 other.legal) in
      let after : rows_from (length h.events + 1) (run h) more.0 ≡ row ∷ zs =
      append_cancel_left (rows_of h) _ _ (sym (rows_from-append 1 (opening h.limits h.clients) h.events more.0) ∙ ap (rows_from 1 (opening h.limits h.clients)) (sym more.1) ∙ here) in
      by_events g row zs more.0 more.1 (legal-append (opening h.limits h.clients) h.events more.0 legal) after same_limits same_clients

  -- the next row stands there
  module _ (row : JournalRow) (here : slice_get journal n ≡ Some row) where
    within : n < length journal
    within = slice_get_within journal n row here

    -- a history that has more of the rows goes on with it
    further : (g : History) (other : ℕ) → IsHistoryOf limits clients g → n < other → IsPrefix (take other journal) (rows_of g) → GoesOn g row
    further g other known above prefix =
        let more = take-longer journal n other row above here in
        goes-on g known row (more.0 ++ prefix.0) (prefix.1 ∙ ap (λ l. l ++ prefix.0) more.1 ∙ append_assoc (take n journal) (row ∷ more.0) prefix.0)

    -- and no event that may come there has it
    module _ (stuck : (e : Event) → IsLegalAt (run h) e → call_row e ≡ row → ⊥) where
      no-more : (g : History) (other : ℕ) → IsHistoryOf limits clients g → n < other → IsPrefix (take other journal) (rows_of g) → ⊥
      no-more g other known above prefix = let on = further g other known above prefix in stuck on.event on.legal on.brings

      pub stuck-differs : AreNoJournal limits clients journal n
      stuck-differs =
          let below = within in
          record {
            longest = record {
              within = omega (arith, below);
              begins = (h, of, ([], rows ∙ sym (append-nil (take n journal))));
              most = λ g other known few prefix. ⊎_elim (λ (above : n < other). absurd (no-more g other known above prefix)) (λ (low : other ≤ n). low) (cases_lt n other);
            };
            none = λ g known is. no-more g (length journal) known below (whole journal (rows_of g) is);
          }

  -- one more event, whose call is the next row
  module _ (e : Event) (legal : IsLegalAt (run h) e) (here : slice_get journal n ≡ Some (call_row e)) where
    abbrev longer : History
    longer = with_event h e

    longer-of : IsHistoryOf limits clients longer
    longer-of = record { limited = of.limited; known = of.known; legal = legal-push (opening h.limits h.clients) h.events e of.legal legal }

    longer-rows : rows_of longer ≡ take n journal ++ call_row e ∷ answer_rows (length h.events + 1) (run h) e
    longer-rows = rows_from-push 1 (opening h.limits h.clients) h.events e ∙ ap (λ l. l ++ rows_by (length h.events + 1) e (step (run h) e)) rows

    taken : length (take n journal) ≡ n
    taken = let below = within (call_row e) here in length-take-le n journal (omega (arith, below))

    -- behind the call there are answers alone
    pub answers_behind : (k : ℕ) → n < k → IfSome (slice_get (rows_of longer) k) (λ row. IsAnswered row)
    answers_behind k above =
        let front = taken in
        subst (λ (l : List JournalRow). IfSome (slice_get l k) (λ row. IsAnswered row)) (sym longer-rows)
        (behind-call (take n journal) (call_row e) (replies_by e.client (length h.events + 1) (step (run h) e)) k (omega (arith, above, front)))

    pub long_enough : n + 1 ≤ length (rows_of longer)
    long_enough =
        let front = taken in
        omega (arith, front, ap length longer-rows, length-append (take n journal) (call_row e ∷ answer_rows (length h.events + 1) (run h) e))

    pub one_more : take (n + 1) (rows_of longer) ≡ take (n + 1) journal
    one_more =
        let front = taken in
        ap (take (n + 1)) longer-rows ∙ take-one_more (take n journal) (n + 1) (call_row e) (answer_rows (length h.events + 1) (run h) e) (omega (arith, front)) ∙ sym (take-next journal n (call_row e) here)

    -- any other history with these rows goes on with the event
    begins : (g : History) (other : ℕ) → IsHistoryOf limits clients g → n < other → IsPrefix (take other journal) (rows_of g) → IsPrefix (rows_of longer) (rows_of g)
    begins g other known above prefix =
        let on = further (call_row e) here g other known above prefix in
        let same : on.event ≡ e = event_of on.event e on.brings in
        let events : h.events ++ on.event ∷ on.others ≡ (h.events ++ e ∷ []) ++ on.others = ap (λ (x : Event). h.events ++ x ∷ on.others) same ∙ append-one h.events e on.others in (
          rows_from (length longer.events + 1) (run longer) on.others,
          ap rows_of on.opened ∙ ap (rows_from 1 (opening h.limits h.clients)) events ∙ rows_from-append 1 (opening h.limits h.clients) longer.events on.others,
        )

    -- the rows of the longer history and those given part at a place behind its call, or those given end there
    module _ (k : ℕ) (above : n < k) (in_journal : k ≤ length journal) (in_longer : k < length (rows_of longer)) (alike : take k (rows_of longer) ≡ take k journal)
        (parts : k < length journal → slice_get (rows_of longer) k ≡ slice_get journal k → ⊥) where
      none-further : (g : History) (other : ℕ) → IsHistoryOf limits clients g → k < other → other ≤ length journal → IsPrefix (take other journal) (rows_of g) → ⊥
      none-further g other known past few prefix =
          let begun = begins g other known (omega (arith, above, past)) prefix in
          let theirs : slice_get (rows_of g) k ≡ slice_get (rows_of longer) k = ap (λ l. slice_get l k) begun.1 ∙ get-append (rows_of longer) begun.0 k in_longer in
          let long : length (take other journal) ≡ other = length-take-le other journal few in
          let given : slice_get (rows_of g) k ≡ slice_get journal k = ap (λ l. slice_get l k) prefix.1 ∙ get-append (take other journal) prefix.0 k (omega (arith, long, past)) ∙ get-take journal other k past in
          parts (omega (arith, past, few)) (sym theirs ∙ given)

      no-whole : (g : History) → IsHistoryOf limits clients g → rows_of g ≡ journal → ⊥
      no-whole g known is =
          let begun = begins g (length journal) known (omega (arith, above, in_journal)) (whole journal (rows_of g) is) in
          let long : length journal ≡ length (rows_of longer) + length begun.0 = ap length (sym is ∙ begun.1) ∙ length-append (rows_of longer) begun.0 in
          none-further g (length journal) known (omega (arith, long, in_longer)) (omega arith) (whole journal (rows_of g) is)

      pub parted-differs : AreNoJournal limits clients journal k
      parted-differs = record {
        longest = record {
          within = in_journal;
          begins = (longer, longer-of, (drop k (rows_of longer), sym (take-append-drop k (rows_of longer)) ∙ ap (λ l. l ++ drop k (rows_of longer)) alike));
          most = λ g other known few prefix. ⊎_elim (λ (past : k < other). absurd (none-further g other known past few prefix)) (λ (low : other ≤ k). low) (cases_lt k other);
        };
        none = no-whole;
      }
