-- What is done for others leaves a connection as it was, but for the reply to its request that waits.
use Rattle.std.proofs.Common.{◌≡◌, ◌≢◌, ℕ, zero, suc, ◌+◌, ◌≤◌, Bool, true, false, List, [], ◌∷◌, ◌++◌, Option, Some, None, length, replicate, refl, sym, ap, ◌∙◌, arith, map, get_or, set, append_assoc, append-nil}
use Rattle.std.specs.Prelude.{◌==◌, if◌then◌else◌, slice_index_or}
use Rattle.std.specs.List.{list_any}
use Rattle.std.proofs.lemmas.Bool.{eq-eqb, eqb-true, false≢true, true≢false}
use Rattle.std.proofs.lemmas.List.{get_or-set_other}
use Rattle.ipc_call.specs.declared.calls.Call.{Call}
use Rattle.ipc_call.specs.declared.replies.Completion.{Completion}
use Rattle.ipc_call.specs.declared.replies.Reply.{Reply}
use Rattle.ipc_history.specs.History.{IsLegal, ReplyTo, replies_to_ended, reply_of}
use Rattle.ipc_model.specs.Decide.{can_wait}
use Rattle.ipc_model.specs.State.{is_waiting}
use Rattle.ipc_server.specs.declared.outputs.Output.{Output}
use Rattle.ipc_server.specs.declared.outputs.Output.TheVariants as outputs
use Rattle.ipc_server.specs.declared.outputs.Pass.{Pass}
use Rattle.ipc_server.specs.declared.peers.Conn.{Conn}
use Rattle.ipc_server.specs.declared.peers.Conn.TheVariants.{Absent, Silent, Member}
use Rattle.ipc_server.specs.declared.peers.Peer.{Peer}
use Rattle.ipc_server.specs.declared.peers.Role.{Role}
use Rattle.ipc_server.specs.declared.peers.Role.TheVariants.{Free, Lead, Lent, Child}
use Rattle.ipc_server.specs.Going.{Went, says, stays}
use Rattle.ipc_server.specs.Making.{applies, asked, asked_as, asked_on, made, makes, may_make, others_told, replies_told, reply_on, result, with_memory}
use Rattle.ipc_server.specs.Servers.{Server, conn_at, is_member, role_at, state, with_conn, with_role}
use Rattle.ipc_space.proofs.Balance.{ends_of}
use Rattle.ipc_wire.specs.declared.told.Told.{Told}
use Rattle.server_laws.specs.Telling.{answered_on, seq_in, waiting_in, waiting_on}
use Rattle.server_laws.proofs.Counts.{one}
use Rattle.server_laws.proofs.Memory.{holding}
use Rattle.server_laws.proofs.Moves.{joined}
use Rattle.server_laws.proofs.Waiting.{even_others, idle_applied, legal_made, one_true}

-- the role of a client that is lent to a connection
abbrev pub lent_to : ℕ → Role → Bool
lent_to conn (Lent to) = to == conn
lent_to conn role = false

pub lent_is : (conn : ℕ) (role : Role) → lent_to conn role ≡ true → role ≡ Lent conn
lent_is conn (Lent to) is = ap (λ (k : ℕ). Lent k) (eqb-true to conn is)
lent_is conn Free is = absurd (false≢true is)
lent_is conn Lead is = absurd (false≢true is)
lent_is conn (Child token euid) is = absurd (false≢true is)

pub lent_so : (conn : ℕ) (role : Role) → role ≡ Lent conn → lent_to conn role ≡ true
lent_so conn role is = ap (λ (r : Role). lent_to conn r) is ∙ eq-eqb conn conn refl

-- the replies to a connection among what is given
module _ (c : ℕ) where
  pub answered-append : (xs ys : List Output) → answered_on c (xs ++ ys) ≡ answered_on c xs ++ answered_on c ys
  answered-append [] ys = refl
  answered-append (x ∷ xs) ys = ap (λ (l : List ℕ). seq_in c x ++ l) (answered-append xs ys) ∙ sym (append_assoc (seq_in c x) (answered_on c xs) (answered_on c ys))

  pub seq_apart : (d seq : ℕ) (what : Told) (with_it : Pass) → (d == c) ≡ false → seq_in c (outputs.Reply d seq what with_it) ≡ []
  seq_apart d seq what with_it apart = ap (λ (b : Bool). if b then seq ∷ [] else []) apart

  pub seq_here : (seq : ℕ) (what : Told) (with_it : Pass) → seq_in c (outputs.Reply c seq what with_it) ≡ seq ∷ []
  seq_here seq what with_it = ap (λ (b : Bool). if b then seq ∷ [] else []) (eq-eqb c c refl)

  abbrev seq_on : Option (ℕ × ℕ) → List ℕ
  seq_on None = []
  seq_on (Some on) = if on.0 == c then on.1 ∷ [] else []

  told_on : (what : Reply) (on : Option (ℕ × ℕ)) → answered_on c (reply_on what on) ≡ seq_on on
  told_on what None = refl
  told_on what (Some on) = append-nil (if on.0 == c then on.1 ∷ [] else [])

  apart_on : (d : ℕ) → (d == c) ≡ false → (x : Conn) → seq_on (asked_on d x) ≡ []
  apart_on d apart Absent = refl
  apart_on d apart (Silent peer) = refl
  apart_on d apart (Member peer client seq) = ap (λ (b : Bool). if b then seq ∷ [] else []) apart

  module _ (conns : List Conn) where
    -- one that has a client is told by that
    role_on : (peer : Peer) (client seq : ℕ) → slice_index_or conns c Absent ≡ Member peer client seq → (role : Role)
        → seq_on (asked_as conns role) ≡ (if lent_to c role then seq ∷ [] else [])
    role_on peer client seq is Free = refl
    role_on peer client seq is Lead = refl
    role_on peer client seq is (Child token euid) = refl
    role_on peer client seq is (Lent d) = by (d == c) refl
      where
        by : (b : Bool) → (d == c) ≡ b → seq_on (asked_on d (slice_index_or conns d Absent)) ≡ (if (d == c) then seq ∷ [] else [])
        by true same = ap (λ (x : Conn). seq_on (asked_on d x)) (ap (λ (k : ℕ). slice_index_or conns k Absent) (eqb-true d c same) ∙ is)
        by false apart = apart_on d apart (slice_index_or conns d Absent) ∙ sym (ap (λ (b : Bool). if b then seq ∷ [] else []) apart)

    -- and another not at all
    unmember_on : (d : ℕ) (x : Conn) → is_member x ≡ false → seq_on (asked_on d x) ≡ []
    unmember_on d Absent none = refl
    unmember_on d (Silent peer) none = refl
    unmember_on d (Member peer client seq) none = absurd (true≢false none)

    role_off : is_member (slice_index_or conns c Absent) ≡ false → (role : Role) → seq_on (asked_as conns role) ≡ []
    role_off none Free = refl
    role_off none Lead = refl
    role_off none (Child token euid) = refl
    role_off none (Lent d) = by (d == c) refl
      where
        by : (b : Bool) → (d == c) ≡ b → seq_on (asked_on d (slice_index_or conns d Absent)) ≡ []
        by true same = unmember_on d (slice_index_or conns d Absent) (ap (λ (k : ℕ). is_member (slice_index_or conns k Absent)) (eqb-true d c same) ∙ none)
        by false apart = apart_on d apart (slice_index_or conns d Absent)

    module _ (roles : List Role) where
      abbrev told : ℕ → ℕ → List Completion → List (ℕ × Reply)
      told place turn es = map (λ (r : ReplyTo). (r.client, reply_of r)) (replies_to_ended place turn es)

      pub answered_off : is_member (slice_index_or conns c Absent) ≡ false → (tos : List (ℕ × Reply)) → answered_on c (replies_told conns roles tos) ≡ []
      answered_off none [] = refl
      answered_off none (to ∷ tos) =
          answered-append (reply_on to.1 (asked conns roles to.0)) (replies_told conns roles tos)
          ∙ ap (λ (l : List ℕ). l ++ answered_on c (replies_told conns roles tos)) (told_on to.1 (asked conns roles to.0) ∙ role_off none (slice_index_or roles to.0 Free))
          ∙ answered_off none tos

      pub answered_as : (peer : Peer) (client seq : ℕ) → slice_index_or conns c Absent ≡ Member peer client seq
          → lent_to c (slice_index_or roles client Free) ≡ true → (place turn : ℕ) (es : List Completion)
          → ((k : ℕ) → lent_to c (slice_index_or roles k Free) ≡ true → 1 ≤ ends_of k es → k ≡ client)
          → answered_on c (replies_told conns roles (told place turn es)) ≡ replicate (ends_of client es) seq
      answered_as peer client seq is lent place turn [] only = refl
      answered_as peer client seq is lent place turn (e ∷ es) only =
          answered-append (reply_on what (asked conns roles e.client)) rest
          ∙ ap (λ (l : List ℕ). l ++ answered_on c rest) (told_on what (asked conns roles e.client) ∙ role_on peer client seq is (slice_index_or roles e.client Free))
          ∙ by (e.client == client) refl (answered_as peer client seq is lent place (turn + 1) es (λ k to some. only k to (omega (arith, some))))
        where
          what : Reply
          what = reply_of (record { client = e.client; place = place; turn = turn; outcome = e.outcome })

          rest : List Output
          rest = replies_told conns roles (told place (turn + 1) es)

          front : List ℕ
          front = if lent_to c (slice_index_or roles e.client Free) then seq ∷ [] else []

          off : (b : Bool) → lent_to c (slice_index_or roles e.client Free) ≡ b → (e.client == client) ≡ false → front ≡ []
          off true to apart =
              let self = ap one (eq-eqb e.client e.client refl) in
              absurd (false≢true (sym apart ∙ eq-eqb e.client client (only e.client to (omega (arith, self)))))
          off false to apart = ap (λ (b : Bool). if b then seq ∷ [] else []) to

          by : (b : Bool) → (e.client == client) ≡ b → answered_on c rest ≡ replicate (ends_of client es) seq → front ++ answered_on c rest ≡ replicate (ends_of client (e ∷ es)) seq
          by true same later =
              let here : lent_to c (slice_index_or roles e.client Free) ≡ true = ap (λ (k : ℕ). lent_to c (slice_index_or roles k Free)) (eqb-true e.client client same) ∙ lent in
              let more : suc (ends_of client es) ≡ ends_of client (e ∷ es) = (let first = ap one same in omega (arith, first)) in
              ap (λ (b : Bool). (if b then seq ∷ [] else []) ++ answered_on c rest) here ∙ ap (λ (l : List ℕ). seq ∷ l) later ∙ ap (λ (n : ℕ). replicate n seq) more
          by false apart later =
              let same : ends_of client es ≡ ends_of client (e ∷ es) = (let first = ap one apart in omega (arith, first)) in
              ap (λ (l : List ℕ). l ++ answered_on c rest) (off (lent_to c (slice_index_or roles e.client Free)) refl apart) ∙ later ∙ ap (λ (n : ℕ). replicate n seq) same

-- what waits is told, or waits on
pub waits_even : (before later : Bool) (n seq : ℕ) → one later + n ≡ one before → (if before then seq ∷ [] else []) ≡ replicate n seq ++ (if later then seq ∷ [] else [])
waits_even true true zero seq even = refl
waits_even true true (suc n) seq even = absurd (omega (arith, even))
waits_even true false zero seq even = absurd (omega (arith, even))
waits_even true false (suc zero) seq even = refl
waits_even true false (suc (suc n)) seq even = absurd (omega (arith, even))
waits_even false true n seq even = absurd (omega (arith, even))
waits_even false false zero seq even = refl
waits_even false false (suc n) seq even = absurd (omega (arith, even))

module _ (c : ℕ) where
  -- its client is lent to it, and no other is that waits
  pub record IsOwn (s : Server) (client : ℕ) : Type 0 where
    pub lent : lent_to c (role_at s client) ≡ true
    pub alone : (other : ℕ) → is_waiting (state s) other ≡ true → lent_to c (role_at s other) ≡ true → other ≡ client

  pub record At (s : Server) : Type 0 where
    pub legal : IsLegal s.history
    pub own : (peer : Peer) (client seq : ℕ) → conn_at s c ≡ Member peer client seq → IsOwn s client

  pub record Kept (s : Server) (w : Went) : Type 0 where
    pub conn : conn_at w.server c ≡ conn_at s c
    pub at : At w.server
    pub even : waiting_on s c ≡ answered_on c w.outputs ++ waiting_on w.server c
    pub idle : (r : ℕ) → is_waiting (state s) r ≡ false → is_waiting (state w.server) r ≡ false

  pub kept_still : (s : Server) → At s → Kept s (stays s)
  kept_still s at = record { conn = refl; at = at; even = refl; idle = λ r is. is }

  pub kept_says : (s : Server) (o : Output) → seq_in c o ≡ [] → At s → Kept s (says o s)
  kept_says s o none at = record { conn = refl; at = at; even = sym (ap (λ (l : List ℕ). (l ++ []) ++ waiting_on s c) none); idle = λ r is. is }

  pub kept_then : {s : Server} {v w : Went} → Kept s v → (At v.server → Kept v.server w) → Kept s (joined v w)
  kept_then {s} {v} {w} first go =
      let next = go first.at in record {
        conn = next.conn ∙ first.conn;
        at = next.at;
        even = first.even ∙ ap (λ (l : List ℕ). answered_on c v.outputs ++ l) next.even
            ∙ sym (append_assoc (answered_on c v.outputs) (answered_on c w.outputs) (waiting_on w.server c))
            ∙ ap (λ (l : List ℕ). l ++ waiting_on w.server c) (sym (answered-append c v.outputs w.outputs));
        idle = λ r is. next.idle r (first.idle r is);
      }

  pub kept_if : {s : Server} {v w : Went} (b : Bool) → Kept s v → Kept s w → Kept s (if b then v else w)
  kept_if true m n = m
  kept_if false m n = n

  -- a call that can't wait, or that is of a client lent to another connection
  module _ (s : Server) (now client : ℕ) (call : Call) (at : At s) (may : may_make s client ≡ true)
      (turns : (r : ℕ) → lent_to c (role_at s r) ≡ true → one (is_waiting (state (made now client call s)) r) + ends_of r (result now client call s).ended ≡ one (is_waiting (state s) r)) where
    abbrev t : Server
    t = made now client call s

    was_waiting : (r : ℕ) → lent_to c (role_at s r) ≡ true → 1 ≤ one (is_waiting (state t) r) + ends_of r (result now client call s).ended → is_waiting (state s) r ≡ true
    was_waiting r lent some = let even = turns r lent in one_true (is_waiting (state s) r) (omega (arith, even, some))

    pub at_made : At t
    at_made = record {
      legal = legal_made s now client call at.legal may;
      own = λ peer own seq is. (let mine = at.own peer own seq is in record {
        lent = mine.lent;
        alone = λ other waits lent. mine.alone other (was_waiting other lent (let some = ap one waits in omega (arith, some))) lent;
      });
    }

    even_in : (x : Conn) → conn_at s c ≡ x → waiting_in (state s) x ≡ answered_on c (applies now client call s).outputs ++ waiting_in (state t) x
    even_in Absent is = sym (ap (λ (l : List ℕ). l ++ []) (answered_off c s.conns s.roles (ap is_member is) (others_told now client call s)))
    even_in (Silent peer) is = sym (ap (λ (l : List ℕ). l ++ []) (answered_off c s.conns s.roles (ap is_member is) (others_told now client call s)))
    even_in (Member peer own seq) is =
        let mine = at.own peer own seq is in
        let es = (result now client call s).ended in
        waits_even (is_waiting (state s) own) (is_waiting (state t) own) (ends_of own es) seq (turns own mine.lent)
        ∙ ap (λ (l : List ℕ). l ++ waiting_in (state t) (Member peer own seq))
        (sym (answered_as c s.conns s.roles peer own seq is mine.lent (length s.history.events + 1) 1 es
        (λ k lent some. mine.alone k (was_waiting k lent (omega (arith, some))) lent)))

    pub even_applied : waiting_on s c ≡ answered_on c (applies now client call s).outputs ++ waiting_on t c
    even_applied = even_in (conn_at s c) refl

  kept_may : (now client : ℕ) (call : Call) (s : Server) → can_wait call ≡ false → At s → (b : Bool) → may_make s client ≡ b → Kept s (if b then applies now client call s else stays s)
  kept_may now client call s never at true may =
      let turns = λ (r : ℕ) (lent : lent_to c (role_at s r) ≡ true). even_others s now client call at.legal may never r in record {
        conn = refl;
        at = at_made s now client call at may turns;
        even = even_applied s now client call at may turns;
        idle = λ r is. idle_applied s now client call at.legal may never r is;
      }
  kept_may now client call s never at false may = kept_still s at

  pub kept_makes : (now client : ℕ) (call : Call) (s : Server) → can_wait call ≡ false → At s → Kept s (makes now client call s)
  kept_makes now client call s never at = kept_may now client call s never at (may_make s client) refl

  -- another connection becomes what it may
  apart_not : (d : ℕ) → (d == c) ≡ false → c ≢ d
  apart_not d apart same = true≢false (sym (eq-eqb d c (sym same)) ∙ apart)

  pub kept_sets : (s : Server) (d : ℕ) (x : Conn) → (d == c) ≡ false → At s → Kept s (stays (with_conn s d x))
  kept_sets s d x apart at =
      let same : conn_at (with_conn s d x) c ≡ conn_at s c = get_or-set_other s.conns d c x Absent (apart_not d apart) in record {
        conn = same;
        at = record { legal = at.legal; own = λ peer own seq is. (let mine = at.own peer own seq (sym same ∙ is) in record { lent = mine.lent; alone = mine.alone }) };
        even = ap (λ (y : Conn). waiting_in (state s) y) (sym same);
        idle = λ r is. is;
      }

  -- another client
  abbrev pub Apart : Server → ℕ → Type 0
  Apart s k = (peer : Peer) (client seq : ℕ) → conn_at s c ≡ Member peer client seq → client ≢ k

  set_lent : (xs : List Role) (k o : ℕ) (r : Role) → lent_to c r ≡ false → lent_to c (get_or (set xs k r) o Free) ≡ true → lent_to c (get_or xs o Free) ≡ true
  set_lent [] k o r other lent = lent
  set_lent (x ∷ xs) zero zero r other lent = absurd (false≢true (sym other ∙ lent))
  set_lent (x ∷ xs) zero (suc o) r other lent = lent
  set_lent (x ∷ xs) (suc k) zero r other lent = lent
  set_lent (x ∷ xs) (suc k) (suc o) r other lent = set_lent xs k o r other lent

  pub kept_turns : (s : Server) (k : ℕ) (role : Role) → Apart s k → lent_to c role ≡ false → At s → Kept s (stays (with_role s k role))
  kept_turns s k role apart other at = record {
    conn = refl;
    at = record {
      legal = at.legal;
      own = λ peer own seq is. (let mine = at.own peer own seq is in record {
        lent = ap (λ (r : Role). lent_to c r) (get_or-set_other s.roles k own role Free (apart peer own seq is)) ∙ mine.lent;
        alone = λ o waits lent. mine.alone o waits (set_lent s.roles k o role other lent);
      });
    };
    even = refl;
    idle = λ r is. is;
  }

  kept_holding : (s : Server) (segment : ℕ) (b : Bool) → At s → Kept s (holding s segment b)
  kept_holding s segment true at = kept_still s at
  kept_holding s segment false at = record { conn = refl; at = record { legal = at.legal; own = λ peer own seq is. (let mine = at.own peer own seq is in record { lent = mine.lent; alone = mine.alone }) }; even = refl; idle = λ r is. is }

  pub kept_memory : (s : Server) (segment : ℕ) → At s → Kept s (with_memory segment s)
  kept_memory s segment at = kept_holding s segment (list_any (λ own. own == segment) s.memory) at
