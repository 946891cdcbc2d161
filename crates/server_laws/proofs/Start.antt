-- At the start a server has one client that lives, its own.
use Rattle.std.proofs.Common.{◌≡◌, ◌≢◌, ℕ, zero, suc, ◌+◌, ◌-◌, ◌<◌, ◌≤◌, Bool, true, false, List, [], ◌∷◌, ◌++◌, length, replicate, refl, sym, ap, ◌∙◌, arith, get_or, subst}
use Rattle.std.specs.Prelude.{◌==◌}
use Rattle.std.proofs.lemmas.Bool.{eq-eqb, eqb-true, true≢false}
use Rattle.std.proofs.lemmas.Option.{none-some}
use Rattle.std.proofs.lemmas.List.{length-replicate}
use Rattle.ipc_call.specs.declared.calls.Call.TheVariants.{Exit, Name}
use Rattle.ipc_call.specs.declared.limits.Limits.{Limits}
use Rattle.ipc_creds.specs.Credentials.{Credentials, cap_sys_admin, has_capability}
use Rattle.ipc_history.specs.History.{History, IsLegal, run}
use Rattle.ipc_model.specs.Step.{Event}
use Rattle.ipc_model.specs.State.{Thread, creds_at, has_exited, is_waiting, nobody, opening, process_at, runs, thread_at}
use Rattle.ipc_server.specs.declared.peers.Bounds.{Bounds}
use Rattle.ipc_server.specs.declared.peers.Conn.TheVariants.{Absent}
use Rattle.ipc_server.specs.declared.peers.Role.TheVariants.{Free}
use Rattle.ipc_server.specs.Making.{may_make}
use Rattle.ipc_server.specs.Openings.{held_by, opened, supervisor_creds}
use Rattle.ipc_server.specs.Servers.{Server, is_member, peer_in}
use Rattle.ipc_space.specs.Openings.{exit_of, exits}
use Rattle.ipc_space.proofs.Exits.{exits-more, free-of, run-more}
use Rattle.ipc_space.proofs.Histories.{clients-run, legal-push}
use Rattle.life_laws.specs.Lives.{Exits, IsThread, Renames, event}
use Rattle.life_laws.proofs.Changed.{runs-from, runs-parts}
use Rattle.life_laws.proofs.Openings.{first-thread}
use Rattle.life_laws.proofs.Starts.{exit-run, name-run}
use Rattle.server_laws.proofs.Order.{Ord, conn_in, k_first, lives_known, may_idle, none}
use Rattle.server_laws.proofs.Waiting.{idle_applied, legal_made}

pub get_replicate : {X : Type 0} (x : X) (n i : ℕ) → get_or (replicate n x) i x ≡ x
get_replicate x zero i = refl
get_replicate x (suc n) zero = refl
get_replicate x (suc n) (suc i) = get_replicate x n i

first_replicate : {X : Type 0} (x d : X) (n : ℕ) → 1 ≤ n → get_or (replicate n x) 0 d ≡ x
first_replicate x d zero some = absurd (omega (arith, some))
first_replicate x d (suc n) some = refl

module _ (limits : Limits) (n : ℕ) (some : 1 ≤ n) where
  abbrev all : List Credentials
  all = replicate n supervisor_creds

  many : length all ≡ n
  many = length-replicate n supervisor_creds

  abbrev past : List Event → History
  past es = record { limits = limits; clients = all; events = es }

  -- so many have exited
  record AreGone (k : ℕ) (es : List Event) : Type 0 where
    legal : IsLegal (past es)
    quiet : (run (past es)).parked ≡ []
    first : has_exited (run (past es)) 0 ≡ false
    creds : creds_at (run (past es)) 0 ≡ supervisor_creds
    ended : (r : ℕ) → 1 ≤ r → r < k + 1 → has_exited (run (past es)) r ≡ true
    lives : (r : ℕ) → k + 1 ≤ r → r < n → has_exited (run (past es)) r ≡ false

  gone_none : AreGone 0 []
  gone_none = record {
    legal = tt;
    quiet = refl;
    first = (first-thread limits all 0 (omega (arith, some, many))).lives;
    creds = (first-thread limits all 0 (omega (arith, some, many))).creds ∙ first_replicate supervisor_creds nobody n some;
    ended = λ r low below. absurd (omega (arith, low, below));
    lives = λ r low below. (first-thread limits all r (omega (arith, below, many))).lives;
  }

  module _ (k : ℕ) (below : k + 1 < n) (es : List Event) (was : AreGone k es) where
    abbrev x : ℕ
    x = 1 + k

    abbrev h : History
    h = past es

    x_lives : has_exited (run h) x ≡ false
    x_lives = was.lives x (omega arith) (omega (arith, below))

    did : Exits h (event 0 x Exit) x
    did = exit-run h 0 x x_lives (omega (arith, below, many))

    gone_one : AreGone (k + 1) (es ++ exit_of x ∷ [])
    gone_one = record {
      legal = legal-push (opening limits all) es (exit_of x) was.legal (record {
        known = (let same = clients-run (opening limits all) es in omega (arith, same, below, many));
        free = free-of (run h) x was.quiet;
      });
      quiet = run-more h x was.quiet;
      first = ap (λ (t : Thread). t.has_ended) (did.others 0 (λ same. absurd (omega (arith, same)))).thread ∙ was.first;
      creds = (did.others 0 (λ same. absurd (omega (arith, same)))).creds ∙ was.creds;
      ended = λ r low high. ended_by r low high (r == x) refl;
      lives = λ r low high. ap (λ (t : Thread). t.has_ended) (did.others r (λ same. absurd (omega (arith, same, low)))).thread ∙ was.lives r (omega (arith, low)) high;
    }
      where
        ended_by : (r : ℕ) → 1 ≤ r → r < k + 1 + 1 → (b : Bool) → (r == x) ≡ b → has_exited (run (past (es ++ exit_of x ∷ []))) r ≡ true
        ended_by r low high true same = ap (λ (i : ℕ). has_exited (run (past (es ++ exit_of x ∷ []))) i) (eqb-true r x same) ∙ ap (λ (t : Thread). t.has_ended) did.ended.thread
        ended_by r low high false other =
            let apart : r ≢ x = (λ same. true≢false (sym (eq-eqb r x same) ∙ other)) in
            ap (λ (t : Thread). t.has_ended) (did.others r apart).thread ∙ was.ended r low (omega (arith, high, apart))

  gone_all : (k : ℕ) → k < n → AreGone k (exits 1 k)
  gone_all zero below = gone_none
  gone_all (suc k) below =
      let more : k + 1 ≡ suc k = omega arith in
      subst (λ (i : ℕ). AreGone i (exits 1 i)) more
      (subst (λ (es : List Event). AreGone (k + 1) es) (exits-more 1 k) (gone_one k (omega (arith, below)) (exits 1 k) (gone_all k (omega (arith, below)))))

  -- and its own has a pid that no process has
  abbrev front : List Event
  front = exits 1 (n - 1)

  all_gone : AreGone (n - 1) front
  all_gone = gone_all (n - 1) (omega (arith, some))

  abbrev before : History
  before = past front

  abbrev naming : Event
  naming = event 0 0 (Name 2147483648)

  others_gone : (r : ℕ) → has_exited (run before) r ≡ false → r ≡ 0
  others_gone r live = by (r == 0) refl
    where
      by : (b : Bool) → (r == 0) ≡ b → r ≡ 0
      by true same = eqb-true r 0 same
      by false other =
          let apart : r ≢ 0 = (λ same. true≢false (sym (eq-eqb r 0 same) ∙ other)) in
          let known = lives_known before r live in
          absurd (true≢false (sym (all_gone.ended r (omega (arith, apart)) (omega (arith, known, many, some))) ∙ live))

  renames : Renames before naming (process_at (run before) 0) 2147483648
  renames = name-run before 0 0 all_gone.first 2147483648 (omega arith) (λ r live same. ap (λ (i : ℕ). process_at (run before) i) (others_gone r live))

  module _ (conns : ℕ) (bounds : Bounds) where
    abbrev start : Server
    start = held_by before conns bounds

    abbrev server : Server
    server = opened limits n conns bounds

    may_start : may_make start 0 ≡ true
    may_start = may_idle start 0 all_gone.first (free-of (run before) 0 all_gone.quiet)

    own_thread : IsThread (run server.history) 0 (process_at (run before) 0) 2147483648 (creds_at (run before) 0)
    own_thread = renames.threads 0 (runs-from (process_at (run before) 0) (thread_at (run before) 0) refl all_gone.first)

    ended_still : (r : ℕ) → has_exited (run before) r ≡ true → has_exited (run server.history) r ≡ true
    ended_still r ended = ap (λ (t : Thread). t.has_ended) (renames.others r (off (runs (process_at (run before) 0) (thread_at (run before) r)) refl)).thread ∙ ended
      where
        off : (b : Bool) → runs (process_at (run before) 0) (thread_at (run before) r) ≡ b → b ≡ false
        off false is = refl
        off true is = absurd (true≢false (sym ended ∙ (runs-parts (process_at (run before) 0) (thread_at (run before) r) is).1))

    only_first : (r : ℕ) → has_exited (run server.history) r ≡ false → r ≡ 0
    only_first r live = by (has_exited (run before) r) refl
      where
        by : (b : Bool) → has_exited (run before) r ≡ b → r ≡ 0
        by false lives = others_gone r lives
        by true ended = absurd (true≢false (sym (ended_still r ended) ∙ live))

    nobody_waits : (r : ℕ) → is_waiting (run server.history) r ≡ false
    nobody_waits r = idle_applied start 0 0 (Name 2147483648) all_gone.legal may_start refl r (free-of (run before) r all_gone.quiet)

    no_conn : (c : ℕ) → conn_in server.conns c ≡ Absent
    no_conn c = get_replicate Absent conns c

    pub opened_ord : Ord none server
    opened_ord = record {
      legal = legal_made start 0 0 (Name 2147483648) all_gone.legal may_start;
      many = length-replicate (length all) Free;
      first = record {
        outside = refl;
        lives = own_thread.lives;
        role = get_replicate Free (length all) 0;
        pid_is = own_thread.pid;
        admin = ap (λ (c : Credentials). has_capability c cap_sys_admin) (own_thread.creds ∙ all_gone.creds);
      };
      waits = λ r out waits. absurd (true≢false (sym waits ∙ nobody_waits r));
      lent = λ c peer client seq is. absurd (true≢false (sym (ap is_member is) ∙ ap is_member (no_conn c)));
      peers = λ c peer is. absurd (none-some peer (sym (ap peer_in (no_conn c)) ∙ is));
      kinds = λ r out live. k_first (only_first r live);
    }
