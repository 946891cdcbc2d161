-- The splits and merges of seats where what is served is known: the start, and what one client tells another.
use Rattle.std.specs.Prelude.{◌≡◌, ℕ, Bool, false, ◌||◌, ◌&&◌, ◌+◌, ◌<◌, List, [], ◌∷◌, ◌++◌, ◌==◌}
use Rattle.atomic_table.specs.Table.{Splits, Joins, opening}
use Rattle.std.specs.Prelude.{replicate}
use Rattle.pub_rule.specs.declared.served.Served.{Ghosts}
use Rattle.pub_rule.specs.declared.walk.View.{View}
use Rattle.pub_rule.specs.declared.walk.Role.TheVariants as roles
use Rattle.pub_rule.specs.declared.work.Work.{Work}
use Rattle.pub_rule.specs.declared.work.Mark.{Mark}
use Rattle.pub_rule.specs.declared.work.Stage.{Stage}
use Rattle.pub_rule.specs.declared.work.Stage.TheVariants.{Spent, Maker, Away, Free, Asking, Token}
use Rattle.pub_rule.specs.declared.work.Serving.TheVariants.{Nothing}
use Rattle.pub_rule.specs.Words.{word_count}
use Rattle.pub_rule.specs.Rule.{Ruled, slots_of, opening_view}
use Rattle.pub_rule.specs.Steps.{next_maker, newcomer, token, learned, spent}
use Rattle.pub_rule.specs.Work.{IsClient, Serves}

-- whose seat or token it is
abbrev pub owner_of : {C : Type 0} → Stage C → ℕ
owner_of (Away q) = q
owner_of (Free q) = q
owner_of (Asking q c) = q
owner_of (Token q) = q
owner_of _ = 0

-- how many clients have a seat
abbrev pub seats_of : {C : Type 0} → Stage C → ℕ
seats_of (Maker k) = k
seats_of _ = 0

-- whether the post is among those marked
abbrev pub is_marked : ℕ → ℕ → List Mark → Bool
is_marked r k [] = false
is_marked r k (x ∷ xs) = (r == x.client && k == x.post) || is_marked r k xs

-- What the seats know after a split or a merge.
module _ {E C R : Type 0} where
  -- the first seat, which has made none, and saw this history
  abbrev pub opening_work : List E → Work E C R
  opening_work h = record {
    stage = Maker 0;
    holds = false;
    seen = h;
    hearsay = [];
    before = [];
    paid = [];
    serving = Nothing;
    entered = [];
    got = [];
    posts = 0;
    begun = 0;
    met = [];
    heard = [];
    passed = [];
    past = false;
    found = 0;
    closed = [];
  }

  -- nothing is known but whose seat it is, and the history at the start
  abbrev pub starting : Stage C → List E → Work E C R
  starting stage h = record (opening_work h) { stage = stage }

  -- nothing is known but whose seat it is
  abbrev pub blank_work : Stage C → Work E C R
  blank_work stage = starting stage []

  -- split: the first seat makes the next client's
  abbrev pub more_seats : Work E C R → Work E C R
  more_seats v = record v { stage = Maker (seats_of v.stage + 1) }

  abbrev pub new_client : Work E C R → Work E C R
  new_client v = starting (Away (seats_of v.stage)) v.seen

  -- split: a client tells the history that it saw, the number of its posts, and the posts that a combiner is known to
  -- have dealt with
  abbrev pub telling : Work E C R → Work E C R
  telling v = record (blank_work (Token (owner_of v.stage))) { seen = v.seen; posts = v.posts; passed = v.passed }

  -- the last post of a seat's client
  abbrev pub last_post : Work E C R → Mark
  last_post w = record { client = owner_of w.stage; post = w.posts }

  -- merge: a client takes in what a token tells
  abbrev pub taught : Work E C R → Work E C R → Work E C R
  taught v w = record v {
    hearsay = w.seen;
    heard = last_post w ∷ v.heard;
    passed = w.passed ++ v.passed;
    past = v.past || is_marked (owner_of v.stage) v.posts w.passed;
  }

  abbrev pub spent_work : Work E C R
  spent_work = blank_work Spent

  -- the same of a whole view
  abbrev pub maker_after : View (Work E C R) → View (Work E C R)
  maker_after v = record { walk = next_maker v.walk; work = more_seats v.work }

  abbrev pub client_made : View (Work E C R) → View (Work E C R)
  client_made v = record { walk = newcomer v.walk; work = new_client v.work }

  abbrev pub token_made : View (Work E C R) → View (Work E C R)
  token_made v = record { walk = token v.walk; work = telling v.work }

  abbrev pub view_taught : View (Work E C R) → View (Work E C R) → View (Work E C R)
  view_taught v w = record { walk = learned v.walk w.walk; work = taught v.work w.work }

  abbrev pub view_spent : View (Work E C R)
  view_spent = record { walk = spent; work = spent_work }

-- The start, and the laws of the splits and the merges.
module _ {S E C R : Type 0} (served : Ghosts S E C R) (n : ℕ) where
  -- the table at the start: nobody has joined, no client has a seat, and nobody's call is in the state's history
  abbrev pub Opens : Type 0
  Opens = (state : S) (is_legal : served.legal (served.history state))
      (uncalled : (r : ℕ) → served.own (served.history state) r ≡ []) → Ruled n (Serves served n)
      (opening (replicate (word_count n) 0) (slots_of n state) (opening_view (opening_work (served.history state))))

  -- the first seat, which has made those of the clients below k, makes that of client k
  abbrev pub KeptByClientSplit : Type 0
  KeptByClientSplit = (id k : ℕ) (v : View (Work E C R)) (maker : v.walk.role ≡ roles.Maker k)
      (stage : v.work.stage ≡ Maker k) (room : k < n)
      → Splits (Ruled n (Serves served n)) id v (maker_after v) (client_made v)

  -- a client that joined makes a token, and knows what it knew
  abbrev pub KeptByTokenSplit : Type 0
  KeptByTokenSplit = (id r : ℕ) (v : View (Work E C R)) (joined : v.walk.role ≡ roles.Joined r)
      (client : IsClient r v.work.stage) → Splits (Ruled n (Serves served n)) id v v (token_made v)

  -- a client takes in what a token tells
  abbrev pub KeptByTokenMerge : Type 0
  KeptByTokenMerge = (id q other r : ℕ) (v w : View (Work E C R)) (client : IsClient q v.work.stage)
      (token_is : w.walk.role ≡ roles.Token) (stage : w.work.stage ≡ Token r)
      → Joins (Ruled n (Serves served n)) id v other w (view_taught v w) view_spent
