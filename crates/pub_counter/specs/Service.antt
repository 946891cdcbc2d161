-- How a client asks a counter.
use Rattle.std.specs.Prelude.{◌≡◌, ℕ, false, ◌<◌, ◌^◌, List, [], ◌∷◌, ◌++◌, Option, Some, None, Result, Ok}
use Rattle.pub_rule.specs.declared.walk.View.{View}
use Rattle.pub_rule.specs.declared.work.Work.{Work}
use Rattle.pub_rule.specs.declared.work.Stage.TheVariants.{Free}
use Rattle.pub_list.specs.declared.asking.Answer.{Answer}
use Rattle.pub_list.specs.declared.asking.Answer.TheVariants.{Reply}
use Rattle.pub_list.specs.declared.records.WordState.{WordState}
use Rattle.pub_list.specs.Asking.{IsCollected}
use Rattle.pub_counter.specs.declared.counter.Turn.{Turn}
use Rattle.pub_counter.specs.Counter.{total, own, replies}

-- what a client of a counter knows
abbrev pub Knowledge : Type 0
Knowledge = View (Work Turn ℕ ℕ)

-- each of its histories may go on with any client
abbrev pub admits_all : ℕ → List Turn → Type 0
admits_all n h = Unit {0}

-- the reply that an answer has: Memory has none
abbrev pub reply_in : Result (Answer ℕ) WordState → Option ℕ
reply_in (Ok (Reply sum)) = Some sum
reply_in _ = None

-- it collected, and this is the reply
abbrev pub IsTold : ℕ → Knowledge → Knowledge → Option ℕ → Type 0
IsTold client v w told = (a : Result (Answer ℕ) WordState)
    × IsCollected (λ h. total h < 2 ^ 64) own replies client v w a × (told ≡ reply_in a)

-- its call and this reply stand behind those that it had, and all of them in the legal history that it sees
abbrev pub HasReply : ℕ → ℕ → ℕ → Knowledge → Knowledge → Type 0
HasReply client amount sum v w = (w.work.entered ≡ v.work.entered ++ amount ∷ [])
    × (w.work.got ≡ v.work.got ++ sum ∷ []) × (own w.work.seen client ≡ w.work.entered)
    × (replies w.work.seen client ≡ w.work.got) × (total w.work.seen < 2 ^ 64)

-- it asks nothing, and doesn't combine
abbrev pub IsResting : ℕ → Knowledge → Type 0
IsResting client v = (v.work.stage ≡ Free client) × (v.work.holds ≡ false)
