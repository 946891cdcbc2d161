-- What a client of a counter knows while it asks.
use Rattle.std.proofs.Common.{◌≡◌, ◌⊎◌, ℕ, List, ◌∷◌, ◌++◌, [], Option, Result, Ok, Err, IfSome, ⊎_elim, sym, ap, ◌∙◌, subst, ◌^◌, ◌<◌}
use Rattle.pub_rule.specs.declared.work.Stage.{Stage}
use Rattle.pub_rule.specs.declared.work.Stage.TheVariants.{Free, Asking}
use Rattle.pub_list.specs.declared.asking.Answer.{Answer}
use Rattle.pub_list.specs.declared.asking.Answer.TheVariants.{Reply, Memory}
use Rattle.pub_list.specs.declared.records.WordState.{WordState}
use Rattle.pub_list.specs.Asking.{IsCollected}
use Rattle.pub_counter.specs.Counter.{total, own, replies}
use Rattle.pub_counter.specs.Service.{Knowledge, IsTold, HasReply, reply_in}

-- its call is in flight, or was refused for memory: it has the calls and replies that it had
abbrev pub IsPending : ℕ → ℕ → Knowledge → Knowledge → Type 0
IsPending client amount v w = ((w.work.stage ≡ Asking client amount) ⊎ (w.work.stage ≡ Free client)) × (w.work.entered ≡ v.work.entered) × (w.work.got ≡ v.work.got)

abbrev Asks : Stage ℕ → Type 0
Asks (Asking q c) = Unit {0}
Asks _ = ⊥

abbrev call_of : Stage ℕ → ℕ
call_of (Asking q c) = c
call_of _ = 0

module _ (client amount : ℕ) (v u w : Knowledge) (pending : IsPending client amount v u) where
  abbrev Collected : Result (Answer ℕ) WordState → Type 0
  Collected a = IsCollected (λ h. total h < 2 ^ 64) own replies client u w a

  same_call : (c : ℕ) → u.work.stage ≡ Asking client c → c ≡ amount
  same_call c e = ⊎_elim (λ p. ap call_of (sym e ∙ p)) (λ p. absurd (subst Asks (sym e ∙ p) tt)) pending.0

  replied : (a : Result (Answer ℕ) WordState) → Collected a → IfSome (reply_in a) (λ sum. HasReply client amount sum v w)
  replied (Ok (Reply x)) h = let e = h.7 in (
    ap (λ (z : Knowledge). z.work.entered) e ∙ (ap (λ (l : List ℕ). l ++ h.0 ∷ []) pending.1 ∙ ap (λ (k : ℕ). v.work.entered ++ k ∷ []) (same_call h.0 h.2)),
    ap (λ (z : Knowledge). z.work.got) e ∙ ap (λ (l : List ℕ). l ++ x ∷ []) pending.2,
    ap (λ (z : Knowledge). own z.work.seen client) e ∙ (h.5 ∙ sym (ap (λ (z : Knowledge). z.work.entered) e)),
    ap (λ (z : Knowledge). replies z.work.seen client) e ∙ (h.6 ∙ sym (ap (λ (z : Knowledge). z.work.got) e)),
    subst (λ (z : Knowledge). total z.work.seen < 2 ^ 64) (sym e) h.4,
  )
  replied (Ok Memory) h = tt
  replied (Err s) h = tt

  -- where it was told of a reply, that and its call stand behind those that it had
  pub has_reply : (told : Option ℕ) → IsTold client u w told → IfSome told (λ sum. HasReply client amount sum v w)
  has_reply told t = subst (λ (k : Option ℕ). IfSome k (λ sum. HasReply client amount sum v w)) (sym t.2) (replied t.0 t.1)
