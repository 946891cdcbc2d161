-- A list whose links stand in a slab: a place that leaves it, and one that becomes its last.
use Rattle.std.proofs.Common.{◌≡◌, ◌≢◌, ℕ, Bool, true, false, cond, eqb, List, [], ◌∷◌, ◌++◌, refl, sym, ap, subst, ◌∙◌, ⊎_elim, inl, inr, Option, Some, None, is_none, is_some}
use Rattle.std.specs.List.{AllByRecursion}
use Rattle.std.specs.Option.{option_map, option_and_then}
use Rattle.std.proofs.lemmas.Bool.{eqb-true, eq-eqb, true≢false}
use Rattle.std.proofs.lemmas.Option.{none-some, same_Some}
use Rattle.msg_queue.specs.Queues.{Placed}
use Rattle.msg_queue.specs.declared.nodes.Link.{Link}
use Rattle.msg_queue.specs.declared.nodes.Ends.{Ends}
use Rattle.msg_queue.specs.Links.{AreApart, Away, IsAmong, IsChain, appended_ends, next_in, previous_in, unlinked_ends, without}
use Rattle.msg_queue.proofs.Chains.{IsSource, after_is, appended, before_is, behind, last_source, linked_alike, not_after, not_before, turn, unlinked}
use Rattle.msg_queue.proofs.Relinks.{is_at}

-- what `unlink` makes of a link: next_new where it stands before the place that left, previous_new where it stands after
abbrev pub next_put : Bool → Option ℕ → Link → Link
next_put b next link = cond b (record link { next = next }) link

abbrev pub previous_put : Bool → Option ℕ → Link → Link
previous_put b previous link = cond b (record link { previous = previous }) link

abbrev pub moved : Bool → Bool → Link → Option Link → Option Link
moved a b gone o = option_map (previous_put b gone.previous) (option_map (next_put a gone.next) o)

next_kept : (b : Bool) (gone : Link) (o : Option Link) → option_and_then (λ (l : Link). l.next) (moved false b gone o) ≡ option_and_then (λ (l : Link). l.next) o
next_kept b gone None = refl
next_kept true gone (Some l) = refl
next_kept false gone (Some l) = refl

next_new : (b : Bool) (gone l : Link) → option_and_then (λ (l : Link). l.next) (moved true b gone (Some l)) ≡ gone.next
next_new true gone l = refl
next_new false gone l = refl

previous_kept : (a : Bool) (gone : Link) (o : Option Link) → option_and_then (λ (l : Link). l.previous) (moved a false gone o) ≡ option_and_then (λ (l : Link). l.previous) o
previous_kept a gone None = refl
previous_kept true gone (Some l) = refl
previous_kept false gone (Some l) = refl

previous_new : (a : Bool) (gone l : Link) → option_and_then (λ (l : Link). l.previous) (moved a true gone (Some l)) ≡ gone.previous
previous_new true gone l = refl
previous_new false gone l = refl

pub kept : (gone : Link) (o : Option Link) → moved false false gone o ≡ o
kept gone None = refl
kept gone (Some l) = refl

pub not_at : (at : Option ℕ) (x : ℕ) → at ≢ Some x → is_at at x ≡ false
not_at None x other = refl
not_at (Some k) x other = by (eqb k x) refl
  where
    by : (b : Bool) → eqb k x ≡ b → eqb k x ≡ false
    by true is = absurd (other (ap (λ (y : ℕ). Some y) (eqb-true k x is)))
    by false is = is

-- each has a link
abbrev pub AreThere : (ℕ → Option Link) → List Placed → Type 0
AreThere links ms = AllByRecursion (λ m. is_some (links m.place) ≡ true) ms

there : (links : ℕ → Option Link) (ms : List Placed) (k : ℕ) → AreThere links ms → IsAmong (Some k) ms → is_some (links k) ≡ true
there links [] k are among = absurd among
there links (m ∷ ms) k are among =
    ⊎_elim
    (λ (e : Some k ≡ Some m.place). ap (λ (x : ℕ). is_some (links x)) (same_Some k m.place e) ∙ are.0)
    (λ (later : IsAmong (Some k) ms). there links ms k are.1 later)
    among

no_none : (ms : List Placed) → IsAmong None ms → (P : Type 0) → P
no_none [] among P = absurd among
no_none (m ∷ ms) among P =
    ⊎_elim (λ (e : None ≡ Some m.place). absurd (none-some m.place e)) (λ (later : IsAmong None ms). no_none ms later P) among

module _ (links links' : ℕ → Option Link) (ends : Ends) (k : ℕ) (gone : Link) (ms : List Placed)
    (own : links k ≡ Some gone) (change : (x : ℕ) → x ≢ k → links' x ≡ moved (is_at gone.previous x) (is_at gone.next x) gone (links x))
    (chain : IsChain links ends ms) (apart : AreApart ms) (among : IsAmong (Some k) ms) (are : AreThere links ms) where
  before : previous_in links ends (Some k) ≡ gone.previous
  before = ap (option_and_then (λ (l : Link). l.previous)) own

  after : next_in links ends (Some k) ≡ gone.next
  after = ap (option_and_then (λ (l : Link). l.next)) own

  away_none : (ls : List Placed) → Away None ls
  away_none [] = tt
  away_none (m ∷ ls) = (none-some m.place, away_none ls)

  next_joined : (o : Option ℕ) → gone.previous ≡ o → next_in links' (unlinked_ends gone ends) o ≡ gone.next
  next_joined None is = rw is refl
  next_joined (Some j) is = by (links j) refl
    where
      source : IsSource None ms (Some j)
      source = subst (λ (o : Option ℕ). IsSource None ms o) (before ∙ is) (before_is (next_in links ends) (previous_in links ends) None ms (Some k) chain among)

      here : is_some (links j) ≡ true
      here = ⊎_elim (λ (e : Some j ≡ None). absurd (none-some j (sym e))) (λ (inside : IsAmong (Some j) ms). there links ms j are inside) source

      other : j ≢ k
      other e = not_before (next_in links ends) (previous_in links ends) None ms (Some k) chain apart (away_none ms) among (ap (λ (x : ℕ). Some x) (sym e) ∙ sym is ∙ sym before)

      by : (o : Option Link) → links j ≡ o → next_in links' (unlinked_ends gone ends) (Some j) ≡ gone.next
      by None absent = absurd (true≢false (sym here ∙ ap is_some absent))
      by (Some l) found =
          ap (option_and_then (λ (l : Link). l.next)) (change j other ∙ ap (λ (o : Option ℕ). moved (is_at o j) (is_at gone.next j) gone (links j)) is ∙ ap (λ (b : Bool). moved b (is_at gone.next j) gone (links j)) (eq-eqb j j refl) ∙ ap (λ (o : Option Link). moved true (is_at gone.next j) gone o) found) ∙ next_new (is_at gone.next j) gone l

  next_others : (o : Option ℕ) → o ≢ gone.previous → o ≢ Some k → next_in links' (unlinked_ends gone ends) o ≡ next_in links ends o
  next_others None other apart_k = by gone.previous refl
    where
      by : (o : Option ℕ) → gone.previous ≡ o → cond (is_none gone.previous) gone.next ends.first ≡ ends.first
      by None is = absurd (other (sym is))
      by (Some j) is = rw is refl
  next_others (Some x) other apart_k =
      ap (option_and_then (λ (l : Link). l.next)) (change x (λ e. apart_k (ap (λ (y : ℕ). Some y) e)) ∙ ap (λ (b : Bool). moved b (is_at gone.next x) gone (links x)) (not_at gone.previous x (turn other))) ∙ next_kept (is_at gone.next x) gone (links x)

  previous_joined : (o : Option ℕ) → gone.next ≡ o → previous_in links' (unlinked_ends gone ends) o ≡ gone.previous
  previous_joined None is = rw is refl
  previous_joined (Some j) is = by (links j) refl
    where
      source : IsSource None ms (Some j)
      source = subst (λ (o : Option ℕ). IsSource None ms o) (after ∙ is) (after_is (next_in links ends) (previous_in links ends) None ms (Some k) chain (inr among))

      here : is_some (links j) ≡ true
      here = ⊎_elim (λ (e : Some j ≡ None). absurd (none-some j (sym e))) (λ (inside : IsAmong (Some j) ms). there links ms j are inside) source

      other : j ≢ k
      other e = not_after (next_in links ends) (previous_in links ends) None ms k chain apart among (after ∙ is ∙ ap (λ (x : ℕ). Some x) e)

      by : (o : Option Link) → links j ≡ o → previous_in links' (unlinked_ends gone ends) (Some j) ≡ gone.previous
      by None absent = absurd (true≢false (sym here ∙ ap is_some absent))
      by (Some l) found =
          ap (option_and_then (λ (l : Link). l.previous)) (change j other ∙ ap (λ (o : Option ℕ). moved (is_at gone.previous j) (is_at o j) gone (links j)) is ∙ ap (λ (b : Bool). moved (is_at gone.previous j) b gone (links j)) (eq-eqb j j refl) ∙ ap (λ (o : Option Link). moved (is_at gone.previous j) true gone o) found) ∙ previous_new (is_at gone.previous j) gone l

  previous_others : (o : Option ℕ) → o ≢ gone.next → o ≢ Some k → previous_in links' (unlinked_ends gone ends) o ≡ previous_in links ends o
  previous_others None other apart_k = by gone.next refl
    where
      by : (o : Option ℕ) → gone.next ≡ o → cond (is_none gone.next) gone.previous ends.last ≡ ends.last
      by None is = absurd (other (sym is))
      by (Some j) is = rw is refl
  previous_others (Some x) other apart_k =
      ap (option_and_then (λ (l : Link). l.previous)) (change x (λ e. apart_k (ap (λ (y : ℕ). Some y) e)) ∙ ap (λ (b : Bool). moved (is_at gone.previous x) b gone (links x)) (not_at gone.next x (turn other))) ∙ previous_kept (is_at gone.previous x) gone (links x)

  pub left : IsChain links' (unlinked_ends gone ends) (without k ms)
  left =
      unlinked (next_in links ends) (previous_in links ends) (next_in links' (unlinked_ends gone ends)) (previous_in links' (unlinked_ends gone ends)) k
      (ap (next_in links' (unlinked_ends gone ends)) before ∙ next_joined gone.previous refl ∙ sym after)
      (λ o other apart_k. next_others o (λ e. other (e ∙ sym before)) apart_k)
      (ap (previous_in links' (unlinked_ends gone ends)) after ∙ previous_joined gone.next refl ∙ sym before)
      (λ o other apart_k. previous_others o (λ e. other (e ∙ sym after)) apart_k)
      None ms chain apart (away_none ms) (none-some k) among

-- a list in which neither the place nor its neighbours stand
module _ (links links' : ℕ → Option Link) (ends : Ends) (k : ℕ) (gone : Link)
    (change : (x : ℕ) → x ≢ k → links' x ≡ moved (is_at gone.previous x) (is_at gone.next x) gone (links x)) where
  same_links : (ms : List Placed) → Away (Some k) ms → Away gone.previous ms → Away gone.next ms
      → AllByRecursion (λ m. (next_in links' ends (Some m.place) ≡ next_in links ends (Some m.place)) × (previous_in links' ends (Some m.place) ≡ previous_in links ends (Some m.place))) ms
  same_links [] free before after = tt
  same_links (m ∷ ms) free before after =
      let is : links' m.place ≡ links m.place =
      change m.place (λ e. free.0 (ap (λ (y : ℕ). Some y) (sym e)))
      ∙ ap (λ (b : Bool). moved b (is_at gone.next m.place) gone (links m.place)) (not_at gone.previous m.place before.0)
      ∙ ap (λ (b : Bool). moved false b gone (links m.place)) (not_at gone.next m.place after.0)
      ∙ kept gone (links m.place) in
      ((ap (option_and_then (λ (l : Link). l.next)) is, ap (option_and_then (λ (l : Link). l.previous)) is), same_links ms free.1 before.1 after.1)

  pub untouched : (ms : List Placed) → IsChain links ends ms → Away (Some k) ms → Away gone.previous ms → Away gone.next ms → IsChain links' ends ms
  untouched ms chain free before after =
      linked_alike (next_in links ends) (previous_in links ends) (next_in links' ends) (previous_in links' ends) None ms chain refl refl (same_links ms free before after)

-- a place becomes the last
abbrev pub followed : Bool → ℕ → Option Link → Option Link
followed b k o = option_map (next_put b (Some k)) o

followed_previous : (b : Bool) (k : ℕ) (o : Option Link) → option_and_then (λ (l : Link). l.previous) (followed b k o) ≡ option_and_then (λ (l : Link). l.previous) o
followed_previous b k None = refl
followed_previous true k (Some l) = refl
followed_previous false k (Some l) = refl

followed_other : (k : ℕ) (o : Option Link) → followed false k o ≡ o
followed_other k None = refl
followed_other k (Some l) = refl

module _ (links links' : ℕ → Option Link) (ends : Ends) (new : Placed) (ms : List Placed)
    (own : links' new.place ≡ Some (record { previous = ends.last; next = None })) (change : (x : ℕ) → x ≢ new.place → links' x ≡ followed (is_at ends.last x) new.place (links x))
    (chain : IsChain links ends ms) (apart : AreApart ms) (free : Away (Some new.place) ms) (are : AreThere links ms) where
  none_away : (ls : List Placed) → Away None ls
  none_away [] = tt
  none_away (m ∷ ls) = (none-some m.place, none_away ls)

  last_followed : (o : Option ℕ) → ends.last ≡ o → next_in links' (appended_ends new.place ends) o ≡ Some new.place
  last_followed None is = rw is refl
  last_followed (Some j) is = by (links j) refl
    where
      source : IsSource None ms (Some j)
      source = subst (λ (o : Option ℕ). IsSource None ms o) is (last_source (next_in links ends) (previous_in links ends) None ms chain)

      here : is_some (links j) ≡ true
      here = ⊎_elim (λ (e : Some j ≡ None). absurd (none-some j (sym e))) (λ (inside : IsAmong (Some j) ms). there links ms j are inside) source

      other : j ≢ new.place
      other e = behind (next_in links ends) (previous_in links ends) (Some new.place) None ms None chain free (turn (none-some new.place)) (inl refl) (ap (λ (x : ℕ). Some x) (sym e) ∙ sym is)

      by : (o : Option Link) → links j ≡ o → next_in links' (appended_ends new.place ends) (Some j) ≡ Some new.place
      by None absent = absurd (true≢false (sym here ∙ ap is_some absent))
      by (Some l) found =
          ap (option_and_then (λ (l : Link). l.next)) (change j other ∙ ap (λ (o : Option ℕ). followed (is_at o j) new.place (links j)) is ∙ ap (λ (b : Bool). followed b new.place (links j)) (eq-eqb j j refl) ∙ ap (λ (o : Option Link). followed true new.place o) found)

  others_kept : (o : Option ℕ) → o ≢ ends.last → o ≢ Some new.place → next_in links' (appended_ends new.place ends) o ≡ next_in links ends o
  others_kept None other apart_k = by ends.last refl
    where
      by : (o : Option ℕ) → ends.last ≡ o → cond (is_none ends.last) (Some new.place) ends.first ≡ ends.first
      by None is = absurd (other (sym is))
      by (Some j) is = rw is refl
  others_kept (Some x) other apart_k =
      ap (option_and_then (λ (l : Link). l.next)) (change x (λ e. apart_k (ap (λ (y : ℕ). Some y) e)) ∙ ap (λ (b : Bool). followed b new.place (links x)) (not_at ends.last x (turn other)) ∙ followed_other new.place (links x))

  pub longer : IsChain links' (appended_ends new.place ends) (ms ++ new ∷ [])
  longer =
      appended (next_in links ends) (previous_in links ends) (next_in links' (appended_ends new.place ends)) (previous_in links' (appended_ends new.place ends)) new
      (last_followed ends.last refl)
      (ap (option_and_then (λ (l : Link). l.next)) own)
      (ap (option_and_then (λ (l : Link). l.previous)) own)
      refl
      others_kept
      (λ x other. ap (option_and_then (λ (l : Link). l.previous)) (change x (λ e. other (ap (λ (y : ℕ). Some y) e))) ∙ followed_previous (is_at ends.last x) new.place (links x))
      None ms chain apart (none_away ms) (none-some new.place) free

module _ (links links' : ℕ → Option Link) (ends : Ends) (last : Option ℕ) (new : ℕ)
    (change : (x : ℕ) → x ≢ new → links' x ≡ followed (is_at last x) new (links x)) where
  links_stay : (ms : List Placed) → Away (Some new) ms → Away last ms
      → AllByRecursion (λ m. (next_in links' ends (Some m.place) ≡ next_in links ends (Some m.place)) × (previous_in links' ends (Some m.place) ≡ previous_in links ends (Some m.place))) ms
  links_stay [] free far = tt
  links_stay (m ∷ ms) free far =
      let is : links' m.place ≡ links m.place =
      change m.place (λ e. free.0 (ap (λ (y : ℕ). Some y) (sym e)))
      ∙ ap (λ (b : Bool). followed b new (links m.place)) (not_at last m.place far.0)
      ∙ followed_other new (links m.place) in
      ((ap (option_and_then (λ (l : Link). l.next)) is, ap (option_and_then (λ (l : Link). l.previous)) is), links_stay ms free.1 far.1)

  pub stays : (ms : List Placed) → IsChain links ends ms → Away (Some new) ms → Away last ms → IsChain links' ends ms
  stays ms chain free far =
      linked_alike (next_in links ends) (previous_in links ends) (next_in links' ends) (previous_in links' ends) None ms chain refl refl (links_stay ms free far)
