-- What combiners serve is independent of the words of the list, and has a slot for each client and the state's.
use Rattle.std.specs.Prelude.{◌≢◌, ℕ}
use Rattle.std.proofs.Common.{◌∙◌, ⊎_elim, get_or-set_other, length-set, arith}
use Rattle.pub_rule.specs.declared.served.Served.{Ghosts}
use Rattle.pub_rule.specs.Words.{head_word, lock_word, state_word, next_word}
use Rattle.pub_rule.specs.Rule.{IsListWord, IsIndependent, HasSlots}
use Rattle.pub_rule.specs.Work.{Serves}

-- neither the lock word nor a state word is one of the list's
lock_unlisted : (n i : ℕ) → IsListWord n i → lock_word ≢ i
unfolding head_word lock_word next_word
lock_unlisted n i listed same = ⊎_elim (λ e. omega arith) (λ t. let e = t.2 in omega arith) listed

state_unlisted : (n i r : ℕ) → IsListWord n i → state_word r ≢ i
unfolding head_word state_word next_word
state_unlisted n i r listed same = ⊎_elim (λ e. omega arith) (λ t. let e = t.2 in omega arith) listed

module _ {S E C R : Type 0} (served : Ghosts S E C R) (n : ℕ) where
  pub independent : IsIndependent n (Serves served n)
  independent words homes works i x listed s = let t = s.stored in record {
    world = s.world;
    sound = s.sound;
    stored = record {
      wide = length-set words i x ∙ t.wide;
      sized = t.sized;
      lock = get_or-set_other words i lock_word x 0 (lock_unlisted n i listed) ∙ t.lock;
      each_client = λ r l. let c = t.each_client r l in record {
        word = get_or-set_other words i (state_word r) x 0 (state_unlisted n i r listed) ∙ c.word;
        home = c.home;
        phase = c.phase;
      };
    };
    state = s.state;
    each_seat = s.each_seat;
  }

  pub sized : HasSlots n (Serves served n)
  sized words homes works s = s.stored.sized
