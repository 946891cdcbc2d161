-- What more bytes and one more line do to what was read.
use Rattle.std.proofs.Common.{arith, ◌≡◌, true, ℕ, zero, suc, ◌+◌, List, [], ◌∷◌, ◌++◌, length, take, map, refl, sym, ap, subst, ◌∙◌, append_assoc, append-nil}
use Rattle.std.specs.Prelude.{Option, fold, replicate, string_bytes}
use Rattle.std.proofs.lemmas.List.{map_push, map-append, nil_from_length, length-take}
use Rattle.std.proofs.lemmas.List.Sums.{fold_push, fold-append}
use Rattle.ipc_words.specs.Lines.{Split, is_line, split, whole_line, within_limit, last_lines, complete_lines, lines_of}
use Rattle.ipcsh.specs.Output.{Answers, Input, Printed, after_line, answered, counted, lines_in}
use Rattle.ipcsh.specs.Readings.{reading_of}
use Rattle.ipcsh.specs.declared.input.ScriptInput.{ScriptInput}
use Rattle.ipcsh.specs.Inputs.{HasRead, Takes, TakesFront}
use Rattle.ipcsh.specs.Runs.{LeadTo}
use Rattle.ipcsh.specs.Session.{Session, fresh_session}
use Rattle.ipc_words.proofs.LineLemmas.{kept_whole, kept_last, kept_more, split_feed, split_line_more, complete_more}

-- a line that was answered leads on
pub LeadTo-line : (lines : List (Option (List ℕ))) (s : Session) (line : Option (List ℕ)) (new : Session) (front old rows : List ℕ)
    → LeadTo lines (record { session = s; output = front ++ old }) → Answers s line new old rows
    → LeadTo (lines ++ line ∷ []) (record { session = new; output = front ++ rows })
LeadTo-line lines s line new front old rows h a =
    let input : Input = (line, a.0) in (
      h.0 ++ input ∷ [],
      map_push (λ (i : Input). i.0) h.0 input ∙ ap (λ ls. ls ++ line ∷ []) h.1,
      fold_push after_line (record { session = fresh_session; output = [] }) h.0 input ∙ ap (λ (p : Printed). after_line p input) h.2 ∙ (λ i. record {
        session = sym a.1.session i;
        output = (append_assoc front old (answered s input).rows ∙ ap (λ (bs : List ℕ). front ++ bs) (sym a.1.rows)) i;
      }),
    )

pub kept_line : (text line pending new : List ℕ) → is_line line ≡ true → pending ≡ take 65538 (split text).rest → new ≡ take 65538 (pending ++ line) → new ≡ take 65538 (split (text ++ line)).rest
kept_line text line pending new plain kept is =
    is ∙ ap (λ (bs : List ℕ). take 65538 (bs ++ line)) kept ∙ kept_more (split text).rest line ∙ ap (λ (s : Split). take 65538 s.rest) (sym (split_line_more text line plain))

pub complete_line : (text line : List ℕ) → is_line line ≡ true → complete_lines text ≡ complete_lines (text ++ line)
complete_line text line plain = ap (λ (s : Split). map whole_line s.whole) (sym (split_line_more text line plain))

pub kept_feed : (text new : List ℕ) → new ≡ [] → new ≡ take 65538 (split (text ++ 10 ∷ [])).rest
kept_feed text new e = e ∙ ap (λ (s : Split). take 65538 s.rest) (sym (split_feed text))

pub complete_feed : (text : List ℕ) → complete_lines text ++ whole_line (split text).rest ∷ [] ≡ complete_lines (text ++ 10 ∷ [])
complete_feed text =
    sym (map_push whole_line (split text).whole (split text).rest) ∙ ap (λ (s : Split). map whole_line s.whole) (sym (split_feed text))

-- the line that has ended is the one that is kept
pub whole_is : (text pending : List ℕ) (line : Option (List ℕ)) → pending ≡ take 65538 (split text).rest → line ≡ whole_line pending → line ≡ whole_line (split text).rest
whole_is text pending line kept e = e ∙ ap whole_line kept ∙ kept_whole (split text).rest

pub last_is : (text pending : List ℕ) (line : Option (List ℕ)) → pending ≡ take 65538 (split text).rest → line ≡ within_limit pending → line ≡ within_limit (split text).rest
last_is text pending line kept e = e ∙ ap within_limit kept ∙ kept_last (split text).rest

-- the last line, where there is something
pub last_line : (rest : List ℕ) → (rest ≡ [] → ⊥) → last_lines rest ≡ within_limit rest ∷ []
last_line [] some = absurd (some refl)
last_line (b ∷ bs) some = refl

pub lines_with_last : (text : List ℕ) → ((split text).rest ≡ [] → ⊥) → complete_lines text ++ within_limit (split text).rest ∷ [] ≡ lines_of text
lines_with_last text some = ap (λ ls. complete_lines text ++ ls) (sym (last_line (split text).rest some))

pub lines_without_last : (text : List ℕ) → (split text).rest ≡ [] → complete_lines text ≡ lines_of text
lines_without_last text none =
    sym (append-nil (complete_lines text)) ∙ ap (λ (rest : List ℕ). complete_lines text ++ last_lines rest) (sym none)

none_of_taken : (rest : List ℕ) → take 65538 rest ≡ [] → rest ≡ []
none_of_taken rest e = nil_from_length rest (omega (arith, length-take 65538 rest, ap length e))

-- nothing is kept exactly where nothing follows the last line feed
pub none_kept : (text pending : List ℕ) → pending ≡ take 65538 (split text).rest → pending ≡ [] → (split text).rest ≡ []
none_kept text pending kept e = none_of_taken (split text).rest (sym kept ∙ e)

pub some_kept : (text pending : List ℕ) → pending ≡ take 65538 (split text).rest → (pending ≡ [] → ⊥) → (split text).rest ≡ [] → ⊥
some_kept text pending kept some none = some (kept ∙ ap (take 65538) none)

-- more lines only add to the output
output_grows : (p : Printed) (inputs : List Input) → (rest : List ℕ) × ((fold after_line p inputs).output ≡ p.output ++ rest)
output_grows p [] = ([], sym (append-nil p.output))
output_grows p (input ∷ inputs) =
    let more = output_grows (after_line p input) inputs in
    ((answered p.session input).rows ++ more.0, more.1 ∙ append_assoc p.output (answered p.session input).rows more.0)

unrefused : List (Option (List ℕ)) → List Input
unrefused lines = map (λ line. (line, [])) lines

lines_in-unrefused : (lines : List (Option (List ℕ))) → lines_in (unrefused lines) ≡ lines
unfolding unrefused
lines_in-unrefused [] = refl
lines_in-unrefused (line ∷ lines) = ap (λ ls. line ∷ ls) (lines_in-unrefused lines)

-- what the complete lines of a front lead to is a front of what those of the whole text lead to
pub LeadTo-more : (a b : List ℕ) (p : Printed) → LeadTo (complete_lines a) p → (q : Printed) × (rest : List ℕ) × LeadTo (complete_lines (a ++ b)) q × (q.output ≡ p.output ++ rest)
LeadTo-more a b p h =
    let more = complete_more a b in
    let inputs = unrefused more.0 in
    let grown = output_grows p inputs in (
      fold after_line p inputs,
      grown.0,
      (
        h.0 ++ inputs,
        map-append (λ (i : Input). i.0) h.0 inputs ∙ ap (λ ls. ls ++ lines_in inputs) h.1 ∙ ap (λ ls. complete_lines a ++ ls) (lines_in-unrefused more.0) ∙ sym more.1,
        fold-append after_line (record { session = fresh_session; output = [] }) h.0 inputs ∙ ap (λ (q : Printed). fold after_line q inputs) h.2,
      ),
      grown.1,
    )

-- a line feed ends the line that was kept
pub HasRead-feed : (text written : List ℕ) (old new : ScriptInput) (line : Option (List ℕ)) → HasRead text written old → line ≡ whole_line old.pending → new.pending ≡ [] → Answers old.session line new.session (string_bytes old.rows) (string_bytes new.rows) → HasRead (text ++ 10 ∷ []) written new
HasRead-feed text written old new line h e none a =
    let lines = ap (λ (l : Option (List ℕ)). complete_lines text ++ l ∷ []) (whole_is text old.pending line h.kept e) ∙ complete_feed text in
    record {
      kept = kept_feed text new.pending none;
      lines = subst (λ (ls : List (Option (List ℕ))). LeadTo ls (record { session = new.session; output = written ++ string_bytes new.rows })) lines (LeadTo-line (complete_lines text) old.session line new.session written (string_bytes old.rows) (string_bytes new.rows) h.lines a);
    }

-- bytes more without a line feed
pub HasRead-line : (text written line kept : List ℕ) (old : ScriptInput) → is_line line ≡ true → HasRead text written old → kept ≡ take 65538 (old.pending ++ line)
    → HasRead (text ++ line) written (record { session = old.session; pending = kept; rows = old.rows })
HasRead-line text written line kept old plain h is = record {
  kept = kept_line text line old.pending kept plain h.kept is;
  lines = subst (λ (ls : List (Option (List ℕ))). LeadTo ls (record { session = old.session; output = written ++ string_bytes old.rows })) (complete_line text line plain) h.lines;
}

-- nothing yet
pub Takes-none : (i : ScriptInput) → Takes i [] i
Takes-none i = λ text written h. subst (λ (bs : List ℕ). HasRead bs written i) (sym (append-nil text)) h

-- a front, and then more
pub Takes-more : (old mid new : ScriptInput) (front more : List ℕ) → Takes old front mid → Takes mid more new → Takes old (front ++ more) new
Takes-more old mid new front more a b =
    λ text written h. subst (λ (bs : List ℕ). HasRead bs written new) (append_assoc text front more) (b (text ++ front) written (a text written h))

-- a line that these bytes and a line feed end
pub Takes-line : (old new : ScriptInput) (bytes : List ℕ) (line : Option (List ℕ)) → is_line bytes ≡ true → line ≡ whole_line (take 65538 (old.pending ++ bytes)) → new.pending ≡ []
    → Answers old.session line new.session (string_bytes old.rows) (string_bytes new.rows) → Takes old (bytes ++ 10 ∷ []) new
Takes-line old new bytes line plain is none a = λ text written h.
    let mid : ScriptInput = record { session = old.session; pending = take 65538 (old.pending ++ bytes); rows = old.rows } in
    subst (λ (bs : List ℕ). HasRead bs written new) (append_assoc text bytes (10 ∷ []))
    (HasRead-feed (text ++ bytes) written mid new line (HasRead-line text written bytes mid.pending old plain h refl) is none a)

-- one that has come in one piece
pub whole_alone : (pending bytes : List ℕ) → pending ≡ [] → whole_line bytes ≡ whole_line (take 65538 (pending ++ bytes))
whole_alone pending bytes none = sym (kept_whole bytes) ∙ ap (λ (bs : List ℕ). whole_line (take 65538 (bs ++ bytes))) (sym none)

-- a front, and then a front of what follows it
pub TakesFront-more : (old mid new : ScriptInput) (bytes more rest : List ℕ) → TakesFront old bytes mid more → TakesFront mid more new rest → TakesFront old bytes new rest
TakesFront-more old mid new bytes more rest a b =
    (a.0 ++ b.0, append_assoc a.0 b.0 rest ∙ ap (λ (bs : List ℕ). a.0 ++ bs) b.1 ∙ a.1, Takes-more old mid new a.0 b.0 a.2 b.2)

-- a line that is empty is counted, and prints nothing
Answers-empty : (s : Session) (rows : List ℕ) → Answers s (whole_line []) (counted s) rows rows
unfolding answered reading_of
Answers-empty s rows = ([], record { session = refl; rows = sym (append-nil rows) })

abbrev pub with_lines : ScriptInput → ℕ → ScriptInput
with_lines i n = record { session = record i.session { lines = i.session.lines + n }; pending = i.pending; rows = i.rows }

lines_none : (i : ScriptInput) → i ≡ with_lines i 0
lines_none i = let e : i.session.lines ≡ i.session.lines + 0 = omega arith in λ k. record { session = record i.session { lines = e k }; pending = i.pending; rows = i.rows }

lines_more : (i : ScriptInput) (n : ℕ) → with_lines (with_lines i 1) n ≡ with_lines i (suc n)
lines_more i n = let e : i.session.lines + 1 + n ≡ i.session.lines + suc n = omega arith in λ k. record { session = record i.session { lines = e k }; pending = i.pending; rows = i.rows }

-- line feeds alone
pub Takes-feeds : (n : ℕ) (i : ScriptInput) → i.pending ≡ [] → Takes i (replicate n 10) (with_lines i n)
Takes-feeds zero i none = subst (λ (j : ScriptInput). Takes i [] j) (lines_none i) (Takes-none i)
Takes-feeds (suc n) i none =
    let one : Takes i (10 ∷ []) (with_lines i 1) = Takes-line i (with_lines i 1) [] (whole_line []) refl (whole_alone i.pending [] none) none (Answers-empty i.session (string_bytes i.rows)) in
    subst (λ (j : ScriptInput). Takes i (replicate (suc n) 10) j) (lines_more i n)
    (Takes-more i (with_lines i 1) (with_lines (with_lines i 1) n) (10 ∷ []) (replicate n 10) one (Takes-feeds n (with_lines i 1) none))
