-- How a run goes on from piece to piece, and how each of its ends follows.
use Rattle.std.proofs.Common.{◌≡◌, ℕ, ◌+◌, ◌≤◌, List, [], ◌++◌, length, Option, inl, inr, refl, sym, ap, subst, ◌∙◌, append_assoc, append-nil, arith}
use Rattle.std.specs.Prelude.{string_bytes, Result, Err, IfErr}
use Rattle.std.specs.Io.KnownBytes.{Appends, Consumes, Keeps, IsAtEnd}
use Rattle.std.proofs.KnownBytes.{Appends-nil, Appends-trans, Consumes-nil, Consumes-trans, Consumes-kept}
use Rattle.std.proofs.lemmas.List.{length-append, take_at}
use Rattle.ipcsh.specs.declared.input.ScriptInput.{ScriptInput}
use Rattle.ipcsh.specs.declared.runs.Summary.{Summary}
use Rattle.ipcsh.specs.declared.runs.Fault.{Fault}
use Rattle.ipcsh.specs.declared.runs.Fault.TheVariants as faults
use Rattle.ipcsh.specs.Inputs.{HasRead, Takes}
use Rattle.ipc_words.specs.Lines.{complete_lines, lines_of}
use Rattle.ipcsh.specs.Output.{Printed}
use Rattle.ipcsh.specs.Runs.{EndsBy, LeadTo, Transfer, WritesWhole, WritesFront, StopsBy, summary_of, transfer}
use Rattle.ipcsh.specs.Session.{fresh_session}
use Rattle.ipcsh.proofs.InputLemmas.{LeadTo-more}

-- between two pieces: the text was read, and all rows of its complete lines are written
pub record Going (r0 r1 w0 w1 : Option (List ℕ)) (text written : List ℕ) (i : ScriptInput) : Type 0 where
  pub within : length text ≤ 16777216
  pub held : HasRead text written i
  pub empty : string_bytes i.rows ≡ []
  pub read : Consumes r0 r1 text
  pub wrote : Appends w0 w1 written

-- the session at a place of the input with what was written so far
abbrev printed : ScriptInput → List ℕ → Printed
printed i written = record { session = i.session; output = written }

-- with no row held, what was written is the whole output
written_all : (r0 r1 w0 w1 : Option (List ℕ)) (text written : List ℕ) (i : ScriptInput) → Going r0 r1 w0 w1 text written i → LeadTo (complete_lines text) (printed i written)
written_all r0 r1 w0 w1 text written i h =
    subst (λ (bs : List ℕ). LeadTo (complete_lines text) (printed i bs)) (ap (λ (bs : List ℕ). written ++ bs) h.empty ∙ append-nil written) h.held.lines

pub Going-start : (r w : Option (List ℕ)) (i : ScriptInput) → i.session ≡ fresh_session → i.pending ≡ [] → string_bytes i.rows ≡ [] → Going r r w w [] [] i
Going-start r w i session pending rows = record {
  within = omega arith;
  held = record { kept = pending; lines = ([], refl, λ k. record { session = sym session k; output = sym rows k }) };
  empty = rows;
  read = Consumes-nil r;
  wrote = Appends-nil w;
}

pub at_start : (r w : Option (List ℕ)) → WritesFront (transfer r r w w) complete_lines
at_start r w = (
  [],
  record { session = fresh_session; output = [] },
  [],
  [],
  record { within = omega arith; lead = ([], refl, refl); front = refl; moves = record { read = Consumes-nil r; written = Appends-nil w } },
)

pub at_read_error : (r0 r1 r2 w0 w1 : Option (List ℕ)) (text written : List ℕ) (i : ScriptInput) → Going r0 r1 w0 w1 text written i → Keeps r1 r2 → StopsBy (transfer r0 r2 w0 w1) faults.Read
at_read_error r0 r1 r2 w0 w1 text written i h kept = (
  text,
  printed i written,
  h.within,
  record { lines = written_all r0 r1 w0 w1 text written i h; moves = record { read = Consumes-kept r0 r1 r2 text h.read kept; written = h.wrote } },
)

pub at_too_much : (r0 r1 r2 w0 w1 : Option (List ℕ)) (text written bytes : List ℕ) (i : ScriptInput) → Going r0 r1 w0 w1 text written i → length text ≡ 16777216 → length bytes ≡ 1 → Consumes r1 r2 bytes → StopsBy (transfer r0 r2 w0 w1) faults.TooMuch
at_too_much r0 r1 r2 w0 w1 text written bytes i h full one more = (
  text ++ bytes,
  printed i written,
  omega (arith, length-append text bytes),
  record {
    lines = subst (λ (front : List ℕ). LeadTo (complete_lines front) (printed i written)) (sym (take_at text bytes 16777216 full)) (written_all r0 r1 w0 w1 text written i h);
    moves = record { read = Consumes-trans r0 r1 r2 text bytes h.read more; written = h.wrote };
  },
)

pub at_no_memory : (r0 r1 r2 w0 w1 : Option (List ℕ)) (text written bytes : List ℕ) (i : ScriptInput) → Going r0 r1 w0 w1 text written i → length text + length bytes ≤ 16777216 → Consumes r1 r2 bytes → WritesFront (transfer r0 r2 w0 w1) complete_lines
at_no_memory r0 r1 r2 w0 w1 text written bytes i h small more =
    let grown = LeadTo-more text bytes (printed i written) (written_all r0 r1 w0 w1 text written i h) in (
      text ++ bytes,
      grown.0,
      written,
      grown.1,
      record {
        within = omega (arith, length-append text bytes);
        lead = grown.2;
        front = grown.3;
        moves = record { read = Consumes-trans r0 r1 r2 text bytes h.read more; written = h.wrote };
      },
    )

pub at_write_error : (r0 r1 r2 w0 w1 w2 : Option (List ℕ)) (text written bytes done rest : List ℕ) (i new : ScriptInput) → Going r0 r1 w0 w1 text written i → length text + length bytes ≤ 16777216 → Consumes r1 r2 bytes → Takes i bytes new → string_bytes new.rows ≡ done ++ rest → Appends w1 w2 done → StopsBy (transfer r0 r2 w0 w2) faults.Write
at_write_error r0 r1 r2 w0 w1 w2 text written bytes done rest i new h small more takes rows wrote = inl (
  text ++ bytes,
  printed new (written ++ string_bytes new.rows),
  written ++ done,
  rest,
  record {
    within = omega (arith, length-append text bytes);
    lead = (takes text written h.held).lines;
    front = ap (λ (bs : List ℕ). written ++ bs) rows ∙ sym (append_assoc written done rest);
    moves = record {
      read = Consumes-trans r0 r1 r2 text bytes h.read more;
      written = Appends-trans w0 w1 w2 written done h.wrote wrote;
    };
  },
)

-- the rows held are written, and the next piece may come
pub Going-on : (r0 r1 r2 w0 w1 w2 : Option (List ℕ)) (text written bytes : List ℕ) (i new flushed : ScriptInput) → Going r0 r1 w0 w1 text written i → length text + length bytes ≤ 16777216 → Consumes r1 r2 bytes → Takes i bytes new → Appends w1 w2 (string_bytes new.rows) → flushed.session ≡ new.session → flushed.pending ≡ new.pending → string_bytes flushed.rows ≡ [] → Going r0 r2 w0 w2 (text ++ bytes) (written ++ string_bytes new.rows) flushed
Going-on r0 r1 r2 w0 w1 w2 text written bytes i new flushed h small more takes wrote session pending rows =
    let held = takes text written h.held in
    record {
      within = omega (arith, length-append text bytes);
      held = record {
        kept = pending ∙ held.kept;
        lines = subst (λ (p : Printed). LeadTo (complete_lines (text ++ bytes)) p) (λ k. record { session = sym session k; output = (sym (append-nil (written ++ string_bytes new.rows)) ∙ ap (λ (bs : List ℕ). (written ++ string_bytes new.rows) ++ bs) (sym rows)) k }) held.lines;
      };
      empty = rows;
      read = Consumes-trans r0 r1 r2 text bytes h.read more;
      wrote = Appends-trans w0 w1 w2 written (string_bytes new.rows) h.wrote wrote;
    }

-- the input has ended, and its last line is answered
pub at_end : (r0 r1 r2 w0 w1 w2 : Option (List ℕ)) (text written : List ℕ) (i new : ScriptInput) (summary : Summary) → Going r0 r1 w0 w1 text written i → Consumes r1 r2 [] → IsAtEnd r2 → LeadTo (lines_of text) (printed new (written ++ string_bytes new.rows)) → Appends w1 w2 (string_bytes new.rows) → summary ≡ summary_of new.session → WritesWhole (transfer r0 r2 w0 w2) summary
at_end r0 r1 r2 w0 w1 w2 text written i new summary h none end lines wrote told = (
  text,
  printed new (written ++ string_bytes new.rows),
  record {
    within = h.within;
    end = end;
    lines = lines;
    moves = record {
      read = subst (λ (bs : List ℕ). Consumes r0 r2 bs) (append-nil text) (Consumes-trans r0 r1 r2 text [] h.read none);
      written = Appends-trans w0 w1 w2 written (string_bytes new.rows) h.wrote wrote;
    };
    told = told;
  },
)

pub at_end_write_error : (r0 r1 r2 w0 w1 w2 : Option (List ℕ)) (text written done rest : List ℕ) (i new : ScriptInput) → Going r0 r1 w0 w1 text written i → Consumes r1 r2 [] → IsAtEnd r2 → LeadTo (lines_of text) (printed new (written ++ string_bytes new.rows)) → string_bytes new.rows ≡ done ++ rest → Appends w1 w2 done → StopsBy (transfer r0 r2 w0 w2) faults.Write
at_end_write_error r0 r1 r2 w0 w1 w2 text written done rest i new h none end lines rows wrote = inr (
  end,
  (
    text,
    printed new (written ++ string_bytes new.rows),
    written ++ done,
    rest,
    record {
      within = h.within;
      lead = lines;
      front = ap (λ (bs : List ℕ). written ++ bs) rows ∙ sym (append_assoc written done rest);
      moves = record {
        read = subst (λ (bs : List ℕ). Consumes r0 r2 bs) (append-nil text) (Consumes-trans r0 r1 r2 text [] h.read none);
        written = Appends-trans w0 w1 w2 written done h.wrote wrote;
      };
    },
  ),
)

-- a result that is this fault says what the fault says
pub ends_at : (t : Transfer) (result : Result Summary Fault) (fault : Fault) → result ≡ Err fault → StopsBy t fault → EndsBy t result
ends_at t result fault e h = subst (λ (r : Result Summary Fault). EndsBy t r) (sym e) (tt, h)

pub stops_at : (t : Transfer) (result : Result Summary Fault) (fault : Fault) → result ≡ Err fault → StopsBy t fault → IfErr result (StopsBy t)
stops_at t result fault e h = subst (λ (r : Result Summary Fault). IfErr r (StopsBy t)) (sym e) h
