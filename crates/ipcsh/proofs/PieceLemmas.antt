-- How the text of a script grows by pieces, and how its reading ends.
use Rattle.std.proofs.Common.{◌≡◌, ℕ, ◌+◌, ◌≤◌, List, [], ◌++◌, length, Option, sym, subst, arith, append-nil}
use Rattle.std.specs.Prelude.{Result, Err, IfErr}
use Rattle.std.specs.Io.KnownBytes.{Consumes, IsAtEnd, Keeps}
use Rattle.std.proofs.KnownBytes.{Consumes-kept, Consumes-trans}
use Rattle.std.proofs.lemmas.List.{length-append}
use Rattle.ipcsh.specs.declared.runs.Fault.{Fault}
use Rattle.ipcsh.specs.declared.runs.Fault.TheVariants as faults
use Rattle.ipcsh.specs.Scripts.{ReadsText, StopsReading}

pub ends_by : {A : Type 0} (before after : Option (List ℕ)) (result : Result A Fault) (fault : Fault) → result ≡ Err fault → StopsReading before after fault → IfErr result (StopsReading before after)
ends_by before after result fault is h = subst (λ r. IfErr r (StopsReading before after)) (sym is) h

-- a piece more
pub grown : (r0 r1 r2 : Option (List ℕ)) (text piece new : List ℕ) → Consumes r0 r1 text → Consumes r1 r2 piece → new ≡ text ++ piece → Consumes r0 r2 new
grown r0 r1 r2 text piece new read more is =
    subst (λ (bs : List ℕ). Consumes r0 r2 bs) (sym is) (Consumes-trans r0 r1 r2 text piece read more)

-- the end was read, which is no byte more
pub read_whole : (r0 r1 r2 : Option (List ℕ)) (text : List ℕ) → length text ≤ 16777216 → Consumes r0 r1 text → Consumes r1 r2 [] → IsAtEnd r2 → ReadsText r0 r2 text
read_whole r0 r1 r2 text within read none end = record {
  within = within;
  read = subst (λ (bs : List ℕ). Consumes r0 r2 bs) (append-nil text) (Consumes-trans r0 r1 r2 text [] read none);
  end = end;
}

pub too_much : (r0 r1 r2 : Option (List ℕ)) (text piece : List ℕ) → length text ≡ 16777216 → length piece ≡ 1 → Consumes r0 r1 text → Consumes r1 r2 piece → StopsReading r0 r2 faults.TooMuch
too_much r0 r1 r2 text piece full one read more =
    (text ++ piece, omega (arith, length-append text piece), Consumes-trans r0 r1 r2 text piece read more)

pub read_failed : (r0 r1 r2 : Option (List ℕ)) (text : List ℕ) → length text ≤ 16777216 → Consumes r0 r1 text → Keeps r1 r2 → StopsReading r0 r2 faults.Read
read_failed r0 r1 r2 text within read kept = (text, within, Consumes-kept r0 r1 r2 text read kept)

pub no_memory : (r0 r1 r2 : Option (List ℕ)) (text piece : List ℕ) → length text + length piece ≤ 16777216 → Consumes r0 r1 text → Consumes r1 r2 piece → StopsReading r0 r2 faults.Memory
no_memory r0 r1 r2 text piece within read more =
    (text ++ piece, omega (arith, length-append text piece), Consumes-trans r0 r1 r2 text piece read more)
