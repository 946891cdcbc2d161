-- How the threads of a script end.
use Rattle.std.proofs.Common.{◌≡◌, ℕ, Bool, true, false, List, [], ◌++◌, Option, refl, sym, ap, subst, ◌∙◌, inr, append_assoc, append-nil}
use Rattle.std.specs.Prelude.{Result, Err, string_bytes}
use Rattle.std.specs.Io.KnownBytes.{Appends}
use Rattle.std.proofs.KnownBytes.{Appends-trans}
use Rattle.ipc_words.specs.Lines.{lines_of}
use Rattle.ipcsh.specs.declared.scripts.Script.{Script}
use Rattle.ipcsh.specs.declared.runs.Fault.{Fault}
use Rattle.ipcsh.specs.declared.runs.Fault.TheVariants as faults
use Rattle.ipcsh.specs.declared.runs.Summary.{Summary}
use Rattle.ipcsh.specs.Scripts.{IsScript, Planned, ReadsText, planned}
use Rattle.ipcsh.specs.Runs.{Transfer, transfer}
use Rattle.ipcsh_threads.specs.declared.running.Ending.{Ending}
use Rattle.ipcsh_threads.specs.Threads.{EndsSo, GoesOn, Prints, Setup, StopsThreads, ThreadsEndBy, WritesThreads, setup_in, setup_of}

setup_is : (p : Planned) (script : Script) → IsScript p script → setup_of script ≡ setup_in p
setup_is p script h = λ i. record { names = h.names i; clients = h.clients i; limits = h.limits i; jobs = h.jobs i }

pub ends_by : (t : Transfer) (result : Result Summary Fault) (fault : Fault) → result ≡ Err fault → StopsThreads t fault → ThreadsEndBy t result
ends_by t result fault is h = subst (λ (r : Result Summary Fault). ThreadsEndBy t r) (sym is) (tt, h)

module _ (r0 r1 : Option (List ℕ)) (text : List ℕ) (script : Script) (read : ReadsText r0 r1 text) (h : IsScript (planned (lines_of text)) script) where
  pub memory_stops : (w0 w1 : Option (List ℕ)) → Appends w0 w1 (string_bytes script.rows) → StopsThreads (transfer r0 r1 w0 w1) faults.Memory
  memory_stops w0 w1 wrote =
      (text, string_bytes script.rows, read.within, read.read, wrote, ([], sym h.rows ∙ sym (append-nil (string_bytes script.rows))))

  prints : (e : Ending) → script.has_jobs ≡ true → EndsSo (setup_of script) e → Prints (planned (lines_of text)) (string_bytes script.rows ++ string_bytes e.rows) e.events
  prints e some ends = (
    string_bytes e.rows,
    ap (λ (bs : List ℕ). bs ++ string_bytes e.rows) h.rows,
    subst (λ (b : Bool). GoesOn b (setup_in (planned (lines_of text))) (string_bytes e.rows) e.events) (sym some ∙ h.has_jobs) (subst (λ (s : Setup). EndsSo s e) (setup_is (planned (lines_of text)) script h) ends),
  )

  pub with_jobs : (w0 w1 w2 : Option (List ℕ)) (e : Ending) → script.has_jobs ≡ true → EndsSo (setup_of script) e → Appends w0 w1 (string_bytes script.rows) → Appends w1 w2 (string_bytes e.rows) → WritesThreads (transfer r0 r1 w0 w2) (record { lines = script.lines; bad = script.bad; events = e.events })
  with_jobs w0 w1 w2 e some ends wrote more = (
    text,
    string_bytes script.rows ++ string_bytes e.rows,
    record {
      read = read;
      prints = prints e some ends;
      written = Appends-trans w0 w1 w2 (string_bytes script.rows) (string_bytes e.rows) wrote more;
      lines = h.lines;
      bad = h.bad;
    },
  )

  pub without_jobs : (w0 w1 : Option (List ℕ)) → script.has_jobs ≡ false → Appends w0 w1 (string_bytes script.rows) → WritesThreads (transfer r0 r1 w0 w1) (record { lines = script.lines; bad = script.bad; events = 0 })
  without_jobs w0 w1 none wrote = (
    text,
    string_bytes script.rows,
    record {
      read = read;
      prints = (
        [],
        h.rows ∙ sym (append-nil (planned (lines_of text)).rows),
        subst (λ (b : Bool). GoesOn b (setup_in (planned (lines_of text))) [] 0) (sym none ∙ h.has_jobs) (refl, refl),
      );
      written = wrote;
      lines = h.lines;
      bad = h.bad;
    },
  )

  pub last_write_stops : (w0 w1 w2 : Option (List ℕ)) (e : Ending) (done rest : List ℕ) → script.has_jobs ≡ true → EndsSo (setup_of script) e → Appends w0 w1 (string_bytes script.rows) → string_bytes e.rows ≡ done ++ rest → Appends w1 w2 done → StopsThreads (transfer r0 r1 w0 w2) faults.Write
  last_write_stops w0 w1 w2 e done rest some ends wrote parts more = (
    text,
    string_bytes script.rows ++ done,
    read,
    Appends-trans w0 w1 w2 (string_bytes script.rows) done wrote more,
    inr (string_bytes script.rows ++ string_bytes e.rows, e.events, prints e some ends, (rest, ap (λ (bs : List ℕ). string_bytes script.rows ++ bs) parts ∙ sym (append_assoc (string_bytes script.rows) done rest))),
  )
