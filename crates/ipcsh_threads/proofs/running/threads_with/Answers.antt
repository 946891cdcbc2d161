use Rattle.std.proofs.Common.{rules, ◌≡◌, ℕ, true, false, List, ap, subst, sym, ◌∙◌}
use Rattle.std.specs.Prelude.{Err, string_bytes}
use Rattle.std.specs.Io.KnownBytes.{Appends}
use Rattle.std.proofs.lemmas.Result.{err_from_is_err_and}
use Rattle.ipcsh.specs.declared.runs.Fault.{Fault}
use Rattle.ipcsh.specs.declared.runs.Fault.TheVariants as faults
use Rattle.ipcsh_threads.proofs.ThreadLemmas.{ends_by, last_write_stops, memory_stops, with_jobs, without_jobs}
use Rattle.ipcsh_threads.proofs.running.threads_with.Goals as goal

pub returns-in_err-ending : goal.returns-in_err-ending
returns-in_err-ending g c =
    let p = err_from_is_err_and c.from_residual-in_err-ending.result c.from_residual-in_err-ending.ensures.1 in
    let read = c.in_ok-script.ensures.ok in
    let w0 = g.W.Write.contents c.args.writer.now in
    let w1 = g.W.Write.contents c.write_bytes.new.writer in
    let same : c.as_bytes.result.now ≡ string_bytes c.in_ok-script.script.rows = search rules in
    let wrote : Appends w0 w1 (string_bytes c.in_ok-script.script.rows) = subst (λ (bs : List ℕ). Appends w0 w1 bs) same c.in_ok-write_bytes.ensures.ok in
    ends_by _ c.from_residual-in_err-ending.result faults.Memory (p.1 ∙ ap (λ (f : Fault). Err f) p.2) (memory_stops _ _ read.0 c.in_ok-script.script read.1 read.2 w0 w1 wrote)

pub returns-in_err-write_bytes-2 : goal.returns-in_err-write_bytes-2
returns-in_err-write_bytes-2 g c =
    let p = err_from_is_err_and c.from_residual-in_err-write_bytes-2.result c.from_residual-in_err-write_bytes-2.ensures.1 in
    let read = c.in_ok-script.ensures.ok in
    let e = c.in_err-write_bytes-2.ensures.err in
    let some : c.in_ok-script.script.has_jobs ≡ true = search rules in
    let w0 = g.W.Write.contents c.args.writer.now in
    let w1 = g.W.Write.contents c.write_bytes.new.writer in
    let w2 = g.W.Write.contents c.write_bytes-2.new.writer in
    let same : c.as_bytes.result.now ≡ string_bytes c.in_ok-script.script.rows = search rules in
    let more : c.as_bytes-2.result.now ≡ string_bytes c.in_ok-ending.ending.rows = search rules in
    let wrote : Appends w0 w1 (string_bytes c.in_ok-script.script.rows) = subst (λ (bs : List ℕ). Appends w0 w1 bs) same c.in_ok-write_bytes.ensures.ok in
    ends_by _ c.from_residual-in_err-write_bytes-2.result faults.Write (p.1 ∙ ap (λ (f : Fault). Err f) (p.2 ∙ c.in_err-write_bytes-2.ensures.fault)) (last_write_stops _ _ read.0 c.in_ok-script.script read.1 read.2 w0 w1 w2 c.in_ok-ending.ending e.0 e.1 some c.in_ok-ending.ensures wrote (sym more ∙ e.2) e.3)

pub returns : goal.returns
returns g c =
    let read = c.in_ok-script.ensures.ok in
    let some : c.in_ok-script.script.has_jobs ≡ true = search rules in
    let w0 = g.W.Write.contents c.args.writer.now in
    let w1 = g.W.Write.contents c.write_bytes.new.writer in
    let w2 = g.W.Write.contents c.write_bytes-2.new.writer in
    let same : c.as_bytes.result.now ≡ string_bytes c.in_ok-script.script.rows = search rules in
    let more : c.as_bytes-2.result.now ≡ string_bytes c.in_ok-ending.ending.rows = search rules in
    let wrote : Appends w0 w1 (string_bytes c.in_ok-script.script.rows) = subst (λ (bs : List ℕ). Appends w0 w1 bs) same c.in_ok-write_bytes.ensures.ok in
    let ended : Appends w1 w2 (string_bytes c.in_ok-ending.ending.rows) = subst (λ (bs : List ℕ). Appends w1 w2 bs) more c.in_ok-write_bytes-2.ensures.ok in
    (with_jobs _ _ read.0 c.in_ok-script.script read.1 read.2 w0 w1 w2 c.in_ok-ending.ending some c.in_ok-ending.ensures wrote ended, tt)

pub returns-then-not-script : goal.returns-then-not-script
returns-then-not-script g c =
    let read = c.in_ok-script.ensures.ok in
    let none : c.in_ok-script.script.has_jobs ≡ false = search rules in
    let w0 = g.W.Write.contents c.args.writer.now in
    let w1 = g.W.Write.contents c.write_bytes.new.writer in
    let same : c.as_bytes.result.now ≡ string_bytes c.in_ok-script.script.rows = search rules in
    let wrote : Appends w0 w1 (string_bytes c.in_ok-script.script.rows) = subst (λ (bs : List ℕ). Appends w0 w1 bs) same c.in_ok-write_bytes.ensures.ok in
    (without_jobs _ _ read.0 c.in_ok-script.script read.1 read.2 w0 w1 none wrote, tt)
