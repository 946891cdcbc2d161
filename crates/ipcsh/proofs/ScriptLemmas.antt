-- What one more line does to a script.
use Rattle.std.proofs.Common.{arith, ◌≡◌, ℕ, zero, suc, ◌<◌, get_or, true, List, [], ◌∷◌, ◌++◌, length, map, set, refl, sym, ap, subst, ◌∙◌}
use Rattle.std.specs.Prelude.{Option, fold}
use Rattle.std.specs.Global.{Vec}
use Rattle.std.proofs.lemmas.List.{map-set}
use Rattle.ipc_creds.specs.Credentials.{Credentials}
use Rattle.ipc_commands.specs.declared.jobs.Job.{Job}
use Rattle.ipc_commands.specs.declared.parts.Part.{Part}
use Rattle.ipc_words.specs.Lines.{Split, is_line, last_lines, lines_of, whole_line, within_limit}
use Rattle.ipcsh.specs.declared.readings.Reading.{Reading}
use Rattle.ipcsh.specs.declared.readings.Reading.TheVariants as readings
use Rattle.ipcsh.specs.Output.{CarriesOut, counted}
use Rattle.ipcsh.specs.Readings.{reading_of}
use Rattle.ipcsh.specs.Scripts.{IsReady, Planned, after_script_line, begun, planned_by, with_job}
use Rattle.ipcsh.specs.Session.{Session}
use Rattle.ipc_words.proofs.LineLemmas.{split_first, split_none}
use Rattle.ipcsh.proofs.InputLemmas.{last_line}

-- the lines of a text with a line feed, and of one with none
pub lines_next : (rest line others : List ℕ) → rest ≡ line ++ 10 ∷ others → is_line line ≡ true → lines_of rest ≡ whole_line line ∷ lines_of others
lines_next rest line others e plain =
    ap lines_of e ∙ ap (λ (s : Split). map whole_line s.whole ++ last_lines s.rest) (split_first line others plain)

pub lines_end : (rest : List ℕ) → is_line rest ≡ true → lines_of rest ≡ last_lines rest
lines_end rest plain = ap (λ (s : Split). map whole_line s.whole ++ last_lines s.rest) (split_none rest plain)

-- one more line is planned
pub planned_next : (p q all : Planned) (rest line others : List ℕ) (says : Option (List ℕ)) → rest ≡ line ++ 10 ∷ others → is_line line ≡ true
    → says ≡ whole_line line → q ≡ after_script_line p says → fold after_script_line p (lines_of rest) ≡ all → fold after_script_line q (lines_of others) ≡ all
planned_next p q all rest line others says e plain is step h =
    ap (λ (x : Planned). fold after_script_line x (lines_of others)) (step ∙ ap (after_script_line p) is)
    ∙ ap (fold after_script_line p) (sym (lines_next rest line others e plain)) ∙ h

-- the last line is planned, where there is something
pub planned_last : (p q all : Planned) (rest : List ℕ) (says : Option (List ℕ)) → is_line rest ≡ true → (rest ≡ [] → ⊥)
    → says ≡ within_limit rest → q ≡ after_script_line p says → fold after_script_line p (lines_of rest) ≡ all → q ≡ all
planned_last p q all rest says plain some is step h =
    step ∙ ap (after_script_line p) is ∙ ap (fold after_script_line p) (sym (lines_end rest plain ∙ last_line rest some)) ∙ h

pub planned_none : (p all : Planned) (rest : List ℕ) → rest ≡ [] → fold after_script_line p (lines_of rest) ≡ all → p ≡ all
planned_none p all rest none h = ap (λ (bs : List ℕ). fold after_script_line p (lines_of bs)) (sym none) ∙ h

-- a line without a call is carried out as in a run
pub planned_told : (p : Planned) (reading : Reading) (new : Session) (rows : List ℕ)
    → ((name : List ℕ) (creds : Credentials) → reading ≡ readings.Client name creds → ⊥)
    → ((client : ℕ) (parts : List Part) → reading ≡ readings.Command client parts → ⊥)
    → CarriesOut p.session reading new p.rows rows
    → record { session = new; jobs = p.jobs; rows = rows } ≡ planned_by p reading
planned_told p readings.Skip new rows a b h = λ i. record { session = h.1.session i; jobs = p.jobs; rows = h.1.rows i }
planned_told p (readings.Bad reason) new rows a b h =
    λ i. record { session = h.1.session i; jobs = p.jobs; rows = h.1.rows i }
planned_told p (readings.Client name creds) new rows a b h = absurd (a name creds refl)
planned_told p (readings.Limit limit n) new rows a b h =
    λ i. record { session = h.1.session i; jobs = p.jobs; rows = h.1.rows i }
planned_told p (readings.Clock now) new rows a b h =
    λ i. record { session = h.1.session i; jobs = p.jobs; rows = h.1.rows i }
planned_told p (readings.Command client parts) new rows a b h = absurd (b client parts refl)

get_or-items : (lists : List (Vec Job)) (i : ℕ) (d : Vec Job) → i < length lists → get_or (map (λ own. own.items) lists) i [] ≡ (get_or lists i d).items
get_or-items [] i d within = absurd (omega (arith, within))
get_or-items (own ∷ lists) zero d within = refl
get_or-items (own ∷ lists) (suc i) d within = get_or-items lists i d (omega (arith, within))

-- one more job of a client
pub job_added : (session new : Session) (lists : List (Vec Job)) (own more : Vec Job) (rows : List ℕ) (client now : ℕ) (parts : List Part)
    → new ≡ begun session → client < length lists → own ≡ get_or lists client own → now ≡ new.time
    → more.items ≡ own.items ++ record { now = now; command = parts } ∷ []
    → record { session = new; jobs = map (λ own. own.items) (set lists client more); rows = rows }
    ≡ with_job (record { session = session; jobs = map (λ own. own.items) lists; rows = rows }) client parts
job_added session new lists own more rows client now parts is within at time pushed =
    let jobs = map (λ own. own.items) lists in
    let added : more.items ≡ get_or jobs client [] ++ record { now = session.time; command = parts } ∷ [] =
    pushed ∙ ap (λ (js : List Job). js ++ record { now = now; command = parts } ∷ []) (ap (λ (v : Vec Job). v.items) at ∙ sym (get_or-items lists client own within)) ∙ ap (λ (n : ℕ). get_or jobs client [] ++ record { now = n; command = parts } ∷ []) (time ∙ ap (λ (s : Session). s.time) is) in
    let lists_are = map-set (λ (v : Vec Job). v.items) lists client more ∙ ap (λ (js : List Job). set jobs client js) added in
    λ i. record { session = is i; jobs = lists_are i; rows = rows }

abbrev pub plan_at : Session → List (List Job) → List ℕ → Planned
plan_at session jobs rows = record { session = session; jobs = jobs; rows = rows }

-- what the line says was planned
pub at_line : (p : Planned) (old new : Session) (jobs : List (List Job)) (rows : List ℕ) (line : Option (List ℕ)) (reading : Reading)
    → plan_at old jobs rows ≡ p → new ≡ counted old → reading ≡ reading_of new line
    → planned_by (plan_at new jobs rows) reading ≡ after_script_line p line
unfolding after_script_line
at_line p old new jobs rows line reading view is says =
    ap (planned_by (plan_at new jobs rows)) says ∙ ap (λ (s : Session). planned_by (plan_at s jobs rows) (reading_of s line)) is ∙ ap (λ (q : Planned). after_script_line q line) view

pub ready_counted : (p : Planned) (old new : Session) (jobs : List (List Job)) (rows : List ℕ) → plan_at old jobs rows ≡ p → new ≡ counted old → IsReady p → IsReady (plan_at new jobs rows)
ready_counted p old new jobs rows view is h =
    let before = subst IsReady (sym view) h in
    let after : IsReady (plan_at (counted old) jobs rows) = record { lists = before.lists; some = before.some } in
    subst (λ (s : Session). IsReady (plan_at s jobs rows)) (sym is) after

pub ready_told : (p : Planned) (reading : Reading)
    → ((name : List ℕ) (creds : Credentials) → reading ≡ readings.Client name creds → ⊥)
    → ((client : ℕ) (parts : List Part) → reading ≡ readings.Command client parts → ⊥)
    → IsReady p → IsReady (planned_by p reading)
ready_told p readings.Skip a b h = record { lists = h.lists; some = h.some }
ready_told p (readings.Bad reason) a b h = record { lists = h.lists; some = h.some }
ready_told p (readings.Client name creds) a b h = absurd (a name creds refl)
ready_told p (readings.Limit limit n) a b h = record { lists = h.lists; some = h.some }
ready_told p (readings.Clock now) a b h = record { lists = h.lists; some = h.some }
ready_told p (readings.Command client parts) a b h = absurd (b client parts refl)
