use Rattle.std.proofs.Common.{◌≡◌, [], ◌∷◌, ap, sym, ◌∙◌}
use Rattle.std.specs.Prelude.{string_bytes}
use Rattle.std.proofs.lemmas.Result.{on_ok_weaker}
use Rattle.ipc_text.specs.Parts.{listed}
use Rattle.ipcsh.proofs.CommandLemmas.{CarriesOut-parts}
use Rattle.ipcsh.proofs.session.Session.make_all.Goals as goal

pub returns-in-One-clause-does : goal.returns-in-One-clause-does
returns-in-One-clause-does g c =
    let one : c.args.command ≡ c.in-One.part ∷ [] = sym c.into_parts.ensures ∙ ap listed c.in-One.is in
    rw one (on_ok_weaker c.make.result (λ made. CarriesOut-parts c.args.client (c.in-One.part ∷ []) c.args.self.now c.make.new.self (string_bytes c.args.rows.now) (string_bytes c.make.new.rows) made) c.make.ensures.does)
