use Rattle.std.proofs.Common.{[], refl}
use Rattle.std.specs.Prelude.{None, string_bytes}
use Rattle.ipcsh.specs.Inputs.{HasRead}
use Rattle.ipcsh.proofs.RunLemmas.{Going-start}
use Rattle.ipcsh.proofs.texts.run_text.Goals as goal

pub returns : goal.returns
returns g c =
    let e = c.new-input.ensures in
    let start : HasRead [] [] c.new-input.result = (Going-start None None c.new-input.result e.session e.pending e.rows).held in
    record {
      printed = record { session = c.finish.new.self.session; output = string_bytes c.finish.new.self.rows };
      lines = c.in_ok-finish.ensures c.args.text.now [] (c.in_ok-take.ensures.takes [] [] start);
      rows = refl;
      told = c.summary-summary.ensures;
      space = c.into_space-space.ensures;
    }
