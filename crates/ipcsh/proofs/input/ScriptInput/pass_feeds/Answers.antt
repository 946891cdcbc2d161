use Rattle.std.proofs.Common.{List, ℕ, length, subst, sym}
use Rattle.ipcsh.specs.Inputs.{Takes}
use Rattle.ipcsh.specs.Session.{Session}
use Rattle.ipcsh.proofs.InputLemmas.{Takes-feeds, with_lines}
use Rattle.ipcsh.proofs.input.ScriptInput.pass_feeds.Goals as goal

pub returns-clause-takes : goal.returns-clause-takes
returns-clause-takes c =
    let i = c.args.self.now in
    let feeds = c.split_feeds.result.0.now in
    let taken : Takes i feeds (with_lines i (length feeds)) =
    subst (λ (bs : List ℕ). Takes i bs (with_lines i (length feeds))) (sym c.split_feeds.ensures.feeds) (Takes-feeds (length feeds) i c.requires.none) in
    (feeds, sym c.split_feeds.ensures.parts, subst (λ (s : Session). Takes i feeds (record { session = s; pending = i.pending; rows = i.rows })) (sym c.count_lines.ensures.value) taken)
