use Rattle.std.proofs.Common.{◌≡◌, ◌+◌, ◌-◌, ◌++◌, ℕ, length, take, arith, ap, ◌∙◌}
use Rattle.ipc_words.proofs.LineLemmas.{extend_kept}
use Rattle.ipc_words.proofs.lines.Pending.extend.Goals as goal

pub returns-clause-ok : goal.returns-clause-ok
returns-clause-ok c =
    let room = 65538 - c.len-room.result in
    let full : length c.args.self.now + room ≡ 65538 = rw (← c.self.view_is) (omega (arith, c.len-room.ensures, c.self.inside.kept.ok.0)) in
    rw (c.in_ok-extend_from_slice.ensures.items, c.self.view_is) (ap (λ (n : ℕ). c.args.self.now ++ take n c.args.bytes.now) c.min.ensures ∙ extend_kept c.args.self.now c.args.bytes.now room full)
