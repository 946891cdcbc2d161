use Rattle.std.proofs.Common.{◌≡◌, ◌∷◌, [], length, refl, sym, ap, subst, ◌∙◌, append_assoc, append-nil, arith, rules}
use Rattle.std.specs.Prelude.{List, string_bytes}
use Rattle.std.specs.Vec.Iter.{into_iter_items}
use Rattle.std.proofs.lemmas.List.{nil_from_length}
use Rattle.ipc_commands.specs.declared.parts.Part.{Part}
use Rattle.ipcsh.specs.Commands.{parts_made}
use Rattle.ipcsh.specs.Leading.{Leads}
use Rattle.ipcsh.proofs.CommandLemmas.{CarriesOut-parts, Leads-more, Leads-none}
use Rattle.ipcsh.proofs.session.Session.make_each.Goals as goal

pub loop-part-init : goal.loop-part-init
loop-part-init g c = record {
  split = refl;
  count = search rules;
  made = Leads-none (parts_made c.args.client []) (λ p. p) c.args.self.now (string_bytes c.args.rows.now) (λ p is. refl);
  names = refl;
  lines = refl;
}

pub loop-part-preserved : goal.loop-part-preserved
loop-part-preserved g c =
    let at = c.loop-part in
    let part = c.in-Some.part in
    let steps : into_iter_items at.part-iterator ≡ part ∷ into_iter_items c.next.new.self = c.in-Some.ensures.steps.0 in
    record {
      split = append_assoc at.yielded (part ∷ []) _ ∙ rw (← steps) at.invariant.split;
      count = let was = at.invariant.count in let gone = c.in-Some.ensures.steps.1 in let short = ap length steps in omega arith;
      made = Leads-more c.args.client at.yielded part c.args.self.now at.self c.make.new.self (string_bytes c.args.rows.now) (string_bytes at.rows) (string_bytes c.make.new.rows) at.invariant.made c.in_ok-make.ensures.does;
      names = c.in_ok-make.ensures.names ∙ at.invariant.names;
      lines = c.in_ok-make.ensures.lines ∙ at.invariant.lines;
    }

pub returns-clause-does : goal.returns-clause-does
returns-clause-does g c =
    let at = c.loop-part in
    let none = c.in-None.ensures.steps in
    let empty : into_iter_items at.part-iterator ≡ [] = nil_from_length _ (sym at.invariant.count ∙ none.0) in
    let all = sym (append-nil at.yielded) ∙ rw empty at at.invariant.split ∙ c.into_iter-part-iterator.ensures.into_iter_gives.0 in
    CarriesOut-parts c.args.client c.args.parts.items c.args.self.now at.self (string_bytes c.args.rows.now) (string_bytes at.rows) (subst (λ (parts : List Part). Leads (parts_made c.args.client parts) (λ p. p) c.args.self.now at.self (string_bytes c.args.rows.now) (string_bytes at.rows)) all at.invariant.made)
