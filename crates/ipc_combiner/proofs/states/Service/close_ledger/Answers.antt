use Rattle.std.proofs.Common.{◌≡◌, ◌≤◌, List, [], length, All, sym, ap, ◌∙◌, subst, arith}
use Rattle.std.proofs.lemmas.List.Elements.{All-head, All-tail}
use Rattle.ipc_history.specs.History.{IsLegal}
use Rattle.ipc_space.specs.Spaces.{Parts}
use Rattle.pub_list.specs.Closing.{told_at_close, last_words}
use Rattle.ipc_combiner.specs.declared.closing.Client.{Client}
use Rattle.ipc_combiner.specs.declared.shared.Shared.{Shared}
use Rattle.ipc_combiner.specs.Closing.{IsClientOf, IsOpenedBy, IsTold}
use Rattle.ipc_combiner.specs.Entries.{entries_of}
use Rattle.ipc_combiner.specs.Laws.{history-entries}
use Rattle.ipc_combiner.specs.Serving.{entries_in, history_of}
use Rattle.ipc_combiner.specs.States.{Records, keeping, opened}
use Rattle.ipc_combiner.proofs.Closed.{words_onto, length-words, told_more, each_told, is_opened}
use Rattle.ipc_combiner.proofs.Handing.{none_left}
use Rattle.ipc_combiner.proofs.states.Service.close_ledger.Goals as goal
use Rattle.ipc_combiner.proofs.states.Service.close_ledger.Goals.{After-drop-self-2}

pub add-requires-clause-list : goal.add-requires-clause-list
add-requires-clause-list c = let i = c.loop-client.invariant in let list = c.args.self.list in
    c.end.ensures.list list (All-head (λ x. IsClientOf list x) c.in-Some.client c.next.new.self.rest.items (subst (All (λ x. IsClientOf list x)) c.in-Some.ensures.steps.0 i.2)) ∙ sym i.1

pub loop-client-preserved : goal.loop-client-preserved
loop-client-preserved c = let i = c.loop-client.invariant in let list = c.args.self.list in (
  c.add.ensures.clients ∙ i.0,
  c.add.ensures.list ∙ i.1,
  All-tail (λ x. IsClientOf list x) c.in-Some.client c.next.new.self.rest.items (subst (All (λ x. IsClientOf list x)) c.in-Some.ensures.steps.0 i.2),
  told_more c.loop-client.client-iterator.rest.items c.next.new.self.rest.items c.in-Some.client _ (told_at_close c.loop-client.closing.closer) (told_at_close c.add.new.self.closer) c.in-Some.ensures.steps.0 (ap (λ w. last_words w) c.end.ensures.work) c.add.ensures.told ∙ i.3,
)

pub end-ledger-requires : goal.end-ledger-requires
end-ledger-requires c = let i = c.loop-client.invariant in
    let none : c.loop-client.client-iterator.rest.items ≡ [] = none_left _ (let size = c.loop-client.client-iterator.rest.ok.0 in let gone = c.in-None.ensures.steps.0 in omega arith) in
    let told : told_at_close c.loop-client.closing.closer ≡ words_onto c.args.clients.items [] = ap (λ l. words_onto l (told_at_close c.loop-client.closing.closer)) (sym none) ∙ i.3 in
    let all = length-words c.args.clients.items [] in let count = c.requires.all in let same = ap length told in let n = i.0 in omega (arith, all, count, same, n)

-- by the state at the end: what the clients were told, and how the service was opened
abbrev AtEnd : Shared → Records → List Client → Type 0
AtEnd state list cs = All (λ x. IsTold (entries_in state) cs x) cs × IsOpenedBy (opened list) list.clients (history_of state) × (state.keeping ≡ keeping list)

at_end : (c : After-drop-self-2) → AtEnd c.end-ledger.result c.args.self.list c.args.clients.items
at_end c = let i = c.loop-client.invariant in let cs = c.args.clients.items in let list = c.args.self.list in let closer = c.loop-client.closing.closer in let state = c.end-ledger.result in
    let none : c.loop-client.client-iterator.rest.items ≡ [] = none_left _ (let size = c.loop-client.client-iterator.rest.ok.0 in let gone = c.in-None.ensures.steps.0 in omega arith) in
    let some : 1 ≤ length cs = (let all = c.requires.all in let least = list.sized in omega arith) in
    let told = each_told (entries_in state) cs (told_at_close closer) (ap (λ l. words_onto l (told_at_close closer)) (sym none) ∙ i.3) c.end-ledger.ensures.told in
    let opens = is_opened list state.keeping (history_of state) cs c.args.self.opened some c.requires.service told (subst IsLegal (history-entries state.keeping (history_of state)) c.end-ledger.ensures.legal.1) in
    (told, opens.0, opens.1)

pub returns-clause-told : goal.returns-clause-told
returns-clause-told c = let end = at_end c in let cs = c.args.clients.items in
    subst (λ (l : Parts). All (λ x. IsTold (entries_of (keeping c.args.self.list) l.history) cs x) cs) (sym c.into_inner.ensures)
    (subst (λ b. All (λ x. IsTold (entries_of b (history_of c.end-ledger.result)) cs x) cs) end.2 end.0)

pub returns-clause-opening : goal.returns-clause-opening
returns-clause-opening c = let list = c.args.self.list in
    subst (λ (l : Parts). IsOpenedBy (opened list) list.clients l.history) (sym c.into_inner.ensures) (at_end c).1

pub returns-clause-kept : goal.returns-clause-kept
returns-clause-kept c = λ yes. ap (λ (l : Parts). l.given) c.into_inner.ensures ∙ c.end-ledger.result.whole ((at_end c).2 ∙ yes)
