-- `ipcsh_raw_ask` lends the client behind the handle to `asked`, and has it back at its last value.
use Rattle.std.proofs.Common.{ℕ, List, [], ◌∷◌, ◌++◌, refl, w32}
use Rattle.std.proofs.raw_atomic.Walks.{proved}
use base.Fraction.{full_share}
use base.Logic.{id⊢, sep, fst∗, never}
use base.Fml.{ftrue, flft, flent}
use mir.Syntax.{named}
use mir.Raw.{raw as bare}
use mir.Val.{Val, vptr}
use prog.Wp.{WpFn}
use contract.Monad.{fact}
use contract.Running.{tables}
use types.Logic.{sem}
use types.Kit.{‵, raw, ◌⊛◌, some, later, prop, ◌$◌, ◌∵◌, !, qed, done, move, keep, drop, use1, use2, use3, split, join, frame, show, fsplit, fjoin, pick, await, regoal, suffices, group}
use types.Run.{enter, of_opd, addr, stop, no_more, and_then, returns}
use types.ByLocal.{alloc_all, pass_all, free_all, look_at, get, through, sets, lands_as}
use types.Tokens.{lft_new, lft_end}
use types.SemTy.{Body}
use denote.Builtin.{i32, RefOf}
use denote.Signed.{sint_Lawful}
use denote.Exit.{yes}
use denote.Laws.{Is, shows}
use denote.Memory.{lone, mem}
use denote.RattleType.{owns}
use denote.RawPtr.{Ptr, RawPtr, block_ptr, null_ptr, in_a_block, rawptr_vals, rawptr_Tells}
use denote.Ref.{MutRef, shr_vals, shr_Tells}
use denote.Lend.{lends_ref, ref_back}
use denote.Signature.{types_at, plain}
use denote.Steps.{nothing, heard, peeks}
use denote.Triple.Call.{calls_at}
use denote.Triple.Clauses.{Lasts, lasts}
use denote.Triple.Spec.{triple_of}
use denote.Triple.Walked.{says, Stays, walk_of, stay_dropped, Goes-dropped, ends_at}
use denote.Triple.Table.{framed}
use Rattle.std.specs.contracts.impls.GlobalAllocator.TheImpl.{ghosts}
use Rattle.std.specs.Box.Ownership.{box_owns}
use Rattle.ipc_abi.specs.Requests.{given}
use Rattle.ipc_abi.specs.contracts.requests.RawRequest.{the_row as Request}
use Rattle.ipc_seat.specs.Raw.{PostsInNumbers}
use Rattle.ipc_seat.specs.declared.seat.Seat.{Seat}
use Rattle.ipc_seat.specs.contracts.seat.Seat.{the_row as R}
use Rattle.ipcsh_c.specs.contracts.asked as g
use Rattle.ipcsh_c.proofs.asked.Met.{met}
use Rattle.ipcsh_c.specs.contracts.ipcsh_raw_ask as f
use Rattle.ipcsh_c.proofs.ipcsh_raw_ask.Statement.{statement}
use Rattle.ipcsh_c.proofs.ipcsh_raw_ask.Code as code

abbrev stayed : Stays f.ended.signature.params f.ended.kept
stayed = (stay_dropped _ yes, (stay_dropped _ yes, tt))

pub ipcsh_raw_ask_spec : {M : Type 1} → statement M
ipcsh_raw_ask_spec 𝓤 𝓛 𝓜 𝓡 wired =
    let c = f.clauses 𝓛 𝓜.mem 𝓡.returns in let W = walk_of 𝓛 f.ended stayed c in let 𝓣 = tables 𝓤 𝓛.H 𝓜 𝓡 𝓡.env in
    proved 𝓛 f.ended stayed c 𝓜 𝓡 (
      Goes-dropped 𝓛 1 (plain (λ _. RawPtr)) yes (λ κs x w. refl),
      (Goes-dropped 𝓛 1 (RefOf (0 ∷ []) tt (plain (λ _. Request)) (λ _. tt)) yes (λ κs x w. refl), tt),
    )
    f.Key.name code.function (code.unfolded 𝓤 𝓛.H 𝓜 𝓡 wired)
    (λ κs. (rawptr_vals, (shr_vals, tt)))
    (λ κs. (rawptr_Tells, (shr_Tells (named 0) κs.0 Request, tt)))
    (λ κs qs bounds a v are.
    let given_vals : List Val = shr_vals a.1.0 ++ [] in
    let y : Ptr → W.Ghost = λ p. ((κs, qs, bounds, (p, a.1), (rawptr_vals p, (shr_vals a.1.0, tt))), v) in
    let tokens = ‵ (flft κs.0 qs.0) ⊛ ‵ ftrue in
    qed 𝓛 ((tokens ⊛ ‵ (owns (types_at f.ended.signature.params κs) a (rawptr_vals a.0, (shr_vals a.1.0, tt)))) ∷ ‵ (box_owns (ghosts.dealloc_token v.alloc) R a.0 v) ∷ []) ∵
    split ! $ move ! (1 ∷ []) $ fsplit ! $ drop ! $ keep ! (2 ∷ 0 ∷ 1 ∷ []) $
    -- [the box; the other arguments; the tokens]
    in_a_block ! a.0 (λ p. box_owns (ghosts.dealloc_token v.alloc) R p v) (fst∗ 𝓤 (never 𝓤) (sem 𝓛 (ghosts.dealloc_token v.alloc (bare (lone R.mir)) null_ptr))) (λ b o e.
    regoal ! (λ p. prop (WpFn 𝓤 𝓛.H 𝓣.C 𝓣.Λ code.function (rawptr_vals p ++ given_vals) (W.post (y p)))) e refl $
    fsplit ! $ enter ! _ _ _ _ _ $
    alloc_all ! (λ l. pass_all ! refl ((tt, tt), ((tt, tt), tt)) $
    sets ! (of_opd ! (get ! refl)) refl (tt, tt) $
    sets ! (addr ! (through ! refl (stop !))) refl (tt, tt) $
    lft_new ! tt (λ α. move ! (1 ∷ []) $
    use1 𝓛 (later (some (λ (δ : ℕ). ‵ ((MutRef (named 0) (α ∷ []) R).own_val (record { ref_ptr = (b, o); ghost_name = δ; now = v }) (vptr b o ∷ [])) ⊛ ‵ (flent (α ∷ []) (Body (mem R) b o δ)))))
    (lends_ref 𝓛 R (named 0) (α ∷ []) v b o) $ await ! tt $ pick ! (λ δ. split ! $
    -- [the loan; the lender's part; the token of α; the right to free; the other arguments; the tokens]
    let G = triple_of 𝓛 g.signature (g.spec 𝓛 𝓜.mem 𝓡.returns) in
    let z : G.Ghost = (((α ∷ [], κs), (full_share, qs), tt, (record { ref_ptr = (b, o); ghost_name = δ; now = v }, a.1), (vptr b o ∷ [], (shr_vals a.1.0, tt))), tt) in
    move ! (0 ∷ 4 ∷ []) $ fjoin ! $ move ! (2 ∷ 4 ∷ []) $ join ! $ join ! $
    nothing ! $ move ! (1 ∷ 0 ∷ []) $ use2 𝓛 (raw (G.pre z)) (id⊢ 𝓤 _) $
    calls_at ! (framed 𝓤 𝓛.H 𝓜 (tables 𝓤 𝓛.H 𝓜 𝓡 𝓡.env)) G (met 𝓤 𝓛 𝓜 𝓡 (code.calls-ipcsh_c::asked 𝓡.env wired)) z
    (and_then ! (get ! refl) (and_then ! (get ! refl) (no_more !))) (λ u.
    let Says : i32.Denot → Seat → Type 0 = λ x s. PostsInNumbers v a.1.0.now (given [] [] [] []) s x in
    use1 𝓛 (later (some (λ (x : i32.Denot). ((‵ (flft (α ∷ []) full_share) ⊛ tokens) ⊛ ‵ (i32.own_val x (u ∷ []))) ⊛
    some (λ (ws : Lasts g.ended z.0.0 z.0.3). ‵ (lasts g.ended z.0.0 z.0.3 ws) ⊛ raw (fact 𝓤 (Says x ws.0)))))) (id⊢ 𝓤 _) $
    await ! tt $ pick ! (λ x. split ! $ split ! $ split ! $ lft_end ! tt $
    move ! (3 ∷ []) $ pick ! (λ ws. split ! $ move ! (1 ∷ []) $ heard ! _ (λ eq. fsplit ! $ fsplit ! $
    -- [the loan's last value; its borrow; the other last values; α is over; the tokens; the result; the lender's part; the right to free]
    move ! (3 ∷ 6 ∷ 0 ∷ []) $ use3 𝓛 (later (‵ ((mem R).own_at ws.0 b o))) (ref_back 𝓛 R (α ∷ []) δ ws.0 b o) $ await ! tt $
    move ! (1 ∷ []) $ drop ! $ move ! (1 ∷ []) $ drop ! $
    -- [what is behind the handle; the tokens; the result; the right to free]
    move ! (2 ∷ []) $ peeks ! i32 (Is i32) (shows 𝓛 i32) x (u ∷ []) (λ is. lands_as ! refl refl ((sint_Lawful 𝓛 w32).typed x _ is).0 $
    returns ! (look_at ! 0 refl) $ free_all ! refl $
    suffices ! _ (ends_at 𝓛 f.ended stayed c (y (block_ptr b o)) u x (tt, (tt, tt)) (tt, (tt, tt))) $
    move ! (1 ∷ 3 ∷ []) $ fjoin ! $ nothing ! $ nothing ! $ join ! $ nothing ! $ join ! $
    move ! (3 ∷ 0 ∷ 2 ∷ []) $ group ! 3 $ frame ! $
    show ! (λ (s : Seat). sep 𝓤 (sem 𝓛 (box_owns (ghosts.dealloc_token s.alloc) R (block_ptr b o) s)) (fact 𝓤 (Says x s))) ws.0 $ says ! eq $ done !))))))))))
