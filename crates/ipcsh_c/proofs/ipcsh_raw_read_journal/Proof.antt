-- `ipcsh_raw_read_journal` lends the client behind the handle to `journal_read`, and has it back at its last value. The other arguments it passes on.
use Rattle.std.proofs.Common.{ℕ, List, [], ◌∷◌, ◌++◌, refl, w32}
use Rattle.std.proofs.raw_atomic.Walks.{proved}
use base.Fraction.{full_share}
use base.Logic.{id⊢, sep, fst∗, never}
use base.Fml.{ftrue, flft, flent}
use mir.Syntax.{named}
use mir.Raw.{raw as bare}
use mir.Val.{Val, vptr}
use prog.Wp.{WpFn}
use contract.Monad.{fact}
use contract.Running.{tables}
use types.Logic.{sem}
use types.Kit.{‵, raw, ◌⊛◌, some, later, prop, ◌$◌, ◌∵◌, !, qed, done, move, keep, drop, use1, use2, use3, split, join, frame, show, fsplit, fjoin, feq_l, pick, await, regoal, suffices, group}
use types.Part.{whole, sub, agg}
use types.Run.{enter, of_opd, addr, stop, fld, hop, from, no_more, and_then, returns}
use types.ByLocal.{alloc_all, pass_all, free_all, look_at, look_in_at, get, get_in, through, sets, lands_as}
use types.Tokens.{lft_new, lft_end}
use types.SemTy.{Body}
use denote.Builtin.{u8, u64, i32}
use denote.Signed.{sint_Lawful}
use denote.Exit.{yes}
use denote.Laws.{Is, shows}
use denote.Memory.{lone, mem}
use denote.RattleType.{owns}
use denote.RawPtr.{Ptr, RawPtr, block_ptr, null_ptr, in_a_block, rawptr_vals, rawptr_Tells}
use denote.Ref.{MutRef, mut_vals, mut_Tells}
use denote.Slice.{mut_slice_vals, mut_slice_Tells}
use denote.Lend.{lends_ref, ref_back}
use denote.Signature.{types_at, plain}
use denote.Steps.{nothing, heard, peeks}
use denote.Triple.Call.{calls_at}
use denote.Triple.Clauses.{Lasts, lasts}
use denote.Triple.Spec.{triple_of}
use denote.Triple.Walked.{says, Stays, walk_of, stay_dropped, Goes-dropped, gave_ref, Goes-gave_ref, gave_slice, Goes-gave_slice, ends_at}
use denote.Triple.Table.{framed}
use Rattle.std.specs.contracts.impls.GlobalAllocator.TheImpl.{ghosts}
use Rattle.std.specs.Box.Ownership.{box_owns}
use Rattle.ipc_seat.specs.Journals.{ReadsInNumbers}
use Rattle.ipc_seat.specs.declared.seat.Seat.{Seat}
use Rattle.ipc_seat.specs.contracts.seat.Seat.{the_row as R}
use Rattle.ipcsh_c.specs.contracts.journal_read as g
use Rattle.ipcsh_c.proofs.journal_read.Met.{met}
use Rattle.ipcsh_c.specs.contracts.ipcsh_raw_read_journal as f
use Rattle.ipcsh_c.proofs.ipcsh_raw_read_journal.Statement.{statement}
use Rattle.ipcsh_c.proofs.ipcsh_raw_read_journal.Code as code

abbrev stayed : Stays f.ended.signature.params f.ended.kept
stayed = (stay_dropped _ yes, (gave_ref (0 ∷ []) tt (plain (λ _. u64)), (gave_slice (1 ∷ []) tt (plain (λ _. u8)), tt)))

pub ipcsh_raw_read_journal_spec : {M : Type 1} → statement M
ipcsh_raw_read_journal_spec 𝓤 𝓛 𝓜 𝓡 wired =
    let c = f.clauses 𝓛 𝓜.mem 𝓡.returns in let W = walk_of 𝓛 f.ended stayed c in let 𝓣 = tables 𝓤 𝓛.H 𝓜 𝓡 𝓡.env in
    proved 𝓛 f.ended stayed c 𝓜 𝓡 (
      Goes-dropped 𝓛 2 (plain (λ _. RawPtr)) yes (λ κs x w. refl),
      (Goes-gave_ref 𝓛 2 0 tt (plain (λ _. u64)), (Goes-gave_slice 𝓛 2 1 tt (plain (λ _. u8)), tt)),
    )
    f.Key.name code.function (code.unfolded 𝓤 𝓛.H 𝓜 𝓡 wired)
    (λ κs. (rawptr_vals, (mut_vals, (mut_slice_vals, tt))))
    (λ κs. (rawptr_Tells, (mut_Tells (named 0) κs.0 u64, (mut_slice_Tells (named 1) κs.1.0 u8, tt))))
    (λ κs qs bounds a v are.
    let given_vals : List Val = mut_vals a.1.0 ++ (mut_slice_vals a.1.1.0 ++ []) in
    let y : Ptr → W.Ghost = λ p. ((κs, qs, bounds, (p, a.1), (rawptr_vals p, (mut_vals a.1.0, (mut_slice_vals a.1.1.0, tt)))), v) in
    let tokens = ‵ (flft κs.0 qs.0) ⊛ ‵ (flft κs.1.0 qs.1.0) ⊛ ‵ ftrue in
    qed 𝓛 ((tokens ⊛ ‵ (owns (types_at f.ended.signature.params κs) a (rawptr_vals a.0, (mut_vals a.1.0, (mut_slice_vals a.1.1.0, tt))))) ∷ ‵ (box_owns (ghosts.dealloc_token v.alloc) R a.0 v) ∷ []) ∵
    split ! $ move ! (1 ∷ []) $ fsplit ! $ drop ! $ keep ! (2 ∷ 0 ∷ 1 ∷ []) $
    -- [the box; the other arguments; the tokens]
    in_a_block ! a.0 (λ p. box_owns (ghosts.dealloc_token v.alloc) R p v) (fst∗ 𝓤 (never 𝓤) (sem 𝓛 (ghosts.dealloc_token v.alloc (bare (lone R.mir)) null_ptr))) (λ b o e.
    regoal ! (λ p. prop (WpFn 𝓤 𝓛.H 𝓣.C 𝓣.Λ code.function (rawptr_vals p ++ given_vals) (W.post (y p)))) e refl $
    fsplit ! $ enter ! _ _ _ _ _ $
    alloc_all ! (λ l. pass_all ! refl ((tt, tt), ((tt, tt), ((tt, (tt, (record { fits = are.1.1.0.0.1.0 }, tt))), tt))) $
    sets ! (of_opd ! (get ! refl)) refl (tt, tt) $
    sets ! (addr ! (through ! refl (stop !))) refl (tt, tt) $
    sets ! (addr ! (through ! refl (stop !))) refl (tt, tt) $
    sets ! (addr ! (from ! (fld ! refl (hop ! (look_in_at ! 3 (sub ! 0 refl (whole !))) (stop !))))) refl (tt, tt) $
    sets ! (agg ! (and_then ! (get ! refl) (and_then ! (get_in ! (fld ! refl (stop !)) (sub ! 1 refl (whole !))) (no_more !)))) refl (tt, (tt, (record { fits = are.1.1.0.0.1.0 }, tt))) $
    lft_new ! tt (λ α. move ! (1 ∷ []) $
    use1 𝓛 (later (some (λ (δ : ℕ). ‵ ((MutRef (named 0) (α ∷ []) R).own_val (record { ref_ptr = (b, o); ghost_name = δ; now = v }) (vptr b o ∷ [])) ⊛ ‵ (flent (α ∷ []) (Body (mem R) b o δ)))))
    (lends_ref 𝓛 R (named 0) (α ∷ []) v b o) $ await ! tt $ pick ! (λ δ. split ! $
    -- [the loan; the lender's part; the token of α; the right to free; the other arguments; the tokens]
    let G = triple_of 𝓛 g.signature (g.spec 𝓛 𝓜.mem 𝓡.returns) in
    let z : G.Ghost = (((α ∷ [], κs), (full_share, qs), tt, (record { ref_ptr = (b, o); ghost_name = δ; now = v }, a.1), (vptr b o ∷ [], (mut_vals a.1.0, (mut_slice_vals a.1.1.0, tt)))), tt) in
    move ! (0 ∷ 4 ∷ []) $ fjoin ! $ move ! (2 ∷ 4 ∷ []) $ join ! $ join ! $
    nothing ! $ move ! (1 ∷ 0 ∷ []) $ use2 𝓛 (raw (G.pre z)) (id⊢ 𝓤 _) $
    calls_at ! (framed 𝓤 𝓛.H 𝓜 (tables 𝓤 𝓛.H 𝓜 𝓡 𝓡.env)) G (met 𝓤 𝓛 𝓜 𝓡 (code.calls-ipcsh_c::journal_read 𝓡.env wired)) z
    (and_then ! (get ! refl) (and_then ! (get ! refl) (and_then ! (get ! refl) (no_more !)))) (λ u.
    let Says : i32.Denot → Seat → Lasts g.ended z.0.0 z.0.3 → Type 0 = λ x s ws.
    ReadsInNumbers v a.1.1.0.now a.1.0.now s ws.1.1.0 ws.1.0 x in
    use1 𝓛 (later (some (λ (x : i32.Denot). ((‵ (flft (α ∷ []) full_share) ⊛ tokens) ⊛ ‵ (i32.own_val x (u ∷ []))) ⊛
    some (λ (ws : Lasts g.ended z.0.0 z.0.3). ‵ (lasts g.ended z.0.0 z.0.3 ws) ⊛ raw (fact 𝓤 (Says x ws.0 ws)))))) (id⊢ 𝓤 _) $
    await ! tt $ pick ! (λ x. split ! $ split ! $ split ! $ lft_end ! tt $
    move ! (3 ∷ []) $ pick ! (λ ws. split ! $ move ! (1 ∷ []) $ heard ! _ (λ eq. fsplit ! $ fsplit ! $
    -- [the loan's last value; its borrow; the other last values; α is over; the tokens; the result; the lender's part; the right to free]
    move ! (3 ∷ 6 ∷ 0 ∷ []) $ use3 𝓛 (later (‵ ((mem R).own_at ws.0 b o))) (ref_back 𝓛 R (α ∷ []) δ ws.0 b o) $ await ! tt $
    move ! (1 ∷ []) $ drop ! $ move ! (1 ∷ []) $ fsplit ! $
    -- [the count's last value; the slice's; what is behind the handle; the tokens; the result; the right to free]
    move ! (1 ∷ []) $ fsplit ! $ fsplit ! $ fsplit ! $ move ! (1 ∷ []) $ feq_l ! (λ bytes_same. fjoin ! $ move ! (1 ∷ []) $ drop ! $
    -- [the last values of bytes and the count; what is behind the handle; the tokens; the result; the right to free]
    move ! (4 ∷ []) $ peeks ! i32 (Is i32) (shows 𝓛 i32) x (u ∷ []) (λ is. lands_as ! refl refl ((sint_Lawful 𝓛 w32).typed x _ is).0 $
    returns ! (look_at ! 0 refl) $ free_all ! refl $
    suffices ! _ (ends_at 𝓛 f.ended stayed c (y (block_ptr b o)) u x (tt, (ws.1.0, (ws.1.1.0, tt))) (tt, (tt, (bytes_same, tt)))) $
    move ! (3 ∷ 5 ∷ []) $ fjoin ! $ nothing ! $ move ! (3 ∷ 0 ∷ []) $ join ! $ move ! (3 ∷ 0 ∷ []) $ join ! $ nothing ! $ join ! $
    move ! (3 ∷ 0 ∷ 2 ∷ []) $ group ! 3 $ frame ! $
    show ! (λ (s : Seat). sep 𝓤 (sem 𝓛 (box_owns (ghosts.dealloc_token s.alloc) R (block_ptr b o) s)) (fact 𝓤 (Says x s ws))) ws.0 $ says ! eq $ done !)))))))))))
