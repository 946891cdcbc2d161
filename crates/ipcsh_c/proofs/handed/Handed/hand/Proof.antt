-- `hand` puts what was the box to what is owned already.
use Rattle.std.proofs.Common.{[], ◌∷◌, ◌++◌, refl}
use Rattle.std.proofs.raw_atomic.Walks.{proved}
use Rattle.std.proofs.alloc.Calls.{Goes-blank}
use base.Fml.{ftrue, flft}
use base.Logic.{fst∗, never}
use contract.Running.{tables}
use mir.Raw.{raw as bare}
use mir.Syntax.{named}
use mir.Val.{vptr}
use prog.Wp.{WpFn}
use types.Logic.{sem}
use types.Kit.{‵, ◌⊛◌, prop, ◌$◌, ◌∵◌, !, qed, done, move, keep, use2, split, join, fsplit, fsplit3, fjoin, feq_i, regoal, suffices, frame, group}
use types.Part.{whole, sub}
use types.Run.{enter, of_opd, fld, stop, returns}
use types.ByLocal.{alloc_all, pass_all, free_all, look_at, get, get_in, sets}
use denote.Exit.{yes}
use denote.Memory.{lone}
use denote.RawPtr.{Ptr, block_ptr, null_ptr, in_a_block}
use denote.Ref.{MutRef, mut_vals, mut_Tells}
use denote.Signature.{plain}
use denote.Steps.{nothing, opens, closes}
use denote.Triple.Walked.{says, Stays, walk_of, stay_dropped, stay_ref, Goes-ref, ends_at}
use Rattle.std.specs.Box.Ownership.{box_owns}
use Rattle.std.specs.contracts.impls.GlobalAllocator.TheImpl.{ghosts}
use Rattle.ipc_seat.specs.contracts.seat.Seat.{the_row as Seat}
use Rattle.ipcsh_c.specs.Owning.{OwnSeats}
use Rattle.ipcsh_c.specs.declared.handed.Handed.{Handed}
use Rattle.ipcsh_c.specs.contracts.handed.Handed.{the_row as R}
use Rattle.ipcsh_c.specs.contracts.loose.Loose as loose
use Rattle.ipcsh_c.proofs.LooseSteps.{word, told}
use Rattle.ipcsh_c.proofs.More.{own_more}
use Rattle.ipcsh_c.specs.contracts.handed.Handed.hand as f
use Rattle.ipcsh_c.proofs.handed.Handed.hand.Statement.{statement}
use Rattle.ipcsh_c.proofs.handed.Handed.hand.Code as code

abbrev stayed : Stays f.ended.signature.params f.ended.kept
stayed = (stay_ref (0 ∷ []) tt (plain (λ _. R)), (stay_dropped _ yes, tt))

pub hand_spec : {M : Type 1} → statement M
hand_spec 𝓤 𝓛 𝓜 𝓡 wired =
    let c = f.clauses 𝓛 𝓜.mem 𝓡.returns in let W = walk_of 𝓛 f.ended stayed c in let 𝓣 = tables 𝓤 𝓛.H 𝓜 𝓡 𝓡.env in let L = loose.the_row Seat in
    proved 𝓛 f.ended stayed c 𝓜 𝓡 (Goes-ref 𝓛 1 0 tt (plain (λ _. R)), (Goes-blank 𝓛 1 (plain (λ _. L)) yes (λ κs x f. tt), tt))
    f.Key.name code.function (code.unfolded 𝓤 𝓛.H 𝓜 𝓡 wired)
    (λ κs. (mut_vals, ((λ l. word l.at ∷ []), tt))) (λ κs. (mut_Tells (named 0) κs.0 R, (told Seat, tt))) (λ κs qs bounds a _ are.
    let b = a.0.ref_ptr.0 in let o = a.0.ref_ptr.1 in let h = a.0.now in let l = a.1.0 in let vs = mut_vals a.0 in
    let Held = λ (p : Ptr). box_owns (ghosts.dealloc_token l.alloc) Seat p l.value in
    let y : Ptr → W.Ghost = λ p. ((κs, qs, bounds, (a.0, (record l { at = p }, tt)), (vs, (word p ∷ [], tt))), tt) in
    qed 𝓛 (((‵ (flft κs.0 qs.0) ⊛ ‵ ftrue) ⊛ ‵ ((MutRef (named 0) κs.0 R).own_val a.0 vs) ⊛ ‵ (L.own_val l (word l.at ∷ [])) ⊛ ‵ ftrue) ∷ ‵ ftrue ∷ []) ∵
    split ! $ split ! $ move ! (2 ∷ []) $ split ! $ move ! (1 ∷ []) $ split ! $ fsplit ! $ keep ! (1 ∷ 3 ∷ 4 ∷ []) $
    in_a_block ! l.at Held (fst∗ 𝓤 (never 𝓤) (sem 𝓛 (ghosts.dealloc_token l.alloc (bare (lone Seat.mir)) null_ptr))) (λ b' o' e. let p = block_ptr b' o' in
    let h' : Handed = record h { handles = h.handles ++ p ∷ []; seats = h.seats ++ l.value ∷ [] } in
    regoal ! (λ π. prop (WpFn 𝓤 𝓛.H 𝓣.C 𝓣.Λ code.function (vs ++ (word π ∷ []) ++ []) (W.post (y π)))) e refl $
    -- [what was the box; self; the token]
    enter ! _ _ _ _ _ $ alloc_all ! (λ at. pass_all ! refl ((tt, tt), ((tt, (tt, tt)), tt)) $
    sets ! (of_opd ! (get_in ! (fld ! refl (stop !)) (sub ! 0 refl (whole !)))) refl (tt, tt) $ sets ! (of_opd ! (get ! refl)) refl (tt, tt) $
    -- [what was the box; self; the token]
    move ! (1 ∷ []) $ fsplit3 ! $ move ! (1 ∷ 2 ∷ 4 ∷ []) $ opens ! tt R b o (λ us. move ! (1 ∷ []) $ fsplit ! $
    -- [what its fields own; what the handles own; its cell; the open borrow, in three entries; self's first part; what was the box]
    move ! (1 ∷ 7 ∷ []) $ use2 𝓛 (‵ (OwnSeats h'.handles h'.seats)) (own_more 𝓛 h.handles h.seats p l.value) $
    move ! (1 ∷ []) $ fjoin ! $ move ! (1 ∷ []) $ closes ! tt R h' us b o $
    -- [two parts of self; the token; self's first part]
    returns ! (look_at ! 0 refl) $ free_all ! refl $ move ! (3 ∷ []) $
    suffices ! _ (ends_at 𝓛 f.ended stayed c (y p) (vptr b' o') p (h', (tt, tt)) (tt, (tt, tt))) $ says ! refl $
    group ! 3 $ nothing ! $ nothing ! $ join ! $ move ! (1 ∷ 0 ∷ []) $ join ! $ nothing ! $ move ! (2 ∷ 0 ∷ []) $ join ! $ frame ! $ frame ! $
    feq_i ! _ (vptr b' o' ∷ []) _ refl $ done !))))
