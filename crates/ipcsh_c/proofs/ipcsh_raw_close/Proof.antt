-- `ipcsh_raw_close` makes the box again, and hands it to `ended`, whose answer it gives.
use Rattle.std.proofs.Common.{◌≡◌, ℤ, List, [], ◌∷◌, ◌++◌, refl, sym, ap, ◌∙◌, subst, w32}
use Rattle.std.proofs.raw_atomic.Walks.{proved_at}
use base.Fraction.{full_share}
use base.Logic.{SProp, ent, emp, id⊢}
use base.Fml.{ftrue, flft}
use contract.BorrowLft.{◌⊑◌, ⊑_refl}
use mir.Syntax.{Dict, impl, tcons, tnil, dnil}
use mir.Val.{Val}
use prog.Wp.{WpFn}
use contract.Monad.{fact, fact_i}
use contract.Running.{tables}
use types.Kit.{‵, raw, ◌⊛◌, some, later, ◌$◌, ◌∵◌, !, qed, done, move, drop, use0, use1, use2, split, join, fsplit, fjoin, feq_i, feq_l, pick, await, rewrite, suffices}
use types.Run.{enter, of_opd, no_more, and_then, returns}
use types.ByLocal.{alloc_all, pass_all, free_all, look_at, get, sets, lands_as}
use denote.Builtin.{i32}
use denote.Laws.{Is, shows}
use denote.Signed.{sint_Lawful}
use denote.Exit.{yes, no}
use denote.Param.{layout, arg}
use denote.Param.Laws.{Laws, arg_laws}
use mir.Raw.{raw as bare}
use denote.Param.NoDrop as nodrop
use denote.RattleType.{RattleType, owns}
use denote.RawPtr.{RawPtr, ptr_val, rawptr_Lawful}
use denote.Signature.{types_at, plain}
use denote.Steps.{nothing, heard, only, peeks}
use denote.Triple.Call.{calls_at}
use denote.Triple.Clauses.{Lasts, lasts}
use denote.Triple.Spec.{triple_of}
use denote.Triple.Walked.{says, Stays, walk_of, stay_dropped, Goes-dropped, ends_at}
use denote.Triple.Table.{framed}
use Rattle.std.proofs.alloc.Calls.{handle_tells}
use Rattle.std.proofs.cell.Inside.{Good}
use Rattle.std.specs.Box.Ownership.{box_owns}
use Rattle.std.proofs.BoxSteps.Form as box
use Rattle.std.proofs.BoxSteps.Steps.{box_out, box_in}
use Rattle.std.specs.contracts.boxed.Box.from_raw as callee
use Rattle.std.proofs.boxed.Box.from_raw.Met as from_raw
use Rattle.std.specs.contracts.alloc.Global as heap
use Rattle.std.proofs.alloc.Global.TheLaws as heap_laws
use Rattle.std.specs.contracts.impls.GlobalAllocator.TheImpl.{ghosts, dict}
use Rattle.std.proofs.impls.GlobalAllocator.TheImpl.Met as allocator
use Rattle.ipc_seat.specs.Raw.{code_of_end}
use Rattle.ipc_seat.specs.Seats.{state_of}
use Rattle.ipc_seat.specs.contracts.seat.Seat.{the_row}
use Rattle.ipc_seat.specs.declared.seat.Seat.{Seat}
use Rattle.ipc_seat.proofs.seat.Seat.TheLaws as laws
use Rattle.ipcsh_c.specs.contracts.ended as g
use Rattle.ipcsh_c.proofs.ended.Met.{met}
use Rattle.ipcsh_c.specs.contracts.ipcsh_raw_close as f
use Rattle.ipcsh_c.proofs.ipcsh_raw_close.Statement.{statement}
use Rattle.ipcsh_c.proofs.ipcsh_raw_close.Code as code

-- the two types as the call passes them
abbrev R : RattleType
R = arg (bare (layout the_row)) no the_row

abbrev Z : RattleType
Z = arg (bare (layout heap.the_row)) no heap.the_row

abbrev L : Laws R
L = arg_laws (bare (layout the_row)) no the_row laws.the_row_laws refl

abbrev LZ : Laws Z
LZ = arg_laws (bare (layout heap.the_row)) no heap.the_row heap_laws.the_row_laws refl

abbrev drops : Dict
drops = impl ("ipcsh_c::Destruct++none::drop" ∷ []) (tcons (layout Z) tnil) dnil

abbrev E : box.Bx
E = record { row = R; laws = L; al = record { row = Z; laws = LZ; g = ghosts; d = dict; drops = drops } }

-- what is answered
abbrev Ends : Seat → ℤ
Ends seat = code_of_end (state_of seat)

abbrev stayed : Stays f.ended.signature.params f.ended.kept
stayed = (stay_dropped _ yes, (stay_dropped _ yes, tt))

pub ipcsh_raw_close_spec : {M : Type 1} → statement M
unfolding Rattle.ipcsh_c.proofs.Destruct++none.drop.Code.code
ipcsh_raw_close_spec 𝓤 𝓛 𝓜 𝓡 wired =
    let H = 𝓛.H in let c = f.clauses 𝓛 𝓜.mem 𝓡.returns in let W = walk_of 𝓛 f.ended stayed c in let 𝓣 = tables 𝓤 H 𝓜 𝓡 𝓡.env in let fn = code.function in
    proved_at 𝓛 f.ended stayed c 𝓜 𝓡 (Goes-dropped 𝓛 0 (plain (λ _. heap.the_row)) yes (λ κs x w. refl), (Goes-dropped 𝓛 0 (plain (λ _. RawPtr)) yes (λ κs x w. refl), tt))
    f.Key.name fn (code.unfolded 𝓤 H 𝓜 𝓡 wired) (λ z are.
    let Post : Val → SProp 𝓤 = W.post z in let Run : List Val → SProp 𝓤 = λ ws. WpFn 𝓤 H 𝓣.C 𝓣.Λ fn ws Post in
    let a = z.0.3.0 in let p = z.0.3.1.0 in let v = z.1 in let B : RattleType = box.B E in
    let toks = ‵ (flft [] full_share) ⊛ ‵ (flft [] full_share) ⊛ ‵ ftrue in
    let k = triple_of 𝓛 (callee.signature R Z ghosts dict drops) (callee.spec R Z ghosts dict drops 𝓛 𝓜.mem 𝓡.returns) in
    qed 𝓛 ((‵ ftrue ⊛ ‵ (owns (types_at f.ended.signature.params tt) z.0.3 z.0.4)) ∷ ‵ (box_owns (ghosts.dealloc_token v.alloc) the_row p v) ∷ []) ∵ split ! $ drop ! $ fsplit ! $
    handle_tells E.al ! a z.0.4.0 (λ h eh fits. move ! (1 ∷ []) $ fsplit ! $ feq_l ! (λ ep. drop ! $
    let y : k.Ghost = ((([], ([], tt)), (full_share, (full_share, tt)), tt, (a, (p, tt)), (h ∷ [], (ptr_val p ∷ [], tt))), v) in
    -- [the handle of the heap; the box]
    nothing ! $ feq_i ! (List Val) (ptr_val p ∷ []) (ptr_val p ∷ []) refl $ fjoin ! $ move ! (1 ∷ 0 ∷ []) $ fjoin ! $
    nothing ! $ use0 𝓛 (‵ (flft [] full_share)) (𝓛.lfts.lft-nil full_share) $ join ! $ use0 𝓛 (‵ (flft [] full_share)) (𝓛.lfts.lft-nil full_share) $ join ! $ join ! $ move ! (1 ∷ []) $
    use0 𝓛 (raw (fact 𝓤 ([] ⊑ Z.lives))) (fact_i 𝓤 ([] ⊑ Z.lives) (emp 𝓤) (⊑_refl [])) $ join ! $
    use0 𝓛 (raw (fact 𝓤 ([] ⊑ R.lives))) (fact_i 𝓤 ([] ⊑ R.lives) (emp 𝓤) (⊑_refl [])) $ join ! $ move ! (1 ∷ 0 ∷ []) $ join ! $ use1 𝓛 (raw (k.pre y)) (id⊢ 𝓤 _) $
    suffices ! (Run (h ∷ ptr_val p ∷ [])) (subst (λ (ws : List Val). ent 𝓤 (Run (h ∷ ptr_val p ∷ [])) (Run (ws ++ (z.0.4.1.0 ++ [])))) (sym eh)
    (subst (λ (ws : List Val). ent 𝓤 (Run (h ∷ ptr_val p ∷ [])) (Run (h ∷ (ws ++ [])))) (sym ep) (id⊢ 𝓤 (Run (h ∷ ptr_val p ∷ []))))) $
    enter ! 𝓣.C 𝓣.Λ fn (h ∷ ptr_val p ∷ []) Post $ alloc_all ! (λ l. pass_all ! refl (fits, (((rawptr_Lawful 𝓛).typed p _ refl).0, tt)) $
    sets ! (of_opd ! (get ! refl)) refl ((rawptr_Lawful 𝓛).typed p _ refl).0 $
    calls_at ! (framed 𝓤 H 𝓜 (tables 𝓤 H 𝓜 𝓡 𝓡.env)) k (from_raw.met 𝓤 𝓛 𝓜 𝓡 (code.calls-std_alloc::boxed::Box::from_raw 𝓡.env wired) R Z L LZ ghosts dict drops
    (allocator.passed 𝓡.env (code.calls-std_heap::GlobalAllocator::allocate 𝓡.env wired) (code.calls-std_heap::GlobalAllocator::deallocate 𝓡.env wired) (code.calls-std_heap::GlobalAllocator::grow 𝓡.env wired) (code.calls-std_heap::GlobalAllocator::shrink 𝓡.env wired) _ 𝓤 𝓛 𝓜 𝓡)
    (nodrop.glues "ipcsh_c::Destruct++none::drop" 𝓡.env (code.calls-ipcsh_c::Destruct++none::drop 𝓡.env wired) Z LZ _ 𝓤 𝓛 𝓜 𝓡)) y (and_then ! (get ! refl) (and_then ! (get ! refl) (no_more !))) (λ u.
    use1 𝓛 (later (some (λ (r : B.Denot). (toks ⊛ ‵ (B.own_val r (u ∷ []))) ⊛ some (λ (ls : Lasts (callee.ended R Z ghosts dict drops) y.0.0 y.0.3). ‵ (lasts (callee.ended R Z ghosts dict drops) y.0.0 y.0.3 ls) ⊛ (raw (fact 𝓤 (r.value ≡ v)) ⊛ raw (fact 𝓤 (r.alloc ≡ a))))))) (id⊢ 𝓤 (k.post y u)) $
    await ! tt $ pick ! (λ r. split ! $ move ! (1 ∷ []) $ pick ! (λ ls. split ! $ drop ! $ split ! $ heard ! (r.value ≡ v) (λ same. drop ! $ split ! $ drop ! $
    box_out E ! r (u ∷ []) (λ b o h' e us fits'. box_in E ! r b o r.value e refl $ rewrite ! 0 (λ (xs : List Val). ‵ (B.own_val r xs)) (sym us) refl $
    let good : Good (layout B) u = subst (Good (layout B)) (sym (ap only us)) (box.box_typed E h' b o fits') in lands_as ! refl refl good $
    let G = triple_of 𝓛 g.signature (g.spec 𝓛 𝓜.mem 𝓡.returns) in
    let x : G.Ghost = ((tt, tt, tt, (r, tt), (u ∷ [], tt)), tt) in
    nothing ! $ move ! (1 ∷ 0 ∷ []) $ join ! $ nothing ! $ join ! $ nothing ! $ move ! (1 ∷ 0 ∷ []) $ use2 𝓛 (raw (G.pre x)) (id⊢ 𝓤 _) $
    calls_at ! (framed 𝓤 H 𝓜 (tables 𝓤 H 𝓜 𝓡 𝓡.env)) G (met 𝓤 𝓛 𝓜 𝓡 (code.calls-ipcsh_c::ended 𝓡.env wired)) x (and_then ! (get ! refl) (no_more !)) (λ w.
    use1 𝓛 (later (some (λ (n : ℤ). (‵ ftrue ⊛ ‵ (i32.own_val n (w ∷ []))) ⊛ some (λ (ls : Lasts g.ended tt x.0.3). ‵ (lasts g.ended tt x.0.3 ls) ⊛ raw (fact 𝓤 (n ≡ Ends r.value)))))) (id⊢ 𝓤 _) $
    await ! tt $ pick ! (λ n. split ! $ split ! $ drop ! $ move ! (1 ∷ []) $ pick ! (λ ls. split ! $ drop ! $ heard ! (n ≡ Ends r.value) (λ is.
    peeks ! i32 (Is i32) (shows 𝓛 i32) n (w ∷ []) (λ is_w. lands_as ! refl refl ((sint_Lawful 𝓛 w32).typed n (w ∷ []) is_w).0 $
    returns ! (look_at ! 0 refl) $ free_all ! refl $
    suffices ! _ (ends_at 𝓛 f.ended stayed c z w n (tt, (tt, tt)) (tt, (tt, tt))) $ says ! (is ∙ ap Ends same) $
    nothing ! $ nothing ! $ join ! $ nothing ! $ join ! $ nothing ! $ done !))))))))))))))
