-- `loosen` has the box's address and what the box owned from `into_raw`.
use Rattle.std.proofs.Common.{List, [], ◌∷◌, ◌++◌, refl, sym, ap, ◌∙◌, subst}
use Rattle.std.proofs.raw_atomic.Walks.{proved_at}
use base.Fraction.{full_share}
use base.Logic.{SProp, ent, emp, id⊢, fst∗, never}
use base.Fml.{ftrue, fsep, flft}
use contract.BorrowLft.{◌⊑◌, ⊑_refl}
use contract.Monad.{fact, fact_i}
use contract.Running.{tables}
use mir.MapTy.{inst_fn}
use mir.Raw.{raw as bare}
use mir.Syntax.{Dict, impl, a_type, tcons, tnil, dcons, dnil}
use mir.Val.{Val}
use prog.Wp.{WpFn}
use types.Logic.{sem}
use types.Kit.{Item, ‵, raw, ◌⊛◌, some, later, ◌$◌, ◌∵◌, !, qed, done, move, keep, drop, use0, use1, split, join, fsplit, fjoin, feq_l, pick, await, suffices}
use types.Part.{agg}
use types.Run.{enter, of_opd, no_more, and_then, returns}
use types.ByLocal.{alloc_all, pass_all, free_all, look_at, get, sets, lands_as}
use denote.Exit.{no}
use denote.Param.{layout, arg, bounded, param}
use denote.Param.Laws.{Laws, arg_laws}
use denote.Param.NoDrop as nodrop
use denote.RattleType.{RattleType}
use denote.RawPtr.{Ptr, RawPtr, block_ptr, null_ptr, ptr_val, in_a_block}
use denote.Signature.{plain}
use denote.Steps.{nothing, heard, only}
use denote.Triple.Call.{calls_at}
use denote.Triple.Clauses.{Lasts, lasts}
use denote.Triple.Spec.{triple_of}
use denote.Triple.Walked.{says, Stays, walk_of, stay_dropped, ends_at}
use denote.Triple.Table.{framed}
use Rattle.std.proofs.alloc.Calls.{Goes-blank, token}
use Rattle.std.proofs.BoxSteps.Form as box
use Rattle.std.proofs.BoxSteps.Steps.{box_out, box_in}
use Rattle.std.specs.Box.Ownership.{box_owns}
use Rattle.std.specs.contracts.boxed.Box as boxed
use Rattle.std.specs.contracts.boxed.Box.into_raw as callee
use Rattle.std.proofs.boxed.Box.into_raw.Met as into_raw
use Rattle.std.specs.contracts.alloc.Global as heap
use Rattle.std.proofs.alloc.Global.TheLaws as heap_laws
use Rattle.std.specs.contracts.impls.GlobalAllocator.TheImpl.{ghosts, dict}
use Rattle.std.proofs.impls.GlobalAllocator.TheImpl.Met as allocator
use Rattle.ipcsh_c.proofs.LooseSteps.{Data, word, made}
use Rattle.ipcsh_c.specs.contracts.loose.Loose as loose
use Rattle.ipcsh_c.specs.contracts.loose.loosen as f
use Rattle.ipcsh_c.proofs.loose.loosen.Statement.{statement}
use Rattle.ipcsh_c.proofs.loose.loosen.Code as code

-- the heap as the call passes it
abbrev Z : RattleType
Z = arg (bare (layout heap.the_row)) no heap.the_row

abbrev LZ : Laws Z
LZ = arg_laws (bare (layout heap.the_row)) no heap.the_row heap_laws.the_row_laws refl

abbrev drops : Dict
drops = impl ("ipcsh_c::Destruct++none::drop" ∷ []) (tcons (layout Z) tnil) dnil

pub loosen_spec : {M : Type 1} → statement M
unfolding Rattle.ipcsh_c.proofs.Destruct++none.drop.Code.code
loosen_spec 𝓤 𝓛 𝓜 𝓡 wired X L dx glue =
    let H = 𝓛.H in let 𝓣 = tables 𝓤 H 𝓜 𝓡 𝓡.env in let E : box.Bx = record { row = X; laws = L; al = record { row = Z; laws = LZ; g = ghosts; d = dict; drops = drops } } in
    let R : RattleType = box.R E in let B : RattleType = box.B E in
    let En = f.ended X dx in let inst = bounded (a_type ∷ []) (X, tt) (dcons dx dnil) in let fn = inst_fn inst code.function in let c = f.clauses X dx 𝓛 𝓜.mem 𝓡.returns in
    let Parts = triple_of 𝓛 (callee.signature X Z ghosts dict drops dx) (callee.spec X Z ghosts dict drops dx 𝓛 𝓜.mem 𝓡.returns) in
    let known = into_raw.met 𝓤 𝓛 𝓜 𝓡 (code.calls-std_alloc::boxed::Box::into_raw 𝓡.env wired) X Z L LZ ghosts dict drops dx
    (allocator.passed 𝓡.env (code.calls-std_heap::GlobalAllocator::allocate 𝓡.env wired) (code.calls-std_heap::GlobalAllocator::deallocate 𝓡.env wired) (code.calls-std_heap::GlobalAllocator::grow 𝓡.env wired) (code.calls-std_heap::GlobalAllocator::shrink 𝓡.env wired) _ 𝓤 𝓛 𝓜 𝓡)
    (nodrop.glues "ipcsh_c::Destruct++none::drop" 𝓡.env (code.calls-ipcsh_c::Destruct++none::drop 𝓡.env wired) Z LZ _ 𝓤 𝓛 𝓜 𝓡) glue in
    let Bare : RattleType = boxed.the_row (param 0 X) heap.the_row ghosts in
    let hs : Stays En.signature.params En.kept = (stay_dropped (plain (λ _. Bare)) no, tt) in
    proved_at 𝓛 En hs c 𝓜 𝓡 (Goes-blank 𝓛 1 (plain (λ _. Bare)) no (λ κs x f. tt), tt) (f.Key.name inst) fn (code.unfolded 𝓤 H 𝓜 𝓡 wired (X, tt) dx) (λ z are.
    let κs = z.0.0 in let qs = z.0.1 in let t : Item 𝓤 = ‵ (flft κs.0 qs.0) in let inX = κs.0 ⊑ X.lives in let inZ = [] ⊑ Z.lives in
    let Post : Val → SProp 𝓤 = (walk_of 𝓛 En hs c).post z in let Run : List Val → SProp 𝓤 = λ ws. WpFn 𝓤 H 𝓣.C 𝓣.Λ fn ws Post in
    let v : B.Denot = z.0.3.0 in let a = v.alloc in let x : X.Denot = v.value in
    qed 𝓛 (((t ⊛ ‵ ftrue) ⊛ ‵ (fsep (B.own_val v z.0.4.0) ftrue)) ∷ raw (fact 𝓤 inX) ∷ ‵ ftrue ∷ []) ∵
    move ! (1 ∷ []) $ heard ! inX (λ leX. split ! $ move ! (1 ∷ []) $ fsplit ! $ box_out E ! v z.0.4.0 (λ b o hv e ws fa. box_in E ! v b o x e refl $ keep ! (2 ∷ 0 ∷ []) $
    let w : Val = box.word E hv b o in let typed = box.box_typed E hv b o fa in
    let y : Parts.Ghost = (((κs.0, ([], tt)), (qs.0, (full_share, tt)), tt, (v, tt), (w ∷ [], tt)), tt) in
    suffices ! (Run (w ∷ [])) (subst (λ (us : List Val). ent 𝓤 (Run (w ∷ [])) (Run us)) (sym (λ i. ws i ++ [])) (id⊢ 𝓤 (Run (w ∷ [])))) $
    enter ! 𝓣.C 𝓣.Λ fn (w ∷ []) Post $ alloc_all ! (λ l. pass_all ! refl (typed, tt) $ sets ! (of_opd ! (get ! refl)) refl typed $
    -- [the tokens; the box]
    split ! $ move ! (1 ∷ []) $ use0 𝓛 (‵ (flft [] full_share)) (𝓛.lfts.lft-nil full_share) $ join ! $ move ! (1 ∷ 0 ∷ []) $ join ! $
    nothing ! $ move ! (2 ∷ 0 ∷ []) $ fjoin ! $ move ! (1 ∷ 0 ∷ []) $ join ! $
    nothing ! $ use0 𝓛 (raw (fact 𝓤 inZ)) (fact_i 𝓤 inZ (emp 𝓤) (⊑_refl [])) $ join ! $ use0 𝓛 (raw (fact 𝓤 inX)) (fact_i 𝓤 inX (emp 𝓤) leX) $ join ! $
    move ! (1 ∷ 0 ∷ []) $ join ! $ use1 𝓛 (raw (Parts.pre y)) (id⊢ 𝓤 _) $
    calls_at ! (framed 𝓤 H 𝓜 (tables 𝓤 H 𝓜 𝓡 𝓡.env)) Parts known y (and_then ! (get ! refl) (no_more !)) (λ u.
    use1 𝓛 (later (some (λ (r : Ptr). ((t ⊛ ‵ (flft [] full_share) ⊛ ‵ ftrue) ⊛ ‵ (RawPtr.own_val r (u ∷ []))) ⊛
    some (λ (ls : Lasts (callee.ended X Z ghosts dict drops dx) y.0.0 y.0.3). ‵ (lasts (callee.ended X Z ghosts dict drops dx) y.0.0 y.0.3 ls) ⊛ ‵ (box_owns (token E.al a) R r x))))) (id⊢ 𝓤 (Parts.post y u)) $
    await ! tt $ pick ! (λ r. split ! $ move ! (1 ∷ []) $ pick ! (λ ls. split ! $ drop ! $
    in_a_block ! r (λ p. box_owns (token E.al a) R p x) (fst∗ 𝓤 (never 𝓤) (sem 𝓛 (token E.al a (bare (layout X)) null_ptr))) (λ b' o' e'.
    move ! (1 ∷ []) $ split ! $ move ! (1 ∷ []) $ feq_l ! (λ eu. split ! $ move ! (1 ∷ []) $ drop ! $
    -- [the token; what the box owned]
    let p : Ptr = block_ptr b' o' in let r' : (loose.the_row R).Denot = record { at = p; alloc = a; value = x } in
    lands_as ! (ap only (eu ∙ ap (λ (π : Ptr). ptr_val π ∷ []) e')) refl (tt, tt) $
    sets ! (agg ! (and_then ! (get ! refl) (no_more !))) refl (tt, (tt, tt)) $
    returns ! (look_at ! 0 refl) $ free_all ! refl $
    suffices ! _ (ends_at 𝓛 En hs c z (word p) r' (tt, tt) (tt, tt)) $ says ! refl $
    nothing ! $ move ! (1 ∷ 0 ∷ []) $ join ! $ move ! (1 ∷ []) $ use0 𝓛 (‵ ((Data R).own_val (p, tt) (word p ∷ []))) (made R 𝓛 p) $ fjoin ! $
    nothing ! $ nothing ! $ fjoin ! $ move ! (2 ∷ []) $ done !)))))))))
