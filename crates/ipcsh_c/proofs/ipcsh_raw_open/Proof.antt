-- `ipcsh_raw_open` hands its arguments to `opened`, and gives up what the handles own.
use Rattle.std.proofs.Common.{◌≡◌, ◌≢◌, ◌<◌, ◌≤◌, ℤ, pos, false, List, [], ◌∷◌, ◌++◌, length, take, refl, sym, ap, subst, w32}
use Rattle.std.proofs.raw_atomic.Walks.{proved_at}
use Rattle.std.proofs.alloc.Calls.{handle_tells}
use base.Logic.{SProp, ent, emp, id⊢, sep, ex_i}
use base.Fml.{ftrue, flft}
use contract.Monad.{fact, fact_i}
use contract.Running.{tables}
use denote.Builtin.{i32, RefOf, SliceRefOf}
use denote.Exit.{yes, no}
use denote.Laws.{Is, shows}
use denote.Param.{layout, arg}
use denote.Param.Laws.{Laws, arg_laws}
use denote.RattleType.{RattleType, owns}
use denote.RawPtr.{Ptr, RawPtr}
use denote.Ref.{ShrRef, shr_vals, shr_Tells}
use denote.Signature.{types_at, plain}
use denote.Signed.{sint_Lawful}
use denote.Slice.{ShrSlice, MutSlice, shr_slice_vals, shr_slice_Tells, mut_slice_vals, mut_slice_Tells}
use denote.Steps.{nothing, heard, peeks, only}
use denote.Triple.Call.{calls_at}
use denote.Triple.Clauses.{Lasts, lasts}
use denote.Triple.Spec.{triple_of}
use denote.Triple.Table.{framed}
use denote.Triple.Walked.{Stays, walk_of, stay_dropped, Goes-dropped, gave_slice, Goes-gave_slice, ends_at}
use mir.Raw.{raw as bare}
use mir.Syntax.{Dict, impl, named, tcons, tnil, dnil}
use mir.Val.{Val}
use prog.Wp.{WpFn}
use types.Kit.{‵, raw, ◌⊛◌, some, later, ◌$◌, ◌∵◌, !, qed, done, move, drop, use0, use1, use2, split, join, frame, fsplit, fjoin, feq_l, pick, await, rewrite, suffices, group}
use types.Logic.{sem}
use types.Part.{whole, sub, agg}
use types.Run.{enter, addr, stop, fld, hop, from, no_more, and_then, returns}
use types.ByLocal.{alloc_all, pass_all, free_all, look_at, look_in_at, get, get_in, sets, lands_as}
use Rattle.std.specs.contracts.alloc.Global as heap
use Rattle.std.proofs.alloc.Global.TheLaws as heap_laws
use Rattle.std.specs.contracts.impls.GlobalAllocator.TheImpl.{ghosts, dict}
use Rattle.ipc_abi.specs.Openings.{limits_in}
use Rattle.ipc_abi.specs.contracts.opening.RawClient.{the_row as Client}
use Rattle.ipc_abi.specs.contracts.opening.RawLimits.{the_row as Limits}
use Rattle.ipc_call.specs.Limits.{are_in_range}
use Rattle.ipc_seat.specs.Codes.{code_of_opening}
use Rattle.ipc_seat.specs.Openings.{AreClients}
use Rattle.ipc_seat.specs.declared.opening.NotOpened.{NotOpened}
use Rattle.ipc_seat.specs.declared.opening.NotOpened.TheVariants.{BadLimits, BadClients, NoRoom}
use Rattle.ipc_seat.specs.declared.seat.Seat.{Seat}
use Rattle.ipcsh_c.specs.Owning.{GivesSeats, OwnSeats}
use Rattle.ipcsh_c.specs.declared.handed.Handed.{Handed}
use Rattle.ipcsh_c.specs.contracts.handed.Handed.{the_row as R}
use Rattle.ipcsh_c.proofs.handed.Handed.TheLaws.{lowers}
use Rattle.ipcsh_c.proofs.HandedSteps.{number, word, fits_in}
use Rattle.ipcsh_c.specs.contracts.opened as g
use Rattle.ipcsh_c.proofs.opened.Met as opened
use Rattle.ipcsh_c.specs.contracts.handed.Handed.end as e
use Rattle.ipcsh_c.proofs.handed.Handed.end.Met as ended
use Rattle.ipcsh_c.specs.contracts.ipcsh_raw_open as f
use Rattle.ipcsh_c.proofs.ipcsh_raw_open.Statement.{statement}
use Rattle.ipcsh_c.proofs.ipcsh_raw_open.Code as code

-- the heap as a call passes it
abbrev Z : RattleType
Z = arg (bare (layout heap.the_row)) no heap.the_row

abbrev LZ : Laws Z
LZ = arg_laws (bare (layout heap.the_row)) no heap.the_row heap_laws.the_row_laws refl

abbrev drops : Dict
drops = impl ("ipcsh_c::Destruct++none::drop" ∷ []) (tcons (layout Z) tnil) dnil

abbrev stayed : Stays f.ended.signature.params f.ended.kept
stayed = (stay_dropped _ yes, (stay_dropped _ yes, (stay_dropped _ yes, (gave_slice (2 ∷ []) tt (plain (λ _. RawPtr)), tt))))

pub ipcsh_raw_open_spec : {M : Type 1} → statement M
ipcsh_raw_open_spec 𝓤 𝓛 𝓜 𝓡 wired =
    let c = f.clauses 𝓛 𝓜.mem 𝓡.returns in let W = walk_of 𝓛 f.ended stayed c in let 𝓣 = tables 𝓤 𝓛.H 𝓜 𝓡 𝓡.env in let fn = code.function in
    proved_at 𝓛 f.ended stayed c 𝓜 𝓡 (
      Goes-dropped 𝓛 3 (plain (λ _. heap.the_row)) yes (λ κs x w. refl),
      (
        Goes-dropped 𝓛 3 (RefOf (0 ∷ []) tt (plain (λ _. Limits)) (λ _. tt)) yes (λ κs x w. refl),
        (Goes-dropped 𝓛 3 (SliceRefOf (1 ∷ []) tt (plain (λ _. Client)) (λ _. tt)) yes (λ κs x w. refl), (Goes-gave_slice 𝓛 3 2 tt (plain (λ _. RawPtr)), tt)),
      ),
    )
    f.Key.name fn (code.unfolded 𝓤 𝓛.H 𝓜 𝓡 wired) (λ z are.
    let κs = z.0.0 in let qs = z.0.1 in let alloc = z.0.3.0 in let limits = z.0.3.1.0 in let clients = z.0.3.1.1.0 in let handles = z.0.3.1.1.1.0 in let vss = z.0.4 in
    let is_limits : vss.1.0 ≡ shr_vals limits = shr_Tells (named 0) κs.0 Limits limits vss.1.0 are.1.0 in
    let is_clients : vss.1.1.0 ≡ shr_slice_vals clients = shr_slice_Tells (named 1) κs.1.0 Client clients vss.1.1.0 are.1.1.0 in
    let is_handles : vss.1.1.1.0 ≡ mut_slice_vals handles = mut_slice_Tells (named 2) κs.1.1.0 RawPtr handles vss.1.1.1.0 are.1.1.1.0 in
    let Run : List Val → SProp 𝓤 = λ ws. WpFn 𝓤 𝓛.H 𝓣.C 𝓣.Λ fn ws (W.post z) in
    let tokens = ‵ (flft κs.0 qs.0) ⊛ ‵ (flft κs.1.0 qs.1.0) ⊛ ‵ (flft κs.1.1.0 qs.1.1.0) ⊛ ‵ ftrue in
    qed 𝓛 ((tokens ⊛ ‵ (owns (types_at f.ended.signature.params κs) z.0.3 vss)) ∷ ‵ ftrue ∷ []) ∵ split ! $ move ! (1 ∷ []) $ fsplit ! $
    handle_tells (record { row = Z; laws = LZ; g = ghosts; d = dict; drops = drops }) ! alloc vss.0 (λ h is_alloc fits. move ! (1 ∷ []) $ fsplit ! $
    rewrite ! 0 (λ (us : List Val). ‵ ((ShrRef (named 0) κs.0 Limits).own_val limits us)) is_limits refl $ move ! (1 ∷ []) $ fsplit ! $
    rewrite ! 0 (λ (us : List Val). ‵ ((ShrSlice (named 1) κs.1.0 Client).own_val clients us)) is_clients refl $ move ! (1 ∷ []) $ fsplit ! $
    rewrite ! 0 (λ (us : List Val). ‵ ((MutSlice (named 2) κs.1.1.0 RawPtr).own_val handles us)) is_handles refl $
    -- [the handles; nothing; the clients; the limits; the heap; the tokens; nothing]
    fjoin ! $ move ! (1 ∷ []) $ fjoin ! $ move ! (1 ∷ []) $ fjoin ! $ move ! (1 ∷ []) $ fjoin ! $ move ! (1 ∷ 0 ∷ []) $ join ! $
    let passed : List Val = h ∷ (shr_vals limits ++ (shr_slice_vals clients ++ (mut_slice_vals handles ++ []))) in
    suffices ! (Run passed) (subst (λ (ws : List Val). ent 𝓤 (Run passed) (Run ws)) (sym (λ i. is_alloc i ++ (is_limits i ++ (is_clients i ++ (is_handles i ++ []))))) (id⊢ 𝓤 (Run passed))) $
    enter ! 𝓣.C 𝓣.Λ fn passed (W.post z) $
    alloc_all ! (λ l. pass_all ! refl (fits, ((tt, tt), ((tt, (tt, (record { fits = are.1.1.0.0.1.0 }, tt))), ((tt, (tt, (record { fits = are.1.1.1.0.0.1.0 }, tt))), tt)))) $
    sets ! (addr ! (from ! (fld ! refl (hop ! (look_in_at ! 4 (sub ! 0 refl (whole !))) (stop !))))) refl (tt, tt) $
    sets ! (agg ! (and_then ! (get ! refl) (and_then ! (get_in ! (fld ! refl (stop !)) (sub ! 1 refl (whole !))) (no_more !)))) refl (tt, (tt, (record { fits = are.1.1.1.0.0.1.0 }, tt))) $
    -- [the tokens and the arguments; nothing]
    let G = triple_of 𝓛 g.signature (g.spec 𝓛 𝓜.mem 𝓡.returns) in
    let y : G.Ghost = ((κs, qs, tt, z.0.3, (h ∷ [], (shr_vals limits, (shr_slice_vals clients, (mut_slice_vals handles, tt))))), tt) in
    use2 𝓛 (raw (G.pre y)) (id⊢ 𝓤 _) $
    calls_at ! (framed 𝓤 𝓛.H 𝓜 (tables 𝓤 𝓛.H 𝓜 𝓡 𝓡.env)) G (opened.met 𝓤 𝓛 𝓜 𝓡 (code.calls-ipcsh_c::opened 𝓡.env wired)) y
    (and_then ! (get ! refl) (and_then ! (get ! refl) (and_then ! (get ! refl) (and_then ! (get ! refl) (no_more !))))) (λ u.
    let Gives : Handed → List Ptr → List Seat → Type 0 = λ x new ss. GivesSeats x.code limits.now clients.now handles.now new ss in
    let Rest : Handed → List Ptr → SProp 𝓤 = λ x new. sep 𝓤 (fact 𝓤 (x.code ≡ code_of_opening BadLimits → are_in_range (limits_in limits.now) ≡ false))
    (sep 𝓤 (fact 𝓤 (x.code ≡ code_of_opening BadClients → ¬ AreClients clients.now)) (sep 𝓤 (fact 𝓤 (x.code ≡ code_of_opening NoRoom → length handles.now < length clients.now))
    (sep 𝓤 (fact 𝓤 (x.code ≡ pos 0 → length clients.now ≤ length handles.now)) (sep 𝓤 (fact 𝓤 (x.code ≢ pos 0 → new ≡ handles.now))
    (fact 𝓤 (x.code ≢ pos 0 → ((error : NotOpened) × (x.code ≡ code_of_opening error)))))))) in
    use1 𝓛 (later (some (λ (x : Handed). (tokens ⊛ ‵ (R.own_val x (u ∷ []))) ⊛
    some (λ (ws : Lasts g.ended y.0.0 y.0.3). let new = ws.1.1.1.0 in ‵ (lasts g.ended y.0.0 y.0.3 ws) ⊛ raw (fact 𝓤 (Gives x new x.seats)) ⊛ raw (fact 𝓤 (x.handles ≡ take (length x.seats) new)) ⊛ raw (Rest x new))))) (id⊢ 𝓤 (G.post y u)) $
    await ! tt $ pick ! (λ x. split ! $ move ! (1 ∷ []) $ pick ! (λ ws. let new = ws.1.1.1.0 in split ! $ move ! (1 ∷ []) $ split ! $ heard ! (Gives x new x.seats) (λ gives.
    split ! $ heard ! (x.handles ≡ take (length x.seats) new) (λ are_given. move ! (1 ∷ []) $
    -- [the last values; what else is ensured; the tokens and the answer]
    fsplit ! $ drop ! $ fsplit ! $ drop ! $ fsplit ! $ drop ! $ fsplit ! $ move ! (1 ∷ []) $ drop ! $
    fsplit ! $ fsplit ! $ move ! (1 ∷ []) $ feq_l ! (λ handles_same. fjoin ! $ move ! (2 ∷ []) $ split ! $ move ! (1 ∷ []) $
    -- [the answer; the tokens; the last handles; what else is ensured]
    peeks ! R (Is R) (shows 𝓛 R) x (u ∷ []) (λ is. let is_word = lowers.val_is x (u ∷ []) is in let fits_code = fits_in x (u ∷ []) is in
    let typed = ((sint_Lawful 𝓛 w32).typed x.code (number x.code ∷ []) (refl, fits_code)).0 in
    rewrite ! 0 (λ (us : List Val). ‵ (R.own_val x us)) is_word refl $ lands_as ! (ap only is_word) refl (tt, (typed.1, tt)) $
    let E = triple_of 𝓛 e.signature (e.spec 𝓛 𝓜.mem 𝓡.returns) in let k : E.Ghost = ((tt, tt, tt, (x, tt), (word x.code ∷ [], tt)), tt) in
    nothing ! $ move ! (1 ∷ 0 ∷ []) $ join ! $ nothing ! $ join ! $ nothing ! $ move ! (1 ∷ 0 ∷ []) $ use2 𝓛 (raw (E.pre k)) (id⊢ 𝓤 _) $
    calls_at ! (framed 𝓤 𝓛.H 𝓜 (tables 𝓤 𝓛.H 𝓜 𝓡 𝓡.env)) E (ended.met 𝓤 𝓛 𝓜 𝓡 (code.calls-ipcsh_c::handed::Handed::end 𝓡.env wired)) k (and_then ! (get ! refl) (no_more !)) (λ v.
    use1 𝓛 (later (some (λ (n : ℤ). (‵ ftrue ⊛ ‵ (i32.own_val n (v ∷ []))) ⊛
    some (λ (ls : Lasts e.ended tt k.0.3). ‵ (lasts e.ended tt k.0.3 ls) ⊛ (‵ (OwnSeats x.handles x.seats) ⊛ raw (fact 𝓤 (n ≡ x.code))))))) (id⊢ 𝓤 (E.post k v)) $
    await ! tt $ pick ! (λ n. split ! $ split ! $ drop ! $ move ! (1 ∷ []) $ pick ! (λ ls. split ! $ drop ! $ split ! $ move ! (1 ∷ []) $ heard ! (n ≡ x.code) (λ is_code.
    move ! (1 ∷ []) $ rewrite ! 0 (λ (m : ℤ). ‵ (i32.own_val m (v ∷ []))) is_code refl $
    peeks ! i32 (Is i32) (shows 𝓛 i32) x.code (v ∷ []) (λ is_v. lands_as ! refl refl ((sint_Lawful 𝓛 w32).typed x.code (v ∷ []) is_v).0 $
    returns ! (look_at ! 0 refl) $ free_all ! refl $
    -- [the answer; what the handles own; the tokens; the last handles]
    move ! (1 ∷ []) $ rewrite ! 0 (λ (ps : List Ptr). ‵ (OwnSeats ps x.seats)) are_given refl $
    suffices ! _ (ends_at 𝓛 f.ended stayed c z v x.code (tt, (tt, (tt, (new, tt)))) (tt, (tt, (tt, (handles_same, tt))))) $
    nothing ! $ move ! (4 ∷ 0 ∷ []) $ join ! $ nothing ! $ join ! $ nothing ! $ join ! $ nothing ! $ join ! $
    move ! (3 ∷ 0 ∷ 2 ∷ []) $ group ! 3 $ frame ! $
    let Seats : List Seat → SProp 𝓤 = λ ss. sep 𝓤 (sem 𝓛 (OwnSeats (take (length ss) new) ss)) (fact 𝓤 (Gives x new ss)) in
    use0 𝓛 (raw (fact 𝓤 (Gives x new x.seats))) (fact_i 𝓤 (Gives x new x.seats) (emp 𝓤) gives) $ move ! (1 ∷ 0 ∷ []) $ join ! $
    use1 𝓛 (some (λ (ss : List Seat). raw (Seats ss))) (ex_i 𝓤 Seats x.seats) $ done !)))))))))))))))
