-- `end` gives up what the handles own.
use Rattle.std.proofs.Common.{List, [], ◌∷◌, ◌++◌, refl, sym, subst, w32}
use Rattle.std.proofs.raw_atomic.Walks.{proved_at}
use Rattle.std.proofs.alloc.Calls.{Goes-blank}
use base.Logic.{SProp, ent, id⊢}
use base.Fml.{ftrue}
use mir.Val.{Val}
use prog.Wp.{WpFn}
use contract.Running.{tables}
use types.Kit.{‵, ◌⊛◌, ◌$◌, ◌∵◌, !, qed, done, move, drop, split, join, fsplit, suffices, frame, group}
use types.Part.{whole, sub}
use types.Run.{enter, of_opd, fld, stop, returns}
use types.ByLocal.{alloc_all, pass_all, free_all, look_at, get, get_in, sets}
use denote.Builtin.{i32}
use denote.Signed.{sint_Lawful, sint_Makes}
use denote.Exit.{yes}
use denote.RattleType.{owns}
use denote.Signature.{types_at, plain}
use denote.Steps.{nothing, owned}
use denote.Triple.Walked.{says, Stays, walk_of, stay_dropped, ends_at}
use Rattle.ipcsh_c.specs.contracts.handed.Handed.{the_row as R}
use Rattle.ipcsh_c.proofs.handed.Handed.TheLaws.{lowers}
use Rattle.ipcsh_c.proofs.HandedSteps.{number, word, fits_in}
use Rattle.ipcsh_c.specs.contracts.handed.Handed.end as f
use Rattle.ipcsh_c.proofs.handed.Handed.end.Statement.{statement}
use Rattle.ipcsh_c.proofs.handed.Handed.end.Code as code

abbrev stayed : Stays f.ended.signature.params f.ended.kept
stayed = (stay_dropped (plain (λ _. R)) yes, tt)

pub end_spec : {M : Type 1} → statement M
end_spec 𝓤 𝓛 𝓜 𝓡 wired =
    let c = f.clauses 𝓛 𝓜.mem 𝓡.returns in let W = walk_of 𝓛 f.ended stayed c in let 𝓣 = tables 𝓤 𝓛.H 𝓜 𝓡 𝓡.env in
    proved_at 𝓛 f.ended stayed c 𝓜 𝓡 (Goes-blank 𝓛 0 (plain (λ _. R)) yes (λ κs x f. tt), tt)
    f.Key.name code.function (code.unfolded 𝓤 𝓛.H 𝓜 𝓡 wired) (λ z are.
    let h = z.0.3.0 in let vs = z.0.4.0 in let fits = fits_in h vs are.0 in
    let typed = ((sint_Lawful 𝓛 w32).typed h.code (number h.code ∷ []) (refl, fits)).0 in
    let Run : List Val → SProp 𝓤 = λ ws. WpFn 𝓤 𝓛.H 𝓣.C 𝓣.Λ code.function ws (W.post z) in
    qed 𝓛 ((‵ ftrue ⊛ ‵ (owns (types_at f.ended.signature.params z.0.0) z.0.3 z.0.4)) ∷ ‵ ftrue ∷ []) ∵
    split ! $ drop ! $ fsplit ! $ fsplit ! $ drop ! $ move ! (1 ∷ 2 ∷ []) $ drop ! $ drop ! $
    -- [what the handles own]
    suffices ! (Run (word h.code ∷ [])) (subst (λ (ws : List Val). ent 𝓤 (Run (word h.code ∷ [])) (Run (ws ++ []))) (sym (lowers.val_is h vs are.0)) (id⊢ 𝓤 _)) $
    enter ! _ _ _ _ _ $ alloc_all ! (λ l. pass_all ! refl ((tt, (typed.1, tt)), tt) $
    sets ! (of_opd ! (get_in ! (fld ! refl (stop !)) (sub ! 0 refl (whole !)))) refl typed $ sets ! (of_opd ! (get ! refl)) refl typed $
    returns ! (look_at ! 0 refl) $ free_all ! refl $
    suffices ! _ (ends_at 𝓛 f.ended stayed c z (number h.code) h.code (tt, tt) (tt, tt)) $
    owned ! i32 _ (sint_Makes 𝓛 w32) h.code _ (refl, fits) $ nothing ! $ nothing ! $ join ! $ nothing ! $ group ! 3 $ frame ! $ says ! refl $ done !))
