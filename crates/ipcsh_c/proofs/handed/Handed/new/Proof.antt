-- `new` owns nothing yet.
use Rattle.std.proofs.Common.{[], ◌∷◌, refl, w32}
use Rattle.std.proofs.raw_atomic.Walks.{proved}
use base.Fml.{ftrue}
use types.Kit.{‵, raw, ◌$◌, ◌∵◌, !, qed, done, drop, use0, join, fjoin, suffices}
use types.Part.{agg}
use types.Run.{enter, and_then, no_more, returns}
use types.ByLocal.{alloc_all, pass_all, free_all, look_at, get, sets}
use denote.Builtin.{i32}
use denote.Signed.{sint_Lawful, sint_vals, sint_Tells}
use denote.Exit.{yes}
use denote.Signature.{plain}
use denote.Steps.{nothing}
use denote.Triple.Entry.{on_entry}
use denote.Triple.Walked.{says, Stays, walk_of, stay_dropped, Goes-dropped, ends_at}
use Rattle.ipcsh_c.specs.declared.handed.Handed.{Handed}
use Rattle.ipcsh_c.proofs.HandedSteps.{Data, number, word, made}
use Rattle.ipcsh_c.specs.contracts.handed.Handed.new as f
use Rattle.ipcsh_c.proofs.handed.Handed.new.Statement.{statement}
use Rattle.ipcsh_c.proofs.handed.Handed.new.Code as code

abbrev stayed : Stays f.ended.signature.params f.ended.kept
stayed = (stay_dropped _ yes, tt)

pub new_spec : {M : Type 1} → statement M
new_spec 𝓤 𝓛 𝓜 𝓡 wired =
    let c = f.clauses 𝓛 𝓜.mem 𝓡.returns in let W = walk_of 𝓛 f.ended stayed c in
    proved 𝓛 f.ended stayed c 𝓜 𝓡 (Goes-dropped 𝓛 0 (plain (λ _. i32)) yes (λ κs x w. refl), tt)
    f.Key.name code.function (code.unfolded 𝓤 𝓛.H 𝓜 𝓡 wired)
    (λ κs. (sint_vals w32, tt)) (λ κs. (sint_Tells w32, tt)) (λ κs qs bounds a _ are.
    let n = a.0 in let y : W.Ghost = ((κs, qs, bounds, a, (sint_vals w32 n, tt)), tt) in let h : Handed = record { code = n; handles = []; seats = [] } in
    let typed = ((sint_Lawful 𝓛 w32).typed n (number n ∷ []) are.0).0 in
    qed 𝓛 (raw (on_entry 𝓛 f.signature κs qs a y.0.4) ∷ ‵ ftrue ∷ []) ∵ drop ! $ drop ! $
    enter ! _ _ _ _ _ $ alloc_all ! (λ l. pass_all ! refl (typed, tt) $
    sets ! (agg ! (and_then ! (get ! refl) (no_more !))) refl (tt, (typed.1, tt)) $
    returns ! (look_at ! 0 refl) $ free_all ! refl $
    suffices ! _ (ends_at 𝓛 f.ended stayed c y (word n) h (tt, tt) (tt, tt)) $ says ! refl $
    nothing ! $ use0 𝓛 (‵ (Data.own_val (n, tt) (word n ∷ []))) (made 𝓛 n are.0.1) $ fjoin ! $ nothing ! $ nothing ! $ join ! $ nothing ! $ done !))
