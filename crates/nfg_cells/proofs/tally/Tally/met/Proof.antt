use Rattle.std.proofs.Common.{◌≡◌, [], ◌∷◌, ◌+◌, refl}
use mir.Val.{Val}
use base.Logic.{SProp, emp}
use types.Kit.{‵, raw, ◌⊛◌, ◌$◌, ◌∵◌, !, qed, by, keep, split, fjoin, use0}
use types.Run.{no_more, and_then, returns, enter}
use types.ByLocal.{alloc_all, pass_all, free_all, look_at, get, sets}
use types.Part.{agg}
use contract.Monad.{fact, fact_i}
use contract.Running.{tables}
use denote.RattleType.{owns}
use denote.Signature.{types_at, plain}
use denote.Exit.{yes}
use denote.Steps.{nothing}
use denote.Triple.Entry.{alive}
use denote.Triple.Walked.{Stays, walk_of, stay_dropped, Goes-dropped}
use Rattle.std.proofs.raw_atomic.Walks.{proved, leaves}
use Rattle.nfg_cells.proofs.TallyFields.{token, Data, made, told}
use Rattle.nfg_cells.specs.contracts.tally.Tally as tally
use Rattle.nfg_cells.specs.contracts.tally.Tally.met.{ended, clauses}
use Rattle.nfg_cells.specs.contracts.tally.Tally.met.Key.{name as #self}
use Rattle.nfg_cells.proofs.tally.Tally.met.Statement.{statement}
use Rattle.nfg_cells.proofs.tally.Tally.met.Code as code

pub met_spec : {M : Type 1} → statement M
met_spec 𝓤 𝓛 𝓜 𝓡 wired =
    let H = 𝓛.H in let 𝓣 = tables 𝓤 H 𝓜 𝓡 𝓡.env in let En = ended in let c = clauses 𝓛 𝓜.mem 𝓡.returns in
    let fn = code.function in let closed = code.unfolded 𝓤 H 𝓜 𝓡 wired in
    let hs : Stays En.signature.params En.kept = (stay_dropped (plain (λ _. tally.the_row)) yes, (stay_dropped (plain (λ _. tally.the_row)) yes, tt)) in
    proved 𝓛 En hs c 𝓜 𝓡 (Goes-dropped 𝓛 0 (plain (λ _. tally.the_row)) yes (λ κs x f. refl), (Goes-dropped 𝓛 0 (plain (λ _. tally.the_row)) yes (λ κs x f. refl), tt)) #self fn closed (λ κs. ((λ _. token ∷ []), ((λ _. token ∷ []), tt))) (λ κs. ((λ x vs so. told vs so.0), ((λ x vs so. told vs so.0), tt))) (λ κs qs bounds a gh are.
    let r : tally.the_row.Denot = record { marker = record {}; forks = a.0.forks; meets = a.0.meets + a.1.0.meets + 1 } in
    let Told : Type 0 = (r.forks ≡ a.0.forks) × (r.meets ≡ a.0.meets + a.1.0.meets + 1) in let y : (walk_of 𝓛 En hs c).Ghost = ((κs, qs, bounds, a, (token ∷ [], (token ∷ [], tt))), gh) in let Post : Val → SProp 𝓤 = (walk_of 𝓛 En hs c).post y in
    qed 𝓛 ((raw (alive 𝓛 En.signature κs qs) ⊛ ‵ (owns (types_at En.signature.params κs) a y.0.4)) ∷ raw ((c κs a).requires gh) ∷ []) ∵
    split ! $ keep ! (0 ∷ []) $ nothing ! $ use0 𝓛 (‵ (Data.own_val (tt, tt) (token ∷ []))) (made 𝓛) $ fjoin ! $
    enter ! 𝓣.C 𝓣.Λ fn (token ∷ token ∷ []) Post $ alloc_all ! (λ l. pass_all ! refl ((tt, (tt, tt)), ((tt, (tt, tt)), tt)) $
    sets ! (agg ! (no_more !)) refl (tt, tt) $ sets ! (agg ! (and_then ! (get ! refl) (no_more !))) refl (tt, (tt, tt)) $
    use0 𝓛 (raw (fact 𝓤 Told)) (fact_i 𝓤 Told (emp 𝓤) (refl, refl)) $ nothing ! $ nothing ! $ fjoin ! $ nothing ! $ fjoin ! $
    returns ! (look_at ! 0 refl) $ free_all ! refl $ keep ! (3 ∷ 0 ∷ 2 ∷ 1 ∷ []) $ by ! (leaves 𝓛 En hs c y token r (tt, (tt, tt)) (tt, (tt, tt)))))
