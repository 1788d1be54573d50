-- The walk of `none`: it makes a value of no bytes, with no path.
use Rattle.std.proofs.Common.{◌≡◌, [], ◌∷◌, None, refl}
use mir.Val.{Val}
use base.Logic.{SProp, emp}
use types.Kit.{‵, raw, ◌⊛◌, ◌$◌, ◌∵◌, !, qed, by, keep, split, fjoin, use0}
use types.Run.{no_more, and_then, returns, enter}
use types.ByLocal.{alloc_all, pass_all, free_all, look_at, get, sets}
use types.Part.{agg}
use contract.Monad.{fact, fact_i}
use contract.Running.{tables}
use denote.RattleType.{owns}
use denote.Signature.{types_at}
use denote.Steps.{nothing}
use denote.Triple.Entry.{alive}
use denote.Triple.Walked.{walk_of}
use Rattle.std.proofs.raw_atomic.Walks.{proved, leaves}
use Rattle.nfg_io.proofs.OpenPathMade.{empty, Fields, fields_made}
use Rattle.nfg_io.specs.contracts.open_path.OpenPath as open_path
use Rattle.nfg_io.specs.contracts.open_path.OpenPath.none as none
use Rattle.nfg_io.specs.contracts.open_path.OpenPath.none.Key.{name as #none}
use Rattle.nfg_io.proofs.open_path.OpenPath.none.Statement.{statement}
use Rattle.nfg_io.proofs.open_path.OpenPath.none.Code as code

-- what a caller sees of the result
abbrev made : open_path.the_row.Denot
made = record { marker = record {}; path = None }

pub none_spec : {M : Type 1} → statement M
none_spec 𝓤 𝓛 𝓜 𝓡 wired =
    let 𝓣 = tables 𝓤 𝓛.H 𝓜 𝓡 𝓡.env in
    let clauses = none.clauses 𝓛 𝓜.mem 𝓡.returns in
    proved 𝓛 none.ended tt clauses 𝓜 𝓡 tt #none code.function (code.unfolded 𝓤 𝓛.H 𝓜 𝓡 wired) (λ κs. tt) (λ κs. tt) (λ κs qs bounds args ghosts are.
    let state : (walk_of 𝓛 none.ended tt clauses).Ghost = ((κs, qs, bounds, args, tt), ghosts) in
    let After : Val → SProp 𝓤 = (walk_of 𝓛 none.ended tt clauses).post state in
    qed 𝓛 ((raw (alive 𝓛 none.ended.signature κs qs) ⊛ ‵ (owns (types_at none.ended.signature.params κs) args tt)) ∷ raw ((clauses κs args).requires ghosts) ∷ []) ∵
    split ! $ keep ! (0 ∷ []) $ nothing ! $
    use0 𝓛 (‵ (Fields.own_val (tt, tt) (empty ∷ []))) (fields_made 𝓛) $ fjoin ! $
    enter ! 𝓣.C 𝓣.Λ code.function [] After $
    alloc_all ! (λ l. pass_all ! refl tt $
    sets ! (agg ! (no_more !)) refl (tt, tt) $
    sets ! (agg ! (and_then ! (get ! refl) (no_more !))) refl (tt, (tt, tt)) $
    use0 𝓛 (raw (fact 𝓤 (made.path ≡ None))) (fact_i 𝓤 (made.path ≡ None) (emp 𝓤) refl) $
    nothing ! $
    returns ! (look_at ! 0 refl) $ free_all ! refl $
    keep ! (3 ∷ 0 ∷ 2 ∷ 1 ∷ []) $ by ! (leaves 𝓛 none.ended tt clauses state empty made tt tt)))
