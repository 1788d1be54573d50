-- The walk of `of`: it makes a value of no bytes, whose path is what the reference shows.
use Rattle.std.proofs.Common.{◌≡◌, [], ◌∷◌, Some, length, refl}
use mir.Syntax.{named}
use mir.Val.{Val}
use base.Logic.{SProp, emp}
use types.Kit.{‵, raw, ◌⊛◌, ◌$◌, ◌∵◌, !, qed, by, keep, split, fjoin, use0}
use types.Run.{no_more, and_then, returns, enter}
use types.ByLocal.{alloc_all, pass_all, free_all, look_at, get, sets}
use types.Part.{agg}
use contract.Monad.{fact, fact_i}
use contract.Running.{tables}
use denote.RattleType.{owns}
use denote.Signature.{Slot, types_at}
use denote.Slice.{slice_val, shr_slice_vals}
use denote.Text.{StrRefOf, str-laws}
use denote.Exit.{yes}
use denote.Steps.{nothing}
use denote.Triple.Entry.{alive}
use denote.Triple.Walked.{Stays, walk_of, stay_dropped, Goes-dropped}
use Rattle.std.proofs.raw_atomic.Walks.{proved, leaves}
use Rattle.nfg_io.proofs.OpenPathMade.{empty, Fields, fields_made}
use Rattle.nfg_io.specs.contracts.open_path.OpenPath as open_path
use Rattle.nfg_io.specs.contracts.open_path.OpenPath.of as of
use Rattle.nfg_io.specs.contracts.open_path.OpenPath.of.Key.{name as #of}
use Rattle.nfg_io.proofs.open_path.OpenPath.of.Statement.{statement}
use Rattle.nfg_io.proofs.open_path.OpenPath.of.Code as code

abbrev text : Slot 1
text = StrRefOf (0 ∷ []) tt

-- the borrow of the text goes when the call ends
abbrev stays : Stays of.ended.signature.params of.ended.kept
stays = (stay_dropped text yes, tt)

pub of_spec : {M : Type 1} → statement M
of_spec 𝓤 𝓛 𝓜 𝓡 wired =
    let 𝓣 = tables 𝓤 𝓛.H 𝓜 𝓡 𝓡.env in
    let clauses = of.clauses 𝓛 𝓜.mem 𝓡.returns in
    proved 𝓛 of.ended stays clauses 𝓜 𝓡 (Goes-dropped 𝓛 1 text yes (λ κs x f. refl), tt) #of code.function (code.unfolded 𝓤 𝓛.H 𝓜 𝓡 wired)
    (λ κs. (shr_slice_vals, tt))
    (λ κs. ((str-laws (record { mir = named 0; lft = κs.0 })).tells, tt))
    (λ κs qs bounds args ghosts are.
    let borrow = args.0 in
    let words : Val = slice_val borrow.ref_ptr (length borrow.now) in
    let made : open_path.the_row.Denot = record { marker = record {}; path = Some borrow.now } in
    let state : (walk_of 𝓛 of.ended stays clauses).Ghost = ((κs, qs, bounds, args, (words ∷ [], tt)), ghosts) in
    let After : Val → SProp 𝓤 = (walk_of 𝓛 of.ended stays clauses).post state in
    qed 𝓛 ((raw (alive 𝓛 of.ended.signature κs qs) ⊛ ‵ (owns (types_at of.ended.signature.params κs) args state.0.4)) ∷ raw ((clauses κs args).requires ghosts) ∷ []) ∵
    split ! $ keep ! (0 ∷ []) $ nothing ! $
    use0 𝓛 (‵ (Fields.own_val (tt, tt) (empty ∷ []))) (fields_made 𝓛) $ fjoin ! $
    enter ! 𝓣.C 𝓣.Λ code.function (words ∷ []) After $
    alloc_all ! (λ l. pass_all ! refl ((tt, (tt, (record { fits = are.0.0.0.1.0 }, tt))), tt) $
    sets ! (agg ! (no_more !)) refl (tt, tt) $
    sets ! (agg ! (and_then ! (get ! refl) (no_more !))) refl (tt, (tt, tt)) $
    use0 𝓛 (raw (fact 𝓤 (made.path ≡ Some borrow.now))) (fact_i 𝓤 (made.path ≡ Some borrow.now) (emp 𝓤) refl) $
    nothing ! $ nothing ! $ fjoin ! $
    returns ! (look_at ! 0 refl) $ free_all ! refl $
    keep ! (3 ∷ 0 ∷ 2 ∷ 1 ∷ []) $ by ! (leaves 𝓛 of.ended stays clauses state empty made (tt, tt) (tt, tt))))
