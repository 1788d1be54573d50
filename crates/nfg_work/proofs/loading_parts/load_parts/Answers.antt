use Rattle.std.proofs.Common.{◌≡◌, ◌+◌, length, sym, ap, ◌∙◌, subst}
use Rattle.std.proofs.lemmas.Result.{err_from_is_err_and}
use Rattle.std.specs.List.{slice_range}
use Rattle.std.specs.Prelude.{Err}
use Rattle.nfg_syn.specs.SeenLaws.{Keeps-trans}
use Rattle.nfg_work.specs.Parts.{HasLoadedParts, IsStringOrNone}
use Rattle.nfg_work.proofs.WholeFile.{body_grows, counts_alike, counts_same, joined_loaded, loaded_again}
use Rattle.nfg_work.proofs.loading_parts.load_parts.Goals as goal

pub returns-in_err-flatten-in-Ok-Some-clause-loaded : goal.returns-in_err-flatten-in-Ok-Some-clause-loaded
returns-in_err-flatten-in-Ok-Some-clause-loaded g c =
    let old = g.T.Synthetics.seen c.args.pass.now in
    let new = g.T.Synthetics.seen c.load_joined.new.pass in
    let body = c.body_of-body.result in
    let left = err_from_is_err_and c.from_residual-in_err-flatten-in-Ok-Some.result c.from_residual-in_err-flatten-in-Ok-Some.ensures.1 in
    let short = left.1 ∙ ap (λ error. Err error) left.2 in
    subst (HasLoadedParts c.args.e c.args.bytes.now old new) (sym short)
    (body_grows c.args.e body.encoding c.args.bytes.now body.start old.known new.known c.body_of-body.ensures c.in-Ok-Some.ensures.grown)

pub returns-in-Ok-Some-clause-loaded : goal.returns-in-Ok-Some-clause-loaded
returns-in-Ok-Some-clause-loaded g c =
    let old = g.T.Synthetics.seen c.args.pass.now in
    let new = g.T.Synthetics.seen c.load_joined.new.pass in
    let body = c.body_of-body.result in
    let string = subst (IsStringOrNone new.known body.encoding (slice_range c.args.bytes.now body.start (length c.args.bytes.now))) c.in-Ok-Some.field-0-is
    c.in-Ok-Some.ensures.string in
    joined_loaded c.args.e body.encoding c.args.bytes.now body.start old new c.in-Ok-Some.string c.in_ok-flatten-in-Ok-Some.field-0
    c.body_of-body.ensures c.in-Ok-Some.ensures.grown string
    c.in_ok-flatten-in-Ok-Some.ensures.graphemes c.in_ok-flatten-in-Ok-Some.ensures.pieces

pub returns-in-Ok-None-clause-keeps : goal.returns-in-Ok-None-clause-keeps
returns-in-Ok-None-clause-keeps g c = Keeps-trans _ _ _ c.in-Ok-None.ensures.keeps c.load_bytes.ensures.keeps

pub returns-in-Ok-None-clause-counted : goal.returns-in-Ok-None-clause-counted
returns-in-Ok-None-clause-counted g c =
    let old = g.T.Synthetics.seen c.args.pass.now in
    let mid = g.T.Synthetics.seen c.load_joined.new.pass in
    let new = g.T.Synthetics.seen c.load_bytes.new.pass in
    let most = length c.args.cuts.now in
    let many : length c.as_slice.result.now ≡ most + 2 = ap length c.as_slice.ensures.value ∙ c.in_ok-bounds.ensures.many in
    counts_alike most old new c.load_bytes.result (counts_same most old mid new (c.in-Ok-None.ensures.counted most many) c.load_bytes.ensures.counts)

pub returns-in-Ok-None-clause-loaded : goal.returns-in-Ok-None-clause-loaded
returns-in-Ok-None-clause-loaded g c =
    let old = g.T.Synthetics.seen c.args.pass.now in
    let mid = g.T.Synthetics.seen c.load_joined.new.pass in
    let new = g.T.Synthetics.seen c.load_bytes.new.pass in
    let body = c.body_of-body.result in
    loaded_again c.args.e c.args.bytes.now old mid new c.load_bytes.result
    (body_grows c.args.e body.encoding c.args.bytes.now body.start old.known mid.known c.body_of-body.ensures c.in-Ok-None.ensures.grown)
    c.load_bytes.ensures.loaded

pub returns-clause-loaded : goal.returns-clause-loaded
returns-clause-loaded g c =
    let old = g.T.Synthetics.seen c.args.pass.now in
    let new = g.T.Synthetics.seen c.load_joined.new.pass in
    let body = c.body_of-body.result in
    body_grows c.args.e body.encoding c.args.bytes.now body.start old.known new.known c.body_of-body.ensures c.in-Err.ensures.grown
