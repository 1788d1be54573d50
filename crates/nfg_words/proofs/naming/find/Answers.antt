use Rattle.std.proofs.Common.{sym, ◌∙◌}
use Rattle.nfg_words.proofs.KnownLemmas.{full_passed, kept, known_besides, known_found, known_grown, known_same, spent_of}
use Rattle.nfg_words.proofs.Looking.{Grows-refl}
use Rattle.nfg_words.specs.Passes.{view_of}
use Rattle.nfg_words.proofs.naming.find.Goals as goal

pub returns-in-Ok-clause-keeps : goal.returns-in-Ok-clause-keeps
returns-in-Ok-clause-keeps g c =
    let finds = c.in-Ok.ensures.finds in
    let old = c.args.pass.now in
    let new = c.walk.new.pass in
    kept _ c.args.n old new c.requires.pass c.walk.ensures.pass finds.grows
    (known_grown c.args.n (view_of old) (view_of new) c.requires.pass.held.seat.sound finds.grows c.in-Ok.k c.args.codes.now finds.numbered finds.here) finds.origin.root

pub returns-in-Ok-clause-interned : goal.returns-in-Ok-clause-interned
returns-in-Ok-clause-interned g c =
    let finds = c.in-Ok.ensures.finds in
    known_besides c.args.n (view_of c.args.pass.now) (view_of c.walk.new.pass) c.requires.pass.held.seat.sound finds.grows c.in-Ok.k c.args.codes.now finds.numbered finds.here

pub returns-in-Ok-clause-already_known : goal.returns-in-Ok-clause-already_known
returns-in-Ok-clause-already_known g c = λ k e.
    let old = view_of c.args.pass.now in
    sym c.in-Ok.is ∙ c.walk.ensures.already_found k (known_found c.args.n old old c.requires.pass.held.seat.sound (Grows-refl old) k c.args.codes.now e)

pub returns-in-Err-clause-keeps : goal.returns-in-Err-clause-keeps
returns-in-Err-clause-keeps g c =
    let looks = c.in-Err.ensures.looks in
    let old = c.args.pass.now in
    let new = c.walk.new.pass in
    kept _ c.args.n old new c.requires.pass c.walk.ensures.pass looks.grows
    (λ m t e. known_same c.args.n (view_of old) (view_of new) c.requires.pass.held.seat.sound looks.grows looks.numbered m ∙ e) looks.origin.root

pub returns-in-Err-clause-already_known : goal.returns-in-Err-clause-already_known
returns-in-Err-clause-already_known g c = λ k e.
    let old = view_of c.args.pass.now in
    sym c.in-Err.is ∙ c.walk.ensures.already_found k (known_found c.args.n old old c.requires.pass.held.seat.sound (Grows-refl old) k c.args.codes.now e)

pub returns-in-Err-clause-refused : goal.returns-in-Err-clause-refused
returns-in-Err-clause-refused g c =
    let looks = c.in-Err.ensures.looks in
    known_same c.args.n (view_of c.args.pass.now) (view_of c.walk.new.pass) c.requires.pass.held.seat.sound looks.grows looks.numbered

pub returns-in-Err-clause-row_full : goal.returns-in-Err-clause-row_full
returns-in-Err-clause-row_full g c = λ is.
    let seat = c.walk.ensures.pass.held.seat in
    full_passed c.args.n (view_of c.walk.new.pass) c.args.codes.now seat.sound seat.size (c.walk.ensures.full (c.in-Err.is ∙ is))

pub returns-in-Err-clause-no_portion : goal.returns-in-Err-clause-no_portion
returns-in-Err-clause-no_portion g c = λ is.
    spent_of c.args.n (view_of c.walk.new.pass) c.walk.ensures.pass.held.seat.size (c.walk.ensures.spent (c.in-Err.is ∙ is))

pub returns-in-Ok-clause-known_no_chunk : goal.returns-in-Ok-clause-known_no_chunk
returns-in-Ok-clause-known_no_chunk g c = λ k e.
    let old = view_of c.args.pass.now in
    c.walk.ensures.found_no_chunk k (known_found c.args.n old old c.requires.pass.held.seat.sound (Grows-refl old) k c.args.codes.now e)

pub returns-in-Err-clause-known_no_chunk : goal.returns-in-Err-clause-known_no_chunk
returns-in-Err-clause-known_no_chunk g c = λ k e.
    let old = view_of c.args.pass.now in
    c.walk.ensures.found_no_chunk k (known_found c.args.n old old c.requires.pass.held.seat.sound (Grows-refl old) k c.args.codes.now e)
