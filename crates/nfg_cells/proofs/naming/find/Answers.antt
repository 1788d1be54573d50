use Rattle.std.proofs.Common.{length, sym, ◌∙◌, arith}
use Rattle.nfg_syn.specs.KnownLaws.{IsWithin-same}
use Rattle.nfg_cells.specs.Notes.{places_of}
use Rattle.nfg_cells.specs.NotesLaws.{AreFound-grows, AreFound-named, known-besides, known-kept, known_found, places_within}
use Rattle.nfg_cells.specs.ProbeLaws.{IsFound-grows, IsTableFull-passed}
use Rattle.nfg_cells.proofs.naming.find.Goals as goal

pub returns-in-Ok-clause-found : goal.returns-in-Ok-clause-found
returns-in-Ok-clause-found c =
    let n = length c.args.cells.now in
    let walked = places_of c.walk.new.notes in
    let new = places_of c.mark_named.new.notes in
    AreFound-named n c.args.notes.now c.mark_named.new.notes c.in-Ok.k c.args.codes.now c.requires.found (λ j u e. IsWithin-same walked new c.mark_named.ensures.places j u (c.in-Ok.ensures.grown j u e)) c.mark_named.ensures.here
    (λ j differ. c.mark_named.ensures.others j differ ∙ c.in-Ok.ensures.named j)
    (IsFound-grows n walked new c.in-Ok.k c.args.codes.now (IsWithin-same walked new c.mark_named.ensures.places) c.in-Ok.ensures.found)

pub returns-in-Ok-clause-known : goal.returns-in-Ok-clause-known
returns-in-Ok-clause-known c =
    let walked = places_of c.walk.new.notes in
    let new = places_of c.mark_named.new.notes in
    known-kept (length c.args.cells.now) c.args.notes.now c.mark_named.new.notes c.in-Ok.k c.args.codes.now c.requires.found (λ j u e. IsWithin-same walked new c.mark_named.ensures.places j u (c.in-Ok.ensures.grown j u e)) c.mark_named.ensures.here
    (λ j differ. c.mark_named.ensures.others j differ ∙ c.in-Ok.ensures.named j)

pub returns-in-Ok-clause-interned : goal.returns-in-Ok-clause-interned
returns-in-Ok-clause-interned c =
    let walked = places_of c.walk.new.notes in
    let new = places_of c.mark_named.new.notes in
    known-besides (length c.args.cells.now) c.args.notes.now c.mark_named.new.notes c.in-Ok.k c.args.codes.now c.requires.found (λ j u e. IsWithin-same walked new c.mark_named.ensures.places j u (c.in-Ok.ensures.grown j u e)) c.mark_named.ensures.here
    (λ j differ. c.mark_named.ensures.others j differ ∙ c.in-Ok.ensures.named j)
    (c.mark_named.ensures.places c.in-Ok.k ∙ c.in-Ok.ensures.found.here)

pub returns-in-Ok-clause-already_known : goal.returns-in-Ok-clause-already_known
returns-in-Ok-clause-already_known c k e =
    sym c.in-Ok.is ∙ c.walk.ensures.already_found k (known_found (length c.args.cells.now) c.args.notes.now c.requires.found k c.args.codes.now e)

pub returns-in-Err-clause-found : goal.returns-in-Err-clause-found
returns-in-Err-clause-found c = AreFound-grows (length c.args.cells.now) c.args.notes.now c.walk.new.notes c.requires.found c.in-Err.ensures.grown c.in-Err.ensures.named

pub returns-in-Err-clause-already_known : goal.returns-in-Err-clause-already_known
returns-in-Err-clause-already_known c k e =
    sym c.in-Err.is ∙ c.walk.ensures.already_found k (known_found (length c.args.cells.now) c.args.notes.now c.requires.found k c.args.codes.now e)

pub returns-in-Err-clause-row_full : goal.returns-in-Err-clause-row_full
returns-in-Err-clause-row_full c is =
    let as_many = c.in-Err.ensures.notes.as_many in
    IsTableFull-passed (length c.args.cells.now) (places_of c.walk.new.notes) c.args.codes.now (λ k u e. let within = places_within c.walk.new.notes k u e in omega arith) (c.walk.ensures.full (c.in-Err.is ∙ is))
