use Rattle.std.proofs.Common.{get_or, arith}
use Rattle.nfg_cells.proofs.OfferLemmas.{refused_same, refused_unseen}
use Rattle.nfg_cells.proofs.probe.offer.Goals as goal

pub returns-clause-refused : goal.returns-clause-refused
returns-clause-refused c =
    let notes = c.args.notes.now in
    let old = c.index-notes-k.result in
    let as_many = c.requires.notes.as_many in
    let inside = c.requires.place in
    refused_same notes c.args.k old (record { note = c.get_or_try_init_as.new.note; seen = (get_or notes c.args.k old).seen; named = (get_or notes c.args.k old).named }) (omega arith) c.index-notes-k.is _ c.get_or_try_init_as.result c.get_or_try_init_as.ensures.value

pub returns-clause-unseen : goal.returns-clause-unseen
returns-clause-unseen c =
    let notes = c.args.notes.now in
    let old = c.index-notes-k.result in
    let as_many = c.requires.notes.as_many in
    let inside = c.requires.place in
    refused_unseen notes c.args.k old (record { note = c.get_or_try_init_as.new.note; seen = (get_or notes c.args.k old).seen; named = (get_or notes c.args.k old).named }) (omega arith) c.index-notes-k.is _ c.get_or_try_init_as.result c.get_or_try_init_as.ensures.value
