use Rattle.std.proofs.Common.{get_or, slice_get, sym, subst, ap, refl, ◌∙◌, arith}
use Rattle.std.proofs.lemmas.Option.{slice_get-get_or}
use Rattle.nfg_cells.specs.Notes.{AreMarked, AreNotesOf}
use Rattle.nfg_cells.proofs.JoinLemmas.{AreJoined-more, IsUnion-joined, alike, marked_at, put_back}
use Rattle.nfg_cells.proofs.meet.join_all.Goals as goal

pub join-requires-clause-cell : goal.join-requires-clause-cell
join-requires-clause-cell c =
    let cells = c.args.cells.now in
    let i = c.loop-k.invariant in
    let k = c.loop-k.k in
    let long = c.loop-k.auto in
    let low = c.loop-k-test.true in
    let one = c.requires.into_notes.as_many in
    let other = c.requires.from_notes.as_many in
    alike cells c.loop-k.into c.loop-k.from k _ _ i.joined.notes (subst (AreNotesOf cells) (sym i.from) c.requires.from_notes) (omega arith)
    (slice_get-get_or c.loop-k.into k c.index-into-k.result (omega arith)) (slice_get-get_or c.loop-k.from k c.index-from-k.result (omega arith))

pub join-requires-clause-into_marked : goal.join-requires-clause-into_marked
join-requires-clause-into_marked c =
    let long = c.loop-k.auto in
    let low = c.loop-k-test.true in
    marked_at c.loop-k.into c.loop-k.k _ c.loop-k.invariant.joined.marked (slice_get-get_or c.loop-k.into c.loop-k.k c.index-into-k.result (omega arith))

pub join-requires-clause-from_marked : goal.join-requires-clause-from_marked
join-requires-clause-from_marked c =
    let long = c.loop-k.auto in
    let low = c.loop-k-test.true in
    let one = c.requires.into_notes.as_many in
    let other = c.requires.from_notes.as_many in
    marked_at c.loop-k.from c.loop-k.k _ (subst AreMarked (sym c.loop-k.invariant.from) c.requires.from_marked) (slice_get-get_or c.loop-k.from c.loop-k.k c.index-from-k.result (omega arith))

pub loop-k-init : goal.loop-k-init
loop-k-init c = record {
  from = refl;
  joined = record {
    notes = c.requires.into_notes;
    marked = c.requires.into_marked;
    joined = λ j low. absurd (omega arith);
    left = λ j high. refl;
    agreed = λ j t u low e f. absurd (omega arith);
    named = λ j low. absurd (omega arith);
    unnamed = λ j high. refl;
  };
}

pub loop-k-preserved : goal.loop-k-preserved
loop-k-preserved c =
    let i = c.loop-k.invariant in
    let k = c.loop-k.k in
    let e = c.join.ensures in
    let long = c.loop-k.auto in
    let low = c.loop-k-test.true in
    let one = c.requires.into_notes.as_many in
    let other = c.requires.from_notes.as_many in
    record {
      from = put_back c.loop-k.from k c.index-from-k.result c.join.new.from e.from ∙ i.from;
      joined = AreJoined-more c.args.cells.now c.args.into.now c.args.from.now c.loop-k.into k (get_or c.loop-k.into k c.index-into-k.result) (get_or c.loop-k.from k c.index-from-k.result) c.join.new.into (omega arith)
          (slice_get-get_or c.loop-k.into k c.index-into-k.result (omega arith))
          (ap (λ notes. slice_get notes k) (sym i.from) ∙ slice_get-get_or c.loop-k.from k c.index-from-k.result (omega arith))
          i.joined e.cell e.marked e.agree e.text e.named;
    }

pub returns-clause-places : goal.returns-clause-places
returns-clause-places c =
    let long = c.loop-k-test.false in
    let one = c.requires.into_notes.as_many in
    let other = c.requires.from_notes.as_many in
    IsUnion-joined c.args.cells.now c.args.into.now c.args.from.now c.loop-k.into c.loop-k.k c.loop-k.invariant.joined (omega arith) (omega arith)
