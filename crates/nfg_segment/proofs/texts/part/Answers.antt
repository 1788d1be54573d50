use Rattle.std.proofs.Common.{length, sym, arith}
use Rattle.std.proofs.lemmas.List.{get_or-map}
use Rattle.nfg_segment.specs.Kept.{spanned}
use Rattle.nfg_segment.specs.declared.texts.Span.{Span}
use Rattle.nfg_segment.proofs.KeptLemmas.{AreWithin-at}
use Rattle.nfg_segment.proofs.texts.part.Goals as goal

abbrev none : Span
none = record { start = 0; end = 0 }

pub offset_bounds-codes-start : goal.offset_bounds-codes-start
offset_bounds-codes-start c =
    let b = AreWithin-at (length c.args.codes.now) c.args.spans.now c.args.k none c.requires.within c.requires.place in omega (arith, b.0, b.1)

pub slice_bounds-result-count : goal.slice_bounds-result-count
slice_bounds-result-count c =
    let b = AreWithin-at (length c.args.codes.now) c.args.spans.now c.args.k none c.requires.within c.requires.place in omega (arith, b.0, b.1)

pub slice_bounds-result-start : goal.slice_bounds-result-start
slice_bounds-result-start c =
    let b = AreWithin-at (length c.args.codes.now) c.args.spans.now c.args.k none c.requires.within c.requires.place in omega (arith, b.0, b.1)

pub slice_bounds-result-end : goal.slice_bounds-result-end
slice_bounds-result-end c =
    let b = AreWithin-at (length c.args.codes.now) c.args.spans.now c.args.k none c.requires.within c.requires.place in omega (arith, b.0, b.1)

pub returns : goal.returns
returns c = sym (get_or-map (spanned c.args.codes.now) c.args.spans.now c.args.k none _ c.requires.place)
