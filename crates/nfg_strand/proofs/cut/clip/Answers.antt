-- each strand gives its part, and the others the rest of the clip
use Rattle.std.proofs.Common.{◌≡◌, ◌+◌, ◌-◌, ◌++◌, min, drop, ap, ap₂, sym, ◌∙◌, arith, append_assoc}
use Rattle.std.specs.Prelude.{slice_range}
use Rattle.nfg_strand.specs.Pieces.{clipped, clipped_piece}
use Rattle.nfg_strand.specs.Strand.{graphemes, pieces, graphemes_of, piece_of}
use Rattle.nfg_strand.proofs.Places.{slice_range-graphemes, clipped-pieces, length-graphemes-past}
use Rattle.nfg_strand.proofs.cut.clip.Goals as goal

pub loop-strand-preserved : goal.loop-strand-preserved
loop-strand-preserved c =
    let strands = c.args.strands.now in
    let i = c.loop-strand.strand-index in
    let s = c.strand-item.result in
    let span = c.span-span.result in
    let from = c.loop-strand.from in
    let until = c.loop-strand.until in
    let covers = c.span-span.ensures.len in
    let len = length-graphemes-past strands i s until span c.loop-strand-test.true c.strand-item.is covers in
    let narrowed = c.saturating_sub-from.ensures in
    let shortened = c.saturating_sub-until.ensures in
    let rest = drop (i + 1) strands in
    let old = c.loop-strand.parts.items in
    let part : graphemes c.push_clip.new.into.items ≡ graphemes old ++ slice_range (graphemes_of s) c.min.result c.min-in-loop-strand.result = c.in_ok-push_clip.ensures.graphemes in
    let part_pieces : pieces c.push_clip.new.into.items ≡ pieces old ++ clipped_piece (piece_of s) c.min.result c.min-in-loop-strand.result = c.in_ok-push_clip.ensures.pieces in
    let pushed = part ∙ ap₂ (λ a b. graphemes old ++ slice_range (graphemes_of s) a b) c.min.ensures c.min-in-loop-strand.ensures in
    let pushed_pieces = part_pieces ∙ ap₂ (λ a b. pieces old ++ clipped_piece (piece_of s) a b) c.min.ensures c.min-in-loop-strand.ensures in
    record {
      ordered = omega arith;
      inside = omega (arith, c.loop-strand.invariant.inside);
      graphemes_so_far =
          ap₂ (λ xs n. xs ++ slice_range (graphemes rest) n c.saturating_sub-until.result) pushed narrowed
          ∙ ap (λ n. graphemes old ++ slice_range (graphemes_of s) (min from span) (min until span) ++ slice_range (graphemes rest) (from - span) n) shortened
          ∙ append_assoc (graphemes old) (slice_range (graphemes_of s) (min from span) (min until span)) (slice_range (graphemes rest) (from - span) (until - span))
          ∙ ap (λ xs. graphemes old ++ xs) (sym (slice_range-graphemes strands i s from until span c.loop-strand-test.true c.strand-item.is covers c.loop-strand.invariant.ordered))
          ∙ c.loop-strand.invariant.graphemes_so_far;
      pieces_so_far =
          ap₂ (λ xs n. xs ++ clipped (pieces rest) n c.saturating_sub-until.result) pushed_pieces narrowed
          ∙ ap (λ n. pieces old ++ clipped_piece (piece_of s) (min from span) (min until span) ++ clipped (pieces rest) (from - span) n) shortened
          ∙ append_assoc (pieces old) (clipped_piece (piece_of s) (min from span) (min until span)) (clipped (pieces rest) (from - span) (until - span))
          ∙ ap (λ xs. pieces old ++ xs) (sym (clipped-pieces strands i s from until span c.loop-strand-test.true c.strand-item.is covers))
          ∙ c.loop-strand.invariant.pieces_so_far;
    }
