use Rattle.std.proofs.Common.{true, ap, sym, subst, ◌+◌, ◌++◌, ◌∙◌, reverse, take, drop, get_or, arith}
use Rattle.unicode_segmentation.specs.Grapheme.{is_grapheme_break}
use Rattle.nfg_text.proofs.Memories.{rule-last}
use Rattle.nfg_text.proofs.Places.{places, places-start, places-step, places-finish, reverse-take-more, length-reverse-take}
use Rattle.nfg_text.specs.Breaks.{Remembers}
use Rattle.nfg_text.specs.Graphemes.{cluster_ends}
use Rattle.nfg_text.proofs.Scalars.{scalar_at, scalar-below}
use Rattle.nfg_text.proofs.breaks.cluster_ends.Goals as goal

pub loop-i-init : goal.loop-i-init
loop-i-init c =
    record {
      remembers = c.new-memory.ensures;
      ends = ap (λ l. l ++ places (is_grapheme_break true) 0 _ c.args.t.now) c.new-ends.ensures.items ∙ places-start (is_grapheme_break true) rule-last c.args.t.now;
    }

pub of_number-next-requires : goal.of_number-next-requires
of_number-next-requires c = scalar-below _ (scalar_at c.args.t.now c.loop-i.i 0 c.requires c.loop-i-test.true)

pub loop-i-preserved : goal.loop-i-preserved
loop-i-preserved c =
    let t = c.args.t.now in
    let i = c.loop-i.i in
    let rule = is_grapheme_break true in
    let back = reverse-take-more t i c.loop-i-test.true in
    let kind = c.of_number-next.ensures in
    record {
      remembers = subst (Remembers c.then-memory.result) (sym back) (c.then-memory.ensures (reverse (take i t)) (get_or t i 0) c.loop-i.invariant.remembers kind);
      ends =
          places-step rule t c.loop-i.ends.items c.push_if.new.ends.items (cluster_ends t) i c.breaks_before.result c.loop-i-test.true
          (λ some. c.breaks_before.ensures (reverse (take i t)) (drop (i + 1) t) (get_or t i 0) c.loop-i.invariant.remembers kind (length-reverse-take t i c.loop-i-test.true some))
          c.in_ok-push_if.ensures c.loop-i.invariant.ends;
    }

pub returns : goal.returns
returns c =
    c.from_vec.ensures
    ∙ places-finish (is_grapheme_break true) c.args.t.now c.loop-i.ends.items c.push_if-2.new.ends.items (cluster_ends c.args.t.now) c.loop-i.i c.is_empty.result (omega arith)
    c.is_empty.ensures c.in_ok-push_if-2.ensures c.loop-i.invariant.ends
