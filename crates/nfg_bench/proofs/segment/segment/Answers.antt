use Rattle.std.proofs.Common.{◌≡◌, [], ◌++◌, length, refl, sym, ap, ◌∙◌, append-nil, append_assoc, length-append, arith, rules}
use Rattle.std.proofs.lemmas.List.{nil_from_length}
use Rattle.nfg_text.specs.Graphemes.{graphemes_of}
use Rattle.nfg_bench.proofs.GraphemeLemmas.{length-with_clusters}
use Rattle.nfg_bench.proofs.TextLemmas.{text_front, text_back}
use Rattle.nfg_bench.proofs.segment.segment.Goals as goal

pub feed-requires : goal.feed-requires
feed-requires c =
    text_front c.loop-rest.rest.now c.split_at.result.0.now c.split_at.result.1.now c.split_at.ensures.by_index.0 c.loop-rest.invariant.text

pub loop-rest-init : goal.loop-rest-init
loop-rest-init c = record {
  text = c.requires;
  front = [];
  parts = refl;
  given = [];
  follows = c.new-segmenter.ensures;
  count = ap (λ g. length g.heads) c.new-clusters.ensures;
}

pub loop-rest-preserved : goal.loop-rest-preserved
loop-rest-preserved c =
    let before = c.loop-rest.invariant in
    let piece = c.split_at.result.0.now in
    let fed = c.in_ok-feed.ensures.fed before.front before.given before.follows in
    record {
      text = text_back c.loop-rest.rest.now piece c.split_at.result.1.now c.split_at.ensures.by_index.0 before.text;
      front = before.front ++ piece;
      parts =
          append_assoc before.front piece c.split_at.result.1.now
          ∙ ap (λ l. before.front ++ l) (sym c.split_at.ensures.by_index.0) ∙ before.parts;
      given = before.given ++ fed.more;
      follows = fed.follows;
      count = omega (arith, ap (λ g. length g.heads) fed.appended, length-with_clusters c.loop-rest.clusters fed.more, before.count, length-append before.given fed.more);
    }

pub returns : goal.returns
returns c =
    let before = c.loop-rest.invariant in
    let done = c.in_ok-finish.ensures.finished before.front before.given before.follows in
    let none = nil_from_length c.loop-rest.rest.now (search rules) in
    let all : before.front ≡ c.args.text.now = sym (append-nil before.front) ∙ ap (λ l. before.front ++ l) (sym none) ∙ before.parts in
    omega (
      arith,
      c.len.ensures,
      ap (λ g. length g.heads) done.appended,
      length-with_clusters c.loop-rest.clusters done.more,
      before.count,
      length-append before.given done.more,
      ap length done.whole,
      ap (λ t. length (graphemes_of t)) all,
    )
