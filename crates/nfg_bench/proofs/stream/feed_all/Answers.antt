use Rattle.std.proofs.Common.{◌++◌, ap, sym, ◌∙◌, subst, append_assoc, rules}
use Rattle.nfg_decode.specs.declared.encoding.Encoding.TheVariants.{Utf8}
use Rattle.nfg_stream.specs.Stream.{HasRead}
use Rattle.nfg_bench.proofs.stream.feed_all.Goals as goal

pub loop-rest-preserved : goal.loop-rest-preserved
loop-rest-preserved c =
    let before = c.loop-rest.invariant in
    let piece = c.split_at.result.0.now in
    record {
      count = search rules;
      front = before.front ++ piece;
      parts =
          append_assoc before.front piece c.split_at.result.1.now
          ∙ ap (λ l. before.front ++ l) (sym c.split_at.ensures.by_index.0) ∙ before.parts;
      read = λ fed read.
          subst (HasRead c.feed.new.self Utf8) (append_assoc fed before.front piece)
          (c.feed.ensures.read Utf8 (fed ++ before.front) (before.read fed read));
    }
