use Rattle.std.proofs.Common.{◌++◌, ap, sym, ◌∙◌, subst, append-nil, append_assoc, refl, [], rules}
use Rattle.nfg_decode.specs.Encoding.{decoded_prefix}
use Rattle.nfg_decode.specs.Stream.{HasRead}
use Rattle.nfg_bench.proofs.TextLemmas.{gives_on}
use Rattle.nfg_bench.proofs.decode.feed_part.Goals as goal

pub loop-rest-init : goal.loop-rest-init
loop-rest-init c = record {
  count = search rules;
  front = [];
  parts = refl;
  read = λ e fed read. subst (HasRead c.args.stream.now e) (sym (append-nil fed)) read;
  codes = λ e fed read. ([], sym (append-nil c.args.into.now), ap (decoded_prefix e) (append-nil fed) ∙ sym (append-nil (decoded_prefix e fed)));
}

pub loop-rest-preserved : goal.loop-rest-preserved
loop-rest-preserved c =
    let before = c.loop-rest.invariant in
    let piece = c.split_at.result.0.now in
    record {
      count = search rules;
      front = before.front ++ piece;
      parts =
          append_assoc before.front piece c.split_at.result.1.now
          ∙ ap (λ l. before.front ++ l) (sym c.split_at.ensures.by_index.0) ∙ before.parts;
      read = λ e fed read.
          subst (HasRead c.feed.new.self e) (append_assoc fed before.front piece)
          (c.in_ok-feed.ensures.read e (fed ++ before.front) (before.read e fed read));
      codes = λ e fed read.
          gives_on e fed before.front piece c.args.into.now c.loop-rest.into c.feed.new.into (before.codes e fed read)
          (c.in_ok-feed.ensures.decoded e (fed ++ before.front) (before.read e fed read));
    }
