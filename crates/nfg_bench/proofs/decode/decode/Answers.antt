use Rattle.std.proofs.Common.{◌≡◌, [], ◌++◌, ◌%◌, ◌^◌, length, refl, sym, ap, ◌∙◌, subst, append-nil, append_assoc, length-append, arith, rules}
use Rattle.std.proofs.lemmas.List.{nil_from_length}
use Rattle.std.specs.Prelude.{IsOkAnd}
use Rattle.nfg_decode.specs.Encoding.{decode, decoded_prefix}
use Rattle.nfg_bench.proofs.TextLemmas.{decoded_none}
use Rattle.nfg_bench.proofs.decode.decode.Goals as goal

pub loop-rest-init : goal.loop-rest-init
loop-rest-init c = record {
  count = search rules;
  front = [];
  parts = refl;
  read = c.new-stream.ensures.read;
  codes = sym (ap (λ l. length l % 2 ^ 64) (decoded_none c.args.feeding.encoding));
}

pub loop-rest-preserved : goal.loop-rest-preserved
loop-rest-preserved c =
    let e = c.args.feeding.encoding in
    let before = c.loop-rest.invariant in
    let part = c.split_at.result.0.now in
    let given = c.in_ok-feed_part.ensures.codes e before.front before.read in
    record {
      count = search rules;
      front = before.front ++ part;
      parts =
          append_assoc before.front part c.split_at.result.1.now
          ∙ ap (λ l. before.front ++ l) (sym c.split_at.ensures.by_index.0) ∙ before.parts;
      read = c.in_ok-feed_part.ensures.read e before.front before.read;
      codes =
          omega (
            arith,
            c.len-codes.ensures,
            before.codes,
            ap length given.1,
            length-append c.truncate.new.self given.0,
            ap length c.truncate.ensures,
            ap length given.2,
            length-append (decoded_prefix e before.front) given.0,
          );
    }

pub returns : goal.returns
returns c =
    let e = c.args.feeding.encoding in
    let before = c.loop-rest.invariant in
    let none = nil_from_length c.loop-rest.rest.now (search rules) in
    let all : before.front ≡ c.args.bytes.now = sym (append-nil before.front) ∙ ap (λ l. before.front ++ l) (sym none) ∙ before.parts in
    let whole = c.in_ok-finish.ensures.whole e before.front before.read in
    subst (λ b. IsOkAnd (decode e b) (λ text. c.loop-rest.codes ≡ length text % 2 ^ 64)) all
    (subst (λ d. IsOkAnd d (λ text. c.loop-rest.codes ≡ length text % 2 ^ 64)) (sym whole) before.codes)
