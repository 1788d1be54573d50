use Rattle.std.proofs.Common.{[], ◌++◌, Ok, ap, sym, ◌∙◌, arith}
use Rattle.nfg_decode.specs.Encoding.{decoded_prefix}
use Rattle.nfg_decode.specs.declared.encoding.Encoding.TheVariants.{Utf8}
use Rattle.nfg_bench.proofs.TextLemmas.{text_gained, are_bytes, decoded_none}
use Rattle.nfg_bench.proofs.pipeline.decoded.Goals as goal

pub returns-in-Ok-finish-clause-codes : goal.returns-in-Ok-finish-clause-codes
returns-in-Ok-finish-clause-codes c =
    let bytes = c.args.bytes.now in
    let whole = c.in-Ok-finish.ensures.whole Utf8 bytes (c.in-Ok.ensures.read Utf8 [] c.new-stream.ensures.read) in
    let given = c.in-Ok.ensures.decoded Utf8 [] c.new-stream.ensures.read in
    whole ∙ ap Ok (given.2 ∙ ap (λ l. l ++ given.0) (decoded_none Utf8 ∙ sym c.new-into.ensures) ∙ sym given.1)

pub returns-in-Ok-finish-clause-text : goal.returns-in-Ok-finish-clause-text
returns-in-Ok-finish-clause-text c =
    let bytes = c.args.bytes.now in
    let given = c.in-Ok.ensures.decoded Utf8 [] c.new-stream.ensures.read in
    let all = c.decoded_codes_are_a_text.ensures Utf8 bytes (are_bytes bytes (λ i. omega (arith, c.type_inv.bytes i))) in
    text_gained c.new-into.result c.feed.new.into (decoded_prefix Utf8 []) given.0 (decoded_prefix Utf8 bytes) c.new-into.ensures given.1 given.2 all
