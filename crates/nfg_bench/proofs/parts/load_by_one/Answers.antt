use Rattle.std.proofs.Common.{[]}
use Rattle.nfg_decode.specs.declared.encoding.Encoding.TheVariants.{Utf8}
use Rattle.nfg_decode.specs.Encoding.{decode}
use Rattle.nfg_bench.proofs.GraphemeLemmas.{loaded_as_many}
use Rattle.nfg_bench.proofs.parts.load_by_one.Goals as goal

pub returns : goal.returns
returns g c =
    let bytes = c.args.bytes.now in
    let read = c.feed.ensures.read Utf8 [] c.new-stream.ensures.read in
    loaded_as_many (decode Utf8 bytes) _ _ c.finish.result (c.finish.ensures.loaded Utf8 bytes read)
