use Rattle.nfg_decode.specs.declared.encoding.Encoding.TheVariants.{Utf8}
use Rattle.nfg_bench.proofs.GraphemeLemmas.{parts_as_many}
use Rattle.nfg_bench.proofs.parts.load_by_parts.Goals as goal

pub returns : goal.returns
returns g c =
    parts_as_many Utf8 c.args.bytes.now (g.S.Synthetics.seen c.args.pass.now) (g.S.Synthetics.seen c.load_parts.new.pass)
    c.load_parts.result c.load_parts.ensures.loaded
