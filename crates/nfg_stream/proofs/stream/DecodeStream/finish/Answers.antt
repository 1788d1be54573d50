use Rattle.nfg_decode.specs.Encoding.{decode}
use Rattle.nfg_stream.proofs.StreamLemmas.{read-early, read-reading, open-some, loaded-early, loaded-ended, ended-some}
use Rattle.nfg_stream.proofs.stream.DecodeStream.finish.Goals as goal

pub returns-in-Some-clause-loaded : goal.returns-in-Some-clause-loaded
returns-in-Some-clause-loaded g c e bytes read =
    loaded-early e bytes c.in-Some.error (g.T.Synthetics.seen c.args.pass.now) (read-early c.args.self e bytes c.in-Some.error c.in-Some.is read)

pub end-requires : goal.end-requires
end-requires g c = record { reading = open-some c.args.self.reader c.args.self.refused c.in_default.is c.args.self.read }

pub string_from-requires-clause-clusters : goal.string_from-requires-clause-clusters
string_from-requires-clause-clusters g c κs within =
    ended-some c.args.self.reader c.end.new.self.clusters (open-some c.args.self.reader c.args.self.refused c.in_default.is c.args.self.read) c.in-Ok.ensures.ended

pub returns-in-Err-clause-loaded : goal.returns-in-Err-clause-loaded
returns-in-Err-clause-loaded g c e bytes read =
    loaded-ended c.end.new.self.clusters (decode e bytes) c.in-Err.error (g.T.Synthetics.seen c.args.pass.now)
    (c.in-Err.ensures.ended e bytes (read-reading c.args.self e bytes c.in_default.is read))
