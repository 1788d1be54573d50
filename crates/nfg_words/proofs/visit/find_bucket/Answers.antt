use Rattle.nfg_words.proofs.Comparing.{passed_more}
use Rattle.nfg_words.proofs.Looking.{Finds-after, looks_bucket}
use Rattle.nfg_words.specs.Passes.{view_of}
use Rattle.nfg_words.proofs.visit.find_bucket.Goals as goal

pub offer-requires-clause-passed : goal.offer-requires-clause-passed
offer-requires-clause-passed g c =
    let grows = c.read_bucket-bucket.ensures.grows in
    passed_more c.args.n (view_of c.args.pass.now) c.read_bucket-bucket.new.holder.me.0 c.args.codes.now c.args.index grows.buckets grows.codes c.requires.passed

pub returns-clause-put : goal.returns-clause-put
returns-clause-put g c = λ is. Finds-after (view_of c.args.pass.now) c.read_bucket-bucket.new.holder.me.0 (view_of c.offer.new.pass) c.args.place c.args.codes.now
    (looks_bucket (view_of c.args.pass.now) c.read_bucket-bucket.new.holder.me.0 c.args.place c.read_bucket-bucket.result c.read_bucket-bucket.ensures.read c.read_bucket-bucket.ensures.grows)
    (c.offer.ensures.put is)
