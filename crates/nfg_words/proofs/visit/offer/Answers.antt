use Rattle.std.proofs.Common.{◌≢◌, Some, ap}
use Rattle.nfg_words.proofs.Comparing.{passed_more}
use Rattle.nfg_words.proofs.Looking.{LooksOn-trans, looks_bucket}
use Rattle.nfg_words.specs.Passes.{view_of}
use Rattle.nfg_words.proofs.visit.offer.Goals as goal

pub put_text-requires-clause-passed : goal.put_text-requires-clause-passed
put_text-requires-clause-passed g c =
    let grows = c.get_ready.ensures.looks.grows in
    passed_more c.args.n (view_of c.args.pass.now) (view_of c.get_ready.new.pass) c.args.codes.now c.args.index grows.buckets grows.codes c.requires.passed

pub returns-clause-looks : goal.returns-clause-looks
returns-clause-looks g c = λ other.
    let found : c.put_text.result ≢ 0 = λ is. other (ap (λ m. Some m) is) in
    LooksOn-trans _ (view_of c.get_ready.new.pass) _ c.get_ready.ensures.looks
    (looks_bucket (view_of c.get_ready.new.pass) (view_of c.put_text.new.pass) c.args.place c.put_text.result (c.put_text.ensures.found found) c.put_text.ensures.grows)
