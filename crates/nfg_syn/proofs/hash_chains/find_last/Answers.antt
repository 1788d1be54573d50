use Rattle.std.proofs.Common.{length}
use Rattle.nfg_syn.proofs.HashChainsLemmas.{IsLast-head, found_last}
use Rattle.nfg_syn.proofs.hash_chains.find_last.Goals as goal

pub walk-requires-clause-within : goal.walk-requires-clause-within
walk-requires-clause-within c =
    (IsLast-head _ _ _ (length c.args.hashes.now) c.args.hash _ c.requires.linked c.bucket.ensures.bucket c.bucket.ensures.within).within

pub walk-requires-clause-bucket : goal.walk-requires-clause-bucket
walk-requires-clause-bucket c =
    (IsLast-head _ _ _ (length c.args.hashes.now) c.args.hash _ c.requires.linked c.bucket.ensures.bucket c.bucket.ensures.within).of_bucket

pub returns : goal.returns
returns c =
    found_last _ _ c.args.hash (length c.args.hashes.now) _ _
    (IsLast-head _ _ _ (length c.args.hashes.now) c.args.hash _ c.requires.linked c.bucket.ensures.bucket c.bucket.ensures.within) c.walk.ensures
