use Rattle.nfg_syn.specs.HashChains.{AreLinked}
use Rattle.nfg_syn.proofs.hash_chains.link_all.Given as goal

abbrev pub invariant-loop-place : goal.invariant-loop-place
invariant-loop-place l = AreLinked l.hashes l.heads l.links l.place
