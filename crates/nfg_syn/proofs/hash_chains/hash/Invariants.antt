use Rattle.std.proofs.Common.{◌≡◌, take}
use Rattle.std.specs.List.{fold}
use Rattle.nfg_syn.specs.HashChains.{hash_step}
use Rattle.nfg_syn.proofs.hash_chains.hash.Given as goal

abbrev pub invariant-loop-code : goal.invariant-loop-code
invariant-loop-code l = l.hash ≡ fold hash_step 0 (take l.code-index l.text)
