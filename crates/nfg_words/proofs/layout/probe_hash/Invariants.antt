use Rattle.std.proofs.Common.{◌≡◌, take}
use Rattle.std.specs.List.{fold}
use Rattle.nfg_words.specs.ProbeTable.{next_hash}
use Rattle.nfg_words.proofs.layout.probe_hash.Given as goal

abbrev pub invariant-loop-code : goal.invariant-loop-code
invariant-loop-code l = l.hash ≡ fold next_hash 0 (take l.code-index l.codes)
