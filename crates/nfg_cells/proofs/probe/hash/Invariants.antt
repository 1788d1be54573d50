use Rattle.std.proofs.Common.{◌≡◌, ◌<◌, take}
use Rattle.nfg_cells.specs.Probe.{hash_from}
use Rattle.nfg_cells.proofs.probe.hash.Given as goal

abbrev pub invariant-loop-code : goal.invariant-loop-code
invariant-loop-code l = record {
  within : l.hash < 4294967296;
  so_far : l.hash ≡ hash_from 0 (take l.code-index l.codes);
}
