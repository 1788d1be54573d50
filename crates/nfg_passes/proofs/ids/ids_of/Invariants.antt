use Rattle.std.proofs.Common.{◌≡◌, ◌++◌, length, map, take, drop}
use Rattle.nfg_passes.specs.Ids.{id_number}
use Rattle.nfg_passes.proofs.ids.ids_of.Given as goal

abbrev pub invariant-loop-i : goal.invariant-loop-i
invariant-loop-i l = record {
  same_length : length l.into ≡ length l.text;
  written : take l.i l.into ++ map id_number (drop l.i l.text) ≡ map id_number l.text;
}
