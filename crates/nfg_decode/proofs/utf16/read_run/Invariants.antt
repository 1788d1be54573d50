use Rattle.std.proofs.Common.{◌≡◌, ◌≤◌, length, take}
use Rattle.std.specs.Prelude.{Ok}
use Rattle.nfg_decode.specs.Utf16.{decode_utf16}
use Rattle.nfg_decode.proofs.utf16.read_run.Given as goal

abbrev pub invariant-loop-k : goal.invariant-loop-k
invariant-loop-k l = record {
  within : l.at ≤ length l.bytes;
  progress : l.k ≤ l.at;
  text : decode_utf16 l.order (take l.at l.bytes) ≡ Ok (take l.k l.codes);
}
