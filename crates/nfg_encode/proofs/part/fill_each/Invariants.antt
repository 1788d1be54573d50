use Rattle.std.proofs.Common.{◌≡◌, ◌*◌, ◌≤◌, take}
use Rattle.std.specs.Prelude.{flat_map}
use Rattle.nfg_decode.specs.Encoding.{encode_code}
use Rattle.nfg_encode.proofs.part.fill_each.Given as goal

abbrev pub invariant-loop-code : goal.invariant-loop-code
invariant-loop-code l = record {
  within : l.at ≤ 4 * l.code-index;
  bytes : take l.at l.out ≡ flat_map (encode_code l.e) (take l.code-index l.codes);
}
