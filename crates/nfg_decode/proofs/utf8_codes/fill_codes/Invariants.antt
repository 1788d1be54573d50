use Rattle.std.proofs.Common.{◌≡◌, ◌+◌, ◌-◌, ◌≤◌, ◌++◌, length, take, drop, IsUtf8}
use Rattle.std.specs.Str.{chars}
use Rattle.nfg_decode.proofs.utf8_codes.fill_codes.Given as goal

abbrev pub invariant-loop-at : goal.invariant-loop-at
invariant-loop-at l = record {
  within : l.at ≤ length l.bytes;
  text : IsUtf8 (drop l.at l.bytes);
  room : l.n + (length l.bytes - l.at) ≤ length l.codes;
  codes : take l.n l.codes ++ chars (drop l.at l.bytes) ≡ chars l.text;
}

abbrev pub decreases-loop-at : goal.decreases-loop-at
decreases-loop-at l = length l.bytes - l.at
