use Rattle.std.proofs.Common.{◌≡◌, ◌≤◌, ◌<◌, ◌⊎◌, ◌-◌, ℕ, List, [], ◌++◌, length, take, drop}
use Rattle.std.specs.Prelude.{Ok, Err}
use Rattle.nfg_decode.specs.Utf16.{decode_utf16}
use Rattle.nfg_decode.proofs.utf16.append_units.Given as goal

abbrev pub invariant-loop-run : goal.invariant-loop-run
invariant-loop-run l = record {
  within : l.at ≤ length l.bytes;
  room : 0 < length l.codes;
  run_within : l.run.bytes ≤ length (drop l.at l.bytes);
  run_codes : l.run.codes ≤ length l.codes;
  text : (t : List ℕ) × (decode_utf16 l.order (take l.at l.bytes) ≡ Ok t) × (l.into ≡ l.initial.into ++ t);
  run_text : decode_utf16 l.order (take l.run.bytes (drop l.at l.bytes)) ≡ Ok (take l.run.codes l.codes);
  none : l.run.bytes ≡ 0 → (drop l.at l.bytes ≡ []) ⊎ (decode_utf16 l.order (drop l.at l.bytes) ≡ Err 0);
}

abbrev pub decreases-loop-run : goal.decreases-loop-run
decreases-loop-run l = length l.bytes - l.at
