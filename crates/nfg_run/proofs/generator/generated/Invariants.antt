use Rattle.std.proofs.Common.{◌≡◌, ◌<◌, ◌≤◌, ◌+◌, ◌*◌, ◌^◌, ◌++◌, flat_map, length}
use Rattle.nfg_decode.specs.declared.encoding.Encoding.TheVariants.{Utf8, Utf16}
use Rattle.nfg_decode.specs.declared.utf16.ByteOrder.TheVariants.{Big}
use Rattle.nfg_decode.specs.Encoding.{encode_code}
use Rattle.nfg_decode.specs.Utf16.{mark}
use Rattle.nfg_run.specs.Generator.{number_after, first_text, second_text}
use Rattle.nfg_run.proofs.generator.generated.Given as goal

abbrev pub invariant-drawing : goal.invariant-drawing
invariant-drawing l = record {
  number : l.number ≡ number_after l.seed l.k;
  within : l.number < 2 ^ 31;
  first : l.a ≡ flat_map (encode_code Utf8) (first_text l.seed l.k);
  second : l.b ≡ mark Big ++ flat_map (encode_code Utf16) (second_text l.seed l.k);
  first_within : length l.a ≤ 18 * l.k;
  second_within : length l.b ≤ 2 + 18 * l.k;
}
