use Rattle.std.proofs.Common.{◌≡◌, ◌*◌, take}
use Rattle.std.specs.Prelude.{flat_map}
use Rattle.nfg_decode.specs.declared.utf16.ByteOrder.TheVariants.{Big}
use Rattle.nfg_decode.specs.Utf16.{unit_bytes}
use Rattle.nfg_encode.proofs.part.fill_units_big.Given as goal

abbrev pub invariant-filling : goal.invariant-filling
invariant-filling l = take (2 * l.k) l.out ≡ flat_map (unit_bytes Big) (take l.k l.codes)
