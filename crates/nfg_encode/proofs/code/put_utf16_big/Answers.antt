use Rattle.std.proofs.Common.{◌∙◌, sym, ap, arith}
use Rattle.std.specs.Prelude.{flat_map}
use Rattle.nfg_decode.specs.declared.utf16.ByteOrder.TheVariants.{Big}
use Rattle.nfg_decode.specs.Utf16.{unit_bytes}
use Rattle.nfg_encode.proofs.CodeLemmas.{set_two, set_four, utf16_one, utf16_two}
use Rattle.nfg_encode.proofs.code.put_utf16_big.Goals as goal

pub returns-then-code-lt65536-clause-bytes : goal.returns-then-code-lt65536-clause-bytes
returns-then-code-lt65536-clause-bytes c =
    set_two c.args.out.now _ _ c.requires.room ∙ ap (flat_map (unit_bytes Big)) (sym (utf16_one c.args.code (omega arith)))

pub returns-clause-bytes : goal.returns-clause-bytes
returns-clause-bytes c =
    set_four c.args.out.now _ _ _ _ c.requires.room ∙ ap (flat_map (unit_bytes Big)) (sym (utf16_two c.args.code (omega arith)))
