use Rattle.std.proofs.Common.{◌∙◌, sym, arith}
use Rattle.std.proofs.lemmas.Str.{encode_ascii}
use Rattle.nfg_encode.proofs.CodeLemmas.{set_one, set_two, set_three, set_four, utf8_two, utf8_three, utf8_four}
use Rattle.nfg_encode.proofs.code.put_utf8.Goals as goal

pub returns-then-code-lt128-clause-bytes : goal.returns-then-code-lt128-clause-bytes
returns-then-code-lt128-clause-bytes c =
    set_one c.args.out.now _ c.requires.room ∙ sym (encode_ascii c.args.code (omega arith))

pub returns-then-code-lt2048-clause-bytes : goal.returns-then-code-lt2048-clause-bytes
returns-then-code-lt2048-clause-bytes c =
    set_two c.args.out.now _ _ c.requires.room ∙ sym (utf8_two c.args.code (omega arith) (omega arith))

pub returns-then-code-lt65536-clause-bytes : goal.returns-then-code-lt65536-clause-bytes
returns-then-code-lt65536-clause-bytes c =
    set_three c.args.out.now _ _ _ c.requires.room ∙ sym (utf8_three c.args.code (omega arith) (omega arith))

pub returns-clause-bytes : goal.returns-clause-bytes
returns-clause-bytes c =
    set_four c.args.out.now _ _ _ _ c.requires.room ∙ sym (utf8_four c.args.code (omega arith))
