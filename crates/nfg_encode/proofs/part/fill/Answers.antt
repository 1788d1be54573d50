use Rattle.nfg_encode.proofs.PartLemmas.{small_below, is_latin1, is_ascii, is_big, is_little}
use Rattle.nfg_encode.proofs.part.fill.Goals as goal

pub returns-in-Latin1-clause-bytes : goal.returns-in-Latin1-clause-bytes
returns-in-Latin1-clause-bytes c = is_latin1 c.args.e c.args.codes.now _ c.in-Latin1.is c.fill_bytes.ensures.bytes

pub returns-then-greatest-lt128-clause-bytes : goal.returns-then-greatest-lt128-clause-bytes
returns-then-greatest-lt128-clause-bytes c =
    is_ascii c.args.e c.args.codes.now _ c.in-Utf8.is (small_below _ 128 c.args.codes.now c.greatest-greatest.ensures c.if-greatest-lt128.true)
    c.fill_bytes-then-greatest-lt128.ensures.bytes

pub returns-then-greatest-lt65536-clause-bytes : goal.returns-then-greatest-lt65536-clause-bytes
returns-then-greatest-lt65536-clause-bytes c =
    is_big c.args.e c.args.codes.now _ c.in-Utf16.is (small_below _ 65536 c.args.codes.now c.greatest-greatest.ensures c.if-greatest-lt65536.true)
    c.fill_units_big.ensures.bytes

pub returns-then-greatest-lt65536-2-clause-bytes : goal.returns-then-greatest-lt65536-2-clause-bytes
returns-then-greatest-lt65536-2-clause-bytes c =
    is_little c.args.e c.args.codes.now _ c.in-Utf16Le.is (small_below _ 65536 c.args.codes.now c.greatest-greatest.ensures c.if-greatest-lt65536-2.true)
    c.fill_units_little.ensures.bytes
