use Rattle.nfg_work.proofs.Hexadecimals.{put_one, put_two, put_three, put_four}
use Rattle.nfg_work.proofs.hexadecimal.put_digits.Goals as goal

pub returns-then-number-lt16-clause-digits : goal.returns-then-number-lt16-clause-digits
returns-then-number-lt16-clause-digits c = put_one c.args.number _ c.args.out.now c.requires c.if-number-lt16.true c.digit.ensures

pub returns-then-number-lt256-clause-digits : goal.returns-then-number-lt256-clause-digits
returns-then-number-lt256-clause-digits c =
    put_two c.args.number _ _ c.args.out.now c.requires c.if-number-lt16.false c.if-number-lt256.true c.digit-then-number-lt256.ensures c.digit-then-number-lt256-2.ensures

pub returns-then-number-lt4096-clause-digits : goal.returns-then-number-lt4096-clause-digits
returns-then-number-lt4096-clause-digits c =
    put_three c.args.number _ _ _ c.args.out.now c.requires c.if-number-lt256.false c.if-number-lt4096.true
    c.digit-then-number-lt4096.ensures c.digit-then-number-lt4096-2.ensures c.digit-then-number-lt4096-3.ensures

pub returns-then-number-lt65536-clause-digits : goal.returns-then-number-lt65536-clause-digits
returns-then-number-lt65536-clause-digits c =
    put_four c.args.number _ _ _ _ c.args.out.now c.requires c.if-number-lt4096.false c.if-number-lt65536.true
    c.digit-then-number-lt65536.ensures c.digit-then-number-lt65536-2.ensures c.digit-then-number-lt65536-3.ensures c.digit-then-number-lt65536-4.ensures
