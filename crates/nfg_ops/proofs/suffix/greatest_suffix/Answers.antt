-- the scan ends with the needle
use Rattle.std.proofs.Common.{length, arith}
use Rattle.nfg_ops.specs.Cuts.{number_at}
use Rattle.nfg_ops.specs.Precedes.{Precedes}
use Rattle.nfg_ops.proofs.Orders.{precedes-irrefl, precedes-trans}
use Rattle.nfg_ops.proofs.Suffixes.{scan-start, scan-end}
use Rattle.nfg_ops.proofs.suffix.greatest_suffix.Goals as goal

pub loop-scan-init : goal.loop-scan-init
loop-scan-init c = scan-start (Precedes c.args.is_turned) (precedes-irrefl c.args.is_turned) (precedes-trans c.args.is_turned)
    (number_at c.args.needle.now.graphemes) (length c.args.needle.now.graphemes) c.requires

pub returns : goal.returns
returns c =
    let scan = c.loop-scan.scan in
    let needle = c.args.needle.now.graphemes in
    scan-end (Precedes c.args.is_turned) (precedes-irrefl c.args.is_turned) (precedes-trans c.args.is_turned) (number_at needle) (length needle)
    scan.place scan.candidate scan.offset c.loop-scan.invariant (omega (arith, c.loop-scan-test.false, c.len-len.ensures.len))
