use Rattle.std.proofs.Common.{◌<◌, length, ap, arith}
use Rattle.std.proofs.lemmas.List.{length-map}
use Rattle.nfg_segment.specs.Kept.{head_of}
use Rattle.nfg_segment.proofs.KeptLemmas.{AreCounted-at}
use Rattle.nfg_segment.proofs.clusters.Clusters.get.Goals as goal

pub get-requires : goal.get-requires
get-requires c =
    let s = c.self.inside in
    let size = ap (λ v. length v.heads) c.self.view_is in
    let within : c.args.k < length s.numbers.items = omega (arith, c.requires, size, length-map s.numbers.items (head_of s.longer)) in
    let known = AreCounted-at (length s.longer) s.numbers.items c.args.k c.index-number.result.now c.self.invariant within in
    omega (arith, known, c.index-number.ensures, c.if-number-lt-LONGER.false)
