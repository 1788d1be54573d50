-- the first place of the first strand has all graphemes before it
use Rattle.std.proofs.Common.{◌≡◌, ◌-◌, ◌<◌, length, ap, sym, ◌∙◌, arith, rules}
use Rattle.nfg_strand.specs.Strand.{left_of}
use Rattle.nfg_strand.proofs.Places.{left_of-none, graphemes-none, left_of-start}
use Rattle.nfg_strand.proofs.place.Place.new.Goals as goal
use Rattle.nfg_strand.proofs.place.Place.new.Goals.{then-is_empty, else-is_empty}

pub returns : goal.returns
returns c =
    elim c.if-is_empty.branch [
      | then-is_empty w ↦
          let none : length c.args.strands.now ≡ 0 = search rules in
          left_of-none c.args.strands.now 0 c.if-is_empty.later none ∙ sym (graphemes-none c.args.strands.now none)
      | else-is_empty w ↦
          let some : 0 < length c.args.strands.now = search rules in
          let times : c.if-is_empty.later ≡ w.index-strands-0.result.times - 1 = grind arith in
          let repeated : 0 < w.index-strands-0.result.times = grind arith in
          ap (left_of c.args.strands.now 0) times
          ∙ left_of-start c.args.strands.now w.index-strands-0.result some w.index-strands-0.is repeated
    ]
