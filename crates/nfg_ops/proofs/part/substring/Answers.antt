-- the range is the part, whether or not the string ends first
use Rattle.std.proofs.Common.{◌≡◌, ◌≤◌, ◌+◌, length, min, slice_range, take, drop, sym, subst, ◌∙◌, ap, arith}
use Rattle.nfg_syn.specs.Represents.{Represents}
use Rattle.nfg_syn.specs.RepresentsLaws.{Represents-take, Represents-drop}
use Rattle.nfg_ops.proofs.Spelling.{part-range}
use Rattle.nfg_ops.proofs.part.substring.Goals as goal

pub returns-in-Ok-clause-represents : goal.returns-in-Ok-clause-represents
returns-in-Ok-clause-represents c = λ known list represents.
    let graphemes = c.args.a.now.graphemes in
    let start = c.args.start in
    let count = c.args.count in
    let inside : start ≤ length graphemes = omega (arith, c.if-start-len.false, c.len-len.ensures.len) in
    let end : start + c.min.result ≡ min (length graphemes) (start + count) = omega (arith, inside, c.min.ensures, c.len-len.ensures.len) in
    let range = c.in-Ok.ensures.graphemes ∙ ap (slice_range graphemes start) end ∙ part-range graphemes start count inside in
    subst (λ ns. Represents known ns (take count (drop start list))) (sym range)
    (Represents-take known count (drop start graphemes) (drop start list) (Represents-drop known start graphemes list represents))
