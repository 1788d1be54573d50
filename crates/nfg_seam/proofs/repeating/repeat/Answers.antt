use Rattle.std.proofs.Common.{◌<◌, ◌≤◌, ◌*◌, ◌∙◌, length, subst, refl, arith}
use Rattle.std.proofs.lemmas.Bool.Decides.{nat_tests}
use Rattle.nfg_text.specs.Operations.{repetition}
use Rattle.nfg_text.specs.Graphemes.{IsInNfg}
use Rattle.nfg_syn.specs.RepresentsLaws.{Represents-clusters, Represents-grows, Represents-length}
use Rattle.nfg_syn.specs.KnownLaws.{IsWithin-same, IsWithin-same_back}
use Rattle.nfg_syn.specs.SeenLaws.{Keeps-trans}
use Rattle.nfg_seam.proofs.RepeatSeam.{joined-from}
use Rattle.nfg_seam.specs.ConcatPieces.{repetition_pieces}
use Rattle.nfg_seam.specs.Made.{length_limit}
use Rattle.nfg_seam.proofs.RepeatMade.{few_joined}
use Rattle.nfg_seam.proofs.repeating.repeat.Goals as goal

pub returns-then-passes_limit-clause-repeated : goal.returns-then-passes_limit-clause-repeated
returns-then-passes_limit-clause-repeated g c list are =
    let old = (g.T.Synthetics.seen c.args.pass.now).known in
    let more : length_limit < c.len.result * c.args.n = grind (arith, nat_tests, c.passes_limit.ensures, c.if-passes_limit.true) in
    (subst (λ k. length_limit < k * c.args.n) (c.len.ensures.len ∙ Represents-length old c.args.a.now.graphemes list are) more, λ k. refl)

pub returns-then-n-lt2-clause-repeated : goal.returns-then-n-lt2-clause-repeated
returns-then-n-lt2-clause-repeated g c list are =
    let old = g.T.Synthetics.seen c.args.pass.now in
    let ns = c.args.a.now.graphemes in
    let within : c.len.result * c.args.n ≤ length_limit = grind (arith, nat_tests, c.passes_limit.ensures, c.if-passes_limit.false) in
    few_joined (g.T.Synthetics.size c.args.table.now) old (g.met.T.Synthetics.knows c.args.table.now c.args.pass.now c.requires.table)
    list ns c.args.a.now.pieces c.args.n c.repeat_once.result c.if-n-lt2.true
    (subst (λ k. k * c.args.n ≤ length_limit) (c.len.ensures.len ∙ Represents-length old.known ns list are) within)
    (subst IsInNfg (Represents-clusters old.known ns c.requires.graphemes.0 list c.requires.graphemes.1 are) c.requires.graphemes.2)
    are c.repeat_once.ensures.graphemes c.repeat_once.ensures.pieces c.repeat_once.ensures.refused

pub repeat_more-requires-clause-seam : goal.repeat_more-requires-clause-seam
repeat_more-requires-clause-seam g c κs within list are =
    let old = (g.T.Synthetics.seen c.args.pass.now).known in
    let mid = (g.T.Synthetics.seen c.seam_of.new.pass).known in
    let ns = c.args.a.now.graphemes in
    let before = Represents-grows mid old (IsWithin-same_back old mid c.in-Ok.ensures.known) ns list are in
    c.in-Ok.ensures.found list list before before

pub returns-in-Ok-clause-keeps : goal.returns-in-Ok-clause-keeps
returns-in-Ok-clause-keeps g c = Keeps-trans _ _ _ c.in-Ok.ensures.keeps c.repeat_more.ensures.keeps

pub returns-in-Ok-clause-repeated : goal.returns-in-Ok-clause-repeated
returns-in-Ok-clause-repeated g c list are =
    let old = g.T.Synthetics.seen c.args.pass.now in
    let mid = g.T.Synthetics.seen c.seam_of.new.pass in
    joined-from (length list * c.args.n) (repetition list c.args.n) (repetition_pieces list c.args.a.now.pieces c.args.n) old mid
    (g.T.Synthetics.seen c.repeat_more.new.pass) c.repeat_more.result c.in-Ok.ensures.known
    (c.repeat_more.ensures.repeated list
    (Represents-grows old.known mid.known (IsWithin-same old.known mid.known c.in-Ok.ensures.known) c.args.a.now.graphemes list are))
