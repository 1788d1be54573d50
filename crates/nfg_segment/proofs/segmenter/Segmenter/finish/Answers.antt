use Rattle.std.proofs.Common.{◌∙◌, sym, subst}
use Rattle.nfg_segment.specs.Follows.{Follows}
use Rattle.nfg_segment.proofs.segmenter.Segmenter.finish.Goals as goal

pub returns-in-Ok-clause-finished : goal.returns-in-Ok-clause-finished
returns-in-Ok-clause-finished g c fed given f =
    let here = subst (λ h. Follows h fed given) (sym (c.mark.ensures.now ∙ c.self.view_is)) f in
    let all = c.in-Ok.ensures.ended fed given here.tracks in
    record { more = all.0; appended = all.3; whole = all.1; as_new = all.2 }
