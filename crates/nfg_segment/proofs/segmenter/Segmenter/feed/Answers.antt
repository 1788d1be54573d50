use Rattle.std.proofs.Common.{◌++◌, ◌∙◌, sym, subst}
use Rattle.nfg_segment.specs.Follows.{Follows}
use Rattle.nfg_segment.proofs.Stable.{stable-len}
use Rattle.nfg_segment.proofs.Steps.{settled}
use Rattle.nfg_segment.proofs.segmenter.Segmenter.feed.Goals as goal

pub returns-in-Ok-clause-fed : goal.returns-in-Ok-clause-fed
returns-in-Ok-clause-fed g c fed given f =
    let here = subst (λ h. Follows h fed given) (sym (c.mark.ensures.now ∙ c.self.view_is)) f in
    let all = c.in-Ok.ensures.follows fed given here in
    record {
      more = all.0;
      appended = all.2;
      follows = all.1;
      settled = settled c.take.new.self.now (fed ++ c.args.t.now) (given ++ all.0) all.1.tracks;
      stable = stable-len (fed ++ c.args.t.now) (given ++ all.0) all.1.stable;
    }
