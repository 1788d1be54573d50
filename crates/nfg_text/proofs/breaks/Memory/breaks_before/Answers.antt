use Rattle.std.proofs.Common.{◌∙◌}
use Rattle.nfg_text.proofs.Memories.{decided}
use Rattle.nfg_text.proofs.breaks.Memory.breaks_before.Goals as goal

pub returns : goal.returns
returns c before after x m k some =
    decided c.args.self before after x _ _ m some
    (λ a b left right. c.rule_between-rule.ensures a b left (c.class.ensures x k ∙ right)) (c.joins.ensures x k)
