use Rattle.std.proofs.Common.{ap, ap₂, ◌||◌, ◌&&◌}
use Rattle.nfg_text.proofs.breaks.Memory.joins.Goals as goal

pub returns : goal.returns
returns c code kind =
    ap₂ ◌||◌
    (ap₂ ◌||◌ (ap (λ b. c.args.self.after_linker && b) (c.is_consonant.ensures code kind)) (ap (λ b. c.args.self.after_joiner && b) (c.is_pictograph.ensures code kind)))
    (ap (λ b. c.args.self.half_flag && b) (c.is_regional.ensures code kind))
