use Rattle.std.proofs.Common.{◌∙◌, ap, ap₂, not, ◌&&◌, ◌||◌}
use Rattle.nfg_text.proofs.Memories.{linker-then, pictograph-then, joiner-then, flag-then}
use Rattle.nfg_text.proofs.breaks.Memory.then.Goals as goal

pub returns : goal.returns
returns c before x m k =
    record {
      class = c.class.ensures x k;
      linker = c.is_linked_after.ensures x k ∙ linker-then c.args.self before x m;
      pictograph =
          ap₂ (λ p e. p || (e && c.args.self.after_pictograph)) (c.is_pictograph.ensures x k) (c.is_extend.ensures x k)
          ∙ pictograph-then c.args.self before x m;
      joiner = ap (λ b. b && c.args.self.after_pictograph) (c.is_zwj.ensures x k) ∙ joiner-then c.args.self before x m;
      flag = ap (λ b. b && not c.args.self.half_flag) (c.is_regional.ensures x k) ∙ flag-then c.args.self before x m;
    }
