use Rattle.std.proofs.Common.{◌≡◌, true, take, ap, ◌∙◌, arith}
use Rattle.std.proofs.lemmas.Grind.{common_steps}
use Rattle.std.specs.Str.{all_scalars}
use Rattle.nfg_text.proofs.Scalars.{scalars-part}
use Rattle.nfg_text.proofs.normal.nfc_of.Goals as goal

pub extend_composed-requires : goal.extend_composed-requires
extend_composed-requires c = scalars-part c.args.t.now c.kept_len-kept.result _ c.requires

pub returns-clause-text : goal.returns-clause-text
returns-clause-text c =
    let front : all_scalars (take c.kept_len-kept.result c.args.t.now) ≡ true = scalars-part c.args.t.now 0 c.kept_len-kept.result c.requires in
    let e : c.extend_from_slice.new.self.items ≡ take c.kept_len-kept.result c.args.t.now = grind (arith, common_steps) in
    ap all_scalars c.from_vec.ensures ∙ c.in_ok-extend_composed.ensures.text (ap all_scalars e ∙ front)
