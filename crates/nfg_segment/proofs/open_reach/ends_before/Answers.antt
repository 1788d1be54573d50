use Rattle.std.proofs.Common.{◌&&◌, ◌∷◌, [], true, ◌∙◌, reverse, sym, ap, get_or}
use Rattle.nfg_text.specs.Grapheme.{is_grapheme_break}
use Rattle.nfg_segment.proofs.Reaching.{some-length}
use Rattle.nfg_segment.proofs.open_reach.ends_before.Goals as goal

pub returns-then-not-is_some-clause-ends : goal.returns-then-not-is_some-clause-ends
returns-then-not-is_some-clause-ends c cluster reaches =
    let none = sym (c.is_some.ensures.some cluster reaches) ∙ c.if-not-is_some.true in
    let next = get_or c.args.text.now c.args.at 0 in
    sym (ap (λ b. b && is_grapheme_break true (reverse cluster) (next ∷ [])) none)

pub returns-clause-ends : goal.returns-clause-ends
returns-clause-ends c cluster reaches =
    let some = sym (c.is_some.ensures.some cluster reaches) ∙ c.if-not-is_some.false in
    let next = get_or c.args.text.now c.args.at 0 in
    c.breaks_before.ensures (reverse cluster) [] next reaches.memory c.requires.kind (some-length cluster some)
    ∙ sym (ap (λ b. b && is_grapheme_break true (reverse cluster) (next ∷ [])) some)
