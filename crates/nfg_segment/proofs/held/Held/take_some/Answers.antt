use Rattle.std.proofs.Common.{◌≡◌, ◌∙◌, ◌++◌, ◌+◌, ◌-◌, take, drop, refl, ap, subst, arith}
use Rattle.nfg_segment.specs.Follows.{Follows}
use Rattle.nfg_segment.proofs.TextLemmas.{IsText-take, IsText-drop, take-part}
use Rattle.nfg_segment.proofs.held.Held.take_some.Goals as goal

pub take_ended_lines-requires-clause-text : goal.take_ended_lines-requires-clause-text
take_ended_lines-requires-clause-text g c = IsText-take c.plain_lines_len-n.result c.args.text.now c.requires.text

pub take_ended_lines-requires-clause-line_end_text : goal.take_ended_lines-requires-clause-line_end_text
take_ended_lines-requires-clause-line_end_text g c =
    let n = c.plain_lines_len-n.result in IsText-take ((n + 2) - n) (drop n c.args.text.now) (IsText-drop n c.args.text.now c.requires.text)

pub take_lines-requires-clause-text : goal.take_lines-requires-clause-text
take_lines-requires-clause-text g c = IsText-take c.plain_lines_len-n.result c.args.text.now c.requires.text

pub returns-then-begins_with_line_end-clause-follows : goal.returns-then-begins_with_line_end-clause-follows
returns-then-begins_with_line_end-clause-follows g c fed given f =
    let n = c.plain_lines_len-n.result in
    let t = c.args.text.now in
    let size : (n + 2) - n ≡ 2 = omega arith in
    let parts : take n t ++ take ((n + 2) - n) (drop n t) ≡ take (n + 2) t = ap (λ k. take n t ++ take k (drop n t)) size ∙ take-part t n 2 in
    let step = c.in_ok-take_ended_lines.ensures.follows fed given (c.if-is_apart.ensures.apart refl fed given f) in
    (step.0, subst (λ l. Follows c.take_ended_lines.new.self.now (fed ++ l) (given ++ step.0)) parts step.1, step.2)

pub returns-then-n-gt0-clause-follows : goal.returns-then-n-gt0-clause-follows
returns-then-n-gt0-clause-follows g c fed given f = c.in_ok-take_lines.ensures.follows fed given (c.if-is_apart.ensures.apart refl fed given f)
