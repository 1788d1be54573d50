use Rattle.std.proofs.Common.{◌≡◌, ◌∙◌, IfOk, negsuc, map, ap, sym, subst}
use Rattle.std.proofs.lemmas.Bool.Decides.{Decides-int_eq}
use Rattle.nfg_strand.specs.Pieces.{flat_piece}
use Rattle.nfg_stream.specs.Numbers.{with_number}
use Rattle.nfg_stream.proofs.CollectedLemmas.{back}
use Rattle.nfg_stream.proofs.NumbersLemmas.{with-same}
use Rattle.nfg_stream.proofs.numbering.string_with.Goals as goal

pub returns-then-is_line_end-clause-graphemes : goal.returns-then-is_line_end-clause-graphemes
returns-then-is_line_end-clause-graphemes c =
    let ns = c.args.numbers.items in
    let number : c.args.number ≡ negsuc 0 = sym (back c.args.number c.ranges.number.sfits) ∙ (Decides-int_eq _ (negsuc 0)).0 (sym c.is_line_end.ensures ∙ c.if-is_line_end.true) in
    let same = ap (λ n. map (with_number n) ns) number ∙ with-same ns c.requires in
    subst (λ l. IfOk c.narrow_string.result (λ made. made.graphemes ≡ l)) (sym same) c.narrow_string.ensures.graphemes

pub returns-then-is_line_end-clause-pieces : goal.returns-then-is_line_end-clause-pieces
returns-then-is_line_end-clause-pieces c =
    let ns = c.args.numbers.items in
    let number : c.args.number ≡ negsuc 0 = sym (back c.args.number c.ranges.number.sfits) ∙ (Decides-int_eq _ (negsuc 0)).0 (sym c.is_line_end.ensures ∙ c.if-is_line_end.true) in
    let same = ap (λ n. map (with_number n) ns) number ∙ with-same ns c.requires in
    subst (λ l. IfOk c.narrow_string.result (λ made. made.pieces ≡ flat_piece l)) (sym same) c.narrow_string.ensures.pieces
