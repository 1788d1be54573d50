use Rattle.std.proofs.Common.{◌∙◌, sym, ap, arith, ◌∷◌, []}
use Rattle.nfg_decode.specs.Decoded.{after_text}
use Rattle.nfg_decode.specs.Utf16.{decode_utf16}
use Rattle.nfg_decode.proofs.Utf16Laws.{pair_at, none_in_short, lone_found, cut_found, apart_found}
use Rattle.nfg_decode.proofs.utf16.first_code.Goals as goal

pub returns-then-is_pair-clause-found : goal.returns-then-is_pair-clause-found
returns-then-is_pair-clause-found c ys =
    let high = c.unit_of-high in
    let low = c.unit_of-low in
    pair_at c.args.order c.args.bytes.now high.result low.result (omega arith) high.ensures low.ensures (sym c.is_pair.ensures ∙ c.if-is_pair.true) ys
    ∙ ap (λ u. after_text (u ∷ []) 4 (decode_utf16 c.args.order ys)) (sym c.pair_code.ensures)

pub returns-in_default-clause-none : goal.returns-in_default-clause-none
returns-in_default-clause-none c = none_in_short c.args.order c.args.bytes.now (omega arith)

pub returns-in-len2-up-clause-found : goal.returns-in-len2-up-clause-found
returns-in-len2-up-clause-found c =
    lone_found c.args.order c.args.bytes.now c.unit_of.result c.lone_code.result (omega arith) c.unit_of.ensures c.lone_code.ensures

pub returns-in-len2-up-clause-none : goal.returns-in-len2-up-clause-none
returns-in-len2-up-clause-none c =
    cut_found c.args.order c.args.bytes.now c.unit_of.result c.lone_code.result (omega arith) (omega arith) c.unit_of.ensures c.lone_code.ensures

pub returns-else-is_pair-clause-found : goal.returns-else-is_pair-clause-found
returns-else-is_pair-clause-found c =
    lone_found c.args.order c.args.bytes.now c.unit_of-high.result c.lone_code-in-len4-up.result (omega arith) c.unit_of-high.ensures c.lone_code-in-len4-up.ensures

pub returns-else-is_pair-clause-none : goal.returns-else-is_pair-clause-none
returns-else-is_pair-clause-none c =
    apart_found c.args.order c.args.bytes.now c.unit_of-high.result c.unit_of-low.result c.lone_code-in-len4-up.result (omega arith)
    c.unit_of-high.ensures c.unit_of-low.ensures (sym c.is_pair.ensures ∙ c.if-is_pair.false) c.lone_code-in-len4-up.ensures
