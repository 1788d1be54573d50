use Rattle.std.proofs.Common.{negsuc, pos, w8, w32, of_z, to_z, int_eq, ap, sym, ◌∙◌}
use Rattle.std.proofs.lemmas.Int.{to_z-of_z}
use Rattle.std.specs.List.{position_or_len}
use Rattle.nfg_block.proofs.FindLemmas.{between_fits, high_is_wide, low_is_wide, wide_is_not_found}
use Rattle.nfg_block.proofs.block.find_narrow.Goals as goal
use lib.Signed.{lt_z}

pub returns-then-x-ltminus1 : goal.returns-then-x-ltminus1
returns-then-x-ltminus1 c =
    let low = ap (λ x. lt_z x (negsuc 0)) (sym (to_z-of_z w32 c.args.x c.ranges.x)) ∙ c.if-x-ltminus1.true in
    wide_is_not_found c.args.x c.args.cells.now (low_is_wide c.args.x low) c.requires

pub returns-then-x-gt127 : goal.returns-then-x-gt127
returns-then-x-gt127 c =
    let high = ap (lt_z (pos 127)) (sym (to_z-of_z w32 c.args.x c.ranges.x)) ∙ c.if-x-gt127.true in
    wide_is_not_found c.args.x c.args.cells.now (high_is_wide c.args.x high) c.requires

pub returns : goal.returns
returns c =
    let as_is = to_z-of_z w32 c.args.x c.ranges.x in
    let low = ap (λ x. lt_z x (negsuc 0)) (sym as_is) ∙ c.if-x-ltminus1.false in
    let high = ap (lt_z (pos 127)) (sym as_is) ∙ c.if-x-gt127.false in
    c.first_equal8.ensures
    ∙ ap (λ x. position_or_len (λ y. int_eq y x) c.args.cells.now) (ap (λ x. to_z w8 (of_z w8 x)) as_is ∙ to_z-of_z w8 c.args.x (between_fits c.args.x low high))
