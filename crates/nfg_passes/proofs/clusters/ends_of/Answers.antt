use Rattle.std.proofs.Common.{◌≡◌, ◌+◌, ◌++◌, ◌==◌, [], ◌∷◌, length, take, drop, get_or, ap, sym, ◌∙◌, arith, if◌then◌else◌}
use Rattle.std.proofs.lemmas.List.{drop_all, drop_more, take_more_set, length-set}
use Rattle.nfg_passes.specs.Marks.{ends_from_marks, ends_of_marks}
use Rattle.nfg_passes.proofs.Ends.{byte-le, counts, not_empty, ends_step, ends_from_marks-cons, ends_from_marks-nil}
use Rattle.nfg_passes.proofs.clusters.ends_of.Goals as goal

pub loop-at-preserved : goal.loop-at-preserved
loop-at-preserved c =
    let marks = c.args.marks.now in
    let ends = c.loop-at.ends in
    let count = c.loop-at.count in
    let at = c.loop-at.at in
    let so_far = c.loop-at.invariant in
    let broken = get_or marks at 0 == 1 in
    let rest = ends_from_marks (at + 1) (drop (at + 1) marks) in
    let here : ends_from_marks at (drop at marks) ≡ (if broken then at ∷ rest else rest) =
    ap (ends_from_marks at) (drop_more marks at 0 c.loop-at-test.true) ∙ ends_from_marks-cons at (get_or marks at 0) (drop (at + 1) marks) in
    record {
      room = length-set ends count at ∙ so_far.room;
      below = omega (arith, so_far.below, byte-le broken);
      written =
          ends_step ends rest (ends_of_marks marks) count _ at broken (omega (arith, so_far.below, so_far.room, c.requires, c.loop-at-test.true)) (counts count broken)
          (ap (λ l. take count ends ++ l) (sym here) ∙ so_far.written);
    }

pub returns-clause-ends : goal.returns-clause-ends
returns-clause-ends c =
    let marks = c.args.marks.now in
    let ends = c.loop-at.ends in
    let count = c.loop-at.count in
    let at = c.loop-at.at in
    let so_far = c.loop-at.invariant in
    let some = not_empty (length marks) (sym c.is_empty.ensures ∙ c.if-is_empty.false) in
    let last : at ≡ length marks = omega (arith, some, c.loop-at-test.false) in
    let gone : drop at marks ≡ [] = drop_all at marks (omega (arith, last)) in
    take_more_set ends count (length marks) (omega (arith, so_far.below, so_far.room, c.requires, last))
    ∙ ap (λ n. take count ends ++ n ∷ []) (sym last)
    ∙ ap (λ l. take count ends ++ l) (sym (ap (ends_from_marks at) gone ∙ ends_from_marks-nil at))
    ∙ so_far.written
