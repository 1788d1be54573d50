-- the comparison decides how the scan goes on
use Rattle.std.proofs.Common.{◌≡◌, ◌+◌, ◌-◌, pos, length, inl, inr, rules, w32, to_z, of_z, ap, sym, subst, ◌∙◌, arith}
use Rattle.std.proofs.lemmas.Bool.{cases_lt, cond-true, cond-false, lt-ltb, le-ltb}
use Rattle.std.proofs.lemmas.Option.{get_or_from_slice_get}
use Rattle.nfg_ops.specs.Cuts.{number_at, IsScan}
use Rattle.nfg_ops.specs.Precedes.{Precedes}
use Rattle.nfg_ops.proofs.Orders.{precedes-irrefl, precedes-trans}
use Rattle.nfg_ops.proofs.Suffixes.{scan-equal, scan-less, scan-greater, scan-round}
use Rattle.nfg_ops.proofs.suffix.scanned.Goals as goal

pub overflow_add-scan : goal.overflow_add-scan
overflow_add-scan c = let ordered = c.requires.scan.ordered in omega (arith, ordered, c.requires.inside, c.requires.bounded)

pub overflow_add-scan-2 : goal.overflow_add-scan-2
overflow_add-scan-2 c = omega (arith, c.requires.inside, c.requires.bounded)

pub overflow_add-result : goal.overflow_add-result
overflow_add-result c = omega (arith, c.requires.inside, c.requires.bounded)

pub overflow_add-result-then-precedes : goal.overflow_add-result-then-precedes
overflow_add-result-then-precedes c = omega (arith, c.requires.inside, c.requires.bounded)

pub overflow_add-result-then-precedes-2 : goal.overflow_add-result-then-precedes-2
overflow_add-result-then-precedes-2 c = omega (arith, c.requires.inside, c.requires.bounded)

pub after_greater-requires-clause-bounded : goal.after_greater-requires-clause-bounded
after_greater-requires-clause-bounded c = omega (arith, c.requires.inside, c.requires.bounded)

pub returns-then-current-other-clause-scan : goal.returns-then-current-other-clause-scan
returns-then-current-other-clause-scan c =
    let scan = c.args.scan in
    let needle = c.args.needle.now.graphemes in
    let same_current : to_z w32 (of_z w32 c.get-current.result) ≡ c.get-current.result = search rules in
    let same_other : to_z w32 (of_z w32 c.get-other.result) ≡ c.get-other.result = search rules in
    let current : to_z w32 (of_z w32 c.get-current.result) ≡ number_at needle (scan.place + scan.offset) =
    same_current ∙ sym (get_or_from_slice_get needle (scan.place + scan.offset) c.get-current.result (pos 0) c.get-current.ensures) in
    let other : to_z w32 (of_z w32 c.get-other.result) ≡ number_at needle (scan.candidate + scan.offset) =
    same_other ∙ sym (get_or_from_slice_get needle (scan.candidate + scan.offset) c.get-other.result (pos 0) c.get-other.ensures) in
    scan-equal (Precedes c.args.is_turned) (precedes-irrefl c.args.is_turned) (precedes-trans c.args.is_turned) (number_at needle) (length needle)
    scan.place scan.candidate scan.offset c.requires.scan c.requires.inside (sym current ∙ ap (to_z w32) c.if-current-other.true ∙ other)

pub returns-then-precedes-clause-scan : goal.returns-then-precedes-clause-scan
returns-then-precedes-clause-scan c =
    let scan = c.args.scan in
    let needle = c.args.needle.now.graphemes in
    let turned = c.args.is_turned in
    let same_current : to_z w32 (of_z w32 c.get-current.result) ≡ c.get-current.result = search rules in
    let same_other : to_z w32 (of_z w32 c.get-other.result) ≡ c.get-other.result = search rules in
    let current : to_z w32 (of_z w32 c.get-current.result) ≡ number_at needle (scan.place + scan.offset) =
    same_current ∙ sym (get_or_from_slice_get needle (scan.place + scan.offset) c.get-current.result (pos 0) c.get-current.ensures) in
    let other : to_z w32 (of_z w32 c.get-other.result) ≡ number_at needle (scan.candidate + scan.offset) =
    same_other ∙ sym (get_or_from_slice_get needle (scan.candidate + scan.offset) c.get-other.result (pos 0) c.get-other.ensures) in
    let less : Precedes turned (number_at needle (scan.candidate + scan.offset)) (number_at needle (scan.place + scan.offset)) =
    subst (λ v. Precedes turned v (number_at needle (scan.place + scan.offset))) other
    (subst (Precedes turned (to_z w32 (of_z w32 c.get-other.result))) current (c.precedes.ensures.yes c.if-precedes.true)) in
    scan-less (Precedes turned) (precedes-irrefl turned) (precedes-trans turned) (number_at needle) (length needle)
    scan.place scan.candidate scan.offset c.requires.scan c.requires.inside less

pub returns-clause-scan : goal.returns-clause-scan
returns-clause-scan c =
    let scan = c.args.scan in
    let needle = c.args.needle.now.graphemes in
    let turned = c.args.is_turned in
    let same_current : to_z w32 (of_z w32 c.get-current.result) ≡ c.get-current.result = search rules in
    let same_other : to_z w32 (of_z w32 c.get-other.result) ≡ c.get-other.result = search rules in
    let current : to_z w32 (of_z w32 c.get-current.result) ≡ number_at needle (scan.place + scan.offset) =
    same_current ∙ sym (get_or_from_slice_get needle (scan.place + scan.offset) c.get-current.result (pos 0) c.get-current.ensures) in
    let other : to_z w32 (of_z w32 c.get-other.result) ≡ number_at needle (scan.candidate + scan.offset) =
    same_other ∙ sym (get_or_from_slice_get needle (scan.candidate + scan.offset) c.get-other.result (pos 0) c.get-other.ensures) in
    let more : Precedes turned (number_at needle (scan.place + scan.offset)) (number_at needle (scan.candidate + scan.offset)) =
    subst (λ v. Precedes turned v (number_at needle (scan.candidate + scan.offset))) current
    (subst (Precedes turned (to_z w32 (of_z w32 c.get-current.result))) other
    (c.precedes.ensures.no c.if-precedes.false (λ e. c.if-current-other.false (ap (of_z w32) (sym (sym same_other ∙ e ∙ same_current)))))) in
    elim (cases_lt scan.offset (scan.candidate - scan.place)) [
      | inl few ↦
          subst (IsScan (Precedes turned) (number_at needle) (length needle))
          (sym (c.after_greater.ensures ∙ cond-true _ _ _ (lt-ltb scan.offset (scan.candidate - scan.place) few)))
          (scan-greater (Precedes turned) (precedes-irrefl turned) (precedes-trans turned) (number_at needle) (length needle)
          scan.place scan.candidate scan.offset c.requires.scan c.requires.inside more few)
      | inr many ↦
          subst (IsScan (Precedes turned) (number_at needle) (length needle))
          (sym (c.after_greater.ensures ∙ cond-false _ _ _ (le-ltb scan.offset (scan.candidate - scan.place) many)))
          (scan-round (Precedes turned) (precedes-irrefl turned) (precedes-trans turned) (number_at needle) (length needle)
          scan.place scan.candidate scan.offset c.requires.scan c.requires.inside more many)
    ]
