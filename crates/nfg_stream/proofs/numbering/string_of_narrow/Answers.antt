use Rattle.std.proofs.Common.{◌≡◌, ◌≤◌, ◌∙◌, Ok, Err, length, map, ap, sym, subst, int_eq, negsuc}
use Rattle.std.specs.List.{position_or_len}
use Rattle.nfg_stream.specs.Collected.{kept_as}
use Rattle.nfg_stream.specs.Numbering.{AreNumbered, HasNumber, IsCluster}
use Rattle.nfg_stream.specs.Numbers.{with_number}
use Rattle.nfg_stream.proofs.CollectedLemmas.{back}
use Rattle.nfg_stream.proofs.NarrowNumbers.{HasLonger, plain-narrow, longer-counted, longer-cluster, longer-short, Numbered-with, refused-narrow}
use Rattle.nfg_stream.proofs.Numbered.{Numbered-clear, made-answer}
use Rattle.nfg_stream.proofs.numbering.string_of_narrow.Goals as goal

pub returns-then-first-len-clause-made : goal.returns-then-first-len-clause-made
returns-then-first-len-clause-made g c =
    let ns = c.args.numbers.items in
    let longer = c.args.longer.now in
    let seen = g.T.Synthetics.seen c.args.pass.now in
    let none : position_or_len (λ y. int_eq y (negsuc 0)) ns ≡ length ns =
    ap (position_or_len (λ y. int_eq y (negsuc 0))) (sym c.as_slice.ensures.value) ∙ sym c.first_equal8-first.ensures
    ∙ c.if-first-len.true ∙ c.len.ensures ∙ c.args.numbers.ok.0
    in
    made-answer (map (kept_as longer) ns) seen seen ns c.narrow_string.result c.requires.short
    (Numbered-clear longer seen.known ns (plain-narrow ns c.requires.narrow none) c.requires.clusters)
    c.narrow_string.ensures.graphemes c.narrow_string.ensures.pieces c.narrow_string.ensures.refused

pub get-requires : goal.get-requires
get-requires g c =
    let ns = c.args.numbers.items in
    let some : HasLonger ns =
    λ none. c.if-first-len.false (c.first_equal8-first.ensures ∙ ap (position_or_len (λ y. int_eq y (negsuc 0))) c.as_slice.ensures.value ∙ none ∙ sym c.args.numbers.ok.0 ∙ sym c.len.ensures)
    in
    longer-counted (length c.args.longer.now) ns some c.requires.narrow c.requires.counted

pub number_of-requires-clause-cluster : goal.number_of-requires-clause-cluster
number_of-requires-clause-cluster g c κs within =
    let ns = c.args.numbers.items in
    let some : HasLonger ns =
    λ none. c.if-first-len.false (c.first_equal8-first.ensures ∙ ap (position_or_len (λ y. int_eq y (negsuc 0))) c.as_slice.ensures.value ∙ none ∙ sym c.args.numbers.ok.0 ∙ sym c.len.ensures)
    in
    subst IsCluster (sym c.get.ensures) (longer-cluster c.args.longer.now ns some c.requires.narrow c.requires.clusters)

pub number_of-requires-clause-short : goal.number_of-requires-clause-short
number_of-requires-clause-short g c κs within =
    let ns = c.args.numbers.items in
    let some : HasLonger ns =
    λ none. c.if-first-len.false (c.first_equal8-first.ensures ∙ ap (position_or_len (λ y. int_eq y (negsuc 0))) c.as_slice.ensures.value ∙ none ∙ sym c.args.numbers.ok.0 ∙ sym c.len.ensures)
    in
    subst (λ t. length t ≤ 1024) (sym c.get.ensures) (longer-short c.args.longer.now ns some c.requires.narrow c.requires.short)

pub returns-in-Ok-clause-made : goal.returns-in-Ok-clause-made
returns-in-Ok-clause-made g c =
    let ns = c.args.numbers.items in
    let longer = c.args.longer.now in
    let old = g.T.Synthetics.seen c.args.pass.now in
    let new = g.T.Synthetics.seen c.number_of.new.pass in
    let n = c.in-Ok.number in
    let some : HasLonger ns =
    λ none. c.if-first-len.false (c.first_equal8-first.ensures ∙ ap (position_or_len (λ y. int_eq y (negsuc 0))) c.as_slice.ensures.value ∙ none ∙ sym c.args.numbers.ok.0 ∙ sym c.len.ensures)
    in
    let number = subst (λ t. HasNumber t old new (Ok n)) c.get.ensures c.in-Ok.ensures.number in
    made-answer (map (kept_as longer) ns) old new _ c.string_with.result c.requires.short
    (subst (λ m. AreNumbered (map (kept_as longer) ns) old.known new.known (map (with_number m) ns)) (sym (back n (rw c.in-Ok.is at c.number_of.type_inv).1.1.1.1.0.1))
    (Numbered-with longer old new n ns some c.requires.narrow c.requires.clusters number))
    c.string_with.ensures.graphemes c.string_with.ensures.pieces c.string_with.ensures.refused

pub returns-in-Err-clause-made : goal.returns-in-Err-clause-made
returns-in-Err-clause-made g c =
    let ns = c.args.numbers.items in
    let old = g.T.Synthetics.seen c.args.pass.now in
    let new = g.T.Synthetics.seen c.number_of.new.pass in
    let some : HasLonger ns =
    λ none. c.if-first-len.false (c.first_equal8-first.ensures ∙ ap (position_or_len (λ y. int_eq y (negsuc 0))) c.as_slice.ensures.value ∙ none ∙ sym c.args.numbers.ok.0 ∙ sym c.len.ensures)
    in
    refused-narrow c.args.longer.now old new ns c.in-Err.error some c.requires.narrow c.requires.clusters c.requires.short
    (subst (λ t. HasNumber t old new (Err c.in-Err.error)) c.get.ensures c.in-Err.ensures.number)
