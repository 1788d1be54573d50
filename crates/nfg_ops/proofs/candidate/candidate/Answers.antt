-- what the search for one number says
use Rattle.std.proofs.Common.{rules, ◌≡◌, w32, to_z, of_z, pos, sym, ◌∙◌, arith}
use Rattle.std.proofs.lemmas.Option.{get_or_from_slice_get}
use Rattle.nfg_ops.specs.Cuts.{number_at}
use Rattle.nfg_ops.proofs.Candidates.{none-stands, first-at, none-before}
use Rattle.nfg_ops.proofs.candidate.candidate.Goals as goal

pub overflow_sub-result : goal.overflow_sub-result
overflow_sub-result c =
    let xs = c.args.string.now.graphemes in
    let ys = c.args.needle.now.graphemes in
    let sought = to_z w32 (of_z w32 c.get-sought.result) in
    let same : sought ≡ c.get-sought.result = search rules in
    let is : sought ≡ number_at ys c.args.rare = same ∙ sym (get_or_from_slice_get ys c.args.rare c.get-sought.result (pos 0) c.get-sought.ensures) in
    let within = first-at xs ys c.args.rare c.args.place c.args.last sought c.in-Some.at c.requires.rare c.requires.inside c.requires.ordered (sym c.in-Some.ensures) in
    let low = within.0 in
    omega (arith, low)

pub returns-in-Some-clause-within : goal.returns-in-Some-clause-within
returns-in-Some-clause-within c =
    let xs = c.args.string.now.graphemes in
    let ys = c.args.needle.now.graphemes in
    let sought = to_z w32 (of_z w32 c.get-sought.result) in
    let same : sought ≡ c.get-sought.result = search rules in
    let is : sought ≡ number_at ys c.args.rare = same ∙ sym (get_or_from_slice_get ys c.args.rare c.get-sought.result (pos 0) c.get-sought.ensures) in
    let within = first-at xs ys c.args.rare c.args.place c.args.last sought c.in-Some.at c.requires.rare c.requires.inside c.requires.ordered (sym c.in-Some.ensures) in
    let low = within.0 in
    let high = within.1 in
    (omega (arith, low), omega (arith, high))

pub returns-in-Some-clause-passed : goal.returns-in-Some-clause-passed
returns-in-Some-clause-passed c =
    let xs = c.args.string.now.graphemes in
    let ys = c.args.needle.now.graphemes in
    let sought = to_z w32 (of_z w32 c.get-sought.result) in
    let same : sought ≡ c.get-sought.result = search rules in
    let is : sought ≡ number_at ys c.args.rare = same ∙ sym (get_or_from_slice_get ys c.args.rare c.get-sought.result (pos 0) c.get-sought.ensures) in
    none-before xs ys c.args.rare c.args.place c.args.last sought c.in-Some.at c.requires.rare is c.requires.inside c.requires.ordered (sym c.in-Some.ensures)

pub returns-in-None-clause-none : goal.returns-in-None-clause-none
returns-in-None-clause-none c =
    let xs = c.args.string.now.graphemes in
    let ys = c.args.needle.now.graphemes in
    let sought = to_z w32 (of_z w32 c.get-sought.result) in
    let same : sought ≡ c.get-sought.result = search rules in
    let is : sought ≡ number_at ys c.args.rare = same ∙ sym (get_or_from_slice_get ys c.args.rare c.get-sought.result (pos 0) c.get-sought.ensures) in
    none-stands xs ys c.args.rare c.args.place c.args.last sought c.requires.rare is c.requires.inside (sym c.in-None.ensures)
