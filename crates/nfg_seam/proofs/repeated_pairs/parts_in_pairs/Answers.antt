-- the first cluster, behind the text twice over
use Rattle.std.proofs.Common.{rules, ◌≡◌, ℕ, ◌==◌, List, [], ◌++◌, length, length-append, drop, w32, to_z, of_z, arith, ◌∙◌}
use Rattle.std.proofs.lemmas.Bool.Decides.{nat_tests}
use Rattle.nfg_seam.proofs.SeamReading.{asked-none, cluster-asked, spelled-asked}
use Rattle.nfg_seam.proofs.SeamText.{boundary-at}
use Rattle.nfg_seam.proofs.repeated_pairs.parts_in_pairs.Goals as goal

-- a text twice over is empty just where the text is
none_twice : (t : List ℕ) → (length t == 0) ≡ (length (t ++ t) == 0)
none_twice t = let both = length-append t t in grind (arith, nat_tests, both)

pub is_boundary-requires-clause-known : goal.is_boundary-requires-clause-known
is_boundary-requires-clause-known g c κs within =
    let same : to_z w32 (of_z w32 c.get-number.result) ≡ c.get-number.result = search rules in
    spelled-asked _ _ (asked-none (g.T.Synthetics.seen c.args.pass.now)) c.args.a.now.graphemes c.requires.known 0
    c.get-number.result (to_z w32 (of_z w32 c.get-number.result)) same c.get-number.ensures

pub returns-clause-boundary : goal.returns-clause-boundary
returns-clause-boundary g c = λ list represents holds.
    let same : to_z w32 (of_z w32 c.get-number.result) ≡ c.get-number.result = search rules in
    let text = c.args.text.now in
    let found = cluster-asked _ _ (asked-none (g.T.Synthetics.seen c.args.pass.now)) c.args.a.now.graphemes list represents 0
    c.get-number.result (to_z w32 (of_z w32 c.get-number.result)) same c.get-number.ensures in
    boundary-at (text ++ text) list 0 found.0 found.1
    (c.is_boundary.ensures.boundary found.0 (text ++ text) (drop 1 list) found.2
    (c.remembered-twice.ensures text (c.remembered-once.ensures [] c.new.ensures)) (c.is_empty.ensures ∙ none_twice text) holds)
