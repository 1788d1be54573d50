use Rattle.std.proofs.Common.{rules, ◌≡◌, [], ◌∷◌, ◌||◌, reverse, w32, to_z, of_z, sym, ap, subst, ◌∙◌}
use Rattle.std.proofs.lemmas.Bool.{and_parts}
use Rattle.nfg_syn.specs.Represents.{spelling}
use Rattle.nfg_seam.specs.Seam.{GoOnSafely}
use Rattle.nfg_seam.proofs.SeamText.{boundary-before}
use Rattle.nfg_seam.proofs.SeamReading.{scalar-limit}
use Rattle.nfg_seam.proofs.right_end.is_boundary.Goals as goal

pub of_number-kind-requires : goal.of_number-kind-requires
of_number-kind-requires g c = scalar-limit _ c.first_code.ensures.scalar

pub returns-clause-boundary : goal.returns-clause-boundary
returns-clause-boundary g c = λ cluster text clusters spells remembers is_first holds.
    let code = c.first_code.result in
    let same : to_z w32 (of_z w32 c.args.n) ≡ c.args.n = search rules in
    let first = c.first_code.ensures.first cluster (ap (spelling (g.T.Synthetics.seen c.args.pass.now).known) same ∙ spells) in
    let kind = c.of_number-kind.ensures in
    let both = and_parts c.starts_safely.result (c.args.is_first || c.breaks_before.result) holds in
    let safe = sym (c.starts_safely.ensures code kind) ∙ both.0 in
    let breaks = boundary-before text code c.args.is_first c.breaks_before.result is_first
    (λ some. c.breaks_before.ensures (reverse text) [] code remembers kind some) both.1 in
    subst (λ t. GoOnSafely text (t ∷ clusters)) (sym first.1) (safe, breaks)
