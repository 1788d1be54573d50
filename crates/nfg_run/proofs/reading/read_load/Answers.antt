use Rattle.std.proofs.Common.{◌<◌, ◌≤◌, length, refl, rules}
use Rattle.nfg_run.specs.Headline.{most_after}
use Rattle.nfg_run.proofs.ReadLemmas.{HasFile-too_long, HasFile-whole, within-limit}
use Rattle.nfg_run.proofs.reading.read_load.Goals as goal

pub returns-then-len-limit-clause-read : goal.returns-then-len-limit-clause-read
returns-then-len-limit-clause-read g c =
    let more : c.min-limit.result < length c.in-Ok.bytes = search rules in
    (HasFile-too_long _ _ c.in-Ok.bytes c.args.earlier c.min-limit.result c.requires c.min-limit.ensures c.in-Ok.ensures.bytes more, refl)

pub returns-else-len-limit-clause-read : goal.returns-else-len-limit-clause-read
returns-else-len-limit-clause-read g c =
    let le : length c.in-Ok.bytes ≤ c.min-limit.result = search rules in
    let within : length c.in-Ok.bytes ≤ most_after c.args.earlier = rw (c.min-limit.ensures) at le in (
      HasFile-whole _ _ c.in-Ok.bytes c.min-limit.result c.in-Ok.ensures.bytes le,
      within-limit c.args.earlier (length c.in-Ok.bytes) c.requires within,
      refl,
    )
