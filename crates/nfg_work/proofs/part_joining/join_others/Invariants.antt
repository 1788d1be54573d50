use Rattle.std.proofs.Common.{◌≡◌, ℕ, ◌+◌, ◌<◌, ◌≤◌, length, slice_index_or}
use Rattle.std.specs.Prelude.{All}
use Rattle.nfg_syn.specs.Seen.{Keeps}
use Rattle.nfg_work.specs.Parts.{part_at, GrowsByParts, IsStringOrNone, IsLoaded}
use Rattle.nfg_work.proofs.PartBounds.{rest_from}
use Rattle.nfg_work.proofs.part_joining.join_others.Given as goal

abbrev pub invariant-joining : goal.invariant-joining
invariant-joining g l = record {
  table : g.T.Synthetics.is_of l.table l.pass;
  fork_tables : All (λ loader. g.T.Synthetics.is_of l.table loader.pass) l.loaders.items;
  few : length l.loaders.items ≤ length l.fn.loaders.items;
  loaded : (k : ℕ) (d : _) → k < length l.loaders.items
      → IsLoaded l.parts.encoding (part_at l.parts.bytes.now l.parts.bounds.now (k + 1)) (g.T.Synthetics.seen l.pass).known
      (g.T.Synthetics.seen (slice_index_or l.loaders.items k d).pass) (slice_index_or l.loaders.items k d).string;
  behind : IsStringOrNone (g.T.Synthetics.seen l.pass).known l.parts.encoding
      (rest_from l.parts.bytes.now l.parts.bounds.now (length l.loaders.items + 1)) l.behind;
  keeps : Keeps (g.T.Synthetics.seen l.fn.pass) (g.T.Synthetics.seen l.pass);
  forks : (g.T.Synthetics.seen l.pass).forks ≡ (g.T.Synthetics.seen l.fn.pass).forks;
  meets : (g.T.Synthetics.seen l.pass).meets + length l.loaders.items ≡ (g.T.Synthetics.seen l.fn.pass).meets + length l.fn.loaders.items;
  grown : GrowsByParts l.parts.encoding l.parts.bytes.now (g.T.Synthetics.seen l.fn.pass).known (g.T.Synthetics.seen l.pass).known;
}

abbrev pub decreases-joining : goal.decreases-joining
decreases-joining g l = length l.loaders.items
