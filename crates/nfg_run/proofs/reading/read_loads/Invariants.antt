use Rattle.std.proofs.Common.{◌≡◌, ◌≤◌, ℕ, List, drop}
use Rattle.nfg_script.specs.Script.{load_paths}
use Rattle.nfg_run.specs.Headline.{IsOpen}
use Rattle.nfg_run.proofs.LastOpen.{OpensGoOn}
use Rattle.nfg_run.proofs.Loads.{LoadsGoOn}
use Rattle.nfg_run.proofs.reading.read_loads.Given as goal

abbrev pub invariant-loading : goal.invariant-loading
invariant-loading g l = record {
  contents : (g.F.Files.state l.files).contents ≡ (g.F.Files.state l.fn.files).contents;
  never_falls : (g.F.Files.state l.fn.files).faults ≤ (g.F.Files.state l.files).faults;
  goes_on : LoadsGoOn (g.F.Files.state l.fn.files).contents (load_paths l.fn.script) l.reads.items
      (load_paths (drop l.k l.fn.script)) l.earlier;
  opens : (last : List ℕ) (most : ℕ) → IsOpen (g.F.Files.state l.fn.files) last most
      → OpensGoOn (g.F.Files.state l.files) last most (load_paths l.fn.script) l.reads.items (load_paths (drop l.k l.fn.script)) l.earlier;
}
