use Rattle.std.proofs.Common.{◌≡◌, ◌-◌, ◌≤◌, length, take, Some, false}
use Rattle.nfg_run.specs.Headline.{HasFile}
use Rattle.nfg_run.proofs.reading.read_up_to.Given as goal

abbrev pub invariant-reading : goal.invariant-reading
invariant-reading g l = record {
  open_path : (g.F.Files.state l.files).open_path ≡ Some l.path;
  unbroken : (g.F.Files.state l.files).broken ≡ false;
  contents : (g.F.Files.state l.files).contents ≡ (g.F.Files.state l.fn.files).contents;
  position : (g.F.Files.state l.files).position ≡ length l.bytes;
  file : HasFile (g.F.Files.state l.fn.files).contents l.path (λ file. l.bytes ≡ take (length l.bytes) file);
  within : length l.bytes ≤ l.limit;
  never_falls : (g.F.Files.state l.fn.files).faults ≤ (g.F.Files.state l.files).faults;
}

abbrev pub decreases-reading : goal.decreases-reading
decreases-reading g l = l.limit - length l.bytes
