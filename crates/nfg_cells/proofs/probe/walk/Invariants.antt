use Rattle.std.proofs.Common.{◌≡◌, ℕ, length}
use Rattle.nfg_syn.specs.Known.{IsWithin}
use Rattle.nfg_cells.specs.Notes.{AreMarked, AreNotesOf, is_named, places_of}
use Rattle.nfg_cells.specs.Probe.{ArePassed}
use Rattle.nfg_cells.proofs.probe.walk.Given as goal

abbrev pub invariant-loop-step : goal.invariant-loop-step
invariant-loop-step l = record {
  notes : AreNotesOf l.cells l.notes;
  grown : IsWithin (places_of l.fn.notes) (places_of l.notes);
  marked : AreMarked l.notes;
  named : (j : ℕ) → is_named l.notes j ≡ is_named l.fn.notes j;
  passed : ArePassed (length l.cells) (places_of l.notes) l.codes l.step;
}
