pub mod Cells
pub mod CellsLaws
pub mod Notes
pub mod NotesLaws
pub mod Probe
pub mod ProbeLaws
