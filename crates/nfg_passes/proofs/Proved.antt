-- The laws of `specs`, each under the name of its definition: what proofs of other crates cite.
pub use Rattle.nfg_passes.proofs.Ends.{marks_tell_ends}
pub use Rattle.nfg_passes.proofs.IdFacts.{ids_tell, marks_rise}
pub use Rattle.nfg_passes.proofs.Settled.{settled_texts_stay, settled_texts_stay_behind}
