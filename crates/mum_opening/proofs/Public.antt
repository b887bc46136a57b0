-- What the crates above use of these proofs. Declares nothing.
pub use Rattle.mum_opening.proofs.Described.{edits_are}
