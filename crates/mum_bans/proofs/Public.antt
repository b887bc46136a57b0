-- What the crates above use of these proofs. Declares nothing.
pub use Rattle.mum_bans.proofs.Sizes.{answer_fits}
