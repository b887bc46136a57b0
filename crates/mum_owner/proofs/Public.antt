-- What the crates above use of these proofs. Declares nothing.
pub use Rattle.mum_owner.proofs.Rolling.{decided_roll}
