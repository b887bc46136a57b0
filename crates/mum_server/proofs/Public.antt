-- What the crates above use of these proofs. Declares nothing.
pub use Rattle.mum_server.proofs.TooLong.{outcome_cons, short_enough, split_filled}
