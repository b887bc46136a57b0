-- What the crates above use of these proofs. Declares nothing.
pub use Rattle.mum_sql_keeper.proofs.Crossing.{keeper_send}
