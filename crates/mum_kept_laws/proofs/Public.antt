-- What the crates above use of these proofs. Declares nothing.
pub use Rattle.mum_kept_laws.proofs.KeptAgain.{rebuild_fits_lem}
