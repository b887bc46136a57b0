-- What the crates above use of these proofs. Declares nothing.
pub use Rattle.mum_history.proofs.Fronts.{all_fit_on, views_stay}
