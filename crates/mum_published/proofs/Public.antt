-- What the crates above use of these proofs. Declares nothing.
pub use Rattle.mum_published.proofs.{Fitting.prefix_fits, Latest.kept_up, Prefixes.prefix_self, Prefixes.prefix_trans, Prefixes.prefix_whole, Rolls.admitted_last}
