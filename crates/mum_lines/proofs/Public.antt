-- What the crates above use of these proofs. Declares nothing.
pub use Rattle.mum_lines.proofs.LineFeeds.{first-behind, first-longer, first-within, found-none, is-found}
