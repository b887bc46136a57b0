-- What the crates above use of these proofs. Declares nothing.
pub use Rattle.mum_crew.proofs.AlongLemmas.{along_long, along_more, fewer, goes_on, starts}
