-- What the crates above use of these proofs. Declares nothing.
pub use Rattle.mum_voice.proofs.Shortest.{length-shortest_word, shortest_word-read}
