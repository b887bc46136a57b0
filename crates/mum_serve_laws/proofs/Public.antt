-- What the crates above use of these proofs. Declares nothing.
pub use Rattle.mum_serve_laws.proofs.{Deciding.edits_decided, Deciding.turns_lead, Settling.of_the_desk}
