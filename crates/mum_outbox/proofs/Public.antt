-- What the crates above use of these proofs. Declares nothing.
pub use Rattle.mum_outbox.proofs.Giving.{first_has, has_fewer, lower_has, one_less, pass_below, upper_has}
