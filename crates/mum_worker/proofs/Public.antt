-- What the crates above use of these proofs. Declares nothing.
pub use Rattle.mum_worker.proofs.Outs.{new_queues, new_unused}
