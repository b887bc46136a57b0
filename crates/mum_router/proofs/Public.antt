-- What the crates above use of these proofs. Declares nothing.
pub use Rattle.mum_router.proofs.Entries.{Kept, SeesEach, have_entries, kept_of, sees_append, sees_of}
