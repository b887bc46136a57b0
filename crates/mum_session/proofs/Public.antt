-- What the crates above use of these proofs. Declares nothing.
pub use Rattle.mum_session.proofs.{Channels.tree_holds, Channels.unless, Frames.version-asks, Lists.alike, Lists.sends}
