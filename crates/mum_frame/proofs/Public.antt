-- What the crates above use of these proofs. Declares nothing.
pub use Rattle.mum_frame.proofs.{Headers.HasNoFrame-above_limit, Headers.kind-reads_back, OneFrame.kind_of-spelling, OneFrame.one_frame-found, OneFrame.one_frame-tested, OneFrame.payload_of-spelling, Streams.longest-Splits}
