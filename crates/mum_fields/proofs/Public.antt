-- What the crates above use of these proofs. Declares nothing.
pub use Rattle.mum_fields.proofs.{Puts.fields-added, Puts.messages-same, ReadBack.Rises, ReadBack.read_back, ReadBack.rises, Sizes.fields-counted, Sizes.length-shortest, Worked.IsRead, Worked.IsRespelled, Worked.IsSpelled, Worked.end_of, Worked.fine, Worked.misses, Worked.stopped}
unfoldable pub use Rattle.mum_fields.proofs.Worked.{messages}
