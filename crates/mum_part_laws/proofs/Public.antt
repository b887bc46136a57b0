-- What the crates above use of these proofs. Declares nothing.
pub use Rattle.mum_part_laws.proofs.Chains.{Tells, TellsEach, chain, chain_names, tells_and, tells_any, tells_either, tells_eq, tells_le, tells_lt, tells_not, tells_off, tells_or, tells_so}
pub use Rattle.mum_part_laws.proofs.{ChangeLaws.over, TreeLaws.named, TreeLaws.nested, TreeLaws.on_way, TreeLaws.same_bytes, TreeLaws.temporary}
