-- What the crates above use of these proofs. Declares nothing.
pub use Rattle.mum_audit.proofs.Law.{from_legal, legal_from}
pub use Rattle.mum_audit.proofs.Pairs.{Pairs, Rise, all_pairs, each_back, each_both, each_front, each_weaker, pairs_of, pairs_rise, rise_pairs}
