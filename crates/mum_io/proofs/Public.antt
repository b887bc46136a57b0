-- What the crates above use of these proofs. Declares nothing.
pub use Rattle.mum_io.proofs.{CountLemmas.CountsEnd-none_falls, CountLemmas.NoneFalls-refl, CountLemmas.NoneFalls-same, CountLemmas.NoneFalls-trans, CountLemmas.Rose-earlier, CountLemmas.Rose-later, CountLemmas.Rose-≤, OutsideLemmas.Appends-nil, OutsideLemmas.Appends-trans, OutsideLemmas.AppendsFront-behind, OutsideLemmas.AppendsFront-longer, OutsideLemmas.AppendsFront-whole, OutsideLemmas.Consumes-kept, OutsideLemmas.Consumes-trans}
