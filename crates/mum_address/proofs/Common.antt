-- The names that the proofs of this crate take from elsewhere, passed on from one place. Declares nothing.
pub use Rattle.std.proofs.{Math.ListN.get_or, lemmas.Bool.Decides.Decides-eqb, lemmas.List.Elements.All-append, lemmas.List.Elements.All-cons, lemmas.List.Elements.All-from_recursion, lemmas.List.Elements.All-replicate, lemmas.List.Elements.All-tail, lemmas.Slice.Eq.slice_eq-Decides, lemmas.Slice.Eq.starts_is}
pub use Rattle.std.proofs.lemmas.Bool.{both_ways, cases_Bool, cases_eq, eq-eqb, eqb-true, le-ltb, lt-ltb, ltb-false, ltb-true, ne_eqb, or_cases}
pub use Rattle.std.proofs.lemmas.List.{append-nil, append_cancel_left, length-append, length-drop, length-replicate, length-take-le, take-append-drop, take-append-le, take_at}
pub use Rattle.std.proofs.Common.{Bool, List, None, Option, Some, [], ap, append_assoc, arith, codes, drop, false, inl, inr, length, refl, replicate, subst, suc, sym, take, true, zero, ℕ, ◌%◌, ◌*◌, ◌++◌, ◌+◌, ◌-◌, ◌/◌, ◌<◌, ◌^◌, ◌∙◌, ◌∷◌, ◌≡◌, ◌≤◌, ◌⊎◌}
pub use Rattle.std.specs.{Borrow.Bor, Net.Addr.octets_of, Net.Addr.segments_of, Result.OnOk}
pub use Rattle.std.specs.Prelude.{if◌then◌else◌, nat_lt, ◌==◌, ◌||◌, ◌↔◌}
pub use Rattle.mum_address.specs.{Address.IsPlaceText, Address.IsTextBy, Header.Reading.needs, Header.Reading.refused, Header.Reading.whole, Reader.IsRead, Reader.wanted}
pub use Rattle.mum_address.specs.Header.{AreBytes, BeginsNone, IsHeader, LacksBytes, Reading, Tells, is_command, is_family, is_other_family, least_rest, mapped_octets, plain, reading_high, signature, told_by}
pub use Rattle.mum_address.specs.declared.address.Place.{Place, TheVariants.Path, TheVariants.Port}
unfoldable pub use Rattle.mum_address.specs.Header.{reading, reading_behind, reading_command, reading_family, reading_length, reading_rest}
