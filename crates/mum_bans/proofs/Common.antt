-- The names that the proofs of this crate take from elsewhere, passed on from one place. Declares nothing.
pub use Rattle.std.proofs.lemmas.Bool.{and_from, and_parts, both_ways, cases_eq, cases_lt, eq-eqb, eqb-true, le-leb, leb-true, ne_eqb, true_from_ne_false}
pub use Rattle.std.proofs.lemmas.{List.Concat.flat_map-append, List.Folds.list_all-append, List.Folds.list_all-map, List.Folds.list_all_at, List.Sums.fold-append, List.get_or_default, List.length-map, List.map-append, List.take_more, Slice.Eq.bytes_eq-Decides, Str.IsCharBoundary-from_take, Str.IsUtf8-take}
pub use Rattle.std.proofs.Common.{Bool, Err, Fits, IsCharBoundary, IsTrue, IsUtf8, List, None, Ok, Option, Result, Some, [], ap, append-nil, ap₂, arith, bytes_eq, codes, div-add-mod', div-one, drop, false, fold, get_or, inl, inr, is_ok, le_antisymm, length, length-append, length-drop, length-take, map, nat_eq, nat_le, refl, remove, shr-shr, subst, suc, sym, take, take-append-drop, take_at, true, vec_capacity, vec_len, w8, zero, ℕ, ◌%◌, ◌&&◌, ◌*◌, ◌++◌, ◌+◌, ◌-◌, ◌/◌, ◌<◌, ◌==◌, ◌^◌, ◌↔◌, ◌∙◌, ◌∷◌, ◌≡◌, ◌≤◌}
pub use Rattle.std.specs.{Int.bit_at, List.list_all}
pub use Rattle.mum_base.proofs.Public.{hex}
pub use Rattle.mum_frame.specs.declared.frame.TheConstants.{PAYLOAD_LIMIT}
pub use Rattle.mum_fields.proofs.Public.{IsRespelled, IsSpelled, fields-counted, length-shortest, misses}
pub use Rattle.mum_fields.specs.{Survey.spelled_size, Survey.surveyed, Table.Values, Table.decoded, Table.each_message, Table.items, Table.layout, Table.parts, Written.Item, Written.block_item, Written.block_items, Written.number_items, Written.spelling, Written.varint_item, Written.written}
pub use Rattle.mum_fields.specs.declared.message.MessageFault.{MessageFault}
pub use Rattle.mum_bans.specs.{Answer.answer, Answer.entry_of, Answer.unless_empty, Ban.address_bits, Ban.covers, Ban.refuses, Cut.IsCut, Cut.IsFront, Limits.is_short, Limits.is_sound_ban, Limits.is_sound_book, Limits.is_sound_entry, Limits.is_sound_list, Messages.ban_entry, Messages.ban_list, Parts.ban_list_back, Parts.list_in, Parts.list_of, Verdict.event_of, Verdict.verdict_of}
pub use Rattle.mum_bans.specs.Book.{AreCalls, Call, Event, added_ban, after, after_call, bans_after, bans_of, events_of, first_start, last_bans, set_ban, with_event}
pub use Rattle.mum_bans.specs.declared.{ban.Ban.Ban, ban_entry.BanEntry.BanEntry, ban_list.BanList.BanList, verdict.BanVerdict.BanVerdict}
unfoldable pub use Rattle.mum_fields.proofs.Public.{messages}
unfoldable pub use Rattle.mum_fields.specs.Varint.{shortest}
unfoldable pub use Rattle.mum_bans.specs.Parts.{ban_entry_of, ban_list_of, ban_list_with}
