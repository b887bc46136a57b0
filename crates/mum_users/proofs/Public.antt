-- What the crates above use of these proofs. Declares nothing.
pub use Rattle.mum_users.proofs.{Counts.count_by-cons, Counts.count_by-filter-le, Counts.count_by-filter_none, Counts.some_from, Edits.Rises-with_channels, Edits.listed-with_channels, Orders.IsBelowAll-through, Orders.Rises-filter, PairCounts.count-put, PairCounts.count-put_new, PairCounts.count-put_other, Placed.set-mapped, Places.find-found, Places.one_more, Places.present_from, Places.unwrap_or-position, Refusals.edits_where_proper_lem, Refusals.joins_where_proper_lem, Refusals.targets_where_proper_lem, Refusals.unset_stays_proper_lem, Rosters.IsProper-changed, Rosters.IsProper-fewer_listeners, Rosters.IsProper-left, Rosters.IsProper-limited, Rosters.IsProper-mapped, Rosters.KeepsIdentity, Rosters.slots_below_greatest, Runs.run_found, Search.Rises-at, Search.found_by_halving, Search.parted, Search.place_between, Slots.SlotsRise-filter, Slots.SlotsRise-within, Slots.free_slot_from-le, Told.listens_as_told_lem, Told.others_listen_as_before_lem}
pub use Rattle.mum_users.proofs.Scenes.{account, all_listen, channel, channels, item_channel, item_sessions, joins, listens_to, numbers_from, roster, row, same_flags, session, slot, target, to_channel, to_listen, unchanged, with_children, with_group, with_links}
