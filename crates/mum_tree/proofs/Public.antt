-- What the crates above use of these proofs. Declares nothing.
pub use Rattle.mum_tree.proofs.{Back.adds_both_ways, Back.five, Back.removes_both_ways, Changed.AllPairs-map, Changed.change_row, Changed.changed_none, Changed.number_found, Changed.row_of-map, Changed.some_to, Climb.some_level, Closure.any_from, Closure.any_has, Closure.count_le_at, Closure.linked_leads, Closure.row_stands, Closure.same_number, Depths.level_at_root, Depths.level_under, Depths.parent_there, Depths.upward_within, EditBack.edits_both_ways, Edited.still_given, Edits.informed, Edits.informed_proper, Edits.may_go, Edits.none_stands, Edits.some_row, Find.AllPairs-tail, Find.contains_later, Find.row_of_at, Find.row_of_none, Grown.kind_kept, Grown.old_parents, Grown.row_of_last, Grown.row_of_old, Joined.contains_filtered, Joined.count_with, Joined.links_filtered, Limited.placed_within, LinkBack.link_both_ways, LinkSearch.own_front, LinkSearch.starts_rise, Marks.none_marked, Partners.fits_back, Partners.linked_back, Partners.links_fit, Partners.no_link_more, Partners.own_after, Partners.pair_is, Partners.pairs_after, Places.free_unhad, Places.least_free, Places.least_is, Places.least_within, Places.unhad, Relinked.same_pairs, Search.found_by_binary_search, Start.root_proper, Start.root_row}
pub use Rattle.mum_tree.proofs.Scenes.{beside, linked_to, nested, to_links, to_name, to_parent, to_placement, two_letters, unchanged}
pub use Rattle.mum_tree.proofs.Shrunk.{filter_agree_at, is_top, kept_row, list_any-reverse, or_swap, remove_allowed, there_after, upward_enough}
pub use Rattle.mum_tree.proofs.Upward.{lead_parent, none_contained, path_leads, reverse-cons, the_root, there_from_lead, upward_at, upward_kept, upward_missing, upward_more, upward_root, upward_short, upward_under, upward_zero}
unfoldable pub use Rattle.mum_tree.proofs.Scenes.{tree}
