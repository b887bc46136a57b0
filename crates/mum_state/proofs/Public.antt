-- What the crates above use of these proofs. Declares nothing.
pub use Rattle.mum_state.proofs.{Clearing.by_clearing, Closed.found_row_holds, Counting.counts_never_fall_lem, Descent.applied_descends, Editing.named_in_tree, Emptying.alone, Fitting.fit_from, Fitting.fit_parts, Gone.parent_stays, Gone.parent_there, Gone.there_without_subtree, Granted.permissions_stand_lem, Heard.clearing_tree, Heard.heard_members, Keeping.fit_proper, Keeping.keeps_proper_lem, Leftover.IsLeftAlone, Leftover.closed_by, Leftover.left_alone, Limiting.limits_fit, Listed.all_at, Listed.all_filter, Listed.all_too, Listed.any_stays, Listed.filter_all, Listed.map_twice, Marking.none_marked, Marking.removal_fits, Members.any_inserted, Members.any_mapped, Numbers.last_rises, Numbers.numbers_never_fall_lem, Numbers.numbers_of_fitting, Orderly.length_with, Present.present_was_present_lem, Quiet.nothing_emptied, Raised.not_raised, Renewing.targeted_sessions, Renewing.there_known, Routes.routes_stand_lem, Seats.seats_stand_lem, Seats.session_alone, Seats.session_known, Silent.suppressed_where_silent_lem, Suppressed.heard, Suppressed.heard_after, Suppressed.silent_after, Suppressed.silent_anew, Ways.AreGoverned, Ways.HasWays, Ways.edge, Ways.governed_where_proper, Ways.path_alike, Ways.there_alike, Ways.ways_stay}
pub use Rattle.mum_state.proofs.Each.{Each, any_alike, any_map, each_any, each_append, each_both, each_fails, each_filter, each_find, each_from_all, each_insert, each_map, each_passes, each_self, each_so, found_counts, found_passes, map_each, map_stays, none_found, none_passes, passing_any, shown, some_found}
pub use Rattle.mum_state.proofs.Scenes.{add_account, clear, counts_in, enter, join, join_as, leave, link, listen, make, make_temporary, move, remove, rights_in, set_policy, set_target, set_user}
unfoldable pub use Rattle.mum_state.proofs.Scenes.{state}
