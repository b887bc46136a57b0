-- The names that the proofs of this crate take from elsewhere, passed on from one place. Declares nothing.
pub use Rattle.std.proofs.lemmas.{Bool.Decides.nat_tests, Bool.Decides.same_from_decides, Fmt.decimal_digit, List.Elements.filter-append, List.Folds.flat_map-map, List.Folds.list_all_at, List.Folds.list_all_more, List.Folds.list_any_at, List.Folds.list_any_more, List.Kept.AllPairs-filter, List.Sorted.IsNonDecreasingBy-from_sort_by_key, List.Sorted.IsPartitionPoint-from_clause, List.Sorted.answers_always, List.Sums.count_by_more_no, List.Sums.count_by_more_yes, List.Sums.sum_by-take-le, Option.none-some, Option.same_Some, Option.slice_get-map, Option.slice_get_past, Option.slice_get_read, Result.IfOk-weaker, Slice.Eq.bytes_eq-Decides}
pub use Rattle.std.proofs.lemmas.Bool.{and_from, and_parts, eq-eqb, eqb-true, false≢true, lt-ltb, ltb-false, ltb-true, ne_eqb, or_parts}
pub use Rattle.std.proofs.lemmas.List.{append-nil, get_or-drop, get_or-map, get_or-set_other, get_or-set_same, get_or-take, get_or_default, length-drop, length-map, length-take, map-append, take_all, take_more}
pub use Rattle.std.proofs.Common.{Bool, Err, IfSome, List, MatchOption, MatchResult, None, Ok, Option, Result, Some, [], ap, append_assoc, arith, codes, cond, drop, false, get_or, inl, inr, is_some, length, length-set, ltb, map, nat_lt, not, refl, rules, set, subst, suc, sym, take, true, zero, ℕ, ⊎_elim, ◌%◌, ◌&&◌, ◌*◌, ◌++◌, ◌+◌, ◌-◌, ◌/◌, ◌<◌, ◌==◌, ◌||◌, ◌∙◌, ◌∷◌, ◌≡◌, ◌≢◌, ◌≤◌}
pub use Rattle.std.specs.{Bool.Decides, Borrow.Bor, List.Sorted.IsBinarySearchResult, List.Sorted.IsNonDecreasingBy, List.Sorted.IsPartitionedBy, List.Sorted.IsSearchInRange, List.Sorted.IsStableByKey, List.Sorted.ties, Map.lookup, Option.option_copied, Option.option_map, Option.option_map_or, Ordering.is_lt, Ordering.nat_cmp, Result.result_ok, Slice.IsItemAt, Str.bytes_eq}
pub use Rattle.std.specs.List.{All, AllAdjacentBelow, AllByRecursion, AllPairs, Contains, IsAllAdjacentAnswer, count_by, filter, flat_map, list_all, list_any}
pub use Rattle.std.specs.Prelude.{IsTrue, nat_eq, slice_get, unwrap_or, ◌↔◌}
pub use Rattle.indexmap.specs.IndexSet.{insert_key}
pub use Rattle.mum_base.specs.Channels.{is_among}
pub use Rattle.mum_base.specs.declared.number.{ChannelId.ChannelId, TheConstants.ChannelId.ROOT}
pub use Rattle.mum_fields.specs.Table.{Values, decoded, layout, parts}
pub use Rattle.mum_fields.specs.declared.message.MessageFault.{MessageFault}
pub use Rattle.mum_tree.proofs.Public.{AllPairs-tail, contains_later, found_by_binary_search, free_unhad, least_is, least_within, own_front, row_of_at, row_of_none, starts_rise, unhad, upward_at, upward_missing, upward_zero}
pub use Rattle.mum_tree.specs.{Places.has_place, Places.least_place, Proper.AreApart, Proper.HasRoot, Proper.LeadUp, Refusals.parent_of, Rows.Rise, Rows.is_root, Rows.is_there, Rows.number, Rows.row_of}
pub use Rattle.mum_tree.specs.State.{Ordered, Pair, TreeState, ends_from, is_above, partners, plain_info, starts_at}
pub use Rattle.mum_tree.specs.declared.channel.{Row.Row, TheConstants.PATH_LIMIT}
pub use Rattle.mum_msg_rule.specs.{Messages.acl, Parts.acl_back}
pub use Rattle.mum_msg_rule.specs.declared.acl.Acl.{Acl}
pub use Rattle.mum_state.proofs.Public.{AreGoverned, Each, HasWays, any_alike, any_map, counts_never_fall_lem, each_any, each_from_all, each_passes, each_so, edge, governed_where_proper, link, make, make_temporary, none_marked, not_raised, some_found, ways_stay}
pub use Rattle.mum_state.specs.{After.led_to, Applied.applied, Counts.raised_where, Emptied.empties, Kinds.changes_paths, Proper.IsProper, Set.set_by, State.PolicyRow, State.StateValue, State.empty_state, State.open_policy}
pub use Rattle.mum_state.specs.declared.edit.Edit.{Edit, TheVariants.EditChannel, TheVariants.MakeChannel, TheVariants.SetAcl}
pub use Rattle.mum_rules_tree.specs.Policy.{policy_asked}
pub use Rattle.mum_notify.proofs.Public.{dropped_more, family_alike, filter_alike, kept_more, mapped_more, next_front, no_levels, pieces_more, same_channel, whole_front}
pub use Rattle.mum_notify.specs.Channels.{channel_ids, children, is_child}
pub use Rattle.mum_kept.specs.Good.{AreGoodChannels, AreGoodLinks, AreNone, AreShaped, IsGood, IsTree, JoinsTwo, Seat, are_sound, count_at, has_name, has_policy, has_text, is_end, is_link_of, is_named_root, is_seat, joins_two, leads_up, seat_of, seats_of, seats_taken}
pub use Rattle.mum_kept.specs.Kept.{is_kept_link, is_lasting, kept, kept_channel, kept_channels, kept_if_lasting, kept_of, kept_policy, links_from}
pub use Rattle.mum_kept.specs.{Policy.holds_policy, Policy.is_answer_of, Policy.message_if_decoded, Policy.message_in, Policy.policy_in, Prefix.begins_with, Prefix.begins_with_letters, Prefix.is_letter, Prefix.is_used, Prefix.prefix_number, Rows.below_root, Rows.children_of, Rows.is_top, Rows.tree_of, Rows.tree_row, Rows.tree_rows, Standing.HasPolicyOf, Standing.HavePoliciesOf, Standing.PoliciesStand}
pub use Rattle.mum_kept.specs.Rebuild.{describes_root, info_edit, info_edits, link_edit, make_edit, make_edits, place_edit, place_edits, policy_edit, rebuild}
pub use Rattle.mum_kept.specs.declared.rows.{KeptChannel.KeptChannel, KeptRows.KeptRows}
unfoldable pub use Rattle.mum_fields.proofs.Public.{messages}
unfoldable pub use Rattle.mum_tree.specs.{Places.first_place, Rows.upward}
unfoldable pub use Rattle.mum_msg_rule.specs.Parts.{acl_group_of, acl_line_of, acl_of, acl_with}
unfoldable pub use Rattle.mum_state.proofs.Public.{state}
unfoldable pub use Rattle.mum_notify.specs.Channels.{family}
unfoldable pub use Rattle.mum_kept.specs.Prefix.{first_unused, prefix}
