-- The names that the proofs of this crate take from elsewhere, passed on from one place. Declares nothing.
pub use Rattle.std.proofs.lemmas.{Bool.Decides.Decides-int_eq, Bool.Decides.nat_tests, Fmt.decimal_by_steps, Fmt.decimal_injective, Fmt.length-decimal-le, Grind.flat_map-append, List.Folds.list_any-append, List.Kept.AllPairs-filter, List.Sums.length-filter, List.Sums.sum_by-append, List.length-append, List.length-map, List.length-reverse, List.map-append, Nat.and_comm, Option.none-some, Option.same_Some, Slice.Eq.bytes_eq-Decides}
pub use Rattle.std.proofs.lemmas.Bool.{and_from, and_parts, eq-eqb, eqb-true, false≢true, lt-ltb, ltb-true, ne_eqb, or_parts, or_right}
pub use Rattle.std.proofs.Common.{Bool, List, None, Ok, Option, Some, [], ap, append-nil, append_assoc, arith, codes, cond, eqb, false, filter, get_or, inl, inr, is_none, is_some, length, map, nat_lt, not, pos, refl, reverse, subst, suc, sym, take, true, zero, ℕ, ℤ, ⊎_elim, ◌%◌, ◌&&◌, ◌*◌, ◌++◌, ◌+◌, ◌-◌, ◌<◌, ◌==◌, ◌^◌, ◌||◌, ◌∙◌, ◌∷◌, ◌≡◌, ◌≢◌, ◌≤◌}
pub use Rattle.std.specs.{Fmt.decimal, Option.option_map, Option.option_map_or, Ordering.int_eq, Str.bytes_eq}
pub use Rattle.std.specs.List.{All, AllPairs, Contains, count_by, find, flat_map, list_all, list_any}
pub use Rattle.std.specs.Prelude.{IsTrue, bit_and, nat_le, slice_index, unwrap_or, ⊤, ◌⊎◌}
pub use Rattle.mum_base.specs.{Channels.is_among, Name.has_space_at_edge, Name.is_control_byte}
pub use Rattle.mum_base.specs.declared.{number.AccountId.AccountId, number.ChannelId.ChannelId, number.TheConstants.ChannelId.ROOT, perm.TheConstants.Perm.ALL}
pub use Rattle.mum_fields.proofs.Public.{read_back}
pub use Rattle.mum_fields.specs.{Table.decoded, Table.layout, Table.least, Table.lesser, Table.missing, Table.parts, Typed.AreTyped}
pub use Rattle.mum_policy.specs.{Limits.is_large_policy, Walk.holds}
pub use Rattle.mum_policy.specs.declared.policy.{AclEntry.AclEntry, ChannelPolicy.ChannelPolicy, Group.Group as GroupRow, Whom.TheVariants.Account, Whom.TheVariants.Group, Whom.Whom}
pub use Rattle.mum_tree.proofs.Public.{AllPairs-map, AllPairs-tail, changed_none, count_with, edits_both_ways, five, free_unhad, informed, informed_proper, kept_row, lead_parent, least_free, least_within, link_both_ways, linked_back, list_any-reverse, no_link_more, none_contained, number_found, row_of-map, same_pairs, some_row, there_after, there_from_lead, upward_missing, upward_more, upward_root, upward_under, upward_within, upward_zero}
pub use Rattle.mum_tree.specs.Change.{Change, fault_of_edit, given_or, overlinks, parent_after, renames_or_moves, with_change, with_given}
pub use Rattle.mum_tree.specs.{Places.has_place, Places.least_place, Proper.AreApart, Proper.HasRoot, Proper.IsBetween, Proper.IsProper as IsProperTree, Proper.IsUnderLasting, Proper.LeadUp, Refusals.fault_of_add, Refusals.fault_of_link, Refusals.fault_of_placement, Refusals.is_full, Refusals.name_of, Refusals.parent_of}
pub use Rattle.mum_tree.specs.Rows.{Rise, has_name_beside, is_below, is_root, is_taken, is_temporary, is_there, nests, number, path, row_of}
pub use Rattle.mum_tree.specs.State.{Ordered, Pair, TreeState, are_linked, changed, is_above, is_pair, new_row, pairs_with, partners, plain_info, root_alone, starts_at, with_info, with_link, with_new, with_pair, with_row}
pub use Rattle.mum_tree.specs.declared.{channel.Channel.Channel, channel.ChannelInfo.ChannelInfo, channel.Row.Row, channel.TheConstants.PATH_LIMIT, fault.TreeFault.TreeFault}
pub use Rattle.mum_tree.specs.declared.fault.TreeFault.TheVariants.{Count, LinkCount, Nesting, NoChannel, RootFixed, SameName, TemporaryParent, UnderItself}
pub use Rattle.mum_users.proofs.Public.{count_by-cons, count_by-filter-le, count_by-filter_none}
pub use Rattle.mum_users.specs.declared.user.User.{User}
pub use Rattle.mum_msg_rule.specs.Messages.{acl, acl_group, acl_line}
pub use Rattle.mum_msg_rule.specs.declared.{acl.Acl.Acl, acl_group.AclGroup.AclGroup, acl_line.AclLine.AclLine}
pub use Rattle.mum_state.proofs.Public.{Each, any_alike, any_map, each_append, each_both, each_fails, each_filter, each_find, each_from_all, each_map, each_passes, each_self, each_so, found_passes, map_each, map_stays, named_in_tree, none_found, none_passes, shown, some_found}
pub use Rattle.mum_state.specs.{After.all_fit, After.led_to, Applied.applied, Counts.raised_where, Emptied.empties, Emptied.has_member, Emptied.is_emptied, Fits.fits, Fits.gives_right_numbers, Fits.is_countable, Fits.sets_properly, Kinds.is_of_configuration, Named.given, Named.names_there, Parts.channel_parts, Proper.IsProper, Proper.is_name, Proper.is_sound_channel, Proper.is_sound_entry, Proper.is_sound_policy, Proper.is_text, Set.set_by, Set.set_policy, Set.with_policy, State.PolicyRow, State.StateValue, State.empty_state, State.open_policy, State.policy_of}
pub use Rattle.mum_state.specs.declared.edit.Edit.{Edit, TheVariants.AddAccount, TheVariants.EditChannel, TheVariants.SetServer}
pub use Rattle.mum_rules_tree.specs.Policy.{accounts, acl_told, entry_asked, group_asked, group_told, is_inherited, line_told, numbers, policy_asked, whom_asked}
pub use Rattle.mum_config.proofs.Public.{IsBare, Leads, empty_bare, leads, less_left, one_more, one_there}
pub use Rattle.mum_config.specs.Limits.{FitAfterLimits, is_beside_channels, settings_and_accounts}
pub use Rattle.mum_notify.proofs.Public.{same_channel}
pub use Rattle.mum_notify.specs.{Channels.channel_ids, Channels.children, Channels.is_child, Sync.tree_order}
pub use Rattle.mum_kept.proofs.Public.{channels_rise, each_unmapped, first_is_least, found_each, held, policy_read, rows_many, same_prefix}
pub use Rattle.mum_kept.specs.Good.{AreGoodChannels, AreGoodLinks, IsTree, JoinsTwo, has_name, has_policy, has_text, is_link_of}
pub use Rattle.mum_kept.specs.Kept.{is_kept_link, is_lasting, kept, kept_channel, kept_channels, kept_links, kept_policy, lasts}
pub use Rattle.mum_kept.specs.{Policy.has_known_bits, Policy.holds_policy, Policy.is_about, Policy.is_answer_of, Policy.message_in, Policy.policy_in, Policy.policy_payload, Prefix.begins_with, Prefix.free_prefix, Prefix.prefix_number, Rows.below_root, Rows.is_top, Rows.tree_of, Rows.tree_row, Rows.tree_rows}
pub use Rattle.mum_kept.specs.Rebuild.{describes_root, info_edit, info_edits, is_plain, link_edit, make_edit, make_edits, parent_below_root, place_edit, place_edits, policy_edit, rebuild}
pub use Rattle.mum_kept.specs.declared.rows.{KeptChannel.KeptChannel, KeptRows.KeptRows}
pub use Rattle.mum_kept_laws.specs.RoundTrip.{CanBeWritten, HaveNumbers, KeptIsGood, KeptIsKeptAgain, RebuildFits, RebuiltIsKept, first_limits, opening_edits, respelled, respelled_rows}
unfoldable pub use Rattle.mum_tree.specs.Rows.{upward}
unfoldable pub use Rattle.mum_notify.specs.Channels.{family}
unfoldable pub use Rattle.mum_kept.specs.Prefix.{first_unused, prefix}
