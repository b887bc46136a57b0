-- The names that the proofs of this crate take from elsewhere, passed on from one place. Declares nothing.
pub use Rattle.std.proofs.lemmas.{Bool.Decides.nat_tests, List.Elements.All-replicate, List.Elements.filter-append, List.Folds.list_any-append, List.Sums.length-filter, List.Sums.sum_by-append, List.length-append, List.length-map, List.length-replicate, List.length-reverse, List.map-append, Nat.and_assoc, Nat.and_comm, Option.same_Some, Result.err_from_is_err_and, Str.IsUtf8-from_is_utf8, Str.is_utf8-from_IsUtf8}
pub use Rattle.std.proofs.lemmas.Bool.{and_from, and_parts, eq-eqb, eqb-true, false≢true, lt-ltb, ne_eqb, not_from_false, or_from}
pub use Rattle.std.proofs.Common.{Bool, Err, IfOk, List, MatchOption, None, Ok, Option, Result, Some, [], add-zero, ap, append-nil, append_assoc, arith, cond, count_by, drop, eqb, false, fold, get_or, is_none, is_some, length, ltb, map, max, min, not, refl, replicate, reverse, rules, subst, suc, sym, take, true, zero-add, ℕ, ◌&&◌, ◌*◌, ◌++◌, ◌+◌, ◌<◌, ◌==◌, ◌||◌, ◌∙◌, ◌∷◌, ◌≡◌, ◌≤◌}
pub use Rattle.std.specs.{Borrow.Bor, List.filter, List.flat_map, List.list_all, List.list_any, Map.lookup, Option.option_and_then, Option.option_map, Option.option_map_or, Str.IsUtf8, Str.bytes_eq}
pub use Rattle.std.specs.Prelude.{IsTrue, bit_and, codes, leb, nat_eq, nat_le, nat_lt, pos, unwrap_or}
pub use Rattle.indexmap.specs.{IndexMap.insert_entry, IndexSet.insert_key}
pub use Rattle.serde_json.specs.Data.{Data, Members, array, boolean, float, negative, null, object, string, unsigned}
pub use Rattle.serde_json.specs.{Find.as_array, Find.as_number, Find.as_u64, Find.get, Read.read, View.items_view, View.view}
pub use Rattle.serde_json.specs.declared.value.Value.{Value}
pub use Rattle.mum_base.specs.Name.{name_fault as fault_of_name}
pub use Rattle.mum_base.specs.declared.{name.NameFault.TheVariants.TooLong, number.ChannelId.ChannelId, number.TheConstants.ChannelId.ROOT, number.TheConstants.SLOTS, perm.TheConstants.Perm.ALL}
pub use Rattle.mum_policy.specs.{Limits.is_large_group, Limits.is_long_whom, Walk.holds}
pub use Rattle.mum_policy.specs.declared.policy.{AclEntry.AclEntry, ChannelPolicy.ChannelPolicy, Group.Group as GroupRow, Whom.TheVariants.Account, Whom.TheVariants.Group}
pub use Rattle.mum_tree.proofs.Public.{changed_none, count_with, edits_both_ways, five, informed, informed_proper, link_both_ways, old_parents, root_proper, row_of_last, row_of_none, upward_kept, upward_short, upward_under}
pub use Rattle.mum_tree.specs.{Change.Change, Change.fault_of_edit, Change.given_or, Change.with_change, Change.with_given, Places.least_place, Proper.IsProper as IsProperTree, Refusals.fault_of_add, Refusals.fault_of_link, Refusals.is_full}
pub use Rattle.mum_tree.specs.Rows.{has_name_beside, is_root, is_taken, is_temporary, is_there, number, number as number_of_row, path, row_of}
pub use Rattle.mum_tree.specs.State.{Pair, TreeState, are_linked, changed, is_above, is_pair, new_row, pairs_with, partners, plain_info, root_alone, starts_at, with_info, with_link, with_new, with_pair, with_row}
pub use Rattle.mum_tree.specs.declared.{channel.Channel.Channel, channel.ChannelInfo.ChannelInfo, channel.Row.Row, channel.TheConstants.CHANNEL_LIMIT, fault.TreeFault.TheVariants.Count, fault.TreeFault.TheVariants.LinkCount, fault.TreeFault.TheVariants.Nesting, fault.TreeFault.TheVariants.NoChannel, fault.TreeFault.TheVariants.SameName, fault.TreeFault.TheVariants.TemporaryParent}
pub use Rattle.mum_users.specs.{Proper.IsProper as IsProperRoster, State.empty_roster}
pub use Rattle.mum_users.specs.declared.user.User.{User}
pub use Rattle.mum_state.proofs.Public.{Each, each_append, fit_from, fit_parts, fit_proper, length_with, limits_fit, named_in_tree, nothing_emptied, path_alike, there_alike}
pub use Rattle.mum_state.specs.{After.all_fit, Applied.applied, Counts.counts_after, Counts.raised_where, Emptied.empties, Emptied.has_member, Emptied.is_emptied, Emptied.without_emptied, Fits.fits, Fits.gives_right_numbers, Fits.has_room_for, Fits.holds_of_given, Fits.is_countable, Fits.sets_properly, Kinds.changes_paths, Kinds.changes_routes, Kinds.is_of_configuration, Named.names_there, Parts.channel_parts, Set.set_by, Suppression.heard_anew, Suppression.is_set_anew, Suppression.with_clearing, Suppression.with_suppression}
pub use Rattle.mum_state.specs.Proper.{AreCounts, IsNear, IsProper, is_name, is_short, is_sound_entry, is_sound_policy, is_text}
pub use Rattle.mum_state.specs.State.{StateValue, account_below, empty_state, has_account, is_named, is_numbered, no_counts, with_account}
pub use Rattle.mum_state.specs.declared.{account.TheConstants.ACCOUNT_LIMIT, count.TheConstants.EDIT_LIMIT, edit.Edit.Edit, edit.Edit.TheVariants.AddAccount, edit.Edit.TheVariants.EditChannel, edit.Edit.TheVariants.MakeChannel, edit.Edit.TheVariants.SetAcl, edit.Edit.TheVariants.SetLimits, edit.Edit.TheVariants.SetServer, edit.Edit.TheVariants.SetUser}
pub use Rattle.mum_document.proofs.Public.{array_from, elements_in-items_view, elements_step, elements_stop, first, first_none, folded, inserted, is_none-from, later, later_none, list_any-of_map, none_against, none_said, none_within, not_new, number_within, on_ok_as, on_ok_through, or_else-end, out_of_memory, pushed, pushed_all, reads_later, rows_fault-append, rows_first, rows_later, rows_none, rows_reads, within_none}
pub use Rattle.mum_document.specs.{Fault.Fault, Fault.against, Fault.place_text, Given.given_info, Given.given_policy, Given.info_rows, Given.policy_rows, Policy.account_of, Policy.accounts_at, Policy.entry_names, Policy.entry_rows, Policy.group_names, Policy.group_rows, Policy.with_group_met, Reading.Reads}
pub use Rattle.mum_document.specs.Object.{each_fault, elements_at, elements_fault, new_name_rows, number_at, opening_fault, rows_fault, text_at, unknown_fault}
pub use Rattle.mum_document.specs.Value.{digest_fault, elements_of, greatest, list_fault, name_fault, number_fault, number_of, text_fault, text_of}
pub use Rattle.mum_document.specs.declared.{fault.ConfigFault.ConfigFault, fault.ConfigFault.TheVariants.Limit, fault.ConfigFault.TheVariants.NotAnObject, fault.ConfigFault.TheVariants.NotJson, fault.ConfigFault.TheVariants.OutOfRange, fault.ConfigFault.TheVariants.WrongKind, fault.DocumentError.DocumentError, given.GivenInfo.GivenInfo, given.GivenPolicy.GivenPolicy}
pub use Rattle.mum_config.specs.{Account.AccountsMet, Account.account_name, Account.account_names, Account.account_number, Account.account_rows, Account.no_accounts, Account.with_account_met, Limits.FitAfterLimits, Limits.is_beside_channels, Limits.settings_and_accounts}
pub use Rattle.mum_config.specs.Channel.{ChannelsMet, are_too_many, channel_name, channel_number, depth_above, depth_of, gives_info, gives_policy, has_seat, info_of, is_root_entry, made_edit, met_of, name_rows, number_rows, parent_number, parent_rows, policy_edits, policy_of, rises, root_edits, root_met, seats_of, shared_names}
pub use Rattle.mum_config.specs.Document.{ReadsText, account_list_rows, accounts_in, against_document, channel_list_rows, channels_in, channels_met, document_names, document_rows, link_list_rows, links_in, server_edit, settings_of, settings_rows, value_of}
pub use Rattle.mum_config.specs.Link.{AreCounted, Ends, are_same, end_fault, ends_fault, ends_of, first_end, is_crowded, is_end, is_new, join_edit, link_count, pair_in, pair_of, second_end, with_ends}
pub use Rattle.mum_config.specs.declared.config.Config.{Config}
unfoldable pub use Rattle.std.specs.Str.{is_utf8}
unfoldable pub use Rattle.mum_tree.specs.Rows.{upward}
unfoldable pub use Rattle.mum_document.specs.{Fault.or_else, Fault.within, Policy.entry_fault, Policy.entry_of, Policy.group_fault, Policy.group_of, Value.needed, Value.wanted}
unfoldable pub use Rattle.mum_config.specs.{Account.account_edit, Account.account_fault, Channel.channel_edits, Channel.channel_fault, Channel.made_fault, Channel.root_fault, Channel.with_channel_met, Document.config_of, Document.edits_of, Document.fault_of, Document.object_fault_of, Link.link_edit, Link.link_fault, Link.with_link_met}
