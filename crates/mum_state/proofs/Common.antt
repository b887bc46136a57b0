-- The names that the proofs of this crate take from elsewhere, passed on from one place. Declares nothing.
pub use Rattle.std.proofs.{Math.Bool.and-false, lemmas.Bool.Decides.nat_tests, lemmas.Cmp.nat_list_cmp_total, lemmas.Cmp.tied_itself, lemmas.List.Elements.All-cons, lemmas.List.Elements.All-filter, lemmas.List.Elements.All-head, lemmas.List.Elements.All-nil, lemmas.List.Elements.All-replicate, lemmas.List.Elements.All-tail, lemmas.List.Elements.All-weaker, lemmas.List.Folds.list_all-append, lemmas.List.Folds.list_all-map, lemmas.List.Folds.list_any-append, lemmas.List.Folds.list_any_at, lemmas.List.Folds.list_any_more, lemmas.List.Folds.list_any_none, lemmas.List.Kept.AllPairs-cons, lemmas.List.Kept.AllPairs-filter, lemmas.List.Sorted.IsPartitionPoint-from_clause, lemmas.List.Sorted.answers_always, lemmas.List.Sums.count_by-le-length, lemmas.List.Sums.length-filter, lemmas.List.get_or-set_other, lemmas.List.get_or-set_same, lemmas.List.get_or_default, lemmas.List.get_or_past, lemmas.List.map-append, lemmas.List.take_all, lemmas.List.take_more, lemmas.Map.Lookups.exact_bytes, lemmas.Option.none-some, lemmas.Option.same_Some, lemmas.Option.slice_get-get_or, lemmas.Slice.Eq.bytes_eq-Decides}
pub use Rattle.std.proofs.lemmas.Bool.{and_from, and_left, and_parts, and_right, both_ways, cases_Bool, cases_eq, cases_lt, cases_order, eq-eqb, eqb-true, false≢true, le-leb, leb-true, lt-ltb, ltb-true, ne_eqb, not-false, not-true, not_from_false, or_from, or_left, or_parts, or_right, true≢false}
pub use Rattle.std.proofs.Common.{Bool, Bor, Contains, Equal, Err, Greater, IfSome, IsSome, IsTrue, Less, List, None, Ok, OnErr, OnOk, Option, Ordering, Result, Some, [], add-one, ap, ap₂, arith, codes, cond, drop, eqb, false, find, get_or, if◌then◌else◌, inl, inr, insert, is_lt, is_none, is_some, leb, length, length-append, length-set, ltb, map, nat_cmp, nat_lt, not, refl, replicate, reverse, rules, set, slice_get, slice_index_or, subst, suc, sym, take, true, unwrap_or, zero, zero-add, ℕ, ℤ, ⊎_elim, ◌&&◌, ◌++◌, ◌+◌, ◌-◌, ◌<◌, ◌==◌, ◌^◌, ◌||◌, ◌↔◌, ◌∙◌, ◌∷◌, ◌≡◌, ◌≢◌, ◌≤◌, ◌⊎◌}
pub use Rattle.std.specs.{Cmp.Lexicographic.slice_cmp, Option.option_and_then, Option.option_copied, Option.option_map, Option.option_map_or, Ordering.ordering_reverse, Str.bytes_eq}
pub use Rattle.std.specs.List.{All, AllPairs, count_by, filter, list_all, list_any, position, position_or_len}
pub use Rattle.std.specs.Prelude.{pos, ⊤}
pub use Rattle.mum_base.specs.Channels.{is_among}
pub use Rattle.mum_base.specs.declared.number.{AccountId.AccountId, ChannelId.ChannelId, SessionId.SessionId, Slot.Slot, TheConstants.AccountId.SUPER_USER, TheConstants.PLACES, TheConstants.SLOTS}
pub use Rattle.mum_base.specs.declared.perm.TheConstants.Perm.{ALL, ENTER, MAKE_CHANNEL, MOVE, SPEAK, START, TRAVERSE, WHISPER}
pub use Rattle.mum_policy.proofs.Public.{afresh, defines, denies, entry, everybody, grants, group, one, only_here, plain, policy, the_account, those_in, two}
pub use Rattle.mum_policy.specs.{Member.Actor, Member.PolicyMap, Member.definitions, Member.upwards, Name.Asks, Name.understood}
pub use Rattle.mum_policy.specs.Walk.{entering, full_set, goes_on, holds, is_account, is_asked, names, on_root, set_of, walk_start}
pub use Rattle.mum_policy.specs.declared.policy.{AclEntry.AclEntry, ChannelPolicy.ChannelPolicy, Whom.TheVariants.Group, Whom.Whom}
pub use Rattle.mum_tree.proofs.Public.{AllPairs-tail, adds_both_ways, beside, change_row, changed_none, edits_both_ways, filter_agree_at, free_unhad, informed, informed_proper, is_top, kept_row, kind_kept, lead_parent, least_free, linked_to, links_filtered, list_any-reverse, may_go, nested, none_contained, none_stands, number_found, path_leads, remove_allowed, removes_both_ways, reverse-cons, row_of_at, row_of_old, some_row, still_given, the_root, there_after, there_from_lead, to_links, to_name, to_parent, to_placement, two_letters, unchanged as same_channel, upward_at, upward_enough, upward_missing, upward_more, upward_root, upward_under, upward_zero}
pub use Rattle.mum_tree.specs.{Change.Change, Change.change_of, Change.fault_of_edit, Change.given_or, Change.parent_after, Change.with_change, Change.with_given, Places.has_place, Places.least_place, Proper.AreLinks, Proper.IsBetween, Proper.IsProper as IsProperTree, Proper.IsUnderLasting, Proper.LeadUp, Refusals.fault_of_add, Refusals.fault_of_remove, Refusals.fault_of_set_info, Refusals.parent_of, Rows.Rise, Rows.is_below, Rows.is_temporary, Rows.is_there, Rows.number, Rows.path, Rows.row_of}
pub use Rattle.mum_tree.specs.State.{Pair, TreeState, changed, new_row, partners, plain_info, root_alone, with_info, with_new, without_rows, without_subtree}
pub use Rattle.mum_tree.specs.declared.{channel.Channel.Channel, channel.ChannelInfo.ChannelInfo, channel.Row.Row, channel.TheConstants.PATH_LIMIT, fault.TreeFault.TheVariants.NoChannel, fault.TreeFault.TheVariants.RootFixed}
pub use Rattle.mum_users.proofs.Public.{IsBelowAll-through, IsProper-changed, IsProper-fewer_listeners, IsProper-left, IsProper-limited, IsProper-mapped, KeepsIdentity, Rises-at, SlotsRise-within, account, all_listen, channel, channels, count_by-cons, edits_where_proper_lem, find-found, found_by_halving, item_channel, item_sessions, joins, joins_where_proper_lem, listens_to, numbers_from, one_more, parted, place_between, present_from, roster, row, same_flags, session, slot, slots_below_greatest, some_from, target, targets_where_proper_lem, to_channel, to_listen, unchanged, unset_stays_proper_lem, with_group}
pub use Rattle.mum_users.specs.{Edit.UserEdit, Edit.changed_user, Edit.edit_fault, Edit.edited, Edit.staying, Edit.user_edit_of, Edit.with_channels, Listeners.pair_below, Listeners.pairs_of, Listeners.with_pair, Order.IsBelowAll, Order.Rises, Placed.with_placement, Placed.with_placements, Proper.IsProper as IsProperRoster, Proper.SlotsRise, Proper.deaf_is_mute, Targets.is_oversize, Targets.target_fault, Targets.target_of, Targets.targeted, Targets.with_target}
pub use Rattle.mum_users.specs.Sessions.{absent_fault, free_slot, join_fault, joined, left, next_number, next_slot, placed, session_at, session_of, suppressed, with_tokens}
pub use Rattle.mum_users.specs.State.{RosterState, are_tokens, empty_roster, has_number, has_slot, is_context, is_in, is_of_session, is_pair, is_target, joining}
pub use Rattle.mum_users.specs.declared.{fault.UserFault.TheVariants.NoSession, fault.UserFault.TheVariants.TargetId, fault.UserFault.TheVariants.TargetSize, flags.FlagChange.FlagChange, listening.ListenerPair.ListenerPair, placing.Placement.Placement, target.Target.Target, target.TargetItem.TargetItem, target.TargetRow.TargetRow, target.TheConstants.LAST_TARGET, user.User.User}
pub use Rattle.mum_state.specs.{After.after, After.all_fit, After.led_to, Applied.applied, Counts.counts_after, Counts.raised_slots, Counts.raised_where, Counts.renews, Counts.slot_count, Emptied.empties, Emptied.has_member, Emptied.is_emptied, Emptied.without_emptied, Kinds.changes_paths, Kinds.changes_routes, Kinds.is_empty, Kinds.is_of_configuration, Kinds.sets_policy, Kinds.sets_tokens_of, Named.given, Named.named_account, Named.named_channels, Named.named_sessions, Named.names_there, Permissions.actor_at, Permissions.actor_from, Permissions.granted_to, Permissions.granted_where_there, Permissions.home, Permissions.may_speak, Permissions.perm_of, Renewed.heard_again, Renewed.is_renewed_slot, Routed.route_inputs, Routed.without_talk, Routed.without_text, Speakers.are_alike, Speakers.is_heard, Speakers.is_plain, Speakers.is_speaker, Stored.AreNumbers, Stored.is_left, Stored.number_below, Stored.policies_by_place}
pub use Rattle.mum_state.specs.Channels.{ChannelsState, channels_of, granted_in, granted_where_in, policy_map, speaks_where_in, with_channel_made, without_channel}
pub use Rattle.mum_state.specs.Fits.{edits_channel_properly, edits_session_properly, fits, gives_right_numbers, has_room_for, holds_of_given, is_countable, sets_properly}
pub use Rattle.mum_state.specs.Followed.{cleared_session, counted, enters, is_left_empty, is_slot_of_maker, left_by, may_renew, temporary_around, with_left_closed}
pub use Rattle.mum_state.specs.Laws.{AreAtMost, AreCountsOn, CountsNeverFall, FitsWhereProper, HasPlace, IsInSlot, KeepsProper, NumbersNeverFall, PermissionsStand, PresentWasPresent, RoutesStand, SeatsStand, SuppressedWhereSilent}
pub use Rattle.mum_state.specs.Parts.{ChannelEdit, SessionEdit, by_parts, channel_change, channel_edit, channel_parts, session_edit, user_change, user_parts}
pub use Rattle.mum_state.specs.Proper.{AreApart, AreCounts, IsNear, IsProper, is_name, is_short, is_sound_channel, is_sound_policy, is_sound_user, is_text}
pub use Rattle.mum_state.specs.Set.{moved_up, set_by, set_policy, with_limits, with_made, with_maker_in, with_members_moved_up, with_policy, with_tree}
pub use Rattle.mum_state.specs.State.{Counts, PolicyRow, StateValue, account_below, account_named, empty_state, has_account, is_before, is_named, is_numbered, no_counts, open_policy, policy_of, policy_row, with_account}
pub use Rattle.mum_state.specs.Suppression.{cleared_by, heard_anew, is_cleared, is_newcomer, is_renewed, is_set_anew, with_clearing, with_suppression}
pub use Rattle.mum_state.specs.declared.{account.Account.Account, account.TheConstants.ACCOUNT_LIMIT, count.TheConstants.EDIT_LIMIT, edit.Edit.Edit, renewed.Renewed.Renewed, renewed.Renewed.TheVariants.Nobody, renewed.Renewed.TheVariants.One, server.Server.Server}
pub use Rattle.mum_state.specs.declared.edit.Edit.TheVariants.{AddAccount, EditChannel, Join, Kick, Leave, MakeChannel, RemoveChannel, SetAcl, SetLimits, SetServer, SetTarget, SetTokens, SetUser, Text}
unfoldable pub use Rattle.mum_policy.specs.{Member.definition, Member.definitions_from, Member.has_token, Member.is_listed, Member.meets, Member.member, Member.members, Name.asked_by, Name.is_built_in_without_members, Name.meaning, Name.understood_after, Subtree.offset_of, Subtree.span_of, Walk.after_channel, Walk.after_entries, Walk.after_match, Walk.along, Walk.is_root, Walk.matches, Walk.perm}
unfoldable pub use Rattle.mum_tree.proofs.Public.{tree}
unfoldable pub use Rattle.mum_tree.specs.{Places.first_place, Rows.upward}
