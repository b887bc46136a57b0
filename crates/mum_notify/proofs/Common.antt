-- The names that the proofs of this crate take from elsewhere, passed on from one place. Declares nothing.
pub use Rattle.std.proofs.lemmas.{Bool.Decides.nat_tests, Grind.flat_map-append, List.Folds.flat_map-map, List.Folds.list_any-append, List.Folds.list_any_at, List.Folds.list_any_none, List.Sorted.IsNonDecreasingBy-from_sort_by_key, List.Sorted.IsPartitionPoint-from_clause, List.Sorted.answers_always, List.Sorted.list_any-IsPermutation, List.Sorted.searchable_from_sorted, List.Sums.fold-append, List.Sums.length-filter, Option.get_or_from_slice_get, Option.slice_get-map, Option.slice_get_within}
pub use Rattle.std.proofs.lemmas.Bool.{and_from, and_parts, both_ways, cases_Bool, cases_lt, eq-eqb, eqb-true, false≢true, ltb-true, ne_eqb, true≢false}
pub use Rattle.std.proofs.lemmas.List.Elements.{All-append, All-cons, All-contains_itself, All-filter, All-head, All-map, All-nil, All-tail, All-weaker, filter-append, filter_passes}
pub use Rattle.std.proofs.lemmas.List.{append-nil, flat_map_more, get_or_default, length-append, length-map, length-take-le, map-append, take-take, take_all, take_more}
pub use Rattle.std.proofs.Common.{Bool, Err, List, None, Ok, Option, Result, Some, [], ap, append_assoc, arith, cond, drop, false, filter, find, fold, get_or, inl, inr, length, map, nat_le, nat_lt, not, refl, reverse, rules, subst, suc, sym, take, true, zero, ℕ, ⊎_elim, ◌&&◌, ◌*◌, ◌++◌, ◌+◌, ◌-◌, ◌/◌, ◌<◌, ◌==◌, ◌||◌, ◌∙◌, ◌∷◌, ◌≡◌, ◌≢◌, ◌≤◌}
pub use Rattle.std.specs.{Cmp.nat_cmp_total, List.Sorted.IsBinarySearchResult, List.Sorted.IsNonDecreasingBy, List.Sorted.IsSearchInRange, List.Sorted.IsSorted, List.Sorted.IsStableByKey, List.Sorted.ties, Option.option_map, Option.option_map_or, Ordering.is_lt, Ordering.nat_cmp, Result.IfOk, Result.OnOk, Result.is_ok, Str.bytes_eq, VecDeque.Iter.deque_iter_rest}
pub use Rattle.std.specs.List.{All, AllPairs, Contains, count_by, flat_map, insert, list_all, list_any}
pub use Rattle.std.specs.Prelude.{IsTrue, is_some, slice_get, ⊤, ◌↔◌}
pub use Rattle.std.specs.declared.cmp.Ordering.TheVariants.{Equal, Greater, Less}
pub use Rattle.mum_base.specs.Channels.{is_among}
pub use Rattle.mum_base.specs.declared.number.{AccountId.AccountId, ChannelId.ChannelId, SessionId.SessionId, Slot.Slot, TheConstants.ChannelId.ROOT}
pub use Rattle.mum_frame.specs.Frame.{IsOneFrame}
pub use Rattle.mum_frame.specs.declared.kind.TheConstants.{CHANNEL_REMOVE, CHANNEL_STATE, CODEC_VERSION, PERMISSION_QUERY, SERVER_SYNC, TEXT_MESSAGE, USER_REMOVE, USER_STATE, VERSION}
pub use Rattle.mum_fields.specs.Table.{Blocks, Field, Layout, Nothing, One, Value, Values, each_item, each_message, items, layout, one_item, parts, row_items, scalar_number, spelled}
pub use Rattle.mum_fields.specs.Varint.{shortest_with}
pub use Rattle.mum_fields.specs.Written.{Item, block_item, block_items, each_block, each_number, number_items, spelling, varint_item, written}
pub use Rattle.mum_fields.specs.declared.shape.{Kind.Kind, Kind.TheVariants.Number, Kind.TheVariants.Raw, Kind.TheVariants.Utf8, Label.Label, Label.TheVariants.Optional, Label.TheVariants.Repeated, Label.TheVariants.Required, Label.TheVariants.RequiredOr}
pub use Rattle.mum_tree.proofs.Public.{kept_row, lead_parent, none_contained, number_found, or_swap, row_of-map, row_of_old, some_to, still_given, there_after, there_from_lead, upward_missing, upward_zero}
pub use Rattle.mum_tree.specs.{Change.Change, Change.pairs_with_all, Change.pairs_without_all, Change.with_given, Places.least_place, Proper.IsBetween, Proper.IsProper as IsProperTree, Refusals.parent_of, Rows.is_below, Rows.is_root, Rows.is_temporary, Rows.is_there, Rows.number, Rows.path, Rows.row_of}
pub use Rattle.mum_tree.specs.State.{Pair, TreeState, changed, ends_from, is_above, is_pair, new_row, pairs_with, pairs_without, partners, starts_at, with_info, with_new, with_pair, without_rows, without_subtree}
pub use Rattle.mum_tree.specs.declared.channel.{Channel.Channel, ChannelInfo.ChannelInfo, Row.Row, TheConstants.PATH_LIMIT}
pub use Rattle.mum_users.proofs.Public.{IsBelowAll-through, one_more, parted, place_between, run_found, unwrap_or-position}
pub use Rattle.mum_users.specs.{Edit.changed_user, Edit.staying, Edit.with_channels, Listeners.listens, Listeners.pair_below, Listeners.pairs_of, Order.IsBelowAll, Order.Rises, Proper.SlotsRise, Sessions.free_slot, Sessions.next_number, Sessions.next_slot, Sessions.session_of, State.RosterState, State.are_tokens, State.has_number, State.is_context, State.is_in, State.is_of_session, State.joining, Targets.targeted}
pub use Rattle.mum_users.specs.declared.{listening.ListenerPair.ListenerPair, target.Target.Target, user.User.User}
pub use Rattle.mum_msg_state.specs.Messages.{channel_remove, channel_state, codec_version, server_sync, user_remove, user_state, version}
pub use Rattle.mum_msg_state.specs.declared.{channel_remove.ChannelRemove.ChannelRemove, channel_state.ChannelState.ChannelState, codec_version.CodecVersion.CodecVersion, server_sync.ServerSync.ServerSync, user_remove.UserRemove.UserRemove, user_state.UserState.UserState, version.Version.Version}
pub use Rattle.mum_msg_rule.specs.Messages.{permission_query}
pub use Rattle.mum_msg_rule.specs.declared.{permission_query.PermissionQuery.PermissionQuery, text_message.TextMessage.TextMessage}
pub use Rattle.mum_state.proofs.Public.{Each, all_at, all_too, alone, applied_descends, by_clearing, clearing_tree, closed_by, each_filter, each_insert, each_map, each_so, filter_all, fit_proper, found_passes, heard_members, left_alone, session_alone, session_known, some_found, targeted_sessions, there_known, there_without_subtree}
pub use Rattle.mum_state.specs.{Applied.applied, Emptied.has_member, Emptied.is_emptied, Emptied.without_emptied, Fits.fits, Fits.gives_right_numbers, Fits.is_countable, Fits.sets_properly, Followed.left_by, Followed.with_left_closed, Kinds.is_empty, Kinds.sets_policy, Kinds.sets_tokens_of, Named.given, Named.names_there, Parts.channel_parts, Parts.user_parts, Proper.IsProper, Proper.is_name, Proper.is_short, Proper.is_sound_channel, Proper.is_sound_user, Proper.is_text, Set.moved_up, Set.set_by, Set.with_tree, State.StateValue, Suppression.heard_anew, Suppression.is_newcomer, Suppression.is_set_anew, Suppression.with_clearing, Suppression.with_suppression}
pub use Rattle.mum_state.specs.declared.edit.Edit.{Edit}
pub use Rattle.mum_state.specs.declared.edit.Edit.TheVariants.{EditChannel, Join, Kick, Leave, MakeChannel, RemoveChannel, SetAcl, SetLimits, SetTarget, SetTokens, SetUser, Text}
pub use Rattle.mum_notify.specs.Channels.{channel_change_told, channel_changes_told, channel_difference, channel_ids, channel_of, channel_told, children, edited_channels, has_links, if_it_tells, in_order, is_child, is_lower, links_told, new_channel, new_channels_told, numbers, partners_only_in, place_for, said_unless, stands_at, tells_of_channel, with_channel}
pub use Rattle.mum_notify.specs.{Child.child_of, Child.children_in, Child.children_of, Child.is_not_after, Child.is_under, Gone.channel_gone, Gone.channels_gone, Gone.departure, Gone.is_told_gone, Gone.last_parcel, Gone.user_kicked, Gone.user_left, Laws.IsAddressee, Laws.IsFor, Laws.kicked, Notices.FitsFrame, Notices.arrival, Notices.closes, Notices.notices, Notices.others, Sorted.ListAlike, Sorted.lists}
pub use Rattle.mum_notify.specs.Parcels.{IsWithinFrame, all_to_each, channel_frame, channel_gone_frame, codecs_frame, parcel, permissions_frame, sync_frame, text_frame, to_each, user_frame, user_gone_frame, version_frame}
pub use Rattle.mum_notify.specs.Sync.{all_links_told, server_codecs, server_version, sync_block, sync_frames, sync_parcels, tree_order, tree_told, welcome_told}
pub use Rattle.mum_notify.specs.Texts.{NamesThese, is_for, is_in_trees, is_named, is_reached, may_text, permission_parcel, permission_parcels, permissions_told, session_numbers, text_parcels, text_told}
pub use Rattle.mum_notify.specs.Users.{gives_comment, listened, listened_only_in, tells_of_user, user_change_told, user_changes_told, user_difference, user_told, watch_own, watched, whom_to_watch}
pub use Rattle.mum_notify.specs.declared.{children.Child.Child, notice.Notice.Notice, texts.Named.Named, watch.Watch.TheVariants.Everybody, watch.Watch.TheVariants.Nobody, watch.Watch.Watch}
unfoldable pub use Rattle.mum_frame.specs.Frame.{spelling_of}
unfoldable pub use Rattle.mum_fields.specs.Varint.{shortest}
unfoldable pub use Rattle.mum_tree.specs.Rows.{upward}
unfoldable pub use Rattle.mum_notify.specs.Channels.{family}
unfoldable pub use Rattle.mum_notify.specs.Parcels.{channel_gone_payload, channel_payload, codecs_payload, permissions_payload, sync_payload, text_payload, user_gone_payload, user_payload, version_payload}
