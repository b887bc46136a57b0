-- The names that the proofs of this crate take from elsewhere, passed on from one place. Declares nothing.
pub use Rattle.std.proofs.{Math.Path.fun_ext, lemmas.Bool.Decides.Decides-int_eq, lemmas.Grind.flat_map-append, lemmas.List.Concat.flat_map_single, lemmas.List.Folds.list_any_at, lemmas.List.Sums.fold-append, lemmas.List.append-nil, lemmas.List.map-append, lemmas.Slice.Eq.bytes_eq-Decides}
pub use Rattle.std.proofs.lemmas.Bool.{and_from, and_parts, both_ways, eq-eqb, eqb-false, eqb-true, false≢true, lt-ltb, ltb-true, ne_eqb, not-false, not-true, or_cases, or_parts}
pub use Rattle.std.proofs.lemmas.List.Elements.{All-cons, All-contains, All-contains_itself, All-filter, All-nil, All-weaker, Contains-append_right, Contains-get_or, filter-append}
pub use Rattle.std.proofs.Common.{Bool, List, None, Option, Some, [], ap, append_assoc, arith, cond, false, fold, get_or, inl, inr, length, map, nat_lt, not, pos, refl, subst, suc, sym, true, true≢false, zero, ℕ, ℤ, ⊎_elim, ◌&&◌, ◌++◌, ◌+◌, ◌<◌, ◌==◌, ◌||◌, ◌∙◌, ◌∷◌, ◌≡◌, ◌≢◌, ◌≤◌, ◌⊎◌}
pub use Rattle.std.specs.List.{All, Contains, count_by, filter, find, flat_map, list_all, list_any}
pub use Rattle.std.specs.{Option.is_some, Option.option_and_then, Option.option_map, Option.option_map_or, Option.unwrap_or, Ordering.int_eq, Str.bytes_eq}
pub use Rattle.std.specs.Prelude.{⊤}
pub use Rattle.mum_base.specs.Channels.{is_among}
pub use Rattle.mum_base.specs.declared.{number.AccountId.AccountId, number.ChannelId.ChannelId, number.SessionId.SessionId, number.Slot.Slot, number.TheConstants.ChannelId.ROOT, perm.TheConstants.Perm.TEXT_MESSAGE}
pub use Rattle.mum_policy.specs.{Member.Actor, Walk.holds}
pub use Rattle.mum_tree.proofs.Public.{kept_row, level_at_root, level_under, list_any-reverse, number_found, row_of-map, row_of_last, row_of_old, some_level, still_given, upward_at}
pub use Rattle.mum_tree.specs.{Change.Change, Change.with_given, Places.least_place, Proper.IsBetween, Proper.IsProper as IsProperTree, Proper.IsUnderLasting, Refusals.parent_of}
pub use Rattle.mum_tree.specs.Rows.{Rise, is_below, is_root, is_temporary, is_there, level, number, row_of}
pub use Rattle.mum_tree.specs.State.{Pair, TreeState, are_linked, is_pair, new_row, partners, starts_at, with_info, with_new, without_subtree}
pub use Rattle.mum_tree.specs.declared.{channel.Channel.Channel, channel.ChannelInfo.ChannelInfo, channel.Row.Row, channel.TheConstants.PATH_LIMIT, fault.TreeFault.TheVariants.NoChannel, fault.TreeFault.TheVariants.RootFixed, fault.TreeFault.TreeFault}
pub use Rattle.mum_users.proofs.Public.{Rises-filter, SlotsRise-filter, count_by-cons}
pub use Rattle.mum_users.specs.{Edit.changed_user, Listeners.listens, Listeners.pairs_of, Order.IsBelowAll, Order.Rises, Proper.IsProper as IsProperRoster, Sessions.free_slot, Sessions.next_number, Sessions.next_slot, Sessions.session_of, State.RosterState, State.has_number, State.is_in, State.is_of_session, State.joining}
pub use Rattle.mum_users.specs.declared.{listening.ListenerPair.ListenerPair, user.User.User}
pub use Rattle.mum_msg_state.specs.declared.{channel_remove.ChannelRemove.ChannelRemove, channel_state.ChannelState.ChannelState, codec_version.CodecVersion.CodecVersion, server_sync.ServerSync.ServerSync, user_remove.UserRemove.UserRemove, user_state.UserState.UserState, version.Version.Version}
pub use Rattle.mum_msg_rule.specs.declared.{permission_query.PermissionQuery.PermissionQuery, text_message.TextMessage.TextMessage}
pub use Rattle.mum_state.proofs.Public.{Each, IsLeftAlone, alone, any_alike, any_inserted, any_mapped, any_stays, applied_descends, each_any, each_append, each_both, each_filter, each_find, each_from_all, each_insert, each_map, each_passes, each_self, each_so, fit_parts, fit_proper, found_passes, heard as with_silence, heard_after, left_alone, map_twice, none_found, none_passes, parent_stays, parent_there, removal_fits, session_alone, session_known, silent_after, some_found, targeted_sessions, there_known, there_without_subtree}
pub use Rattle.mum_state.specs.{Applied.applied, Emptied.has_member, Fits.fits, Followed.left_by, Followed.temporary_around, Followed.with_left_closed, Kinds.is_empty, Named.given, Parts.channel_parts, Parts.user_parts, Permissions.actor_from, Permissions.granted_to, Permissions.perm_of, Proper.IsProper, Set.moved_up, Set.set_by, Set.with_tree, State.StateValue}
pub use Rattle.mum_state.specs.declared.edit.Edit.{Edit}
pub use Rattle.mum_state.specs.declared.edit.Edit.TheVariants.{EditChannel, Join, Kick, Leave, MakeChannel, RemoveChannel, SetAcl, SetTarget, SetTokens, SetUser, Text}
pub use Rattle.mum_notify.proofs.Public.{apart_sym, applied_tree, changed_number, comments_stand_lem, filter_within, other_channels_stand_lem, other_sessions_stand_lem, parents_come_first_lem, rises_with, root_there, same_channel}
pub use Rattle.mum_notify.specs.Channels.{channel_change_told, channel_changes_told, channel_difference, channel_ids, channel_of, channel_told, children, edited_channels, has_links, if_it_tells, is_child, is_lower, links_told, new_channels_told, numbers, partners_only_in, said_unless, tells_of_channel, with_channel}
pub use Rattle.mum_notify.specs.{Gone.channel_gone, Gone.channels_gone, Gone.departure, Gone.is_told_gone, Gone.last_parcel, Gone.user_kicked, Gone.user_left, Notices.arrival, Notices.closes, Notices.notices, Notices.others}
pub use Rattle.mum_notify.specs.Parcels.{all_to_each, channel_frame, channel_gone_frame, codecs_frame, parcel, permissions_frame, sync_frame, text_frame, to_each, user_frame, user_gone_frame, version_frame}
pub use Rattle.mum_notify.specs.Sync.{all_links_told, server_codecs, server_version, sync_block, sync_frames, sync_parcels, tree_order, tree_told, welcome_told}
pub use Rattle.mum_notify.specs.Texts.{is_for, is_in_trees, is_named, may_text, permission_parcel, permission_parcels, permissions_told, text_parcels, text_told}
pub use Rattle.mum_notify.specs.Users.{edited_by, flag_told, gives_comment, listened, listened_only_in, said_if_set, tells_of_user, user_change_told, user_changes_told, user_difference, user_told, watched, whom_to_watch}
pub use Rattle.mum_notify.specs.declared.notice.Notice.{Notice}
pub use Rattle.mum_client_laws.specs.{Brought.Brings, Brought.frame_of, Brought.frames_to, SentTexts.IsMeant, SentTexts.MayText, SentTexts.TextsGoToNobodyElse, SentTexts.notice_to}
pub use Rattle.mum_client_laws.specs.Heard.{Message, OfChannel, OfChannelGone, OfCodecs, OfPermissions, OfSession, OfSessionGone, OfSync, OfText, OfVersion, all_heard, channel_after, channel_heard, channels_heard, channels_left, goes_with, has_any, has_place, heard, is_listed, link_heard, links_heard, links_left, listening_after, listening_heard, listening_left, other_end, plain_channel, plain_session, session_after, session_heard, sessions_heard, sessions_left}
pub use Rattle.mum_client_laws.specs.Known.{Channels, Known, KnownChannel, KnownSession, Pairs, Sessions, nothing, numbered_channel, numbered_session, public, public_channel, public_session}
pub use Rattle.mum_client_laws.specs.Recipients.{AboutChannel, AboutChannelGone, AboutCodecs, AboutLinks, AboutPermissions, AboutSession, AboutSessionGone, AboutVersion, AboutWelcome, AreExactly, Due, Meets, NothingElseIsSent, Subject, about_welcome, all_channels, changed_channels, changed_sessions, differ, due_of_join, due_of_kick, due_of_policy, due_text, due_to, due_to_all, due_to_newcomer, gives_private, gone_channels, has_link, is_changed_channel, is_changed_session, is_gone, is_meant, is_other_channel, is_other_session, is_relinked, listens_otherwise, subject_of, unless_empty}
pub use Rattle.mum_client_laws.specs.Sessions.{NewcomersKnowWhatIs, StaysDuring, WhoJoinsKnowsWhatIs, WhoListensKnowsWhatIs, WhoStaysKnowsWhatIs, after_all, is_here, sent_of}
unfoldable pub use Rattle.mum_tree.specs.Rows.{upward}
unfoldable pub use Rattle.mum_notify.specs.Channels.{family}
unfoldable pub use Rattle.mum_notify.specs.Parcels.{channel_gone_payload, channel_payload, codecs_payload, permissions_payload, sync_payload, text_payload, user_gone_payload, user_payload, version_payload}
unfoldable pub use Rattle.mum_client_laws.specs.{Heard.upward as known_upward, Recipients.with_all_below}
