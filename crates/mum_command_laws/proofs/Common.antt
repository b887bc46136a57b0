-- The names that the proofs of this crate take from elsewhere, passed on from one place. Declares nothing.
pub use Rattle.std.proofs.lemmas.Bool.{and_from, cases_Bool, cond-false, eq-eqb, eqb-true, ne_eqb, not-false, not_from_false, or_left, or_parts, or_right}
pub use Rattle.std.proofs.lemmas.List.Elements.{All-append, All-cons, All-contains, All-contains_itself, All-filter, All-head, All-nil, All-tail, All-weaker, Contains-append_left, Contains-append_right, Contains-get_or}
pub use Rattle.std.proofs.lemmas.Slice.Eq.{bytes_eq-Decides}
pub use Rattle.std.proofs.Common.{Bool, Err, List, None, Ok, Option, Some, [], ap, append-nil, arith, cond, false, inl, inr, length, map, not, pos, refl, subst, suc, sym, true, true≢false, zero, ℕ, ⊎_elim, ◌++◌, ◌==◌, ◌||◌, ◌∙◌, ◌∷◌, ◌≡◌, ◌≢◌, ◌⊎◌}
pub use Rattle.std.specs.{Cmp.signed_Decides, List.All, List.Contains, List.cons_option, List.filter, List.find, List.flat_map, List.list_any, Option.is_some, Option.option_map, Option.option_map_or, Option.unwrap_or, Ordering.int_eq, Str.bytes_eq}
pub use Rattle.mum_base.specs.{Channels.is_among, Codes.reason_code, Codes.reject_code}
pub use Rattle.mum_base.specs.declared.{number.AccountId.AccountId, number.ChannelId.ChannelId, number.SessionId.SessionId, number.Slot.Slot, number.TheConstants.ChannelId.ROOT, outcome.DenyType.DenyType, outcome.Reason.Reason, outcome.Reason.TheVariants.Malformed, outcome.Reason.TheVariants.NotThere, outcome.Reason.TheVariants.TooLong, outcome.RejectType.RejectType, perm.Perm.Perm}
pub use Rattle.mum_base.specs.declared.perm.TheConstants.Perm.{BAN, KICK, LINK_CHANNEL, LISTEN, MAKE_CHANNEL, MAKE_TEMP_CHANNEL, TEXT_MESSAGE, WRITE}
pub use Rattle.mum_frame.specs.declared.frame.Frame.{Frame}
pub use Rattle.mum_frame.specs.declared.kind.TheConstants.{ACL, CHANNEL_REMOVE, CHANNEL_STATE, PERMISSION_QUERY, USER_REMOVE, USER_STATE, VERSION, VOICE_TARGET}
pub use Rattle.mum_fields.specs.{Message.or_else, Table.decoded}
pub use Rattle.mum_policy.specs.Member.{Actor}
pub use Rattle.mum_policy.specs.declared.policy.ChannelPolicy.{ChannelPolicy}
pub use Rattle.mum_tree.specs.{Refusals.parent_of, Rows.is_below, Rows.is_root, Rows.is_there, Rows.number, Rows.row_of, State.TreeState, State.partners}
pub use Rattle.mum_tree.specs.declared.channel.{Channel.Channel, ChannelInfo.ChannelInfo, Row.Row}
pub use Rattle.mum_users.specs.{Listeners.listens, Listeners.pairs_of, Sessions.session_of, State.RosterState, State.has_number, State.is_of_session, State.is_pair}
pub use Rattle.mum_users.specs.declared.{listening.ListenerPair.ListenerPair, user.User.User}
pub use Rattle.mum_msg_state.specs.Messages.{version}
pub use Rattle.mum_msg_state.specs.declared.{authenticate.Authenticate.Authenticate, channel_state.ChannelState.ChannelState, user_remove.UserRemove.UserRemove, user_state.UserState.UserState}
pub use Rattle.mum_msg_rule.specs.declared.{acl.Acl.Acl as AclMessage, text_message.TextMessage.TextMessage}
pub use Rattle.mum_state.proofs.Public.{Each, fit_proper, found_passes, session_alone}
pub use Rattle.mum_state.specs.{Applied.applied, Kinds.is_empty, Named.given, Permissions.granted_where_there, Proper.IsProper, State.StateValue, State.account_named, State.policy_of}
pub use Rattle.mum_state.specs.declared.{account.Account.Account, edit.Edit.Edit, verdict.Verdict.TheVariants.Accepted, verdict.Verdict.TheVariants.Answer, verdict.Verdict.TheVariants.Ignored, verdict.Verdict.TheVariants.Rejected, verdict.Verdict.Verdict}
pub use Rattle.mum_state.specs.declared.edit.Edit.TheVariants.{EditChannel, Join as Joins, Kick as Kicks, MakeChannel, RemoveChannel, SetAcl, SetTokens, SetUser, Text as SendsText}
pub use Rattle.mum_rules_tree.proofs.Public.{all_met_where, all_off, first_found, outcome_at, something_mapped, told}
pub use Rattle.mum_rules_tree.specs.Asked.{Command, channel, channel_or_root, command_of, describes, given_unless, is_named_there, is_number_there, is_query, linked_others, names_there, new_name, new_parent, parent_of_new}
pub use Rattle.mum_rules_tree.specs.{Decision.Need, Decision.Way, Decision.first_lack, Decision.first_standing, Decision.is_met, Decision.need, Decision.way, Laws.AllMet, Laws.needs_of, Limits.limits, Needs.making, Needs.needs, Needs.needs_to_describe, Needs.needs_to_link, Needs.needs_to_move, Outcome.edit_to_change, Outcome.edit_to_make, Outcome.outcome, Verdict.actor_named, Verdict.tree_verdict}
pub use Rattle.mum_rules_tree.specs.declared.{message.TreeMessage.TheVariants.Acl, message.TreeMessage.TheVariants.Remove, message.TreeMessage.TheVariants.State, message.TreeMessage.TreeMessage, needs.Lack.Lack}
pub use Rattle.mum_notify.proofs.Public.{comments_stand_lem, other_channels_stand_lem, other_sessions_stand_lem}
pub use Rattle.mum_notify.specs.Channels.{channel_change_told, channel_changes_told, channel_difference, channel_of, channel_told, edited_channels, if_it_tells, new_channels_told, said_unless, tells_of_channel}
pub use Rattle.mum_notify.specs.{Gone.channel_gone, Gone.channels_gone, Gone.departure, Gone.last_parcel, Gone.user_kicked, Gone.user_left, Notices.arrival, Notices.closes, Notices.notices, Notices.others, Sync.sync_block, Texts.is_for, Texts.is_in_trees, Texts.is_named, Texts.may_text, Texts.permission_parcels, Texts.text_parcels, Texts.text_told}
pub use Rattle.mum_notify.specs.Parcels.{all_to_each, channel_frame, channel_gone_frame, parcel, text_frame, to_each, user_frame, user_gone_frame}
pub use Rattle.mum_notify.specs.Users.{flag_told, gives_comment, said_if_set, tells_of_user, user_change_told, user_changes_told, user_difference, user_told, watched, whom_to_watch}
pub use Rattle.mum_notify.specs.declared.notice.Notice.{Notice}
pub use Rattle.mum_rules_user.proofs.Public.{clear, leaves_own_to_others_lem}
pub use Rattle.mum_rules_user.specs.Asked.{channels, channels_of, channels_there, channels_told, is_here, is_oneself, session_numbered, session_or, sets_own}
pub use Rattle.mum_rules_user.specs.{Login.edit_to_join, Login.is_digest_of, Login.is_no_guest, Login.is_not_the_owner, Login.limits_of_login, Login.name_given, Login.password_given, Needs.needs_to_listen, Needs.needs_to_rule_speech, Outcome.edit_to_kick, Outcome.edit_to_tell, Reasons.reasons, Verdict.actor_for, Verdict.user_verdict}
pub use Rattle.mum_rules_user.specs.declared.message.UserMessage.{TheVariants.Join, TheVariants.Kick, TheVariants.Leave, TheVariants.Query, TheVariants.Target, TheVariants.Text, TheVariants.User as Changes, UserMessage}
pub use Rattle.mum_session.specs.{Action.Decoded, Action.command_action, Action.ignore, Action.version_after, Heard.command_heard, Machine.Machine, Machine.is_rejected}
pub use Rattle.mum_session.specs.declared.{action.Action.Action, action.Action.TheVariants.Ask, command.Asked.Asked, heard.Heard.Heard, session.Stage.Stage, session.Stage.TheVariants.LoggedIn}
pub use Rattle.mum_command_laws.specs.{Arrivals.ArrivalsAreReported, Arrivals.NewChannelsAreReported, Arrivals.SaysAllOfChannel, Arrivals.SaysAllOfUser, ChannelCommands.LinkersLink, ChannelCommands.MakersMake, ChannelCommands.WritersDescribe, ChannelCommands.WritersMove, ChannelCommands.WritersReadPolicies, ChannelCommands.WritersRemove, Connections.CommandsAreAsked, Connections.VersionsStay, Connections.commands, Logins.GuestsAreAsked, Logins.JoinsAsItself, Logins.LogsInAs, Logins.OwnersKnowThePassword, SentTexts.IsMeant, SentTexts.TextsAreSent, UserCommands.KicksWherePermitted, UserCommands.ListensWherePermitted, UserCommands.TextsWherePermitted, UserCommands.may_by}
pub use Rattle.mum_command_laws.specs.Reports.{ChannelChangesAreReported, KicksAreReported, LearnsChannel, LearnsLinks, LearnsListening, LearnsUser, LeavesAreReported, ReachesAll, UserChangesAreReported, known}
unfoldable pub use Rattle.sha2.specs.Sha256.{sha256}
unfoldable pub use Rattle.mum_rules_tree.specs.{Decision.is_open, Outcome.answer_frame}
unfoldable pub use Rattle.mum_session.specs.Action.{action, after_frame}
