-- The names that the proofs of this crate take from elsewhere, passed on from one place. Declares nothing.
pub use Rattle.std.proofs.lemmas.{Bool.Decides.nat_tests, Grind.common_steps, List.Elements.All-cons, List.Elements.All-head, List.Elements.All-nil, List.Elements.All-tail, List.Folds.list_all-append, List.map-append, List.take_all, List.take_min}
pub use Rattle.std.proofs.lemmas.Bool.{and_from, and_parts, cases_Bool, cond_both, eq-eqb, eqb-true, leb-false, lt-ltb, not-false, not_from_false, or_from, or_left, or_parts, or_right, true≢false}
pub use Rattle.std.proofs.Common.{Bool, Err, List, None, Ok, Option, Result, Some, [], ap, arith, cond, drop, eqb, false, leb, length, length-take, ltb, map, not, refl, rules, subst, sym, take, true, ℕ, ⊎_elim, ◌&&◌, ◌++◌, ◌||◌, ◌∙◌, ◌∷◌, ◌≡◌, ◌≤◌}
pub use Rattle.std.specs.{List.All, List.count_by, List.filter, List.find, List.list_all, List.list_any, Option.is_none, Option.is_some, Option.option_map, Option.option_map_or, Result.IfOk}
pub use Rattle.mum_base.specs.{Channels.is_among, Codes.deny_code, Codes.reason_code, Codes.reject_code, Name.name_fault}
pub use Rattle.mum_base.specs.declared.{name.TheConstants.NAME_LIMIT, number.ChannelId.ChannelId, number.SessionId.SessionId, number.TheConstants.ChannelId.ROOT, outcome.DenyType.DenyType, outcome.DenyType.TheVariants.ChannelListenerLimit as ChannelLimit, outcome.DenyType.TheVariants.UserListenerLimit as UserLimit, outcome.Reason.Reason, outcome.Reason.TheVariants.EmptyText, outcome.Reason.TheVariants.Gone, outcome.Reason.TheVariants.NotLoggedIn, outcome.Reason.TheVariants.NotThere, outcome.Reason.TheVariants.OfAnother, outcome.Reason.TheVariants.TooLong, outcome.RejectType.RejectType, outcome.RejectType.TheVariants.ServerFull, outcome.RejectType.TheVariants.UsernameInUse, perm.Perm.Perm, perm.TheConstants.Perm.ENTER, perm.TheConstants.Perm.LISTEN, perm.TheConstants.Perm.MOVE, perm.TheConstants.Perm.MUTE_DEAFEN, perm.TheConstants.Perm.TEXT_MESSAGE}
pub use Rattle.mum_policy.specs.Member.{Actor, actor_of}
pub use Rattle.mum_tree.specs.{Rows.is_there, State.TreeState}
pub use Rattle.mum_users.proofs.Public.{Rises-filter, Rises-with_channels, count-put, count-put_other, count_by-filter-le, listed-with_channels}
pub use Rattle.mum_users.specs.{Edit.UserEdit, Edit.edit_fault, Edit.is_crowded, Edit.pairs_after, Edit.staying, Edit.user_edit_of, Edit.with_channels, Listeners.pair_below, Order.Rises, Sessions.is_full, Sessions.is_used_up, Sessions.join_fault, Sessions.next_number, Sessions.next_slot, Sessions.session_of, Targets.is_oversize}
pub use Rattle.mum_users.specs.State.{RosterState, are_tokens, has_name, has_number, is_context, is_long_token, is_of_channel, is_of_session, is_pair}
pub use Rattle.mum_users.specs.declared.{fault.UserFault.TheVariants.Full, fault.UserFault.TheVariants.ListenerLimit, fault.UserFault.TheVariants.NameInUse, fault.UserFault.TheVariants.NoSession, fault.UserFault.TheVariants.SessionsUsedUp, fault.UserFault.TheVariants.UserListenerLimit, fault.UserFault.UserFault, listening.ListenerPair.ListenerPair, listening.TheConstants.CHANNEL_LISTENERS, listening.TheConstants.LISTENED_CHANNELS, target.TheConstants.LAST_TARGET, user.TheConstants.TOKENS, user.User.User as UserRow}
pub use Rattle.mum_msg_state.specs.declared.{authenticate.Authenticate.Authenticate, user_remove.UserRemove.UserRemove, user_state.UserState.UserState}
pub use Rattle.mum_msg_rule.specs.declared.{text_message.TextMessage.TextMessage, voice_target.VoiceTarget.VoiceTarget}
pub use Rattle.mum_state.specs.{Fits.fits, Fits.holds_of_given, Named.given, Parts.user_parts, Permissions.actor_at, Permissions.actor_from, Permissions.actor_with, Permissions.granted_to, Permissions.granted_where_there, Permissions.home, Proper.IsProper, Proper.is_name, Proper.is_short, Proper.is_text, State.StateValue, State.account_named, State.has_account, State.is_named, State.is_numbered}
pub use Rattle.mum_state.specs.declared.{account.Account.Account, count.TheConstants.EDIT_LIMIT, edit.Edit.Edit, edit.Edit.TheVariants.Leave as LeaveEdit, edit.Edit.TheVariants.SetTarget, edit.Edit.TheVariants.SetTokens, verdict.Verdict.TheVariants.Accepted, verdict.Verdict.TheVariants.Answer, verdict.Verdict.TheVariants.Ignored, verdict.Verdict.TheVariants.Lacks, verdict.Verdict.TheVariants.Refused, verdict.Verdict.TheVariants.Rejected, verdict.Verdict.Verdict}
pub use Rattle.mum_rules_tree.proofs.Public.{all_met_where, all_off, decided, first_missing, first_of, fits_from, fits_unless, found_passes, ignored_at, met_on, met_stop, named_from, no_first, no_lack, none_stands, passed, refused, refused_at, rest_at, some_found}
pub use Rattle.mum_rules_tree.specs.{Asked.channel, Asked.channel_or_root, Asked.given_unless, Asked.is_number_there, Laws.AllMet, Laws.IsAcceptedOrAnswered, Laws.IsFirstStanding, Reasons.is_gone, Reasons.takes_no_edits, Tokens.tokens_for_once, Verdict.actor_named, Verdict.nobody}
pub use Rattle.mum_rules_tree.specs.Decision.{AreMet, Case, FitsWhereAccepted, Need, all_met, case_of, first_lack, first_standing, is_met, need, way}
pub use Rattle.mum_rules_tree.specs.declared.{needs.Lack.Lack, reason.TheConstants.COMMAND_LIMIT}
pub use Rattle.mum_rules_user.specs.Asked.{Command, channel_of, channels, channels_of, channels_there, command_of, is_empty_text, is_here, is_oneself, item_asked, names_there, new_channel, number_of_target, rules_speech, session_numbered, session_or, sets_own, sets_own_of_another, target_asked}
pub use Rattle.mum_rules_user.specs.{Codes.listening_type_of, Codes.reject_type_of, Limits.is_super_user, Limits.limits, Limits.limits_of_change, Limits.limits_of_listening, Limits.limits_of_target, Limits.pairs_with, Needs.either_way, Needs.needs, Needs.needs_to_bring, Needs.needs_to_enter, Needs.needs_to_listen, Needs.needs_to_move, Needs.needs_to_rule_speech, Outcome.answer_to_query, Outcome.edit_to_change, Outcome.edit_to_kick, Outcome.edit_to_tell, Outcome.outcome, Reasons.is_not_logged_in, Reasons.reasons, Verdict.actor_for, Verdict.command_verdict, Verdict.heard_verdict, Verdict.tokens_brought, Verdict.user_verdict}
pub use Rattle.mum_rules_user.specs.Laws.{AcceptsWhereNothingStands, EntersWherePermitted, GrantsWhereNothingStands, IgnoresForFirstReason, KeepsSuperUser, LeavesOwnToOthers, LogsInWhereNothingStands, MovesWherePermitted, NamesFirstMissing, OwnersAlone, RefusesForFirstLimit, RejectsForFirstLimit, RulesSpeechWherePermitted, SparesSuperUser, needs_of}
pub use Rattle.mum_rules_user.specs.Login.{edit_to_join, is_digest_of, is_not_the_owner, limits_of_login, limits_of_seat, name_given, password_given, tokens_kept}
pub use Rattle.mum_rules_user.specs.declared.message.UserMessage.{TheVariants.Join, TheVariants.Kick, TheVariants.Leave, TheVariants.Query, TheVariants.Target, TheVariants.Text, TheVariants.User, UserMessage}
unfoldable pub use Rattle.mum_rules_tree.specs.Decision.{is_open}
unfoldable pub use Rattle.mum_rules_user.specs.{Asked.payload_of, Outcome.answer_frame}
