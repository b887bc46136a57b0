-- The names that the proofs of this crate take from elsewhere, passed on from one place. Declares nothing.
pub use Rattle.std.proofs.lemmas.Bool.{and_from, and_parts, both_ways, eq-eqb, eqb-false, eqb-true, false≢true, le-leb, ltb-false, ne_eqb}
pub use Rattle.std.proofs.lemmas.Result.{IfOk-weaker, on_ok_weaker}
pub use Rattle.std.proofs.Common.{Bool, Err, IfOk, IsTrue, List, None, Ok, Option, Result, Some, [], ap, arith, cond, eqb, false, inl, inr, length, length-append, map, not, refl, rules, subst, sym, true, unwrap_or, ℕ, ℤ, ◌&&◌, ◌+◌, ◌==◌, ◌||◌, ◌∙◌, ◌∷◌, ◌≡◌, ◌≤◌, ◌⊎◌}
pub use Rattle.std.specs.{List.AllByRecursion, List.filter, List.list_any, Option.option_map, Option.option_map_or}
pub use Rattle.std.specs.Prelude.{codes}
pub use Rattle.mum_base.specs.Codes.{deny_code, reason_code}
pub use Rattle.mum_base.specs.declared.{number.ChannelId.ChannelId, number.SessionId.SessionId, number.Slot.Slot, outcome.DenyType.TheVariants.Text, outcome.Reason.TheVariants.Gone, outcome.Reason.TheVariants.NotLoggedIn, outcome.Reason.TheVariants.NotRead, outcome.Reason.TheVariants.NotThere, perm.Perm.Perm}
pub use Rattle.mum_frame.specs.Frame.{frame_spelling}
pub use Rattle.mum_frame.specs.declared.{frame.Frame.Frame, frame.TheConstants.PAYLOAD_LIMIT, kind.TheConstants.AUTHENTICATE, kind.TheConstants.PING, kind.TheConstants.UDP_TUNNEL, kind.TheConstants.VERSION}
pub use Rattle.mum_fields.proofs.Public.{length-shortest}
pub use Rattle.mum_fields.specs.Table.{Blocks, Field, Layout, Nothing, Table, Values, bool, decoded, each_message, items, layout, parts, row_items, spelled, string, uint32}
pub use Rattle.mum_fields.specs.Written.{written}
pub use Rattle.mum_fields.specs.declared.shape.Label.TheVariants.{Optional, Repeated, Required}
pub use Rattle.mum_policy.specs.Member.{Actor}
pub use Rattle.mum_policy.specs.declared.policy.ChannelPolicy.{ChannelPolicy}
pub use Rattle.mum_tree.specs.{Refusals.parent_of, Rows.is_below}
pub use Rattle.mum_tree.specs.declared.channel.ChannelInfo.{ChannelInfo}
pub use Rattle.mum_users.specs.{Edit.UserEdit, Edit.changed_user, State.RosterState, State.has_number, State.is_in}
pub use Rattle.mum_users.specs.declared.user.User.{User as UserRow}
pub use Rattle.mum_msg_state.specs.{Messages.ping, Messages.reject, Messages.user_remove, Messages.version, Parts.user_state_back}
pub use Rattle.mum_msg_state.specs.declared.{channel_state.ChannelState.ChannelState, user_remove.UserRemove.UserRemove, user_state.UserState.UserState}
pub use Rattle.mum_msg_rule.specs.Messages.{permission_denied, text_message}
pub use Rattle.mum_msg_rule.specs.declared.{permission_denied.PermissionDenied.PermissionDenied, text_message.TextMessage.TextMessage}
pub use Rattle.mum_state.proofs.Public.{any_map, heard, heard_after, silent_after, targeted_sessions}
pub use Rattle.mum_state.specs.{Applied.applied, Parts.user_parts, Permissions.granted_where_there, Set.moved_up, Set.set_by, State.StateValue, State.policy_of}
pub use Rattle.mum_state.specs.declared.{edit.Edit.Edit, edit.Edit.TheVariants.EditChannel, edit.Edit.TheVariants.MakeChannel, edit.Edit.TheVariants.RemoveChannel, edit.Edit.TheVariants.SetAcl, edit.Edit.TheVariants.SetTarget, edit.Edit.TheVariants.SetTokens, verdict.Verdict.TheVariants.Accepted, verdict.Verdict.TheVariants.Answer, verdict.Verdict.TheVariants.Ignored, verdict.Verdict.TheVariants.Lacks, verdict.Verdict.TheVariants.Refused, verdict.Verdict.Verdict}
pub use Rattle.mum_rules_tree.proofs.Public.{all_off, outcome_at}
pub use Rattle.mum_rules_tree.specs.{Asked.Command as TreeCommand, Asked.channel_or_root, Asked.command_of as tree_command_of, Asked.is_to_be_temporary, Asked.parent_of_new, Asked.text_or_empty, Decision.first_lack, Decision.first_standing, Denial.denial, Denial.denial_of_lack, Denial.denial_of_limit, Denial.rejection, Laws.needs_of as needs_of_tree, Limits.limits as limits_of_tree, Limits.new_number, Outcome.edit_to_change as edit_to_change_channel, Outcome.edit_to_make, Outcome.info_of_new, Outcome.outcome as outcome_of_tree, Policy.policy_asked, Reasons.reasons as reasons_of_tree, Verdict.actor_named, Verdict.tree_verdict}
pub use Rattle.mum_rules_tree.specs.declared.{message.TreeMessage.TreeMessage, reason.TheConstants.COMMAND_LIMIT}
pub use Rattle.mum_notify.proofs.Public.{row-few, written-append}
pub use Rattle.mum_notify.specs.{Channels.numbers, Channels.said_unless, Gone.user_kicked, Notices.FitsFrame, Parcels.IsWithinFrame, Texts.session_numbers, Texts.text_told}
pub use Rattle.mum_rules_user.proofs.Public.{enters_where_permitted_lem}
pub use Rattle.mum_rules_user.specs.Asked.{channels, command_of, is_oneself, new_channel, number_of_target, session_numbered, session_or, target_asked}
pub use Rattle.mum_rules_user.specs.{Laws.needs_of, Limits.limits, Login.limits_of_login, Login.tokens_kept, Needs.is_ban, Needs.needs, Outcome.answer_to_query, Outcome.edit_to_change, Outcome.edit_to_kick, Outcome.edit_to_tell, Outcome.outcome, Reasons.reasons, Verdict.actor_for, Verdict.heard_verdict, Verdict.user_verdict}
pub use Rattle.mum_rules_user.specs.declared.message.UserMessage.{TheVariants.Join, TheVariants.Kick, TheVariants.Leave, TheVariants.Query, TheVariants.Target, UserMessage}
pub use Rattle.mum_session.specs.Action.{Decoded, after_login, asks, bans_action, command_action, commands_after_login, ignore, kept_version, login_action, other_action, ping_action, taken_before_login, tree_or_user_action, version_action, version_after, voice_action}
pub use Rattle.mum_session.specs.{Heard.command_heard, Heard.heard_map, Heard.login_heard, Heard.read, Laws.EntersWherePermitted, Laws.MakesItsOwn, Laws.RemovesAround, Laws.SendsBans, Laws.is_member, Laws.is_member_below, Laws.may_enter, Machine.Machine, Machine.is_rejected, Machine.session_of, Reply.JoinsAs, Reply.reply_end, Reply.sendable, Reply.wire, Verdict.edits_of}
pub use Rattle.mum_session.specs.declared.{action.Action.Action, action.Action.TheVariants.Bans, action.TheConstants.BAN_LIST, command.Asked.Asked, command.Asked.TheVariants.Tree, command.Asked.TheVariants.User, heard.Heard.Heard, heard.Heard.TheVariants.Malformed, heard.Heard.TheVariants.Message, heard.Heard.TheVariants.TooLong, session.Stage.Stage, session.Stage.TheVariants.BeforeLogin, session.Stage.TheVariants.LoggedIn, session.Stage.TheVariants.Rejected}
unfoldable pub use Rattle.mum_rules_tree.specs.{Denial.denied_frame, Denial.rejected_frame, Outcome.answer_frame as answer_of_tree}
unfoldable pub use Rattle.mum_notify.specs.Parcels.{text_payload, user_gone_payload}
unfoldable pub use Rattle.mum_rules_user.specs.{Asked.payload_of, Outcome.answer_frame}
unfoldable pub use Rattle.mum_session.specs.{Action.action, Action.after_frame, Verdict.verdict}
