-- The names that the proofs of this crate take from elsewhere, passed on from one place. Declares nothing.
pub use Rattle.std.proofs.{Math.Seq.take-nil, lemmas.Bool.Decides.nat_tests, lemmas.List.Folds.find-append, lemmas.List.append-nil, lemmas.Nat.and_le_l, lemmas.Slice.Eq.bytes_eq-Decides}
pub use Rattle.std.proofs.lemmas.Bool.{and_from, and_parts, both_ways, cases_Bool, eq-eqb, eqb-true, ltb-true, ne_eqb, not-false, not-true, or_parts}
pub use Rattle.std.proofs.lemmas.List.Elements.{All-cons, All-contains, All-contains_itself, All-filter, All-head, All-nil, All-tail, All-take}
pub use Rattle.std.proofs.Common.{Bool, List, None, Option, Some, [], ap, arith, bit_and, cond, false, inl, inr, length, map, not, refl, subst, suc, sym, take, true, true≢false, zero, ℕ, ℤ, ⊎_elim, ◌&&◌, ◌++◌, ◌-◌, ◌<◌, ◌==◌, ◌^◌, ◌||◌, ◌∙◌, ◌∷◌, ◌≡◌, ◌≢◌, ◌≤◌, ◌⊎◌}
pub use Rattle.std.specs.{List.All, List.AllZip, List.Contains, List.filter, List.find, List.list_all, List.list_any, Option.is_none, Option.is_some, Option.option_map, Option.option_map_or, Option.option_or, Option.unwrap_or, Str.bytes_eq}
pub use Rattle.std.specs.Prelude.{bit_or, nat_lt}
pub use Rattle.mum_base.specs.{Channels.is_among, Codes.reason_code, Perm.without_bits}
pub use Rattle.mum_base.specs.declared.{number.AccountId.AccountId, number.ChannelId.ChannelId, number.SessionId.SessionId, number.TheConstants.AccountId.SUPER_USER, number.TheConstants.ChannelId.ROOT, outcome.DenyType.DenyType, outcome.Reason.Reason, outcome.Reason.TheVariants.NotThere, perm.Perm.Perm}
pub use Rattle.mum_base.specs.declared.perm.TheConstants.Perm.{ALL, BAN, ENTER, KICK, LINK_CHANNEL, LISTEN, MAKE_CHANNEL, MAKE_TEMP_CHANNEL, MOVE, MUTE_DEAFEN, ROOT_ONLY, SPEAK, START, TRAVERSE, WHISPER, WRITE}
pub use Rattle.mum_policy.proofs.Public.{entries_decide, held_after-append, held_after-one, holds_and, holds_none, no_way, nothing_elsewhere, super_may_all}
pub use Rattle.mum_policy.specs.Laws.{AreDeniesIn32Bits, IsPermission, IsWayOpen, held_after, is_held, is_super_user, names_permission, passes}
pub use Rattle.mum_policy.specs.{Limits.is_large_policy, Member.Actor, Member.PolicyMap, Walk.full_set, Walk.holds, Walk.is_account, Walk.marked, Walk.on_root}
pub use Rattle.mum_policy.specs.declared.policy.{AclEntry.AclEntry, ChannelPolicy.ChannelPolicy, Whom.TheVariants.Account, Whom.TheVariants.Group}
pub use Rattle.mum_tree.proofs.Public.{change_row, kept_row, list_any-reverse, number_found, own_after, pair_is, row_of-map, there_after}
pub use Rattle.mum_tree.specs.{Change.given_or, Change.pairs_with_all, Change.pairs_without_all, Change.with_change, Change.with_given, Places.least_place, Refusals.name_of, Refusals.parent_of, Rows.is_below, Rows.is_root, Rows.is_temporary, Rows.is_there, Rows.number, Rows.path, Rows.row_of, Walks.linked}
pub use Rattle.mum_tree.specs.State.{Pair, are_linked, below, is_above, is_pair as is_link, new_row, pairs_with, pairs_without, with_pair, without_subtree}
pub use Rattle.mum_tree.specs.declared.{channel.Channel.Channel, channel.ChannelInfo.ChannelInfo, channel.Row.Row, fault.TreeFault.TheVariants.NoChannel, fault.TreeFault.TheVariants.RootFixed}
pub use Rattle.mum_users.proofs.Public.{listens_as_told_lem, others_listen_as_before_lem}
pub use Rattle.mum_users.specs.{Edit.UserEdit, Edit.changed_user, Edit.edited, Flags.silence_after, Listeners.listens, Sessions.left, Sessions.session_of, Targets.target_below, Targets.target_of, Targets.targeted, Targets.with_target}
pub use Rattle.mum_users.specs.State.{RosterState, has_number, is_in, is_long_token, is_of, is_of_session, is_pair, is_target}
pub use Rattle.mum_users.specs.declared.{listening.ListenerPair.ListenerPair, target.Target.Target as VoiceTargets, target.TargetItem.TargetItem, target.TargetRow.TargetRow, user.TheConstants.TOKENS, user.User.User}
pub use Rattle.mum_msg_state.specs.declared.{authenticate.Authenticate.Authenticate, channel_remove.ChannelRemove.ChannelRemove, channel_state.ChannelState.ChannelState, user_remove.UserRemove.UserRemove, user_state.UserState.UserState}
pub use Rattle.mum_msg_rule.specs.declared.{acl.Acl.Acl as AclMessage, acl_group.AclGroup.AclGroup, acl_line.AclLine.AclLine, target_block.TargetBlock.TargetBlock, text_message.TextMessage.TextMessage, voice_target.VoiceTarget.VoiceTarget}
pub use Rattle.mum_state.proofs.Public.{Each, any_map, each_any, each_both, each_filter, each_find, each_from_all, each_map, each_passes, fit_proper, found_passes, heard, heard_after, numbers_of_fitting, passing_any, shown, silent_after, silent_anew, some_found, suppressed_where_silent_lem, targeted_sessions, there_known, there_without_subtree}
pub use Rattle.mum_state.specs.{Applied.applied, Emptied.has_member, Emptied.is_emptied, Fits.fits, Fits.gives_right_numbers, Fits.is_countable, Fits.sets_properly, Kinds.is_empty, Kinds.sets_policy, Kinds.sets_tokens_of, Parts.channel_edit, Parts.session_edit, Parts.user_parts, Permissions.actor_from, Permissions.actor_with, Permissions.granted_to, Permissions.granted_where_there, Permissions.may_speak, Proper.IsProper, Proper.are_permissions, Proper.is_name, Proper.is_sound_entry, Proper.is_sound_policy, Set.moved_up, Set.set_by, Set.set_policy, Set.with_maker_in, Set.with_policy, State.PolicyRow, State.StateValue, State.open_policy, State.policy_of, State.policy_row, Suppression.is_cleared, Suppression.is_newcomer, Suppression.is_set_anew}
pub use Rattle.mum_state.specs.declared.{edit.Edit.Edit, edit.Edit.TheVariants.Kick as Kicks, edit.Edit.TheVariants.Leave as Leaves, edit.Edit.TheVariants.MakeChannel, edit.Edit.TheVariants.RemoveChannel, edit.Edit.TheVariants.SetAcl, edit.Edit.TheVariants.SetTarget, edit.Edit.TheVariants.SetTokens, verdict.Verdict.TheVariants.Accepted, verdict.Verdict.TheVariants.Answer, verdict.Verdict.TheVariants.Ignored, verdict.Verdict.Verdict}
pub use Rattle.mum_rules_tree.proofs.Public.{accepted_fits, all_met_where, all_off, outcome_at, told}
pub use Rattle.mum_rules_tree.specs.Asked.{Command, change_asked, channel, channel_or_root, command_of, describes, given_unless, is_named_there, is_other, is_query, is_to_be_temporary, linked_others, names_there, new_parent, others, parent_of_new, text_or_empty}
pub use Rattle.mum_rules_tree.specs.{Decision.FitsWhereAccepted, Decision.Need, Decision.first_lack, Decision.first_standing, Decision.is_met, Decision.need, Decision.way, Laws.AllMet, Laws.needs_of, Limits.limits, Limits.new_number, Needs.needs, Needs.needs_to_describe, Needs.needs_to_link, Needs.needs_to_move, Outcome.edit_to_change, Outcome.edit_to_make, Outcome.info_of_new, Outcome.outcome, Policy.account, Policy.accounts, Policy.entry_asked, Policy.group_asked, Policy.policy_asked, Policy.whom_asked, Reasons.is_gone, Reasons.reasons, Reasons.takes_no_edits, Tokens.tokens_for_once, Verdict.actor_named, Verdict.nobody, Verdict.tree_verdict}
pub use Rattle.mum_rules_tree.specs.declared.{message.TreeMessage.TheVariants.Acl, message.TreeMessage.TheVariants.Remove, message.TreeMessage.TheVariants.State, message.TreeMessage.TreeMessage, needs.Lack.Lack}
pub use Rattle.mum_route.proofs.Public.{each_hearing, found_number, found_own, item_context, kept_from, talk_context}
pub use Rattle.mum_route.specs.{Context.code, Cover.cover, Cover.spread, Hearing.is_in_group, Hearing.may as may_in_route, Laws.IsItemContext, Laws.IsTalkContext, Laws.Listens, Route.Member, Route.by_items, Route.by_talk, Route.items_of, Route.route}
pub use Rattle.mum_route.specs.declared.{context.Context.Context, routes.TheConstants.TALK}
pub use Rattle.mum_rules_user.proofs.Public.{clear, enters_where_permitted_lem, keeps_super_user_lem, leaves_own_to_others_lem, moves_where_permitted_lem, rules_speech_where_permitted_lem, spares_super_user_lem}
pub use Rattle.mum_rules_user.specs.Asked.{channel_of, channels, clears_suppression, is_here, is_oneself, item_asked, new_channel, number_of_target, rules_speech, session_numbered, session_or, sets_own, target_asked}
pub use Rattle.mum_rules_user.specs.{Login.tokens_kept, Needs.is_ban, Needs.needs_to_kick, Needs.needs_to_listen, Needs.needs_to_rule_speech, Outcome.edit_to_kick, Outcome.edit_to_tell, Verdict.actor_for, Verdict.tokens_brought, Verdict.user_verdict}
pub use Rattle.mum_rules_user.specs.declared.message.UserMessage.{TheVariants.Join, TheVariants.Kick, TheVariants.Leave, TheVariants.Query, TheVariants.Target, TheVariants.Text, TheVariants.User as Changes, UserMessage}
pub use Rattle.mum_rights_laws.specs.{ByLists.HasByLists, ByLists.IsBrought, ByLists.IsGranted, ByLists.IsLeft, ByLists.LeadsOn, ByLists.NoneNames, ByLists.RightsAreByLists, ChannelRequests.ChannelStatesAreDone, ChannelRequests.ChannelsAreMadeAsAsked, ChannelRequests.IsChanged, ChannelRequests.IsNew, ChannelRequests.OtherChannelsStand, Contents.IsEntryAsked, Contents.IsGroupAsked, Contents.IsPolicyAsked, Contents.IsWhomAsked, Contents.LinksAreDone, Contents.PoliciesAreDone, Departures.BansWherePermitted, Departures.GoesWherePermitted, Departures.IsKicked, Departures.NobodyComes, HeardByLists.IsAimedAt, HeardByLists.IsAt, HeardByLists.IsGrantedIn, HeardByLists.TalkIsHeardByLists, HeardByLists.WhispersAreHeardByLists, Listed.is_listed, Moves.Enters, Moves.IsMoved, Moves.MovesArePermitted, Own.ListensWherePermitted, Own.OthersKeepTheirOwn, Own.SessionsStayWhoTheyAre, Residents.EntersWhatItMade, Residents.IsMovedUp, Residents.NobodyComesOrGoes, Residents.ResidentsAreHeard, Residents.ResidentsKeepTheirOwn, Residents.ResidentsStay, Residents.TheServerStays, Rights.may, Rights.may_with, Speech.LogsInAgain, Speech.MayRuleSpeech, Speech.SpeechIsRuledWherePermitted, Speech.SuppressionIsRuledWherePermitted, Standing.IsEmptied, Standing.IsSetAsBefore, Standing.LinkedAsBefore, Standing.OfLasting, Standing.OfStaying, Targets.IsItemAsked, Targets.IsTargetAsked, Targets.TargetsAreDone, TreeCommands.AsksForPolicy, TreeCommands.AsksToChange, TreeCommands.AsksToRemove, TreeCommands.OfTreeCommands, Untouched.ChannelsStand, Untouched.ChannelsStandIn, Untouched.SettingsStand, UserCommands.IsAbout, UserCommands.IsActor, UserCommands.OfUserCommands, UserCommands.tokens_in, UserRequests.IsAsAsked, UserRequests.LoginsRenewTokens, UserRequests.OtherTargetsStand, UserRequests.TheUnnamedStand, UserRequests.UserStatesAreDone, UserRequests.deaf_asked, UserRequests.mute_asked}
pub use Rattle.mum_rights_laws.specs.Channels.{AsksToLink, ChannelsStayWhatTheyAre, DescribedWherePermitted, IsRemoved, LinkedWherePermitted, MadeWherePermitted, PlacedWherePermitted, RemovedWherePermitted, RuledWherePermitted}
unfoldable pub use Rattle.mum_policy.specs.{Laws.counting, Laws.matching, Walk.perm as walked}
unfoldable pub use Rattle.mum_tree.specs.Rows.{upward}
unfoldable pub use Rattle.mum_rules_tree.specs.{Decision.is_open, Outcome.answer_frame}
