-- The names that the proofs of this crate take from elsewhere, passed on from one place. Declares nothing.
pub use Rattle.std.proofs.{Math.Seq.take-nil, lemmas.Bool.Decides.nat_tests, lemmas.Bool.and_parts, lemmas.Bool.eq-eqb, lemmas.Bool.false≢true, lemmas.Bool.ne_eqb, lemmas.Bool.or_parts, lemmas.List.Elements.All-cons, lemmas.List.Elements.All-contains, lemmas.List.Elements.All-nil, lemmas.List.Elements.filter_map-append, lemmas.List.Sums.AllPass-from_list_all, lemmas.List.Sums.sum_by-cons, lemmas.List.append-nil, lemmas.List.length-map, lemmas.List.length-reverse, lemmas.Option.none-some, lemmas.Option.same_Some, lemmas.Slice.Eq.bytes_eq-Decides}
pub use Rattle.std.proofs.Common.{Bool, List, None, Option, Some, [], ap, arith, cond, false, filter, inl, inr, length, map, not, refl, subst, suc, sym, take, true, ℕ, ◌&&◌, ◌++◌, ◌+◌, ◌-◌, ◌<◌, ◌==◌, ◌||◌, ◌∙◌, ◌∷◌, ◌≡◌, ◌≢◌, ◌≤◌, ◌⊎◌}
pub use Rattle.std.specs.{List.All, List.Contains, List.cons_option, List.count_by, List.filter_map, List.list_all, List.list_any, Option.option_map, Option.option_map_or, Option.option_or, Str.bytes_eq}
pub use Rattle.std.specs.Prelude.{find, is_none, is_some, nat_le, nat_lt, sum_by, unwrap_or, ⊤, ◌^◌}
pub use Rattle.mum_base.specs.Codes.{deny_code, reason_code, reject_code}
pub use Rattle.mum_base.specs.declared.{name.NameFault.NameFault, name.NameFault.TheVariants.Empty, name.NameFault.TheVariants.TooLong, number.AccountId.AccountId, number.ChannelId.ChannelId, number.SessionId.SessionId, number.TheConstants.AccountId.SUPER_USER, number.TheConstants.ChannelId.ROOT, outcome.DenyType.DenyType, outcome.Reason.Reason, outcome.Reason.TheVariants.EmptyText, outcome.Reason.TheVariants.Gone, outcome.Reason.TheVariants.Malformed, outcome.Reason.TheVariants.NotLoggedIn, outcome.Reason.TheVariants.NotRead, outcome.Reason.TheVariants.NotThere, outcome.Reason.TheVariants.OfAnother, outcome.RejectType.RejectType, outcome.RejectType.TheVariants.InvalidUsername, outcome.RejectType.TheVariants.ServerFull, outcome.RejectType.TheVariants.UsernameInUse, outcome.RejectType.TheVariants.WrongServerPW, outcome.RejectType.TheVariants.WrongUserPW, outcome.RejectType.TheVariants.WrongVersion, perm.Perm.Perm}
pub use Rattle.mum_base.specs.declared.outcome.DenyType.TheVariants.{ChannelCountLimit, ChannelFull, ChannelListenerLimit, ChannelName, NestingLimit, SuperUser, TemporaryChannel, Text as Other, TextTooLong, UserListenerLimit}
pub use Rattle.mum_base.specs.declared.perm.TheConstants.Perm.{BAN, ENTER, KICK, LINK_CHANNEL, LISTEN, MAKE_CHANNEL, MAKE_TEMP_CHANNEL, MOVE, MUTE_DEAFEN, TEXT_MESSAGE, WRITE}
pub use Rattle.mum_policy.specs.{Limits.is_large_group, Limits.is_large_policy, Limits.is_long_whom, Member.Actor, Walk.holds, Walk.is_account}
pub use Rattle.mum_policy.specs.declared.policy.{AclEntry.AclEntry, ChannelPolicy.ChannelPolicy, Group.Group as GroupRow, Whom.TheVariants.Account, Whom.TheVariants.Group}
pub use Rattle.mum_tree.proofs.Public.{count_with, upward_within}
pub use Rattle.mum_tree.specs.Change.{Change, given_or, name_after, overlinks, pairs_with_all, pairs_without_all, parent_after, renames_or_moves}
pub use Rattle.mum_tree.specs.{Refusals.is_full, Refusals.name_of as name_here, Refusals.parent_of, State.Pair, State.TreeState, State.is_pair, State.next_number, State.starts_at, State.with_pair}
pub use Rattle.mum_tree.specs.Rows.{is_below, is_root, is_taken, is_temporary, is_there, nests, path, row_of}
pub use Rattle.mum_tree.specs.declared.channel.Row.{Row}
pub use Rattle.mum_users.proofs.Public.{SlotsRise-within, count-put_new, count_by-cons}
pub use Rattle.mum_users.specs.{Edit.is_crowded, Proper.is_sound, Sessions.is_used_up, Sessions.session_of, Targets.is_oversize}
pub use Rattle.mum_users.specs.State.{are_tokens, has_name, has_number, is_context, is_in, is_long_token, is_of_channel, is_of_session}
pub use Rattle.mum_users.specs.declared.{listening.ListenerPair.ListenerPair, target.TargetItem.TargetItem, target.TargetRow.TargetRow, user.User.User}
pub use Rattle.mum_part_laws.proofs.Public.{Tells, TellsEach, chain, chain_names, named, nested, on_way, over, same_bytes, tells_and, tells_any, tells_either, tells_eq, tells_le, tells_lt, tells_not, tells_off, tells_or, tells_so, temporary}
pub use Rattle.mum_part_laws.specs.{Firsts.IsFirst, Firsts.NamesFirst, Trees.HasName, Trees.IsOnWay, Trees.IsTemporary, Trees.NestsTooDeep}
pub use Rattle.mum_msg_state.specs.declared.{authenticate.Authenticate.Authenticate, channel_state.ChannelState.ChannelState, user_remove.UserRemove.UserRemove, user_state.UserState.UserState}
pub use Rattle.mum_msg_rule.specs.declared.{acl.Acl.Acl as AclMessage, acl_group.AclGroup.AclGroup, acl_line.AclLine.AclLine, target_block.TargetBlock.TargetBlock, voice_target.VoiceTarget.VoiceTarget}
pub use Rattle.mum_state.proofs.Public.{fit_proper, some_found}
pub use Rattle.mum_state.specs.{Applied.applied, Fits.fits, Fits.holds_of_given, Permissions.actor_from, Permissions.actor_with, Permissions.granted_to, Permissions.granted_where_there, Set.set_by, State.PolicyRow, State.StateValue, State.account_named, State.policy_of}
pub use Rattle.mum_state.specs.Proper.{IsProper, is_name, is_short, is_sound_channel, is_sound_entry, is_sound_policy, is_sound_user, is_text}
pub use Rattle.mum_state.specs.declared.{edit.Edit.Edit, verdict.Verdict.TheVariants.Accepted, verdict.Verdict.TheVariants.Answer, verdict.Verdict.TheVariants.Ignored, verdict.Verdict.TheVariants.Lacks, verdict.Verdict.TheVariants.Refused, verdict.Verdict.TheVariants.Rejected, verdict.Verdict.Verdict}
pub use Rattle.mum_rules_tree.proofs.Public.{AllOff, accepted_fits, accepts_where_nothing_stands_lem, all_off, ignores_for_first_reason_lem, outcome_at, told}
pub use Rattle.mum_rules_tree.specs.Asked.{Command, change_asked, channel, channel_or_root, command_of, describes, given_unless, is_named_there, is_number_there, is_other, is_query, is_to_be_temporary, linked_others, names_there, new_parent, others, parent_of_new, text_or_empty}
pub use Rattle.mum_rules_tree.specs.Decision.{Case, FitsWhereAccepted, Need, case_of, first_lack, first_standing, is_met, lack_of, need, way}
pub use Rattle.mum_rules_tree.specs.{Laws.IsFirstStanding, Laws.NoneStands, Laws.needs_of, Limits.limits, Limits.limits_of_new, Limits.new_number, Limits.takes_no_channels, Limits.without_parting, Needs.need_to_rule, Needs.needs, Needs.needs_to_link, Outcome.edit_to_change, Outcome.outcome, Policy.account, Policy.entry_asked, Policy.group_asked, Policy.has_twice, Policy.is_inherited, Policy.policy_asked, Policy.whom_asked, Reasons.is_gone, Reasons.reasons, Reasons.takes_no_edits, Tokens.tokens_for_once, Verdict.actor_named, Verdict.nobody, Verdict.tree_verdict}
pub use Rattle.mum_rules_tree.specs.declared.{message.TreeMessage.TheVariants.Acl, message.TreeMessage.TheVariants.Remove, message.TreeMessage.TheVariants.State, message.TreeMessage.TreeMessage, needs.Lack.Lack}
pub use Rattle.mum_rules_user.proofs.Public.{accepted_fits as user_accepted_fits, clear, logs_in_where_nothing_stands_lem, rejects_for_first_limit_lem}
pub use Rattle.mum_rules_user.specs.Asked.{channel_of, channels, channels_of, channels_there, command_of as user_command_of, is_empty_text, is_here, is_oneself, item_asked, new_channel, number_of_target, rules_speech, session_numbered, session_or, sets_own, sets_own_of_another, target_asked}
pub use Rattle.mum_rules_user.specs.Limits.{has_long_text, is_protected, is_super_user, limits as user_limits, pairs_with, pairs_with as user_pairs_with, room_of, takes_nobody}
pub use Rattle.mum_rules_user.specs.{Login.is_digest_of, Login.is_no_guest, Login.is_not_the_owner, Login.is_old, Login.limits_of_login, Needs.either_way, Needs.is_ban, Needs.needs_to_kick, Needs.needs_to_listen, Needs.needs_to_rule_speech, Reasons.is_gone_for, Reasons.is_leave, Reasons.is_login, Verdict.actor_for, Verdict.user_verdict}
pub use Rattle.mum_rules_user.specs.declared.message.UserMessage.{TheVariants.Join, TheVariants.Kick, TheVariants.Leave, TheVariants.Query, TheVariants.Target, TheVariants.Text, TheVariants.User as Changes, UserMessage}
pub use Rattle.mum_limits_laws.specs.ChannelLimits.{AgainstChanging, AgainstMaking, AgainstRemoving, AgainstRuling, ChangesAreRefusedForTheFirst, ComesTwice, IsLargeGroup, IsLargePolicy, IsLongLine, IsNameThere, IsPlaced, NewChannelsAreRefusedForTheFirst, PoliciesAreRefusedForTheFirst, RemovalsAreRefusedForTheFirst, TreeLimit, groups_set, lines_set, name_of, name_then, number, parent_then}
pub use Rattle.mum_limits_laws.specs.ChannelNeeds.{ChangesAreDeniedForTheFirst, Describes, LacksToChange, LacksToMake, LacksToRemove, LacksToRule, Links, NewChannelsAreDeniedForTheFirst, PoliciesAreDeniedForTheFirst, RemovalsAreDeniedForTheFirst, TreeNeed, order_of_change, permission, place}
pub use Rattle.mum_limits_laws.specs.{Denials.IsDeniedFor, Denials.IsRefusedFor, Denials.MayNot, Denials.MayNotWith, Full.ChannelsTooManyAreRefused, Full.FullChannelsAreNotEntered, Full.ListenersTooManyAreRefused, Full.PoliciesTooLargeAreRefused, Full.SixtyFifthLinksAreRefused, Full.TargetsTooLargeAreRefused, Heard.AgainstHearing, Heard.IsNobody, Heard.NamesNobody, Heard.TreeMessagesAreIgnoredForTheFirst, HeardUsers.GivesOwn, HeardUsers.IsEmptyText, HeardUsers.IsGone, HeardUsers.IsNoSession, HeardUsers.IsOfAnother, HeardUsers.NamesNoUser, HeardUsers.UserMessagesAreIgnoredForTheFirst, Logins.AgainstLogin, Logins.NobodyComesAgainstOne, Logins.RejectionsNameTheFirst, Logins.name_in, Logins.order, Logins.password_in}
pub use Rattle.mum_limits_laws.specs.UserLimits.{AgainstAiming, AgainstKicking, AgainstWriting, EntersFull, IsProtected, KicksAreRefusedForTheFirst, TargetsAreRefusedForTheFirst, TextsAreRefusedForTheFirst, UserChangesAreRefusedForTheFirst, UserLimit, listening_then}
pub use Rattle.mum_limits_laws.specs.UserNeeds.{KicksAreDeniedForTheFirst, LacksToKick, LacksToWrite, RulesSpeech, TextsAreDeniedForTheFirst, UserChangesAreDeniedForTheFirst, UserNeed, order_of_text, place_of_change, place_of_text, tokens_with}
pub use Rattle.mum_limits_laws.specs.Within.{AreFewChannels, AreFewSessions, IsSmallPolicy, IsSmallTarget, IsSmallUser, TreeCommandsKeepWithin, UserCommandsKeepWithin, ValidStatesAreWithin}
unfoldable pub use Rattle.sha2.specs.Sha256.{sha256}
unfoldable pub use Rattle.mum_tree.specs.Rows.{upward}
unfoldable pub use Rattle.mum_rules_tree.specs.{Asked.payload_of, Decision.is_open, Outcome.answer_frame}
