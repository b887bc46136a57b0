-- The names that the proofs of this crate take from elsewhere, passed on from one place. Declares nothing.
pub use Rattle.std.proofs.lemmas.{Bool.Decides.nat_tests, Grind.common_steps, List.Elements.All-cons, List.Elements.All-head, List.Elements.All-nil, List.Elements.All-tail, List.Elements.All-weaker, List.Folds.list_all-append, List.get_or-set_other, List.map-append, Nat.and_assoc, Nat.and_comm, Option.none-some}
pub use Rattle.std.proofs.lemmas.Bool.{and_from, and_parts, both_ways, cases_Bool, cases_eq, cases_lt, cond-false, cond-true, cond_both, eq-eqb, eqb-false, eqb-true, false_from_ne_true, leb-false, lt-ltb, ltb-false, ltb-true, ne_eqb, not-false, not-true, not_from_false, not_from_true, or_cases, or_from, or_left, or_parts, or_right}
pub use Rattle.std.proofs.Common.{Bool, Err, List, None, Ok, Option, Result, Some, [], ap, arith, cond, drop, eqb, false, get_or, leb, length, ltb, map, not, refl, rules, set, subst, sym, take, true, unwrap_or, ℕ, ⊎_elim, ◌&&◌, ◌++◌, ◌+◌, ◌-◌, ◌<◌, ◌^◌, ◌||◌, ◌∙◌, ◌∷◌, ◌≡◌, ◌≢◌, ◌≤◌}
pub use Rattle.std.specs.{Bool.IsTrue, Bool.⊤, List.All, List.AllPairs, List.count_by, List.filter, List.find, List.list_all, List.list_any, Option.is_none, Option.is_some, Option.option_map, Option.option_map_or, Option.option_or, Result.IfOk, Str.bytes_eq}
pub use Rattle.std.specs.Prelude.{bit_and}
pub use Rattle.mum_base.specs.{Channels.is_among, Codes.deny_code, Codes.reason_code}
pub use Rattle.mum_base.specs.declared.{number.ChannelId.ChannelId, number.SessionId.SessionId, number.TheConstants.ChannelId.ROOT, outcome.DenyType.DenyType, outcome.DenyType.TheVariants.ChannelName, outcome.DenyType.TheVariants.NestingLimit, outcome.DenyType.TheVariants.TemporaryChannel, outcome.DenyType.TheVariants.Text, outcome.DenyType.TheVariants.TextTooLong, outcome.Reason.Reason, outcome.Reason.TheVariants.Gone, outcome.Reason.TheVariants.NotThere, outcome.Reason.TheVariants.TooLong, perm.Perm.Perm, perm.TheConstants.Perm.ALL, perm.TheConstants.Perm.LINK_CHANNEL, perm.TheConstants.Perm.WRITE}
pub use Rattle.mum_policy.specs.{Limits.is_large_policy, Member.Actor, Member.actor_of, Walk.holds}
pub use Rattle.mum_policy.specs.declared.policy.{ChannelPolicy.ChannelPolicy, Group.Group}
pub use Rattle.mum_tree.proofs.Public.{count_le_at, none_marked, number_found, parent_there, placed_within, root_row, row_stands, same_number, some_row, the_root}
pub use Rattle.mum_tree.specs.Change.{Change, change_of, fault_of_edit, is_new_partner, is_partner_after, name_after, names_there as change_names_there, overlinks, parent_after, renames_or_moves}
pub use Rattle.mum_tree.specs.{Refusals.fault_of_add, Refusals.fault_of_placement, Refusals.fault_of_remove, Refusals.is_full, Refusals.parent_of, State.TreeState, State.are_linked, State.next_number, State.partners}
pub use Rattle.mum_tree.specs.Rows.{is_below, is_root, is_taken, is_temporary, is_there, nests, number, path, row_of}
pub use Rattle.mum_tree.specs.declared.{channel.Row.Row, channel.TheConstants.PATH_LIMIT, fault.TreeFault.TreeFault, links.TheConstants.CHANNEL_LINK_LIMIT}
pub use Rattle.mum_tree.specs.declared.fault.TreeFault.TheVariants.{Count, LinkCount, Nesting, NoChannel, RootFixed, SameName, TemporaryParent, UnderItself}
pub use Rattle.mum_users.specs.{Sessions.session_of, State.RosterState, State.has_number}
pub use Rattle.mum_users.specs.declared.user.User.{User}
pub use Rattle.mum_msg_state.specs.declared.channel_state.ChannelState.{ChannelState}
pub use Rattle.mum_msg_rule.specs.declared.{acl.Acl.Acl as AclMessage, acl_line.AclLine.AclLine}
pub use Rattle.mum_state.specs.{Fits.fits, Fits.gives_right_numbers, Fits.holds_of_given, Fits.is_countable, Fits.sets_properly, Kinds.is_empty, Named.given, Named.named_account, Named.named_channels, Named.named_sessions, Permissions.actor_at, Permissions.actor_from, Permissions.home, Proper.IsProper, Proper.is_name, Proper.is_sound_entry, Proper.is_text, State.PolicyRow, State.StateValue, State.has_account, State.policy_of}
pub use Rattle.mum_state.specs.declared.{count.TheConstants.EDIT_LIMIT, edit.Edit.Edit, edit.Edit.TheVariants.RemoveChannel, edit.Edit.TheVariants.SetAcl, verdict.Verdict.TheVariants.Accepted, verdict.Verdict.TheVariants.Answer, verdict.Verdict.TheVariants.Ignored, verdict.Verdict.TheVariants.Lacks, verdict.Verdict.TheVariants.Refused, verdict.Verdict.Verdict}
pub use Rattle.mum_rules_tree.specs.Asked.{Command, change_asked, channel, channel_or_root, command_of, given_unless, is_named_there, is_number_there, is_other, is_query, names_there, names_there as names_there_in, new_parent, others, parent_of_new, text_or_empty}
pub use Rattle.mum_rules_tree.specs.Decision.{AreMet, Case, FitsWhereAccepted, Need, all_met, case_of, first_lack, first_standing, is_met, lack_of, need, unless_lacking, unless_refused, way}
pub use Rattle.mum_rules_tree.specs.{Denial.denial, Needs.need_to_rule, Needs.needs, Needs.needs_to_link, Outcome.answer_to_query, Outcome.edit_to_change, Outcome.edit_to_make, Outcome.outcome, Reasons.is_gone, Reasons.reasons, Reasons.takes_no_edits, Tokens.tokens_for_once, Verdict.actor_named, Verdict.command_verdict, Verdict.nobody, Verdict.tree_verdict}
pub use Rattle.mum_rules_tree.specs.Laws.{AcceptsWhereNothingStands, AllMet, GrantsWhereNothingStands, IgnoresForFirstReason, IsAcceptedOrAnswered, IsFirstMissing, IsFirstStanding, NamesFirstMissing, NoneStands, RefusesForFirstLimit, WritersSetPolicies, needs_of}
pub use Rattle.mum_rules_tree.specs.Limits.{limit_by_cause, limits, limits_of_change, limits_of_new, limits_of_policy, limits_of_removal, new_number, without_parting}
pub use Rattle.mum_rules_tree.specs.Policy.{accounts, entry_asked, group_asked, group_told, has_twice, is_inherited, line_told, numbers, policy_asked}
pub use Rattle.mum_rules_tree.specs.declared.{message.TreeMessage.TheVariants.Acl, message.TreeMessage.TheVariants.Remove, message.TreeMessage.TheVariants.State, message.TreeMessage.TreeMessage, needs.Lack.Lack, reason.TheConstants.COMMAND_LIMIT}
unfoldable pub use Rattle.mum_rules_tree.specs.{Asked.payload_of, Decision.is_open, Denial.denied_frame, Denial.rejected_frame, Outcome.answer_frame}
