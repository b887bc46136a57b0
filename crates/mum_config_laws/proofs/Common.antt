-- The names that the proofs of this crate take from elsewhere, passed on from one place. Declares nothing.
pub use Rattle.std.proofs.lemmas.{Bool.Decides.nat_tests, Bool.and_parts, Bool.eq-eqb, Bool.eqb-true, Bool.false≢true, Bool.ne_eqb, List.map-append, Option.none-some, Option.same_Some, Slice.Eq.bytes_eq-Decides}
pub use Rattle.std.proofs.Common.{Bool, Err, List, None, Ok, Option, Result, Some, [], ap, append_assoc, arith, cond, eqb, false, get_or, inl, inr, length, map, not, refl, subst, suc, sym, true, zero, ℕ, ◌&&◌, ◌*◌, ◌++◌, ◌+◌, ◌<◌, ◌==◌, ◌||◌, ◌∙◌, ◌∷◌, ◌≡◌, ◌≢◌, ◌≤◌, ◌⊎◌}
pub use Rattle.std.specs.{List.Contains, List.flat_map, List.list_any, Option.option_and_then, Option.option_map, Option.option_map_or, Result.result_unwrap_or, Str.bytes_eq}
pub use Rattle.std.specs.Prelude.{bit_and, codes, find, is_ok, is_some, nat_eq, nat_lt, pos, slice_index_or, unwrap_or}
pub use Rattle.hex.specs.Hex.{decode_sized}
pub use Rattle.indexmap.specs.IndexMap.{insert_entry}
pub use Rattle.serde_json.specs.Data.{Data, Items, array, boolean, float, item, negative, no_items, number, string, unsigned}
pub use Rattle.serde_json.specs.{Find.as_number, Find.as_u64, Find.get, Read.read}
pub use Rattle.mum_base.specs.Codes.{reason_code, reject_code}
pub use Rattle.mum_base.specs.declared.{name.TheConstants.NAME_LIMIT, name.TheConstants.TEXT_LIMIT, number.ChannelId.ChannelId, number.TheConstants.ChannelId.ROOT, outcome.Reason.Reason, outcome.RejectType.RejectType, outcome.RejectType.TheVariants.InvalidUsername, outcome.RejectType.TheVariants.WrongServerPW, outcome.RejectType.TheVariants.WrongUserPW, outcome.RejectType.TheVariants.WrongVersion, perm.TheConstants.Perm.ALL}
pub use Rattle.mum_policy.specs.declared.policy.{AclEntry.AclEntry, ChannelPolicy.ChannelPolicy, Group.Group as GroupRow, TheConstants.ENTRIES, TheConstants.GROUPS, TheConstants.GROUP_ACCOUNTS, Whom.TheVariants.Group}
pub use Rattle.mum_tree.proofs.Public.{changed_none}
pub use Rattle.mum_tree.specs.{Change.Change, Change.given_or, Change.with_given, Places.least_place, Rows.number as number_of_row}
pub use Rattle.mum_tree.specs.State.{Pair, TreeState, changed, is_above, is_pair, new_row, pairs_with, plain_info, root_alone, with_info, with_new, with_pair}
pub use Rattle.mum_tree.specs.declared.channel.{Channel.Channel, ChannelInfo.ChannelInfo, Row.Row}
pub use Rattle.mum_state.proofs.Public.{Each, each_append, each_from_all, each_map, each_so, map_stays}
pub use Rattle.mum_state.specs.{After.all_fit, After.led_to, Applied.applied, Fits.fits, Fits.gives_right_numbers, Fits.is_countable, Fits.sets_properly, Kinds.is_of_configuration, Named.names_there, Parts.channel_parts, Proper.is_name, Set.set_policy, Set.with_policy}
pub use Rattle.mum_state.specs.State.{PolicyRow, StateValue, account_below, account_named, empty_state, is_named, open_policy, policy_row, with_account}
pub use Rattle.mum_state.specs.declared.{account.Account.Account, account.Account.Account as AccountRow, edit.Edit.Edit, edit.Edit.TheVariants.EditChannel, edit.Edit.TheVariants.MakeChannel, edit.Edit.TheVariants.SetAcl, edit.Edit.TheVariants.SetLimits, verdict.Verdict.TheVariants.Accepted, verdict.Verdict.TheVariants.Ignored, verdict.Verdict.TheVariants.Rejected, verdict.Verdict.Verdict}
pub use Rattle.mum_document.proofs.Public.{first_none, later_none, none_within}
pub use Rattle.mum_document.specs.{Fault.Fault, Fault.against, Fault.place_text, Given.given_info, Given.given_policy, Given.info_rows, Given.policy_rows, Object.elements_at, Object.elements_fault, Object.opening_fault, Object.rows_fault, Object.unknown_fault, Policy.account_of, Policy.entry_names, Policy.entry_rows, Policy.group_names, Policy.group_rows, Policy.with_group_met}
pub use Rattle.mum_document.specs.Value.{digest_fault, digest_of, elements_in, elements_of, flag_fault, flag_of, greatest, list_fault, name_fault, number_fault, number_of, signed_fault, signed_of, text_fault, text_of}
pub use Rattle.mum_document.specs.declared.{fault.ConfigFault.TheVariants.NotAnObject, fault.ConfigFault.TheVariants.WrongKind, given.GivenInfo.GivenInfo, given.GivenPolicy.GivenPolicy}
pub use Rattle.mum_rules_tree.specs.Decision.{Case, case_of, first_standing}
pub use Rattle.mum_config.proofs.Public.{IsBare, Leads, each_alone, each_element, each_row, empty_bare, leads, less_left, list_short, not_against, object_rows, rows_apart, said_of_value, same_edits, text_fits, text_fits_limits}
pub use Rattle.mum_config.specs.Account.{AccountsMet, account_name, account_names, account_number, account_rows, digest_at, no_accounts, with_account_met}
pub use Rattle.mum_config.specs.Channel.{ChannelsMet, channel_name, channel_number, depth_above, gives_info, gives_policy, info_of, is_root_entry, made_edit, name_rows, number_rows, parent_number, parent_rows, policy_edits, policy_of, rises, root_edits, root_met, shared_names}
pub use Rattle.mum_config.specs.Document.{ReadsConfig, account_list_rows, accounts_in, against_document, channel_list_rows, channels_in, channels_met, document_names, document_rows, link_list_rows, links_in, server_edit, settings_of, settings_rows, value_of}
pub use Rattle.mum_config.specs.Link.{Ends, end_fault, ends_fault, first_end, pair_in, pair_of, second_end}
pub use Rattle.mum_config.specs.declared.config.{Config.Config, TheConstants.WORKERS_LIMIT}
pub use Rattle.mum_rules_user.specs.{Login.edit_to_join, Login.is_no_guest, Login.is_not_the_owner, Login.is_old, Login.limits_of_seat, Reasons.reasons}
pub use Rattle.mum_rules_user.specs.declared.message.UserMessage.TheVariants.{Join}
pub use Rattle.mum_config_laws.specs.Entries.{IsOf, SaysAccount, SaysChannel, SaysEntry, SaysGroup, SaysInfo, SaysLink, SaysPolicy, SaysWhom, no_permission}
pub use Rattle.mum_config_laws.specs.Opened.{IsAllGiven, IsChannelGiven, IsFirst, IsGivenThere, IsPolicyGiven, IsSetAsGiven, NothingElseIsThere, OfConfigurations, WhatIsGivenIsThere}
pub use Rattle.mum_config_laws.specs.Passwords.{IsTurnedAway, ThePasswordIsAskedFor}
pub use Rattle.mum_config_laws.specs.Values.{EachSays, HasItem, IsAccountNumber, IsDigest, IsFlag, IsListOf, IsListed, IsNumber, IsSet, IsSigned, IsText, Says, SaysMaybe, SaysOr}
unfoldable pub use Rattle.std.specs.Str.{is_utf8}
unfoldable pub use Rattle.sha2.specs.Sha256.{sha256}
unfoldable pub use Rattle.mum_document.specs.{Fault.within, Policy.entry_fault, Policy.entry_of, Policy.group_fault, Policy.group_of, Value.needed, Value.wanted}
unfoldable pub use Rattle.mum_config.specs.{Account.account_edit, Account.account_fault, Channel.channel_edits, Channel.channel_fault, Channel.made_fault, Channel.root_fault, Channel.with_channel_met, Document.config_of, Document.edits_of, Document.object_fault_of, Link.link_edit, Link.link_fault, Link.with_link_met}
