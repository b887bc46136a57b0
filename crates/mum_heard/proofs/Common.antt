-- The names that the proofs of this crate take from elsewhere, passed on from one place. Declares nothing.
pub use Rattle.std.proofs.lemmas.{Bool.and_parts, Bool.eqb-true, Bool.ltb-false, Bool.ltb-true, Bool.ne_eqb, Bool.or_right, Bool.true≢false, Int.to_z_pos, List.Concat.flat_map-append, List.Elements.All-from_recursion, List.append-nil, Str.IsUtf8-from_is_utf8}
pub use Rattle.std.proofs.Common.{Bool, Err, IfSome, List, None, Ok, Option, Result, Some, [], ap, arith, cond, drop, eq-eqb, false, inl, inr, length, length-append, ltb, map, refl, subst, suc, sym, true, ℕ, ◌%◌, ◌&&◌, ◌*◌, ◌++◌, ◌+◌, ◌-◌, ◌<◌, ◌==◌, ◌^◌, ◌||◌, ◌∙◌, ◌∷◌, ◌≡◌, ◌≤◌, ◌⊎◌}
pub use Rattle.std.specs.{Int.cast_signed, Int.w32, List.AllByRecursion, List.list_any, Str.IsUtf8}
pub use Rattle.std.specs.Prelude.{nat_lt, negsuc, pos, unwrap_or, ℤ, ⊤}
pub use Rattle.mum_base.specs.Codes.{reason_code}
pub use Rattle.mum_base.specs.declared.{number.SessionId.SessionId, outcome.Reason.Reason, outcome.Reason.TheVariants.Gone, outcome.Reason.TheVariants.NotRead}
pub use Rattle.mum_frame.proofs.Public.{kind-reads_back, payload_of-spelling}
pub use Rattle.mum_frame.specs.declared.kind.TheConstants.{ACL, AUTHENTICATE, CHANNEL_REMOVE, CHANNEL_STATE, PING, TEXT_MESSAGE, UDP_TUNNEL, USER_REMOVE, USER_STATE, VERSION, VOICE_TARGET}
pub use Rattle.mum_fields.proofs.Public.{Rises, read_back, rises}
pub use Rattle.mum_fields.specs.{Content.Block, Content.Content, Content.Fixed4, Content.Fixed8, Content.Varint, Fault.fault, Field.Entry, Number.extended, Number.signed_32, Payload.Walk, Payload.at_start, Payload.fields, Payload.packed, Typed.AreTyped, Typed.IsBytes, Typed.IsOne, Typed.IsScalar, Typed.IsTyped, Written.Item, Written.block_item, Written.each_block, Written.spelling, Written.written}
pub use Rattle.mum_fields.specs.Message.{Rule, entry_fault, every, fault_in, first_fault, last, longer, message, messages_of, newer, or_else, text, unless, value_fault}
pub use Rattle.mum_fields.specs.Table.{Blocks, Field, Layout, Nothing, One, Table, Value, Values, all_in, decoded, decoded_by, each_message, gathered, items, layout, missing, no_values, one_in, one_item, parts, rising, row_items, rule_of, rules, scalar_number, spelled, unless_missing, unset, value_after, value_of, values_after, whole}
pub use Rattle.mum_fields.specs.declared.{fault.FaultKind.TheVariants.BadText, fault.FieldFault.FieldFault, message.MessageFault.MessageFault, shape.Kind.Kind, shape.Kind.TheVariants.Number, shape.Kind.TheVariants.Raw, shape.Kind.TheVariants.Utf8, shape.Label.Label, shape.Label.TheVariants.Optional, shape.Label.TheVariants.Repeated, shape.Label.TheVariants.Required, shape.Label.TheVariants.RequiredOr, shape.Scalar.Scalar, shape.Scalar.TheVariants.Signed32, shape.Scalar.TheVariants.Truth, shape.Scalar.TheVariants.Unsigned32, shape.Scalar.TheVariants.Unsigned64}
pub use Rattle.mum_msg_state.specs.Messages.{authenticate, channel_remove, channel_state, ping, user_remove, user_state, version}
pub use Rattle.mum_msg_rule.specs.Messages.{acl, acl_group, acl_line, permission_query, target_block, text_message, voice_target}
pub use Rattle.mum_state.specs.State.{StateValue}
pub use Rattle.mum_state.specs.declared.verdict.Verdict.{TheVariants.Ignored, Verdict}
pub use Rattle.mum_rules_tree.specs.{Decision.Case, Decision.case_of, Decision.first_standing, Decision.unless_ignored, Reasons.is_gone, Reasons.takes_no_edits}
pub use Rattle.mum_rules_tree.specs.declared.{message.TreeMessage.TheVariants.Acl, message.TreeMessage.TheVariants.Remove, message.TreeMessage.TheVariants.State, reason.TheConstants.COMMAND_LIMIT}
pub use Rattle.mum_rules_user.specs.Reasons.{is_leave}
pub use Rattle.mum_rules_user.specs.declared.message.UserMessage.TheVariants.{Join, Kick, Leave, Query, Target, Text}
pub use Rattle.mum_session.specs.Action.{Decoded, after_login, bans_action, command_action, commands_after_login, ignore, login_action, other_action, ping_action, tree_or_user_action, version_action, voice_action}
pub use Rattle.mum_session.specs.{Heard.command_heard, Heard.heard_map, Heard.login_heard, Heard.read, Heard.read_from, Machine.Machine, Machine.is_rejected, Machine.session_of}
pub use Rattle.mum_session.specs.declared.{action.Action.Action, action.Action.TheVariants.Ask, action.Action.TheVariants.Bans, action.TheConstants.BAN_LIST, command.Asked.Asked, command.Asked.TheVariants.Tree, command.Asked.TheVariants.User, command.Command.Command, heard.Heard.Heard, heard.Heard.TheVariants.Malformed, heard.Heard.TheVariants.Message, heard.Heard.TheVariants.TooLong}
pub use Rattle.mum_audit.specs.Decision.{asked_verdict, frame_verdict, heard_verdict, takes_nothing}
pub use Rattle.mum_owner.specs.Written.{own_frame, version_of}
pub use Rattle.mum_heard.specs.Again.{CommandsAreHeardAgain, IsHeardAgain, LeavesAreHeardAgain, RequestsAreHeardAgain}
unfoldable pub use Rattle.std.specs.Str.{is_utf8}
unfoldable pub use Rattle.mum_frame.specs.Frame.{kind_of, payload_of, spelling_of}
unfoldable pub use Rattle.mum_fields.specs.Varint.{shortest}
unfoldable pub use Rattle.mum_msg_state.specs.Parts.{authenticate_of, channel_remove_of, channel_state_of, user_remove_of, user_state_of}
unfoldable pub use Rattle.mum_msg_rule.specs.Parts.{acl_group_of, acl_line_of, acl_of, acl_with, permission_query_of, target_block_of, text_message_of, voice_target_of, voice_target_with}
unfoldable pub use Rattle.mum_session.specs.{Action.action, Verdict.verdict}
unfoldable pub use Rattle.mum_audit.specs.Decision.{decided}
