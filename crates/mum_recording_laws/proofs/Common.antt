-- The names that the proofs of this crate take from elsewhere, passed on from one place. Declares nothing.
pub use Rattle.std.proofs.lemmas.Bool.{and_parts, cases_eq, eq-eqb, eqb-true, false_from_ne_true, false≢true, le-ltb, leb-false, leb-true, lt-ltb, ltb-false, ltb-true, ne_eqb, or_from, or_left, or_parts, or_right}
pub use Rattle.std.proofs.lemmas.{List.Elements.All-from_recursion, List.Elements.filter_map-append, List.Elements.recursion_from_All, List.Folds.list_any-append, List.get_or_past, List.length-replicate, List.take-append-le, Option.get_or_from_slice_get, Option.slice_get-get_or, Option.slice_get_within}
pub use Rattle.std.proofs.Common.{Bool, Err, List, None, Ok, Option, Result, Some, [], ap, append-nil, append_assoc, arith, cond, drop, false, filter, inl, inr, length, length-append, map, max, not, refl, replicate, subst, suc, sym, take, true, zero, ℕ, ◌&&◌, ◌++◌, ◌+◌, ◌-◌, ◌<◌, ◌==◌, ◌^◌, ◌||◌, ◌∙◌, ◌∷◌, ◌≡◌, ◌≢◌, ◌≤◌, ◌⊎◌}
pub use Rattle.std.specs.{List.AllByRecursion, List.AllPairs, List.AllZip, List.filter_map, List.flat_map, List.list_any, Map.lookup, Option.option_map, Option.option_map_or, Option.option_or}
pub use Rattle.std.specs.Prelude.{IfSome, IsSome, IsTrue, is_none, is_some, nat_eq, nat_le, nat_lt, option_to_list, slice_get, slice_index_or, unwrap_or, ⊤}
pub use Rattle.indexmap.specs.IndexMap.{insert_entry}
pub use Rattle.mum_base.specs.Codes.{reason_code}
pub use Rattle.mum_base.specs.declared.{number.Cause.Cause, number.SessionId.SessionId, outcome.Reason.Reason, outcome.Reason.TheVariants.NotLoggedIn, outcome.Reason.TheVariants.NotRead, reply.Mark.Mark, reply.ReplyEnd.ReplyEnd, reply.ReplyEnd.TheVariants.Decided as Answered, reply.ReplyEnd.TheVariants.Joined, reply.ReplyEnd.TheVariants.Rejected}
pub use Rattle.mum_frame.proofs.Public.{kind-reads_back, payload_of-spelling}
pub use Rattle.mum_frame.specs.declared.kind.TheConstants.{ACL, AUTHENTICATE, CHANNEL_REMOVE, CHANNEL_STATE, PING, TEXT_MESSAGE, UDP_TUNNEL, USER_REMOVE, USER_STATE, VERSION, VOICE_TARGET}
pub use Rattle.mum_fields.proofs.Public.{read_back}
pub use Rattle.mum_fields.specs.{Message.or_else, Table.Values, Table.decoded, Table.layout, Table.parts, Table.spelled}
pub use Rattle.mum_policy.specs.Member.{Actor}
pub use Rattle.mum_voice.specs.Packet.{Parts}
pub use Rattle.mum_voice.specs.declared.fault.BadVoice.{BadVoice}
pub use Rattle.mum_msg_state.specs.Messages.{authenticate, channel_remove, channel_state, ping, user_remove, user_state, version}
pub use Rattle.mum_msg_state.specs.declared.version.Version.{Version}
pub use Rattle.mum_msg_rule.specs.Messages.{acl, permission_query, text_message, voice_target}
pub use Rattle.mum_record.specs.{Head.version_with, Journal.Each, Journal.IsControl, Journal.IsJournal, Journal.may_carry}
pub use Rattle.mum_record.specs.declared.{journal.ControlEntry.ControlEntry, journal.Journal.Journal, journal.Marked.Marked, journal.WorkerEntry.TheVariants.Closed, journal.WorkerEntry.TheVariants.Voice, journal.WorkerEntry.TheVariants.Voice as VoiceEntry, journal.WorkerEntry.WorkerEntry, step.Step.Step}
pub use Rattle.mum_record.specs.declared.step.Step.TheVariants.{Close, Collect, Drain, End, Frame, Look, Offer, Open, Post, Publish, Tell}
pub use Rattle.mum_state.specs.{After.at, After.led_to, Permissions.granted_where_there, State.StateValue}
pub use Rattle.mum_state.specs.declared.{edit.Edit.Edit, verdict.Verdict.TheVariants.Accepted, verdict.Verdict.TheVariants.Answer, verdict.Verdict.TheVariants.Ignored, verdict.Verdict.Verdict}
pub use Rattle.mum_rules_tree.specs.{Decision.Case, Decision.case_of, Decision.first_lack, Decision.first_standing, Decision.unless_ignored, Reasons.is_gone, Reasons.takes_no_edits, Verdict.tree_verdict}
pub use Rattle.mum_rules_tree.specs.declared.message.TreeMessage.{TheVariants.Acl, TheVariants.Remove, TheVariants.State, TreeMessage}
pub use Rattle.mum_route.specs.{Laws.HearersAreTheRoute, Route.route}
pub use Rattle.mum_rules_user.specs.{Asked.Command as UserCommand, Asked.command_of as user_command, Limits.limits, Needs.needs, Outcome.outcome, Reasons.is_leave, Reasons.reasons, Reasons.reasons as user_reasons, Verdict.actor_for}
pub use Rattle.mum_rules_user.specs.declared.message.UserMessage.TheVariants.{Join, Kick, Leave, Query, Target, Text}
pub use Rattle.mum_opening.specs.Opening.{opening}
pub use Rattle.mum_session.proofs.Public.{tree_holds, unless}
pub use Rattle.mum_session.specs.Action.{Decoded, after_login, bans_action, command_action, commands_after_login, ignore, login_action, ping_action, tree_or_user_action, version_action, version_after, voice_action}
pub use Rattle.mum_session.specs.{Heard.command_heard, Heard.heard_map, Heard.login_heard, Heard.read, Machine.Machine, Reply.mark, Reply.reply_end, Verdict.edits_of}
pub use Rattle.mum_session.specs.declared.{action.Action.Action, action.Action.TheVariants.Ask, action.Action.TheVariants.Bans, action.Action.TheVariants.Ignore, action.Action.TheVariants.Keep, action.TheConstants.BAN_LIST, command.Asked.Asked, command.Asked.TheVariants.Tree, command.Asked.TheVariants.User, command.Command.Command, heard.Heard.Heard, heard.Heard.TheVariants.Malformed, heard.Heard.TheVariants.Message, heard.Heard.TheVariants.TooLong}
pub use Rattle.mum_core.proofs.Public.{AreSettled, Change, Has, IsOf, IsWithin, Keeps, Sound, Source, accepted_grows, at_place, change_by, change_of, change_to, changed-by, changed_other, changed_same, closed_stays, collect_keeps, collect_workers, conn, connections_stay, decided_workers, drain_keeps, drain_workers, each_step, frame_keeps, goes_on, length-changed, looks_are_bounded, none_stands, not_false, notes_keep, of_speaker, place_stays, placed, posted_keeps, posted_workers, puts_keep, puts_workers, same_opening, seat_all, settled_start, settled_step, sound_all, sound_start, source, state_stays, taken_core, told_core, verdict_seats, within}
pub use Rattle.mum_core.specs.{Case.first_that_stands, Laws.IsRun, Laws.gathered, Laws.packet_taken, Laws.ran, Lists.changed_at, Machine.machine_of, Machine.stage_of, Reply.seat_in, Reply.seat_of, Step.does, Step.frame_action, Step.frame_version, Step.illegal, Worker.HeldPacket, Worker.WorkerState, Worker.idle, Worker.in_hand, Worker.least_look, steps.Frame.hears, steps.Frame.spoken, steps.Look.copies, steps.Look.looked, steps.Tell.edit_revision, steps.Tell.has_edit, steps.Tell.note_cases}
pub use Rattle.mum_core.specs.Connection.{answered, asking, closed_at, followed, fresh, is_accepted, is_rejected, is_untold, lagging, leads, leave_waiting, leaving, leaving as leaving_of, next_command, next_of_frame, rejects as rejects_by, seat_given, session_of, told}
pub use Rattle.mum_core.specs.Core.{CoreState, at_connection, at_worker, connection_at, current, is_opened, state_at, up, worker_at}
pub use Rattle.mum_core.specs.declared.{connection.Connection.Connection, connection.Leave.Leave as LeaveStage, connection.Leave.TheVariants.Decided as HasLeft, connection.Leave.TheVariants.Leads, connection.Leave.TheVariants.Stays, connection.Leave.TheVariants.Waits, connection.Reply.Reply, connection.Seat.Seat, worker.Outgoing.Outgoing}
pub use Rattle.mum_audit.proofs.Public.{Pairs, Rise, all_pairs, each_back, each_both, each_front, each_weaker, pairs_of, pairs_rise, rise_pairs}
pub use Rattle.mum_audit.specs.{Audit.entries_of, Audit.is_voice, Audit.past_before, Audit.past_of, Controls.after_entries, Controls.after_entry, Controls.mark_on, Controls.verdict_on, Decision.asked_verdict, Decision.command_verdict, Decision.frame_verdict, Decision.heard_verdict, Decision.takes_nothing, Legal.IsHeard, Legal.IsLegal, Legal.IsRight, Legal.closed_by, Legal.past_at, Legal.revision_of, Past.Past, Past.after_verdict, Past.session_of as session_in, Past.with_login}
pub use Rattle.mum_recording_laws.specs.{OfRuns.JournalsOfRunsAreAsked, OfRuns.JournalsOfRunsAreLegal, OfRuns.LegalJournalsAreOfRuns, OfRuns.OrderlyRunsAreInOrder, OfRuns.first_core, Orderly.AreOrderly, Orderly.IsOrderly}
pub use Rattle.mum_recording_laws.specs.Order.{AreAsked, ArePlaced, IsAsked, IsCommand, IsInOrder, IsInTime, IsPlaced, IsTimely, has_version, leaves, rejects}
pub use Rattle.mum_recording_laws.specs.Recorded.{AreOfRun, Decided, IsDecided, IsRouted, Routed, closed, command_of, decided, frame_heard, routed, routed_at}
unfoldable pub use Rattle.mum_frame.specs.Frame.{kind_of, payload_of, spelling_of}
unfoldable pub use Rattle.mum_voice.specs.Packet.{packet}
unfoldable pub use Rattle.mum_msg_state.specs.Parts.{authenticate_of, channel_remove_of, channel_state_of, user_remove_of, user_state_of}
unfoldable pub use Rattle.mum_msg_rule.specs.Parts.{acl_of, permission_query_of, text_message_of, voice_target_of}
unfoldable pub use Rattle.mum_rules_user.specs.Outcome.{answer_frame}
unfoldable pub use Rattle.mum_session.specs.{Action.action, Action.after_frame, Verdict.verdict}
