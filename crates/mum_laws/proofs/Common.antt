-- The names that the proofs of this crate take from elsewhere, passed on from one place. Declares nothing.
pub use Rattle.std.proofs.lemmas.Bool.{and_parts, cases_eq, eq-eqb, eqb-false, eqb-true, le-ltb, lt-leb, lt-ltb, ltb-false, ltb-true, ne_eqb}
pub use Rattle.std.proofs.lemmas.{List.Concat.flat_map-append, List.Elements.All-from_recursion, List.Elements.recursion_from_All, List.Sums.fold-append, List.append-nil, List.drop_at, List.length-map, List.length-replicate, List.take_all, Nat.mod_below, Nat.mod_low, Option.get_or_from_slice_get, Option.slice_get_within, Str.IsUtf8-from_is_utf8}
pub use Rattle.std.proofs.Common.{Bool, Err, List, None, Ok, Option, Result, Some, [], ap, append_assoc, arith, cond, drop, false, inl, inr, length, length-append, map, max, min, refl, subst, suc, sym, take, true, zero, ℕ, ◌%◌, ◌&&◌, ◌*◌, ◌++◌, ◌+◌, ◌-◌, ◌/◌, ◌<◌, ◌^◌, ◌∙◌, ◌∷◌, ◌≡◌, ◌≤◌}
pub use Rattle.std.specs.{List.All, List.AllByRecursion, List.Contains, List.flat_map, List.list_any, List.slice_split, Option.option_map, Option.option_map_or, Option.option_or, Str.IsUtf8, Str.bytes_eq}
pub use Rattle.std.specs.Prelude.{IfSome, codes, decimal, filter, find, if◌then◌else◌, insert, is_none, is_some, nat_lt, not, option_to_list, replicate, slice_get, slice_index_or, ◌==◌, ◌||◌, ◌⊎◌}
pub use Rattle.hex.specs.Hex.{IsBytes}
pub use Rattle.rand_pcg.specs.{Lcg.Lcg, Pcg.pcg32}
pub use Rattle.mum_base.specs.Codes.{reason_code, reject_code}
pub use Rattle.mum_base.specs.declared.{number.AccountId.AccountId, number.SessionId.SessionId, number.Slot.Slot, number.TheConstants.POST_CAPACITY, number.TheConstants.SLOTS, outcome.Reason.Reason, outcome.Reason.TheVariants.Gone, outcome.RejectType.RejectType, reply.Mark.Mark}
pub use Rattle.mum_frame.proofs.Public.{kind-reads_back, payload_of-spelling}
pub use Rattle.mum_frame.specs.declared.kind.TheConstants.{AUTHENTICATE, CHANNEL_STATE, PING, UDP_TUNNEL, USER_STATE, VERSION, VOICE_TARGET}
pub use Rattle.mum_fields.proofs.Public.{read_back}
pub use Rattle.mum_fields.specs.Table.{Table, Values, bool, decoded, items, layout, missing, parts, rising, spelled, uint32}
pub use Rattle.mum_fields.specs.{Typed.AreTyped, Typed.IsOne, Written.written}
pub use Rattle.mum_fields.specs.declared.shape.{Kind.TheVariants.Raw, Kind.TheVariants.Utf8, Label.TheVariants.Repeated}
pub use Rattle.mum_policy.specs.Member.{Actor}
pub use Rattle.mum_tree.specs.{Refusals.parent_of, Rows.is_below}
pub use Rattle.mum_users.specs.{Edit.changed_user, Sessions.free_slot, Sessions.is_full, Sessions.is_used_up, Sessions.next_number, Sessions.next_slot, State.RosterState, State.empty_roster, State.has_name, State.has_number, State.joining}
pub use Rattle.mum_users.specs.declared.user.{TheConstants.DEFAULT_SESSIONS_LIMIT, User.User}
pub use Rattle.mum_voice.proofs.Public.{length-shortest_word, shortest_word-read}
pub use Rattle.mum_voice.specs.Packet.{Parts, is_audio_kind, packet_by_audio, packet_by_sequence}
pub use Rattle.mum_voice.specs.declared.{fault.BadVoice.BadVoice, packet.TheConstants.PACKET_LIMIT}
pub use Rattle.mum_msg_state.specs.Messages.{authenticate, channel_state, ping, user_state, version}
pub use Rattle.mum_msg_state.specs.declared.user_state.UserState.{UserState}
pub use Rattle.mum_msg_rule.specs.Messages.{target_block, voice_target}
pub use Rattle.mum_msg_rule.specs.declared.target_block.TargetBlock.{TargetBlock}
pub use Rattle.mum_record.proofs.Public.{chosen, config_of-found, config_of-line, limits_of-found, limits_of-line, step_of-found, step_of-line_of, workers_of-found, workers_of-line}
pub use Rattle.mum_record.specs.{Grammar.IsLineOf, Grammar.line_of, Journal.ended_lines, Journal.verdict_words, Lines.is_line_feed, Words.line_of_words}
pub use Rattle.mum_record.specs.Head.{AreLimits, IsConfigLine, config_line, first_step_line, head_lines, limits_line, recording_line, version_with, workers_line}
pub use Rattle.mum_record.specs.declared.{head.Version.TheVariants.One, head.Version.TheVariants.Two, head.Version.Version, step.Step.Step}
pub use Rattle.mum_record.specs.declared.step.Step.TheVariants.{Close, Collect, Drain, End, Frame, Look, Offer, Open, Post, Publish, Tell}
pub use Rattle.mum_state.proofs.Public.{Each, applied_descends, each_filter, each_find, each_insert, each_map, each_so}
pub use Rattle.mum_state.specs.{After.led_to, Applied.applied, Parts.user_parts, Permissions.granted_where_there, Proper.IsProper, Proper.is_name, Set.set_by, State.StateValue, State.account_named, Suppression.heard_anew, Suppression.is_set_anew}
pub use Rattle.mum_state.specs.declared.{account.Account.Account, count.TheConstants.EDIT_LIMIT, edit.Edit.Edit, verdict.Verdict.TheVariants.Accepted, verdict.Verdict.TheVariants.Answer, verdict.Verdict.TheVariants.Ignored, verdict.Verdict.TheVariants.Lacks, verdict.Verdict.TheVariants.Refused, verdict.Verdict.TheVariants.Rejected, verdict.Verdict.Verdict}
pub use Rattle.mum_state.specs.declared.edit.Edit.TheVariants.{Join, Kick, Leave, MakeChannel, RemoveChannel, SetTarget, SetTokens, SetUser}
pub use Rattle.mum_document.specs.Fault.{Fault}
pub use Rattle.mum_rules_tree.specs.{Decision.Case, Decision.first_lack, Decision.first_standing, Verdict.tree_verdict}
pub use Rattle.mum_rules_tree.specs.declared.{message.TreeMessage.TreeMessage, reason.TheConstants.COMMAND_LIMIT}
pub use Rattle.mum_route.proofs.Public.{each_hearer, found_number, seated}
pub use Rattle.mum_route.specs.{Hearers.hearers_at, Route.Member}
pub use Rattle.mum_notify.proofs.Public.{bound, each_has_its_session_lem, items-few, row-few}
pub use Rattle.mum_notify.specs.{Laws.IsAddressee, Laws.IsFor, Notices.notices}
pub use Rattle.mum_notify.specs.declared.notice.Notice.{Notice}
pub use Rattle.mum_rules_user.specs.{Asked.Command as UserCommand, Asked.command_of, Limits.limits, Login.edit_to_join, Login.is_no_guest, Login.is_not_the_owner, Login.limits_of_login, Needs.needs, Outcome.outcome, Reasons.reasons, Verdict.actor_for, Verdict.command_verdict, Verdict.heard_verdict, Verdict.user_verdict}
pub use Rattle.mum_rules_user.specs.declared.message.UserMessage.{UserMessage}
pub use Rattle.mum_opening.specs.Opening.{document_fault, opening}
pub use Rattle.mum_session.proofs.Public.{tree_holds, unless}
pub use Rattle.mum_session.specs.Action.{Decoded, after_login, bans_action, command_action, commands_after_login, ignore, other_action, ping_action, tree_or_user_action, version_action, voice_action}
pub use Rattle.mum_session.specs.{Heard.command_heard, Heard.heard_map, Heard.login_heard, Heard.read, Heard.read_from, Machine.Machine, Machine.is_rejected as stage_rejected, Reply.mark, Verdict.edits_of}
pub use Rattle.mum_session.specs.declared.{action.Action.Action, action.Action.TheVariants.Ask, action.Action.TheVariants.Bans, action.Action.TheVariants.Keep, action.Action.TheVariants.Voice, action.TheConstants.BAN_LIST, command.Asked.Asked, command.Asked.TheVariants.Tree, command.Asked.TheVariants.User as OfUser, command.Command.Command, heard.Heard.Heard, heard.Heard.TheVariants.Message, session.Stage.Stage, session.Stage.TheVariants.BeforeLogin, session.Stage.TheVariants.LoggedIn}
pub use Rattle.mum_core.proofs.Public.{AllCopies, AllLooked, AreClean, SeatsNext, accepted_grows, at_place, boxes_step, change_by, change_of, change_to, changed-by, changed_other, changed_same, clean_start, clean_step, collect_boxes, collect_keeps, collect_workers, conn, copies_step, decided_still, decided_workers, delivered, drain_keeps, drain_workers, each_looked, each_step, empty_box, frame_hands, frame_keeps, frame_still, held_there, idle_copies, lawful_all, lawful_start, length-changed, looks_before, none_stands, not_false, notes_keep, notes_still, offers_take_the_first, opening_stays, place_stays, placed, posted_keeps, posted_still, posted_workers, posting_core, puts_keep, puts_workers, rest_core, seat_placed, slot_below, state_proper, taken_core, told_core, verdict_seats}
pub use Rattle.mum_core.specs.{Case.first_that_stands, Delivery.does_from, Delivery.forbids, Delivery.is_for, Delivery.takes, Delivery.with_stale, Laws.IsRun, Laws.gathered, Laws.packet_taken, Laws.ran, Line.said_of, Line.text_of, Line.wire_words, Lists.changed_at, Lists.with_found, Machine.machine_of, Reply.seat_of, Step.does, Step.frame_action, Step.frame_version, Step.illegal, Step.lines, Worker.HeldPacket, Worker.WorkerState, Worker.idle, Worker.in_hand, Worker.least_look, steps.Collect.framed, steps.Collect.notice_queues, steps.Drain.carried, steps.Drain.copy_queues, steps.Frame.hears, steps.Frame.spoken}
pub use Rattle.mum_core.specs.Connection.{answered, asking, closed_at, fresh, is_accepted, is_of, is_rejected, is_untold, lagging, leads, next_command, next_of_frame, rejects, revision_of, seat_given, session_of, told}
pub use Rattle.mum_core.specs.Core.{CoreState, at_connection, at_outbox, at_posts, at_session, at_worker, connection_at, current, is_opened, outbox_at, posts_at, start, state_at, up, worker_at}
pub use Rattle.mum_core.specs.declared.{connection.Connection.Connection, connection.Leave.TheVariants.Stays, connection.Leave.TheVariants.Stays as StaysHere, connection.Reply.Reply, connection.Seat.Seat, machine.Totals.Totals, outbox.Parcel.Parcel, worker.Outgoing.Outgoing}
pub use Rattle.mum_exercise.specs.Acts.{aiming, blank_user, channel_frame, entering, linking, listening, login, login_frame, packet_bytes, self_muting, target_frame, user_frame, user_name, voice_frame}
pub use Rattle.mum_exercise.specs.Draws.{seeded}
pub use Rattle.mum_exercise.specs.Exercise.{CourseValue, Progress, all_taken, begun, brings, counted, decided, note, taken, worker_of}
pub use Rattle.mum_exercise.specs.declared.{draws.Act.Act, draws.Act.TheVariants.Aim, draws.Act.TheVariants.Enter, draws.Act.TheVariants.Link, draws.Act.TheVariants.Listen, draws.Act.TheVariants.SetSelfMute, draws.Act.TheVariants.Talk, draws.TheConstants.USERS, exercise.TheConstants.WORKERS}
pub use Rattle.mum_server.proofs.Public.{outcome_cons, short_enough, split_filled}
pub use Rattle.mum_server.specs.Replay.{Goes, Outcome, Stops as StopsAt, allowed_answer, behind, config_answer, goes_on, is_too_long, limits_answer, opening_answer, phase_after, phase_behind_workers, step_answer, stops_at, version_answer, workers_answer}
pub use Rattle.mum_server.specs.declared.{end.End.TheVariants.Faulty, end.LineFault.TheVariants.BadRecording, end.LineFault.TheVariants.IllegalStep, end.LineFault.TheVariants.TooLong, replay.Phase.Phase, replay.Phase.TheVariants.Config, replay.Phase.TheVariants.Head, replay.Phase.TheVariants.LimitedConfig, replay.Phase.TheVariants.Limits, replay.Phase.TheVariants.Over, replay.Phase.TheVariants.Running, replay.Phase.TheVariants.Workers}
pub use Rattle.mum_laws.specs.{Copies.found, Copies.offered, Edits.accepted, Edits.accepted_by, Edits.verdict_on, Exercises.IsDone, Exercises.acted, Exercises.commanded, Exercises.with_step, Exercises.with_steps, Offers.IsLeftOut, Offers.IsSent, Offers.Offers, Offers.found_full, Offers.has_room, Offers.offer_line, Offers.sent, Packets.looked_for, Packets.packet_by, Packets.packet_in, Packets.said, Packets.speaker_of}
pub use Rattle.mum_laws.specs.Drains.{Drains, Drops, IsWithout, Tells, copies_for, dropped, notices_for, strangers}
pub use Rattle.mum_laws.specs.Recordings.{EndsAt, IsHead, IsLong, IsRunBehind, IsRunFrom, IsShort, IsTranscript, NoneIsBehindTheEnd, StopsEarly, is_end, is_over}
unfoldable pub use lib.Utf8.{encode}
unfoldable pub use Rattle.std.specs.{Float.Numeral.scan_numeral, Fmt.digits, Str.chars, Str.is_utf8}
unfoldable pub use Rattle.json.specs.{Json.value, Lex.lex, Lex.punctuate, Text.content, Word.after_number, Word.word}
unfoldable pub use Rattle.serde_json.specs.Read.{number_of}
unfoldable pub use Rattle.mum_frame.specs.Frame.{kind_of, payload_of, spelling_of}
unfoldable pub use Rattle.mum_voice.specs.{Packet.audio_len, Packet.opus_len, Packet.packet, Varint.number_at, Varint.shortest_word, Varint.word_at}
unfoldable pub use Rattle.mum_msg_state.specs.Parts.{authenticate_of, channel_state_of, user_state_of}
unfoldable pub use Rattle.mum_msg_rule.specs.Parts.{voice_target_of}
unfoldable pub use Rattle.mum_record.specs.{Head.limits_of, Head.recording_version, Head.workers_of, Reading.step_of}
unfoldable pub use Rattle.mum_config.specs.{Channel.channel_edits, Document.config_of}
unfoldable pub use Rattle.mum_rules_user.specs.Outcome.{answer_frame}
unfoldable pub use Rattle.mum_session.specs.{Action.action, Verdict.verdict}
unfoldable pub use Rattle.mum_exercise.specs.{Draws.drawn_act, Draws.drawn_below, Draws.drawn_round, Exercise.document, Exercise.exercised}
unfoldable pub use Rattle.mum_server.specs.Replay.{answer, outcome_from, replayed}
unfoldable pub use Rattle.mum_laws.specs.Exercises.{exercised_whole, joined, progress}
