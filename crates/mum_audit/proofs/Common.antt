-- The names that the proofs of this crate take from elsewhere, passed on from one place. Declares nothing.
pub use Prim.Native.String.{String}
pub use Rattle.std.proofs.lemmas.Bool.{and_from, and_parts, and_right, cond-false, cond-true, eq-eqb, eqb-false, eqb-true, false≢true, le-ltb, ltb-false, ne_eqb, true≢false}
pub use Rattle.std.proofs.lemmas.{Grind.common_steps, List.Elements.All-from_recursion, List.Elements.filter-append, List.Elements.filter_map-append, List.Elements.recursion_from_All, List.Folds.flat_map-map, List.append-nil, List.at_drop_all, List.at_drop_more, List.length-map, List.map-append, Option.same_Some, Result.IfOk-weaker}
pub use Rattle.std.proofs.Common.{Bool, Err, List, None, Ok, Option, Result, Some, [], ap, append_assoc, arith, codes, cond, drop, eqb, false, filter, get_or, length, length-append, ltb, map, nat_eq, refl, subst, suc, sym, take, true, zero, ℕ, ◌++◌, ◌+◌, ◌-◌, ◌<◌, ◌^◌, ◌||◌, ◌∙◌, ◌∷◌, ◌≡◌, ◌≢◌, ◌≤◌}
pub use Rattle.std.specs.{List.AllByRecursion, List.AllPairs, List.filter_map, List.flat_map, List.list_any, Map.lookup, Option.option_map}
pub use Rattle.std.specs.Prelude.{decimal, min, slice_get, string_bytes, ◌==◌, ◌↔◌}
pub use Rattle.indexmap.proofs.CallerLemmas.{insert_entry-new}
pub use Rattle.mum_base.proofs.Public.{hex}
pub use Rattle.mum_base.specs.Codes.{reason_code}
pub use Rattle.mum_base.specs.declared.{number.ChannelId.ChannelId, number.SessionId.SessionId, outcome.Reason.TheVariants.NotRead, perm.Perm.Perm, reply.Mark.Mark, reply.Mark.TheVariants.Accepted, reply.Mark.TheVariants.Answer, reply.Mark.TheVariants.Ignored, reply.Mark.TheVariants.Lacks, reply.Mark.TheVariants.Refused, reply.Mark.TheVariants.Rejected}
pub use Rattle.mum_frame.specs.declared.kind.TheConstants.{AUTHENTICATE, PING, UDP_TUNNEL, VERSION}
pub use Rattle.mum_voice.specs.Packet.{Parts}
pub use Rattle.mum_voice.specs.declared.fault.BadVoice.{BadVoice}
pub use Rattle.mum_record.specs.{Head.first_step_line, Head.head_lines, Head.journal_line, Head.version_with, Words.line_of_words}
pub use Rattle.mum_record.specs.Journal.{Each, IsControl, IsEntry, IsTextOf, IsWritableControl, IsWritableEntry, control_line, end_line, entry_line}
pub use Rattle.mum_record.specs.declared.journal.{ControlEntry.ControlEntry, Journal.Journal, Marked.Marked, WorkerEntry.TheVariants.Closed, WorkerEntry.TheVariants.Voice, WorkerEntry.WorkerEntry}
pub use Rattle.mum_state.specs.State.{StateValue}
pub use Rattle.mum_state.specs.declared.verdict.Verdict.{Verdict}
pub use Rattle.mum_route.specs.{Hearers.member_of, Route.Member, Route.route}
pub use Rattle.mum_history.proofs.Public.{views_stay}
pub use Rattle.mum_history.specs.View.{IsViewOf, ViewValue}
pub use Rattle.mum_opening.specs.Opening.{document_fault}
pub use Rattle.mum_session.specs.{Action.after_login, Action.command_action, Action.commands_after_login, Action.ignore, Action.login_action, Action.other_action, Action.tree_or_user_action, Heard.command_heard, Heard.login_heard, Machine.Machine, Machine.resumed}
pub use Rattle.mum_session.specs.declared.{action.Action.Action, command.Asked.Asked, heard.Heard.Heard, heard.Heard.TheVariants.Malformed, heard.Heard.TheVariants.Message, heard.Heard.TheVariants.TooLong}
pub use Rattle.mum_audit.specs.{Acted.IsAsked, Acted.IsVerdict, Acted.stage_of, Controls.after_entries, Controls.after_entry, Controls.entry_finding, Controls.mark_on, Counts.no_counts, Counts.with_entries, Counts.with_entry, Counts.with_workers, Decision.command_verdict, Decision.frame_verdict, Decision.heard_verdict, Legal.IsHeard, Legal.IsLegal, Legal.IsRight, Legal.closed_by, Legal.revision_of, Lines.EachLineIsTested, Lines.TheFirstIsNamed, Past.Past, Past.session_of, Past.state_at, Voice.or_else, Voice.packet_finding, Voice.revision_finding, Voice.speaker_finding, Workers.Trail, Workers.at_worker, Workers.before_workers, Workers.closed_at, Workers.closing_finding, Workers.next_line}
pub use Rattle.mum_audit.specs.Audit.{IsAuditable, answer, copies_in, counts_of, entries_of, findings_of_controls, first_line, is_full, is_sent, is_voice, past_before, past_of, total}
pub use Rattle.mum_audit.specs.Finding.{audience_text, audiences_differ, member_word, members_of, numbers_differ, same_member, same_members, same_verdict, verdicts_differ}
pub use Rattle.mum_audit.specs.declared.{audited.Audited.Audited, audited.Audited.TheVariants.Legal, audited.Audited.TheVariants.Wrong, count.Counts.Counts, finding.Finding.Finding}
unfoldable pub use Rattle.std.specs.Fmt.{digits}
unfoldable pub use Rattle.hex.specs.Hex.{encode_with}
unfoldable pub use Rattle.mum_frame.specs.Frame.{kind_of, named_length, payload_of, spelling_of}
unfoldable pub use Rattle.mum_fields.proofs.Public.{messages}
unfoldable pub use Rattle.mum_tree.specs.Walks.{is_reached}
unfoldable pub use Rattle.mum_voice.specs.{Packet.audio_len, Packet.opus_len, Packet.packet, Packet.segments_len, Packet.segments_len_within, Varint.number_at, Varint.word_at}
unfoldable pub use Rattle.mum_msg_state.specs.Parts.{authenticate_of}
unfoldable pub use Rattle.mum_record.specs.Journal.{lines_from, lines_of}
unfoldable pub use Rattle.mum_state.proofs.Public.{state}
unfoldable pub use Rattle.mum_rules_tree.specs.Decision.{is_open}
unfoldable pub use Rattle.mum_rules_user.specs.Asked.{payload_of as user_payload}
unfoldable pub use Rattle.mum_session.specs.{Action.action, Verdict.verdict}
unfoldable pub use Rattle.mum_audit.specs.{Audit.audited, Audit.findings, Audit.first_wrong, Audit.lines_on, Controls.control_findings, Decision.decided, Voice.voice_finding, Workers.entry_findings, Workers.worker_findings}
