-- The names that the proofs of this crate take from elsewhere, passed on from one place. Declares nothing.
pub use borrow.Author.Tests.{ltb-true}
pub use Rattle.std.proofs.{Math.Bool.or-true, Math.Nat.mod-lt, lemmas.Bool.and_from, lemmas.Bool.and_parts, lemmas.Bool.eq-eqb, lemmas.Bool.eqb-true, lemmas.Bool.ne_eqb, lemmas.Bool.or_parts, lemmas.Bool.or_right, lemmas.Fn.filter_same, lemmas.Grind.fold-append, lemmas.List.Concat.flat_map-append, lemmas.List.Elements.All-append, lemmas.List.Elements.All-cons, lemmas.List.Elements.filter-append, lemmas.List.Elements.filter_map-append, lemmas.List.Kept.AllPairs-cons, lemmas.List.length-map, lemmas.List.map-append, lemmas.List.nil_from_length}
pub use Rattle.std.proofs.Common.{Bool, Err, List, None, Ok, OnErr, OnOk, Option, Result, Some, [], add-one, ap, append-nil, append_assoc, arith, cond, drop, false, get_or, inl, inr, is_err, length, length-append, map, refl, rules, set, subst, suc, sym, take, true, true≢false, zero, ℕ, ◌++◌, ◌+◌, ◌<◌, ◌^◌, ◌∙◌, ◌∷◌, ◌≡◌, ◌≢◌, ◌≤◌, ◌⊎◌}
pub use Rattle.std.specs.{List.AllByRecursion, List.AllPairs, List.cons_option, List.filter_map, List.list_any, Option.option_and_then, Option.option_map, Option.option_map_or, Vec.Iter.into_iter_items, Vec.Iter.into_iter_len, Vec.vec_capacity}
pub use Rattle.std.specs.Prelude.{All, IfSome, IsTrue, MatchBool, MatchOption, filter, find, fold, if◌then◌else◌, is_none, is_some, nat_le, nat_lt, not, option_to_list, slice_get, unwrap_or, ◌&&◌, ◌==◌, ◌||◌, ◌↔◌}
pub use Rattle.mum_base.specs.Codes.{deny_code, reason_code}
pub use Rattle.mum_base.specs.declared.{number.SessionId.SessionId, number.Slot.Slot, number.TheConstants.CONNECTION_LIMIT, number.TheConstants.ChannelId.ROOT, outcome.DenyType.DenyType, outcome.Reason.Reason, outcome.Reason.TheVariants.NotRead, perm.TheConstants.Perm.BAN, reply.Mark.Mark, reply.ReplyEnd.ReplyEnd, reply.ReplyEnd.TheVariants.Decided, reply.ReplyEnd.TheVariants.Joined, reply.ReplyEnd.TheVariants.Rejected as RejectedEnd}
pub use Rattle.mum_io.specs.{Counts.Rose, Counts.next_count, Door.DoorFacts, Door.given_after, Link.LinkFacts}
pub use Rattle.mum_io.specs.declared.door.Accept.{Accept}
pub use Rattle.mum_frame.proofs.Public.{kind-reads_back}
pub use Rattle.mum_frame.specs.Frame.{IsOneFrame}
pub use Rattle.mum_frame.specs.declared.frame.TheConstants.{PAYLOAD_LIMIT}
pub use Rattle.mum_frame.specs.declared.kind.TheConstants.{ACL, AUTHENTICATE, CHANNEL_REMOVE, CHANNEL_STATE, PERMISSION_QUERY, PING, TEXT_MESSAGE, UDP_TUNNEL, USER_REMOVE, USER_STATE, VERSION, VOICE_TARGET}
pub use Rattle.mum_fields.specs.Table.{decoded}
pub use Rattle.mum_outbox.specs.{Calls.Takes, Facts.PassFacts, Facts.QueueFacts, Facts.QueueId}
pub use Rattle.mum_outbox.specs.declared.{kinds.TheConstants.DESK_CAPACITY, queue.Offered.Offered as OfferedItem, queue.Offered.TheVariants.Full, queue.Offered.TheVariants.Sent}
pub use Rattle.mum_crew.specs.Turns.{TurnsTo}
pub use Rattle.mum_crew.specs.declared.role.Turn.{TheVariants.Done, TheVariants.Idle, TheVariants.Worked, Turn}
pub use Rattle.mum_msg_state.specs.Messages.{authenticate, channel_remove, channel_state, ping, user_remove, user_state, version}
pub use Rattle.mum_msg_rule.specs.Messages.{acl, permission_query, text_message, voice_target}
pub use Rattle.mum_record.specs.Journal.{Each, may_carry}
pub use Rattle.mum_record.specs.declared.journal.ControlEntry.{ControlEntry}
pub use Rattle.mum_state.specs.State.{StateValue}
pub use Rattle.mum_state.specs.declared.{edit.Edit.Edit, verdict.Verdict.TheVariants.Accepted, verdict.Verdict.TheVariants.Answer, verdict.Verdict.TheVariants.Ignored, verdict.Verdict.TheVariants.Lacks, verdict.Verdict.TheVariants.Refused, verdict.Verdict.TheVariants.Rejected, verdict.Verdict.Verdict}
pub use Rattle.mum_bans.specs.{Ban.refuses, Book.Adds, Book.Book, Book.Event, Book.Reserves, Book.after, Book.after_call, Book.bans_of}
pub use Rattle.mum_bans.specs.declared.ban.Ban.{Ban}
pub use Rattle.mum_doorway.specs.{Asking.DoorwayFacts, Asking.stopped_by, Doors.given_after_all}
pub use Rattle.mum_rules_tree.specs.Decision.{first_lack, first_standing, unless_refused}
pub use Rattle.mum_rules_tree.specs.declared.{message.TreeMessage.TreeMessage, needs.Lack.Lack}
pub use Rattle.mum_published.specs.{Bell.Rung, Bell.Rung.Comes, Bell.Rung.Lagging, Bell.Rung.NoMore, Calls.all_published, Calls.appended, Calls.state_of, Facts.NoteFacts, Facts.Opening, Facts.PublisherFacts, Facts.ReplyFacts, Rolls.login_of}
pub use Rattle.mum_published.specs.declared.roll.Login.{Login}
pub use Rattle.mum_notify.specs.declared.notice.Notice.{Notice}
pub use Rattle.mum_rules_user.specs.{Asked.command_of, Limits.limits, Needs.needs, Reasons.reasons, Verdict.actor_for, Verdict.heard_verdict}
pub use Rattle.mum_rules_user.specs.declared.message.UserMessage.{TheVariants.Join, TheVariants.Kick, TheVariants.Leave, TheVariants.Query, TheVariants.Target, TheVariants.Text, UserMessage}
pub use Rattle.mum_session.specs.Action.{Decoded, after_login, command_action, commands_after_login, ignore, login_action, ping_action, tree_or_user_action, version_action, voice_action}
pub use Rattle.mum_session.specs.{Heard.command_heard, Heard.heard_map, Heard.read, Machine.Machine, Machine.is_rejected, Reply.mark, Reply.reply_end, Verdict.edits_of}
pub use Rattle.mum_session.specs.declared.{action.Action.Action, action.Action.TheVariants.Ask, action.Action.TheVariants.Bans, action.TheConstants.BAN_LIST, command.Asked.Asked, command.Asked.TheVariants.Tree, command.Asked.TheVariants.User, command.Command.Command, heard.Heard.Heard, heard.Heard.TheVariants.Malformed, heard.Heard.TheVariants.Message, heard.Heard.TheVariants.TooLong}
pub use Rattle.mum_warden.specs.{Answer.sent, Warden.WardenFacts, Warden.event_in, Warden.noted, Warden.verdict_in}
pub use Rattle.mum_port.specs.Asked.{WasAsked}
pub use Rattle.mum_port.specs.declared.item.DeskItem.{DeskItem}
pub use Rattle.mum_control.proofs.Public.{roll_left}
pub use Rattle.mum_control.specs.Commanded.{Commanded, Decides, Publishes as ControlPublishes, current, next_revision, note_of, with_accepted, with_edit}
pub use Rattle.mum_control.specs.{Facts.ControlFacts, Kept.MayIn, Kept.next_slot, Kept.slot_of, Posting.EmptiesPost, Posting.PostsNext, Posting.answer_of, Posting.due_behind, Posting.due_notices}
pub use Rattle.mum_control.specs.declared.posted.Posted.{Posted}
pub use Rattle.mum_keeper.specs.{Archive.ArchiveFacts, Archive.OffersNote, Archive.OffersRing, Archive.TellsStore, Archive.new_archive, Archive.with_full as with_full_store, Archive.with_put as with_ring, Bell.NoMore as NoMoreNotes, Bell.Noted, Bell.Ring}
pub use Rattle.mum_owner.specs.Banning.{Answers, IsGivenOrRefused, LacksRoom, ListComesTo, Removes, SettledBy, SettlesList, TestedBy, TestsLogin, ban_reply, banned_in, book_after, has_note, is_banned, list_reply, reason_in, with_ban, with_warden}
pub use Rattle.mum_owner.specs.{Bell.SideFacts, Bell.new_side, Bell.queues, Causes.HasDoneNothing, Causes.puts_in, Decided.AreDecided, Decided.HasWritten, Decided.IsEntryOf, Decided.with_command, Facts.DeskFacts, Facts.GuestsFacts, Facts.KeptFacts, Facts.OwnerFacts, Facts.ScribeFacts, Given.IsGiven, Given.replied, Given.roll_of, Given.starved, Given.with_reply, Noting.AreNotes, Noting.EndsOnce, Noting.HasFurther, Noting.note_in, Noting.notes_given, Noting.published_note, Opened.IsOpened, Opened.opening_of, Serving.Next.Again, Serving.Next.Goes, Serving.Next.Rest, Serving.Next.Take, Sessions.HasLastSession, Sessions.last_session, Sessions.login_in, Sessions.logins_in, Sessions.session_after, Sessions.session_by}
pub use Rattle.mum_owner.specs.Events.{ban_added, ban_events, events_given, events_item, events_listed, events_owned, events_received, events_served, events_waiting}
pub use Rattle.mum_owner.specs.Guests.{AreKept, RiseWithin, address_of, are_all_given, guest_with, has_room, has_session, is_gone_from, is_not_of, is_of, joined_by, lag_for, lag_noted, lagging, may_lag, new_guest, owned, seated, session_of}
pub use Rattle.mum_owner.specs.Laws.{Settled, answered, came_by, came_where, command_in, commands_given, commands_owned, commands_settled, commands_taken, connections_given, connections_of, connections_settled, handed, is_of_worker, is_other, items_taken, lags_made, leave_in, leave_where, leaves_decided, made, nothing, numbers, one_tested, puts_at, replies_made, settled, settled_by, settled_given, settled_item, settled_owned, settled_waiting}
pub use Rattle.mum_owner.specs.Ringing.{OffersKept, OffersOne, Tells, TellsEach, at_worker, changed_at, with_found, with_full, with_put, worker_of}
pub use Rattle.mum_owner.specs.Serving.{EmptiesFor, GivesWaiting, LeaveIsGiven, Next, Receives, ReceivesBy, ReceivesItem, Rests, Serves, ServesDesk, TakesItem, WasAskedIn, blocker, kept_after, leave_after, leave_of, may_go, must_wait, next, next_by, with_pass}
pub use Rattle.mum_owner.specs.Turned.{Archives, ArchivesBy, Asks, AsksOnce, LacksNote, Offered, OffersFurther, OwnerTurned, PostsNotice, PostsOne, Presses, Publishes, guests_by, has_answered, has_ended, has_posted, is_not_to_ask, is_over, is_through, kept_by, lag_at, makes_note, pressing, turn_of, with_lag}
pub use Rattle.mum_owner.specs.Written.{IsWrittenAs, accepted_by, entries_by, is_join, is_leave, is_login, own_frame, prepared, recorded, refused, tree_kind, user_kind, version_of, version_with}
pub use Rattle.mum_owner.specs.declared.{desk.TheConstants.PENDING_LIMIT, entry.Draft.Draft, guests.Guest.Guest, kept.Coming.Coming, kept.Lag.Lag}
unfoldable pub use Rattle.mum_frame.specs.Frame.{kind_of, spelling_of}
unfoldable pub use Rattle.mum_msg_state.specs.Parts.{authenticate_of, channel_remove_of, channel_state_of, user_remove_of, user_state_of}
unfoldable pub use Rattle.mum_msg_rule.specs.Parts.{acl_of, permission_query_of, text_message_of, voice_target_of}
unfoldable pub use Rattle.mum_rules_user.specs.Asked.{payload_of}
unfoldable pub use Rattle.mum_session.specs.{Action.action, Verdict.verdict}
