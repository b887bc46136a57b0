-- The names that the proofs of this crate take from elsewhere, passed on from one place. Declares nothing.
pub use mathlib.Core.List.{IsPrefix}
pub use Rattle.std.proofs.lemmas.{Bool.Decides.nat_tests, Grind.flat_map-append, Grind.fold-append, List.Elements.filter_map-append, List.Elements.recursion_from_All, List.append-nil, List.length-map, List.map-append}
pub use Rattle.std.proofs.lemmas.Bool.{and_parts, eq-eqb, eqb-true, false≢true, lt-ltb, ltb-false, ltb-true, not-true, or_left, or_right}
pub use Rattle.std.proofs.Common.{Bool, Err, List, None, Ok, Option, Result, Some, [], ap, append_assoc, arith, cond, false, inl, inr, length, length-append, map, max, nat_lt, refl, subst, suc, sym, take, true, true≢false, zero, ℕ, ◌++◌, ◌+◌, ◌-◌, ◌<◌, ◌∙◌, ◌∷◌, ◌≡◌, ◌≤◌}
pub use Rattle.std.specs.{List.AllByRecursion, List.flat_map, List.list_any, Option.option_map, Option.option_map_or, Option.option_or}
pub use Rattle.std.specs.Prelude.{MatchBool, MatchOption, drop, filter, is_none, is_some, nat_le, not, option_and_then, option_to_list, replicate, slice_get, slice_index_or, ◌&&◌, ◌==◌, ◌||◌}
pub use Rattle.mum_base.specs.declared.{number.Cause.Cause, number.Cause.TheVariants.Kicked, number.SessionId.SessionId, number.Slot.Slot, number.TheConstants.SLOTS, outcome.Reason.TheVariants.Gone, reply.ReplyEnd.ReplyEnd}
pub use Rattle.mum_io.specs.{Door.DoorFacts, Link.LinkFacts}
pub use Rattle.mum_frame.proofs.Public.{kind_of-spelling, payload_of-spelling}
pub use Rattle.mum_frame.specs.Frame.{IsFrame, frame_spelling}
pub use Rattle.mum_frame.specs.declared.kind.TheConstants.{VERSION}
pub use Rattle.mum_fields.specs.Table.{decoded}
pub use Rattle.mum_voice.specs.Packet.{Parts}
pub use Rattle.mum_voice.specs.declared.fault.BadVoice.{BadVoice}
pub use Rattle.mum_outbox.specs.{Calls.Offers, Facts.PassFacts as BoxFacts}
pub use Rattle.mum_outbox.specs.declared.queue.Offered.{Offered, TheVariants.Full, TheVariants.Sent}
pub use Rattle.mum_crew.specs.{Along.Along, Turns.TurnsTo}
pub use Rattle.mum_crew.specs.declared.role.Turn.{Turn}
pub use Rattle.mum_record.specs.declared.{head.Version.Version, step.Step.Step}
pub use Rattle.mum_record.specs.declared.step.Step.TheVariants.{Close, Collect, Drain, End, Frame, Look, Offer, Open, Post, Publish, Tell}
pub use Rattle.mum_state.specs.{After.at, After.led_to, Applied.applied, State.StateValue}
pub use Rattle.mum_state.specs.declared.{edit.Edit.Edit, verdict.Verdict.TheVariants.Accepted, verdict.Verdict.TheVariants.Answer, verdict.Verdict.TheVariants.Ignored, verdict.Verdict.TheVariants.Lacks, verdict.Verdict.TheVariants.Refused, verdict.Verdict.TheVariants.Rejected, verdict.Verdict.Verdict}
pub use Rattle.mum_state.specs.declared.edit.Edit.TheVariants.{AddAccount, EditChannel, Join, Kick, Leave as LeaveEdit, MakeChannel, RemoveChannel, SetAcl, SetLimits, SetServer, SetTarget, SetTokens, SetUser}
pub use Rattle.mum_bans.specs.Book.{Book}
pub use Rattle.mum_route.specs.Hearers.{hearers_at}
pub use Rattle.mum_published.proofs.Public.{prefix_trans}
pub use Rattle.mum_published.specs.{Bell.Comes, Bell.Lagging, Bell.NoMore, Bell.Rung, Calls.all_published, Calls.appended, Facts.NoteFacts, Facts.Opening, Facts.PassFacts, Facts.PublisherFacts, Facts.ReplyFacts}
pub use Rattle.mum_published.specs.declared.roll.Login.{Login}
pub use Rattle.mum_notify.proofs.Public.{last_only_for_kicked_lem}
pub use Rattle.mum_notify.specs.Laws.{kicked}
pub use Rattle.mum_notify.specs.declared.notice.Notice.{Notice}
pub use Rattle.mum_parcel.specs.{Facts.PostFacts, Facts.VoiceFacts, Rules.parcel_of}
pub use Rattle.mum_session.proofs.Public.{alike, sends, version-asks}
pub use Rattle.mum_session.specs.{Action.Decoded, Action.asks, Action.ignore, Action.kept_version, Action.version_action, Action.version_after, Machine.Machine, Machine.answered as machine_answered, Machine.fresh_with_bans, Machine.is_rejected, Machine.stage_after, Reply.mark, Reply.reply_end, Verdict.edits_of}
pub use Rattle.mum_session.specs.declared.{action.Action.Action, action.Action.TheVariants.Ask, action.Action.TheVariants.Bans, action.Action.TheVariants.Echo, action.Action.TheVariants.Ignore, action.Action.TheVariants.Keep, action.Action.TheVariants.Voice, action.TheConstants.BAN_LIST, command.Asked.Asked, command.Command.Command}
pub use Rattle.mum_router.specs.{Facts.RouterFacts, Offering.Delivery, Offering.is_sent, Offering.parcel_for, Routing.RoutesAt}
pub use Rattle.mum_router.specs.declared.offering.Routed.{Routed}
pub use Rattle.mum_warden.specs.{Answer.sent, Warden.WardenFacts, Warden.verdict_in}
pub use Rattle.mum_core.proofs.Public.{AreSettled, accepted_grows, changed_other, changed_same, collect_keeps, collect_workers, decided_workers, drain_keeps, drain_workers, frame_keeps, length-changed, none_stands, notes_keep, notices_are_posted, placed, posted_workers, posts_are_collected, puts_keep, puts_workers, same_opening, seat_on, seat_placed, settled_start, settled_step, waits}
pub use Rattle.mum_core.specs.{Case.first_that_stands, Delivery.Queues, Delivery.does_from, Delivery.is_for, Delivery.takes, Delivery.with_stale, Machine.machine_of, Machine.stage_of, Reply.reply, Reply.seat_in, Step.does, Step.frame_action, Step.frame_version, Step.illegal, Worker.HeldPacket, Worker.WorkerState, Worker.idle, Worker.in_hand, Worker.least_look, steps.Close.has_cause, steps.Close.kicks, steps.Close.was_kicked, steps.Collect.framed, steps.Collect.notice_queues, steps.Drain.carried, steps.Drain.copy_queues, steps.Frame.spoken}
pub use Rattle.mum_core.specs.Connection.{answered, asking, closed_at, fresh, fresh as fresh_connection, is_of, is_rejected as marks_rejection, is_untold, lagging, leave_waiting, leaving, next_command, next_of_frame, seat_given, session_of, told, wire_in, wire_of}
pub use Rattle.mum_core.specs.Core.{CoreState, at_connection, at_session, at_worker, connection_at, current, is_opened, outbox_at, posts_at, start, state_at, up, worker_at}
pub use Rattle.mum_core.specs.Laws.{IsRun, collected, gathered, noticed, offered, own_front, own_notice, posted_in, ran}
pub use Rattle.mum_core.specs.declared.{connection.Connection.Connection, connection.Leave.Leave, connection.Reply.Reply, connection.Seat.Seat, machine.Totals.Totals, outbox.Parcel.Parcel, worker.Outgoing.Outgoing}
pub use Rattle.mum_port.proofs.Public.{awaits-after_frame, connection-after_frame, post-leaves, stage-after_frame, voice-leaves, worker-after_frame}
pub use Rattle.mum_port.specs.{Did.action_of, Did.is_last, Did.post_bytes, Did.stray_posts, Did.stray_voices, Did.voice_bytes, Facts.PortFacts, Facts.item_of, Facts.may_handle, Facts.new_port, Facts.next_word, Facts.waiting_after as waits_with, Handling.Acts, Handling.Sinks, Passes.PassesFacts, Passes.told_by as told_by_passes, Stage.is_live, Steps.CollectsPost, Steps.DrainsVoice, Steps.sinks, Taking.TakesPost, Taking.TakesVoice, Taking.foreign_count, Taking.has_taken, Taking.stage_after_post, Turn.RoutesPacket as PortRoutes}
pub use Rattle.mum_port.specs.declared.{item.DeskItem.DeskItem, port.TheConstants.UNWRITTEN_LIMIT, stage.Stage.Stage, stage.Stage.TheVariants.Ending, stage.Stage.TheVariants.Live}
pub use Rattle.mum_control.specs.Commanded.{Accepts, Commanded, Decides, Denies, IsDropped, Publishes, current as now, next_revision as next, with_accepted}
pub use Rattle.mum_control.specs.{Facts.ControlFacts, Kept.slot_of, Posting.EmptiesPost, Posting.PostsNext, Posting.answer_of, Posting.due_behind, Posting.due_notices}
pub use Rattle.mum_control.specs.declared.posted.Posted.{Posted}
pub use Rattle.mum_worker.specs.{Boxes.BoxesFacts, Facts.WorkerFacts, Hearing.Admits, Hearing.Hears, Hearing.LearnsGiven, Routing.CommonFacts, Routing.RoutesPacket, Stepping.PortSteps, Stepping.Shares, Turning.Turned, Turning.WorkerTurned, Turning.shares_of}
pub use Rattle.mum_owner.specs.Banning.{Answers, IsGivenOrRefused, ListComesTo, SettledBy, SettlesList, TestedBy, ban_reply, banned_in, book_after, is_banned, list_reply, with_warden}
pub use Rattle.mum_owner.specs.{Facts.OwnerFacts, Given.IsGiven, Given.roll_of, Guests.owned, Serving.Next.Again, Serving.Next.Goes, Serving.Next.Rest, Written.is_leave, Written.is_login}
pub use Rattle.mum_owner.specs.Serving.{EmptiesFor, LeaveIsGiven, Next, Receives, ReceivesBy, ReceivesItem, Rests, Serves, ServesDesk, leave_of, must_wait, with_pass}
pub use Rattle.mum_owner.specs.Turned.{ArchivesBy, Asks, PostsOne, has_posted, is_not_to_ask, is_over, is_through, lag_at, pressing, with_lag}
pub use Rattle.mum_owner.specs.declared.kept.Lag.{Lag}
pub use Rattle.mum_worker_laws.specs.Laws.{Look as Packet, Looked, Moment, Take, Told, Took, history, look_asked, look_in, look_made, look_stepped, looks_in, moments_along, moments_of, moments_stepped, takes_by, told_by}
pub use Rattle.mum_worker_laws.specs.Lives.{said_by, said_of}
pub use Rattle.mum_step_laws.specs.{Apart.OwnersAreApart, Apart.WorkersAreApart, Apart.is_of_owner, OwnerSteps.PublishesArePublishes, WorkerSteps.LooksAreLooks, WorkerSteps.OffersAreOffers, WorkerSteps.StandsAt, WorkerSteps.copies_for, WorkerSteps.held_packet, WorkerSteps.parcel_of_core}
pub use Rattle.mum_step_laws.specs.ControlSteps.{CommandsAreEdits, DecidesAsEdit, FullBoxesLag, HasAsked, NoticesArePosted, OwnsAs, Text as SentText, Text, published_with, revision_noted, text_of_notice, text_of_parcel, was_posted}
pub use Rattle.mum_step_laws.specs.OwnerTurns.{Decision, OwnersAreOwners, decided_as, decided_by, decided_command, decided_given, decided_in, decided_item, decided_leave, decided_owned, decided_receiving, decided_settling, decided_tested, decided_waiting, publish_noted, step_where, steps_decided}
pub use Rattle.mum_step_laws.specs.PortSteps.{ClosesAreCloses, ConnectionsAreOpened, FramesAreFrames, IsKnownAs, IsOpenAs, IsSeated, KickedMayClose, KnowsCause, ListsAreNoSteps, MayNote, NoticesAreCollected, RepliesAreTold, SpeechIsDrained, asked_in, held_of, totals_after}
pub use Rattle.mum_step_laws.specs.WorkerRuns.{Allows, AllowsEach, HasNoted, Hold, LookAt, MayBeTold, MaySpeak, Note, NotesAreTold, OfferNext, WorkerStep, WorkerStepsAreSteps, WorkersAreWorkers, after_step, after_steps, copies_offered, offered_by, packet_in, steps_of}
unfoldable pub use Rattle.mum_frame.specs.Frame.{kind_of, payload_of}
unfoldable pub use Rattle.mum_voice.specs.Packet.{packet}
unfoldable pub use Rattle.mum_session.specs.{Action.action, Action.after_frame, Verdict.verdict}
