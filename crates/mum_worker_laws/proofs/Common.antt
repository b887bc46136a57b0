-- The names that the proofs of this crate take from elsewhere, passed on from one place. Declares nothing.
pub use mathlib.Core.List.{IsPrefix}
pub use Rattle.std.proofs.{Math.ListN.set, lemmas.Bool.Decides.nat_tests, lemmas.Bool.eq-eqb, lemmas.Bool.eqb-true, lemmas.Grind.flat_map-append, lemmas.List.Kept.AllPairs-cons, lemmas.List.Kept.AllPairs-filter, lemmas.List.Quantifiers.position-Some, lemmas.List.append-nil, lemmas.List.map-append, lemmas.Map.Views.Contains-from_any, lemmas.Option.get_or_from_slice_get, lemmas.Option.slice_get_within}
pub use Rattle.std.proofs.lemmas.List.Elements.{All-append, All-cons, All-contains, All-filter, All-from_recursion, All-get_or, All-head, All-nil, All-push, All-same, All-set, All-tail, Contains-append_left, Contains-push, filter-append, filter_map-append, recursion_from_All}
pub use Rattle.std.proofs.Common.{All, Bool, Err, IsTrue, List, None, Ok, Option, Result, Some, [], ap, append_assoc, arith, cond, false, filter, get_or, if◌then◌else◌, inl, inr, is_some, length, length-append, map, min, nat_lt, not, position, refl, slice_get, slice_set, subst, suc, sym, true, true≢false, zero, ℕ, ⊎_elim, ◌&&◌, ◌++◌, ◌+◌, ◌-◌, ◌<◌, ◌==◌, ◌||◌, ◌∙◌, ◌∷◌, ◌≡◌, ◌≢◌, ◌≤◌, ◌⊎◌}
pub use Rattle.std.specs.List.{AllByRecursion as Each, AllPairs, Contains, FoldsTo, cons_option, filter_map, flat_map, list_any}
pub use Rattle.std.specs.Option.{ForSome}
pub use Rattle.std.specs.Prelude.{option_to_list, ⊤}
pub use Rattle.mum_base.specs.declared.{number.Cause.Cause, number.Cause.TheVariants.End, number.SessionId.SessionId, number.TheConstants.CONNECTION_LIMIT, number.TheConstants.VOICE_CAPACITY, outcome.Reason.TheVariants.Gone, outcome.Reason.TheVariants.NotRead, reply.ReplyEnd.ReplyEnd, reply.ReplyEnd.TheVariants.Decided, reply.ReplyEnd.TheVariants.Joined, reply.ReplyEnd.TheVariants.Rejected}
pub use Rattle.mum_io.specs.Link.{LinkFacts}
pub use Rattle.mum_frame.specs.{Frame.IsFrame, Frame.frame_spelling, Stream.Splits}
pub use Rattle.mum_frame.specs.declared.{frame.Frame.Frame, kind.TheConstants.AUTHENTICATE, kind.TheConstants.PING, kind.TheConstants.UDP_TUNNEL, kind.TheConstants.VERSION}
pub use Rattle.mum_fields.specs.Table.{decoded}
pub use Rattle.mum_voice.specs.Packet.{Parts}
pub use Rattle.mum_voice.specs.declared.fault.BadVoice.{BadVoice}
pub use Rattle.mum_outbox.specs.{Calls.IsNewPass, Calls.Offers, Calls.Takes, Facts.PassFacts as BoxFacts, Facts.QueueFacts, Rule.IsBefore}
pub use Rattle.mum_outbox.specs.declared.{queue.Offered.Offered, queue.Offered.TheVariants.Full, queue.Offered.TheVariants.Sent, rule.Tagged.Tagged, rule.TheConstants.LAST}
pub use Rattle.mum_crew.specs.{Along.Along, Turns.TurnsTo}
pub use Rattle.mum_crew.specs.declared.role.Turn.{TheVariants.Idle, TheVariants.Worked, Turn}
pub use Rattle.mum_msg_state.specs.Messages.{ping, version}
pub use Rattle.mum_record.specs.declared.journal.WorkerEntry.{WorkerEntry}
pub use Rattle.mum_state.specs.declared.edit.Edit.{Edit}
pub use Rattle.mum_published.proofs.Public.{prefix_self, prefix_trans}
pub use Rattle.mum_published.specs.{Bell.Answer, Bell.Comes, Bell.Lagging, Bell.NoMore, Bell.Rung, Calls.edits_told, Facts.NoteFacts, Facts.Opening, Facts.PassFacts, Facts.ReplyFacts, Rolls.is_admitted, Rolls.is_on_roll, Rolls.login}
pub use Rattle.mum_published.specs.declared.roll.Login.{Login}
pub use Rattle.mum_parcel.specs.Facts.{PostFacts, VoiceFacts}
pub use Rattle.mum_session.specs.Action.{Decoded, after_login, bans_action, command_action, commands_after_login, ignore, login_action, ping_action, tree_or_user_action, version_action, voice_action}
pub use Rattle.mum_session.specs.{Heard.command_heard, Heard.login_heard, Machine.Machine, Machine.answered, Machine.is_rejected, Machine.session_of}
pub use Rattle.mum_session.specs.declared.{action.Action.Action, action.Action.TheVariants.Ask, action.Action.TheVariants.Bans, action.Action.TheVariants.Voice, action.TheConstants.BAN_LIST, command.Asked.Asked}
pub use Rattle.mum_router.proofs.Public.{Kept, SeesEach, have_entries, kept_of, sees_append, sees_of}
pub use Rattle.mum_router.specs.{Facts.RouterFacts, Laws.RoutedPacket, Offering.Delivers, Offering.Delivery, Offering.Outs, Offering.parcel_for, Routing.RoutesAt}
pub use Rattle.mum_router.specs.declared.offering.Routed.{Routed}
pub use Rattle.mum_port.proofs.Public.{and-left, and-right, awaits_then, closed_life, connection-after_frame, conserved, end_has_all, front_of, put_once, quiet, stage-after_frame, stage_once_put-closed, taking-is, waits_still, written_in_order}
pub use Rattle.mum_port.specs.Did.{PortDid, action_of, asked_item, desk_after_put, echo_of, is_last, machine_after, port_after_put, post_bytes, queued, stage_kept, stage_once_put, voice_bytes, waiting_after_put}
pub use Rattle.mum_port.specs.Facts.{PortFacts, due_item, item_of, leave, may_handle, new_port, next_item, next_word, stage_after_put, waiting_after}
pub use Rattle.mum_port.specs.Life.{Event, Happens, Heard, Lives, Steps, bytes_taken, frames_handled, items_asked, items_put, lagged, replied, stepped, words_said}
pub use Rattle.mum_port.specs.{Passes.HasTaken, Passes.HaveTaken, Passes.IsToldCopy, Passes.IsToldNotice, Passes.PassesFacts, Passes.told_by as told_by_passes, Replies.Answers, Replies.Lags, Replies.passes_after, Stage.cause_of, Stage.closed_for, Stage.is_closed, Stage.is_gone, Stage.is_live, Stage.stage_after_reply, Taking.stage_after_post, Turn.LooksWhereItMay, Turn.PassesTake, Turn.RoutesPacket as PortRoutes, Turn.Settled, Turn.TakesAtMostOne}
pub use Rattle.mum_port.specs.declared.{item.DeskItem.DeskItem, port.Step.Step, stage.Farewell.TheVariants.Done, stage.Farewell.TheVariants.LastWord, stage.Farewell.TheVariants.Leave, stage.Stage.Stage, stage.Stage.TheVariants.Closed, stage.Stage.TheVariants.Ending, stage.Stage.TheVariants.Live}
pub use Rattle.mum_worker.specs.{Bell.BellFacts, Bell.TakesRung, Boxes.ArePassesFor, Boxes.BoxesFacts, Facts.WorkerFacts, Facts.intake_of, Facts.is_done, Facts.is_of, Facts.stays, Intake.worker_of, Opening.HasOpened, Record.RecordFacts, Record.after_close, Record.after_step, Record.first_record, Record.has_closing_room, Record.without_room, Routing.CommonFacts, Routing.RoutesPacket, Stepping.PortSteps, Stepping.Shares, Turning.Turned, Turning.WorkerTurned, Turning.shares_of}
pub use Rattle.mum_worker.specs.Hearing.{Admits, AnswersFirst, Hears, HearsLag, LagsWhereIts, LearnsGiven, TakesIn, TakesOrTurns}
pub use Rattle.mum_worker.specs.declared.intake.Intake.{Intake}
pub use Rattle.mum_worker_laws.specs.Befallen.{Befallen, Closing, Happening, Heeded, befallen, befell, bell_befell, closing_in, closing_told, closings_in, closings_told, happening_of, happenings, happenings_of, lag_befell, lags_befell, reply_befell, shut_for, step_befell, steps_befell, turn_befell}
pub use Rattle.mum_worker_laws.specs.{Causes.FindsNothing, Causes.HasNothingToDo, Causes.HasWorked, Causes.StepWorked, Causes.is_no_more, Closings.IsClosedWhere, Closings.IsShutByLag, Closings.closes_one, Closings.is_closing_of, Closings.is_open_of, Closings.is_open_one, Parcels.AreInOrder, Parcels.AreTakenInOrder, Parcels.TookInOrder, Partings.is_rejection, Partings.parts, Partings.rejects, Partings.was_parted, Partings.was_rejected, Voices.talk_in, Voices.talk_made}
pub use Rattle.mum_worker_laws.specs.Laws.{AreOfOneList, Copied, Follows, HasLogin, HoldsFor, IsLoggedIn, IsTold, Look, Looked, Moment, Noticed, Parcel, SeesFrom, Take, Told, Took, ask_made, bytes_of_take, copies_at, copies_made, copy_for, edits_of, edits_with, history, if_sent, if_there, login_made, look_asked, look_in, look_made, look_stepped, looks_in, moments_along, moments_of, moments_stepped, offered_in, packets_in, routed_packet, take_in, take_of, takes_by, takes_in, told_by}
pub use Rattle.mum_worker_laws.specs.Lives.{AwaitsReply, HandlesNothing, HaveLived, IsAbove, IsBelow, IsLife, IsNew, IsNoPacketOf, IsNoReplyTo, IsOfAnother, IsOfWorker, IsOrderly, Life, Said, befell_all, count, if_taken, is_closed_of, is_item_of, is_life_of, items_of, packets_said, parcels_taken, ports_taken, put_by, put_by_all, put_of, routed_of, said_by, said_by_all, said_of, taken_by_all, taken_in, taken_of}
unfoldable pub use Rattle.mum_voice.specs.Packet.{packet}
unfoldable pub use Rattle.mum_session.specs.Action.{action, after_frame}
