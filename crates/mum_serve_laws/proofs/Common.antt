-- The names that the proofs of this crate take from elsewhere, passed on from one place. Declares nothing.
pub use mathlib.Core.List.{IsPrefix}
pub use Rattle.std.proofs.lemmas.List.{Concat.flat_map-append, Elements.All-append, Elements.All-cons, Elements.All-head, Elements.All-nil, Elements.All-tail, Elements.Contains-append_left, Elements.filter_map-append, Folds.list_any-append, Sums.sum_by-append, Sums.sum_by-cons}
pub use Rattle.std.proofs.Common.{Bool, IfSome, List, None, Option, Some, [], ap, append-nil, append_assoc, arith, cond, false, filter, inl, inr, length, length-append, map, min, not, refl, subst, suc, sym, true, zero, ℕ, ◌++◌, ◌+◌, ◌-◌, ◌^◌, ◌∙◌, ◌∷◌, ◌≡◌, ◌≤◌}
pub use Rattle.std.specs.List.{AllByRecursion, AllPairs, AllZip, Contains, FoldsTo, filter_map, flat_map, list_any, sum_by}
pub use Rattle.std.specs.Option.{option_and_then, option_map}
pub use Rattle.std.specs.Prelude.{All, MatchBool, MatchOption, find, is_none, is_some, option_to_list, slice_get, slice_set, ◌&&◌, ◌||◌}
pub use Rattle.mum_base.specs.declared.{number.Cause.Cause, number.SessionId.SessionId, number.Slot.Slot, number.TheConstants.VOICE_CAPACITY, reply.Mark.Mark, reply.ReplyEnd.ReplyEnd}
pub use Rattle.mum_io.specs.{Door.DoorFacts, Link.LinkFacts}
pub use Rattle.mum_io.specs.declared.door.Accept.{Accept}
pub use Rattle.mum_voice.specs.Packet.{Parts}
pub use Rattle.mum_outbox.specs.{Calls.Offers, Facts.PassFacts as BoxFacts, Facts.QueueId}
pub use Rattle.mum_outbox.specs.declared.{queue.Offered.Offered, queue.Offered.TheVariants.Full, queue.Offered.TheVariants.Sent, rule.TheConstants.LAST}
pub use Rattle.mum_crew.specs.{Along.Along, Turns.TurnsLead, Turns.TurnsTo}
pub use Rattle.mum_crew.specs.declared.role.Turn.{Turn}
pub use Rattle.mum_record.specs.declared.journal.{ControlEntry.ControlEntry, WorkerEntry.WorkerEntry}
pub use Rattle.mum_state.specs.{After.led_to, State.StateValue}
pub use Rattle.mum_state.specs.declared.{edit.Edit.Edit, verdict.Verdict.TheVariants.Accepted, verdict.Verdict.TheVariants.Ignored, verdict.Verdict.TheVariants.Lacks, verdict.Verdict.TheVariants.Refused, verdict.Verdict.TheVariants.Rejected, verdict.Verdict.Verdict}
pub use Rattle.mum_bans.specs.Book.{Book}
pub use Rattle.mum_published.proofs.Public.{prefix_trans}
pub use Rattle.mum_published.specs.{Bell.Answer, Bell.Comes, Bell.Lagging, Bell.NoMore, Bell.Rung, Calls.all_published, Calls.appended, Calls.ask_at, Calls.state_of, Facts.NoteFacts, Facts.Opening, Facts.PassFacts, Facts.PublisherFacts, Facts.ReplyFacts, Rolls.login_of}
pub use Rattle.mum_published.specs.declared.{roll.Login.Login, rule.AskAt.AskAt}
pub use Rattle.mum_notify.specs.declared.notice.Notice.{Notice}
pub use Rattle.mum_parcel.specs.Facts.{VoiceFacts}
pub use Rattle.mum_kept.specs.declared.rows.KeptRows.{KeptRows}
pub use Rattle.mum_session.specs.{Reply.mark, Verdict.edits_of}
pub use Rattle.mum_session.specs.declared.{action.Action.Action, action.Action.TheVariants.Voice, command.Command.Command}
pub use Rattle.mum_router.specs.{Facts.RouterFacts, Picking.ask_of, Picking.looks_of, Routing.RoutesAt}
pub use Rattle.mum_router.specs.Offering.{Delivers, Delivery, Outs, copies_of, full_of, is_sent, parcel_for, was_sent}
pub use Rattle.mum_router.specs.declared.offering.Routed.{Routed}
pub use Rattle.mum_warden.specs.{Answer.sent, Warden.WardenFacts, Warden.verdict_in}
pub use Rattle.mum_core.proofs.Public.{skip}
pub use Rattle.mum_core.specs.Laws.{IsSubsequenceBy}
pub use Rattle.mum_port.specs.{Did.action_of, Facts.PortFacts, Passes.told_by as told_by_passes, Turn.RoutesPacket as PortRoutes}
pub use Rattle.mum_port.specs.declared.{item.DeskItem.DeskItem, port.Step.Step}
pub use Rattle.mum_control.specs.{Commanded.Commanded, Commanded.Decides, Commanded.Publishes, Commanded.current, Commanded.next_revision, Commanded.with_accepted, Facts.ControlFacts, Kept.slot_of, Posting.EmptiesPost, Posting.PostsNext, Posting.due_notices}
pub use Rattle.mum_control.specs.declared.posted.Posted.{Posted}
pub use Rattle.mum_keeper.proofs.Public.{settled}
pub use Rattle.mum_keeper.specs.{Keeping.KeeperFacts, Mirror.MirrorFacts, Mirror.opening_of, Store.Settles, Store.StoreFacts, Turns.HoldsKept}
pub use Rattle.mum_keeper.specs.declared.keeper.KeepEnd.{KeepEnd}
pub use Rattle.mum_worker.specs.{Boxes.BoxesFacts, Facts.WorkerFacts, Facts.intake_of, Hearing.Admits, Hearing.Hears, Hearing.LagsWhereIts, Hearing.LearnsGiven, Hearing.TakesOrTurns, Opening.HasOpened, Opening.IsUnused, Record.RecordFacts, Record.after_close, Record.after_step, Record.first_record, Record.is_memory, Record.without_room, Routing.CommonFacts, Routing.RoutesPacket, Stepping.PortSteps, Stepping.Shares, Turning.Turned, Turning.WorkerTurned, Turning.shares_of}
pub use Rattle.mum_worker.specs.declared.intake.Intake.{Intake}
pub use Rattle.mum_owner.proofs.Public.{decided_roll}
pub use Rattle.mum_owner.specs.Banning.{Answers, IsGivenOrRefused, ListComesTo, SettledBy, SettlesList, TestedBy, ban_reply, banned_in, book_after, is_banned, list_reply, with_warden}
pub use Rattle.mum_owner.specs.{Decided.with_command, Facts.GuestsFacts, Facts.OwnerFacts, Facts.ScribeFacts, Given.IsGiven, Given.replied, Given.roll_of, Given.starved, Guests.is_of, Guests.joined_by, Guests.left, Guests.owned, Guests.session_of, Opened.IsOpened, Serving.Next.Again, Serving.Next.Goes, Serving.Next.Rest, Serving.Next.Take, Written.entries_by, Written.is_leave, Written.is_login, Written.prepared, Written.recorded, Written.refused}
pub use Rattle.mum_owner.specs.Laws.{came_by, came_where, connections_given, one_leave, one_tested, settled_by, settled_given, settled_in, settled_item, settled_owned, settled_waiting}
pub use Rattle.mum_owner.specs.Serving.{EmptiesFor, LeaveIsGiven, Next, Receives, ReceivesBy, ReceivesItem, Rests, Serves, ServesDesk, leave_of, must_wait, next, with_pass}
pub use Rattle.mum_owner.specs.Turned.{ArchivesBy, Asks, OwnerTurned, PostsOne, Presses, Publishes as PublishesLeft, guests_by, is_not_to_ask, is_over, is_through, lag_at, makes_note, pressing, with_lag}
pub use Rattle.mum_owner.specs.declared.{guests.Guest.Guest, kept.Coming.Coming, kept.Lag.Lag}
pub use Rattle.mum_worker_laws.specs.Laws.{HoldsFor, IsTold, Look, Looked, Moment, Told, Took, history, login_made, look_asked, look_in, look_made, look_stepped, looks_in, moments_along, moments_of, moments_stepped, takes_by, takes_in, told_by}
pub use Rattle.mum_worker_laws.specs.Voices.{Talk, talk_in, talk_made}
pub use Rattle.mum_serve.specs.{Asked.Service, Journals.closing_room, Journals.entries_of, Journals.per_worker, Loading.Loads, Loading.state_over, OneList.AreWithin, Opened.AreOpenedFrom, Opened.WorkerBegins, Opened.fresh_pass, Roles.with_workers, Serving.HasRun, Serving.LoadsAndServes, Stores.CameToStore, Stores.HasStored, Stores.archive_queue, Totals.nothing, Totals.with_worker, Views.viewer_memory}
pub use Rattle.mum_serve.specs.declared.{asked.Objects.Objects, entries.Entries.Entries, server.Served.TheVariants.Whole, summary.Summary.Summary, totals.Totals.Totals}
pub use Rattle.mum_step_laws.specs.OwnerTurns.{Decision, decided_as, decided_by, decided_command, decided_given, decided_in, decided_item, decided_leave, decided_owned, decided_receiving, decided_settling, decided_tested, decided_waiting, decisions_of}
pub use Rattle.mum_serve_laws.specs.Counted.{GoesToHearers, causes_along, causes_heard, causes_in, causes_lagged, causes_lagging, causes_turned, copies_refused, copies_sent, strays_along, strays_in, strays_stepped, strays_turned, up_to_64}
pub use Rattle.mum_serve_laws.specs.Decisions.{Gave, IsOn, Work, decisions, edits_after, entries_after, entry_of, logins_decided, work_done, work_of}
pub use Rattle.mum_serve_laws.specs.Runs.{AreOfTheTurns, AreRouted, AreTold, AreWritten, KeepsTheEnd, causes_of_each, decisions_of_run, edits_of_run, looks_of_each, moments_of_each, strays_of_each}
unfoldable pub use Rattle.mum_session.specs.Verdict.{verdict}
