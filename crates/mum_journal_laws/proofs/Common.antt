-- The names that the proofs of this crate take from elsewhere, passed on from one place. Declares nothing.
pub use mathlib.Core.List.{IsPrefix}
pub use Rattle.std.proofs.lemmas.{Bool.eq-eqb, Bool.eqb-true, Bool.ne_eqb, Bool.true≢false, List.Kept.AllPairs-cons, List.take_at}
pub use Rattle.std.proofs.lemmas.List.Elements.{All-cons, All-contains, All-from_recursion, All-head, All-map, All-nil, All-tail, filter_map-append, recursion_from_All}
pub use Rattle.std.proofs.Common.{Bool, List, None, Option, Some, [], ap, append-nil, arith, cond, false, filter, get_or, inl, inr, length, length-append, map, refl, subst, suc, sym, take, true, zero, ℕ, ◌++◌, ◌+◌, ◌<◌, ◌==◌, ◌∙◌, ◌∷◌, ◌≡◌, ◌≢◌, ◌≤◌}
pub use Rattle.std.specs.{List.All, List.AllByRecursion, List.AllPairs, List.AllZip, List.filter_map, List.flat_map, List.list_any, Option.option_and_then, Option.option_map, Option.option_map_or}
pub use Rattle.std.specs.Prelude.{IfSome, MatchBool, MatchOption, find, is_none, is_some, nat_eq, nat_lt, slice_get, ◌&&◌, ◌||◌}
pub use Rattle.indexmap.specs.IndexMap.{insert_entry}
pub use Rattle.mum_base.specs.Codes.{deny_code, reason_code}
pub use Rattle.mum_base.specs.declared.{number.SessionId.SessionId, number.Slot.Slot, number.TheConstants.CONNECTION_LIMIT, outcome.DenyType.DenyType, outcome.Reason.Reason, outcome.Reason.TheVariants.NotThere, reply.ReplyEnd.ReplyEnd, reply.ReplyEnd.TheVariants.Decided, reply.ReplyEnd.TheVariants.Joined, reply.ReplyEnd.TheVariants.Rejected, reply.ReplyEnd.TheVariants.Rejected as RejectedEnd}
pub use Rattle.mum_io.specs.{Door.DoorFacts, Link.LinkFacts}
pub use Rattle.mum_io.specs.declared.door.Accept.{Accept}
pub use Rattle.mum_frame.specs.declared.frame.Frame.{Frame}
pub use Rattle.mum_policy.specs.Member.{Actor}
pub use Rattle.mum_outbox.specs.Facts.{QueueId}
pub use Rattle.mum_crew.specs.{Crew.CrewCounts, Turns.TurnsLead, Turns.TurnsTo}
pub use Rattle.mum_crew.specs.declared.role.Turn.{Turn}
pub use Rattle.mum_record.specs.declared.journal.{ControlEntry.ControlEntry, Journal.Journal, WorkerEntry.TheVariants.Closed, WorkerEntry.TheVariants.Voice, WorkerEntry.WorkerEntry}
pub use Rattle.mum_state.specs.{After.led_to, Permissions.granted_where_there, State.StateValue, State.policy_of}
pub use Rattle.mum_state.specs.declared.{edit.Edit.Edit, verdict.Verdict.TheVariants.Accepted, verdict.Verdict.TheVariants.Answer, verdict.Verdict.TheVariants.Ignored, verdict.Verdict.TheVariants.Lacks, verdict.Verdict.TheVariants.Refused, verdict.Verdict.Verdict}
pub use Rattle.mum_bans.specs.Book.{Book}
pub use Rattle.mum_rules_tree.specs.{Asked.Command as TreeCommand, Decision.first_lack, Decision.first_standing, Decision.unless_refused, Verdict.actor_named, Verdict.command_verdict, Verdict.tree_verdict}
pub use Rattle.mum_rules_tree.specs.declared.{message.TreeMessage.TreeMessage, needs.Lack.Lack}
pub use Rattle.mum_route.specs.{Hearers.member_of, Laws.HearersAreTheRoute, Route.Member, Route.route}
pub use Rattle.mum_route.specs.declared.hearer.Hearer.{Hearer}
pub use Rattle.mum_published.specs.{Calls.appended, Calls.state_of, Facts.Opening, Facts.PassFacts, Facts.ReplyFacts, Rolls.login_of}
pub use Rattle.mum_rules_user.specs.{Asked.Command as UserCommand, Asked.command_of, Limits.limits, Needs.needs, Reasons.reasons, Verdict.actor_for, Verdict.heard_verdict}
pub use Rattle.mum_rules_user.specs.declared.message.UserMessage.{TheVariants.Leave, UserMessage}
pub use Rattle.mum_opening.specs.Opening.{document_edits, greatest_limits, opening}
pub use Rattle.mum_kept.specs.declared.rows.KeptRows.{KeptRows}
pub use Rattle.mum_session.specs.Reply.{mark, reply_end}
pub use Rattle.mum_session.specs.declared.command.{Asked.Asked, Asked.TheVariants.Tree, Asked.TheVariants.User, Command.Command}
pub use Rattle.mum_router.specs.Offering.{Delivery, Outs, mark_of}
pub use Rattle.mum_warden.specs.{Answer.sent, Warden.WardenFacts, Warden.verdict_in}
pub use Rattle.mum_port.specs.{Asked.WasAsked, Facts.PortFacts}
pub use Rattle.mum_port.specs.declared.item.DeskItem.{DeskItem}
pub use Rattle.mum_control.specs.{Commanded.Commanded, Commanded.Decides, Commanded.current, Facts.ControlFacts, Kept.slot_of, Posting.EmptiesPost}
pub use Rattle.mum_audit.specs.{Audit.entries_of as entries_in, Audit.past_before, Audit.past_of, Controls.after_entries, Controls.after_entry, Controls.mark_on, Controls.verdict_on, Finding.members_of, Legal.IsHeard, Legal.IsLegal, Legal.IsRight, Legal.closed_by, Legal.past_at, Legal.revision_of, Past.Past, Past.after_verdict, Past.begun, Past.session_of, Past.state_at, Past.with_login}
pub use Rattle.mum_keeper.specs.Keeping.{KeeperFacts}
pub use Rattle.mum_worker.specs.{Facts.WorkerFacts, Intake.worker_of, Opening.HasOpened, Opening.IsUnused, Turning.WorkerTurned}
pub use Rattle.mum_owner.specs.Banning.{Answers, IsGivenOrRefused, ListComesTo, SettledBy, TestedBy, ban_reply, banned_in, book_after, is_banned, list_reply, with_warden}
pub use Rattle.mum_owner.specs.{Decided.with_command, Facts.GuestsFacts, Facts.OwnerFacts, Given.IsGiven, Given.roll_of, Opened.IsOpened, Serving.Next.Again, Serving.Next.Goes, Serving.Next.Rest, Serving.Next.Take, Written.is_leave, Written.is_login, Written.own_frame, Written.version_of}
pub use Rattle.mum_owner.specs.Guests.{is_not_of, is_of, joined_by, lag_noted, left, new_guest, owned, seated}
pub use Rattle.mum_owner.specs.Serving.{EmptiesFor, LeaveIsGiven, Next, Receives, ReceivesBy, ReceivesItem, Rests, Serves, leave_after, leave_of, may_go, must_wait, next, next_by, with_pass}
pub use Rattle.mum_owner.specs.Turned.{ArchivesBy, Asks, OwnerTurned, PostsOne, Presses, Publishes, guests_by, is_not_to_ask, is_over, is_through, lag_at, makes_note, pressing, with_lag}
pub use Rattle.mum_owner.specs.declared.{desk.TheConstants.PENDING_LIMIT, guests.Guest.Guest, kept.Lag.Lag}
pub use Rattle.mum_worker_laws.specs.{Closings.is_closing_of, Closings.is_open_of, Laws.Moment.Looked, Laws.Moment.Told, Laws.Moment.Took, Lives.IsAbove, Lives.IsBelow, Lives.IsOfWorker, Lives.count, Lives.ports_taken, Voices.Talk, Voices.talk_in, Voices.talk_made}
pub use Rattle.mum_worker_laws.specs.Laws.{Follows, Look, Moment, copies_at, copies_made, history, login_made, looks_in}
pub use Rattle.mum_serve.specs.{Asked.Lent, Asked.Service, Journals.closing_room, Journals.entries_of, Journals.journal_of, Journals.per_worker, Loading.Loads, Loading.state_over, Opened.AreOpenedFrom, Opened.fresh_pass, Program.HasServed, Serving.HasRun}
pub use Rattle.mum_serve.specs.declared.{asked.Objects.Objects, entries.Entries.Entries, program.Input.Input, program.ServerEnd.ServerEnd, summary.Summary.Summary}
pub use Rattle.mum_heard.specs.Again.{IsHeardAgain, RequestsAreHeardAgain}
pub use Rattle.mum_step_laws.specs.OwnerTurns.{Decision, decided_as, decided_by, decided_command, decided_given, decided_item, decided_leave, decided_owned, decided_receiving, decided_settling, decided_tested, decided_waiting, decisions_of}
pub use Rattle.mum_serve_laws.proofs.Public.{edits_decided, of_the_desk, turns_lead}
pub use Rattle.mum_serve_laws.specs.{Counted.GoesToHearers, Decisions.decisions, Decisions.edits_after, Decisions.entries_after, Decisions.entry_of, Decisions.logins_decided}
pub use Rattle.mum_serve_laws.specs.Runs.{AreOfTheTurns, AreRouted, AreTold, AreWritten, decisions_of_run, edits_of_run, looks_by_worker, looks_of_each, looks_of_run}
pub use Rattle.mum_journal_laws.specs.Following.{AreAnswered, AreAskedFor, AreForTheirLogins, DecisionsAreForTheirLogins, DecisionsWereAskedFor, Logins, LoginsLast, logins_after, session_in, with_login_of}
pub use Rattle.mum_journal_laws.specs.{Journals.KeepsJournal, OneServer.AreDecided, OneServer.IsOneServer, OneServer.LooksGoOn, OneServer.SendsTheCopies}
unfoldable pub use Rattle.mum_voice.specs.Packet.{packet}
unfoldable pub use Rattle.mum_session.specs.Verdict.{verdict}
unfoldable pub use Rattle.mum_audit.specs.Decision.{decided}
