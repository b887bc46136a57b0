-- The names that the proofs of this crate take from elsewhere, passed on from one place. Declares nothing.
pub use mathlib.Core.List.{IsPrefix}
pub use Rattle.std.proofs.lemmas.{Bool.Decides.nat_tests, Bool.and_parts, List.Kept.AllPairs-cons, List.drop_all, List.drop_more, List.length-map, List.map-append, Result.IfOk-weaker, Slice.Zip.AllZip-long}
pub use Rattle.std.proofs.lemmas.List.Elements.{All-cons, All-head, All-map, All-nil, All-push, All-rest, All-tail, All-take, All-weaker}
pub use Rattle.std.proofs.Common.{Bool, Err, IfOk, IfSome, IsTrue, List, None, Ok, OnErr, OnOk, Option, Result, Some, [], ap, append-nil, append_assoc, arith, cond, drop, false, get_or, inl, inr, is_err, is_some, length, length-append, map, refl, slice_index_or, subst, suc, sym, take, true, zero, ℕ, ◌*◌, ◌++◌, ◌+◌, ◌-◌, ◌<◌, ◌==◌, ◌^◌, ◌∙◌, ◌∷◌, ◌≡◌, ◌≤◌}
pub use Rattle.std.specs.{Global.Vec, List.All, List.AllByRecursion, List.AllPairs, List.AllZip, Option.option_map_or, Vec.Iter.into_iter_items, Vec.Iter.into_iter_len, Vec.vec_capacity}
pub use Rattle.std.specs.Prelude.{codes, nat_lt}
pub use Rattle.mum_base.specs.declared.number.TheConstants.{PLACES, SLOTS}
pub use Rattle.mum_io.proofs.Public.{AppendsFront-behind}
pub use Rattle.mum_io.specs.{Counts.Rose, Door.DoorFacts, Link.LinkFacts, Outside.Appends, Outside.IsAllOrLonger, Outside.Keeps}
pub use Rattle.mum_outbox.proofs.Public.{first_has, has_fewer, lower_has, pass_below, upper_has}
pub use Rattle.mum_outbox.specs.{Calls.HasNumbers, Calls.IsFirst, Calls.IsNewPass, Calls.lower_half, Calls.new_pass, Calls.upper_half, Facts.QueueFacts, Facts.QueueId}
pub use Rattle.mum_outbox.specs.declared.rule.TheConstants.{LAST}
pub use Rattle.mum_crew.specs.{Crew.CrewCounts, Crew.RunCounts, Turns.TurnsLead, Turns.TurnsTo}
pub use Rattle.mum_crew.specs.declared.{crew.CrewEnd.CrewEnd, crew.CrewEnd.TheVariants.NoMemory, crew.CrewEnd.TheVariants.Ran, crew.CrewEnd.TheVariants.Refused, role.Turn.Turn}
pub use Rattle.mum_record.specs.Journal.{Each, IsWritableEntry, IsWritableJournal}
pub use Rattle.mum_record.specs.declared.journal.{Journal.Journal, WorkerEntry.WorkerEntry}
pub use Rattle.mum_state.specs.{After.after, After.all_fit, After.led_to, Applied.applied, Fits.fits, State.StateValue, State.empty_state}
pub use Rattle.mum_state.specs.declared.edit.Edit.{Edit}
pub use Rattle.mum_document.specs.Fault.{Fault}
pub use Rattle.mum_document.specs.declared.fault.ConfigFault.TheVariants.{Limit}
pub use Rattle.mum_doorway.specs.Doors.{NoMoreCome, given_after_all}
pub use Rattle.mum_doorway.specs.declared.opening.DoorOpening.{DoorOpening}
pub use Rattle.mum_config.proofs.Public.{settings_fit_limits}
pub use Rattle.mum_config.specs.Limits.{FitAfterLimits, is_beside_channels, settings_and_accounts}
pub use Rattle.mum_config.specs.declared.{config.Config.Config, refusal.BadConfig.BadConfig}
pub use Rattle.mum_published.specs.{Calls.IsFresh, Calls.appended, Facts.Opening, Facts.PassFacts as Pass, Facts.PassFacts, Facts.PublisherFacts}
pub use Rattle.mum_viewer.specs.Viewer.{ViewerFacts, ViewerTurned, has_ended as viewer_has_ended}
pub use Rattle.mum_opening.proofs.Public.{edits_are}
pub use Rattle.mum_opening.specs.{Opening.document_edits, Opening.document_fault, Opening.greatest_limits, Opening.limits_edits, Opening.served_edits, Reading.ReadsDescribed}
pub use Rattle.mum_parcel.specs.Facts.{PostFacts}
pub use Rattle.mum_kept.specs.{Good.IsGood, Good.IsTree, Rebuild.rebuild}
pub use Rattle.mum_kept.specs.declared.rows.{KeptChannel.KeptChannel, KeptRows.KeptRows}
pub use Rattle.mum_router.specs.Offering.{Outs}
pub use Rattle.mum_kept_laws.proofs.Public.{rebuild_fits_lem}
pub use Rattle.mum_kept_laws.specs.RoundTrip.{HaveNumbers, first_limits}
pub use Rattle.mum_port.specs.declared.item.DeskItem.{DeskItem}
pub use Rattle.mum_control.specs.{Commanded.current, Facts.ControlFacts, Posting.IsOpened as IsOpenedControl}
pub use Rattle.mum_keeper.specs.{Archive.queue_of, Keeping.KeeperFacts, Mirror.IsSince, Mirror.opening_of, Store.StoreFacts, Store.StoreTurned}
pub use Rattle.mum_keeper.specs.declared.naming.KeeperOpening.{KeeperOpening}
pub use Rattle.mum_worker.proofs.Public.{new_queues, new_unused}
pub use Rattle.mum_worker.specs.{Bell.BellFacts, Boxes.queues as queues_of, Facts.WorkerFacts, Facts.is_done, Opening.HasOpened, Opening.IsUnused, Opening.JoinsShared, Opening.out_queues, Turning.WorkerTurned}
pub use Rattle.mum_worker.specs.declared.worker.Shared.{Shared}
pub use Rattle.mum_owner.specs.{Bell.new_side, Bell.queues, Facts.OwnerFacts, Opened.IsOpened, Turned.OwnerTurned, Turned.has_ended as owner_has_ended}
pub use Rattle.mum_serve.specs.{Asked.Lent, Asked.Service, Asked.ViewService, Asked.service, Clocks.ClockFacts, Clocks.clock_at, Clocks.clock_of, Joined.AreJoinedTo, Joined.IsJoinedTo, Joined.bell_queues, Joined.post_queues, Joined.side_queues, Journals.AreWritable, Journals.entries_of, Journals.journal_of, Loading.IsUnchanged, Loading.Loads, Loading.LoadsNothing, Loading.edits_beside, Loading.edits_over, Loading.state_over, Numbers.AreNumbered, Numbers.HasOwnNumber, Numbers.IsNumbered, OneList.AreWithin, OneList.IsWithin, Opened.AreOpened, Opened.AreOpenedFrom, Opened.ControlBegins, Opened.HasRoom, Opened.OwnerBegins, Opened.WorkerBegins, Opened.fresh_pass, Ready.AreBack, Ready.AreNew, Ready.AreReady, Ready.ComeTo, Ready.ending_of, Running.HaveBegun, Running.HaveTurned, Totals.nothing, Totals.with_worker, Views.CameToViews, Views.HasViewed, Views.IsViewDoor, Views.ViewersTurned}
pub use Rattle.mum_serve.specs.Program.{Describes, DescribesConfig, EndsWith, HasServed, IsInput, IsRefusal, NamesFault, ReadsCounted, RunsInCrew, WritesCounted, WritesText, refusal, text_of, written, written_of}
pub use Rattle.mum_serve.specs.Queues.{AreNamedFrom, AreShared, AreTwo, HasBoxes, HaveShared, SharesHalf, SharesQueues, bells_of, doubled, numbers_behind}
pub use Rattle.mum_serve.specs.Roles.{AreOthers, AreRoles, RoleTurned, has_ended, later_of, others_of, roles_of, stores_of, with_workers}
pub use Rattle.mum_serve.specs.Serving.{HasRun, IsUnasked, LeavesClock, Opens, OpensView, Runs, RunsCounted, Serves, ServesAt, ServesOver, opening_at, unloaded}
pub use Rattle.mum_serve.specs.Stores.{CameToStore, EndsStore, GivesKeeperBack, HasStored, IsStoreOver, SettlesWhereRan, StoreBegins, StoresTurned, archive_queue}
pub use Rattle.mum_serve.specs.declared.{asked.Objects.Objects, entries.Entries.Entries, later.Unused.Unused, load.LoadFault.LoadFault, program.Input.Input, program.ServerEnd.ServerEnd, queues.Ends.Ends, roles.Roles.Roles, server.Served.Served, summary.Summary.Summary, totals.WorkerTotals.WorkerTotals}
unfoldable pub use Rattle.mum_document.specs.Fault.{or_else}
unfoldable pub use Rattle.mum_config.specs.Document.{fault_of}
