-- The names that the proofs of this crate take from elsewhere, passed on from one place. Declares nothing.
pub use Rattle.std.proofs.{Math.ListN.set, lemmas.Fn.filter_same, lemmas.List.Quantifiers.position-Some, lemmas.List.length-map, lemmas.List.length-set, lemmas.List.take_more_set, lemmas.Option.get_or_from_slice_get, lemmas.Option.same_Some, lemmas.Option.slice_get-map, lemmas.Option.slice_get_read, lemmas.Option.slice_get_within}
pub use Rattle.std.proofs.lemmas.List.Elements.{All-cons, All-filter, All-get_or, All-head, All-nil, All-push, All-same, All-set, All-tail, All-weaker, filter-append}
pub use Rattle.std.proofs.Common.{Bool, IsTrue, List, None, Ok, Option, Some, [], ap, arith, drop, false, filter, get_or, if◌then◌else◌, inl, inr, length, map, not, refl, rules, subst, suc, sym, take, true, zero, ℕ, ◌++◌, ◌+◌, ◌-◌, ◌<◌, ◌||◌, ◌↔◌, ◌∙◌, ◌∷◌, ◌≡◌, ◌≤◌}
pub use Rattle.std.specs.{List.All, List.AllZip, Option.ForSome, Option.option_map, Vec.Iter.into_iter_items, VecDeque.deque_capacity}
pub use Rattle.std.specs.Prelude.{slice_get}
pub use Rattle.mum_base.specs.declared.{number.Cause.Cause, number.SessionId.SessionId, number.Slot.Slot, reply.ReplyEnd.ReplyEnd, reply.ReplyEnd.TheVariants.Decided, reply.ReplyEnd.TheVariants.Joined, reply.ReplyEnd.TheVariants.Rejected}
pub use Rattle.mum_io.specs.Link.{LinkFacts}
pub use Rattle.mum_voice.specs.Packet.{Parts, plain_parts}
pub use Rattle.mum_outbox.proofs.Public.{has_fewer, one_less, pass_below}
pub use Rattle.mum_outbox.specs.{Calls.HasNumbers, Calls.IsNewPass, Calls.lower_half, Calls.new_pass, Calls.upper_half, Facts.PassFacts, Facts.QueueFacts, Facts.QueueId, Rule.after_least}
pub use Rattle.mum_crew.proofs.Public.{along_more, goes_on, starts}
pub use Rattle.mum_crew.specs.Along.{Along, EachAlong, SomeAlong}
pub use Rattle.mum_crew.specs.declared.role.Turn.{TheVariants.Done, TheVariants.Idle, TheVariants.Worked, Turn}
pub use Rattle.mum_record.specs.Journal.{Each, IsWritableEntry}
pub use Rattle.mum_record.specs.declared.journal.{Marked.Marked, WorkerEntry.WorkerEntry}
pub use Rattle.mum_published.specs.{Bell.Answer, Bell.Comes, Bell.Lagging, Bell.NoMore, Bell.Rung, Bell.rung, Facts.NoteFacts, Facts.Opening, Facts.ReplyFacts}
pub use Rattle.mum_parcel.specs.Facts.{PostFacts, VoiceFacts}
pub use Rattle.mum_session.specs.declared.action.Action.{Action, TheVariants.Voice}
pub use Rattle.mum_router.specs.{Facts.RouterFacts, Picking.EntryStood}
pub use Rattle.mum_port.specs.{Facts.PortFacts, Facts.new_port, Passes.HasTaken, Passes.PassesFacts, Passes.told_by, Replies.Answers, Replies.Lags, Replies.passes_after, Taking.IsPosted, Taking.IsVoiced, Turn.RoutesPacket as PortRoutes}
pub use Rattle.mum_port.specs.declared.port.Step.{Step}
pub use Rattle.mum_worker.specs.{Bell.BellFacts, Bell.TakesRung, Facts.WorkerFacts, Facts.intake_of, Facts.is_done, Facts.is_of, Facts.speaker_of, Facts.stays, Hearing.AnswersFirst, Hearing.Hears, Hearing.Heeds, Hearing.LagsWhereIts, Hearing.LearnsGiven, Hearing.TakesOrTurns, Hearing.TakesReply, Opening.EntryStoodFor, Opening.IsUnused, Opening.out_queues, Record.RecordFacts, Record.after_close, Record.after_step, Record.without_room, Routing.CommonFacts, Routing.RoutesPacket, Routing.bare, Stepping.MakesStep, Stepping.OwnsPasses, Stepping.PortSteps, Stepping.Shares, Turning.Turned}
pub use Rattle.mum_worker.specs.Boxes.{AreNewPasses, ArePassesFor, AreSameBoxes, BoxesFacts, CanPass, GaveOne, GivesPass, queues}
pub use Rattle.mum_worker.specs.declared.{intake.Intake.Intake, role.WorkerOpening.WorkerOpening}
unfoldable pub use Rattle.mum_voice.specs.Packet.{packet}
