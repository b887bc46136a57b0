-- The names that the proofs of this crate take from elsewhere, passed on from one place. Declares nothing.
pub use Rattle.std.proofs.lemmas.{Bool.and_from, Bool.cases_lt, Bool.le-leb, Bool.le-ltb, Bool.lt-ltb, Fmt.decimal_injective, List.Concat.flat_map-append, List.Splits.slice_split_first, List.append-nil, List.drop_at, List.length-take-le, List.take_at}
pub use Rattle.std.proofs.Common.{Bool, Err, IsTrue, List, None, Ok, Option, Result, Some, [], ap, append_assoc, arith, codes, cond, drop, false, get_or, inl, inr, leb, length, length-append, ltb, refl, rules, subst, sym, take, true, ℕ, ◌++◌, ◌+◌, ◌-◌, ◌<◌, ◌==◌, ◌^◌, ◌↔◌, ◌∙◌, ◌∷◌, ◌≡◌, ◌≤◌, ◌⊎◌}
pub use Rattle.std.specs.{Borrow.Bor, Fmt.decimal, List.onto_first, List.position_or_len, List.slice_split, Option.option_map, Option.option_map_or}
pub use Rattle.std.specs.Prelude.{IfSome, OnErr, OnOk, is_ok, map, min, position, string_bytes, ⊤, ◌||◌}
pub use Rattle.serde_json.specs.Data.{Data}
pub use Rattle.mum_base.specs.declared.number.TheConstants.{PLACES, SLOTS}
pub use Rattle.mum_io.proofs.Public.{Appends-nil, Appends-trans, AppendsFront-behind, AppendsFront-longer, AppendsFront-whole}
pub use Rattle.mum_io.specs.{Door.DoorFacts, Link.LinkFacts, Outside.Appends, Outside.AppendsFront, Outside.Rose, Outside.WritesCount}
pub use Rattle.mum_crew.specs.Crew.{CrewCounts}
pub use Rattle.mum_record.proofs.Public.{number_within-decimal, number_within-found, slice_split-whole, split_at, split_nowhere}
pub use Rattle.mum_record.specs.{Head.AreLimits, Head.version_with, Journal.Each, Journal.ended_lines, JournalReading.no_draft, Lines.is_line_feed, Words.line_of_words, Words.words_in}
pub use Rattle.mum_record.specs.declared.{head.Version.Version, journal.Journal.Journal, split.TheConstants.INPUT_LIMIT, split.TheConstants.LINE_LIMIT, step.Step.Step}
pub use Rattle.mum_state.proofs.Public.{fit_from, keeps_proper_lem}
pub use Rattle.mum_state.specs.{After.after, After.all_fit, Applied.applied, Fits.fits, Proper.IsProper, State.StateValue, State.empty_state}
pub use Rattle.mum_state.specs.declared.edit.Edit.{Edit, TheVariants.SetLimits}
pub use Rattle.mum_document.specs.Fault.{Fault, fault_code}
pub use Rattle.mum_config.proofs.Public.{empty_bare, text_fits, text_fits_limits}
pub use Rattle.mum_config.specs.{Document.value_of, Limits.FitAfterLimits, Refusal.told_fault}
pub use Rattle.mum_lines.proofs.Public.{first-behind, first-longer, first-within, found-none, is-found}
pub use Rattle.mum_lines.specs.Lines.{HasNoLineFeed, IsExhausted, IsOpen, IsTooLong, Parts, ReaderState, Reads, at_start, begun, line_length}
pub use Rattle.mum_opening.specs.Opening.{document_edits, document_fault, limits_edits, opening, opening_edits}
pub use Rattle.mum_kept.specs.declared.rows.KeptRows.{KeptRows}
pub use Rattle.mum_core.specs.{Core.CoreState, Core.start, Line.joined, Line.text_of, Step.does, Step.illegal, Step.lines}
pub use Rattle.mum_audit.proofs.Public.{from_legal, legal_from}
pub use Rattle.mum_audit.specs.{Audit.first_line, Legal.IsLegal}
pub use Rattle.mum_keeper.specs.{Keeping.KeeperFacts, Mirror.opening_of, Store.StoreFacts}
pub use Rattle.mum_keeper.specs.declared.naming.KeeperOpening.{KeeperOpening}
pub use Rattle.mum_serve.specs.{Asked.Lent, Asked.Service, Asked.ViewService, Asked.service, Loading.FailsToLoad, Loading.Loads, Loading.LoadsBadRows, Loading.state_over, Program.EndsAt, Program.EndsWith, Program.HasServed, Program.ServesNobody, Stores.CameToStore}
pub use Rattle.mum_serve.specs.declared.{asked.ViewAsked.ViewAsked, program.Input.Input, program.ServerEnd.ServerEnd, program.ServerEnd.TheVariants.BadStore, program.ServerEnd.TheVariants.KeeperFault}
pub use Rattle.mum_server.specs.{Audit.IsFaultOf, Audit.answered, Audit.found, Audit.judged, Audit.judged_with, End.fault_status, End.memory_line, End.said, End.said_of, End.status_of, JournalText.IsFront, JournalText.IsGathered, JournalText.ReadsGathered, JournalText.ReadsInput, JournalText.long_line, JournalText.read_with, Runs.Advances, Runs.Begins, Runs.Describes, Runs.LineAnswers, Runs.Names, Runs.Opens, Runs.is_end, Serve.GaveBadRows, Serve.KeeperFailed, Serve.ServerReports}
pub use Rattle.mum_server.specs.Command.{Asks, AsksKeep, AsksView, BeginsWithServe, IsDoor, IsExercise, IsNoCommand, IsPath, IsServe, IsTail, IsView, audit_words, keep_words, later_roles, replay_words, serve_words, tail_words, view_words}
pub use Rattle.mum_server.specs.Program.{Ends, IsCutShort, IsWhole, ReadsCounted, Reports, Tells, WritesCounted, exercise_outcome, outcome_of}
pub use Rattle.mum_server.specs.Replay.{Answer, Goes, Outcome, Stops, allowed_answer, behind, config_answer, end_fault, end_of, ending_of, goes_on, is_too_long, line_answer, opening_answer, phase_after, step_answer, stops_at}
pub use Rattle.mum_server.specs.declared.{command.Command.Command, command.Command.TheVariants.Audit, command.Command.TheVariants.Exercise, command.Command.TheVariants.Replay, command.TheConstants.ROUNDS_LIMIT, command.TheConstants.VIEWS_LIMIT, end.End.End, end.End.TheVariants.Faulty, end.End.TheVariants.Finished, end.End.TheVariants.OutOfMemory, end.End.TheVariants.ReadFault, end.End.TheVariants.WriteFault, end.LineFault.LineFault, end.LineFault.TheVariants.AuditWrong, end.LineFault.TheVariants.BadConfig, end.LineFault.TheVariants.BadJournal, end.LineFault.TheVariants.BadRecording, end.LineFault.TheVariants.IllegalStep, end.LineFault.TheVariants.TooLong, replay.Phase.Phase, replay.Phase.TheVariants.Config, replay.Phase.TheVariants.Head, replay.Phase.TheVariants.LimitedConfig, replay.Phase.TheVariants.Limits, replay.Phase.TheVariants.Over, replay.Phase.TheVariants.Running, replay.Phase.TheVariants.Workers, replay.Run.Run}
unfoldable pub use Rattle.std.specs.Fmt.{digits}
unfoldable pub use Rattle.mum_record.specs.{Head.config_of, JournalReading.journal_of, JournalReading.reading_from, JournalReading.taken, Reading.step_of, Words.number_within}
unfoldable pub use Rattle.mum_config.specs.Document.{fault_of}
unfoldable pub use Rattle.mum_audit.specs.Audit.{audited, findings, first_wrong}
unfoldable pub use Rattle.mum_server.specs.{Audit.audit_of, JournalText.first_long, JournalText.journal_read, Replay.answer, Replay.outcome_from, Replay.replayed}
