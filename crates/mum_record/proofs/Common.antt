-- The names that the proofs of this crate take from elsewhere, passed on from one place. Declares nothing.
pub use Prim.Native.String.{String}
pub use borrow.Author.Tests.{eq-eqb, eqb-true}
pub use Rattle.std.proofs.lemmas.{Bool.Decides.nat_tests, Fmt.decimal-digits_value, Fmt.decimal_digit, Fmt.decimal_injective, Fmt.decimal_nonempty, Fmt.digits_decimal, Fmt.digits_value-decimal, Fmt.first_decimal, Grind.common_steps, List.Splits.join_with_byte-slice_split, List.Splits.length-slice_split, List.Splits.slice_split_first, List.append-nil, List.flat_map_more, List.get_or-take, List.length-take-le, List.map-append, List.take_more, Option.cond_some, Option.option_and_then_some, Result.IfOk-weaker, Result.err_from_is_err_and, Result.on_ok_weaker, Slice.Eq.bytes_eq-Decides, Str.Ascii.IsAscii-nil, Str.IsAscii-append, Str.IsUtf8-from_ascii, Str.Parse.IsNumeralModel, Str.Parse.digit_at, Str.Parse.digit_from_value, Str.Parse.numerals_by_value, Str.Parse.parse_plain, Str.Parse.tells_digits, Str.Pattern.IsSplitOnceResult, Str.Pattern.split_once_first, Str.Pattern.split_parts}
pub use Rattle.std.proofs.lemmas.Bool.{agree_below_at, and_from, and_parts, cases_Bool, cases_eq, cond-true, false_from_ne_true, iff_false, le-leb, le-ltb, leb-true, lt-ltb, ltb-false, ltb-true, ne_eqb}
pub use Rattle.std.proofs.Common.{Bool, Bor, Err, IfErr, IfOk, IfSome, IsErrOf, List, MatchOption, None, Ok, Option, Result, Some, [], ap, append_assoc, arith, codes, cond, drop, false, get_or, inl, inr, is_ok, is_some, length, length-append, length-take, lit<, lit≤, ltb, map, refl, rules, slice_index, subst, suc, sym, take, true, zero, zero-add, ℕ, ◌%◌, ◌&&◌, ◌*◌, ◌++◌, ◌+◌, ◌-◌, ◌/◌, ◌<◌, ◌^◌, ◌∙◌, ◌∷◌, ◌≡◌, ◌≤◌}
pub use Rattle.std.specs.{Fmt.decimal, Fmt.digit_glyph, Fmt.digits_onto, List.after_first, List.before_first, List.flat_map, List.join_with_byte, List.list_all, List.position_or_len, List.slice_split, Option.option_and_then, Option.option_copied, Option.option_map, Result.OnOk, Result.result_ok, Str.IsAscii, Str.IsUtf8, Str.Parse.AllDigits, Str.Parse.ParsesUnsigned, Str.Parse.digits_value, Str.bytes_eq}
pub use Rattle.std.specs.Prelude.{IfNone, if◌then◌else◌, nat_le, nat_lt, position, string_bytes, ◌==◌, ◌↔◌, ◌⊎◌}
pub use Rattle.byteorder.specs.Endian.{big_number}
pub use Rattle.hex.proofs.HexLemmas.{decode_of-encode_lower, decode_of-ok, decode_sized-encode_lower, length-encode_with}
pub use Rattle.hex.specs.Hex.{IsBytes, decode_of, decode_sized, encode_lower, lower_digits}
pub use Rattle.hex.specs.declared.error.FromHexError.{FromHexError}
pub use Rattle.mum_base.proofs.Public.{hex}
pub use Rattle.mum_base.specs.declared.{number.Cause.Cause, reply.Mark.Mark, reply.Mark.TheVariants.Accepted, reply.Mark.TheVariants.Answer, reply.Mark.TheVariants.Ignored, reply.Mark.TheVariants.Lacks, reply.Mark.TheVariants.Refused, reply.Mark.TheVariants.Rejected}
pub use Rattle.mum_frame.proofs.Public.{one_frame-found, one_frame-tested}
pub use Rattle.mum_frame.specs.Frame.{IsOneFrame, is_one_frame}
pub use Rattle.mum_frame.specs.declared.frame.TheConstants.{HEADER_LENGTH, PAYLOAD_LIMIT}
pub use Rattle.mum_record.specs.{Answers.BeginsPlainly, Answers.Reads, Answers.TestsFrame, Answers.is_lower_digit, Grammar.FitsTypes, Grammar.IsLineOf, Grammar.IsRecordable, Grammar.IsRecordedCause, Grammar.cause_word, Grammar.line_of, Grammar.revision_word, JournalAnswers.AnswersBy, JournalAnswers.IsFirstFault, JournalAnswers.NamesFirstFault, JournalAnswers.ReadsOrTires, JournalAnswers.ReadsText, JournalAnswers.StopsAt, JournalAnswers.Takes, Lines.is_line_feed}
pub use Rattle.mum_record.specs.Head.{AreLimits, BeginBelowTheHead, IsConfigLine, IsLimitsLine, IsWorkersLine, config_in, config_line, config_word, document_of, first_step_line, head_lines, journal_line, limits_in, limits_line, limits_lines, limits_with, recording_line, version_by, version_with, workers_in, workers_line}
pub use Rattle.mum_record.specs.Journal.{BeginJournal, Each, FitsControl, FitsCopy, FitsEntry, FitsVerdict, IsControl, IsEntry, IsJournal, IsTextOf, IsWritableControl, IsWritableEntry, IsWritableJournal, behind_copy, command_word, control_line, end_line, ended_lines, entry_line, mark_word, may_carry, verdict_words, worker_line}
pub use Rattle.mum_record.specs.JournalReading.{after_workers, copy_in, ending, ends_entries, goes_on, is_over, is_slash, is_worker_line, journal_in, no_draft, pieces_of, taken_at, with_control, with_entries, with_entry, worker_in}
pub use Rattle.mum_record.specs.Words.{behind_space, behind_word, byte_of, is_space, line_of_words, place_of, revision_of, spelled_word, words_after, words_in}
pub use Rattle.mum_record.specs.declared.{draft.Draft.Draft, draft.Stage.Stage, draft.Stage.TheVariants.Config, draft.Stage.TheVariants.Controls, draft.Stage.TheVariants.Entries, draft.Stage.TheVariants.Head, draft.Stage.TheVariants.Limits, draft.Stage.TheVariants.Over, draft.Stage.TheVariants.Workers, head.TheConstants.LEAST_CHANNELS, head.TheConstants.LEAST_SESSIONS, head.TheConstants.MOST_CHANNELS, head.TheConstants.MOST_SESSIONS, head.TheConstants.WORKERS_LIMIT, head.Version.TheVariants.One, head.Version.TheVariants.Two, head.Version.Version, journal.ControlEntry.ControlEntry, journal.Journal.Journal, journal.JournalFault.JournalFault, journal.Marked.Marked, journal.WorkerEntry.TheVariants.Closed, journal.WorkerEntry.TheVariants.Voice, journal.WorkerEntry.WorkerEntry, line.Word.Word, step.LineFault.LineFault, step.LineFault.TheVariants.NotALine, step.LineFault.TheVariants.OutOfMemory, step.Step.Step}
pub use Rattle.mum_record.specs.declared.step.Step.TheVariants.{Close, Collect, Drain, Edit, End, Frame, Look, Offer, Open, Post, Publish, Tell}
unfoldable pub use Rattle.std.specs.Fmt.{digits}
unfoldable pub use Rattle.hex.specs.Hex.{decode_pairs, encode_with}
unfoldable pub use Rattle.mum_frame.specs.Frame.{kind_of, named_length}
unfoldable pub use Rattle.mum_record.specs.{Grammar.words_of, Head.config_of, Head.journal_version, Head.limits_of, Head.recording_version, Head.workers_of, Journal.control_words, Journal.copy_word, Journal.entry_words, Journal.lines_from, Journal.lines_of, Words.bytes_of, Words.number_within}
unfoldable pub use Rattle.mum_record.specs.JournalReading.{closed_of, closing_cause_of, command_of, control_of, control_with, copies_of, copy_of, copy_with, entry_of, journal_of, lack_of, mark_of, reading_from, taken, verdict_of, verdict_with, version_of, voice_of, voice_with}
unfoldable pub use Rattle.mum_record.specs.Reading.{cause_of, frame_of, step_naming, step_of, step_of_verb, step_of_words, step_with, told_of}
