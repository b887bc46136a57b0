-- The names that the proofs of this crate take from elsewhere, passed on from one place. Declares nothing.
pub use Rattle.std.proofs.{Math.Seq.take-suc, lemmas.Bool.le-ltb, lemmas.Bool.lt-ltb, lemmas.Bool.ne_eqb, lemmas.Fmt.length-decimal-le, lemmas.List.Concat.flat_map-append, lemmas.List.Concat.flat_map-cons, lemmas.List.Sums.fold-append, lemmas.List.append-nil, lemmas.List.length-append, lemmas.Result.IfOk-weaker, lemmas.Result.on_ok_weaker}
pub use Rattle.std.proofs.Common.{Bool, IfOk, List, None, Option, Some, [], add-one, ap, arith, false, get_or, length, refl, subst, suc, sym, take, true, zero, ℕ, ◌%◌, ◌++◌, ◌+◌, ◌<◌, ◌^◌, ◌∙◌, ◌∷◌, ◌≡◌, ◌≤◌}
pub use Rattle.std.specs.List.{flat_map}
pub use Rattle.std.specs.Prelude.{Result, codes, decimal, if◌then◌else◌, is_some, map, nat_lt, replicate, slice_index, string_bytes, ℤ, ◌==◌}
pub use Rattle.rand_pcg.specs.{Lcg.Lcg, Pcg.pcg32}
pub use Rattle.mum_base.specs.declared.number.{ChannelId.ChannelId, SessionId.SessionId}
pub use Rattle.mum_frame.specs.Frame.{IsOneFrame}
pub use Rattle.mum_frame.specs.declared.{frame.TheConstants.PAYLOAD_LIMIT, kind.TheConstants.UDP_TUNNEL}
pub use Rattle.mum_fields.specs.Table.{Table, layout, parts, spelled}
pub use Rattle.mum_fields.specs.declared.shape.{Kind.TheVariants.Raw, Label.TheVariants.Repeated}
pub use Rattle.mum_msg_state.specs.Messages.{authenticate, channel_state, user_state}
pub use Rattle.mum_msg_state.specs.declared.{authenticate.Authenticate.Authenticate, channel_state.ChannelState.ChannelState, user_state.UserState.UserState}
pub use Rattle.mum_msg_rule.specs.Messages.{target_block, voice_target}
pub use Rattle.mum_msg_rule.specs.declared.{target_block.TargetBlock.TargetBlock, voice_target.VoiceTarget.VoiceTarget}
pub use Rattle.mum_record.specs.Words.{line_of_words}
pub use Rattle.mum_record.specs.declared.{head.Version.TheVariants.One, step.Step.Step}
pub use Rattle.mum_record.specs.declared.step.Step.TheVariants.{Collect, Drain, Edit, End, Frame, Look, Offer, Open, Post, Publish, Tell}
pub use Rattle.mum_state.specs.State.{StateValue}
pub use Rattle.mum_document.specs.Fault.{Fault}
pub use Rattle.mum_notify.proofs.Public.{bound, items-few, row-few}
pub use Rattle.mum_notify.specs.declared.notice.Notice.{Notice}
pub use Rattle.mum_opening.specs.Opening.{document_fault, opening}
pub use Rattle.mum_core.specs.{Core.CoreState, Core.start, Core.worker_at, Laws.IsRun, Laws.ran, Step.does, Step.illegal}
pub use Rattle.mum_core.specs.declared.{machine.Totals.Totals, worker.Outgoing.Outgoing}
pub use Rattle.mum_exercise.specs.Acts.{aiming, blank_channel, blank_user, channel_frame, entering, linking, listening, login, login_frame, self_muting, target_frame, user_frame, user_name, voice_frame}
pub use Rattle.mum_exercise.specs.Exercise.{CourseValue, IsAlike, Progress, account, account_words, acted, all_taken, answered, brings, commanded, counted, decided, delivered, informed, joins, note, numbers_words, played, spoken, taken, worker_of}
pub use Rattle.mum_exercise.specs.declared.{draws.Act.Act, draws.Act.TheVariants.Aim, draws.Act.TheVariants.Enter, draws.Act.TheVariants.Link, draws.Act.TheVariants.Listen, draws.Act.TheVariants.SetSelfMute, draws.Act.TheVariants.Talk, draws.Round.Round, draws.TheConstants.USERS, exercise.TheConstants.WORKERS, tally.Tally.Tally}
unfoldable pub use lib.Utf8.{encode}
unfoldable pub use Rattle.std.specs.{Float.Numeral.scan_numeral, Fmt.digits, Str.chars, Str.is_utf8}
unfoldable pub use Rattle.json.specs.{Json.value, Lex.lex, Lex.punctuate, Text.content, Word.after_number, Word.word}
unfoldable pub use Rattle.serde_json.specs.Read.{number_of}
unfoldable pub use Rattle.mum_frame.specs.Frame.{spelling_of}
unfoldable pub use Rattle.mum_document.specs.{Fault.or_else, Fault.within, Value.needed, Value.wanted}
unfoldable pub use Rattle.mum_config.specs.{Account.account_fault, Channel.channel_fault, Channel.made_fault, Channel.root_fault, Channel.with_channel_met, Document.fault_of, Document.object_fault_of}
unfoldable pub use Rattle.mum_exercise.specs.{Draws.drawn_act, Draws.drawn_below, Draws.drawn_round, Exercise.document, Exercise.exercised, Exercise.joined, Exercise.progress}
