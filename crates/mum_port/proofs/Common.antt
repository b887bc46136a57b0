-- The names that the proofs of this crate take from elsewhere, passed on from one place. Declares nothing.
pub use mathlib.Core.List.{IsPrefix}
pub use Rattle.std.proofs.lemmas.{Bool.eq-eqb, Bool.leb-true, Bool.ne_eqb, List.Elements.All-append, List.Elements.All-cons, List.Elements.All-nil, List.Elements.All-push, List.Elements.All-same, List.Elements.All-weaker, List.Folds.concat-append, List.append-nil, List.length-take-le, Result.IfOk-weaker}
pub use Rattle.std.proofs.Common.{All, Bool, Err, IsTrue, List, None, Ok, OnErr, OnOk, Option, Result, Some, [], ap, append_assoc, arith, false, if◌then◌else◌, inl, inr, is_none, is_some, length, length-append, not, refl, subst, sym, take, true, true≢false, ℕ, ⊎_elim, ◌&&◌, ◌++◌, ◌+◌, ◌<◌, ◌==◌, ◌||◌, ◌∙◌, ◌∷◌, ◌≡◌, ◌≢◌, ◌≤◌, ◌⊎◌}
pub use Rattle.std.specs.{List.concat, List.flat_map, List.list_any, Option.ForSome, Option.option_and_then, Option.option_map}
pub use Rattle.std.specs.Prelude.{MatchOption, option_to_list, slice_get}
pub use Rattle.std.specs.declared.alloc.AllocError.{AllocError}
pub use Rattle.mum_base.specs.declared.{number.Cause.Cause, number.Cause.TheVariants.End, number.Cause.TheVariants.FrameTooLong, number.Cause.TheVariants.Kicked, number.Cause.TheVariants.Lagged, number.Cause.TheVariants.LinkFault, number.Cause.TheVariants.Memory, number.Cause.TheVariants.Rejected, number.SessionId.SessionId, number.TheConstants.POST_CAPACITY, number.TheConstants.VOICE_CAPACITY, outcome.Reason.TheVariants.Gone, outcome.Reason.TheVariants.NotRead, reply.ReplyEnd.ReplyEnd}
pub use Rattle.mum_io.proofs.Public.{CountsEnd-none_falls, NoneFalls-refl, NoneFalls-same, NoneFalls-trans, Rose-earlier, Rose-later}
pub use Rattle.mum_io.specs.{Counts.Counts, Counts.NoneFalls, Counts.Rose, Link.Appends, Link.Consumes, Link.IsAtEnd, Link.Keeps, Link.LinkFacts}
pub use Rattle.mum_frame.proofs.Public.{HasNoFrame-above_limit, longest-Splits}
pub use Rattle.mum_frame.specs.{Frame.HasFrame, Frame.HasNoFrame, Frame.IsFrame, Frame.TooLong, Frame.frame_spelling, Stream.IsFront, Stream.Splits}
pub use Rattle.mum_frame.specs.declared.{frame.Frame.Frame, kind.TheConstants.AUTHENTICATE, kind.TheConstants.PING, kind.TheConstants.UDP_TUNNEL, kind.TheConstants.VERSION}
pub use Rattle.mum_fields.specs.Table.{decoded}
pub use Rattle.mum_outbox.specs.{Calls.Takes, Facts.PassFacts, Facts.QueueFacts}
pub use Rattle.mum_outbox.specs.declared.rule.Tagged.{Tagged}
pub use Rattle.mum_msg_state.specs.Messages.{ping, version}
pub use Rattle.mum_state.specs.declared.edit.Edit.{Edit}
pub use Rattle.mum_published.proofs.Public.{prefix_self, prefix_trans}
pub use Rattle.mum_published.specs.{Calls.TakesUp, Calls.edits_told, Facts.NoteFacts, Facts.Opening}
pub use Rattle.mum_parcel.specs.{Facts.PostFacts, Facts.VoiceFacts, Rules.IsCopy, Rules.IsNotice}
pub use Rattle.mum_session.proofs.Public.{sends}
pub use Rattle.mum_session.specs.Action.{Decoded, after_login, asks, bans_action, command_action, commands_after_login, ignore, login_action, ping_action, tree_or_user_action, version_action, voice_action}
pub use Rattle.mum_session.specs.{Heard.command_heard, Heard.login_heard, Machine.Machine, Machine.is_rejected, Machine.session_of}
pub use Rattle.mum_session.specs.declared.{action.Action.Action, action.Action.TheVariants.Ask, action.Action.TheVariants.Bans, action.Action.TheVariants.Echo, action.Action.TheVariants.Ignore, action.Action.TheVariants.Keep, action.Action.TheVariants.Voice, action.TheConstants.BAN_LIST, command.Asked.Asked, heard.Heard.Heard}
pub use Rattle.mum_port.specs.{Asked.AsksAsHeard, Handling.Acts, Handling.HandlesKept, Handling.Routes, Handling.Sinks, Linking.ReadEnded, Linking.WriteEnded, Outgoing.HaveBytes, Outgoing.unwritten, Passes.HaveTaken, Passes.IsToldCopy, Passes.IsToldNotice, Passes.NotesParcel, Passes.PassesFacts}
pub use Rattle.mum_port.specs.Did.{PortDid, action_of, asked_item, bytes_of, desk_after_put, echo_of, is_for, is_last, machine_after, port_after_put, post_bytes, queued, stage_kept, stage_once_put, stray_posts, stray_voices, voice_bytes, waiting_after_put}
pub use Rattle.mum_port.specs.Facts.{MayRead, PortFacts, due_item, item_of, leave, may_handle, may_write, new_port, next_item, next_word, stage_after_put, taking_session, waiting_after}
pub use Rattle.mum_port.specs.Life.{AreUnanswered, Event, Lives, Steps, bytes_queued, bytes_taken, bytes_written, frames_handled, items_asked, items_put, lagged, replied, stepped, words_said}
pub use Rattle.mum_port.specs.Stage.{after_word, cause_of, closed_for, has_worked, is_closed, is_live, parting_cause, stage_after_reply, stage_by}
pub use Rattle.mum_port.specs.Steps.{CollectsBehind, CollectsPost, DrainsVoice, Handles, PortChain, Puts, Reads, Settles, TakesParcels, Writes, desk_refused, settled}
pub use Rattle.mum_port.specs.Taking.{Collects, Drains, HearsParcel, IsPosted, IsVoiced, PassesCollect, PassesDrain, PostsParcel, TakesPost, TakesVoice, foreign_count, has_taken, stage_after_post}
pub use Rattle.mum_port.specs.Turn.{EndsInTurn, FindsNothing, FindsPostEmpty, FindsVoiceEmpty, HandlesInTurn, HasLooked, HasRead, IsIdle, KeepsWithin, LooksWhereItMay, PassesTake, PortTurn, PutsInTurn, ReadsInTurn, RoutesPacket, Settled, ShowsCause, StaysInTurn, TakesAtMostOne, TakesByTurns, TakesInTurn, UsedMemory, WritesInTurn, did_nothing, voice_first_after}
pub use Rattle.mum_port.specs.declared.{item.DeskItem.DeskItem, outbound.Taking.Taking, outbound.Taking.TheVariants.Foreign, outbound.Taking.TheVariants.Nothing, outbound.Taking.TheVariants.Own, port.Step.Step, port.TheConstants.UNWRITTEN_LIMIT, stage.Farewell.TheVariants.Done, stage.Farewell.TheVariants.LastWord, stage.Farewell.TheVariants.Leave, stage.Parting.Parting, stage.Stage.Stage, stage.Stage.TheVariants.Closed, stage.Stage.TheVariants.Ending, stage.Stage.TheVariants.Live, stage.Went.TheVariants.Closes, stage.Went.TheVariants.NotDue, stage.Went.TheVariants.Stalled, stage.Went.TheVariants.Worked, stage.Went.Went}
unfoldable pub use Rattle.mum_frame.specs.Frame.{spelling_of}
unfoldable pub use Rattle.mum_session.specs.Action.{action, after_frame}
