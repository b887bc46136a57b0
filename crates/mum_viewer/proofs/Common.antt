-- The names that the proofs of this crate take from elsewhere, passed on from one place. Declares nothing.
pub use lib.ListN.{length-drop}
pub use mathlib.Core.List.{IsPrefix}
pub use Rattle.std.proofs.{KnownBytes.Appends-kept, KnownBytes.Appends-nil, KnownBytes.Appends-trans, Math.Seq.drop-nil, lemmas.Bool.eqb-true, lemmas.Bool.leb-false, lemmas.Bool.or_parts, lemmas.Fn.filter_same, lemmas.List.Elements.Contains-append_left, lemmas.List.Elements.Contains-push, lemmas.Option.get_or_from_slice_get, lemmas.Option.slice_get-map, lemmas.Option.slice_get_within, lemmas.Result.IfOk-weaker}
pub use Rattle.std.proofs.lemmas.List.{append-nil, get_or_default, length-append, length-set, map-append, take-append-drop, take_all, take_more}
pub use Rattle.std.proofs.Common.{Bool, Err, IsTrue, List, None, Ok, Option, Result, Some, [], ap, append_assoc, arith, codes, drop, false, filter, get_or, if◌then◌else◌, inl, inr, length, map, nat_le, not, refl, rules, subst, suc, sym, take, true, zero, ℕ, ◌++◌, ◌+◌, ◌-◌, ◌<◌, ◌==◌, ◌||◌, ◌∙◌, ◌∷◌, ◌≡◌, ◌≢◌, ◌≤◌, ◌⊎◌}
pub use Rattle.std.specs.{List.AllByRecursion, List.list_any, Option.option_map, VecDeque.deque_capacity}
pub use Rattle.std.specs.Prelude.{IfOk, IfSome, slice_get, ◌↔◌}
pub use Rattle.std.specs.declared.alloc.AllocError.{AllocError}
pub use Rattle.serde_json.specs.{Data.Data, View.items_of, View.view, Written.compact_text, Written.has_float, Written.items_have_float}
pub use Rattle.mum_base.specs.declared.number.{AccountId.AccountId, ChannelId.ChannelId}
pub use Rattle.mum_io.specs.{Counts.Rose, Counts.next_count, Door.AcceptCounts, Door.DoorFacts, Link.Appends, Link.Keeps, Link.LinkFacts}
pub use Rattle.mum_io.specs.declared.door.Accept.{Accept, TheVariants.Conn, TheVariants.End, TheVariants.Failed, TheVariants.NotYet}
pub use Rattle.mum_tree.proofs.Public.{row_of_at}
pub use Rattle.mum_tree.specs.{Rows.Rise, Rows.number, Rows.row_of, State.TreeState, State.partners}
pub use Rattle.mum_tree.specs.declared.channel.{Channel.Channel, Row.Row}
pub use Rattle.mum_users.specs.declared.listening.ListenerPair.{ListenerPair}
pub use Rattle.mum_crew.proofs.Public.{along_long, along_more, fewer}
pub use Rattle.mum_crew.specs.{Along.Along, Turns.TurnsTo}
pub use Rattle.mum_crew.specs.declared.role.Turn.{Turn}
pub use Rattle.mum_state.proofs.Public.{join}
pub use Rattle.mum_state.specs.State.{StateValue, empty_state}
pub use Rattle.mum_state.specs.declared.edit.Edit.{Edit}
pub use Rattle.mum_doorway.specs.Doors.{given_after_all}
pub use Rattle.mum_published.proofs.Public.{prefix_self, prefix_trans, prefix_whole}
pub use Rattle.mum_published.specs.{Calls.MayMeet, Calls.ask_at, Calls.looked, Calls.state_of, Facts.PassFacts}
pub use Rattle.mum_published.specs.declared.ask.Ask.{Ask}
pub use Rattle.mum_viewer.specs.{Laws.AllStalled, Laws.HasSent, Laws.IsOpenView, Laws.StepsTo, Laws.is_finished, Look.Looks, Look.view_ask, Picture.picture_of, Picture.shown_channel, Picture.shown_channels, Picture.shown_user, Viewer.Asks, Viewer.ViewerFacts, Viewer.ViewerTurned, Viewer.has_ended, Viewer.is_not_to_ask, Viewer.is_over, Viewer.turn_of, Views.Answers, Views.StepsViews, Views.Takes, Views.ViewsFacts}
pub use Rattle.mum_viewer.specs.Text.{account_or_null, channel_numbers, channel_object, channel_or_null, picture_object, picture_text, user_object, view_text, whole}
pub use Rattle.mum_viewer.specs.Turns.{EndWell, HasAnswered, HasMoved, HasNothingToDo, HasTurned, IsShown, IsWhole, SomeMoved, finished_along, finished_in, finished_over, finished_with}
pub use Rattle.mum_viewer.specs.View.{OpenSteps, Rests, Sends, ViewFacts, ViewMoves, ViewSteps, counted_by, is_open, new_view}
pub use Rattle.mum_viewer.specs.declared.{list.TheConstants.VIEWS_OPEN, picture.Picture.Picture, picture.ShownChannel.ShownChannel, picture.ShownUser.ShownUser, view.Counted.Counted, view.Went.TheVariants.Broke, view.Went.TheVariants.Finished, view.Went.TheVariants.Waits, view.Went.TheVariants.Wrote, view.Went.Went}
unfoldable pub use Rattle.std.specs.Fmt.{digits}
unfoldable pub use Rattle.serde_json.proofs.OnLiterals.{serde_json_on_literals}
unfoldable pub use Rattle.mum_state.proofs.Public.{state}
