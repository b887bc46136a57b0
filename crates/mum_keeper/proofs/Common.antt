-- The names that the proofs of this crate take from elsewhere, passed on from one place. Declares nothing.
pub use mathlib.Core.List.{IsPrefix}
pub use Rattle.std.proofs.lemmas.{Bool.Decides.Decides-int_eq, Bool.Decides.nat_tests, Fn.filter_same, List.Elements.Contains-append_left, List.Elements.Contains-push, List.Kept.AllPairs-cons, List.Kept.AllPairs-filter, List.Sums.fold-append, List.append-nil, List.drop-drop, List.drop_all, List.map-append, List.nil_from_length, List.take_more, Option.slice_get_within, Slice.Eq.bytes_eq-Decides}
pub use Rattle.std.proofs.lemmas.Bool.{and_from, and_parts, eq-eqb, eqb-true, le-ltb, lt-ltb, ltb-false, ltb-true, true≢false}
pub use Rattle.std.proofs.Common.{Bool, Err, IsTrue, List, None, Ok, OnErr, OnOk, Option, Result, Some, [], ap, append_assoc, arith, cond, drop, eqb, false, filter, fold, get_or, if◌then◌else◌, inl, inr, length, length-append, ltb, map, not, refl, rules, set, subst, suc, sym, take, true, zero, ℕ, ℤ, ⊎_elim, ◌&&◌, ◌++◌, ◌+◌, ◌-◌, ◌<◌, ◌==◌, ◌||◌, ◌∙◌, ◌∷◌, ◌≡◌, ◌≢◌, ◌≤◌, ◌⊎◌}
pub use Rattle.std.specs.{List.All, List.AllByRecursion, List.insert, Option.option_copied, Option.option_map, Ordering.int_eq, Str.bytes_eq}
pub use Rattle.std.specs.Prelude.{Contains, IfSome, is_some, slice_get, ⊤, ◌↔◌}
pub use Rattle.std.specs.declared.alloc.AllocError.{AllocError}
pub use Rattle.mum_base.specs.declared.number.ChannelId.{ChannelId}
pub use Rattle.mum_io.proofs.Public.{Rose-later, Rose-≤}
pub use Rattle.mum_io.specs.Counts.{Rose}
pub use Rattle.mum_tree.proofs.Public.{AllPairs-tail}
pub use Rattle.mum_tree.specs.{Rows.Rise as RowsRise, Rows.number, State.Pair, State.TreeState, State.is_pair}
pub use Rattle.mum_tree.specs.declared.channel.{ChannelInfo.ChannelInfo, Row.Row}
pub use Rattle.mum_outbox.specs.Calls.{one_more}
pub use Rattle.mum_crew.specs.Turns.{TurnsTo}
pub use Rattle.mum_crew.specs.declared.role.Turn.{Turn}
pub use Rattle.mum_state.proofs.Public.{Each, each_filter, each_from_all, each_map, each_so}
pub use Rattle.mum_state.specs.{After.led_to, Applied.applied, Proper.IsProper, State.StateValue}
pub use Rattle.mum_state.specs.declared.edit.Edit.{Edit}
pub use Rattle.mum_published.proofs.Public.{prefix_self, prefix_trans}
pub use Rattle.mum_published.specs.{Calls.Learnt, Calls.MayMeet, Calls.ask_at, Calls.state_of, Facts.NoteFacts, Facts.Opening, Facts.PassFacts}
pub use Rattle.mum_published.specs.declared.rule.AskAt.{AskAt}
pub use Rattle.mum_kept.proofs.Public.{given_at, kept_have}
pub use Rattle.mum_kept.specs.{Kept.is_kept_link, Kept.is_lasting, Kept.kept, Kept.kept_channel, Kept.kept_channels, Kept.lasts, Standing.HavePoliciesOf}
pub use Rattle.mum_kept.specs.declared.rows.{KeptChannel.KeptChannel, KeptRows.KeptRows}
pub use Rattle.mum_keeper.specs.{Bell.BellFacts, Bell.NoMore, Bell.Noted, Bell.Ring, Bell.TakesRing, Bell.ring_of, Keeping.AreRowsOf, Keeping.KeepCall, Keeping.KeepCounts, Keeping.KeeperFacts, Keeping.Makes, Keeping.with_call, Look.AreSeen, Look.AreSeenAt, Look.Looks, Look.MayShare, Look.is_count, Look.policies_left, Look.store_ask, Store.Heeds, Store.HeedsGiven, Store.Observes, Store.Settles, Store.StoreFacts, Store.StoreTurned, Store.turn_of, Turns.CameTo, Turns.HasTurned, Turns.HoldsKept, Turns.IsStoreAsk, Turns.ShowsTo}
pub use Rattle.mum_keeper.specs.Changes.{AreInOrder, LeadsOver, all_made, channel_before, difference, drop_of, is_same_channel, is_same_info, link_before, link_of, linked_by, made, put_of, unlink_of, without_link}
pub use Rattle.mum_keeper.specs.Mirror.{Brings, BringsTo, Compares, IsMirror, IsSince, MirrorFacts, after_compare, failed_now, opening_of, rows_left}
pub use Rattle.mum_keeper.specs.Order.{Rise, any_like, is_alone, is_new, is_taken, others_done, place_of, rows_done, step_of, with_row}
pub use Rattle.mum_keeper.specs.declared.{change.Change.Change, change.Change.TheVariants.Drop, change.Change.TheVariants.Link, change.Change.TheVariants.Put, change.Change.TheVariants.Unlink, keeper.KeepEnd.KeepEnd, look.Found.Found, merge.Step.Step, naming.KeeperOpening.KeeperOpening}
unfoldable pub use Rattle.mum_keeper.specs.Order.{unmatched}
