-- The names that the proofs of this crate take from elsewhere, passed on from one place. Declares nothing.
pub use lib.Bits.{bit_and}
pub use mir.Syntax.{w128}
pub use Rattle.std.proofs.lemmas.{Bool.Decides.nat_tests, Cmp.ranked, Fn.filter_same, List.Edits.length-insert, List.Folds.list_any_at, List.Folds.list_any_more, List.Folds.list_any_none, List.Sorted.IsNonDecreasingBy-from_sort_by_key, List.Sorted.IsPartitionPoint-from_clause, List.Sorted.answers_always, List.Sorted.list_any-IsPermutation, List.Sums.length-filter, List.Sums.position_or_len_is, List.Sums.sum_by-cons, List.Sums.sum_by-insert, List.append-nil, List.map-append, List.take-append-drop, List.take_rest, Map.Views.any-filter_same, Nat.Bits.bit_at-trailing_zeros, Nat.Bits.bit_at-zero, Nat.Bits.bit_at_clear_other, Nat.Bits.bit_at_clear_same, Nat.Bits.bit_at_set_other, Nat.Bits.bit_at_set_same, Nat.and_le_l, Nat.one_shl, Nat.or_disjoint, Nat.or_lt, Nat.pow_pos, Result.err_from_is_err_and, Slice.Eq.bytes_eq-Decides}
pub use Rattle.std.proofs.lemmas.Bool.{cases_Bool, cases_lt, eqb-false, eqb-true, false≢true, le-leb, le-ltb, leb-false, lt-leb, ltb-false, ne_eqb, not_from_false, not_from_true, or_parts}
pub use Rattle.std.proofs.Common.{Bool, Err, List, MatchResult, None, Ok, Option, Result, Some, [], add-one, ap, arith, codes, cond, drop, drop-cons, drop_of_length-le, eq-eqb, eqb, false, fold, get_or, inl, inr, leb, length, ltb, map, nat_eq, nat_lt, not, refl, replicate, rules, set, subst, suc, sym, take, true, zero, ℕ, ◌%◌, ◌&&◌, ◌*◌, ◌++◌, ◌+◌, ◌-◌, ◌/◌, ◌<◌, ◌==◌, ◌^◌, ◌||◌, ◌↔◌, ◌∙◌, ◌∷◌, ◌≡◌, ◌≤◌}
pub use Rattle.std.specs.{Int.RustNames.bit_or, Int.bit_at, Int.bit_not, Int.trailing_zeros, List.Sorted.IsBinarySearchResult, List.Sorted.IsNonDecreasingBy, List.Sorted.IsPartitionPoint, List.Sorted.IsPartitionedBy, List.Sorted.IsSearchInRange, Option.is_some, Option.option_copied, Ordering.nat_cmp, Ordering.ordering_index, Result.is_ok, Str.bytes_eq, Vec.vec_capacity, Vec.vec_len}
pub use Rattle.std.specs.List.{All, count_by, filter, find, insert, list_any, position, position_or_len, remove, sum_by}
pub use Rattle.std.specs.Prelude.{IsTrue, unwrap_or, ⊤}
pub use Rattle.mum_base.specs.Channels.{is_among}
pub use Rattle.mum_base.specs.declared.number.{AccountId.AccountId, ChannelId.ChannelId, SessionId.SessionId, Slot.Slot, TheConstants.ChannelId.ROOT, TheConstants.SLOTS}
pub use Rattle.mum_users.specs.Edit.{UserEdit, changed_user, edit_fault, edited, is_crowded, not_listening, pairs_after, staying, user_edit_of, with_channels}
pub use Rattle.mum_users.specs.{Flags.flagged, Flags.silence_after, Laws.EditsWhereProper, Laws.JoinsWhereProper, Laws.ListensAsTold, Laws.ListensWhereProper, Laws.OthersListenAsBefore, Laws.TargetsWhereProper, Laws.UnsetStaysProper, Numbers.IsKept, Numbers.IsNumbered, Numbers.is_slot_of, Numbers.number_below, Numbers.session_slot, Order.IsBelowAll, Order.Rises, Placed.is_moved, Placed.with_placement, Placed.with_placements, Proper.IsProper, Proper.SlotsRise, Proper.deaf_is_mute, Proper.is_sound, Proper.row_below, Targets.is_oversize, Targets.target_below, Targets.target_fault, Targets.target_of, Targets.targeted, Targets.with_target}
pub use Rattle.mum_users.specs.Listeners.{IsIndexed, below_in, channel_below, listen_fault, listening, listens, pair_below, pairs_of, with_pair, without_channels}
pub use Rattle.mum_users.specs.Sessions.{IsLeastFree, absent_fault, changed, free_slot, free_slot_from, join_fault, joined, left, next_join, next_number, next_slot, placed, session_of, suppressed, with_flags, with_texts, with_tokens}
pub use Rattle.mum_users.specs.SlotMasks.{AreMasks, has_listener_at, has_member_at, is_mask, is_mask_below, is_mask_of, is_row_of, mask_at, mask_below, masks_of, with_mask, with_pairs, with_slot, without_pairs, without_slot}
pub use Rattle.mum_users.specs.State.{RosterState, are_tokens, empty_roster, has_name, has_number, has_slot, is_context, is_in, is_of, is_of_channel, is_of_session, is_pair, is_target, joining}
pub use Rattle.mum_users.specs.declared.fault.UserFault.TheVariants.{Full, ListenerLimit, NameInUse, NoSession, SessionsUsedUp, TargetId, TargetSize, UserListenerLimit}
pub use Rattle.mum_users.specs.declared.{fault.UserFault.UserFault, flags.FlagChange.FlagChange, flags.Silence.Silence, listening.ListenerPair.ListenerPair, listening.PairOrder.PairOrder, listening.PairOrder.TheVariants.ByChannel, listening.PairOrder.TheVariants.BySession, listening.TheConstants.CHANNEL_LISTENERS, listening.TheConstants.LISTENED_CHANNELS, masks.MaskRow.MaskRow, placing.Placement.Placement, sessions.SessionSlot.SessionSlot, target.Target.Target, target.TargetItem.TargetItem, target.TargetRow.TargetRow, target.TheConstants.LAST_TARGET, target.TheConstants.TARGET_SESSIONS, user.User.User}
