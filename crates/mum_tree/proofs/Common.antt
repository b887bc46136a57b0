-- The names that the proofs of this crate take from elsewhere, passed on from one place. Declares nothing.
pub use Rattle.std.proofs.{Math.ListN.get_or-append, Math.Seq.take-append_seam, lemmas.Bool.Decides.nat_tests, lemmas.Cmp.ranked, lemmas.Fn.filter_same, lemmas.List.Filters.FiltersInPlace, lemmas.List.Filters.FiltersInPlace-more_no, lemmas.List.Filters.FiltersInPlace-more_set, lemmas.List.Folds.list_any_at, lemmas.List.Folds.list_any_more, lemmas.List.Folds.list_any_none, lemmas.List.Kept.AllPairs-cons, lemmas.List.Kept.AllPairs-filter, lemmas.List.Quantifiers.all_pairs_push, lemmas.List.Quantifiers.position-Some, lemmas.List.Sorted.IsPartitionPoint-from_clause, lemmas.List.Sorted.answers_always, lemmas.List.Sums.count_by-le-length, lemmas.List.Sums.count_by_more_no, lemmas.List.Sums.count_by_more_yes, lemmas.List.Sums.length-filter, lemmas.List.Sums.sum_by-cons, lemmas.List.Sums.sum_by-set, lemmas.List.Sums.sum_by_more_le, lemmas.Map.Made.Contains-tail, lemmas.Option.none-some, lemmas.Option.same_Some, lemmas.Slice.Eq.bytes_eq-Decides}
pub use Rattle.std.proofs.lemmas.Bool.{and_cases, and_from, and_left, and_parts, both_ways, cases_Bool, cases_eq, cases_lt, cases_order, cond-false, cond-true, cond_both, eq-eqb, eqb-false, eqb-true, false_from_ne_true, false≢true, le-ltb, leb-false, lt-ltb, ltb-false, ltb-true, ne_eqb, not-false, not-true, not_from_false, or_cases, or_from, or_left, or_parts, or_right}
pub use Rattle.std.proofs.lemmas.List.Elements.{All-cons, All-contains, All-filter, All-map, All-nil, All-push, All-tail, All-weaker, filter_more, filter_passes}
pub use Rattle.std.proofs.lemmas.List.{get_or-append-add, get_or-append_right, get_or-drop, get_or-map, get_or-reverse, get_or-set_other, get_or-set_same, get_or_append_left, get_or_default, get_or_past, get_or_read, length-drop, length-map, length-reverse, map-append, nil_from_length, reverse-append, take_all, take_at}
pub use Rattle.std.proofs.Common.{Bool, Err, IfSome, List, MatchOption, MatchResult, None, Ok, Option, Result, Some, [], ap, append_assoc, arith, codes, cond, drop, eqb, false, fold, get_or, inl, inr, leb, length, length-append, length-set, ltb, map, negsuc, not, refl, replicate, reverse, rules, set, subst, suc, sym, take, true, vec_capacity, vec_len, zero, ℕ, ℤ, ⊎_elim, ◌%◌, ◌&&◌, ◌*◌, ◌++◌, ◌+◌, ◌-◌, ◌/◌, ◌<◌, ◌==◌, ◌||◌, ◌∙◌, ◌∷◌, ◌≡◌, ◌≢◌, ◌≤◌, ◌⊎◌}
pub use Rattle.std.specs.{Bool.IsTrue, List.Sorted.IsBinarySearchResult, List.Sorted.IsNonDecreasingBy, List.Sorted.IsPartitionPoint, List.Sorted.IsPartitionedBy, List.Sorted.IsSearchInRange, Option.is_some, Option.option_map, Option.option_map_or, Ordering.nat_cmp, Ordering.ordering_index, Ordering.ordering_then, Result.is_ok, Result.result_ok, Str.bytes_eq}
pub use Rattle.std.specs.List.{All, AllPairs, Contains, count_by, filter, insert, list_all, list_any, position, position_or_len}
pub use Rattle.std.specs.Prelude.{◌↔◌}
pub use Rattle.std.specs.declared.cmp.Ordering.{Ordering, TheVariants.Equal, TheVariants.Greater, TheVariants.Less}
pub use Rattle.mum_base.specs.Channels.{is_among}
pub use Rattle.mum_base.specs.declared.number.ChannelId.{ChannelId}
pub use Rattle.mum_tree.specs.Change.{Change, change_of, fault_of_edit, given_or, is_new_partner, is_partner_after, name_after, names_there, overlinks, pairs_set, pairs_with_all, pairs_without_all, parent_after, renames_or_moves, with_change, with_given}
pub use Rattle.mum_tree.specs.{Components.AreComponents, Components.AreUnited, Components.Descends, Components.IsForest, Components.moved_to, Components.united, Places.IsFree, Places.IsLeastFree, Places.has_place, Places.least_place, Walks.LeadTo, Walks.Walk, Walks.linked}
pub use Rattle.mum_tree.specs.Proper.{AreApart, AreBothWays, AreLinks, ArePairs, IsBetween, IsProper, IsUnderLasting, LeadUp}
pub use Rattle.mum_tree.specs.Refusals.{fault_of_add, fault_of_link, fault_of_move, fault_of_placement, fault_of_remove, fault_of_rename, fault_of_set_info, fault_of_unlink, is_full, name_of, parent_of}
pub use Rattle.mum_tree.specs.Rows.{AreLevels, IsWay, Rise, has_name_beside, is_below, is_taken, is_temporary, is_there, level, nests, number, path, row_of}
pub use Rattle.mum_tree.specs.State.{Ordered, Pair, TreeState, are_linked, below, changed, ends_from, is_above, is_pair, new_row, next_number, pairs_with, pairs_without, partners, plain_info, root_alone, starts_at, with_channel, with_info, with_link, with_name, with_new, with_pair, with_parent, with_row, without_link, without_rows, without_subtree}
pub use Rattle.mum_tree.specs.declared.{channel.Channel.Channel, channel.ChannelInfo.ChannelInfo, channel.Row.Row, channel.TheConstants.CHANNEL_LIMIT, fault.TreeFault.TreeFault}
pub use Rattle.mum_tree.specs.declared.fault.TreeFault.TheVariants.{Count, LinkCount, Nesting, NoChannel, RootFixed, SameName, TemporaryParent, UnderItself}
unfoldable pub use Rattle.mum_tree.specs.{Places.first_place, Rows.upward, Walks.is_reached}
