-- The names that the proofs of this crate take from elsewhere, passed on from one place. Declares nothing.
pub use Rattle.std.proofs.{Math.ListN.drop_of_length-le, Math.Nat.pow-succ', Math.Seq.take-suc, lemmas.Grind.common_steps, lemmas.Int.Digits.digits_value_more, lemmas.List.Elements.All-head, lemmas.List.Elements.All-nil, lemmas.List.Elements.All-tail, lemmas.List.Folds.find-append, lemmas.List.Folds.list_any-append, lemmas.List.Splits.length-slice_split, lemmas.List.Splits.slice_split_first, lemmas.List.Sums.AllPass-from_list_all, lemmas.List.length-map, lemmas.List.reverse-append, lemmas.List.take_all, lemmas.Map.Views.any-filter_same, lemmas.Nat.Bits.and_pow, lemmas.Nat.Bits.bit_at-lt, lemmas.Nat.Bits.bit_at-zero, lemmas.Nat.Bits.bit_at_and, lemmas.Nat.Bits.bit_at_not, lemmas.Nat.Bits.bit_at_or, lemmas.Nat.Bits.same_from_bits, lemmas.Nat.and_assoc, lemmas.Option.none-some, lemmas.Option.same_Some, lemmas.Slice.Eq.bytes_eq-Decides, lemmas.Str.digit_value_digit}
pub use Rattle.std.proofs.lemmas.Bool.{and_parts, cases_Bool, cases_lt, eq-eqb, eqb-true, false≢true, leb-true, lt-ltb, ltb-false, ltb-true, ne_eqb, true≢false}
pub use Rattle.std.proofs.Common.{Bool, List, None, Option, Some, [], add-one, add-zero, ap, append-nil, append_assoc, arith, bit_and, bit_or, codes, cond, drop, drop-cons, false, filter, find, get_or, if◌then◌else◌, inl, inr, leb, length, length-append, ltb, map, max, min, not, refl, replicate, reverse, subst, suc, sym, take, true, w32, zero, ℕ, ◌&&◌, ◌*◌, ◌++◌, ◌+◌, ◌-◌, ◌<◌, ◌==◌, ◌^◌, ◌||◌, ◌∙◌, ◌∷◌, ◌≡◌, ◌≢◌, ◌≤◌}
pub use Rattle.std.specs.{Char.digit_value, Char.is_ascii_digit, Int.Bits.and_zero_r, Int.bit_at, Int.bit_not, List.All, List.list_all, List.list_any, List.position_or_len, List.slice_get, List.slice_split, Option.option_copied, Option.option_or, Option.unwrap_or, Str.Parse.digits_value, Str.bytes_eq}
pub use Rattle.std.specs.Prelude.{position}
pub use Rattle.mum_base.specs.Perm.{Holds, without_bits}
pub use Rattle.mum_base.specs.declared.{number.AccountId.AccountId, number.ChannelId.ChannelId, number.TheConstants.AccountId.SUPER_USER, perm.Perm.Perm}
pub use Rattle.mum_base.specs.declared.perm.TheConstants.Perm.{ALL, BAN, BY_WRITE, ENTER, KICK, MAKE_CHANNEL, MOVE, MUTE_DEAFEN, NONE, ROOT_ONLY, SPEAK, START, TEXT_MESSAGE, TRAVERSE, WHISPER, WRITE}
pub use Rattle.mum_policy.specs.Laws.{AreDeniesIn32Bits, AreGrantsKnown, EntriesDecide, IsPermission, LastNamingEntryDecides, NoWayBelow, NoWayThrough, NobodyHasMore, NothingElseIsTaken, NothingOfTheRootElsewhere, SuperUserMayAll, WriteAddsTheRest, entries_of, held_after, held_by, is_held, is_super_user, last_naming, leaves_a_mark, matching_at, names_permission, starts_over}
pub use Rattle.mum_policy.specs.{Limits.is_large_policy, Name.Asks, Name.Understood, Name.understood, Subtree.is_comma, Subtree.is_number, Subtree.list_of, Subtree.separated, Subtree.span_by}
pub use Rattle.mum_policy.specs.Member.{Actor, IsFound, PolicyMap, actor_of, lists, taken, upwards, without}
pub use Rattle.mum_policy.specs.Walk.{after_policy, applies, entering, entry_count, finished, full_set, goes_on, granted, holds, is_account, is_asked, marked, on_root, set_of, walk_start}
pub use Rattle.mum_policy.specs.declared.{policy.AclEntry.AclEntry, policy.ChannelPolicy.ChannelPolicy, policy.Group.Group, policy.Group.Group as GroupRow, policy.Whom.TheVariants.Account, policy.Whom.Whom, subtree.Offset.Offset, subtree.Span.Span, walk.Walk.Walk}
unfoldable pub use Rattle.mum_policy.specs.{Laws.counting, Laws.matching, Name.asked_by, Name.is_built_in_without_members, Name.meaning, Name.understood_after, Subtree.is_below, Subtree.offset_of, Subtree.span_of}
unfoldable pub use Rattle.mum_policy.specs.Member.{definition, definitions_from, has_token, is_in, is_listed, meets, member, members}
unfoldable pub use Rattle.mum_policy.specs.Walk.{after_channel, after_entries, after_match, along, is_root, matches, perm, visits, visits_along}
