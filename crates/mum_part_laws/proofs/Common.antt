-- The names that the proofs of this crate take from elsewhere, passed on from one place. Declares nothing.
pub use Rattle.std.proofs.{Math.Seq.get_or-append_seam, Math.Seq.take-length, lemmas.Bool.Decides.nat_tests, lemmas.Bool.and_from, lemmas.Bool.and_parts, lemmas.Bool.eq-eqb, lemmas.Bool.eqb-true, lemmas.Bool.false≢true, lemmas.Bool.ne_eqb, lemmas.List.Elements.All-cons, lemmas.List.Elements.All-contains, lemmas.List.Elements.All-nil, lemmas.List.Elements.Contains-append_right, lemmas.List.Elements.Contains-get_or, lemmas.List.Folds.list_any-append, lemmas.List.Sums.length-filter, lemmas.List.length-append, lemmas.List.length-map, lemmas.List.reverse-append, lemmas.List.take-append-drop, lemmas.Option.none-some, lemmas.Option.same_Some, lemmas.Slice.Eq.bytes_eq-Decides}
pub use Rattle.std.proofs.Common.{Bool, List, None, Option, Some, [], ap, arith, cond, drop, false, inl, inr, map, not, refl, reverse, subst, suc, sym, take, true, ℕ, ◌&&◌, ◌++◌, ◌+◌, ◌-◌, ◌<◌, ◌==◌, ◌||◌, ◌∙◌, ◌∷◌, ◌≡◌, ◌≢◌, ◌≤◌, ◌⊎◌}
pub use Rattle.std.specs.{Char.is_ascii_digit, Option.option_map_or, Str.Parse.digits_value, Str.bytes_eq, Str.str_eq_ignore_ascii_case}
pub use Rattle.std.specs.List.{All, Contains, count_by, filter, find, list_all, list_any, slice_get, starts_with}
pub use Rattle.std.specs.Prelude.{codes, is_some, length, nat_eq, nat_le, nat_lt, slice_index, slice_index_or, sum_by, unwrap_or, ⊤, ◌^◌}
pub use Rattle.mum_base.specs.Name.{has_space_at_edge, is_control_byte}
pub use Rattle.mum_base.specs.declared.{name.NameFault.TheVariants.ControlCharacter, name.NameFault.TheVariants.EdgeSpace, name.NameFault.TheVariants.Empty, name.NameFault.TheVariants.TooLong, number.AccountId.AccountId, number.ChannelId.ChannelId, number.SessionId.SessionId}
pub use Rattle.mum_policy.specs.Member.{Actor, PolicyMap, definitions, lists, member_by, taken, upwards, without}
pub use Rattle.mum_policy.specs.Name.{Asks, Understood, subtree_or_nobody, understood}
pub use Rattle.mum_policy.specs.Subtree.{is_at_least, is_at_most, is_in_span, is_number, is_on, separated, signed, span_by}
pub use Rattle.mum_policy.specs.declared.policy.{ChannelPolicy.ChannelPolicy, Group.Group}
pub use Rattle.mum_tree.proofs.Public.{fits_back, links_fit, pairs_after}
pub use Rattle.mum_tree.specs.Change.{Change, fault_of_edit, given_or, name_after, names_there, overlinks, parent_after, renames_or_moves, with_change}
pub use Rattle.mum_tree.specs.{Proper.AreLinks, Proper.IsProper, Refusals.is_full, Refusals.name_of, Refusals.parent_of, State.Pair, State.TreeState, State.are_linked, State.partners, State.starts_at}
pub use Rattle.mum_tree.specs.Rows.{has_name_beside, is_below, is_root, is_taken, is_temporary, is_there, nests, path, row_of}
pub use Rattle.mum_tree.specs.declared.{channel.Row.Row, fault.TreeFault.TreeFault}
pub use Rattle.mum_tree.specs.declared.fault.TreeFault.TheVariants.{Count, LinkCount, Nesting, NoChannel, RootFixed, SameName, TemporaryParent, UnderItself}
pub use Rattle.mum_users.proofs.Public.{count_by-cons}
pub use Rattle.mum_users.specs.{Edit.is_crowded, Listeners.listens, Sessions.is_used_up, State.RosterState, State.has_name, State.has_number, State.is_of_channel, State.is_of_session, Targets.is_oversize}
pub use Rattle.mum_users.specs.declared.fault.UserFault.TheVariants.{Full, ListenerLimit, NameInUse, NoSession, SessionsUsedUp, TargetId, TargetSize, UserListenerLimit}
pub use Rattle.mum_users.specs.declared.{fault.UserFault.UserFault, listening.ListenerPair.ListenerPair, target.Target.Target, target.TargetItem.TargetItem, user.User.User}
pub use Rattle.mum_part_laws.specs.{Firsts.NamesFirst, Texts.AgainstName, Texts.AgainstText, Texts.NamesAreRefusedForTheFirst, Texts.TextsAreRefusedForLength}
pub use Rattle.mum_part_laws.specs.Groups.{Adds, Defines, GuestsAreInNone, IsAddedAbove, IsInGroup, IsInheritable, IsPlain, LeavesOpen, MembersAreByDefinitions, Names}
pub use Rattle.mum_part_laws.specs.Names.{AreDigits, BeginsOtherwise, IsArgument, IsAtLeast, IsAtMost, IsBelow, IsNoArgument, IsPrefix, NamesAreKnown, PrefixesAreRead, Steps, SubIsElseOfNobody, SubIsOfWays, TokensAreWords, argument, arguments_in, at_acl_if, negated_if, place_from}
pub use Rattle.mum_part_laws.specs.Rosters.{AgainstEdit, AgainstJoin, AgainstListening, AgainstTarget, EditsNameTheFirst, IsGone, IsTooLarge, JoinsNameTheFirst, ListeningNamesTheFirst, TargetsNameTheFirst, listened_count, listener_count}
pub use Rattle.mum_part_laws.specs.Trees.{AgainstChange, AgainstLink, AgainstNew, AgainstParent, AgainstRemoval, ChangesNameTheFirst, HasAllLinks, HasName, IsAbsent, IsOnWay, IsPlaced, IsTemporary, LinksNameTheFirst, MovesNameTheFirst, NamesAbsent, NamesNameTheFirst, NestsTooDeep, NewChannelsNameTheFirst, OfPlaced, Overlinks, RemovalsNameTheFirst, name_then, parent_then}
unfoldable pub use Rattle.mum_policy.specs.Member.{definition, definitions_from, has_token, is_in, is_listed, meets, member, members}
unfoldable pub use Rattle.mum_policy.specs.{Name.asked_by, Name.is_built_in_without_members, Name.meaning, Name.understood_after, Subtree.offset_of, Subtree.span_of}
