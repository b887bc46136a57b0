-- The names that the proofs of this crate take from elsewhere, passed on from one place. Declares nothing.
pub use Rattle.std.proofs.{Math.ListN.drop_of_length-le, lemmas.List.Folds.find-append, lemmas.Nat.and_le_l, lemmas.Option.get_or_from_slice_get, lemmas.Option.none-some, lemmas.Option.same_Some, lemmas.Option.slice_get-get_or, lemmas.Option.slice_get-map, lemmas.Option.slice_get_within}
pub use Rattle.std.proofs.lemmas.Bool.{and_from, and_parts, cases_eq, cases_lt, cases_order, cond-false, cond_both, eq-eqb, eqb-false, eqb-true, false≢true, ne_eqb, not-false, not-true, not_from_false, or_cases, or_from, or_left, or_parts, or_right}
pub use Rattle.std.proofs.lemmas.List.Elements.{All-append, All-cons, All-contains, All-head, All-nil, All-tail, Contains-append_left, Contains-append_right, Contains-get_or, filter-append}
pub use Rattle.std.proofs.lemmas.List.{drop-drop, drop_more, get_or-drop, get_or_default, length-drop, reverse-append, take-append-drop, take_all, take_more}
pub use Rattle.std.proofs.Common.{Bool, List, None, Option, Some, [], ap, append-nil, append_assoc, arith, bit_and, bit_or, codes, cond, drop, drop-cons, eqb, false, get_or, inl, inr, length, map, not, refl, reverse, subst, suc, sym, take, true, zero, ℕ, ⊎_elim, ◌&&◌, ◌++◌, ◌+◌, ◌-◌, ◌<◌, ◌==◌, ◌^◌, ◌||◌, ◌∙◌, ◌∷◌, ◌≡◌, ◌≢◌, ◌≤◌, ◌⊎◌}
pub use Rattle.std.specs.{List.All, List.Contains, List.filter, List.list_all, List.list_any, List.slice_get, Option.option_copied, Option.option_map, Option.option_map_or, Option.option_or}
pub use Rattle.std.specs.Prelude.{IsTrue, find, is_some, unwrap_or}
pub use Rattle.mum_base.specs.Channels.{is_among}
pub use Rattle.mum_base.specs.declared.{number.ChannelId.ChannelId, number.SessionId.SessionId, perm.Perm.Perm}
pub use Rattle.mum_base.specs.declared.perm.TheConstants.Perm.{ALL, BY_WRITE, ENTER, KICK, LISTEN, MUTE_DEAFEN, ROOT_ONLY, SPEAK, START, TRAVERSE, WHISPER, WRITE}
pub use Rattle.mum_policy.proofs.Public.{afresh, denies, entries_decide, everybody, grants, held_after-append, held_after-one, holds_or, is_root-last, one, only_below, only_here, perm_super, plain, the_account, two}
pub use Rattle.mum_policy.specs.Laws.{AreDeniesIn32Bits, IsPermission, IsWayOpen, entries_of, held_after, held_by, is_held, is_super_user, last_naming, matching_at, names_permission, passes, starts_over}
pub use Rattle.mum_policy.specs.{Limits.is_large_policy, Member.Actor, Member.PolicyMap, Member.actor_of, Walk.applies, Walk.full_set, Walk.holds, Walk.is_asked, Walk.marked, Walk.on_root}
pub use Rattle.mum_policy.specs.declared.policy.{AclEntry.AclEntry, ChannelPolicy.ChannelPolicy}
pub use Rattle.mum_tree.proofs.Public.{any_from, any_has, contains_filtered, contains_later, linked_leads, none_contained, same_number, upward_missing}
pub use Rattle.mum_tree.specs.{Rows.is_there, Rows.path, State.TreeState}
pub use Rattle.mum_users.proofs.Public.{channel, item_sessions, same_flags, session, with_group}
pub use Rattle.mum_users.specs.{Listeners.pairs_of, Sessions.session_of, State.RosterState, State.has_number, State.is_of_session}
pub use Rattle.mum_users.specs.declared.{listening.ListenerPair.ListenerPair, target.TargetItem.TargetItem, user.User.User}
pub use Rattle.mum_state.proofs.Public.{any_alike, any_map, enter, join, join_as, listen, make, move, set_policy, set_target, shown, some_found}
pub use Rattle.mum_state.specs.{Permissions.actor_from, Permissions.actor_in, Permissions.granted_to, Proper.IsProper, Proper.are_permissions, Proper.is_name, Proper.is_sound_entry, Proper.is_sound_policy, State.PolicyRow, State.StateValue, State.policy_of}
pub use Rattle.mum_state.specs.declared.edit.Edit.{Edit}
pub use Rattle.mum_route.proofs.Public.{Contains-among, IsHearing, all_at, among-Contains, among-below, among-filter, among-spread, channel_there, each_hearing, each_in_its_own, flags, found_number, found_own, kept_from, linked, listened_there, loopback, marked_among, members_contain, route_of_heard, route_of_loopback, route_of_none, route_of_silent, spread_out, three, wide, without}
pub use Rattle.mum_route.specs.{Aims.heard_as, Context.code, Cover.cover, Cover.spread, Cover.talk, Hearing.can_hear, Hearing.is_in_group, Hearing.is_silent, Hearing.may, Laws.needed_for}
pub use Rattle.mum_route.specs.Route.{Member, by_items, by_talk, context_of, is_covered_by, is_named, is_named_by, is_within, items_of, listens_to, listens_within, member_by, route}
pub use Rattle.mum_route.specs.declared.{context.Context.Context, context.Context.TheVariants.ChannelWhisper, context.Context.TheVariants.DirectWhisper, context.Context.TheVariants.Listener, context.Context.TheVariants.Talk, routes.TheConstants.LOOPBACK, routes.TheConstants.TALK}
pub use Rattle.mum_why.specs.{Aims.aimed, Cut.by_entry, Cut.cut, Cut.cut_at, Cut.cut_of, Cut.decides, Cut.last_in, Passed.passed, Passed.progressed}
pub use Rattle.mum_why.specs.CutLaws.{CutHolds, CutsAreAlone, CutsAreGiven, CutsHold, IsByWalk, IsClosed, IsDenied, IsNeverGiven, NoneNames}
pub use Rattle.mum_why.specs.Reason.{Aimed, aims_of, by_aims, channel_where, item_aim, lacks_where_it_is, left_out, level, one_names, reason, reason_between, spreads_over, stop_of, stops, talk_aim, way_by_listening, way_to}
pub use Rattle.mum_why.specs.ReasonLaws.{IsAimedAt, IsCoveredFor, IsListened, IsNamedBy, IsOutsideOf, ReasonHolds, ReasonsAreFirst, ReasonsAreRoutes, ReasonsHold, SpreadsOver, rank}
pub use Rattle.mum_why.specs.declared.{cut.Cut.Cut, cut.Cut.TheVariants.Closed, cut.Cut.TheVariants.Denied, cut.Cut.TheVariants.NeverGiven, cut.Cut.TheVariants.RootOnly, cut.Cut.TheVariants.SuperUser, reason.Reason.Reason, stop.Stop.Stop, stop.Stop.TheVariants.Arrives, stop.Stop.TheVariants.Elsewhere, stop.Stop.TheVariants.LacksListen, stop.Stop.TheVariants.LacksPermission, stop.Stop.TheVariants.NoMember, walk.Passed.Passed, walk.Progress.Progress}
pub use Rattle.mum_why.specs.declared.reason.Reason.TheVariants.{Deaf, DeafenedItself, Heard, ItIsItself, ListenerLacks, ListenerOutsideGroup, Muted, MutedItself, NoHearer, NoSpeaker, OnlyLoopback, OutsideGroup, SpeakerLacks, SpeakerLacksAtListener, Suppressed, Uncovered, Unset}
unfoldable pub use Rattle.mum_policy.specs.{Laws.counting, Laws.matching, Walk.is_root, Walk.matches, Walk.perm}
unfoldable pub use Rattle.mum_tree.specs.Walks.{is_reached}
unfoldable pub use Rattle.mum_state.proofs.Public.{state}
unfoldable pub use Rattle.mum_why.specs.{Cut.closed_below, Cut.last_along, Cut.last_place, Reason.way_from}
