-- The names that the proofs of this crate take from elsewhere, passed on from one place. Declares nothing.
pub use Rattle.std.proofs.lemmas.Bool.{and_from, and_parts, cases_eq, cases_lt, eq-eqb, eqb-true, false≢true, ne_eqb, not-true, or_left}
pub use Rattle.std.proofs.lemmas.{List.Elements.All-from_recursion, List.Elements.All-nil, List.Elements.recursion_from_All, List.Folds.list_any-append, List.Folds.list_any_more, List.Kept.AllPairs-cons, List.append-nil, List.get_or-set_other, List.get_or-set_same, List.get_or_default, Option.none-some, Option.same_Some, Slice.Eq.bytes_eq-Decides}
pub use Rattle.std.proofs.Common.{Bool, IfSome, List, None, Option, Some, [], add-one, ap, append_assoc, arith, bytes_eq, codes, cond, eqb, false, get_or, if◌then◌else◌, inl, inr, length, length-append, map, refl, replicate, reverse, set, subst, suc, sym, take, true, unwrap_or, zero, ℕ, ⊎_elim, ◌&&◌, ◌*◌, ◌++◌, ◌+◌, ◌-◌, ◌<◌, ◌^◌, ◌||◌, ◌↔◌, ◌∙◌, ◌∷◌, ◌≡◌, ◌≢◌, ◌≤◌, ◌⊎◌}
pub use Rattle.std.specs.List.{All, AllByRecursion, AllPairs, Contains, cons_option, filter, filter_map, list_all, list_any, zip}
pub use Rattle.std.specs.Option.{is_some, option_copied, option_map, option_map_or}
pub use Rattle.std.specs.Prelude.{IsSome, IsTrue, find, ◌==◌}
pub use Rattle.mum_base.specs.Channels.{is_among}
pub use Rattle.mum_base.specs.declared.{number.ChannelId.ChannelId, number.SessionId.SessionId, perm.Perm.Perm, perm.TheConstants.Perm.LISTEN, perm.TheConstants.Perm.SPEAK, perm.TheConstants.Perm.WHISPER}
pub use Rattle.mum_policy.proofs.Public.{defines, denies, everybody, group, one, only_here}
pub use Rattle.mum_policy.specs.{Member.Actor, Walk.holds}
pub use Rattle.mum_tree.proofs.Public.{any_from, any_has, contains_later, none_contained, root_row, same_number, upward_missing}
pub use Rattle.mum_tree.specs.{Rows.IsWay, Rows.is_below, Rows.is_there, Rows.path, Rows.row_of, State.Pair, State.TreeState, State.below, Walks.linked}
pub use Rattle.mum_tree.specs.declared.channel.Row.{Row}
pub use Rattle.mum_users.proofs.Public.{item_channel, item_sessions, same_flags, session, unchanged, with_children, with_group, with_links}
pub use Rattle.mum_users.specs.{Listeners.pairs_of, Proper.SlotsRise, Sessions.session_of, State.RosterState, State.has_number, State.is_of_session}
pub use Rattle.mum_users.specs.declared.{flags.FlagChange.FlagChange, listening.ListenerPair.ListenerPair, target.TargetItem.TargetItem, user.User.User}
pub use Rattle.mum_voice.specs.Packet.{Parts}
pub use Rattle.mum_state.proofs.Public.{Each, add_account, all_filter, clear, edge, enter, join, join_as, leave, link, listen, make, move, path_alike, remove, session_alone, set_policy, set_target, set_user, there_alike}
pub use Rattle.mum_state.specs.{Permissions.actor_at, Permissions.actor_from, Permissions.granted_to, Permissions.granted_where_there, Permissions.perm_of, Proper.IsProper, Routed.RouteInputs, Routed.route_inputs, Routed.without_talk, Routed.without_text, State.PolicyRow, State.StateValue, State.no_counts, State.plain_server, State.policy_of}
pub use Rattle.mum_state.specs.declared.edit.Edit.{Edit}
pub use Rattle.mum_route.specs.Aims.{Aimed, AreHeard, AreKnown, IsAnswered, aimed, covered, heard_as, heard_by, heard_of, hearer_by, item_aim, members_by, reached_by, talk_aim}
pub use Rattle.mum_route.specs.{Context.code, Context.first_of, Cover.cover, Cover.spread, Cover.talk, Hearers.copy_for, Hearers.hearer_of, Hearers.hearers_at, Hearers.hearers_of, Hearers.member_of, Hearers.shares, Hearing.can_hear, Hearing.is_deaf, Hearing.is_in_group, Hearing.is_silent, Hearing.may}
pub use Rattle.mum_route.specs.Laws.{HasPositionBy, IsCovered, IsInLowerSlot, IsItemContext, IsNamed, IsTalkContext, Listens, ListensToItems, ListensToTalk, RouteIsOfItsInputs, before_position, needed_for}
pub use Rattle.mum_route.specs.Route.{Member, by_items, by_talk, context_of, heard_from, is_covered_by, is_named, is_named_by, is_within, items_of, listens_to, listens_within, member_by, reached_of, route}
pub use Rattle.mum_route.specs.declared.{aim.Ground.Ground, context.Context.Context, context.Context.TheVariants.ChannelWhisper, context.Context.TheVariants.DirectWhisper, context.Context.TheVariants.Listener, context.Context.TheVariants.Talk, hearer.Hearer.Hearer, routes.TheConstants.LOOPBACK, routes.TheConstants.TALK}
unfoldable pub use Rattle.mum_policy.specs.{Member.member, Walk.perm as granted}
unfoldable pub use Rattle.mum_tree.specs.Walks.{is_reached}
unfoldable pub use Rattle.mum_voice.specs.Varint.{shortest_word}
unfoldable pub use Rattle.mum_state.proofs.Public.{state}
