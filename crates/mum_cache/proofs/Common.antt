-- The names that the proofs of this crate take from elsewhere, passed on from one place. Declares nothing.
pub use Rattle.std.proofs.lemmas.{Bool.and_parts, Bool.cases_eq, Bool.cases_lt, Bool.eq-eqb, Bool.eqb-true, Bool.false≢true, Option.same_Some, Option.slice_get-get_or}
pub use Rattle.std.proofs.lemmas.List.{append_assoc, get_or-append_right, get_or-replicate, get_or-set_other, get_or-set_same, get_or_append_left, length-append, length-replicate, length-set, length_push, set-append_left}
pub use Rattle.std.proofs.Common.{Bool, List, None, Option, Some, [], ap, arith, codes, cond, false, get_or, inl, inr, is_some, length, map, refl, replicate, set, slice_get, subst, suc, sym, true, vec_capacity, zero, ℕ, ◌*◌, ◌++◌, ◌+◌, ◌-◌, ◌<◌, ◌∙◌, ◌∷◌, ◌≡◌, ◌≢◌, ◌≤◌}
pub use Rattle.std.specs.{List.cons_option, List.list_any, Option.option_copied, Option.option_map, Option.option_map_or}
pub use Rattle.std.specs.Prelude.{IsTrue, MatchOption, find, ◌&&◌, ◌==◌}
pub use Rattle.mum_base.specs.declared.{number.ChannelId.ChannelId, number.SessionId.SessionId, number.Slot.Slot, number.TheConstants.PLACES, number.TheConstants.SLOTS, perm.Perm.Perm, perm.TheConstants.Perm.SPEAK}
pub use Rattle.mum_policy.proofs.Public.{denies, everybody, one, only_here, plain, those_in}
pub use Rattle.mum_tree.proofs.Public.{root_row}
pub use Rattle.mum_tree.specs.Rows.{is_there, row_of}
pub use Rattle.mum_tree.specs.declared.channel.Row.{Row}
pub use Rattle.mum_users.proofs.Public.{channel, session}
pub use Rattle.mum_users.specs.{Proper.SlotsRise, Sessions.session_of, State.RosterState, State.has_number}
pub use Rattle.mum_users.specs.declared.user.User.{User}
pub use Rattle.mum_state.proofs.Public.{counts_in, counts_never_fall_lem, enter, found_passes, join, link, make, move, numbers_never_fall_lem, permissions_stand_lem, present_was_present_lem, rights_in, routes_stand_lem, seats_stand_lem, session_known, set_policy, shown, some_found}
pub use Rattle.mum_state.specs.{After.all_fit, After.led_to, Laws.AreAtMost, Laws.HasPlace, Laws.IsInSlot, Permissions.perm_of, Permissions.visits_of, Proper.IsProper, Routed.RouteInputs, Routed.route_inputs, Routed.without_talk, State.StateValue}
pub use Rattle.mum_state.specs.declared.edit.Edit.{Edit}
pub use Rattle.mum_route.proofs.Public.{channel_there, one_row, place_within, route_is_of_its_inputs_lem, row_at, slot_below}
pub use Rattle.mum_route.specs.{Aims.members_by, Hearers.hearers_of, Route.Member, Route.heard_from, Route.member_by, Route.route}
pub use Rattle.mum_route.specs.declared.{context.Context.Context, routes.TheConstants.LOOPBACK}
pub use Rattle.mum_cache.specs.{Asked.IsSpeaker, Caches.AreSound, Caches.no_caches, Keys.IsKey, Keys.answers_key, Laws.AnswersWhereItStands, Laws.NothingIsSound, Laws.OtherPermsStay, Laws.OtherRoutesStay, Laws.RoutesAnswerWhereTheyStand, Laws.SoundStays, Places.count_of, Places.place_of, Places.slot_of}
pub use Rattle.mum_cache.specs.Perms.{ArePermsSound, PermSound, PermStands, answers, index_of, kept_at, no_perm, perm_at, perm_entry, perm_index, visits_at}
pub use Rattle.mum_cache.specs.Routes.{AreRoutesSound, IsRouteEntry, KeepsRoute, RouteAnswers, RouteSound, no_route, route_entry_at, route_index, route_index_of, route_kept_at}
pub use Rattle.mum_cache.specs.declared.{caches.Caches.Caches, perms.Key.Key, perms.PermEntry.PermEntry, routes.RouteEntry.RouteEntry}
unfoldable pub use Rattle.mum_policy.specs.Walk.{visits, visits_along}
unfoldable pub use Rattle.mum_state.proofs.Public.{state}
unfoldable pub use Rattle.mum_cache.specs.{Perms.no_perms, Routes.no_routes, Table.padded}
