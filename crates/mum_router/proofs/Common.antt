-- The names that the proofs of this crate take from elsewhere, passed on from one place. Declares nothing.
pub use mathlib.Core.List.{IsPrefix}
pub use Rattle.std.proofs.lemmas.{Bool.and_parts, Bool.cases_eq, Bool.cases_lt, Fn.FoldsTo-push, Grind.take_at_read, List.Elements.filter-append, List.Elements.recursion_from_All, List.Sums.fold-append, List.get_or-set_other, List.length-map, List.map-append, Option.same_Some}
pub use Rattle.std.proofs.Common.{Bool, List, None, Option, Some, [], ap, arith, false, filter, get_or, inl, inr, is_some, length, length-append, map, not, refl, rules, slice_index_or, subst, suc, sym, take, true, zero, ℕ, ◌++◌, ◌+◌, ◌-◌, ◌<◌, ◌∙◌, ◌∷◌, ◌≡◌, ◌≤◌}
pub use Rattle.std.specs.{Int.from_bool, List.All, List.AllByRecursion, List.Contains, List.FoldsTo, List.list_any, Vec.Iter.into_iter_items}
pub use Rattle.std.specs.Prelude.{IsSome, IsTrue, if◌then◌else◌, min, slice_get, slice_set, ◌≢◌, ◌⊎◌}
pub use Rattle.mum_base.specs.declared.number.{SessionId.SessionId, Slot.Slot, TheConstants.SLOTS, TheConstants.VOICE_CAPACITY}
pub use Rattle.mum_users.specs.{Sessions.session_of, State.has_number}
pub use Rattle.mum_users.specs.declared.user.User.{User}
pub use Rattle.mum_voice.specs.Packet.{IsPacket, Parts, plain_parts}
pub use Rattle.mum_outbox.specs.{Calls.Offers, Calls.new_pass, Facts.PassFacts as BoxFacts, Facts.PassFacts}
pub use Rattle.mum_outbox.specs.declared.{queue.Offered.Offered, queue.Offered.TheVariants.Full, queue.Offered.TheVariants.Sent, rule.TheConstants.LAST}
pub use Rattle.mum_record.specs.declared.journal.Marked.{Marked}
pub use Rattle.mum_state.proofs.Public.{keeps_proper_lem, numbers_never_fall_lem, present_was_present_lem, seats_stand_lem, session_known, some_found}
pub use Rattle.mum_state.specs.{After.all_fit, After.led_to, Applied.applied, Fits.fits, Laws.IsInSlot, Proper.IsProper, State.StateValue}
pub use Rattle.mum_state.specs.declared.edit.Edit.{Edit}
pub use Rattle.mum_route.proofs.Public.{slot_below}
pub use Rattle.mum_route.specs.Hearers.{copy_for, hearers_at}
pub use Rattle.mum_route.specs.declared.{hearer.Hearer.Hearer, routes.TheConstants.LOOPBACK}
pub use Rattle.mum_published.proofs.Public.{prefix_fits, prefix_self, prefix_trans}
pub use Rattle.mum_published.specs.{Calls.note_known, Calls.state_of, Facts.NoteFacts, Facts.Opening}
pub use Rattle.mum_published.specs.declared.rule.AskAt.{AskAt}
pub use Rattle.mum_cache.proofs.Public.{is_seated, nothing_sound, one_of, one_session, slot_is, sound_stays_lem}
pub use Rattle.mum_cache.specs.{Caches.AreSound, Places.slot_of, Routes.IsRouteEntry, Routes.KeepsAsked, Routes.no_route, Routes.route_entry_at, Routes.route_index, Routes.route_index_of, Routes.route_kept_at}
pub use Rattle.mum_cache.specs.declared.{caches.Caches.Caches, routes.RouteEntry.RouteEntry}
pub use Rattle.mum_parcel.specs.{Facts.VoiceFacts, Rules.Hears}
pub use Rattle.mum_router.specs.{Drafts.IsDraft, Drafts.IsOfSame, Facts.RouterFacts, Laws.EntriesStay, Laws.HasEntry, Laws.HaveEntries, Laws.IsIn, Laws.RoutedPacket, Laws.RoutesEach, Picking.Looks, Routing.Routes, Routing.RoutesAt}
pub use Rattle.mum_router.specs.Offering.{Delivers, DeliversEach, Delivery, Outs, copies_of, full_of, is_sent, mark_of, was_sent}
pub use Rattle.mum_router.specs.declared.{draft.Draft.Draft, offering.Routed.Routed}
