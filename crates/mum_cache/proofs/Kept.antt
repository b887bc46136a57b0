-- A route, and what is kept with it.
use Rattle.mum_cache.proofs.Common.{◌≡◌, ◌≢◌, ℕ, ◌<◌, ◌≤◌, true, List, [], length, get_or, set, refl, sym, ap, subst, ◌∙◌, arith, Option, Some, inl, inr, option_map, option_map_or, cases_eq, cases_lt, get_or-set_other, get_or-set_same, same_Some, SessionId, Slot, User, session_of, IsProper, StateValue, session_known, Context, LOOPBACK, members_by, Member, heard_from, route, channel_there, slot_below, RouteEntry, IsSpeaker, AreRoutesSound, IsRouteEntry, KeepsRoute, RouteSound, no_route, route_entry_at, route_index, route_index_of, route_kept_at, slot_of}
use Rattle.mum_cache.proofs.Others.{is_seated, number_is, slot_is}

-- a session that is found may be asked
pub is_speaker : (state : StateValue) (session : SessionId) (user : User) → IsProper state → session_of state.roster session ≡ Some user → IsSpeaker state user
is_speaker state session user proper found = record {
  proper = proper;
  own = ap (session_of state.roster) (number_is state session user found) ∙ found;
  there = channel_there state session user proper found;
  slot = slot_below state.roster session user proper.roster found;
}

-- a target that is not loopback
pub aimed_below : (target : ℕ) → target ≤ LOOPBACK → target ≢ LOOPBACK → target < LOOPBACK
aimed_below target within away =
    elim (cases_lt target LOOPBACK) [
      | inl below ↦ below
      | inr above ↦ absurd (away (omega (arith, within, above)))
    ]

module _ (state : StateValue) (speaker : User) (target : ℕ) (is : IsSpeaker state speaker) (aimed : target < LOOPBACK) where
  abbrev here : ℕ
  here = route_index_of state speaker.session target

  pub here_is : here ≡ route_index speaker.slot.0 target
  here_is = ap (λ (slot : ℕ). route_index slot target) (slot_is state speaker.session speaker is.own)

  pub here_within : here < 15872
  here_within =
      let slot = is.slot in let same : slot_of state speaker.session ≡ speaker.slot.0 = slot_is state speaker.session speaker is.own in
      omega (arith, slot, same, aimed)

  -- what one hears who is there
  pub route_is : (members : List Member) → members ≡ heard_from state speaker target → members ≡ route state speaker.session target
  route_is members told = told ∙ sym (ap (λ (o : Option User). option_map_or (λ user. heard_from state user target) o []) is.own)

  own_sound : (entry : RouteEntry) → IsRouteEntry state speaker.session target entry → RouteSound state speaker.slot.0 target entry
  own_sound entry so = record {
    routing = let same = so.routing in omega (arith, same);
    speaker_given =
        let number = ap (λ (s : SessionId). s.0) so.speaker_is in
        let known = session_known state speaker.session speaker is.proper is.own in omega (arith, number, known);
    seated = λ own in_it.
        ap (λ (s : Slot). s.0) (same_Some _ _ (sym in_it ∙ ap (λ (s : SessionId). option_map (λ (one : User). one.slot) (session_of state.roster s)) so.speaker_is ∙ is_seated state speaker.session speaker is.own));
    value = λ stands. so.value ∙ ap (λ (s : SessionId). route state s target) (sym so.speaker_is);
  }

  pub kept_sound : (entries later : List RouteEntry) → length entries ≡ 15872 → AreRoutesSound state entries
      → KeepsRoute state speaker.session target entries later → AreRoutesSound state later
  kept_sound entries later room sound (entry, so, now) slot other within inside used =
      let near : here < 15872 = here_within in
      elim (cases_eq (route_index slot other) here) [
        | inl same ↦
            let at : route_entry_at later slot other ≡ entry =
            ap (λ (es : List RouteEntry). route_entry_at es slot other) now
            ∙ ap (λ (i : ℕ). get_or (set entries here entry) i no_route) same ∙ get_or-set_same entries here entry no_route (omega (arith, room, near)) in
            let own : route_index speaker.slot.0 target ≡ here = sym here_is in
            let low : speaker.slot.0 < 512 = is.slot in
            let slots : speaker.slot.0 ≡ slot = omega (arith, same, own, within, low) in
            let targets : target ≡ other = omega (arith, same, own, within, low) in
            subst (λ (one : RouteEntry). RouteSound state slot other one) (sym at)
            (subst (λ (s : ℕ). RouteSound state s other entry) slots
            (subst (λ (t : ℕ). RouteSound state speaker.slot.0 t entry) targets (own_sound entry so)))
        | inr off ↦
            let stays : route_entry_at later slot other ≡ route_entry_at entries slot other =
            ap (λ (es : List RouteEntry). route_entry_at es slot other) now ∙ get_or-set_other entries here (route_index slot other) entry no_route off in
            subst (λ (one : RouteEntry). RouteSound state slot other one) (sym stays)
            (sound slot other within inside (sym (ap (λ (one : RouteEntry). one.used) stays) ∙ used))
      ]

  pub miss_kept : (entries : List RouteEntry) (index routing : ℕ) (reached : List (Option Context)) → index ≡ route_index speaker.slot.0 target → routing ≡ state.counts.routing
      → members_by state.roster.sessions reached ≡ heard_from state speaker target
      → KeepsRoute state speaker.session target entries (set entries index (record { used = true; speaker = speaker.session; routing = routing; reached = reached }))
  miss_kept entries index routing reached at same told =
      let entry : RouteEntry = record { used = true; speaker = speaker.session; routing = routing; reached = reached } in (
        entry,
        record { used = refl; speaker_is = refl; routing = same; value = route_is _ told },
        ap (λ (i : ℕ). set entries i entry) (at ∙ sym here_is),
      )

  pub heard_kept : (entries later : List RouteEntry) → length entries ≡ 15872 → KeepsRoute state speaker.session target entries later
      → members_by state.roster.sessions (get_or later (route_index speaker.slot.0 target) no_route).reached ≡ route state speaker.session target
  heard_kept entries later room (entry, so, now) =
      let near : here < 15872 = here_within in
      let at : get_or later (route_index speaker.slot.0 target) no_route ≡ entry =
      ap (λ (i : ℕ). get_or later i no_route) (sym here_is) ∙ ap (λ (es : List RouteEntry). get_or es here no_route) now
      ∙ get_or-set_same entries here entry no_route (omega (arith, room, near)) in
      ap (λ (one : RouteEntry). members_by state.roster.sessions one.reached) at ∙ so.value

  -- what is kept is at its place
  pub kept_stands : (entries later : List RouteEntry) → length entries ≡ 15872 → KeepsRoute state speaker.session target entries later
      → IsRouteEntry state speaker.session target (route_kept_at state speaker.session target later)
  kept_stands entries later room (entry, so, now) =
      let near : here < 15872 = here_within in
      let at : route_kept_at state speaker.session target later ≡ entry =
      ap (λ (es : List RouteEntry). get_or es here no_route) now ∙ get_or-set_same entries here entry no_route (omega (arith, room, near)) in
      subst (IsRouteEntry state speaker.session target) (sym at) so
