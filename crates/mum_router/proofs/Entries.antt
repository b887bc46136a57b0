-- Entries of routes, while packets are routed.
use Rattle.mum_router.proofs.Common.{◌≡◌, ◌≢◌, ℕ, zero, suc, ◌<◌, ◌≤◌, true, List, [], ◌∷◌, ◌++◌, Option, Some, None, get_or, is_some, refl, ap, subst, sym, ◌∙◌, arith, inl, inr, ◌⊎◌, IsSome, IsTrue, slice_get, list_any, cases_eq, cases_lt, get_or-set_other, same_Some, IsPrefix, SessionId, Slot, User, session_of, has_number, Edit, all_fit, led_to, IsInSlot, IsProper, StateValue, some_found, numbers_never_fall_lem, present_was_present_lem, seats_stand_lem, session_known, state_of, Opening, prefix_fits, prefix_self, prefix_trans, LOOPBACK, RouteEntry, slot_of, IsRouteEntry, KeepsAsked, no_route, route_entry_at, route_index, route_index_of, route_kept_at, slot_below, is_seated, one_session, slot_is, one_of, Routed, RouterFacts, Delivery, RoutesAt, EntriesStay, HasEntry, HaveEntries, IsIn, RoutedPacket, RoutesEach}
use Rattle.mum_router.proofs.Sound.{front_proper, rest_fits, rest_leads}

-- ---- looks, one after another, as far as routes go by them

-- the edits that were seen, and the routes that are kept
pub record Kept : Type 0 where
  pub seen : List Edit
  pub routes : List RouteEntry

-- a look for a packet
pub record Sees (opening : Opening) (old : Kept) (one : RoutedPacket) (new : Kept) : Type 0 where
  pub front : IsPrefix old.seen one.edits
  pub fit : IsTrue (all_fit opening.state one.edits)
  pub seen_is : new.seen ≡ one.edits
  pub entry : KeepsAsked (state_of opening one.edits) one.speaker one.packet.target old.routes new.routes

abbrev pub SeesEach : Opening → Kept → List RoutedPacket → Kept → Type 0
SeesEach opening old [] new = new ≡ old
SeesEach opening old (one ∷ more) new = (mid : Kept) × Sees opening old one mid × SeesEach opening mid more new

sees_on : (opening : Opening) (packets : List RoutedPacket) (old new : Kept) → SeesEach opening old packets new → IsPrefix old.seen new.seen
sees_on opening [] old new same = subst (λ (kept : Kept). IsPrefix old.seen kept.seen) (sym same) (prefix_self old.seen)
sees_on opening (one ∷ more) old new (mid, sees, rest) =
    prefix_trans old.seen mid.seen new.seen (subst (λ (edits : List Edit). IsPrefix old.seen edits) (sym sees.seen_is) sees.front)
    (sees_on opening more mid new rest)

sees_fit : (opening : Opening) (packets : List RoutedPacket) (old new : Kept) → IsTrue (all_fit opening.state old.seen) → SeesEach opening old packets new
    → IsTrue (all_fit opening.state new.seen)
sees_fit opening [] old new fit same = subst (λ (kept : Kept). IsTrue (all_fit opening.state kept.seen)) (sym same) fit
sees_fit opening (one ∷ more) old new fit (mid, sees, rest) =
    sees_fit opening more mid new (subst (λ (edits : List Edit). IsTrue (all_fit opening.state edits)) (sym sees.seen_is) sees.fit) rest

pub sees_append : (opening : Opening) (packets more : List RoutedPacket) (old mid new : Kept) → SeesEach opening old packets mid → SeesEach opening mid more new
    → SeesEach opening old (packets ++ more) new
sees_append opening [] more old mid new same rest = subst (λ (kept : Kept). SeesEach opening kept more new) same rest
sees_append opening (one ∷ packets) more old mid new (next, sees, others) rest = (next, sees, sees_append opening packets more next mid new others rest)

-- ---- who was there before and is there later

module _ (opening : Opening) (proper : IsProper opening.state) (speaker : SessionId) where
  abbrev Present : List Edit → Type 0
  Present edits = IsIn opening edits speaker

  there_between : (first edits all : List Edit) → IsTrue (all_fit opening.state all) → IsPrefix first edits → IsPrefix edits all
      → Present first → Present all → Present edits
  there_between first edits all fit front next was is =
      let begun : StateValue = state_of opening first in
      let here : StateValue = state_of opening edits in
      let fits : IsTrue (all_fit opening.state edits) = prefix_fits opening.state edits all next fit in
      let (user, found) = one_of (session_of begun.roster speaker) was in
      let known : speaker.0 ≤ begun.roster.last = session_known begun speaker user (front_proper opening.state first edits proper front fits) found in
      let rises : begun.roster.last ≤ (led_to begun front.0).roster.last = (numbers_never_fall_lem begun front.0 (rest_fits opening.state first edits front fits)).1 in
      let same : here.roster.last ≡ (led_to begun front.0).roster.last = ap (λ (s : StateValue). s.roster.last) (rest_leads opening.state first edits front) in
      let later : list_any (has_number speaker) (led_to here next.0).roster.sessions ≡ true =
      sym (some_found (has_number speaker) (led_to here next.0).roster.sessions)
      ∙ ap (λ (s : StateValue). is_some (session_of s.roster speaker)) (sym (rest_leads opening.state edits all next)) ∙ is in
      some_found (has_number speaker) here.roster.sessions
      ∙ (present_was_present_lem here next.0 (rest_fits opening.state edits all next fit)).0 speaker (omega (arith, known, rises, same)) later

  seat_stays : (edits all : List Edit) → IsTrue (all_fit opening.state all) → IsPrefix edits all → Present edits → Present all
      → slot_of (state_of opening edits) speaker ≡ slot_of (state_of opening all) speaker
  seat_stays edits all fit front was is =
      let here : StateValue = state_of opening edits in
      let last : StateValue = state_of opening all in
      let (user, found) = one_of (session_of here.roster speaker) was in
      let (again, also) = one_of (session_of last.roster speaker) is in
      let later : IsInSlot (led_to here front.0) speaker again.slot =
      subst (λ (s : StateValue). IsInSlot s speaker again.slot) (rest_leads opening.state edits all front) (is_seated last speaker again also) in
      let same : user.slot ≡ again.slot =
      (seats_stand_lem here front.0 (front_proper opening.state edits all proper front fit) (rest_fits opening.state edits all front fit)).0
      speaker user.slot again.slot (is_seated here speaker user found) later in
      slot_is here speaker user found ∙ (ap (λ (slot : Slot). slot.0) same ∙ sym (slot_is last speaker again also))

-- ---- one look

-- the entry of another speaker or target is as it was
other_stays : (state : StateValue) (asked : SessionId) (target : ℕ) (old new : List RouteEntry) → IsProper state → KeepsAsked state asked target old new
    → (speaker : SessionId) (other : ℕ) → IsSome (session_of state.roster speaker) → other < LOOPBACK → (asked ≡ speaker → target ≡ other → ⊥)
    → route_kept_at state speaker other new ≡ route_kept_at state speaker other old
other_stays state asked target old new proper keeps speaker other there aimed apart = by_target (cases_lt target LOOPBACK)
  where
    same_routes : new ≡ old → route_kept_at state speaker other new ≡ route_kept_at state speaker other old
    same_routes same = ap (route_kept_at state speaker other) same

    put : target < LOOPBACK → IsSome (session_of state.roster asked) → route_kept_at state speaker other new ≡ route_kept_at state speaker other old
    put within here =
        let (entry, is, now) = keeps.kept here within in
        let (one, found) = one_of (session_of state.roster asked) here in
        let (second, known) = one_of (session_of state.roster speaker) there in
        let low : one.slot.0 < 512 = slot_below state.roster asked one proper.roster found in
        let at : slot_of state asked ≡ one.slot.0 = slot_is state asked one found in
        let low_too : second.slot.0 < 512 = slot_below state.roster speaker second proper.roster known in
        let at_too : slot_of state speaker ≡ second.slot.0 = slot_is state speaker second known in
        ap (λ (es : List RouteEntry). get_or es (route_index (slot_of state speaker) other) no_route) now
        ∙ get_or-set_other old (route_index_of state asked target) (route_index (slot_of state speaker) other) entry no_route
        (λ same.
        let slots : slot_of state asked ≡ slot_of state speaker = omega (arith, same, low, at, low_too, at_too) in
        apart (one_session state asked speaker proper here there slots) (omega (arith, same, low, at, low_too, at_too)))

    by_session : target < LOOPBACK → (found : Option User) → session_of state.roster asked ≡ found
        → route_kept_at state speaker other new ≡ route_kept_at state speaker other old
    by_session within None none = same_routes (keeps.unkept (inl none))
    by_session within (Some user) some = put within (ap (λ (o : Option User). is_some o) some)

    by_target : (target < LOOPBACK) ⊎ (LOOPBACK ≤ target) → route_kept_at state speaker other new ≡ route_kept_at state speaker other old
    by_target (inl within) = by_session within (session_of state.roster asked) refl
    by_target (inr beyond) = same_routes (keeps.unkept (inr beyond))

-- ---- all looks

module _ (opening : Opening) (proper : IsProper opening.state) (speaker : SessionId) (target : ℕ) (aimed : target < LOOPBACK)
    (last : Kept) (fit : IsTrue (all_fit opening.state last.seen)) (is : IsIn opening last.seen speaker) where
  -- the entry of the speaker and the target, where the speaker is at the end
  abbrev entry_in : List RouteEntry → RouteEntry
  entry_in routes = route_kept_at (state_of opening last.seen) speaker target routes

  abbrev IsAsked : RoutedPacket → Type 0
  IsAsked one = (one.speaker ≡ speaker) × (one.packet.target ≡ target)

  -- it is of a look for the same speaker and target
  abbrev IsFrom : List RoutedPacket → Kept → Type 0
  IsFrom packets new =
      (place : ℕ) × (one : RoutedPacket) × (slice_get packets place ≡ Some one) × IsAsked one
      × IsRouteEntry (state_of opening one.edits) speaker target (entry_in new.routes)

  module _ (first : List Edit) (was : IsIn opening first speaker) where
    own_entry : (old mid : Kept) (one : RoutedPacket) → Sees opening old one mid → IsPrefix one.edits last.seen → IsPrefix first one.edits → IsAsked one
        → IsRouteEntry (state_of opening one.edits) speaker target (entry_in mid.routes)
    own_entry old mid one sees front after (same, aim) =
        let here : StateValue = state_of opening one.edits in
        let there : IsIn opening one.edits speaker = there_between opening proper speaker first one.edits last.seen fit after front was is in
        let seat : slot_of here speaker ≡ slot_of (state_of opening last.seen) speaker = seat_stays opening proper speaker one.edits last.seen fit front there is in
        let own : IsRouteEntry here one.speaker one.packet.target (route_kept_at here one.speaker one.packet.target mid.routes) =
        sees.entry.stands (subst (λ (s : SessionId). IsIn opening one.edits s) (sym same) there) (subst (λ (t : ℕ). t < LOOPBACK) (sym aim) aimed) in
        subst (λ (slot : ℕ). IsRouteEntry here speaker target (route_entry_at mid.routes slot target)) seat
        (subst (λ (t : ℕ). IsRouteEntry here speaker t (route_kept_at here speaker t mid.routes)) aim
        (subst (λ (s : SessionId). IsRouteEntry here s one.packet.target (route_kept_at here s one.packet.target mid.routes)) same own))

    other_entry : (old mid : Kept) (one : RoutedPacket) → Sees opening old one mid → IsPrefix one.edits last.seen → IsPrefix first one.edits
        → (one.speaker ≡ speaker → one.packet.target ≡ target → ⊥) → entry_in mid.routes ≡ entry_in old.routes
    other_entry old mid one sees front after apart =
        let here : StateValue = state_of opening one.edits in
        let there : IsIn opening one.edits speaker = there_between opening proper speaker first one.edits last.seen fit after front was is in
        let seat : slot_of here speaker ≡ slot_of (state_of opening last.seen) speaker = seat_stays opening proper speaker one.edits last.seen fit front there is in
        subst (λ (slot : ℕ). route_entry_at mid.routes slot target ≡ route_entry_at old.routes slot target) seat
        (other_stays here one.speaker one.packet.target old.routes mid.routes (front_proper opening.state one.edits last.seen proper front fit) sees.entry
        speaker target there aimed apart)

    one_look : (old mid : Kept) (one : RoutedPacket) → Sees opening old one mid → IsPrefix one.edits last.seen → IsPrefix first one.edits
        → (entry_in mid.routes ≡ entry_in old.routes) ⊎ (IsAsked one × IsRouteEntry (state_of opening one.edits) speaker target (entry_in mid.routes))
    one_look old mid one sees front after = by_session (cases_eq one.speaker.0 speaker.0)
      where
        by_target : one.speaker ≡ speaker → (one.packet.target ≡ target) ⊎ (one.packet.target ≢ target)
            → (entry_in mid.routes ≡ entry_in old.routes) ⊎ (IsAsked one × IsRouteEntry (state_of opening one.edits) speaker target (entry_in mid.routes))
        by_target same (inl aim) = inr ((same, aim), own_entry old mid one sees front after (same, aim))
        by_target same (inr off) = inl (other_entry old mid one sees front after (λ s t. off t))

        by_session : (one.speaker.0 ≡ speaker.0) ⊎ (one.speaker.0 ≢ speaker.0)
            → (entry_in mid.routes ≡ entry_in old.routes) ⊎ (IsAsked one × IsRouteEntry (state_of opening one.edits) speaker target (entry_in mid.routes))
        by_session (inl same) = by_target (ap (λ (n : ℕ). record { 0 = n }) same) (cases_eq one.packet.target target)
        by_session (inr off) = inl (other_entry old mid one sees front after (λ s t. off (ap (λ (id : SessionId). id.0) s)))

    -- it stays, or is of a later look for the same speaker and target
    stays_or_new : (packets : List RoutedPacket) (old : Kept) → IsPrefix first old.seen → SeesEach opening old packets last
        → (entry_in last.routes ≡ entry_in old.routes) ⊎ IsFrom packets last
    stays_or_new [] old after same = inl (ap (λ (kept : Kept). entry_in kept.routes) same)
    stays_or_new (one ∷ more) old after (mid, sees, rest) =
        let next : IsPrefix one.edits last.seen = subst (λ (edits : List Edit). IsPrefix edits last.seen) sees.seen_is (sees_on opening more mid last rest) in
        let from : IsPrefix first one.edits = prefix_trans first old.seen one.edits after sees.front in
        behind (one_look old mid one sees next from)
        (stays_or_new more mid (subst (λ (edits : List Edit). IsPrefix first edits) (sym sees.seen_is) from) rest)
      where
        behind : (entry_in mid.routes ≡ entry_in old.routes) ⊎ (IsAsked one × IsRouteEntry (state_of opening one.edits) speaker target (entry_in mid.routes))
            → (entry_in last.routes ≡ entry_in mid.routes) ⊎ IsFrom more last
            → (entry_in last.routes ≡ entry_in old.routes) ⊎ IsFrom (one ∷ more) last
        behind now (inr (place, found, there, asked, entry)) = inr (suc place, found, there, asked, entry)
        behind (inl same) (inl kept) = inl (kept ∙ same)
        behind (inr (asked, entry)) (inl kept) =
            inr (zero, one, refl, asked, subst (IsRouteEntry (state_of opening one.edits) speaker target) (sym kept) entry)

head_entry : (opening : Opening) → IsProper opening.state → (first : RoutedPacket) (more : List RoutedPacket) (old mid new : Kept)
    → Sees opening old first mid → SeesEach opening mid more new → first.packet.target < LOOPBACK
    → IsIn opening first.edits first.speaker → IsIn opening new.seen first.speaker
    → HasEntry opening (first ∷ more) zero first new.seen new.routes
head_entry opening proper first more old mid new sees rest aimed was is =
    by_later (stays_or_new opening proper first.speaker first.packet.target aimed new fit is first.edits was more mid
    (subst (λ (edits : List Edit). IsPrefix first.edits edits) (sym sees.seen_is) (prefix_self first.edits)) rest)
  where
    fit : IsTrue (all_fit opening.state new.seen)
    fit = sees_fit opening more mid new (subst (λ (edits : List Edit). IsTrue (all_fit opening.state edits)) (sym sees.seen_is) sees.fit) rest

    front : IsPrefix first.edits new.seen
    front = subst (λ (edits : List Edit). IsPrefix edits new.seen) sees.seen_is (sees_on opening more mid new rest)

    own : IsRouteEntry (state_of opening first.edits) first.speaker first.packet.target (route_kept_at (state_of opening new.seen) first.speaker first.packet.target mid.routes)
    own = own_entry opening proper first.speaker first.packet.target aimed new fit is first.edits was old mid first sees front (prefix_self first.edits) (refl, refl)

    by_later : (route_kept_at (state_of opening new.seen) first.speaker first.packet.target new.routes ≡ route_kept_at (state_of opening new.seen) first.speaker first.packet.target mid.routes)
        ⊎ IsFrom opening proper first.speaker first.packet.target aimed new fit is more new
        → HasEntry opening (first ∷ more) zero first new.seen new.routes
    by_later (inl kept) = record {
      later = zero;
      last = first;
      not_before = omega arith;
      there = refl;
      speaker_is = refl;
      target_is = refl;
      entry = subst (IsRouteEntry (state_of opening first.edits) first.speaker first.packet.target) (sym kept) own;
    }
    by_later (inr (place, last, there, (same, aim), entry)) = record {
      later = suc place;
      last = last;
      not_before = omega arith;
      there = there;
      speaker_is = same;
      target_is = aim;
      entry = entry;
    }

pub have_entries : (opening : Opening) → IsProper opening.state → (packets : List RoutedPacket) (old new : Kept) → SeesEach opening old packets new
    → HaveEntries opening packets new.seen new.routes
have_entries opening proper [] old new same place one there aimed was is = absurd (cc there)
have_entries opening proper (first ∷ more) old new (mid, sees, rest) zero one there aimed was is =
    let same : first ≡ one = same_Some _ _ there in
    subst (λ (asked : RoutedPacket). HasEntry opening (first ∷ more) zero asked new.seen new.routes) same
    (head_entry opening proper first more old mid new sees rest
    (subst (λ (asked : RoutedPacket). asked.packet.target < LOOPBACK) (sym same) aimed)
    (subst (λ (asked : RoutedPacket). IsIn opening asked.edits asked.speaker) (sym same) was)
    (subst (λ (asked : RoutedPacket). IsIn opening new.seen asked.speaker) (sym same) is))
have_entries opening proper (first ∷ more) old new (mid, sees, rest) (suc place) one there aimed was is =
    let found = have_entries opening proper more mid new rest place one there aimed was is in
    let within : place ≤ found.later = found.not_before in
    record {
      later = suc found.later;
      last = found.last;
      not_before = omega (arith, within);
      there = found.there;
      speaker_is = found.speaker_is;
      target_is = found.target_is;
      entry = found.entry;
    }

-- ---- packets that are routed

abbrev pub kept_of : RouterFacts → Kept
kept_of router = record { seen = router.pass.seen; routes = router.caches.routes }

pub sees_of : (opening : Opening) (old : RouterFacts) (one : RoutedPacket) (deliveries : List Delivery) (new : RouterFacts) (routed : Routed) → old.pass.opening ≡ opening
    → RoutesAt opening old one.speaker one.packet one.edits deliveries new routed → Sees opening (kept_of old) one (kept_of new)
sees_of opening old one deliveries new routed same routes = record {
  front = routes.may.seen;
  fit = subst (λ (o : Opening). IsTrue (all_fit o.state one.edits)) same routes.may.fit;
  seen_is = ap (λ (r : RouterFacts). r.pass.seen) routes.router;
  entry = routes.entry;
}

sees_each : (opening : Opening) (packets : List RoutedPacket) (old new : RouterFacts) → old.pass.opening ≡ opening → RoutesEach opening old packets new
    → SeesEach opening (kept_of old) packets (kept_of new)
sees_each opening [] old new opened same = ap kept_of same
sees_each opening (one ∷ more) old new opened (deliveries, routed, mid, routes, rest) = (
  kept_of mid,
  sees_of opening old one deliveries mid routed opened routes,
  sees_each opening more mid new (ap (λ (r : RouterFacts). r.pass.opening) routes.router ∙ opened) rest,
)

pub entries_stay_lem : EntriesStay
entries_stay_lem opening old new packets proper opened each =
    have_entries opening proper packets (kept_of old) (kept_of new) (sees_each opening packets old new opened each)
