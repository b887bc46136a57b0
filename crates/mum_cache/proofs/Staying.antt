-- What is sound outlives edits that fit.
use Rattle.mum_cache.proofs.Common.{◌≡◌, ℕ, zero, suc, ◌*◌, ◌<◌, ◌≤◌, Bool, true, false, List, [], ◌∷◌, length, map, get_or, replicate, refl, sym, ap, subst, ◌∙◌, arith, Option, Some, None, is_some, IsTrue, cons_option, list_any, option_map, false≢true, slice_get-get_or, ChannelId, SessionId, Slot, PLACES, SLOTS, Row, is_there, row_of, User, session_of, has_number, Edit, all_fit, led_to, AreAtMost, HasPlace, IsInSlot, IsProper, RouteInputs, route_inputs, without_talk, StateValue, counts_never_fall_lem, shown, some_found, permissions_stand_lem, numbers_never_fall_lem, present_was_present_lem, routes_stand_lem, seats_stand_lem, Context, LOOPBACK, members_by, member_by, route_is_of_its_inputs_lem, PermEntry, RouteEntry, Caches, AreSound, no_caches, NothingIsSound, SoundStays, PermSound, no_perm, perm_at, perm_index, no_perms, count_of, RouteSound, no_route, route_entry_at, route_index, no_routes}

pub one_of : {X : Type 0} (o : Option X) → is_some o ≡ true → (x : X) × (o ≡ Some x)
one_of None some = absurd (false≢true some)
one_of (Some x) some = (x, refl)

at_most : (counts laters : List ℕ) (i : ℕ) → AreAtMost counts laters → get_or counts i 0 ≤ get_or laters i 0
at_most [] [] i all = omega arith
at_most [] (later ∷ laters) i all = elim all [ ]
at_most (count ∷ counts) [] i all = elim all [ ]
at_most (count ∷ counts) (later ∷ laters) zero all = all.0
at_most (count ∷ counts) (later ∷ laters) (suc i) all = at_most counts laters i all.1

as_many : (counts laters : List ℕ) → AreAtMost counts laters → length counts ≡ length laters
as_many [] [] all = refl
as_many [] (later ∷ laters) all = elim all [ ]
as_many (count ∷ counts) [] all = elim all [ ]
as_many (count ∷ counts) (later ∷ laters) all = ap suc (as_many counts laters all.1)

members_bare : (users : List User) (reached : List (Option Context)) → members_by (map without_talk users) reached ≡ members_by users reached
members_bare [] reached = refl
members_bare (user ∷ users) [] = refl
members_bare (user ∷ users) (one ∷ reached) = ap (cons_option (option_map (member_by user) one)) (members_bare users reached)

-- ---- from one state to a later one

module _ (state : StateValue) (edits : List Edit) (proper : IsProper state) (fit : IsTrue (all_fit state edits)) where
  abbrev later : StateValue
  later = led_to state edits

  -- who is there under a number that was given had its slot before
  session_was : (session : SessionId) (own : Slot) → session.0 ≤ state.roster.last → IsInSlot later session own → IsInSlot state session own
  session_was session own given now =
      let (user, found, slot) = shown (λ (one : User). one.slot) (session_of later.roster session) own now in
      let there : list_any (has_number session) later.roster.sessions ≡ true =
      sym (some_found (has_number session) later.roster.sessions) ∙ ap (λ (o : Option User). is_some o) found in
      let was : list_any (has_number session) state.roster.sessions ≡ true = (present_was_present_lem state edits fit).0 session given there in
      let (first, here) = one_of (session_of state.roster session) (some_found (has_number session) state.roster.sessions ∙ was) in
      let had : IsInSlot state session first.slot = ap (option_map (λ (one : User). one.slot)) here in
      subst (IsInSlot state session) ((seats_stand_lem state edits proper fit).0 session first.slot own had now) had

  channel_was : (channel : ChannelId) → channel.0 ≤ state.tree.greatest → is_there later.tree.channels channel ≡ true → is_there state.tree.channels channel ≡ true
  channel_was channel given now = (present_was_present_lem state edits fit).1 channel given now

  place_was : (channel : ChannelId) (own : ℕ) → channel.0 ≤ state.tree.greatest → HasPlace later channel own → HasPlace state channel own
  place_was channel own given now =
      let (row, found, place) = shown (λ (one : Row). one.place) (row_of later.tree.channels channel) own now in
      let was : is_there state.tree.channels channel ≡ true = channel_was channel given (ap (λ (o : Option Row). is_some o) found) in
      let (first, here) = one_of (row_of state.tree.channels channel) was in
      let had : HasPlace state channel first.place = ap (option_map (λ (one : Row). one.place)) here in
      subst (HasPlace state channel) ((seats_stand_lem state edits proper fit).1 channel first.place own had now) had

  perm_stays : (slot place : ℕ) (entry : PermEntry) → slot < SLOTS → PermSound state slot place entry → PermSound later slot place entry
  perm_stays slot place entry within sound =
      let on = counts_never_fall_lem state edits in
      let numbers = numbers_never_fall_lem state edits fit in
      let policies : state.counts.policy ≤ later.counts.policy = on.policy in
      let counts : count_of state slot ≤ count_of later slot = at_most state.counts.slots later.counts.slots slot on.slots in
      let first : entry.policy ≤ state.counts.policy = sound.policy in
      let second : entry.count ≤ count_of state slot = sound.count in
      let third : entry.session.0 ≤ state.roster.last = sound.session_given in
      let fourth : entry.channel.0 ≤ state.tree.greatest = sound.channel_given in
      record {
        policy = omega (arith, policies, first);
        count = omega (arith, counts, second);
        session_given = omega (arith, third, numbers.1);
        channel_given = omega (arith, fourth, numbers.0);
        seated = λ own now. sound.seated own (session_was entry.session own third now);
        placed = λ own now. sound.placed own (place_was entry.channel own fourth now);
        value = λ stands.
            let policy_is : entry.policy ≡ later.counts.policy = stands.policy in
            let count_is : entry.count ≡ count_of later slot = stands.count in
            let same : count_of state slot ≡ count_of later slot = omega (arith, counts, second, count_is) in
            let seated : IsInSlot state entry.session (record { 0 = slot }) = session_was entry.session (record { 0 = slot }) third stands.seated in
            let each : length state.counts.slots ≡ 512 = proper.counts.one_each in
            let also : length later.counts.slots ≡ 512 = sym (as_many state.counts.slots later.counts.slots on.slots) ∙ each in
            sym (permissions_stand_lem state edits entry.session (record { 0 = slot }) entry.channel proper fit seated stands.seated
            (omega (arith, policies, first, policy_is))
            (slice_get-get_or state.counts.slots slot 0 (omega (arith, within, each))
            ∙ ap (λ (n : ℕ). Some n) same
            ∙ sym (slice_get-get_or later.counts.slots slot 0 (omega (arith, within, also)))))
            ∙ sound.value (record {
              seated = seated;
              there = channel_was entry.channel fourth stands.there;
              policy = omega (arith, policies, first, policy_is);
              count = omega (arith, counts, second, count_is);
            });
      }

  route_stays : (slot target : ℕ) (entry : RouteEntry) → RouteSound state slot target entry → RouteSound later slot target entry
  route_stays slot target entry sound =
      let on = counts_never_fall_lem state edits in
      let numbers = numbers_never_fall_lem state edits fit in
      let routings : state.counts.routing ≤ later.counts.routing = on.routing in
      let first : entry.routing ≤ state.counts.routing = sound.routing in
      let second : entry.speaker.0 ≤ state.roster.last = sound.speaker_given in
      record {
        routing = omega (arith, routings, first);
        speaker_given = omega (arith, second, numbers.1);
        seated = λ own now. sound.seated own (session_was entry.speaker own second now);
        value = λ stands.
            let routing_is : entry.routing ≡ later.counts.routing = stands.routing in
            let inputs : route_inputs state ≡ route_inputs later = routes_stand_lem state edits proper fit (omega (arith, routings, first, routing_is)) in
            sym (members_bare later.roster.sessions entry.reached)
            ∙ sym (ap (λ (one : RouteInputs). members_by one.roster.sessions entry.reached) inputs)
            ∙ members_bare state.roster.sessions entry.reached
            ∙ sound.value (record {
              seated = session_was entry.speaker (record { 0 = slot }) second stands.seated;
              routing = omega (arith, routings, first, routing_is);
            })
            ∙ route_is_of_its_inputs_lem state later entry.speaker target inputs;
      }

pub sound_stays_lem : SoundStays
sound_stays_lem state edits caches proper fit sound = record {
  perms = λ slot place within inside used.
      perm_stays state edits proper fit slot place (perm_at caches.perms slot place) within (sound.perms slot place within inside used);
  routes = λ slot target within inside used.
      route_stays state edits proper fit slot target (route_entry_at caches.routes slot target) (sound.routes slot target within inside used);
}

-- ---- where nothing is kept

same_everywhere : {X : Type 0} (n i : ℕ) (x : X) → get_or (replicate n x) i x ≡ x
same_everywhere zero i x = refl
same_everywhere (suc n) zero x = refl
same_everywhere (suc n) (suc i) x = same_everywhere n i x

nothing_used : {X : Type 0} (n i : ℕ) (x : X) (used : X → Bool) → used x ≡ false → used (get_or (replicate n x) i x) ≡ true → ⊥
nothing_used n i x used none is = false≢true (sym none ∙ sym (ap used (same_everywhere n i x)) ∙ is)

pub nothing_is_sound_lem : NothingIsSound
unfolding no_perms no_routes
nothing_is_sound_lem state = record {
  perms = λ slot place within inside used.
      absurd (nothing_used (SLOTS * PLACES) (perm_index slot place) no_perm (λ entry. entry.used) refl used);
  routes = λ slot target within inside used.
      absurd (nothing_used (SLOTS * LOOPBACK) (route_index slot target) no_route (λ entry. entry.used) refl used);
}

pub nothing_sound : (state : StateValue) (caches : Caches) → caches.perms ≡ no_perms → caches.routes ≡ no_routes → AreSound state caches
nothing_sound state caches perms routes =
    let same : caches ≡ no_caches = λ i. record { perms = perms i; routes = routes i } in
    subst (λ (one : Caches). AreSound state one) (sym same) (nothing_is_sound_lem state)
