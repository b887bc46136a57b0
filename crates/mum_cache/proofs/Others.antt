-- An answer that is kept takes no entry of others that are there.
use Rattle.mum_cache.proofs.Common.{◌≡◌, ℕ, ◌+◌, ◌<◌, ◌≤◌, Bool, true, false, cond, List, [], ◌∷◌, get_or, refl, sym, ap, subst, ◌∙◌, arith, Option, Some, is_some, inl, inr, ◌&&◌, find, option_map, option_map_or, and_parts, cases_eq, eq-eqb, eqb-true, get_or-set_other, same_Some, ChannelId, SessionId, Slot, Row, is_there, row_of, root_row, User, SlotsRise, session_of, has_number, HasPlace, IsInSlot, IsProper, StateValue, found_passes, one_row, row_at, slot_below, AnswersWhereItStands, OtherPermsStay, OtherRoutesStay, RoutesAnswerWhereTheyStand, index_of, no_perm, perm_at, perm_index, place_of, slot_of, no_route, route_entry_at, route_index, route_index_of}
use Rattle.mum_cache.proofs.Staying.{one_of}

-- ---- who is in a slot

slot_above : (limit low : ℕ) (users : List User) (p : User → Bool) (user : User) → SlotsRise limit low users → find p users ≡ Some user → low ≤ user.slot.0
slot_above limit low [] p user rise found = absurd (cc)
slot_above limit low (x ∷ users) p user rise found = by_first (p x) found (slot_above limit (x.slot.0 + 1) users p user rise.1)
  where
    by_first : (b : Bool) → cond b (Some x) (find p users) ≡ Some user → (find p users ≡ Some user → x.slot.0 + 1 ≤ user.slot.0) → low ≤ user.slot.0
    by_first true here later = subst (λ (u : User). low ≤ u.slot.0) (same_Some _ _ here) rise.0
    by_first false there later = let above = later there in let first : low ≤ x.slot.0 = rise.0 in omega (arith, above, first)

one_seat : (limit low : ℕ) (users : List User) (p q : User → Bool) (user other : User) → SlotsRise limit low users
    → find p users ≡ Some user → find q users ≡ Some other → user.slot.0 ≡ other.slot.0 → user ≡ other
one_seat limit low [] p q user other rise found also same = absurd (cc)
one_seat limit low (x ∷ users) p q user other rise found also same = by_first (p x) (q x) found also (λ one two. one_seat limit (x.slot.0 + 1) users p q user other rise.1 one two same)
  where
    by_first : (b c : Bool) → cond b (Some x) (find p users) ≡ Some user → cond c (Some x) (find q users) ≡ Some other
        → (find p users ≡ Some user → find q users ≡ Some other → user ≡ other) → user ≡ other
    by_first true true one two later = sym (same_Some _ _ one) ∙ same_Some _ _ two
    by_first true false one two later =
        let here : x.slot.0 ≡ user.slot.0 = ap (λ (u : User). u.slot.0) (same_Some _ _ one) in
        let above : x.slot.0 + 1 ≤ other.slot.0 = slot_above limit (x.slot.0 + 1) users q other rise.1 two in
        absurd (omega (arith, here, above, same))
    by_first false true one two later =
        let here : x.slot.0 ≡ other.slot.0 = ap (λ (u : User). u.slot.0) (same_Some _ _ two) in
        let above : x.slot.0 + 1 ≤ user.slot.0 = slot_above limit (x.slot.0 + 1) users p user rise.1 one in
        absurd (omega (arith, here, above, same))
    by_first false false one two later = later one two

-- a session that is there is in its slot
pub is_seated : (state : StateValue) (session : SessionId) (user : User) → session_of state.roster session ≡ Some user → IsInSlot state session user.slot
is_seated state session user found = ap (option_map (λ (one : User). one.slot)) found

pub slot_is : (state : StateValue) (session : SessionId) (user : User) → session_of state.roster session ≡ Some user → slot_of state session ≡ user.slot.0
slot_is state session user found = ap (λ (o : Option User). option_map_or (λ (one : User). one.slot.0) o 0) found

pub number_is : (state : StateValue) (session : SessionId) (user : User) → session_of state.roster session ≡ Some user → user.session ≡ session
number_is state session user found = ap (λ n. record { 0 = n }) (eqb-true _ _ (found_passes (has_number session) state.roster.sessions user found))

-- two that are there and have one slot are one
pub one_session : (state : StateValue) (session other : SessionId) → IsProper state → is_some (session_of state.roster session) ≡ true
    → is_some (session_of state.roster other) ≡ true → slot_of state session ≡ slot_of state other → session ≡ other
one_session state session other proper there also same =
    let (user, found) = one_of (session_of state.roster session) there in
    let (second, known) = one_of (session_of state.roster other) also in
    let one : user ≡ second = one_seat state.roster.limit 0 state.roster.sessions (has_number session) (has_number other) user second proper.roster.slots found known
    (sym (slot_is state session user found) ∙ same ∙ slot_is state other second known) in
    sym (number_is state session user found) ∙ ap (λ (u : User). u.session) one ∙ number_is state other second known

-- ---- which channel has a place

pub is_placed : (state : StateValue) (channel : ChannelId) (row : Row) → row_of state.tree.channels channel ≡ Some row → HasPlace state channel row.place
is_placed state channel row found = ap (option_map (λ (one : Row). one.place)) found

pub place_is : (state : StateValue) (channel : ChannelId) (row : Row) → row_of state.tree.channels channel ≡ Some row → place_of state channel ≡ row.place
place_is state channel row found = ap (λ (o : Option Row). option_map_or (λ (one : Row). one.place) o 0) found

pub one_channel : (state : StateValue) (channel other : ChannelId) → IsProper state → is_there state.tree.channels channel ≡ true
    → is_there state.tree.channels other ≡ true → place_of state channel ≡ place_of state other → channel ≡ other
one_channel state channel other proper there also same =
    let rows = state.tree.channels in
    let (row, found) = one_of (row_of state.tree.channels channel) there in
    let (second, known) = one_of (row_of state.tree.channels other) also in
    let (at, is) = row_at state.tree.channels channel row.place (is_placed state channel row found) in
    let (to, so) = row_at state.tree.channels other second.place (is_placed state other second known) in
    let one : at ≡ to = one_row state.tree.channels at to root_row proper.tree.places_apart is.within so.within
    (is.placed root_row ∙ sym (place_is state channel row found) ∙ same ∙ place_is state other second known ∙ sym (so.placed root_row)) in
    sym (is.same root_row) ∙ ap (λ (i : ℕ). (get_or rows i root_row).channel.id) one ∙ so.same root_row

-- ---- others stay

pub other_perms_stay_lem : OtherPermsStay
other_perms_stay_lem state entries session channel new slot place proper sound asked within inside used there apart =
    let entry = perm_at entries slot place in
    let right = sound slot place within inside used in
    let (user, found) = one_of (session_of state.roster entry.session) there.session_there in
    let (row, known) = one_of (row_of state.tree.channels entry.channel) there.channel_there in
    let seat : user.slot.0 ≡ slot = right.seated user.slot (is_seated state entry.session user found) in
    let spot : row.place ≡ place = right.placed row.place (is_placed state entry.channel row known) in
    let (asker, known_too) = one_of (session_of state.roster session) asked.session_there in
    let near : asker.slot.0 < 512 = slot_below state.roster session asker proper.roster known_too in
    let placed : slot_of state session ≡ asker.slot.0 = slot_is state session asker known_too in
    elim (cases_eq (index_of state session channel) (perm_index slot place)) [
      | inl same ↦
          let slots : slot_of state entry.session ≡ slot_of state session = slot_is state entry.session user found ∙ seat ∙ omega (arith, same, within, near, placed) in
          let places : place_of state entry.channel ≡ place_of state channel = place_is state entry.channel row known ∙ spot ∙ omega (arith, same, within, near, placed) in
          absurd (apart (one_session state entry.session session proper there.session_there asked.session_there slots)
          (one_channel state entry.channel channel proper there.channel_there asked.channel_there places))
      | inr off ↦ get_or-set_other entries (index_of state session channel) (perm_index slot place) new no_perm (λ is. off (sym is))
    ]

pub other_routes_stay_lem : OtherRoutesStay
other_routes_stay_lem state entries speaker target new slot other proper sound asked aimed within inside used there apart =
    let entry = route_entry_at entries slot other in
    let right = sound slot other within inside used in
    let (user, found) = one_of (session_of state.roster entry.speaker) there in
    let seat : user.slot.0 ≡ slot = right.seated user.slot (is_seated state entry.speaker user found) in
    let (own, here) = one_of (session_of state.roster speaker) asked in
    let near : own.slot.0 < 512 = slot_below state.roster speaker own proper.roster here in
    let placed : slot_of state speaker ≡ own.slot.0 = slot_is state speaker own here in
    elim (cases_eq (route_index_of state speaker target) (route_index slot other)) [
      | inl same ↦
          let slots : slot_of state entry.speaker ≡ slot_of state speaker = slot_is state entry.speaker user found ∙ seat ∙ omega (arith, same, within, near, placed) in
          absurd (apart (one_session state entry.speaker speaker proper there asked slots) (omega (arith, same, within, near, placed)))
      | inr off ↦ get_or-set_other entries (route_index_of state speaker target) (route_index slot other) new no_route (λ is. off (sym is))
    ]

-- ---- what is valid

abbrev pub slot_at : ℕ → Slot
slot_at n = record { 0 = n }

abbrev all_of : Bool → Bool → Bool → Bool → Bool → Bool
all_of a b c d e = a && b && c && d && e

pub answers_where_it_stands_lem : AnswersWhereItStands
answers_where_it_stands_lem state entry used there =
    let (user, found) = one_of (session_of state.roster entry.session) there.session_there in (
      λ is.
          let (first, count) = and_parts _ _ is in
          let (second, policy) = and_parts _ _ first in
          record {
            seated = is_seated state entry.session user found ∙ ap (λ (n : ℕ). Some (slot_at n)) (sym (slot_is state entry.session user found));
            there = there.channel_there;
            policy = eqb-true _ _ policy;
            count = eqb-true _ _ count;
          },
      λ stands. λ i. all_of (used i) (eq-eqb entry.session.0 entry.session.0 refl i) (eq-eqb entry.channel.0 entry.channel.0 refl i) (eq-eqb _ _ stands.policy i) (eq-eqb _ _ stands.count i),
    )

pub routes_answer_where_they_stand_lem : RoutesAnswerWhereTheyStand
routes_answer_where_they_stand_lem state speaker target entries there aimed used is =
    let (user, found) = one_of (session_of state.roster speaker) there in
    let seat : IsInSlot state speaker (slot_at (slot_of state speaker)) =
    is_seated state speaker user found ∙ ap (λ (n : ℕ). Some (slot_at n)) (sym (slot_is state speaker user found)) in (
      (λ answers. record { seated = subst (λ (s : SessionId). IsInSlot state s (slot_at (slot_of state speaker))) (sym is) seat; routing = answers.routing }),
      (λ stands. record { there = there; aimed = aimed; used = used; speaker_is = is; routing = stands.routing }),
    )
