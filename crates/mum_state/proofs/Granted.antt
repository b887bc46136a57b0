-- What a session may do in a channel stays while the session is there and neither count rises.
use Rattle.mum_state.proofs.Common.{◌≡◌, ℕ, ◌+◌, ◌<◌, ◌≤◌, ◌==◌, ◌&&◌, ◌||◌, Bool, true, false, List, [], ◌∷◌, map, length, get_or, find, refl, sym, ap, subst, ◌∙◌, arith, Option, Some, None, if◌then◌else◌, option_map, and_parts, eq-eqb, eqb-true, not-false, or_parts, slice_get-get_or, SLOTS, ChannelId, SessionId, Slot, Actor, perm, is_there, path, Pair, TreeState, User, SlotsRise, session_of, has_number, is_in, slots_below_greatest, SlotsRise-within, Edit, led_to, applied, raised_where, renews, slot_count, empties, changes_paths, sets_tokens_of, PermissionsStand, actor_from, perm_of, IsProper, set_by, PolicyRow, StateValue, is_newcomer, is_renewed}
use Rattle.mum_state.proofs.{Counting.counts_never_fall_lem, Descent.Descends, Descent.applied_descends, Descent.set_descends, Each.Each, Each.each_any, Each.each_both, Each.each_fails, Each.each_find, Each.each_so, Each.found_passes, Each.shown, Numbers.last_rises, Raised.at_most_at, Raised.not_raised, Raised.raised_at, Seats.session_alone, Seats.session_known, Ways.AreGoverned, Ways.HasWays, Ways.edge, Ways.governed_where_proper, Ways.path_alike, Ways.there_alike, Ways.ways_stay}

-- ---- the session

-- it is as the first was, for all that policies ask of it
record IsAs (first user : User) : Type 0 where
  slot : user.slot ≡ first.slot
  account : user.account ≡ first.account
  tokens : user.tokens ≡ first.tokens
  channel : user.channel ≡ first.channel

abbrev IsAsFirst : User → User → Type 0
IsAsFirst first user = user.session.0 ≡ first.session.0 → IsAs first user

-- where it is now, and what tokens are set, is not said
record IsLike (edit : Edit) (first user : User) : Type 0 where
  slot : user.slot ≡ first.slot
  account : user.account ≡ first.account
  tokens : sets_tokens_of edit user ≡ false → user.tokens ≡ first.tokens

abbrev IsLikeFirst : Edit → User → User → Type 0
IsLikeFirst edit first user = user.session.0 ≡ first.session.0 → IsLike edit first user

like_descends : (first : User) (edit : Edit) (last : ℕ) → first.session.0 ≤ last → Descends edit last (IsAsFirst first) (IsLikeFirst edit first)
like_descends first edit last known = record {
  stays = λ was now same same_as is.
      let before : IsAs first was = same_as (ap (λ (s : SessionId). s.0) (sym same.session) ∙ is) in
      record {
        slot = same.slot ∙ before.slot;
        account = same.account ∙ before.account;
        tokens = λ kept. same.tokens kept ∙ before.tokens;
      };
  joins = λ now above is. absurd (omega (arith, known, above, is));
}

-- the slot's count is not raised for it
abbrev IsUnraised : List User → Edit → ℕ → User → Type 0
IsUnraised before edit slot user = ((user.slot.0 == slot) && is_renewed before edit user) ≡ false

and_then : (a b : Bool) → (a && b) ≡ false → a ≡ true → b ≡ false
and_then a b both first = sym (ap (λ (x : Bool). x && b) first) ∙ both

-- who was in this channel before, was in the first's
where_first : (first user : User) (before : List User) → user.session.0 ≡ first.session.0 → Each (IsAsFirst first) before → is_newcomer before user ≡ false → user.channel ≡ first.channel
where_first first user before is all old =
    each_any (IsAsFirst first) (user.channel ≡ first.channel) (λ was. has_number user.session was && is_in user.channel was)
    (λ was same_as passes.
    let (number, place) = and_parts (has_number user.session was) (is_in user.channel was) passes in
    let here : was.channel ≡ user.channel = ap (λ n. record { 0 = n }) (eqb-true was.channel.0 user.channel.0 place) in
    sym here ∙ (same_as (eqb-true was.session.0 user.session.0 number ∙ is)).channel)
    before all (not-false _ old)

as_before : (first : User) (before : List User) (edit : Edit) → Each (IsAsFirst first) before → (user : User)
    → IsLikeFirst edit first user → IsUnraised before edit first.slot.0 user → IsAsFirst first user
as_before first before edit all user likely unraised is =
    let like : IsLike edit first user = likely is in
    let here : (user.slot.0 == first.slot.0) ≡ true = eq-eqb _ _ (ap (λ (s : Slot). s.0) like.slot) in
    let (old, kept) = or_parts (is_newcomer before user) (sets_tokens_of edit user) (and_then _ _ unraised here) in
    record { slot = like.slot; account = like.account; tokens = like.tokens kept; channel = where_first first user before is all old }

as_unheard : (first user : User) (on : Bool) → IsAsFirst first user → IsAsFirst first (record user { suppress = on })
as_unheard first user on same_as is = let same : IsAs first user = same_as is in record { slot = same.slot; account = same.account; tokens = same.tokens; channel = same.channel }

as_stays : (first : User) (state : StateValue) (edit : Edit) → first.session.0 ≤ state.roster.last → renews state edit first.slot.0 ≡ false
    → Each (IsAsFirst first) state.roster.sessions → Each (IsAsFirst first) (applied state edit).roster.sessions
as_stays first state edit known still all =
    applied_descends (IsAsFirst first) (as_unheard first) state edit
    (each_both (IsLikeFirst edit first) (IsUnraised state.roster.sessions edit first.slot.0) (IsAsFirst first)
    (as_before first state.roster.sessions edit all) (set_by state edit).roster.sessions
    (set_descends state (IsAsFirst first) (IsLikeFirst edit first) all edit (like_descends first edit state.roster.last known))
    (each_fails (λ user. (user.slot.0 == first.slot.0) && is_renewed state.roster.sessions edit user) (set_by state edit).roster.sessions still))

as_itself : (first user : User) → user ≡ first → IsAs first user
as_itself first user same = record {
  slot = ap (λ (u : User). u.slot) same;
  account = ap (λ (u : User). u.account) same;
  tokens = ap (λ (u : User). u.tokens) same;
  channel = ap (λ (u : User). u.channel) same;
}

-- ---- all edits

module _ (first : User) (edges : List Pair) (policies : List PolicyRow) (count : ℕ) (governed : AreGoverned edges policies) where
  -- the session is as it was, and so are the ways, the policies and the slot's count
  record Stands (state : StateValue) : Type 0 where
    known : first.session.0 ≤ state.roster.last
    users : Each (IsAsFirst first) state.roster.sessions
    ways : HasWays edges policies state.tree.channels state.policies
    counted : slot_count state first.slot ≡ Some count

  stands_by_one : (state : StateValue) (edit : Edit) → (changes_paths edit || empties state (set_by state edit)) ≡ false → renews state edit first.slot.0 ≡ false
      → slot_count (applied state edit) first.slot ≡ Some count → Stands state → Stands (applied state edit)
  stands_by_one state edit quiet still counted stands =
      let (paths, emptied) = or_parts (changes_paths edit) (empties state (set_by state edit)) quiet in
      let known : first.session.0 ≤ state.roster.last = stands.known in
      let rises : state.roster.last ≤ (applied state edit).roster.last = last_rises state edit in
      record {
        known = omega (arith, known, rises);
        users = as_stays first state edit known still stands.users;
        ways = ways_stay edges policies governed state edit paths emptied stands.ways;
        counted = counted;
      }

  stands_after : (state : StateValue) (edits : List Edit) → Stands state → state.counts.policy ≡ (led_to state edits).counts.policy
      → slot_count (led_to state edits) first.slot ≡ Some count → Stands (led_to state edits)
  stands_after state [] stands policy last = stands
  stands_after state (edit ∷ edits) stands policy last =
      let on = counts_never_fall_lem (applied state edit) edits in
      let most : raised_where (changes_paths edit || empties state (set_by state edit)) state.counts.policy ≤ (led_to (applied state edit) edits).counts.policy = on.policy in
      let quiet : (changes_paths edit || empties state (set_by state edit)) ≡ false = not_raised _ state.counts.policy (omega (arith, most, policy)) in
      let here : slot_count (applied state edit) first.slot ≡ Some (raised_where (renews state edit first.slot.0) count) =
      raised_at (renews state edit) 0 state.counts.slots first.slot.0 first.slot.0 count (omega arith) stands.counted in
      let still : renews state edit first.slot.0 ≡ false =
      not_raised _ count (at_most_at _ _ first.slot.0 _ count on.slots here last) in
      stands_after (applied state edit) edits
      (stands_by_one state edit quiet still (here ∙ ap (λ (b : Bool). Some (raised_where b count)) still) stands)
      (ap (λ (b : Bool). raised_where b state.counts.policy) quiet ∙ policy) last

-- ---- what it may do

granted_by : List PolicyRow → List ChannelId → Bool → Option Actor → Option ℕ
granted_by policies way there who =
    option_map (λ one. perm (λ id. option_map (λ row. row.policy) (find (λ row. row.channel.0 == id.0) policies)) way one) (if there then who else None)

-- the channels above its own are the same where the ways are
actor_as : (tree later : TreeState) (first user : User) → map edge tree.channels ≡ map edge later.channels → IsAs first user → actor_from tree first ≡ actor_from later user
actor_as tree later first user ways same_as =
    let homes : path later.channels user.channel ≡ path tree.channels first.channel =
    ap (path later.channels) same_as.channel ∙ sym (path_alike tree.channels later.channels first.channel ways) in
    sym (λ i. record { account = same_as.account i; channel = same_as.channel i; tokens = same_as.tokens i; home = homes i })

perm_alike : (state later : StateValue) (session : SessionId) (channel : ChannelId) → state.policies ≡ later.policies
    → path state.tree.channels channel ≡ path later.tree.channels channel → is_there state.tree.channels channel ≡ is_there later.tree.channels channel
    → option_map (actor_from state.tree) (session_of state.roster session) ≡ option_map (actor_from later.tree) (session_of later.roster session)
    → perm_of state session channel ≡ perm_of later session channel
unfolding granted_by
perm_alike state later session channel policies way there who = λ i. granted_by (policies i) (way i) (there i) (who i)

-- a slot that is had is counted
slot_within : (limit low : ℕ) (users : List User) → SlotsRise limit low users → Each (λ user. user.slot.0 < limit) users
slot_within limit low [] rise = tt
slot_within limit low (user ∷ users) rise =
    (omega (arith, SlotsRise-within limit (user.slot.0 + 1) users rise.1), slot_within limit (user.slot.0 + 1) users rise.1)

slot_counted : (state : StateValue) (session : SessionId) (user : User) → IsProper state → session_of state.roster session ≡ Some user
    → slot_count state user.slot ≡ Some (get_or state.counts.slots user.slot.0 0)
slot_counted state session user proper found =
    let (within, is) = each_find (λ user. user.slot.0 < SLOTS) (has_number session) state.roster.sessions user
    (slot_within SLOTS 0 state.roster.sessions (slots_below_greatest state.roster proper.roster)) found in
    let one_each : length state.counts.slots ≡ SLOTS = proper.counts.one_each in
    slice_get-get_or state.counts.slots user.slot.0 0 (omega (arith, within, one_each))

pub permissions_stand_lem : PermissionsStand
permissions_stand_lem state edits session slot channel proper fit here there policy counts =
    let (first, found, at) = shown (λ (user : User). user.slot) (session_of state.roster session) slot here in
    let (now, again, also) = shown (λ (user : User). user.slot) (session_of (led_to state edits).roster session) slot there in
    let number : first.session.0 ≡ session.0 = eqb-true _ _ (found_passes (has_number session) state.roster.sessions first found) in
    let known : session.0 ≤ state.roster.last = session_known state session first proper found in
    let users : Each (IsAsFirst first) state.roster.sessions =
    each_so (λ other. has_number session other ≡ true → other ≡ first) (IsAsFirst first)
    (λ other alone is. as_itself first other (alone (eq-eqb _ _ (is ∙ number)))) state.roster.sessions (session_alone state session first proper found) in
    let counted = slot_counted state session first proper found in
    let last : slot_count state first.slot ≡ slot_count (led_to state edits) first.slot =
    subst (λ (s : Slot). slot_count state s ≡ slot_count (led_to state edits) s) (sym at) counts in
    let stands : Stands first (map edge state.tree.channels) state.policies _ (governed_where_proper state proper) (led_to state edits) =
    stands_after first (map edge state.tree.channels) state.policies _ (governed_where_proper state proper) state edits
    (record { known = omega (arith, known, number); users = users; ways = record { ways = refl; rules = refl }; counted = counted })
    policy (sym last ∙ counted) in
    let (same_as, passes) = each_find (IsAsFirst first) (has_number session) (led_to state edits).roster.sessions now stands.users again in
    let ways : map edge state.tree.channels ≡ map edge (led_to state edits).tree.channels = sym stands.ways.ways in
    perm_alike state (led_to state edits) session channel (sym stands.ways.rules)
    (path_alike state.tree.channels (led_to state edits).tree.channels channel ways)
    (there_alike state.tree.channels (led_to state edits).tree.channels channel ways)
    (ap (option_map (actor_from state.tree)) found
    ∙ ap (λ (one : Actor). Some one) (actor_as state.tree (led_to state edits).tree first now ways (same_as (eqb-true _ _ passes ∙ sym number)))
    ∙ sym (ap (option_map (actor_from (led_to state edits).tree)) again))
