-- Sessions that are alike may do the same; and marks of sessions by their slots.
use Rattle.mum_state.proofs.Common.{◌≡◌, ℕ, zero, suc, ◌+◌, ◌<◌, ◌≤◌, ◌==◌, ◌&&◌, ◌||◌, not, Bool, true, false, cond, List, [], ◌∷◌, length, get_or, take, refl, sym, ap, ◌∙◌, arith, Option, Some, None, is_none, list_all, list_any, position, and_parts, eq-eqb, eqb-true, ne_eqb, take_all, AccountId, ChannelId, SLOTS, SPEAK, holds, is_there, path, Placement, User, with_placement, with_placements, SlotsRise, find-found, present_from, Renewed, ChannelsState, channels_of, granted_in, speaks_where_in, may_speak, heard_again, are_alike, is_heard, is_plain, is_speaker, StateValue, heard_anew}
use Rattle.mum_state.proofs.{Each.found_passes, Givens.none_is, Listed.all_at, Members.map_agree, Members.or_false}

-- ---- sessions that are alike

-- what a session of this account, in this channel and with these tokens may do
abbrev speaks_as : ChannelsState → Option AccountId → ChannelId → List (List ℕ) → Bool
speaks_as channels account channel tokens =
    cond (is_there channels.tree.channels channel)
    (holds (granted_in channels (record { account = account; channel = channel; tokens = tokens; home = path channels.tree.channels channel }) channel) SPEAK.0) false

no_tokens : (tokens : List (List ℕ)) → (length tokens == 0) ≡ true → tokens ≡ []
no_tokens [] none = refl
no_tokens (token ∷ tokens) none = absurd (let same = eqb-true (length (token ∷ tokens)) 0 none in omega (arith, same))

pub alike_speak : (channels : ChannelsState) (user other : User) → are_alike user other ≡ true → speaks_where_in channels other ≡ speaks_where_in channels user
alike_speak channels user other alike =
    let parts = and_parts (is_plain user && is_plain other) (user.channel.0 == other.channel.0) alike in
    let plain = and_parts (is_plain user) (is_plain other) parts.0 in
    let own = plain_parts user plain.0 in
    let others = plain_parts other plain.1 in
    let channel : other.channel ≡ user.channel = ap (λ (k : ℕ). record { 0 = k }) (sym (eqb-true _ _ parts.1)) in
    ap (λ (account : Option AccountId). speaks_as channels account other.channel other.tokens) (others.0 ∙ sym own.0)
    ∙ ap (λ (tokens : List (List ℕ)). speaks_as channels user.account other.channel tokens) (others.1 ∙ sym own.1)
    ∙ ap (λ (id : ChannelId). speaks_as channels user.account id user.tokens) channel
  where
    plain_parts : (one : User) → is_plain one ≡ true → (one.account ≡ None) × (one.tokens ≡ [])
    plain_parts one plain = let parts = and_parts (is_none one.account) (length one.tokens == 0) plain in (none_is one.account parts.0, no_tokens one.tokens parts.1)

-- ---- marks by slots

pub same_row : (users : List User) (k : ℕ) (d e : User) → k < length users → get_or users k d ≡ get_or users k e
same_row [] k d e within = absurd (omega arith)
same_row (user ∷ users) zero d e within = refl
same_row (user ∷ users) (suc k) d e within = same_row users k d e (omega arith)

slots_from : (limit low : ℕ) (users : List User) → SlotsRise limit low users → (k : ℕ) (d : User) → k < length users → low ≤ (get_or users k d).slot.0
slots_from limit low [] rise k d within = absurd (omega arith)
slots_from limit low (user ∷ users) rise zero d within = rise.0
slots_from limit low (user ∷ users) rise (suc k) d within =
    let here : low ≤ user.slot.0 = rise.0 in
    let later : user.slot.0 + 1 ≤ (get_or users k d).slot.0 = slots_from limit (user.slot.0 + 1) users rise.1 k d (omega arith) in
    omega arith

none_under : (limit low slot : ℕ) (p : User → Bool) (users : List User) (i : ℕ) → SlotsRise limit low users → slot < low → list_any (λ user. (user.slot.0 == slot) && p user) (take i users) ≡ false
none_under limit low slot p users zero rise under = refl
none_under limit low slot p [] (suc i) rise under = refl
none_under limit low slot p (user ∷ users) (suc i) rise under =
    let here : low ≤ user.slot.0 = rise.0 in
    ap (λ (b : Bool). b && p user || list_any (λ (one : User). (one.slot.0 == slot) && p one) (take i users)) (ne_eqb user.slot.0 slot (λ same. omega (arith, same)))
    ∙ none_under limit (user.slot.0 + 1) slot p users i rise.1 (omega arith)

-- the mark of a session is its own
pub own_mark : (limit low : ℕ) (p : User → Bool) (users : List User) (i k : ℕ) (d : User) → SlotsRise limit low users → k < i → k < length users
    → list_any (λ user. (user.slot.0 == (get_or users k d).slot.0) && p user) (take i users) ≡ p (get_or users k d)
own_mark limit low p [] i k d rise before within = absurd (omega arith)
own_mark limit low p (user ∷ users) zero k d rise before within = absurd (omega arith)
own_mark limit low p (user ∷ users) (suc i) zero d rise before within =
    ap (λ (b : Bool). b && p user || list_any (λ (one : User). (one.slot.0 == user.slot.0) && p one) (take i users)) (eq-eqb user.slot.0 user.slot.0 refl)
    ∙ ap (λ (b : Bool). p user || b) (none_under limit (user.slot.0 + 1) user.slot.0 p users i rise.1 (omega arith))
    ∙ or_false (p user)
own_mark limit low p (user ∷ users) (suc i) (suc k) d rise before within =
    let far : user.slot.0 + 1 ≤ (get_or users k d).slot.0 = slots_from limit (user.slot.0 + 1) users rise.1 k d (omega arith) in
    ap (λ (b : Bool). b && p user || list_any (λ (one : User). (one.slot.0 == (get_or users k d).slot.0) && p one) (take i users)) (ne_eqb user.slot.0 (get_or users k d).slot.0 (λ same. omega (arith, same)))
    ∙ own_mark limit (user.slot.0 + 1) p users i k d rise.1 (omega arith) (omega arith)

-- a mark of one before that is like it
pub speaks_alike : (renewed : Renewed) (all : Bool) (channels : ChannelsState) (users : List User) (marks : List Bool) (place first : ℕ) (user d : User) → SlotsRise SLOTS 0 users
    → ((slot : ℕ) → get_or marks slot false ≡ list_any (λ one. (one.slot.0 == slot) && is_speaker renewed all channels one) (take place users))
    → Some first ≡ position (λ other. are_alike user other && is_heard renewed all other) users → first < place
    → get_or marks (get_or users first d).slot.0 false ≡ speaks_where_in channels user
speaks_alike renewed all channels users marks place first user d rise so_far found before =
    let p : User → Bool = λ other. are_alike user other && is_heard renewed all other in
    let spot = present_from p users first found in
    let passes : p (get_or users first d) ≡ true = found_passes p users (get_or users first d) (find-found p users first d found) in
    let parts = and_parts (are_alike user (get_or users first d)) (is_heard renewed all (get_or users first d)) passes in
    so_far (get_or users first d).slot.0
    ∙ own_mark SLOTS 0 (is_speaker renewed all channels) users place first d rise before (omega (arith, spot.first, spot.within))
    ∙ ap (λ (b : Bool). b && speaks_where_in channels (get_or users first d)) parts.1
    ∙ alike_speak channels user (get_or users first d) parts.0

-- ---- all that are heard

-- where these marks place each session
abbrev pub marked_seat : Renewed → Bool → List Bool → User → Placement
marked_seat renewed all marks user = record {
  channel = user.channel;
  suppress = (cond (is_heard renewed all user) (not (get_or marks user.slot.0 false)) user.suppress);
}

pub marked_seats : (renewed : Renewed) (all : Bool) (marks : List Bool) (state : StateValue) → SlotsRise SLOTS 0 state.roster.sessions
    → list_all (λ user. is_there state.tree.channels user.channel) state.roster.sessions ≡ true
    → ((slot : ℕ) → get_or marks slot false ≡ list_any (λ user. (user.slot.0 == slot) && is_speaker renewed all (channels_of state) user) state.roster.sessions)
    → with_placements (marked_seat renewed all marks) state.roster ≡ (heard_again renewed all state).roster
marked_seats renewed all marks state rise inside marked =
    ap (λ (users : List User). record state.roster { sessions = users })
    (map_agree (with_placement (marked_seat renewed all marks)) (λ user. cond (is_heard renewed all user) (heard_anew state user) user) state.roster.sessions
    (λ k d within.
    let user : User = get_or state.roster.sessions k d in
    by user (is_heard renewed all user) (all_at (λ one. is_there state.tree.channels one.channel) state.roster.sessions inside k d within) (get_or marks user.slot.0 false) (own k d within)))
  where
    own : (k : ℕ) (d : User) → k < length state.roster.sessions
        → get_or marks (get_or state.roster.sessions k d).slot.0 false ≡ is_speaker renewed all (channels_of state) (get_or state.roster.sessions k d)
    own k d within =
        let slot : ℕ = (get_or state.roster.sessions k d).slot.0 in
        marked slot
        ∙ ap (λ (users : List User). list_any (λ user. (user.slot.0 == slot) && is_speaker renewed all (channels_of state) user) users) (sym (take_all (length state.roster.sessions) state.roster.sessions (omega arith)))
        ∙ own_mark SLOTS 0 (is_speaker renewed all (channels_of state)) state.roster.sessions (length state.roster.sessions) k d rise within within

    by : (user : User) (b : Bool) → is_there state.tree.channels user.channel ≡ true → (mark : Bool) → mark ≡ (b && speaks_where_in (channels_of state) user)
        → record user { channel = user.channel; suppress = (cond b (not mark) user.suppress) } ≡ cond b (heard_anew state user) user
    by user true there mark is =
        ap (λ (b : Bool). record user { suppress = not b }) (is ∙ ap (λ (b : Bool). cond b (may_speak state user) false) there)
    by user false there mark is = refl
