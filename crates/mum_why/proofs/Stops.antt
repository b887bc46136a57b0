-- Where aims stop on their ways to a session, and the first way that stops just there.
use Rattle.mum_why.proofs.Common.{◌≡◌, ◌∙◌, ℕ, zero, suc, ◌+◌, ◌<◌, ◌&&◌, Bool, true, false, not, cond, eqb, List, [], ◌∷◌, Option, Some, None, refl, sym, ap, subst, arith, find, Contains, slice_get, option_map, option_or, eq-eqb, eqb-true, false≢true, none-some, same_Some, ChannelId, SessionId, LISTEN, contains_later, contains_filtered, none_contained, ListenerPair, User, pairs_of, is_of_session, StateValue, shown, is_in_group, may, kept_from, Stop, Arrives, Elsewhere, LacksListen, LacksPermission, NoMember, Aimed, channel_where, level, spreads_over, stop_of, stops, way_from, IsListened}

-- ---- one stop

-- the stop at the first of these tests that fails
abbrev pub stop_by : Bool → Bool → Bool → Bool → Bool → Stop
stop_by spreads allowed grouped listens heard =
    cond (not spreads) Elsewhere (cond (not allowed) LacksPermission (cond (not grouped) NoMember (cond (listens && not heard) LacksListen Arrives)))

-- what the tests are then
abbrev pub Tested : Bool → Bool → Bool → Bool → Bool → Stop → Type 0
Tested spreads allowed grouped listens heard Elsewhere = spreads ≡ false
Tested spreads allowed grouped listens heard LacksPermission = (spreads ≡ true) × (allowed ≡ false)
Tested spreads allowed grouped listens heard NoMember = (spreads ≡ true) × (allowed ≡ true) × (grouped ≡ false)
Tested spreads allowed grouped listens heard LacksListen =
    (spreads ≡ true) × (allowed ≡ true) × (grouped ≡ true) × (listens ≡ true) × (heard ≡ false)
Tested spreads allowed grouped listens heard Arrives =
    (spreads ≡ true) × (allowed ≡ true) × (grouped ≡ true) × ((listens && not heard) ≡ false)

tested_by : (a b c d e : Bool) → Tested a b c d e (stop_by a b c d e)
tested_by false b c d e = refl
tested_by true false c d e = (refl, refl)
tested_by true true false d e = (refl, refl, refl)
tested_by true true true false e = (refl, refl, refl, refl)
tested_by true true true true false = (refl, refl, refl, refl, refl)
tested_by true true true true true = (refl, refl, refl, refl)

stopped_by : (stop : Stop) (a b c d e : Bool) → Tested a b c d e stop → stop_by a b c d e ≡ stop
stopped_by Elsewhere a b c d e off = ap (λ t. stop_by t b c d e) off
stopped_by LacksPermission a b c d e (on, off) = ap (λ t. stop_by t b c d e) on ∙ ap (λ t. stop_by true t c d e) off
stopped_by NoMember a b c d e (on, may_, off) =
    ap (λ t. stop_by t b c d e) on ∙ ap (λ t. stop_by true t c d e) may_ ∙ ap (λ t. stop_by true true t d e) off
stopped_by LacksListen a b c d e (on, may_, in_, listens, off) =
    ap (λ t. stop_by t b c d e) on ∙ ap (λ t. stop_by true t c d e) may_ ∙ ap (λ t. stop_by true true t d e) in_
    ∙ ap (λ t. stop_by true true true t e) listens ∙ ap (λ t. stop_by true true true true t) off
stopped_by Arrives a b c d e (on, may_, in_, off) =
    ap (λ t. stop_by t b c d e) on ∙ ap (λ t. stop_by true t c d e) may_ ∙ ap (λ t. stop_by true true t d e) in_
    ∙ ap (λ t. cond t LacksListen Arrives) off

-- what holds of an aim that stops there on its way to a session in a channel
abbrev pub IsStop : StateValue → Aimed → User → Bool → ChannelId → Stop → Type 0
IsStop state aim user listens channel stop =
    Tested (spreads_over state.tree aim channel) (may state aim.speaker aim.permission channel) (is_in_group state aim.group channel user) listens
    (may state user.session LISTEN channel) stop

pub stop_is : (state : StateValue) (aim : Aimed) (user : User) (listens : Bool) (channel : ChannelId) (stop : Stop)
    → stop_of state aim user listens channel ≡ stop → IsStop state aim user listens channel stop
stop_is state aim user listens channel stop is =
    subst (IsStop state aim user listens channel) is
    (tested_by (spreads_over state.tree aim channel) (may state aim.speaker aim.permission channel) (is_in_group state aim.group channel user) listens (may state user.session LISTEN channel))

pub is_stop : (state : StateValue) (aim : Aimed) (user : User) (listens : Bool) (channel : ChannelId) (stop : Stop)
    → IsStop state aim user listens channel stop → stop_of state aim user listens channel ≡ stop
is_stop state aim user listens channel stop tested =
    stopped_by stop (spreads_over state.tree aim channel) (may state aim.speaker aim.permission channel) (is_in_group state aim.group channel user) listens
    (may state user.session LISTEN channel) tested

-- ---- one level is one stop

stop_at : ℕ → Stop
stop_at n = cond (eqb n 0) Elsewhere (cond (eqb n 1) LacksPermission (cond (eqb n 2) NoMember (cond (eqb n 3) LacksListen Arrives)))

at_level : (stop : Stop) → stop_at (level stop) ≡ stop
unfolding stop_at
at_level Elsewhere = refl
at_level LacksPermission = refl
at_level NoMember = refl
at_level LacksListen = refl
at_level Arrives = refl

same_stop : (a b : Stop) → eqb (level a) (level b) ≡ true → a ≡ b
same_stop a b same = sym (at_level a) ∙ ap stop_at (eqb-true (level a) (level b) same) ∙ at_level b

one_level : (a b : Stop) → a ≡ b → eqb (level a) (level b) ≡ true
one_level a b same = eq-eqb (level a) (level b) (ap level same)

-- ---- the first that a list has

pub find_from : {X : Type 0} (p : X → Bool) (xs : List X) (x : X) → find p xs ≡ Some x → Contains xs x × (p x ≡ true)
find_from p [] x found = absurd (none-some x found)
find_from {X} p (y ∷ xs) x found = by_first (p y) refl found (find_from p xs x)
  where
    by_first : (b : Bool) → p y ≡ b → cond b (Some y) (find p xs) ≡ Some x → (find p xs ≡ Some x → Contains xs x × (p x ≡ true)) → Contains (y ∷ xs) x × (p x ≡ true)
    by_first true on found later = let same : y ≡ x = same_Some y x found in ((0, omega arith, same), ap p (sym same) ∙ on)
    by_first false off found later = let (has, on) = later found in (contains_later y x xs has, on)

find_none : {X : Type 0} (p : X → Bool) (xs : List X) (x : X) → find p xs ≡ None → Contains xs x → p x ≡ true → ⊥
find_none p [] x none has on = none_contained x has
find_none {X} p (y ∷ xs) x none has on = by_first (p y) refl none has (find_none p xs x)
  where
    by_first : (b : Bool) → p y ≡ b → cond b (Some y) (find p xs) ≡ None → Contains (y ∷ xs) x → (find p xs ≡ None → Contains xs x → p x ≡ true → ⊥) → ⊥
    by_first true here none has later = none-some y (sym none)
    by_first false off none (zero, within, is) later = false≢true (sym off ∙ ap p is ∙ on)
    by_first false off none (suc k, within, is) later = later none (k, omega arith, is) on

-- ---- the channel in which an aim stops just there

-- the channel is that of the session, or it listens to it
abbrev pub IsAt : StateValue → User → Bool → ChannelId → Type 0
IsAt state user true channel = IsListened state user channel
IsAt state user false channel = user.channel ≡ channel

here_found : (channel found : ChannelId) (b : Bool) → cond b (Some channel) None ≡ Some found → (channel ≡ found) × (b ≡ true)
here_found channel found true is = (same_Some channel found is, refl)
here_found channel found false is = absurd (none-some found is)

here_none : (channel : ChannelId) (b : Bool) → cond b (Some channel) None ≡ None → b ≡ true → ⊥
here_none channel true is on = none-some channel (sym is)
here_none channel false is on = false≢true on

mapped_none : {X Y : Type 0} (f : X → Y) (o : Option X) → option_map f o ≡ None → o ≡ None
mapped_none f None is = refl
mapped_none f (Some x) is = absurd (none-some (f x) (sym is))

pub channel_found : (state : StateValue) (aim : Aimed) (user : User) (listens : Bool) (wanted : Stop) (channel : ChannelId)
    → channel_where state aim user listens wanted ≡ Some channel → IsAt state user listens channel × (stop_of state aim user listens channel ≡ wanted)
channel_found state aim user true wanted channel is =
    let (pair, found, same) = shown (λ (pair : ListenerPair). pair.channel) (find (λ pair. stops state aim user true wanted pair.channel) (pairs_of state.roster user.session)) channel is in
    let (has, on) = find_from (λ (pair : ListenerPair). stops state aim user true wanted pair.channel) (pairs_of state.roster user.session) pair found in
    let (inside, own) = kept_from (is_of_session user.session) state.roster.listeners pair has in
    let number : pair.session ≡ user.session = ap (λ n. let one : SessionId = record { 0 = n } in one) (eqb-true pair.session.0 user.session.0 own) in
    let one : pair ≡ record { session = user.session; channel = channel } =
    ap (λ (s : SessionId). let p : ListenerPair = record { session = s; channel = pair.channel } in p) number
    ∙ ap (λ (c : ChannelId). let p : ListenerPair = record { session = user.session; channel = c } in p) same in (
      subst (Contains state.roster.listeners) one inside,
      same_stop (stop_of state aim user true channel) wanted (ap (stops state aim user true wanted) (sym same) ∙ on),
    )
channel_found state aim user false wanted channel is =
    let (same, on) = here_found user.channel channel (stops state aim user false wanted user.channel) is in
    (same, same_stop (stop_of state aim user false channel) wanted (ap (stops state aim user false wanted) (sym same) ∙ on))

pub channel_none : (state : StateValue) (aim : Aimed) (user : User) (listens : Bool) (wanted : Stop) (channel : ChannelId)
    → channel_where state aim user listens wanted ≡ None → IsAt state user listens channel → stop_of state aim user listens channel ≡ wanted → ⊥
channel_none state aim user true wanted channel none at stopped =
    let p : ListenerPair = record { session = user.session; channel = channel } in
    find_none (λ (pair : ListenerPair). stops state aim user true wanted pair.channel) (pairs_of state.roster user.session) p
    (mapped_none (λ (pair : ListenerPair). pair.channel) (find (λ pair. stops state aim user true wanted pair.channel) (pairs_of state.roster user.session)) none)
    (contains_filtered (is_of_session user.session) state.roster.listeners p at (eq-eqb user.session.0 user.session.0 refl))
    (one_level (stop_of state aim user true channel) wanted stopped)
channel_none state aim user false wanted channel none at stopped =
    here_none user.channel (stops state aim user false wanted user.channel) none
    (ap (stops state aim user false wanted) at ∙ one_level (stop_of state aim user false channel) wanted stopped)

-- ---- the first way that stops just there

-- one of these aims stops there, in such a channel
pub record IsWayOf (state : StateValue) (aims : List Aimed) (user : User) (listens : Bool) (wanted : Stop) (place : ℕ) (channel : ChannelId) : Type 0 where
  pub aim : Aimed
  pub there : slice_get aims place ≡ Some aim
  pub found : channel_where state aim user listens wanted ≡ Some channel

pub way_found : (state : StateValue) (user : User) (listens : Bool) (wanted : Stop) (from : ℕ) (aims : List Aimed) (way : ℕ × ChannelId)
    → way_from state user listens wanted from aims ≡ Some way
    → (place : ℕ) × (way.0 ≡ from + place) × IsWayOf state aims user listens wanted place way.1
unfolding way_from
way_found state user listens wanted from [] way is = absurd (none-some way is)
way_found state user listens wanted from (aim ∷ aims) way is =
    by_first (channel_where state aim user listens wanted) refl is (way_found state user listens wanted (from + 1) aims way)
  where
    by_first : (o : Option ChannelId) → channel_where state aim user listens wanted ≡ o
        → option_or (option_map (λ channel. (from, channel)) o) (way_from state user listens wanted (from + 1) aims) ≡ Some way
        → (way_from state user listens wanted (from + 1) aims ≡ Some way → (place : ℕ) × (way.0 ≡ from + 1 + place) × IsWayOf state aims user listens wanted place way.1)
        → (place : ℕ) × (way.0 ≡ from + place) × IsWayOf state (aim ∷ aims) user listens wanted place way.1
    by_first None none is later =
        let (place, at, w) = later is in
        (suc place, omega (arith, at), record { aim = w.aim; there = w.there; found = w.found })
    by_first (Some channel) here is later =
        let same : (from, channel) ≡ way = same_Some (from, channel) way is in (
          0,
          let first = ap (λ (w : ℕ × ChannelId). w.0) same in omega (arith, first),
          record { aim = aim; there = refl; found = here ∙ ap (λ (w : ℕ × ChannelId). Some w.1) same },
        )

pub way_none : (state : StateValue) (user : User) (listens : Bool) (wanted : Stop) (from : ℕ) (aims : List Aimed) (aim : Aimed)
    → way_from state user listens wanted from aims ≡ None → Contains aims aim → channel_where state aim user listens wanted ≡ None
unfolding way_from
way_none state user listens wanted from [] aim none has = absurd (none_contained aim has)
way_none state user listens wanted from (first ∷ aims) aim none has =
    by_first (channel_where state first user listens wanted) refl none has (way_none state user listens wanted (from + 1) aims aim)
  where
    by_first : (o : Option ChannelId) → channel_where state first user listens wanted ≡ o
        → option_or (option_map (λ channel. (from, channel)) o) (way_from state user listens wanted (from + 1) aims) ≡ None → Contains (first ∷ aims) aim
        → (way_from state user listens wanted (from + 1) aims ≡ None → Contains aims aim → channel_where state aim user listens wanted ≡ None)
        → channel_where state aim user listens wanted ≡ None
    by_first None here none (zero, within, is) later = ap (λ (a : Aimed). channel_where state a user listens wanted) (sym is) ∙ here
    by_first None here none (suc k, within, is) later = later none (k, omega arith, is)
    by_first (Some channel) here none has later = absurd (none-some (from, channel) (sym none))

-- no aim before the first does
way_first : (state : StateValue) (user : User) (listens : Bool) (wanted : Stop) (from : ℕ) (aims : List Aimed) (way : ℕ × ChannelId) (k : ℕ) (aim : Aimed)
    → way_from state user listens wanted from aims ≡ Some way → from + k < way.0 → slice_get aims k ≡ Some aim → channel_where state aim user listens wanted ≡ None
unfolding way_from
way_first state user listens wanted from [] way k aim is before there = absurd (none-some way is)
way_first state user listens wanted from (first ∷ aims) way k aim is before there =
    by_first (channel_where state first user listens wanted) refl is k before there (way_first state user listens wanted (from + 1) aims way)
  where
    by_first : (o : Option ChannelId) → channel_where state first user listens wanted ≡ o
        → option_or (option_map (λ channel. (from, channel)) o) (way_from state user listens wanted (from + 1) aims) ≡ Some way
        → (k : ℕ) → from + k < way.0 → slice_get (first ∷ aims) k ≡ Some aim
        → ((k : ℕ) (aim : Aimed) → way_from state user listens wanted (from + 1) aims ≡ Some way → from + 1 + k < way.0 → slice_get aims k ≡ Some aim
        → channel_where state aim user listens wanted ≡ None)
        → channel_where state aim user listens wanted ≡ None
    by_first None none is zero before there later = ap (λ (a : Aimed). channel_where state a user listens wanted) (sym (same_Some first aim there)) ∙ none
    by_first None none is (suc k) before there later = later k aim is (omega (arith, before)) there
    by_first (Some channel) here is k before there later =
        let at = ap (λ (w : ℕ × ChannelId). w.0) (same_Some (from, channel) way is) in absurd (omega (arith, at, before))

pub none_earlier : (state : StateValue) (aims : List Aimed) (user : User) (listens : Bool) (wanted : Stop) (way : ℕ × ChannelId) (k : ℕ) (aim : Aimed) (channel : ChannelId)
    → way_from state user listens wanted 0 aims ≡ Some way → k < way.0 → slice_get aims k ≡ Some aim → IsAt state user listens channel
    → IsStop state aim user listens channel wanted → ⊥
none_earlier state aims user listens wanted way k aim channel is before there at tested =
    channel_none state aim user listens wanted channel (way_first state user listens wanted 0 aims way k aim is (omega arith) there) at
    (is_stop state aim user listens channel wanted tested)

-- where none stops there, none does in a channel of the session's
pub none_stops : (state : StateValue) (aims : List Aimed) (user : User) (listens : Bool) (wanted : Stop) (aim : Aimed) (channel : ChannelId)
    → way_from state user listens wanted 0 aims ≡ None → Contains aims aim → IsAt state user listens channel
    → IsStop state aim user listens channel wanted → ⊥
none_stops state aims user listens wanted aim channel none has at tested =
    channel_none state aim user listens wanted channel (way_none state user listens wanted 0 aims aim none has) at
    (is_stop state aim user listens channel wanted tested)

-- what holds of the first that does
pub record IsFirstStop (state : StateValue) (aims : List Aimed) (user : User) (listens : Bool) (wanted : Stop) (way : ℕ × ChannelId) : Type 0 where
  pub aim : Aimed
  pub there : slice_get aims way.0 ≡ Some aim
  pub at : IsAt state user listens way.1
  pub tested : IsStop state aim user listens way.1 wanted

pub first_stops : (state : StateValue) (aims : List Aimed) (user : User) (listens : Bool) (wanted : Stop) (way : ℕ × ChannelId)
    → way_from state user listens wanted 0 aims ≡ Some way → IsFirstStop state aims user listens wanted way
first_stops state aims user listens wanted way is =
    let (place, at, w) = way_found state user listens wanted 0 aims way is in
    let same : place ≡ way.0 = omega (arith, at) in
    let (there, stopped) = channel_found state w.aim user listens wanted way.1 w.found in
    record {
      aim = w.aim;
      there = subst (λ (n : ℕ). slice_get aims n ≡ Some w.aim) same w.there;
      at = there;
      tested = stop_is state w.aim user listens way.1 wanted stopped;
    }
