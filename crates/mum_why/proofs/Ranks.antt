-- No reason that comes before the one that is given holds.
use Rattle.mum_why.proofs.Common.{◌≡◌, ◌≢◌, ◌∙◌, ℕ, ◌≤◌, ◌||◌, ◌⊎◌, inl, inr, Bool, true, false, not, cond, eqb, List, [], length, map, Option, Some, None, refl, sym, ap, subst, arith, ⊎_elim, IsTrue, is_some, unwrap_or, slice_get, option_map, option_map_or, and_from, and_parts, eq-eqb, not_from_false, or_left, or_right, ChannelId, SessionId, LISTEN, SPEAK, WHISPER, is_there, TargetItem, User, session_of, has_number, IsProper, StateValue, Context, Talk, LOOPBACK, TALK, cover, talk, may, needed_for, context_of, items_of, Contains-among, Cut, Reason, Deaf, DeafenedItself, Heard, ItIsItself, ListenerLacks, ListenerOutsideGroup, Muted, MutedItself, NoHearer, NoSpeaker, OnlyLoopback, OutsideGroup, SpeakerLacks, SpeakerLacksAtListener, Suppressed, Uncovered, Unset, Stop, LacksListen, LacksPermission, NoMember, cut_at, Aimed, aims_of, by_aims, item_aim, left_out, one_names, reason, reason_between, spreads_over, talk_aim, way_from, way_to, IsAimedAt, IsCoveredFor, IsListened, IsNamedBy, IsOutsideOf, ReasonHolds, ReasonsAreFirst, rank}
use Rattle.mum_why.proofs.{Aiming.IsSpread, Aiming.aimed_into, Aiming.aims_of_items, Aiming.at_of, Aiming.contains_at, Aiming.item_covers, Aiming.item_there, Aiming.may_aim, Aiming.named_into, Aiming.talk_covers, Aiming.talk_there, Holding.outside_stop, Reasons.between_is, Reasons.both_there, Reasons.lacking_where_cut, Reasons.lacks, Reasons.ladder, Reasons.left_by, Reasons.left_is, Reasons.listener_outside_way, Reasons.outside_way, Reasons.reason_is, Reasons.silencing, Reasons.some_unless, Reasons.unlistened_way, Reasons.unspoken_way, Routed.reasons_are_routes, Stops.IsAt, Stops.IsStop, Stops.none_stops}

-- ---- ranks

abbrev IsAtMost : ℕ → Reason → Type 0
IsAtMost n r = rank r ≤ n

-- of two reasons, either
either : (n : ℕ) (b : Bool) (x y : Reason) → IsAtMost n x → IsAtMost n y → IsAtMost n (cond b x y)
either n true x y first later = first
either n false x y first later = later

mapped : {X : Type 0} (n : ℕ) (o : Option X) (f : X → Reason) (y : Reason) → ((x : X) → IsAtMost n (f x)) → IsAtMost n y → IsAtMost n (unwrap_or (option_map f o) y)
mapped n None f y first later = later
mapped n (Some x) f y first later = first x

highest : (r : Reason) → IsAtMost 16 r
highest (Heard context) = omega arith
highest NoSpeaker = omega arith
highest NoHearer = omega arith
highest Muted = omega arith
highest MutedItself = omega arith
highest (Suppressed cut) = omega arith
highest OnlyLoopback = omega arith
highest ItIsItself = omega arith
highest Deaf = omega arith
highest DeafenedItself = omega arith
highest Unset = omega arith
highest (SpeakerLacks channel cut) = omega arith
highest (OutsideGroup index channel) = omega arith
highest (ListenerLacks channel cut) = omega arith
highest (ListenerOutsideGroup index channel) = omega arith
highest (SpeakerLacksAtListener channel cut) = omega arith
highest Uncovered = omega arith

-- ---- the first rules

-- whatever the flags of the speaker are
spoken : (n : ℕ) → 5 ≤ n → (m s p : Bool) (cut : Option Cut) (x : Reason) → IsAtMost n x
    → IsAtMost n (cond m Muted (cond s MutedItself (cond p (Suppressed cut) x)))
spoken n above m s p cut x later =
    either n m Muted (cond s MutedItself (cond p (Suppressed cut) x)) (omega arith)
    (either n s MutedItself (cond p (Suppressed cut) x) (omega arith) (either n p (Suppressed cut) x (omega arith) later))

-- whatever the target and the two sessions are
apart_from : (n : ℕ) → 9 ≤ n → (l e d f : Bool) (x : Reason) → IsAtMost n x
    → IsAtMost n (cond l (cond e (Heard Talk) OnlyLoopback) (cond e ItIsItself (cond d Deaf (cond f DeafenedItself x))))
apart_from n above l e d f x later =
    either n l (cond e (Heard Talk) OnlyLoopback) (cond e ItIsItself (cond d Deaf (cond f DeafenedItself x)))
    (either n e (Heard Talk) OnlyLoopback (omega arith) (omega arith))
    (either n e ItIsItself (cond d Deaf (cond f DeafenedItself x)) (omega arith)
    (either n d Deaf (cond f DeafenedItself x) (omega arith) (either n f DeafenedItself x (omega arith) later)))

-- where a flag of one of the two is set, nothing after its rule is given
at_mute : (m s p : Bool) (cut : Option Cut) (l e d f : Bool) (x : Reason) → m ≡ true → IsAtMost 3 (ladder m s p cut l e d f x)
at_mute m s p cut l e d f x on = subst (λ (t : Bool). IsAtMost 3 (ladder t s p cut l e d f x)) (sym on) (omega arith)

at_self_mute : (m s p : Bool) (cut : Option Cut) (l e d f : Bool) (x : Reason) → s ≡ true → IsAtMost 4 (ladder m s p cut l e d f x)
at_self_mute m s p cut l e d f x on =
    subst (λ (t : Bool). IsAtMost 4 (ladder m t p cut l e d f x)) (sym on) (either 4 m Muted MutedItself (omega arith) (omega arith))

at_suppress : (m s p : Bool) (cut : Option Cut) (l e d f : Bool) (x : Reason) → p ≡ true → IsAtMost 5 (ladder m s p cut l e d f x)
at_suppress m s p cut l e d f x on =
    subst (λ (t : Bool). IsAtMost 5 (ladder m s t cut l e d f x)) (sym on)
    (either 5 m Muted (cond s MutedItself (Suppressed cut)) (omega arith) (either 5 s MutedItself (Suppressed cut) (omega arith) (omega arith)))

at_loopback : (m s p : Bool) (cut : Option Cut) (l e d f : Bool) (x : Reason) → l ≡ true → IsAtMost 6 (ladder m s p cut l e d f x)
at_loopback m s p cut l e d f x on =
    subst (λ (t : Bool). IsAtMost 6 (ladder m s p cut t e d f x)) (sym on)
    (spoken 6 (omega arith) m s p cut (cond e (Heard Talk) OnlyLoopback) (either 6 e (Heard Talk) OnlyLoopback (omega arith) (omega arith)))

at_itself : (m s p : Bool) (cut : Option Cut) (l e d f : Bool) (x : Reason) → e ≡ true → IsAtMost 7 (ladder m s p cut l e d f x)
at_itself m s p cut l e d f x on =
    subst (λ (t : Bool). IsAtMost 7 (ladder m s p cut l t d f x)) (sym on)
    (spoken 7 (omega arith) m s p cut (cond l (Heard Talk) ItIsItself) (either 7 l (Heard Talk) ItIsItself (omega arith) (omega arith)))

at_deaf : (m s p : Bool) (cut : Option Cut) (l e d f : Bool) (x : Reason) → d ≡ true → IsAtMost 8 (ladder m s p cut l e d f x)
at_deaf m s p cut l e d f x on =
    subst (λ (t : Bool). IsAtMost 8 (ladder m s p cut l e t f x)) (sym on)
    (spoken 8 (omega arith) m s p cut (cond l (cond e (Heard Talk) OnlyLoopback) (cond e ItIsItself Deaf))
    (either 8 l (cond e (Heard Talk) OnlyLoopback) (cond e ItIsItself Deaf) (either 8 e (Heard Talk) OnlyLoopback (omega arith) (omega arith))
    (either 8 e ItIsItself Deaf (omega arith) (omega arith))))

at_self_deaf : (m s p : Bool) (cut : Option Cut) (l e d f : Bool) (x : Reason) → f ≡ true → IsAtMost 9 (ladder m s p cut l e d f x)
at_self_deaf m s p cut l e d f x on =
    subst (λ (t : Bool). IsAtMost 9 (ladder m s p cut l e d t x)) (sym on)
    (spoken 9 (omega arith) m s p cut (cond l (cond e (Heard Talk) OnlyLoopback) (cond e ItIsItself (cond d Deaf DeafenedItself)))
    (either 9 l (cond e (Heard Talk) OnlyLoopback) (cond e ItIsItself (cond d Deaf DeafenedItself)) (either 9 e (Heard Talk) OnlyLoopback (omega arith) (omega arith))
    (either 9 e ItIsItself (cond d Deaf DeafenedItself) (omega arith) (either 9 d Deaf DeafenedItself (omega arith) (omega arith)))))

-- what the aims leave is after all flags
by_flags : (n : ℕ) → 9 ≤ n → (m s p : Bool) (cut : Option Cut) (l e d f : Bool) (x : Reason) → IsAtMost n x → IsAtMost n (ladder m s p cut l e d f x)
by_flags n above m s p cut l e d f x later =
    spoken n (omega arith) m s p cut (cond l (cond e (Heard Talk) OnlyLoopback) (cond e ItIsItself (cond d Deaf (cond f DeafenedItself x))))
    (apart_from n above l e d f x later)

-- ---- the reasons of the aims

heard_or : (n : ℕ) (o : Option Context) (r : Reason) → IsAtMost n r → IsAtMost n (option_map_or Heard o r)
heard_or n None r later = later
heard_or n (Some context) r later = omega arith

-- a bound on what the aims leave is one on the reason
from_left : (n : ℕ) → 9 ≤ n → (state : StateValue) (own : User) (target : ℕ) (user : User)
    → IsAtMost n (left_by state own target user (eqb (length (aims_of state own target)) 0) (lacks state own target user) (outside_way state own target user)
    (unlistened_way state own target user) (listener_outside_way state own target user) (unspoken_way state own target user))
    → IsAtMost n (reason_between state own target user)
from_left n above state own target user left =
    subst (IsAtMost n) (sym (between_is state own target user))
    (by_flags n above own.mute own.self_mute own.suppress (silencing state own) (eqb target LOOPBACK) (has_number own.session user) user.deaf user.self_deaf
    (by_aims state own target user)
    (heard_or n (context_of state own target user) (left_out state own target (aims_of state own target) user)
    (subst (IsAtMost n) (sym (left_is state own target user)) left)))

abbrev Way : Type 0
Way = Option (ℕ × ChannelId)

at_unset : (state : StateValue) (own : User) (target : ℕ) (user : User) (u k : Bool) (w x y z : Way) → u ≡ true → IsAtMost 10 (left_by state own target user u k w x y z)
at_unset state own target user u k w x y z on = subst (λ (t : Bool). IsAtMost 10 (left_by state own target user t k w x y z)) (sym on) (omega arith)

at_lacking : (state : StateValue) (own : User) (target : ℕ) (user : User) (u k : Bool) (w x y z : Way) → k ≡ true → IsAtMost 11 (left_by state own target user u k w x y z)
at_lacking state own target user u k w x y z on =
    subst (λ (t : Bool). IsAtMost 11 (left_by state own target user u t w x y z)) (sym on)
    (either 11 u Unset (SpeakerLacks user.channel (cut_at state own user.channel (needed_for target))) (omega arith) (omega arith))

-- whether the target is unset, and whether the speaker lacks the permission where the session is
past_two : (n : ℕ) → 11 ≤ n → (state : StateValue) (own : User) (target : ℕ) (user : User) (u k : Bool) (r : Reason) → IsAtMost n r
    → IsAtMost n (cond u Unset (cond k (SpeakerLacks user.channel (cut_at state own user.channel (needed_for target))) r))
past_two n above state own target user u k r later =
    either n u Unset (cond k (SpeakerLacks user.channel (cut_at state own user.channel (needed_for target))) r) (omega arith)
    (either n k (SpeakerLacks user.channel (cut_at state own user.channel (needed_for target))) r (omega arith) later)

at_outside : (state : StateValue) (own : User) (target : ℕ) (user : User) (u k : Bool) (w x y z : Way) (way : ℕ × ChannelId) → w ≡ Some way
    → IsAtMost 12 (left_by state own target user u k w x y z)
at_outside state own target user u k w x y z way on =
    subst (λ (o : Way). IsAtMost 12 (left_by state own target user u k o x y z)) (sym on)
    (past_two 12 (omega arith) state own target user u k (OutsideGroup way.0 way.1) (omega arith))

past_outside : (n : ℕ) → 12 ≤ n → (w : Way) (r : Reason) → IsAtMost n r → IsAtMost n (unwrap_or (option_map (λ way. OutsideGroup way.0 way.1) w) r)
past_outside n above w r later = mapped n w (λ (way : ℕ × ChannelId). OutsideGroup way.0 way.1) r (λ way. omega arith) later

at_unlistened : (state : StateValue) (own : User) (target : ℕ) (user : User) (u k : Bool) (w x y z : Way) (way : ℕ × ChannelId) → x ≡ Some way
    → IsAtMost 13 (left_by state own target user u k w x y z)
at_unlistened state own target user u k w x y z way on =
    subst (λ (o : Way). IsAtMost 13 (left_by state own target user u k w o y z)) (sym on)
    (past_two 13 (omega arith) state own target user u k (unwrap_or (option_map (λ way. OutsideGroup way.0 way.1) w) (ListenerLacks way.1 (cut_at state user way.1 LISTEN)))
    (past_outside 13 (omega arith) w (ListenerLacks way.1 (cut_at state user way.1 LISTEN)) (omega arith)))

past_unlistened : (n : ℕ) → 13 ≤ n → (state : StateValue) (user : User) (x : Way) (r : Reason) → IsAtMost n r
    → IsAtMost n (unwrap_or (option_map (λ way. ListenerLacks way.1 (cut_at state user way.1 LISTEN)) x) r)
past_unlistened n above state user x r later =
    mapped n x (λ (way : ℕ × ChannelId). ListenerLacks way.1 (cut_at state user way.1 LISTEN)) r (λ way. omega arith) later

at_listener_outside : (state : StateValue) (own : User) (target : ℕ) (user : User) (u k : Bool) (w x y z : Way) (way : ℕ × ChannelId) → y ≡ Some way
    → IsAtMost 14 (left_by state own target user u k w x y z)
at_listener_outside state own target user u k w x y z way on =
    let last : Reason = ListenerOutsideGroup way.0 way.1 in
    let later : Reason = unwrap_or (option_map (λ one. ListenerLacks one.1 (cut_at state user one.1 LISTEN)) x) last in
    subst (λ (o : Way). IsAtMost 14 (left_by state own target user u k w x o z)) (sym on)
    (past_two 14 (omega arith) state own target user u k (unwrap_or (option_map (λ one. OutsideGroup one.0 one.1) w) later)
    (past_outside 14 (omega arith) w later (past_unlistened 14 (omega arith) state user x last (omega arith))))

at_unspoken : (state : StateValue) (own : User) (target : ℕ) (user : User) (u k : Bool) (w x y z : Way) (way : ℕ × ChannelId) → z ≡ Some way
    → IsAtMost 15 (left_by state own target user u k w x y z)
at_unspoken state own target user u k w x y z way on =
    let last : Reason = SpeakerLacksAtListener way.1 (cut_at state own way.1 (needed_for target)) in
    let third : Reason = unwrap_or (option_map (λ one. ListenerOutsideGroup one.0 one.1) y) last in
    let second : Reason = unwrap_or (option_map (λ one. ListenerLacks one.1 (cut_at state user one.1 LISTEN)) x) third in
    subst (λ (o : Way). IsAtMost 15 (left_by state own target user u k w x y o)) (sym on)
    (past_two 15 (omega arith) state own target user u k (unwrap_or (option_map (λ one. OutsideGroup one.0 one.1) w) second)
    (past_outside 15 (omega arith) w second
    (past_unlistened 15 (omega arith) state user x third
    (mapped 15 y (λ (one : ℕ × ChannelId). ListenerOutsideGroup one.0 one.1) last (λ one. omega arith) (omega arith)))))

-- ---- there is a way where a reason says so

way_there : (state : StateValue) (aims : List Aimed) (user : User) (listens : Bool) (wanted : Stop) (aim : Aimed) (place : ℕ) (channel : ChannelId)
    → slice_get aims place ≡ Some aim → IsAt state user listens channel → IsStop state aim user listens channel wanted
    → (way : ℕ × ChannelId) × (way_from state user listens wanted 0 aims ≡ Some way)
way_there state aims user listens wanted aim place channel there at tested =
    some_unless (way_from state user listens wanted 0 aims)
    (λ none. none_stops state aims user listens wanted aim channel none (contains_at aims place aim there) at tested)

-- where the speaker lacks the permission in a channel at which the packet is aimed
aimed_lacking : (state : StateValue) (own : User) (target : ℕ) (user : User) (listens : Bool) (channel : ChannelId) → IsSpread state own target channel
    → IsAt state user listens channel → may state own.session (needed_for target) channel ≡ false
    → (way : ℕ × ChannelId) × (way_from state user listens LacksPermission 0 (aims_of state own target) ≡ Some way)
aimed_lacking state own target user listens channel s at off =
    way_there state (aims_of state own target) user listens LacksPermission s.aim s.place channel s.there at
    (s.on, may_aim state own target s.place s.aim channel s.there ∙ off)

lacks_there : (state : StateValue) (own : User) (target : ℕ) (user : User) → IsProper state → IsTrue (is_there state.tree.channels own.channel)
    → IsAimedAt state own target user.channel ⊎ IsNamedBy state own target user → may state own.session (needed_for target) user.channel ≡ false
    → lacks state own target user ≡ true
lacks_there state own target user proper inside how off =
    let aims : List Aimed = aims_of state own target in
    and_from (is_some (way_to state aims user LacksPermission) || one_names state own target user) (not (may state own.session (needed_for target) user.channel))
    (⊎_elim
    (λ (aimed : IsAimedAt state own target user.channel).
    let (way, is) = aimed_lacking state own target user false user.channel (aimed_into state own target user.channel proper inside aimed) refl off in
    or_left (is_some (way_to state aims user LacksPermission)) (one_names state own target user) (ap (λ (o : Option (ℕ × ChannelId)). is_some o) is))
    (λ (named : IsNamedBy state own target user).
    or_right (is_some (way_to state aims user LacksPermission)) (one_names state own target user) (named_into state own target user named))
    how)
    (not_from_false (may state own.session (needed_for target) user.channel) off)

-- an item whose group the session is not in
outside_there : (state : StateValue) (own : User) (target : ℕ) (user : User) (listens : Bool) (index : ℕ) (channel : ChannelId) → IsOutsideOf state own target user index channel
    → IsAt state user listens channel → (way : ℕ × ChannelId) × (way_from state user listens NoMember 0 (aims_of state own target) ≡ Some way)
outside_there state own target user listens index channel out at =
    let (aim, there, tested) = outside_stop state own target user listens index channel out in
    way_there state (aims_of state own target) user listens NoMember aim index channel there at tested

-- what covers a channel in which the session may not listen
unlistened_there : (state : StateValue) (own : User) (target : ℕ) (user : User) (channel : ChannelId) → IsProper state
    → IsTrue (is_there state.tree.channels own.channel) → IsCoveredFor state own target user channel
    → IsListened state user channel → may state user.session LISTEN channel ≡ false
    → (way : ℕ × ChannelId) × (unlistened_way state own target user ≡ Some way)
unlistened_there state own target user channel proper inside (inl (talks, covers)) at off =
    let parts = and_parts (spreads_over state.tree (talk_aim own) channel) (may state own.session SPEAK channel)
    (sym (talk_covers state own channel proper inside) ∙ Contains-among (talk state own) channel covers) in
    way_there state (aims_of state own target) user true LacksListen (talk_aim own) 0 channel (talk_there state own target talks) at
    (parts.0, parts.1, refl, refl, off)
unlistened_there state own target user channel proper inside (inr (away, item, has, covers, grouped)) at off =
    let (index, is) = at_of (items_of state own.session target) item has in
    let parts = and_parts (spreads_over state.tree (item_aim own.session item) channel) (may state own.session WHISPER channel)
    (sym (item_covers state own item channel) ∙ Contains-among (cover state own item) channel covers) in
    way_there state (aims_of state own target) user true LacksListen (item_aim own.session item) index channel (item_there state own target index item away is) at
    (parts.0, parts.1, grouped, refl, off)

-- ---- of two sessions that are there

-- a bound by the flags
by_flag : (n : ℕ) (state : StateValue) (speaker hearer : SessionId) (target : ℕ) (own user : User) → session_of state.roster speaker ≡ Some own
    → session_of state.roster hearer ≡ Some user
    → IsAtMost n (ladder own.mute own.self_mute own.suppress (silencing state own) (eqb target LOOPBACK) (has_number own.session user) user.deaf user.self_deaf (by_aims state own target user))
    → IsAtMost n (reason state speaker hearer target)
by_flag n state speaker hearer target own user own_found user_found bound =
    subst (IsAtMost n) (sym (reason_is state speaker hearer target own user own_found user_found ∙ between_is state own target user)) bound

-- a bound by what the aims leave
by_left : (n : ℕ) → 9 ≤ n → (state : StateValue) (speaker hearer : SessionId) (target : ℕ) (own user : User) → session_of state.roster speaker ≡ Some own
    → session_of state.roster hearer ≡ Some user
    → IsAtMost n (left_by state own target user (eqb (length (aims_of state own target)) 0) (lacks state own target user) (outside_way state own target user)
    (unlistened_way state own target user) (listener_outside_way state own target user) (unspoken_way state own target user))
    → IsAtMost n (reason state speaker hearer target)
by_left n above state speaker hearer target own user own_found user_found bound =
    subst (IsAtMost n) (sym (reason_is state speaker hearer target own user own_found user_found)) (from_left n above state own target user bound)

no_aims : (state : StateValue) (speaker : SessionId) (target : ℕ) (own : User) → own.session ≡ speaker → target ≢ TALK → items_of state speaker target ≡ []
    → eqb (length (aims_of state own target)) 0 ≡ true
no_aims state speaker target own number away none =
    ap (λ (aims : List Aimed). eqb (length aims) 0)
    (aims_of_items state own target away
    ∙ ap (λ (s : SessionId). map (item_aim own.session) (items_of state s target)) number
    ∙ ap (λ (items : List TargetItem). map (item_aim own.session) items) none)

-- where what a speaker needs is missing for the speaker's number
as_own : (state : StateValue) (speaker : SessionId) (own : User) (target : ℕ) (channel : ChannelId) → own.session ≡ speaker
    → may state speaker (needed_for target) channel ≡ false → may state own.session (needed_for target) channel ≡ false
as_own state speaker own target channel number off = ap (λ (s : SessionId). may state s (needed_for target) channel) number ∙ off

-- ---- each reason that holds comes no earlier than the one that is given

no_earlier : (state : StateValue) (speaker hearer : SessionId) (target : ℕ) (other : Reason) → IsProper state → ReasonHolds state speaker hearer target other
    → IsAtMost (rank other) (reason state speaker hearer target)
no_earlier state speaker hearer target (Heard context) proper has =
    subst (IsAtMost 0) (sym (((reasons_are_routes state speaker hearer target proper).0 context).1 has)) (omega arith)
no_earlier state speaker hearer target NoSpeaker proper none =
    subst (IsAtMost 1)
    (sym (ap (λ (o : Option User). option_map_or (λ own. option_map_or (reason_between state own target) (session_of state.roster hearer) NoHearer) o NoSpeaker) none)) (omega arith)
no_earlier state speaker hearer target NoHearer proper none =
    subst (λ (o : Option User). IsAtMost 2 (option_map_or (λ own. option_map_or (reason_between state own target) o NoHearer) (session_of state.roster speaker) NoSpeaker)) (sym none)
    (by_own (session_of state.roster speaker))
  where
    by_own : (o : Option User) → IsAtMost 2 (option_map_or (λ own. NoHearer) o NoSpeaker)
    by_own None = omega arith
    by_own (Some own) = omega arith
no_earlier state speaker hearer target Muted proper (own, user, own_found, user_found, on) =
    by_flag 3 state speaker hearer target own user own_found user_found
    (at_mute own.mute own.self_mute own.suppress (silencing state own) (eqb target LOOPBACK) (has_number own.session user) user.deaf user.self_deaf (by_aims state own target user) on)
no_earlier state speaker hearer target MutedItself proper (own, user, own_found, user_found, on) =
    by_flag 4 state speaker hearer target own user own_found user_found
    (at_self_mute own.mute own.self_mute own.suppress (silencing state own) (eqb target LOOPBACK) (has_number own.session user) user.deaf user.self_deaf (by_aims state own target user) on)
no_earlier state speaker hearer target (Suppressed cut) proper (own, user, own_found, user_found, (on, is)) =
    by_flag 5 state speaker hearer target own user own_found user_found
    (at_suppress own.mute own.self_mute own.suppress (silencing state own) (eqb target LOOPBACK) (has_number own.session user) user.deaf user.self_deaf (by_aims state own target user) on)
no_earlier state speaker hearer target OnlyLoopback proper (own, user, own_found, user_found, (loops, apart)) =
    by_flag 6 state speaker hearer target own user own_found user_found
    (at_loopback own.mute own.self_mute own.suppress (silencing state own) (eqb target LOOPBACK) (has_number own.session user) user.deaf user.self_deaf (by_aims state own target user)
    (eq-eqb target LOOPBACK loops))
no_earlier state speaker hearer target ItIsItself proper (own, user, own_found, user_found, (away, same)) =
    let both = both_there state speaker hearer own user proper own_found user_found in
    by_flag 7 state speaker hearer target own user own_found user_found
    (at_itself own.mute own.self_mute own.suppress (silencing state own) (eqb target LOOPBACK) (has_number own.session user) user.deaf user.self_deaf (by_aims state own target user)
    (eq-eqb user.session.0 own.session.0 (ap (λ (s : SessionId). s.0) (both.user_number ∙ sym same ∙ sym both.own_number))))
no_earlier state speaker hearer target Deaf proper (own, user, own_found, user_found, on) =
    by_flag 8 state speaker hearer target own user own_found user_found
    (at_deaf own.mute own.self_mute own.suppress (silencing state own) (eqb target LOOPBACK) (has_number own.session user) user.deaf user.self_deaf (by_aims state own target user) on)
no_earlier state speaker hearer target DeafenedItself proper (own, user, own_found, user_found, on) =
    by_flag 9 state speaker hearer target own user own_found user_found
    (at_self_deaf own.mute own.self_mute own.suppress (silencing state own) (eqb target LOOPBACK) (has_number own.session user) user.deaf user.self_deaf (by_aims state own target user) on)
no_earlier state speaker hearer target Unset proper (own, user, own_found, user_found, (away, loops, none)) =
    let both = both_there state speaker hearer own user proper own_found user_found in
    by_left 10 (omega arith) state speaker hearer target own user own_found user_found
    (at_unset state own target user (eqb (length (aims_of state own target)) 0) (lacks state own target user) (outside_way state own target user)
    (unlistened_way state own target user) (listener_outside_way state own target user) (unspoken_way state own target user)
    (no_aims state speaker target own both.own_number away none))
no_earlier state speaker hearer target (SpeakerLacks channel cut) proper (own, user, own_found, user_found, (at, how, given)) =
    let both = both_there state speaker hearer own user proper own_found user_found in
    let off = as_own state speaker own target channel both.own_number (lacking_where_cut state speaker channel (needed_for target) cut given) in
    by_left 11 (omega arith) state speaker hearer target own user own_found user_found
    (at_lacking state own target user (eqb (length (aims_of state own target)) 0) (lacks state own target user) (outside_way state own target user)
    (unlistened_way state own target user) (listener_outside_way state own target user) (unspoken_way state own target user)
    (lacks_there state own target user proper both.own_inside
    (subst (λ (c : ChannelId). IsAimedAt state own target c ⊎ IsNamedBy state own target user) (sym at) how)
    (ap (may state own.session (needed_for target)) at ∙ off)))
no_earlier state speaker hearer target (OutsideGroup index channel) proper (own, user, own_found, user_found, (at, out, first)) =
    let (way, is) = outside_there state own target user false index channel out at in
    by_left 12 (omega arith) state speaker hearer target own user own_found user_found
    (at_outside state own target user (eqb (length (aims_of state own target)) 0) (lacks state own target user) (outside_way state own target user)
    (unlistened_way state own target user) (listener_outside_way state own target user) (unspoken_way state own target user) way is)
no_earlier state speaker hearer target (ListenerLacks channel cut) proper (own, user, own_found, user_found, (at, covered, given)) =
    let both = both_there state speaker hearer own user proper own_found user_found in
    let off = ap (λ (s : SessionId). may state s LISTEN channel) both.user_number ∙ lacking_where_cut state hearer channel LISTEN cut given in
    let (way, is) = unlistened_there state own target user channel proper both.own_inside covered at off in
    by_left 13 (omega arith) state speaker hearer target own user own_found user_found
    (at_unlistened state own target user (eqb (length (aims_of state own target)) 0) (lacks state own target user) (outside_way state own target user)
    (unlistened_way state own target user) (listener_outside_way state own target user) (unspoken_way state own target user) way is)
no_earlier state speaker hearer target (ListenerOutsideGroup index channel) proper (own, user, own_found, user_found, (at, out, first)) =
    let (way, is) = outside_there state own target user true index channel out at in
    by_left 14 (omega arith) state speaker hearer target own user own_found user_found
    (at_listener_outside state own target user (eqb (length (aims_of state own target)) 0) (lacks state own target user) (outside_way state own target user)
    (unlistened_way state own target user) (listener_outside_way state own target user) (unspoken_way state own target user) way is)
no_earlier state speaker hearer target (SpeakerLacksAtListener channel cut) proper (own, user, own_found, user_found, (at, aimed, given)) =
    let both = both_there state speaker hearer own user proper own_found user_found in
    let off = as_own state speaker own target channel both.own_number (lacking_where_cut state speaker channel (needed_for target) cut given) in
    let (way, is) = aimed_lacking state own target user true channel (aimed_into state own target channel proper both.own_inside aimed) at off in
    by_left 15 (omega arith) state speaker hearer target own user own_found user_found
    (at_unspoken state own target user (eqb (length (aims_of state own target)) 0) (lacks state own target user) (outside_way state own target user)
    (unlistened_way state own target user) (listener_outside_way state own target user) (unspoken_way state own target user) way is)
no_earlier state speaker hearer target Uncovered proper unreached = highest (reason state speaker hearer target)

pub reasons_are_first : ReasonsAreFirst
reasons_are_first state speaker hearer target other proper earlier holds =
    let none = no_earlier state speaker hearer target other proper holds in omega arith
