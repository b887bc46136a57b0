-- What is said of a session that does not hear does hold.
use Rattle.mum_why.proofs.Common.{◌≡◌, ◌≢◌, ◌∙◌, ℕ, ◌<◌, ◌&&◌, ◌||◌, ◌⊎◌, inl, inr, Bool, true, false, not, eqb, List, [], ◌∷◌, length, map, Option, Some, None, refl, sym, ap, subst, arith, ⊎_elim, IsTrue, is_some, Contains, slice_get, option_map_or, and_from, and_parts, eq-eqb, eqb-true, false≢true, not-true, or_cases, none-some, ChannelId, SessionId, LISTEN, SPEAK, WHISPER, is_there, ListenerPair, TargetItem, User, session_of, IsProper, StateValue, Context, DirectWhisper, Listener, Talk, TALK, cover, talk, is_in_group, may, needed_for, items_of, Contains-among, among-Contains, all_at, NoHearer, NoSpeaker, Arrives, LacksListen, LacksPermission, NoMember, cut_of, Aimed, aims_of, by_aims, item_aim, one_names, reason_between, spreads_over, talk_aim, way_by_listening, way_from, way_to, IsAimedAt, IsCoveredFor, IsListened, IsNamedBy, IsOutsideOf, ReasonHolds, ReasonsHold}
use Rattle.mum_why.proofs.{Aiming.IsAimOf, Aiming.aim_of, Aiming.aimed_from, Aiming.aimed_into, Aiming.aims_of_items, Aiming.aims_of_talk, Aiming.contains_at, Aiming.item_covers, Aiming.item_there, Aiming.may_aim, Aiming.named_from, Aiming.named_into, Aiming.talk_covers, Contexts.by_ways, Contexts.context_is, Contexts.inside_of, Reasons.AreThere, Reasons.IsNowhere, Reasons.IsOpen, Reasons.both_there, Reasons.by_rules, Reasons.by_ways_of, Reasons.cut_given, Reasons.lacks, Reasons.none_is, Reasons.some_is, Routed.in_loopback, Routed.in_route, Routed.same_as_own, Stops.IsAt, Stops.IsFirstStop, Stops.IsStop, Stops.first_stops, Stops.none_earlier, Stops.none_stops}

-- a channel to which a session listens is there
pub listened_inside : (state : StateValue) (user : User) (channel : ChannelId) → IsProper state → IsListened state user channel → IsTrue (is_there state.tree.channels channel)
listened_inside state user channel proper (k, within, is) =
    let pair : ListenerPair = record { session = user.session; channel = channel } in
    ap (λ (p : ListenerPair). is_there state.tree.channels p.channel) (sym is)
    ∙ all_at (λ (p : ListenerPair). is_there state.tree.channels p.channel) state.roster.listeners k pair proper.listening within

-- ---- a way that stops at the group

-- the aim is that of an item whose group the session is not in
outside_of : (state : StateValue) (own : User) (target : ℕ) (user : User) (listens : Bool) (way : ℕ × ChannelId) (aim : Aimed)
    → IsStop state aim user listens way.1 NoMember → IsAimOf state own target way.0 aim → IsOutsideOf state own target user way.0 way.1
outside_of state own target user listens way aim (spreads, allowed, out) (inl (talks, same)) =
    absurd (false≢true (sym out ∙ ap (λ (a : Aimed). is_in_group state a.group way.1 user) (sym same)))
outside_of state own target user listens way aim (spreads, allowed, out) (inr (away, item, at, same)) = (
  away,
  item,
  at,
  among-Contains (cover state own item) way.1
      (item_covers state own item way.1
      ∙ and_from (spreads_over state.tree (item_aim own.session item) way.1) (may state own.session WHISPER way.1)
      (ap (λ (a : Aimed). spreads_over state.tree a way.1) same ∙ spreads) (ap (λ (a : Aimed). may state a.speaker a.permission way.1) same ∙ allowed)),
  ap (λ (a : Aimed). is_in_group state a.group way.1 user) same ∙ out,
)

pub first_outside : (state : StateValue) (own : User) (target : ℕ) (user : User) (listens : Bool) (way : ℕ × ChannelId)
    → IsFirstStop state (aims_of state own target) user listens NoMember way → IsOutsideOf state own target user way.0 way.1
first_outside state own target user listens way f = outside_of state own target user listens way f.aim f.tested (aim_of state own target way.0 f.aim f.there)

-- and the other way round
pub outside_stop : (state : StateValue) (own : User) (target : ℕ) (user : User) (listens : Bool) (index : ℕ) (channel : ChannelId) → IsOutsideOf state own target user index channel
    → (aim : Aimed) × (slice_get (aims_of state own target) index ≡ Some aim) × IsStop state aim user listens channel NoMember
outside_stop state own target user listens index channel (away, item, is, covers, out) =
    let parts = and_parts (spreads_over state.tree (item_aim own.session item) channel) (may state own.session WHISPER channel)
    (sym (item_covers state own item channel) ∙ Contains-among (cover state own item) channel covers) in
    (item_aim own.session item, item_there state own target index item away is, (parts.0, parts.1, out))

-- no item before that of the first way is so
first_item : (state : StateValue) (own : User) (target : ℕ) (user : User) (listens : Bool) (way : ℕ × ChannelId) (earlier : ℕ) (channel : ChannelId)
    → way_from state user listens NoMember 0 (aims_of state own target) ≡ Some way → earlier < way.0 → IsAt state user listens channel
    → IsOutsideOf state own target user earlier channel → ⊥
first_item state own target user listens way earlier channel is before at out =
    let (aim, there, tested) = outside_stop state own target user listens earlier channel out in
    none_earlier state (aims_of state own target) user listens NoMember way earlier aim channel is before there at tested

-- ---- a way that covers the channel

covered_of : (state : StateValue) (own : User) (target : ℕ) (user : User) (place : ℕ) (channel : ChannelId) (aim : Aimed) → IsProper state
    → IsTrue (is_there state.tree.channels own.channel) → spreads_over state.tree aim channel ≡ true → may state aim.speaker aim.permission channel ≡ true
    → is_in_group state aim.group channel user ≡ true → IsAimOf state own target place aim → IsCoveredFor state own target user channel
covered_of state own target user place channel aim proper inside spreads allowed grouped (inl (talks, same)) =
    inl (
      talks,
      among-Contains (talk state own) channel
          (talk_covers state own channel proper inside
          ∙ and_from (spreads_over state.tree (talk_aim own) channel) (may state own.session SPEAK channel)
          (ap (λ (a : Aimed). spreads_over state.tree a channel) same ∙ spreads) (ap (λ (a : Aimed). may state a.speaker a.permission channel) same ∙ allowed)),
    )
covered_of state own target user place channel aim proper inside spreads allowed grouped (inr (away, item, at, same)) =
    inr (
      away,
      item,
      contains_at (items_of state own.session target) place item at,
      among-Contains (cover state own item) channel
          (item_covers state own item channel
          ∙ and_from (spreads_over state.tree (item_aim own.session item) channel) (may state own.session WHISPER channel)
          (ap (λ (a : Aimed). spreads_over state.tree a channel) same ∙ spreads) (ap (λ (a : Aimed). may state a.speaker a.permission channel) same ∙ allowed)),
      ap (λ (a : Aimed). is_in_group state a.group channel user) same ∙ grouped,
    )

-- ---- each reason of the aims

as_speaker : (state : StateValue) (speaker hearer : SessionId) (own user : User) (target : ℕ) (channel : ChannelId) → AreThere state speaker hearer own user
    → may state own.session (needed_for target) channel ≡ false → may state speaker (needed_for target) channel ≡ false
as_speaker state speaker hearer own user target channel both off =
    ap (λ (s : SessionId). may state s (needed_for target) channel) (sym both.own_number) ∙ off

lacking_holds : (state : StateValue) (speaker hearer : SessionId) (target : ℕ) (own user : User) → AreThere state speaker hearer own user
    → lacks state own target user ≡ true
    → (IsAimedAt state own target user.channel ⊎ IsNamedBy state own target user) × (may state own.session (needed_for target) user.channel ≡ false)
lacking_holds state speaker hearer target own user both on =
    let aims = aims_of state own target in
    let (some_, off) = and_parts (is_some (way_to state aims user LacksPermission) || one_names state own target user) (not (may state own.session (needed_for target) user.channel)) on in (
      ⊎_elim
          (λ (there : is_some (way_to state aims user LacksPermission) ≡ true).
          let (way, is) = some_is (way_to state aims user LacksPermission) there in
          let f = first_stops state aims user false LacksPermission way is in
          inl (subst (IsAimedAt state own target) (sym f.at) (aimed_from state own target way.0 f.aim way.1 both.proper both.own_inside f.there f.tested.0)))
          (λ (named : one_names state own target user ≡ true). inr (named_from state own target user named))
          (or_cases (is_some (way_to state aims user LacksPermission)) (one_names state own target user) some_),
      not-true (may state own.session (needed_for target) user.channel) off,
    )

unlistened_holds : (state : StateValue) (speaker hearer : SessionId) (target : ℕ) (own user : User) (way : ℕ × ChannelId) → AreThere state speaker hearer own user
    → IsFirstStop state (aims_of state own target) user true LacksListen way
    → IsCoveredFor state own target user way.1 × (may state hearer LISTEN way.1 ≡ false)
unlistened_holds state speaker hearer target own user way both f =
    let (spreads, allowed, grouped, listens, off) = f.tested in (
      covered_of state own target user way.0 way.1 f.aim both.proper both.own_inside spreads allowed grouped (aim_of state own target way.0 f.aim f.there),
      ap (λ (s : SessionId). may state s LISTEN way.1) (sym both.user_number) ∙ off,
    )

-- ---- nothing is aimed at the session

none_of_three : (context : Context) (here named listening : Bool) → by_ways context here named listening ≡ None → (here ≡ false) × (named ≡ false) × (listening ≡ false)
none_of_three context true named listening is = absurd (none-some context (sym is))
none_of_three context false true listening is = absurd (none-some DirectWhisper (sym is))
none_of_three context false false true is = absurd (none-some Listener (sym is))
none_of_three context false false false is = (refl, refl, refl)

-- where no way stops at a test, an aim that spreads over a channel of the session's passes it
passes : (state : StateValue) (own : User) (target : ℕ) (user : User) (listens : Bool) (aim : Aimed) (place : ℕ) (channel : ChannelId)
    → slice_get (aims_of state own target) place ≡ Some aim → IsAt state user listens channel → spreads_over state.tree aim channel ≡ true
    → way_from state user listens LacksPermission 0 (aims_of state own target) ≡ None
    → way_from state user listens NoMember 0 (aims_of state own target) ≡ None
    → way_from state user listens LacksListen 0 (aims_of state own target) ≡ None
    → way_from state user listens Arrives 0 (aims_of state own target) ≡ None → ⊥
passes state own target user listens aim place channel there at on no_permission no_member no_listen no_arrival =
    by_tests (may state aim.speaker aim.permission channel) refl (is_in_group state aim.group channel user) refl (listens && not (may state user.session LISTEN channel)) refl
  where
    has : Contains (aims_of state own target) aim
    has = contains_at (aims_of state own target) place aim there

    by_tests : (b : Bool) → may state aim.speaker aim.permission channel ≡ b → (c : Bool) → is_in_group state aim.group channel user ≡ c
        → (d : Bool) → (listens && not (may state user.session LISTEN channel)) ≡ d → ⊥
    by_tests false lacking c grouped d heard = none_stops state (aims_of state own target) user listens LacksPermission aim channel no_permission has at (on, lacking)
    by_tests true allowed false out d heard = none_stops state (aims_of state own target) user listens NoMember aim channel no_member has at (on, allowed, out)
    by_tests true allowed true grouped true off =
        let (hears, unheard) = and_parts listens (not (may state user.session LISTEN channel)) off in
        none_stops state (aims_of state own target) user listens LacksListen aim channel no_listen has at
        (on, allowed, grouped, hears, not-true (may state user.session LISTEN channel) unheard)
    by_tests true allowed true grouped false heard =
        none_stops state (aims_of state own target) user listens Arrives aim channel no_arrival has at (on, allowed, grouped, heard)

-- no aim stops for want of Listen on its way to the channel of a session
no_listen_here : (state : StateValue) (aims : List Aimed) (user : User) → way_to state aims user LacksListen ≡ None
no_listen_here state aims user = by_way (way_to state aims user LacksListen) refl
  where
    by_way : (o : Option (ℕ × ChannelId)) → way_to state aims user LacksListen ≡ o → o ≡ None
    by_way None none = refl
    by_way (Some way) is = let (on, allowed, grouped, hears, off) = (first_stops state aims user false LacksListen way is).tested in absurd (false≢true hears)

-- what is known where nothing is aimed at the session
pub record AreUnreached (state : StateValue) (own : User) (target : ℕ) (user : User) : Type 0 where
  pub here : way_to state (aims_of state own target) user Arrives ≡ None
  pub listening : way_by_listening state (aims_of state own target) user Arrives ≡ None
  pub unspoken : way_to state (aims_of state own target) user LacksPermission ≡ None
  pub unnamed : one_names state own target user ≡ false

unnamed_by : (s n m : Bool) → ((s || n) && not m) ≡ false → (n && m) ≡ false → n ≡ false
unnamed_by s false m lacking named = refl
unnamed_by s true true lacking named = absurd (cc)
unnamed_by true true false lacking named = absurd (cc)
unnamed_by false true false lacking named = absurd (cc)

unspoken_by : (s n : Bool) → ((s || n) && true) ≡ false → s ≡ false
unspoken_by true n lacking = absurd (cc)
unspoken_by false n lacking = refl

no_way_lacks : (state : StateValue) (own : User) (target : ℕ) (user : User) → lacks state own target user ≡ false
    → way_to state (aims_of state own target) user LacksPermission ≡ None
no_way_lacks state own target user nothing = by_right (may state own.session (needed_for target) user.channel) refl
  where
    by_way : (o : Option (ℕ × ChannelId)) → way_to state (aims_of state own target) user LacksPermission ≡ o → may state own.session (needed_for target) user.channel ≡ true → o ≡ None
    by_way None none allowed = refl
    by_way (Some way) is allowed =
        let f = first_stops state (aims_of state own target) user false LacksPermission way is in
        absurd (false≢true
        (sym (ap (may state own.session (needed_for target)) f.at ∙ sym (may_aim state own target way.0 f.aim way.1 f.there) ∙ f.tested.1) ∙ allowed))

    by_right : (b : Bool) → may state own.session (needed_for target) user.channel ≡ b → way_to state (aims_of state own target) user LacksPermission ≡ None
    by_right true allowed = by_way (way_to state (aims_of state own target) user LacksPermission) refl allowed
    by_right false lacking =
        let some_ : Bool = is_some (way_to state (aims_of state own target) user LacksPermission) in
        let named : Bool = one_names state own target user in
        none_is (way_to state (aims_of state own target) user LacksPermission)
        (unspoken_by some_ named (sym (ap (λ (t : Bool). (some_ || named) && not t) lacking) ∙ nothing))

unreached : (state : StateValue) (own : User) (target : ℕ) (user : User) → IsProper state → IsTrue (is_there state.tree.channels own.channel)
    → IsNowhere state own target user → AreUnreached state own target user
unreached state own target user proper inside n =
    let aims : List Aimed = aims_of state own target in
    let allowed : Bool = may state own.session (needed_for target) user.channel in
    let (no_here, no_named, no_listening) = none_of_three (inside_of target) (is_some (way_to state aims user Arrives)) (one_names state own target user && allowed)
    (is_some (way_by_listening state aims user Arrives)) (context_is state own target user proper inside ∙ n.unheard) in
    record {
      here = none_is (way_to state aims user Arrives) no_here;
      listening = none_is (way_by_listening state aims user Arrives) no_listening;
      unspoken = no_way_lacks state own target user n.lacks_nothing;
      unnamed = unnamed_by (is_some (way_to state aims user LacksPermission)) (one_names state own target user) allowed n.lacks_nothing no_named;
    }

-- ---- each reason

-- a voice target that is not set has no items
no_items : (own : User) (items : List TargetItem) → eqb (length (map (item_aim own.session) items)) 0 ≡ true → items ≡ []
no_items own [] none = refl
no_items own (item ∷ items) none = let is = eqb-true (length (map (item_aim own.session) (item ∷ items))) 0 none in absurd (omega (arith, is))

unset_holds : (state : StateValue) (speaker : SessionId) (target : ℕ) (own : User) → own.session ≡ speaker → eqb (length (aims_of state own target)) 0 ≡ true
    → (target ≢ TALK) × (items_of state speaker target ≡ [])
unset_holds state speaker target own number none =
    let away : target ≢ TALK = λ talks. absurd (false≢true (sym (ap (λ (aims : List Aimed). eqb (length aims) 0) (aims_of_talk state own target talks)) ∙ none)) in (
      away,
      ap (λ (s : SessionId). items_of state s target) (sym number)
          ∙ no_items own (items_of state own.session target) (sym (ap (λ (aims : List Aimed). eqb (length aims) 0) (aims_of_items state own target away)) ∙ none),
    )

aims_hold : (state : StateValue) (speaker hearer : SessionId) (target : ℕ) (own user : User) → AreThere state speaker hearer own user → IsOpen own target user
    → ReasonHolds state speaker hearer target (by_aims state own target user)
aims_hold state speaker hearer target own user both is =
    let aims : List Aimed = aims_of state own target in
    by_ways_of (ReasonHolds state speaker hearer target) state own target user (record {
      heard = λ context found. in_route state speaker hearer target own user context both is.heard is.away is.can found;
      unset = λ on. let (talks, none) = unset_holds state speaker target own both.own_number on in (own, user, both.own_found, both.user_found, (talks, is.away, none));
      lacking = λ on.
          let (how, off) = lacking_holds state speaker hearer target own user both on in
          let cut_ = cut_given state speaker own user.channel (needed_for target) both.own_found both.user_inside
          (as_speaker state speaker hearer own user target user.channel both off) in
          (own, user, both.own_found, both.user_found, (refl, how, cut_));
      outside = λ way found.
          let f = first_stops state aims user false NoMember way found in (
            own,
            user,
            both.own_found,
            both.user_found,
            (
              f.at,
              first_outside state own target user false way f,
              λ earlier before out. first_item state own target user false way earlier way.1 found before f.at out,
            ),
          );
      unlistened = λ way found.
          let f = first_stops state aims user true LacksListen way found in
          let (covered, off) = unlistened_holds state speaker hearer target own user way both f in
          let cut_ = cut_given state hearer user way.1 LISTEN both.user_found (listened_inside state user way.1 both.proper f.at) off in
          (own, user, both.own_found, both.user_found, (f.at, covered, cut_));
      listener_outside = λ way found.
          let f = first_stops state aims user true NoMember way found in (
            own,
            user,
            both.own_found,
            both.user_found,
            (
              f.at,
              first_outside state own target user true way f,
              λ earlier other before at out. first_item state own target user true way earlier other found before at out,
            ),
          );
      unspoken = λ way found.
          let f = first_stops state aims user true LacksPermission way found in
          let off = as_speaker state speaker hearer own user target way.1 both (sym (may_aim state own target way.0 f.aim way.1 f.there) ∙ f.tested.1) in
          let cut_ = cut_given state speaker own way.1 (needed_for target) both.own_found (listened_inside state user way.1 both.proper f.at) off in
          let aimed = aimed_from state own target way.0 f.aim way.1 both.proper both.own_inside f.there f.tested.0 in
          (own, user, both.own_found, both.user_found, (f.at, aimed, cut_));
      nowhere = λ n.
          let u = unreached state own target user both.proper both.own_inside n in (
            own,
            user,
            both.own_found,
            both.user_found,
            (
              λ aimed.
                  let s = aimed_into state own target user.channel both.proper both.own_inside aimed in
                  passes state own target user false s.aim s.place user.channel s.there refl s.on u.unspoken n.outside (no_listen_here state aims user) u.here,
              λ named. false≢true (sym u.unnamed ∙ named_into state own target user named),
              λ channel listened aimed.
                  let s = aimed_into state own target channel both.proper both.own_inside aimed in
                  passes state own target user true s.aim s.place channel s.there listened s.on n.unspoken n.listener_outside n.unlistened u.listening,
            ),
          );
    })

between_holds : (state : StateValue) (speaker hearer : SessionId) (target : ℕ) (own user : User) → AreThere state speaker hearer own user
    → ReasonHolds state speaker hearer target (reason_between state own target user)
between_holds state speaker hearer target own user both =
    by_rules (ReasonHolds state speaker hearer target) state own target user (record {
      muted = λ on. (own, user, both.own_found, both.user_found, on);
      muted_itself = λ on. (own, user, both.own_found, both.user_found, on);
      suppressed = λ on. (own, user, both.own_found, both.user_found, (on, ap (λ (s : SessionId). cut_of state s own.channel SPEAK) (sym both.own_number)));
      looped = λ heard loops one. in_loopback state speaker hearer target own user Talk both heard loops one refl;
      only_loopback = λ loops off. (
        own,
        user,
        both.own_found,
        both.user_found,
        (
          loops,
          λ same. false≢true (sym off ∙ eq-eqb user.session.0 own.session.0 (ap (λ (s : SessionId). s.0) (both.user_number ∙ sym same ∙ sym both.own_number))),
        ),
      );
      itself = λ away one.
          (own, user, both.own_found, both.user_found, (away, sym both.own_number ∙ sym (same_as_own own user one) ∙ both.user_number));
      deaf = λ on. (own, user, both.own_found, both.user_found, on);
      deafened_itself = λ on. (own, user, both.own_found, both.user_found, on);
      open_ = λ is. aims_hold state speaker hearer target own user both is;
    })

pub reasons_hold : ReasonsHold
reasons_hold state speaker hearer target proper = by_own (session_of state.roster speaker) refl
  where
    by_user : (own : User) → session_of state.roster speaker ≡ Some own → (o : Option User) → session_of state.roster hearer ≡ o
        → ReasonHolds state speaker hearer target (option_map_or (reason_between state own target) o NoHearer)
    by_user own own_found None none = none
    by_user own own_found (Some user) found = between_holds state speaker hearer target own user (both_there state speaker hearer own user proper own_found found)

    by_own : (o : Option User) → session_of state.roster speaker ≡ o
        → ReasonHolds state speaker hearer target (option_map_or (λ own. option_map_or (reason_between state own target) (session_of state.roster hearer) NoHearer) o NoSpeaker)
    by_own None none = none
    by_own (Some own) found = by_user own found (session_of state.roster hearer) refl
