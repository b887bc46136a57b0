-- Who is heard, by its reason and by the route.
use Rattle.mum_why.proofs.Common.{◌≡◌, ◌≢◌, ◌∙◌, ℕ, zero, suc, ◌||◌, Bool, true, false, cond, eqb, List, [], ◌∷◌, get_or, Option, Some, None, refl, sym, ap, subst, arith, ⊎_elim, Contains, option_map_or, cases_eq, eq-eqb, eqb-true, All-contains, Contains-get_or, SessionId, none_contained, User, session_of, has_number, IsProper, StateValue, Context, ChannelWhisper, DirectWhisper, Listener, Talk, LOOPBACK, heard_as, code, can_hear, is_silent, Member, context_of, member_by, route, IsHearing, each_hearing, found_number, found_own, members_contain, route_of_heard, route_of_loopback, route_of_none, route_of_silent, Reason, Heard, NoHearer, NoSpeaker, OnlyLoopback, by_aims, left_out, aims_of, reason, reason_between, ReasonsAreRoutes}
use Rattle.mum_why.proofs.{Reasons.AreThere, Reasons.both_there, Reasons.by_rules, Reasons.by_ways_of, Reasons.ladder, Reasons.open_is, Reasons.reason_is, Reasons.between_is, Reasons.silencing, Reasons.IsOpen, Stops.find_from}

-- ---- the numbers of contexts

context_at : ℕ → Context
context_at n = cond (eqb n 0) Talk (cond (eqb n 1) ChannelWhisper (cond (eqb n 2) DirectWhisper Listener))

at_code : (context : Context) → context_at (code context) ≡ context
unfolding context_at
at_code Talk = refl
at_code ChannelWhisper = refl
at_code DirectWhisper = refl
at_code Listener = refl

same_code : (a b : Context) → code a ≡ code b → a ≡ b
same_code a b same = sym (at_code a) ∙ ap context_at same ∙ at_code b

-- ---- whose reason is that it hears is in the route

abbrev HeardIsRouted : StateValue → SessionId → SessionId → ℕ → Reason → Type 0
HeardIsRouted state speaker hearer target r = (context : Context) → r ≡ Heard context → Contains (route state speaker target) (hearer, code context)

pub in_route : (state : StateValue) (speaker hearer : SessionId) (target : ℕ) (own user : User) (context : Context) → AreThere state speaker hearer own user
    → is_silent own ≡ false → target ≢ LOOPBACK → can_hear own.session user ≡ true → context_of state own target user ≡ Some context
    → Contains (route state speaker target) (hearer, code context)
in_route state speaker hearer target own user context both heard away can is =
    let there : Contains state.roster.sessions user = (find_from (has_number hearer) state.roster.sessions user both.user_found).0 in
    let reach : heard_as state own target user ≡ Some context = ap (λ (b : Bool). cond b (context_of state own target user) None) can ∙ is in
    subst (λ (s : SessionId). Contains (route state speaker target) (s, code context)) both.user_number
    (subst (λ (ms : List Member). Contains ms (member_by user context)) (sym (route_of_heard state speaker target own away both.own_found heard))
    (members_contain (heard_as state own target) state.roster.sessions user context there reach))

pub same_as_own : (own user : User) → has_number own.session user ≡ true → user.session ≡ own.session
same_as_own own user same = ap (λ n. let s : SessionId = record { 0 = n } in s) (eqb-true user.session.0 own.session.0 same)

pub in_loopback : (state : StateValue) (speaker hearer : SessionId) (target : ℕ) (own user : User) (context : Context) → AreThere state speaker hearer own user
    → is_silent own ≡ false → target ≡ LOOPBACK → has_number own.session user ≡ true → Talk ≡ context → Contains (route state speaker target) (hearer, code context)
in_loopback state speaker hearer target own user context both heard loops same is =
    let one : own.session ≡ hearer = sym (same_as_own own user same) ∙ both.user_number in
    let alone : route state speaker target ≡ (own.session, 0) ∷ [] = ap (route state speaker) loops ∙ route_of_loopback state speaker own both.own_found heard in
    let first : Contains ((own.session, 0) ∷ []) (own.session, 0) = (0, omega arith, refl) in
    subst (λ (s : SessionId). Contains (route state speaker target) (s, code context)) one
    (subst (λ (c : Context). Contains (route state speaker target) (own.session, code c)) is
    (subst (λ (ms : List Member). Contains ms (own.session, 0)) (sym alone) first))

aims_routed : (state : StateValue) (speaker hearer : SessionId) (target : ℕ) (own user : User) → AreThere state speaker hearer own user → IsOpen own target user
    → HeardIsRouted state speaker hearer target (by_aims state own target user)
aims_routed state speaker hearer target own user both is =
    by_ways_of (HeardIsRouted state speaker hearer target) state own target user (record {
      heard = λ context found other same.
          let one : context ≡ other = cc in
          subst (λ (c : Context). Contains (route state speaker target) (hearer, code c)) one
          (in_route state speaker hearer target own user context both is.heard is.away is.can found);
      unset = λ on context same. absurd (cc);
      lacking = λ on context same. absurd (cc);
      outside = λ way found context same. absurd (cc);
      unlistened = λ way found context same. absurd (cc);
      listener_outside = λ way found context same. absurd (cc);
      unspoken = λ way found context same. absurd (cc);
      nowhere = λ none context same. absurd (cc);
    })

between_routed : (state : StateValue) (speaker hearer : SessionId) (target : ℕ) (own user : User) → AreThere state speaker hearer own user
    → HeardIsRouted state speaker hearer target (reason_between state own target user)
between_routed state speaker hearer target own user both =
    by_rules (HeardIsRouted state speaker hearer target) state own target user (record {
      muted = λ on context same. absurd (cc);
      muted_itself = λ on context same. absurd (cc);
      suppressed = λ on context same. absurd (cc);
      looped = λ heard loops one context same. in_loopback state speaker hearer target own user context both heard loops one (cc);
      only_loopback = λ loops one context same. absurd (cc);
      itself = λ away one context same. absurd (cc);
      deaf = λ on context same. absurd (cc);
      deafened_itself = λ on context same. absurd (cc);
      open_ = λ is. aims_routed state speaker hearer target own user both is;
    })

pub heard_is_routed : (state : StateValue) (speaker hearer : SessionId) (target : ℕ) → IsProper state
    → HeardIsRouted state speaker hearer target (reason state speaker hearer target)
heard_is_routed state speaker hearer target proper = by_own (session_of state.roster speaker) refl
  where
    by_user : (own : User) → session_of state.roster speaker ≡ Some own → (o : Option User) → session_of state.roster hearer ≡ o
        → HeardIsRouted state speaker hearer target (option_map_or (reason_between state own target) o NoHearer)
    by_user own own_found None none = λ context same. absurd (cc)
    by_user own own_found (Some user) found = between_routed state speaker hearer target own user (both_there state speaker hearer own user proper own_found found)

    by_own : (o : Option User) → session_of state.roster speaker ≡ o
        → HeardIsRouted state speaker hearer target (option_map_or (λ own. option_map_or (reason_between state own target) (session_of state.roster hearer) NoHearer) o NoSpeaker)
    by_own None none = λ context same. absurd (cc)
    by_own (Some own) found = by_user own found (session_of state.roster hearer) refl

-- ---- who is in the route hears

-- a member of a route, with whom it hears
pub record IsMember (state : StateValue) (speaker : SessionId) (target : ℕ) (member : Member) : Type 0 where
  pub own : User
  pub user : User
  pub context : Context
  pub hearing : IsHearing state speaker target own user context
  pub is : member ≡ member_by user context

audible : (state : StateValue) (speaker : SessionId) (target : ℕ) (own : User) (member : Member) → session_of state.roster speaker ≡ Some own
    → Contains (route state speaker target) member → is_silent own ≡ false
audible state speaker target own member found has = by_silence (is_silent own) refl
  where
    by_silence : (b : Bool) → is_silent own ≡ b → b ≡ false
    by_silence true silent = absurd (none_contained member (subst (λ (ms : List Member). Contains ms member) (route_of_silent state speaker target own found silent) has))
    by_silence false heard = refl

member_of_route : (state : StateValue) (speaker : SessionId) (target : ℕ) (member : Member) → target ≢ LOOPBACK → Contains (route state speaker target) member
    → IsMember state speaker target member
member_of_route state speaker target member away has =
    All-contains (IsMember state speaker target) (route state speaker target) member
    (each_hearing state speaker target (IsMember state speaker target) away
    (λ own user context is. record { own = own; user = user; context = context; hearing = is; is = refl }))
    has

-- the reason of a member
heard_where : (state : StateValue) (speaker : SessionId) (target : ℕ) (own user : User) (context : Context) → IsProper state → target ≢ LOOPBACK
    → is_silent own ≡ false → IsHearing state speaker target own user context → reason state speaker user.session target ≡ Heard context
heard_where state speaker target own user context proper away heard is =
    reason_is state speaker user.session target own user is.found (found_own state user proper is.there)
    ∙ open_is state own target user (record { heard = heard; away = away; can = is.can })
    ∙ ap (λ (o : Option Context). option_map_or Heard o (left_out state own target (aims_of state own target) user)) is.is

-- by loopback the speaker hears itself
looped_is : (state : StateValue) (speaker : SessionId) (own : User) → session_of state.roster speaker ≡ Some own → is_silent own ≡ false
    → reason state speaker speaker LOOPBACK ≡ Heard Talk
looped_is state speaker own found heard =
    reason_is state speaker speaker LOOPBACK own own found found
    ∙ between_is state own LOOPBACK own
    ∙ by_flags own.mute own.self_mute own.suppress heard
    ∙ ap (λ (e : Bool). cond e (Heard Talk) OnlyLoopback) (eq-eqb own.session.0 own.session.0 refl)
  where
    by_flags : (m s p : Bool) → ((m || s) || p) ≡ false
        → ladder m s p (silencing state own) true (has_number own.session own) own.deaf own.self_deaf (by_aims state own LOOPBACK own)
        ≡ cond (has_number own.session own) (Heard Talk) OnlyLoopback
    by_flags true s p on = absurd (cc)
    by_flags false true p on = absurd (cc)
    by_flags false false true on = absurd (cc)
    by_flags false false false off = refl

-- the members of a route by loopback
pub record IsLooped (state : StateValue) (speaker : SessionId) (member : Member) : Type 0 where
  pub own : User
  pub found : session_of state.roster speaker ≡ Some own
  pub heard : is_silent own ≡ false
  pub session : member.0 ≡ speaker
  pub number : member.1 ≡ 0

looped_member : (state : StateValue) (speaker : SessionId) (member : Member) → Contains (route state speaker LOOPBACK) member → IsLooped state speaker member
looped_member state speaker member has = by_own (session_of state.roster speaker) refl
  where
    only : (x y : Member) → Contains (x ∷ []) y → x ≡ y
    only x y (zero, within, is) = is
    only x y (suc k, within, is) = absurd (omega arith)

    by_own : (o : Option User) → session_of state.roster speaker ≡ o → IsLooped state speaker member
    by_own None none = absurd (none_contained member (subst (λ (ms : List Member). Contains ms member) (route_of_none state speaker LOOPBACK none) has))
    by_own (Some own) found =
        let heard = audible state speaker LOOPBACK own member found has in
        let same : (own.session, 0) ≡ member = only (own.session, 0) member (subst (λ (ms : List Member). Contains ms member) (route_of_loopback state speaker own found heard) has) in
        record {
          own = own;
          found = found;
          heard = heard;
          session = sym (ap (λ (m : Member). m.0) same) ∙ found_number state.roster.sessions speaker own found;
          number = sym (ap (λ (m : Member). m.1) same);
        }

-- a member hears in the context whose number it has
pub routed_is_heard : (state : StateValue) (speaker : SessionId) (target : ℕ) (member : Member) → IsProper state → Contains (route state speaker target) member
    → (context : Context) × (member.1 ≡ code context) × (reason state speaker member.0 target ≡ Heard context)
routed_is_heard state speaker target member proper has =
    ⊎_elim
    (λ (loops : target ≡ LOOPBACK).
    let l = looped_member state speaker member (subst (λ (n : ℕ). Contains (route state speaker n) member) loops has) in (
      Talk,
      l.number,
      ap (λ (n : ℕ). reason state speaker member.0 n) loops ∙ ap (λ (s : SessionId). reason state speaker s LOOPBACK) l.session ∙ looped_is state speaker l.own l.found l.heard,
    ))
    (λ (away : target ≢ LOOPBACK).
    let m = member_of_route state speaker target member away has in
    let heard = audible state speaker target m.own member m.hearing.found has in (
      m.context,
      ap (λ (one : Member). one.1) m.is,
      ap (λ (one : Member). reason state speaker one.0 target) m.is ∙ heard_where state speaker target m.own m.user m.context proper away heard m.hearing,
    ))
    (cases_eq target LOOPBACK)

pub reasons_are_routes : ReasonsAreRoutes
reasons_are_routes state speaker hearer target proper = (
  λ context. (
    heard_is_routed state speaker hearer target proper context,
    λ has.
        let (found, number, is) = routed_is_heard state speaker target (hearer, code context) proper has in
        is ∙ ap (λ (c : Context). Heard c) (same_code found context (sym number)),
  ),
  (
    λ never.
        (λ k d within same.
        let member : Member = get_or (route state speaker target) k d in
        let (context, number, is) = routed_is_heard state speaker target member proper (Contains-get_or (route state speaker target) k d within) in
        never context (ap (λ (s : SessionId). reason state speaker s target) (sym same) ∙ is)),
    λ all context is. All-contains (λ (member : Member). member.0 ≢ hearer) (route state speaker target) (hearer, code context) all
        (heard_is_routed state speaker hearer target proper context is) refl,
  ),
)
