-- The reasons of two sessions that are there, one after the other.
use Rattle.mum_why.proofs.Common.{◌≡◌, ◌≢◌, ◌∙◌, ℕ, ◌||◌, Bool, true, false, not, cond, eqb, length, Option, Some, None, refl, sym, ap, subst, IsTrue, is_some, unwrap_or, option_map, option_map_or, option_or, and_from, and_parts, cond-false, cond_both, eqb-false, eqb-true, ne_eqb, not-true, not_from_false, or_from, or_parts, ChannelId, SessionId, Perm, LISTEN, SPEAK, Actor, is_there, path, User, session_of, has_number, actor_from, actor_in, IsProper, StateValue, policy_of, Context, Talk, LOOPBACK, can_hear, is_silent, may, needed_for, context_of, found_number, channel_there, Cut, Reason, Deaf, DeafenedItself, Heard, ItIsItself, ListenerLacks, ListenerOutsideGroup, Muted, MutedItself, NoHearer, NoSpeaker, OnlyLoopback, OutsideGroup, SpeakerLacks, SpeakerLacksAtListener, Suppressed, Uncovered, Unset, LacksListen, LacksPermission, NoMember, cut, cut_at, cut_of, aims_of, by_aims, lacks_where_it_is, left_out, reason, reason_between, way_by_listening, way_to}

-- ---- options

-- of two options the first that is there, or else a third
or_unwrapped : {X : Type 0} (a b : Option X) (c : X) → unwrap_or (option_or a b) c ≡ unwrap_or a (unwrap_or b c)
or_unwrapped None b c = refl
or_unwrapped (Some x) b c = refl

chosen_unwrapped : {X : Type 0} (t : Bool) (x : X) (o : Option X) (y : X) → unwrap_or (cond t (Some x) o) y ≡ cond t x (unwrap_or o y)
chosen_unwrapped true x o y = refl
chosen_unwrapped false x o y = refl

-- what holds where an option is there, and where it is not
pub option_both : {X Y : Type 0} (o : Option X) (f : X → Y) (y : Y) (P : Y → Type 0) → ((x : X) → o ≡ Some x → P (f x)) → (o ≡ None → P y) → P (option_map_or f o y)
option_both None f y P some none = none refl
option_both (Some x) f y P some none = some x refl

pub mapped_both : {X Y : Type 0} (o : Option X) (f : X → Y) (y : Y) (P : Y → Type 0) → ((x : X) → o ≡ Some x → P (f x)) → (o ≡ None → P y) → P (unwrap_or (option_map f o) y)
mapped_both None f y P some none = none refl
mapped_both (Some x) f y P some none = some x refl

pub none_is : {X : Type 0} (o : Option X) → is_some o ≡ false → o ≡ None
none_is None off = refl
none_is (Some x) off = absurd (cc)

pub some_is : {X : Type 0} (o : Option X) → is_some o ≡ true → (x : X) × (o ≡ Some x)
some_is None on = absurd (cc)
some_is (Some x) on = (x, refl)

pub some_unless : {X : Type 0} (o : Option X) → (o ≡ None → ⊥) → (x : X) × (o ≡ Some x)
some_unless None never = absurd (never refl)
some_unless (Some x) never = (x, refl)

-- ---- the first rule that applies

abbrev pub silence_by : Bool → Bool → Bool → Option Cut → Option Reason
silence_by mute self_mute suppress cut = cond mute (Some Muted) (cond self_mute (Some MutedItself) (cond suppress (Some (Suppressed cut)) None))

abbrev pub apart_by : Bool → Bool → Bool → Bool → Option Reason
apart_by loops same deaf self_deaf =
    cond loops (Some (cond same (Heard Talk) OnlyLoopback)) (cond same (Some ItIsItself) (cond deaf (Some Deaf) (cond self_deaf (Some DeafenedItself) None)))

-- the rules in their order
abbrev pub ladder : Bool → Bool → Bool → Option Cut → Bool → Bool → Bool → Bool → Reason → Reason
ladder mute self_mute suppress cut loops same deaf self_deaf rest =
    cond mute Muted (cond self_mute MutedItself (cond suppress (Suppressed cut)
    (cond loops (cond same (Heard Talk) OnlyLoopback) (cond same ItIsItself (cond deaf Deaf (cond self_deaf DeafenedItself rest))))))

in_order : (m s p : Bool) (cut : Option Cut) (l e d f : Bool) (rest : Reason)
    → unwrap_or (option_or (silence_by m s p cut) (apart_by l e d f)) rest ≡ ladder m s p cut l e d f rest
in_order true s p cut l e d f rest = refl
in_order false true p cut l e d f rest = refl
in_order false false true cut l e d f rest = refl
in_order false false false cut true e d f rest = refl
in_order false false false cut false true d f rest = refl
in_order false false false cut false false true f rest = refl
in_order false false false cut false false false true rest = refl
in_order false false false cut false false false false rest = refl

-- what takes Speak away from the speaker where it is
abbrev pub silencing : StateValue → User → Option Cut
silencing state own = cut_of state own.session own.channel SPEAK

pub between_is : (state : StateValue) (own : User) (target : ℕ) (user : User)
    → reason_between state own target user
    ≡ ladder own.mute own.self_mute own.suppress (silencing state own) (eqb target LOOPBACK) (has_number own.session user) user.deaf user.self_deaf (by_aims state own target user)
between_is state own target user =
    in_order own.mute own.self_mute own.suppress (silencing state own) (eqb target LOOPBACK) (has_number own.session user) user.deaf user.self_deaf (by_aims state own target user)

-- the aims decide
pub record IsOpen (own : User) (target : ℕ) (user : User) : Type 0 where
  pub heard : is_silent own ≡ false
  pub away : target ≢ LOOPBACK
  pub can : can_hear own.session user ≡ true

pub open_is : (state : StateValue) (own : User) (target : ℕ) (user : User) → IsOpen own target user → reason_between state own target user ≡ by_aims state own target user
open_is state own target user is =
    let (two, p) = or_parts (own.mute || own.self_mute) own.suppress is.heard in
    let (m, s) = or_parts own.mute own.self_mute two in
    let (other, hears) = and_parts (not (has_number own.session user)) (not (user.deaf || user.self_deaf)) is.can in
    let (d, f) = or_parts user.deaf user.self_deaf (not-true (user.deaf || user.self_deaf) hears) in
    let e = not-true (has_number own.session user) other in
    between_is state own target user
    ∙ cond-false own.mute Muted _ m
    ∙ cond-false own.self_mute MutedItself _ s
    ∙ cond-false own.suppress (Suppressed (silencing state own)) _ p
    ∙ cond-false (eqb target LOOPBACK) (cond (has_number own.session user) (Heard Talk) OnlyLoopback) _ (ne_eqb target LOOPBACK is.away)
    ∙ cond-false (has_number own.session user) ItIsItself _ e
    ∙ cond-false user.deaf Deaf _ d
    ∙ cond-false user.self_deaf DeafenedItself (by_aims state own target user) f

-- what holds of each rule's reason holds of the reason
pub record EachRule (P : Reason → Type 0) (state : StateValue) (own : User) (target : ℕ) (user : User) : Type 0 where
  pub muted : own.mute ≡ true → P Muted
  pub muted_itself : own.self_mute ≡ true → P MutedItself
  pub suppressed : own.suppress ≡ true → P (Suppressed (silencing state own))
  pub looped : is_silent own ≡ false → target ≡ LOOPBACK → has_number own.session user ≡ true → P (Heard Talk)
  pub only_loopback : target ≡ LOOPBACK → has_number own.session user ≡ false → P OnlyLoopback
  pub itself : target ≢ LOOPBACK → has_number own.session user ≡ true → P ItIsItself
  pub deaf : user.deaf ≡ true → P Deaf
  pub deafened_itself : user.self_deaf ≡ true → P DeafenedItself
  pub open_ : IsOpen own target user → P (by_aims state own target user)

pub by_rules : (P : Reason → Type 0) (state : StateValue) (own : User) (target : ℕ) (user : User) → EachRule P state own target user → P (reason_between state own target user)
by_rules P state own target user each =
    subst P (sym (between_is state own target user))
    (cond_both own.mute Muted _ P each.muted (λ m.
    cond_both own.self_mute MutedItself _ P each.muted_itself (λ s.
    cond_both own.suppress (Suppressed (silencing state own)) _ P each.suppressed (λ p.
    let heard : is_silent own ≡ false = or_from (own.mute || own.self_mute) own.suppress (or_from own.mute own.self_mute m s) p in
    cond_both (eqb target LOOPBACK) _ _ P
    (λ l.
    cond_both (has_number own.session user) (Heard Talk) OnlyLoopback P
    (each.looped heard (eqb-true target LOOPBACK l)) (each.only_loopback (eqb-true target LOOPBACK l)))
    (λ l.
    cond_both (has_number own.session user) ItIsItself _ P (each.itself (eqb-false target LOOPBACK l)) (λ e.
    cond_both user.deaf Deaf _ P each.deaf (λ d.
    cond_both user.self_deaf DeafenedItself (by_aims state own target user) P each.deafened_itself (λ f.
    each.open_ (record {
      heard = heard;
      away = eqb-false target LOOPBACK l;
      can = and_from (not (has_number own.session user)) (not (user.deaf || user.self_deaf)) (not_from_false (has_number own.session user) e)
          (not_from_false (user.deaf || user.self_deaf) (or_from user.deaf user.self_deaf d f));
    })))))))))

-- ---- the reasons of the aims

-- the ways of the aims by which a session is left out
abbrev pub outside_way : StateValue → User → ℕ → User → Option (ℕ × ChannelId)
outside_way state own target user = way_to state (aims_of state own target) user NoMember

abbrev pub unlistened_way : StateValue → User → ℕ → User → Option (ℕ × ChannelId)
unlistened_way state own target user = way_by_listening state (aims_of state own target) user LacksListen

abbrev pub listener_outside_way : StateValue → User → ℕ → User → Option (ℕ × ChannelId)
listener_outside_way state own target user = way_by_listening state (aims_of state own target) user NoMember

abbrev pub unspoken_way : StateValue → User → ℕ → User → Option (ℕ × ChannelId)
unspoken_way state own target user = way_by_listening state (aims_of state own target) user LacksPermission

abbrev pub lacks : StateValue → User → ℕ → User → Bool
lacks state own target user = lacks_where_it_is state own target (aims_of state own target) user

-- the reasons in their order
abbrev pub left_by : StateValue → User → ℕ → User → Bool → Bool → Option (ℕ × ChannelId) → Option (ℕ × ChannelId) → Option (ℕ × ChannelId) → Option (ℕ × ChannelId) → Reason
left_by state own target user unset lacking outside unlistened listener_outside unspoken =
    cond unset Unset (cond lacking (SpeakerLacks user.channel (cut_at state own user.channel (needed_for target)))
    (unwrap_or (option_map (λ way. OutsideGroup way.0 way.1) outside)
    (unwrap_or (option_map (λ way. ListenerLacks way.1 (cut_at state user way.1 LISTEN)) unlistened)
    (unwrap_or (option_map (λ way. ListenerOutsideGroup way.0 way.1) listener_outside)
    (unwrap_or (option_map (λ way. SpeakerLacksAtListener way.1 (cut_at state own way.1 (needed_for target))) unspoken) Uncovered)))))

pub left_is : (state : StateValue) (own : User) (target : ℕ) (user : User)
    → left_out state own target (aims_of state own target) user
    ≡ left_by state own target user (eqb (length (aims_of state own target)) 0) (lacks state own target user) (outside_way state own target user)
    (unlistened_way state own target user) (listener_outside_way state own target user) (unspoken_way state own target user)
left_is state own target user =
    let lacking : Reason = SpeakerLacks user.channel (cut_at state own user.channel (needed_for target)) in
    let outside : Option Reason = option_map (λ way. OutsideGroup way.0 way.1) (outside_way state own target user) in
    let unlistened : Option Reason = option_map (λ way. ListenerLacks way.1 (cut_at state user way.1 LISTEN)) (unlistened_way state own target user) in
    let listener_outside : Option Reason = option_map (λ way. ListenerOutsideGroup way.0 way.1) (listener_outside_way state own target user) in
    let unspoken : Option Reason = option_map (λ way. SpeakerLacksAtListener way.1 (cut_at state own way.1 (needed_for target))) (unspoken_way state own target user) in
    ap (λ (r : Reason). cond (eqb (length (aims_of state own target)) 0) Unset r)
    (or_unwrapped (cond (lacks state own target user) (Some lacking) outside) (option_or unlistened (option_or listener_outside unspoken)) Uncovered
    ∙ chosen_unwrapped (lacks state own target user) lacking outside (unwrap_or (option_or unlistened (option_or listener_outside unspoken)) Uncovered)
    ∙ ap (λ (r : Reason). cond (lacks state own target user) lacking (unwrap_or outside r))
    (or_unwrapped unlistened (option_or listener_outside unspoken) Uncovered
    ∙ ap (unwrap_or unlistened) (or_unwrapped listener_outside unspoken Uncovered)))

-- nothing is aimed at the session
pub record IsNowhere (state : StateValue) (own : User) (target : ℕ) (user : User) : Type 0 where
  pub unheard : context_of state own target user ≡ None
  pub lacks_nothing : lacks state own target user ≡ false
  pub outside : outside_way state own target user ≡ None
  pub unlistened : unlistened_way state own target user ≡ None
  pub listener_outside : listener_outside_way state own target user ≡ None
  pub unspoken : unspoken_way state own target user ≡ None

-- what holds of the reason of each way holds of the reason
pub record EachWay (P : Reason → Type 0) (state : StateValue) (own : User) (target : ℕ) (user : User) : Type 0 where
  pub heard : (context : Context) → context_of state own target user ≡ Some context → P (Heard context)
  pub unset : eqb (length (aims_of state own target)) 0 ≡ true → P Unset
  pub lacking : lacks state own target user ≡ true → P (SpeakerLacks user.channel (cut_at state own user.channel (needed_for target)))
  pub outside : (way : ℕ × ChannelId) → outside_way state own target user ≡ Some way → P (OutsideGroup way.0 way.1)
  pub unlistened : (way : ℕ × ChannelId) → unlistened_way state own target user ≡ Some way → P (ListenerLacks way.1 (cut_at state user way.1 LISTEN))
  pub listener_outside : (way : ℕ × ChannelId) → listener_outside_way state own target user ≡ Some way → P (ListenerOutsideGroup way.0 way.1)
  pub unspoken : (way : ℕ × ChannelId) → unspoken_way state own target user ≡ Some way → P (SpeakerLacksAtListener way.1 (cut_at state own way.1 (needed_for target)))
  pub nowhere : IsNowhere state own target user → P Uncovered

pub by_ways_of : (P : Reason → Type 0) (state : StateValue) (own : User) (target : ℕ) (user : User) → EachWay P state own target user → P (by_aims state own target user)
by_ways_of P state own target user each =
    option_both (context_of state own target user) Heard (left_out state own target (aims_of state own target) user) P each.heard (λ unheard.
    subst P (sym (left_is state own target user))
    (cond_both (eqb (length (aims_of state own target)) 0) Unset _ P each.unset (λ set_.
    cond_both (lacks state own target user) (SpeakerLacks user.channel (cut_at state own user.channel (needed_for target))) _ P each.lacking (λ may_.
    mapped_both (outside_way state own target user) (λ way. OutsideGroup way.0 way.1) _ P each.outside (λ outside.
    mapped_both (unlistened_way state own target user) (λ way. ListenerLacks way.1 (cut_at state user way.1 LISTEN)) _ P each.unlistened (λ unlistened.
    mapped_both (listener_outside_way state own target user) (λ way. ListenerOutsideGroup way.0 way.1) _ P each.listener_outside (λ listener_outside.
    mapped_both (unspoken_way state own target user) (λ way. SpeakerLacksAtListener way.1 (cut_at state own way.1 (needed_for target))) Uncovered P each.unspoken (λ unspoken.
    each.nowhere (record {
      unheard = unheard;
      lacks_nothing = may_;
      outside = outside;
      unlistened = unlistened;
      listener_outside = listener_outside;
      unspoken = unspoken;
    })))))))))

-- ---- two sessions that are there

pub record AreThere (state : StateValue) (speaker hearer : SessionId) (own user : User) : Type 0 where
  pub proper : IsProper state
  pub own_found : session_of state.roster speaker ≡ Some own
  pub user_found : session_of state.roster hearer ≡ Some user
  pub own_number : own.session ≡ speaker
  pub user_number : user.session ≡ hearer
  pub own_inside : IsTrue (is_there state.tree.channels own.channel)
  pub user_inside : IsTrue (is_there state.tree.channels user.channel)

pub both_there : (state : StateValue) (speaker hearer : SessionId) (own user : User) → IsProper state → session_of state.roster speaker ≡ Some own
    → session_of state.roster hearer ≡ Some user → AreThere state speaker hearer own user
both_there state speaker hearer own user proper own_found user_found = record {
  proper = proper;
  own_found = own_found;
  user_found = user_found;
  own_number = found_number state.roster.sessions speaker own own_found;
  user_number = found_number state.roster.sessions hearer user user_found;
  own_inside = channel_there state speaker own proper own_found;
  user_inside = channel_there state hearer user proper user_found;
}

pub reason_is : (state : StateValue) (speaker hearer : SessionId) (target : ℕ) (own user : User) → session_of state.roster speaker ≡ Some own
    → session_of state.roster hearer ≡ Some user → reason state speaker hearer target ≡ reason_between state own target user
reason_is state speaker hearer target own user own_found user_found =
    ap (λ (o : Option User). option_map_or (λ one. option_map_or (reason_between state one target) (session_of state.roster hearer) NoHearer) o NoSpeaker) own_found
    ∙ ap (λ (o : Option User). option_map_or (reason_between state own target) o NoHearer) user_found

-- what takes a permission away from a session that lacks it in a channel that is there
pub cut_given : (state : StateValue) (session : SessionId) (user : User) (channel : ChannelId) (permission : Perm) → session_of state.roster session ≡ Some user
    → IsTrue (is_there state.tree.channels channel) → may state session permission channel ≡ false
    → cut_of state session channel permission ≡ Some (cut_at state user channel permission)
cut_given state session user channel permission found there off =
    let taken : Actor → Cut = λ who. cut (policy_of state) (path state.tree.channels channel) who permission.0 in
    ap (λ (b : Bool). cond b None (option_map taken (actor_in state session channel))) off
    ∙ ap (λ (b : Bool). option_map taken (cond b (option_map (actor_from state.tree) (session_of state.roster session)) None)) there
    ∙ ap (λ (o : Option User). option_map taken (option_map (actor_from state.tree) o)) found

-- and from one that it is taken from, it is lacking
pub lacking_where_cut : (state : StateValue) (session : SessionId) (channel : ChannelId) (permission : Perm) (found : Cut)
    → cut_of state session channel permission ≡ Some found → may state session permission channel ≡ false
lacking_where_cut state session channel permission found given =
    by_held (may state session permission channel) (option_map (λ who. cut (policy_of state) (path state.tree.channels channel) who permission.0) (actor_in state session channel)) given
  where
    by_held : (b : Bool) (o : Option Cut) → cond b None o ≡ Some found → b ≡ false
    by_held true o is = absurd (cc)
    by_held false o is = refl
