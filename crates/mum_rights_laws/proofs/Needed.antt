-- Of needs that are all met, each is a permission that the actor has.
use Rattle.mum_rights_laws.proofs.Common.{◌≡◌, ℕ, ◌&&◌, ◌||◌, Bool, true, false, cond, List, [], ◌∷◌, ◌++◌, map, Some, None, refl, ap, sym, ◌∙◌, All, option_map_or, All-cons, All-head, All-nil, All-tail, ChannelId, Perm, holds, is_there, User, actor_with, granted_to, StateValue, Need, is_met, is_open, need, way, AllMet, may_with}

pub or_none : (a : Bool) → (a || false) ≡ true → a ≡ true
or_none true on = refl
or_none false on = cc

or_end : (a b : Bool) → (a || (b || false)) ≡ (a || b)
or_end true b = refl
or_end false true = refl
or_end false false = refl

-- a way that is open is a permission that is had
pub open_is : (state : StateValue) (user : User) (tokens : List (List ℕ)) (perm : Perm) (channel : ChannelId)
    → is_open state (way (actor_with state.tree user tokens) perm channel) ≡ may_with state user tokens perm channel
unfolding is_open
open_is state user tokens perm channel = step (is_there state.tree.channels channel)
  where
    step : (there : Bool) → option_map_or (λ held. holds held perm.0) (cond there (Some (granted_to state (actor_with state.tree user tokens) channel)) None) false
        ≡ (there && holds (granted_to state (actor_with state.tree user tokens) channel) perm.0)
    step true = refl
    step false = refl

pub met_left : (state : StateValue) (needs others : List Need) → AllMet state (needs ++ others) → AllMet state needs
met_left state [] others met = All-nil (λ wanted. is_met state wanted ≡ true)
met_left state (wanted ∷ needs) others met =
    All-cons (λ w. is_met state w ≡ true) wanted needs (All-head (λ w. is_met state w ≡ true) wanted (needs ++ others) met)
    (met_left state needs others (All-tail (λ w. is_met state w ≡ true) wanted (needs ++ others) met))

pub met_right : (state : StateValue) (needs others : List Need) → AllMet state (needs ++ others) → AllMet state others
met_right state [] others met = met
met_right state (wanted ∷ needs) others met = met_right state needs others (All-tail (λ w. is_met state w ≡ true) wanted (needs ++ others) met)

pub met_tail : (state : StateValue) (wanted : Need) (needs : List Need) → AllMet state (wanted ∷ needs) → AllMet state needs
met_tail state wanted needs met = All-tail (λ w. is_met state w ≡ true) wanted needs met

module _ (state : StateValue) (user : User) (tokens : List (List ℕ)) where
  -- the first need, if it has one way
  pub had : (perm : Perm) (channel : ChannelId) (needs : List Need)
      → AllMet state (need (actor_with state.tree user tokens) perm channel ∷ needs) → may_with state user tokens perm channel ≡ true
  had perm channel needs met =
      sym (open_is state user tokens perm channel)
      ∙ or_none (is_open state (way (actor_with state.tree user tokens) perm channel))
      (All-head (λ w. is_met state w ≡ true) (need (actor_with state.tree user tokens) perm channel) needs met)

  -- the first need, if it has two
  pub either_had : (first second : Perm) (one other : ChannelId) (needs : List Need)
      → AllMet state (record { first = way (actor_with state.tree user tokens) first one; others = way (actor_with state.tree user tokens) second other ∷ [] } ∷ needs)
      → (may_with state user tokens first one || may_with state user tokens second other) ≡ true
  either_had first second one other needs met =
      let who = actor_with state.tree user tokens in
      ap (λ (b : Bool). b || may_with state user tokens second other) (sym (open_is state user tokens first one))
      ∙ ap (λ (b : Bool). is_open state (way who first one) || b) (sym (open_is state user tokens second other))
      ∙ sym (or_end (is_open state (way who first one)) (is_open state (way who second other)))
      ∙ All-head (λ w. is_met state w ≡ true) (record { first = way who first one; others = way who second other ∷ [] }) needs met

  -- one permission in each of these channels
  pub each_had : (perm : Perm) (channels : List ChannelId) → AllMet state (map (need (actor_with state.tree user tokens) perm) channels)
      → All (λ channel. may_with state user tokens perm channel ≡ true) channels
  each_had perm [] met = All-nil (λ channel. may_with state user tokens perm channel ≡ true)
  each_had perm (channel ∷ channels) met =
      let who = actor_with state.tree user tokens in
      All-cons (λ c. may_with state user tokens perm c ≡ true) channel channels (had perm channel (map (need who perm) channels) met)
      (each_had perm channels (met_tail state (need who perm channel) (map (need who perm) channels) met))
